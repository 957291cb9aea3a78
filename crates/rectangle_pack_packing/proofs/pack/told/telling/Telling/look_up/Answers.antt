use Rattle.rectangle_pack_sections.proofs.Std.{◌<◌, ◌≡◌, length, lookup, is_at, Some, option_copied, option_map, sym, ap, ◌∙◌}
use Rattle.std.proofs.lemmas.Map.Views.{IfSome-lookup_from_All}
use Rattle.rectangle_pack_sections.specs.Groups.{HaveSizes, lists_of}
use Rattle.rectangle_pack_sections.proofs.lemmas.groups.Lists.{list-found, lookup-lists}
use Rattle.rectangle_pack_packing.specs.private.ToldOnItsWay.{IsKnown}
use Rattle.rectangle_pack_packing.proofs.lemmas.packing.StepsMade.{sizes-found}
use Rattle.rectangle_pack_packing.proofs.pack.told.telling.Telling.look_up.Given.{Over}
use Rattle.rectangle_pack_packing.proofs.pack.told.telling.Telling.look_up.Goals.{After-index_of}
use Rattle.rectangle_pack_packing.proofs.pack.told.telling.Telling.look_up.Goals.at as goal_at
use Rattle.rectangle_pack_packing.proofs.pack.told.telling.Telling.look_up.Goals as goal

-- the group has these ids
found : (g : Over) (c : After-index_of g) → lookup (is_at (g.K.Ord.cmp c.args.group.now)) (lists_of c.self.inside.lists.now.entries) ≡ Some c.in-Some.ids.now.items
found g c =
    list-found (is_at (g.K.Ord.cmp c.args.group.now)) c.self.inside.lists.now.entries c.in-Some.ids.now
    (sym c.get.ensures.value ∙ ap option_copied c.in-Some.is)

-- and each of them has a size
known : (g : Over) (c : After-index_of g) → IsKnown g.K.Ord.cmp g.Id.Ord.cmp g.B.Ord.cmp c.args.self.now c.args.group.now
known g c =
    let sized = rw (found g c) at (IfSome-lookup_from_All (λ ids. (0 < length ids) × HaveSizes g.Id.Ord.cmp c.self.inside.rects.now.entries ids)
    (is_at (g.K.Ord.cmp c.args.group.now)) (lists_of c.self.inside.lists.now.entries) c.self.invariant.sized) in
    let sizes = sizes-found g.Id.Ord.cmp c.self.inside.rects.now.entries c.in-Some.ids.now.items sized.1 in
    rw (← c.self.view_is) (record { ids = c.in-Some.ids.now.items; sizes = sizes.0 }, record { ids = found g c; sizes = sizes.1 })

pub returns-in_default : goal.returns-in_default
returns-in_default g c = λ heuristic.
    rw (← c.self.view_is) (lookup-lists (is_at (g.K.Ord.cmp c.args.group.now)) c.self.inside.lists.now.entries
    ∙ ap (option_map (λ v. v.items)) (sym c.get.ensures.value ∙ ap option_copied c.in_default.is))

pub returns-in_default-index_of : goal.returns-in_default-index_of
returns-in_default-index_of g c = λ heuristic.
    (known g (goal_at.returns-in_default-index_of g c).After-index_of, rw (← c.self.view_is, ← c.order.ensures) c.in_default-index_of.ensures)

pub returns-then-contains : goal.returns-then-contains
returns-then-contains g c = λ heuristic. (
  known g (goal_at.returns-then-contains g c).After-index_of,
  (c.in-Some-index_of.index, rw (← c.self.view_is, ← c.order.ensures) c.in-Some-index_of.ensures),
  rw (← c.self.view_is) (sym c.contains.ensures ∙ c.if-contains.true),
)

pub returns-then-has : goal.returns-then-has
returns-then-has g c = λ heuristic. (
  known g (goal_at.returns-then-has g c).After-index_of,
  (c.in-Some-index_of.index, rw (← c.self.view_is, ← c.order.ensures) c.in-Some-index_of.ensures),
  rw (← c.self.view_is) (sym c.contains.ensures ∙ c.if-contains.false),
  rw (← c.self.view_is) (sym (c.in_ok-excluded_bins.ensures c.args.bin.now) ∙ sym c.has.ensures ∙ c.if-has.true),
)

pub returns : goal.returns
returns g c = record {
  known = rw (← c.self.view_is, c.as_slice.ensures.value) (found g (goal_at.returns g c).After-index_of);
  there = rw (← c.self.view_is, ← c.order.ensures) c.in-Some-index_of.ensures;
  fresh = rw (← c.self.view_is) (sym c.contains.ensures ∙ c.if-contains.false);
  allowed = rw (← c.self.view_is) (sym (c.in_ok-excluded_bins.ensures c.args.bin.now) ∙ sym c.has.ensures ∙ c.if-has.false);
}
