use Rattle.std.proofs.Common.{le_of_lt}
use Rattle.rectangle_pack_sections.proofs.Std.{◌≡◌, ◌∙◌, ap, sym, refl, lookup, is_at, is_some, Some, option_copied}
use Rattle.rectangle_pack_sections.specs.Bins.{bins_of}
use Rattle.rectangle_pack_sections.proofs.lemmas.util.Maps.{is_some-option_map}
use Rattle.rectangle_pack_lists.specs.declared.free_list.End.TheVariants.{Keep}
use Rattle.rectangle_pack_bins.proofs.lemmas.bins.Maps.{found-bins_of}
use Rattle.rectangle_pack_packing.specs.private.BinsAtWork.{checked_in, IsBinAt}
use Rattle.rectangle_pack_packing.proofs.lemmas.bins.BinsAtWork.{parts, IsBinAt-in_map, AreSummed-tried, IsTriedIn-stuck, is_in_map}
use Rattle.rectangle_pack_packing.proofs.bins_at_work.BinsAtWork.look.Given.{Over}
use Rattle.rectangle_pack_packing.proofs.bins_at_work.BinsAtWork.look.Goals.{After-as_slice-sections}
use Rattle.rectangle_pack_packing.proofs.bins_at_work.BinsAtWork.look.Goals.at as goal_at
use Rattle.rectangle_pack_packing.proofs.bins_at_work.BinsAtWork.look.Goals as goal

pub offset_bounds-order-index : goal.offset_bounds-order-index
offset_bounds-order-index g c = le_of_lt (rw (parts c.self.view_is).2 c.requires)

pub bounds-order-index : goal.bounds-order-index
bounds-order-index g c = rw (parts c.self.view_is).2 c.requires

pub unwrap-bin-requires : goal.unwrap-bin-requires
unwrap-bin-requires g c =
    sym (is_some-option_map _ c.get.result) ∙ ap is_some c.get.ensures.value ∙ is_in_map g.B.Ord.cmp c.self.inside.order.now c.self.inside.out.items
    c.self.inside.bins.entries c.args.index c.index-order-index.result c.self.invariant.0 (rw (parts c.self.view_is).2 c.requires) c.index-order-index.is

-- the bin at the index
here : (g : Over) (c : After-as_slice-sections g)
    → IsBinAt g.B.Ord.cmp c.self.inside.order.now (checked_in g.B.Ord.cmp Keep c.self.inside.order.now c.self.inside.out.items (bins_of c.self.inside.bins.entries))
    c.args.index c.unwrap-bin.result.now.bin
here g c =
    let o = c.index-order-index.result in
    let es = c.self.inside.bins.entries in
    let test = is_at (g.B.Ord.cmp o.1) in
    let found : lookup test es ≡ Some c.unwrap-bin.result.now = sym c.get.ensures.value ∙ ap option_copied c.unwrap-bin.ensures in
    IsBinAt-in_map g.met.B.Ord.total c.self.inside.order.now c.self.inside.out.items (bins_of es) c.args.index o c.self.invariant.0
    (rw (parts c.self.view_is).2 c.requires) c.index-order-index.is c.unwrap-bin.result.now.bin (rw (parts c.self.view_is).3 c.if-is_out.ensures)
    (found-bins_of test es (bins_of es) c.unwrap-bin.result.now refl found)

pub invariant_of-self : goal.invariant_of-self
invariant_of-self g c =
    let at = here g (goal_at.invariant_of-self g c).After-as_slice-sections in
    let o = c.index-order-index.result in
    let bin = c.unwrap-bin.result.now.bin in
    let same = c.as_slice-sections.ensures.value ∙ c.available_bin_sections.ensures.items in (
      c.self.invariant.0,
      AreSummed-tried g.met.B.Ord.total c.self.inside.order.now _ _ c.args.index o bin bin c.self.inside.summaries c.put.new.self
          c.self.invariant.0.distinct at.within c.index-order-index.is c.self.invariant.1 (IsTriedIn-stuck g.B.Ord.cmp o.1 _ bin (at.found o c.index-order-index.is))
          (λ known. rw (c.put.ensures.here, ← same) c.of_few.ensures) c.put.ensures.elsewhere,
    )

pub returns-then-lacks-clause-stuck : goal.returns-then-lacks-clause-stuck
returns-then-lacks-clause-stuck g c =
    let at = here g (goal_at.returns-then-lacks-clause-stuck g c).After-as_slice-sections in
    let same = c.as_slice-sections.ensures.value ∙ c.available_bin_sections.ensures.items in
    rw (← c.self.view_is) (c.in_ok-trial.ensures.0, c.unwrap-bin.result.now.bin, at, rw (← same) c.in_ok-trial.ensures.1)

pub returns-else-lacks-clause-stuck : goal.returns-else-lacks-clause-stuck
returns-else-lacks-clause-stuck g c =
    let at = here g (goal_at.returns-else-lacks-clause-stuck g c).After-as_slice-sections in
    let same = c.as_slice-sections.ensures.value ∙ c.available_bin_sections.ensures.items in
    rw (← c.self.view_is) (c.in_ok-trial.ensures.0, c.unwrap-bin.result.now.bin, at, rw (← same) c.in_ok-trial.ensures.1)
