use Rattle.rectangle_pack_sections.proofs.Std.{◌∙◌, ap, map, Bor, Ordering}
use Rattle.rectangle_pack_sections.specs.declared.group.Group.{Group}
use Rattle.rectangle_pack_sections.specs.contracts.group.GroupOrd.TheImpl.{ghosts}
use Rattle.rectangle_pack_packing.specs.Fitting.{names_left}
use Rattle.rectangle_pack_packing.specs.Packing.{Rules, rules_by}
use Rattle.rectangle_pack_packing.proofs.lemmas.packing.Groups.{HasSizes-order}
use Rattle.rectangle_pack_packing.proofs.lemmas.packing.InOrder.{AreInOrder, AreInOrder-from, all-tried}
use Rattle.rectangle_pack_packing.proofs.pack.packing.Packing.place_all.Given.{Over}
use Rattle.rectangle_pack_packing.proofs.pack.packing.Packing.place_all.Goals.{After-place_groups}
use Rattle.rectangle_pack_packing.proofs.pack.packing.Packing.place_all.Goals.at as goal_at
use Rattle.rectangle_pack_packing.proofs.pack.packing.Packing.place_all.Goals as goal

-- the order of groups
abbrev group_cmp : (g : Over) → Group g.row.GroupId.Denot g.row.Id.Denot → Group g.row.GroupId.Denot g.row.Id.Denot → Ordering
group_cmp g = (ghosts g.row.GroupId g.row.Id g.GroupId.Ord g.GroupId.Ord-dict g.GroupId.Eq g.GroupId.Eq-dict g.GroupId.PartialEq g.GroupId.PartialEq-dict
    g.GroupId.PartialOrd g.GroupId.PartialOrd-dict g.Id.Ord g.Id.Ord-dict g.Id.Eq g.Id.Eq-dict g.Id.PartialEq g.Id.PartialEq-dict g.Id.PartialOrd
    g.Id.PartialOrd-dict).cmp

abbrev by : (g : Over) → g.row.R.Denot → Rules g.row.Id.Denot g.row.B.Denot
by g policy = rules_by g.Id.Ord.cmp g.B.Ord.cmp (g.R.Policy.may policy)

-- the groups and the bins are in order
in_order : (g : Over) (c : After-place_groups g)
    → AreInOrder (group_cmp g) (by g c.self.inside.policy.now) c.args.rects_to_place.now c.self.inside.bins.now c.self.inside.bins.order
    c.as_slice.result.now c.as_slice-2.result.now
in_order g c =
    rw (c.as_slice.ensures.value, c.as_slice-2.ensures.value)
    (AreInOrder-from (group_cmp g) (by g c.self.inside.policy.now) c.args.rects_to_place.now c.self.inside.bins.now c.self.inside.bins.order
    c.in_ok-groups.groups.items c.group_order.new.sizes.items c.groups-lists.result.now.entries
    c.groups-lists.ensures.entries
    (rw (← c.rects-rects.ensures.entries, ← c.groups-lists.ensures.entries) c.in_ok-groups.ensures.order) (rw (← c.self.view_is) at c.requires.order)
    (rw (← c.self.view_is) at c.requires.distinct)
    c.in_ok-groups.ensures.listed (rw (← c.rects-rects.ensures.entries) c.in_ok-groups.ensures.sizes)
    (rw (← c.groups-lists.ensures.entries) c.in_ok-groups.ensures.counted))

pub place_groups-requires : goal.place_groups-requires
place_groups-requires g c = record {
  in_range = rw (c.as_slice.ensures.value, c.as_slice-2.ensures.value)
      (HasSizes-order g.Id.Ord.cmp c.rects-rects.result.now.entries _ c.in_ok-groups.groups.items c.in_ok-groups.ensures.sizes);
  distinct = rw c.as_slice.ensures.value c.in_ok-groups.ensures.distinct;
  begun = record {
    placements = c.in_ok-reserve.ensures.items ∙ rw (← c.self.view_is) at c.requires.begun.placements;
    tests = rw (← c.self.view_is) at c.requires.begun.tests;
  };
  none_left = c.requires.none_left;
}

pub returns-clause-packed : goal.returns-clause-packed
returns-clause-packed g c =
    let at = (goal_at.returns-clause-packed g c).After-place_groups in
    rw (← c.self.view_is)
    (all-tried (group_cmp g) (by g c.self.inside.policy.now) c.args.rects_to_place.now c.as_slice.result.now c.as_slice-2.result.now
    g.met.B.Ord.total
    (record { bins = c.self.inside.bins; policy = c.self.inside.policy.now; placements = c.reserve.new.self.items; tests = c.self.inside.tests })
    c.place_groups.new.self c.args.on_refusal (names_left c.place_groups.new.left) c.place_groups.result (in_order g at)
    (λ stop. ap (map (λ (k : Bor (Group g.row.GroupId.Denot g.row.Id.Denot)). k.now)) (c.place_groups.ensures.stops stop)) c.place_groups.ensures.leaves
    (rw c.exclusions_of-exclusions.ensures at c.place_groups.ensures.packed))

pub returns-clause-start : goal.returns-clause-start
returns-clause-start g c = rw (← c.self.view_is) c.place_groups.ensures.same.start
