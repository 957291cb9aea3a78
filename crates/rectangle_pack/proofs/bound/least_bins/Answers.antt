use Rattle.rectangle_pack_sections.proofs.Std.{refl, ◌∙◌}
use Rattle.rectangle_pack_sections.proofs.lemmas.groups.GroupOrder.{groups_total}
use Rattle.rectangle_pack_sections.specs.Bins.{bins_of}
use Rattle.rectangle_pack.proofs.lemmas.bound.Needed.{if_ok, needed_for, shown_for}
use Rattle.rectangle_pack.proofs.bound.least_bins.Goals as goal

pub returns-clause-shown : goal.returns-clause-shown
returns-clause-shown g c =
    if_ok _ _
    (shown_for _ g.Id.Ord.cmp g.BinId.Ord.cmp c.args.rects_to_place.now c.args.turns.now.entries (bins_of c.args.target_bins.now.entries)
    c.rects.result.now.entries c.rects.ensures.entries c.groups-groups.result.now.entries c.groups-groups.ensures.entries
    c.exclusions_of.result.now c.exclusions_of.ensures c.as_slice.result.now (c.as_slice.ensures.value ∙ c.in_ok-sizes.ensures)
    c.as_slice-2.result.now (c.as_slice-2.ensures.value ∙ c.in_ok-boxes.ensures) c.in_ok-apart.apart c.in_ok-apart.ensures)
    c.least_bins_shown.result c.least_bins_shown.ensures

pub returns-clause-needed : goal.returns-clause-needed
returns-clause-needed g c =
    if_ok _ _
    (needed_for _ g.Id.Ord.cmp g.BinId.Ord.cmp c.args.rects_to_place.now c.args.turns.now.entries (bins_of c.args.target_bins.now.entries)
    (groups_total _ g.Id.Ord.cmp g.GroupId.Ord.cmp g.met.Id.Ord.total g.met.GroupId.Ord.total (λ a b. refl) (λ a b. refl) (λ a b. refl) (λ a b. refl))
    g.met.BinId.Ord.total c.groups-groups.ensures.members)
    c.least_bins_shown.result (returns-clause-shown g c)
