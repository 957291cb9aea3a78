-- The laws of packings, over any rules.
use Rattle.rectangle_pack_sections.proofs.Std.{ap, arith, map, ◌∙◌, Ordering, IsTotalOrder}
use Rattle.rectangle_pack_sections.specs.declared.group.Group.{Group}
use Rattle.rectangle_pack_packing.specs.Packing.{Rules, at_start}
use Rattle.rectangle_pack_packing.specs.PackingLaws.{PackingsKeepCells, PackingsPlaceWhole, PackingsKeepApart, PackingsExcludeNone}
use Rattle.rectangle_pack_packing.specs.PackingLaws.{RefusedBoxesAreHeldNowhere}
use Rattle.rectangle_pack_packing.proofs.lemmas.packing.Excluded.{placed_apart, done_without, refused_without}
use Rattle.rectangle_pack_packing.proofs.lemmas.packing.KeepsCells.{KeepsEachBin-placed}
use Rattle.rectangle_pack_packing.proofs.lemmas.packing.Refused.{held_nowhere}
use Rattle.rectangle_pack_packing.proofs.lemmas.packing.Whole.{all_whole}

module _ {Id B G : Type 0} (group_cmp : Group G Id → Group G Id → Ordering) (rules : Rules Id B) where
  pub keep_cells : IsTotalOrder rules.bin_cmp → PackingsKeepCells group_cmp rules
  keep_cells o all old new placements done =
      KeepsEachBin-placed rules o _ _ done.groups (at_start old) placements (record { bins = new; homes = done.homes }) done.tests done.placed

  pub place_whole : PackingsPlaceWhole group_cmp rules
  place_whole = record {
    whole = λ all old new placements done.
        let w = all_whole _ _ all.sizes all.groups _ done.group_order _ done.groups (at_start old) placements _ done.tests done.listed done.placed in
        rw w.0.homes w.0.whole;
    all_groups = λ all old new placements done.
        let w = all_whole _ _ all.sizes all.groups _ done.group_order _ done.groups (at_start old) placements _ done.tests done.listed done.placed in
        ap (map (λ h. h.0)) w.0.homes ∙ w.0.names ∙ w.1;
  }

  pub keep_apart : PackingsKeepApart group_cmp rules
  keep_apart = record {
    done = λ all old new placements done. placed_apart _ _ all.partners _ done.groups (at_start old) placements _ done.tests done.placed
        (λ i j d lt within. absurd (omega arith));
    refused = λ all old new refused. placed_apart _ _ all.partners _ refused.stops.beginning (at_start old) refused.stops.placements _ refused.stops.first
        refused.stops.placed (λ i j d lt within. absurd (omega arith));
  }

  pub exclude_none : PackingsExcludeNone group_cmp rules
  exclude_none = record {
    done = λ all none old new placements n. done_without _ _ all none old new placements n;
    refused = λ all none old new n. refused_without _ _ all none old new n;
  }

  pub hold_nowhere : IsTotalOrder rules.bin_cmp → RefusedBoxesAreHeldNowhere group_cmp rules
  hold_nowhere o all old new refused size one id bin allowed found = held_nowhere _ _ o all old new refused size one id bin allowed found
