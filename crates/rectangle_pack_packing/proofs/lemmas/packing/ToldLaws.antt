-- The laws of packings as they are told.
use Rattle.rectangle_pack_sections.proofs.Std.{List, [], ◌++◌, map, IsDistinct, IsDistinct-IsPermutation, IsPermutation-sym, IsPermutation-trans}
use Rattle.rectangle_pack_sections.proofs.Std.{IsPermutation-append_comm, eq_by_cmp, IsTotalOrder, Ordering}
use Rattle.rectangle_pack_sections.specs.declared.group.Group.{Group}
use Rattle.rectangle_pack_packing.specs.Best.{named_rules}
use Rattle.rectangle_pack_packing.specs.Packing.{Stage, at_start, excludes_by}
use Rattle.rectangle_pack_packing.specs.ToldLaws.{TellingsKeepCells, TellingsPlaceWhole, TellingsKeepApart, FittingsCanBeTold, PackingsCanBeTold}
use Rattle.rectangle_pack_sections.proofs.lemmas.util.Maps.{is_at-back}
use Rattle.rectangle_pack_packing.proofs.lemmas.packing.FittingLaws.{fits_of}
use Rattle.rectangle_pack_packing.proofs.lemmas.packing.StepsDone.{told_whole, apart_told, named_once}
use Rattle.rectangle_pack_packing.proofs.lemmas.packing.Taken.{IsKnown, known-each, each-known, taken-some}
use Rattle.rectangle_pack_packing.proofs.lemmas.packing.Telling.{distinct_back, names_distinct, none_named, tell}
use Rattle.rectangle_pack_packing.proofs.lemmas.packing.Told.{KeepsEachBin-told}
use Rattle.rectangle_pack_packing.proofs.lemmas.packing.Whole.{known, names_listed}

module _ {Id B G : Type 0} (group_cmp : Group G Id → Group G Id → Ordering) (cmp : Id → Id → Ordering) (bin_cmp : B → B → Ordering) where
  pub tellings_keep_cells : IsTotalOrder bin_cmp → TellingsKeepCells group_cmp cmp bin_cmp
  tellings_keep_cells o all steps old new placements told =
      KeepsEachBin-told group_cmp cmp bin_cmp all o steps (at_start old) placements _ told.done

  pub tellings_place_whole : TellingsPlaceWhole group_cmp cmp bin_cmp
  tellings_place_whole = record {
    whole = λ all steps old new placements told. told_whole group_cmp cmp bin_cmp all steps (at_start old) placements _ told.done;
    once = λ all steps old new placements told. named_once group_cmp cmp bin_cmp all steps (at_start old) placements _ told.done;
  }

  pub tellings_keep_apart : IsTotalOrder bin_cmp → TellingsKeepApart group_cmp cmp bin_cmp
  tellings_keep_apart o all steps old new placements told = apart_told group_cmp cmp bin_cmp all o steps old placements _ told.done

  -- what fits is told by the groups that are placed of it
  pub fittings_can_be_told : IsTotalOrder group_cmp → FittingsCanBeTold group_cmp cmp bin_cmp
  fittings_can_be_told o named all distinct old new placements left fits =
      let rules = named_rules cmp bin_cmp named in
      let excludes = excludes_by group_cmp bin_cmp all.partners in
      let same = eq_by_cmp group_cmp in
      let names : IsDistinct same (map (λ g. g.0) fits.groups) =
      rw (names_listed cmp group_cmp all.sizes all.groups fits.group_order fits.groups fits.listed)
      (names_distinct o rules.may.rate cmp all.sizes all.groups fits.group_order fits.by_groups distinct) in
      let last : Stage (Group G Id) B = record { bins = new; homes = fits.homes } in
      let is_known = known-each rules excludes group_cmp all.sizes all.groups fits.groups
      (known rules group_cmp all.sizes all.groups fits.group_order fits.groups fits.listed.each) in
      let some = taken-some rules excludes (IsKnown rules excludes group_cmp all.sizes all.groups) _ fits.groups (at_start old) placements left last
      fits.tests is_known fits.taken in
      let kept : List (Group G Id) = map (λ g. g.0) some.kept in
      let turned = IsPermutation-trans (map (λ g. g.0) fits.groups) (kept ++ left) (left ++ kept)
      (IsPermutation-sym (kept ++ left) (map (λ g. g.0) fits.groups) some.names) (IsPermutation-append_comm kept left) in
      let kept_names : IsDistinct same kept = distinct_back same left kept
      (IsDistinct-IsPermutation same (λ x y. is_at-back o x y) (map (λ g. g.0) fits.groups) (left ++ kept) turned names) in
      let told = tell group_cmp cmp bin_cmp all named o _ some.kept (at_start old) placements last some.tests
      (each-known rules excludes group_cmp all.sizes all.groups some.kept some.each) (none_named group_cmp cmp bin_cmp all named o some.kept) kept_names
      some.placed in
      record { homes = fits.homes; done = rw told.homes told.done }

  -- a packing that is done is one that leaves none
  pub packings_can_be_told : IsTotalOrder group_cmp → PackingsCanBeTold group_cmp cmp bin_cmp
  packings_can_be_told o named all distinct old new placements done =
      fittings_can_be_told o named all distinct old new placements [] (fits_of group_cmp (named_rules cmp bin_cmp named) all old new placements done)
