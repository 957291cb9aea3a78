-- The laws of what fits, over any rules.
use Rattle.rectangle_pack_sections.proofs.Std.{◌≡◌, ◌+◌, ◌<◌, List, [], ◌∷◌, ◌++◌, refl, ap, arith, length, length-append, map, reverse, ◌∙◌, All-contains, Ordering, IsTotalOrder}
use Rattle.rectangle_pack_sections.specs.declared.group.Group.{Group}
use Rattle.rectangle_pack_sections.specs.Bins.{Bin}
use Rattle.rectangle_pack_sections.specs.Groups.{Collection}
use Rattle.rectangle_pack_packing.specs.declared.answer.Placement.{Placement}
use Rattle.rectangle_pack_packing.specs.Fitting.{PackingFits}
use Rattle.rectangle_pack_packing.specs.FittingLaws.{DoneIsNoneLeft, FirstLeftIsRefused, LeftBoxesAreHeldNowhere, FittingsKeepCells, FittingsPlaceWhole, FittingsKeepApart}
use Rattle.rectangle_pack_packing.specs.Packing.{Rules, Stage, at_start, excludes_by, PackingDone}
use Rattle.rectangle_pack_packing.proofs.lemmas.packing.FirstLeft.{first_left}
use Rattle.rectangle_pack_packing.proofs.lemmas.packing.Left.{IsLeftAt, left_at}
use Rattle.rectangle_pack_packing.proofs.lemmas.packing.LeftBoxes.{held_nowhere_after}
use Rattle.rectangle_pack_packing.proofs.lemmas.packing.Taken.{taken-none, taken-all, KeepsEachBin-taken, AddsSome, taken_whole, taken_apart}
use Rattle.rectangle_pack_packing.proofs.lemmas.packing.Whole.{known, names_listed}

module _ {Id B G : Type 0} (group_cmp : Group G Id → Group G Id → Ordering) (rules : Rules Id B) where
  -- a packing that is done, as what fits with none left
  abbrev pub fits_of : (all : Collection Id G) (old new : List (B × Bin)) (placements : List (Placement Id B))
      → PackingDone group_cmp rules all old placements new → PackingFits group_cmp rules all old placements [] new
  fits_of all old new placements done = record {
    group_order = done.group_order;
    bin_order = done.bin_order;
    groups = done.groups;
    by_groups = done.by_groups;
    by_bins = done.by_bins;
    listed = done.listed;
    homes = done.homes;
    tests = done.tests;
    taken = taken-all rules (excludes_by group_cmp rules.bin_cmp all.partners) _ done.groups (at_start old) placements _ done.tests done.placed;
  }

  -- and the other way round
  abbrev done_of : (all : Collection Id G) (old new : List (B × Bin)) (placements : List (Placement Id B))
      → PackingFits group_cmp rules all old placements [] new → PackingDone group_cmp rules all old placements new
  done_of all old new placements fits = record {
    group_order = fits.group_order;
    bin_order = fits.bin_order;
    groups = fits.groups;
    by_groups = fits.by_groups;
    by_bins = fits.by_bins;
    listed = fits.listed;
    homes = fits.homes;
    tests = fits.tests;
    placed = taken-none rules (excludes_by group_cmp rules.bin_cmp all.partners) _ fits.groups (at_start old) placements _ fits.tests fits.taken;
  }

  pub done_is_none_left : DoneIsNoneLeft group_cmp rules
  done_is_none_left all old new placements n = (
    λ (fits, count). (done_of all old new placements fits, count),
    λ (done, count). (fits_of all old new placements done, count),
  )

  pub first_is_refused : FirstLeftIsRefused group_cmp rules
  first_is_refused all old new placements first left fits =
      let excludes = excludes_by group_cmp rules.bin_cmp all.partners in
      let at = first_left rules excludes (map (λ o. o.1) fits.bin_order) fits.groups (at_start old) placements first left _ fits.tests fits.taken in
      let more : length fits.groups ≡ length (at.beginning ++ at.next ∷ at.after) = ap length at.groups_are in
      let some : 0 < length fits.groups = omega (arith, more, length-append at.beginning (at.next ∷ at.after)) in
      record {
        bins = at.turn.bins;
        refused = record {
          group_order = fits.group_order;
          bin_order = fits.bin_order;
          groups = fits.groups;
          by_groups = fits.by_groups;
          by_bins = fits.by_bins some;
          listed = fits.listed;
          tests = at.tests + at.count;
          stops = record {
            beginning = at.beginning;
            next = at.next;
            later = at.after;
            groups_are = at.groups_are;
            placements = at.first;
            homes = at.turn.homes;
            first = at.tests;
            placed = at.placed;
            count = at.count;
            refused = at.refused;
            tests_are = refl;
          };
        };
        group_order = refl;
        bin_order = refl;
        next = at.name_is;
        later = at.later;
        placements_are = at.placements_are;
      }

  pub fittings_keep_cells : IsTotalOrder rules.bin_cmp → FittingsKeepCells group_cmp rules
  fittings_keep_cells o all old new placements left fits =
      KeepsEachBin-taken rules (excludes_by group_cmp rules.bin_cmp all.partners) o _ fits.groups (at_start old) placements left _ fits.tests fits.taken

  pub fittings_keep_apart : FittingsKeepApart group_cmp rules
  fittings_keep_apart all old new placements left fits =
      taken_apart group_cmp rules all.partners _ fits.groups (at_start old) placements left _ fits.tests fits.taken
      (λ i j d lt within. absurd (omega arith))

  pub left_held_nowhere : IsTotalOrder rules.bin_cmp → LeftBoxesAreHeldNowhere group_cmp rules
  left_held_nowhere o all old new placements left fits name id size among listed sized bin_id bin allowed found =
      let excludes = excludes_by group_cmp rules.bin_cmp all.partners in
      let order = map (λ o. o.1) fits.bin_order in
      let last : Stage (Group G Id) B = record { bins = new; homes = fits.homes } in
      let at = All-contains (IsLeftAt rules excludes order fits.groups (at_start old) last) left name
      (left_at rules excludes order fits.groups (at_start old) placements left last fits.tests fits.taken) among in
      let more : length fits.groups ≡ length (at.before ++ (name, at.members) ∷ at.after) = ap length at.groups_are in
      let some : 0 < length fits.groups = omega (arith, more, length-append at.before ((name, at.members) ∷ at.after)) in
      held_nowhere_after group_cmp rules o all.partners all.sizes all.groups fits.bin_order fits.groups old last name (fits.by_bins some)
      (known rules group_cmp all.sizes all.groups fits.group_order fits.groups fits.listed.each) at id size listed sized bin_id bin allowed found

  pub fittings_place_whole : FittingsPlaceWhole group_cmp rules
  fittings_place_whole = record {
    whole = λ all old new placements left fits.
        let w = parts all old new placements left fits in
        rw w.adds.homes w.adds.whole;
    all_groups = λ all old new placements left fits.
        let w = parts all old new placements left fits in
        let placed : map (λ h. h.0) (reverse fits.homes) ≡ map (λ g. g.0) w.kept = ap (map (λ h. h.0)) w.adds.homes ∙ w.adds.names in
        let names = names_listed rules.id_cmp group_cmp all.sizes all.groups fits.group_order fits.groups fits.listed in
        rw (placed, ← names) w.names;
  }
    where
      parts : (all : Collection Id G) (old new : List (B × Bin)) (placements : List (Placement Id B)) (left : List (Group G Id))
          → (fits : PackingFits group_cmp rules all old placements left new)
          → AddsSome rules (excludes_by group_cmp rules.bin_cmp all.partners) group_cmp all.sizes all.groups fits.groups placements left [] fits.homes
      parts all old new placements left fits =
          taken_whole rules (excludes_by group_cmp rules.bin_cmp all.partners) group_cmp all.sizes all.groups _ fits.groups (at_start old) placements left _
          fits.tests (known rules group_cmp all.sizes all.groups fits.group_order fits.groups fits.listed.each) fits.taken
