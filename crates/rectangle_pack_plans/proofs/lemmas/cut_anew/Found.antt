-- The free sections that were found, in order.
use Rattle.rectangle_pack_sections.proofs.Std.{◌<◌, ◌≡◌, true, List, [], ◌∷◌, ◌++◌, length, get_or, ap, sym, ◌∙◌, subst, arith}
use Rattle.rectangle_pack_sections.proofs.Std.{All, All-nil, All-cons, IsPermutation, IsPermutation-map, All-permutation, append-nil, filter}
use Rattle.rectangle_pack_sections.proofs.Std.{filter_passes, get_or-map, length-map}
use Rattle.rectangle_pack_sections.specs.Boxes.{Cuboid, FitsU32, IsPartOf, has_cells}
use Rattle.rectangle_pack_sections.specs.CutTrees.{IsFromCuts}
use Rattle.rectangle_pack_plans.specs.declared.cut_anew.strips.FreeSection.{FreeSection}
use Rattle.rectangle_pack_plans.specs.CuttingAnew.{sections_alone, AreFreeInSomeOrder, AreThickestFirst, IsCutAnew}
use Rattle.rectangle_pack_sections.proofs.lemmas.cuts.Counting.{filter_all}
use Rattle.rectangle_pack_sections.proofs.lemmas.cuts.SameBoxes.{HaveSameBoxes-permutation, HaveSameBoxes-filter, IsFromCuts-same}
use Rattle.rectangle_pack_sections.proofs.lemmas.cuts.Times.{times_in-append, All-times_in, All-from_times_in}
use Rattle.rectangle_pack_sections.proofs.lemmas.cuts.Trees.{IsFromCuts-leaf, IsFromCuts-part}
use Rattle.rectangle_pack_plans.specs.private.CuttingAnew.{HaveBothFit}
use Rattle.rectangle_pack_plans.proofs.lemmas.cut_plan.Filling.{FitsU32-part}
use Rattle.rectangle_pack_plans.proofs.lemmas.cut_anew.FreeIn.{AreFreeInSomeOrder-moved}

-- the free section of a whole that has no box
pub IsCutAnew-whole : (whole : Cuboid) (boxes free : List Cuboid) → boxes ≡ [] → free ≡ filter has_cells (whole ∷ []) → IsCutAnew whole boxes free
IsCutAnew-whole whole boxes free none is =
    let found = filter has_cells (whole ∷ []) in
    record {
      from_cuts = rw (is, none, append-nil found) (IsFromCuts-same (whole ∷ []) found (λ e k. sym (HaveSameBoxes-filter (whole ∷ []) e k)) (IsFromCuts-leaf whole));
      cells = rw is (filter_passes has_cells (whole ∷ []));
      parted = λ some. absurd (omega (arith, some, ap length none));
      empty = λ full e. is ∙ filter_all has_cells (whole ∷ []) (All-cons (λ s. has_cells s ≡ true) whole [] full (All-nil (λ s. has_cells s ≡ true)));
    }

-- and of one that has boxes, once they are in order
pub IsCutAnew-sorted : (whole : Cuboid) (boxes : List Cuboid) (found free : List FreeSection) (sections : List Cuboid) → 0 < length boxes
    → IsFromCuts (sections_alone found ++ boxes) whole → All (λ s. has_cells s ≡ true) (sections_alone found) → AreFreeInSomeOrder whole boxes found
    → IsPermutation found free → AreThickestFirst whole.whd free → sections ≡ sections_alone free → IsCutAnew whole boxes sections
IsCutAnew-sorted whole boxes found free sections some from cells parted moved ordered are =
    let before = sections_alone found in
    let after = sections_alone free in
    let same : IsPermutation before after = IsPermutation-map (λ (f : FreeSection). f.section) found free moved in
    record {
      from_cuts = rw are (IsFromCuts-same (before ++ boxes) (after ++ boxes)
          (λ e k. omega (arith, times_in-append e before boxes, times_in-append e after boxes, HaveSameBoxes-permutation before after same e k)) from);
      cells = rw are (All-permutation (λ s. has_cells s ≡ true) before after same cells);
      empty = λ full e. absurd (omega (arith, some, ap length e));
      parted = λ s. (free, AreFreeInSomeOrder-moved whole boxes found free moved parted, ordered, are);
    }

-- free sections fit where the whole does
found_fit : (whole : Cuboid) (boxes found : List Cuboid) → FitsU32 whole → IsFromCuts (found ++ boxes) whole → All (λ s. has_cells s ≡ true) found
    → All FitsU32 found
found_fit whole boxes found fits from cells = All-from_times_in FitsU32 found (λ e some.
    let full = All-times_in (λ s. has_cells s ≡ true) e found cells some in
    FitsU32-part e whole (IsFromCuts-part from e full (omega (arith, some, times_in-append e found boxes))) fits)

-- and their rooms
pub both_fit : (whole : Cuboid) (boxes : List Cuboid) (free : List FreeSection) → FitsU32 whole → IsFromCuts (sections_alone free ++ boxes) whole
    → All (λ s. has_cells s ≡ true) (sections_alone free) → All (λ (f : FreeSection). IsPartOf f.room whole) free → All HaveBothFit free
both_fit whole boxes free fits from cells inside i d lt =
    let section = λ (f : FreeSection). f.section in
    let all = found_fit whole boxes (sections_alone free) fits from cells in
    record {
      section = subst FitsU32 (get_or-map section free i d d.section lt) (all i d.section (omega (arith, lt, length-map free section)));
      room = FitsU32-part (get_or free i d).room whole (inside i d lt) fits;
    }
