-- Boxes that are from straight cuts of a bin, or stand in it.
use Rattle.rectangle_pack_sections.proofs.Std.{◌≡◌, ◌++◌, true, subst, refl, rules, List, filter, filter_passes, All, All-append, All-filter, All-weaker}
use Rattle.rectangle_pack_sections.specs.Bins.{whole}
use Rattle.rectangle_pack_sections.specs.Boxes.{Size, Cuboid, IsInside, IsPartOf, FitsU32, has_cells}
use Rattle.rectangle_pack_sections.specs.CutTrees.{IsFromCuts}
use Rattle.rectangle_pack_sections.proofs.lemmas.cuts.Counting.{filter_all}
use Rattle.rectangle_pack_sections.proofs.lemmas.cuts.TreesFill.{cuts_cover_bins}
use Rattle.rectangle_pack_plans.specs.private.CutPlans.{IsFilled}
use Rattle.rectangle_pack_plans.proofs.lemmas.cut_plan.Filling.{IsFilled-bin}

-- boxes with cells that are from cuts of a bin fill it
pub IsFilled-cuts : (size : Size) (free boxes : List Cuboid) → FitsU32 (whole size) → All (λ s. has_cells s ≡ true) free
    → IsFromCuts (free ++ filter has_cells boxes) (whole size) → IsFilled (whole size) (free ++ filter has_cells boxes)
IsFilled-cuts size free boxes fits cells from =
    let all : List Cuboid = free ++ filter has_cells boxes in
    let full : All (λ s. has_cells s ≡ true) all = All-append (λ s. has_cells s ≡ true) free (filter has_cells boxes) cells (filter_passes has_cells boxes) in
    let same : filter has_cells all ≡ all = filter_all has_cells all full in
    let filled = IsFilled-bin size (filter has_cells all) fits (cuts_cover_bins all size from) in
    subst (IsFilled (whole size)) (rw (same, same) refl) filled

-- boxes inside a bin are parts of all of it
pub parts_inside : (size : Size) (boxes : List Cuboid) → All (IsInside size) boxes → All (λ b. IsPartOf b (whole size)) (filter has_cells boxes)
parts_inside size boxes inside =
    let part : (b : Cuboid) → IsInside size b → IsPartOf b (whole size) = λ b h. search rules in
    All-weaker (IsInside size) (λ b. IsPartOf b (whole size)) part (filter has_cells boxes) (All-filter has_cells (IsInside size) boxes inside)
