-- Boxes that are from cuts of a box fill it.
use Rattle.rectangle_pack_sections.proofs.Std.{ℕ, ◌+◌, ◌-◌, ◌≤◌, ◌≡◌, true, List, [], ◌∷◌, refl, sym, ◌∙◌, arith, rules, filter, nat_tests, filter_passes}
use Rattle.rectangle_pack_sections.specs.declared.axis.Axis.{Axis}
use Rattle.rectangle_pack_sections.specs.declared.axis.Axis.TheVariants.{X, Y, Z}
use Rattle.rectangle_pack_sections.specs.Boxes.{Size, Cuboid, Cell, IsInside, is_cell_of, extent, start, end, has_cells}
use Rattle.rectangle_pack_sections.specs.Bins.{whole}
use Rattle.rectangle_pack_sections.specs.Counting.{times_filled, Tiles}
use Rattle.rectangle_pack_sections.specs.Covering.{CoverBin}
use Rattle.rectangle_pack_sections.specs.CutTrees.{lower, upper, IsPlaceOf, CutTree, Leaf, Cut, IsTreeOf, leaves, IsFromCuts}
use Rattle.rectangle_pack_sections.proofs.lemmas.cuts.Boxes.{has_cells-from}
use Rattle.rectangle_pack_sections.proofs.lemmas.cuts.Counting.{filled-append, filled-nil, filled_yes}
use Rattle.rectangle_pack_sections.proofs.lemmas.cuts.CoverVolumes.{mark, filled-marks}
use Rattle.rectangle_pack_sections.proofs.lemmas.cuts.Times.{All-times_in, All-from_times_in}
use Rattle.rectangle_pack_sections.proofs.lemmas.cuts.SameBoxes.{HaveSameBoxes-sym, HaveSameBoxes-filter, IsFromCuts-same, count-same}
use Rattle.rectangle_pack_sections.proofs.lemmas.cuts.Trees.{leaf-part}

-- a place of a span is in one of the two that the span is cut into
mark-parts : (first long p place : ℕ) → first ≤ p → p ≤ first + long
    → mark first (p - first) place + mark p (first + long - p) place ≡ mark first long place
mark-parts first long p place from to = grind (arith, nat_tests)

pub filled-parts : (c : Cell) (a : Axis) (p : ℕ) (b : Cuboid) → IsPlaceOf a p b
    → times_filled c (lower a p b ∷ []) + times_filled c (upper a p b ∷ []) ≡ times_filled c (b ∷ [])
unfolding start extent end lower upper
filled-parts c X p b place = rw (filled-marks c b, ← mark-parts b.x b.whd.width p c.i place.from place.to) (omega (arith, filled-marks))
filled-parts c Y p b place = rw (filled-marks c b, ← mark-parts b.y b.whd.height p c.j place.from place.to) (omega (arith, filled-marks))
filled-parts c Z p b place = rw (filled-marks c b, ← mark-parts b.z b.whd.depth p c.k place.from place.to) (omega (arith, filled-marks))

-- the leaves of a tree of a box fill it
pub filled-leaves : (c : Cell) (t : CutTree) (b : Cuboid) → IsTreeOf t b → times_filled c (leaves t b) ≡ times_filled c (b ∷ [])
unfolding leaves
filled-leaves c Leaf b is = refl
filled-leaves c (Cut a p l u) b is = omega (
  arith,
  filled-append c (leaves l (lower a p b)) (leaves u (upper a p b)),
  filled-leaves c l (lower a p b) is.1,
  filled-leaves c u (upper a p b) is.2,
  filled-parts c a p b is.0,
)

pub IsFromCuts-tiles : (boxes : List Cuboid) (b : Cuboid) → IsFromCuts boxes b → Tiles boxes b
unfolding times_filled
IsFromCuts-tiles boxes b from = record {
  same = λ c. sym (count-same (is_cell_of c) (has_cells-from c) (leaves from.tree b) boxes from.same) ∙ filled-leaves c from.tree b from.is_tree;
}

-- the boxes with cells cover a bin
pub cuts_cover_bins : (boxes : List Cuboid) (size : Size) → IsFromCuts boxes (whole size) → CoverBin (filter has_cells boxes) size
cuts_cover_bins boxes size from =
    let full = filter has_cells boxes in
    let same : IsFromCuts full (whole size) = IsFromCuts-same boxes full (HaveSameBoxes-sym full boxes (HaveSameBoxes-filter boxes)) from in
    record {
      inside = All-from_times_in (IsInside size) full (λ e some.
          let cells : has_cells e ≡ true = All-times_in (λ e. has_cells e ≡ true) e full (filter_passes has_cells boxes) some in
          let part = leaf-part same.tree (whole size) same.is_tree e (omega (arith, same.same e cells)) in search rules);
      once = λ c h. omega (arith, (IsFromCuts-tiles full (whole size) same).same c, filled_yes c (whole size) [] h, filled-nil c);
    }
