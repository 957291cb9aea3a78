-- The pinwheel covers its bin and is not from cuts.
use Rattle.rectangle_pack_sections.proofs.Std.{true, nat_le, ◌&&◌, ℕ, ◌+◌, ◌<◌, ◌≡◌, refl, arith, nat_tests, All-from_recursion}
use Rattle.rectangle_pack_sections.specs.declared.axis.Axis.{Axis}
use Rattle.rectangle_pack_sections.specs.declared.axis.Axis.TheVariants.{X, Y, Z}
use Rattle.rectangle_pack_sections.specs.Boxes.{IsInside, is_cell_of, extent, start, end}
use Rattle.rectangle_pack_sections.specs.Bins.{whole}
use Rattle.rectangle_pack_sections.specs.Counting.{times_filled}
use Rattle.rectangle_pack_sections.specs.Covering.{CoverBin}
use Rattle.rectangle_pack_sections.specs.CutTrees.{IsFromCuts, flat, pinwheel, pinwheel_size}
use Rattle.rectangle_pack_plans.specs.CutPlans.{IsUncut, IsOpenPlane}
use Rattle.rectangle_pack_sections.proofs.lemmas.cuts.Axes.{below_3}
use Rattle.rectangle_pack_plans.proofs.lemmas.cut_plan.OpenPlanes.{cuts_have_open_planes}

-- the nine cells one by one
once : (i j k : ℕ) → i < 3 → j < 3 → k < 1 → times_filled (record { i = i; j = j; k = k }) pinwheel ≡ 1
unfolding times_filled is_cell_of
once i j k hi hj hk =
    let e : k ≡ 0 = omega arith in
    rw e (below_3 (λ i. times_filled (record { i = i; j = j; k = 0 }) pinwheel ≡ 1)
    (below_3 (λ j. times_filled (record { i = 0; j = j; k = 0 }) pinwheel ≡ 1) refl refl refl j hj)
    (below_3 (λ j. times_filled (record { i = 1; j = j; k = 0 }) pinwheel ≡ 1) refl refl refl j hj)
    (below_3 (λ j. times_filled (record { i = 2; j = j; k = 0 }) pinwheel ≡ 1) refl refl refl j hj)
    i hi)

flat_inside : (x y width height : ℕ) → (nat_le (x + width) 3 && nat_le (y + height) 3) ≡ true → IsInside pinwheel_size (flat x y width height)
flat_inside x y width height t = record { within_x = grind (arith, nat_tests); within_y = grind (arith, nat_tests); within_z = omega arith }

pub pinwheel_covers : CoverBin pinwheel pinwheel_size
pinwheel_covers = record {
  inside = let at = flat_inside in
      All-from_recursion (IsInside pinwheel_size) pinwheel
      (at 0 0 2 1 refl, (at 2 0 1 2 refl, (at 1 2 2 1 refl, (at 0 1 1 2 refl, (at 1 1 1 1 refl, tt)))));
  once = λ c h. once c.i c.j c.k (omega arith) (omega arith) (omega arith);
}

-- each plane inside the bin cuts one of the four outer boxes
no_plane : (a : Axis) (p : ℕ) → ¬ IsOpenPlane a p (whole pinwheel_size) pinwheel
unfolding start extent end
no_plane X p h =
    let low : IsUncut X p (flat 0 0 2 1) = h.uncut 0 (whole pinwheel_size) (omega arith) refl in
    let high : IsUncut X p (flat 1 2 2 1) = h.uncut 2 (whole pinwheel_size) (omega arith) refl in
    grind (arith, low, high, h.after_start, h.before_end)
no_plane Y p h =
    let low : IsUncut Y p (flat 2 0 1 2) = h.uncut 1 (whole pinwheel_size) (omega arith) refl in
    let high : IsUncut Y p (flat 0 1 1 2) = h.uncut 3 (whole pinwheel_size) (omega arith) refl in
    grind (arith, low, high, h.after_start, h.before_end)
no_plane Z p h = omega (arith, h.after_start, h.before_end)

pub pinwheel_not_from_cuts : ¬ IsFromCuts pinwheel (whole pinwheel_size)
pinwheel_not_from_cuts from =
    let r = cuts_have_open_planes pinwheel (whole pinwheel_size) from (omega arith) in
    no_plane r.0 r.1 r.2
