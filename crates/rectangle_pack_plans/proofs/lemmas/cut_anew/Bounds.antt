-- The bounds of boxes.
use Rattle.rectangle_pack_sections.proofs.Std.{ℕ, ◌+◌, ◌<◌, ◌≤◌, ◌≡◌, min, max, List, length, take, get_or, refl, sym, subst, arith, inl, inr}
use Rattle.rectangle_pack_sections.proofs.Std.{All, Any, All-more, All-weaker, cases_lt, take_all}
use Rattle.rectangle_pack_sections.specs.declared.axis.Axis.{Axis}
use Rattle.rectangle_pack_sections.specs.declared.axis.Axis.TheVariants.{X, Y, Z}
use Rattle.rectangle_pack_sections.specs.declared.span.Span.{Span}
use Rattle.rectangle_pack_sections.specs.Boxes.{Size, Cuboid, IsPartOf, FitsU32, extent, start, end}
use Rattle.rectangle_pack_plans.specs.CuttingAnew.{AreBounds}
use Rattle.rectangle_pack_plans.specs.private.CuttingAnew.{IsHullOn, IsHull}
use Rattle.rectangle_pack_sections.proofs.lemmas.cuts.Axes.{end-is, is_part, IsPartOf-trans}

-- on each axis a box ends within 32 bits
pub fits_on : (a : Axis) (b : Cuboid) → FitsU32 b → start a b + extent a b.whd < 4294967296
unfolding start extent
fits_on X b fits = fits.fits_x
fits_on Y b fits = fits.fits_y
fits_on Z b fits = fits.fits_z

fits_from : (b : Cuboid) → ((a : Axis) → end a b < 4294967296) → FitsU32 b
unfolding start extent end
fits_from b h = record { fits_x = h X; fits_y = h Y; fits_z = h Z }

-- the box of three spans
box_of : Span → Span → Span → Cuboid
box_of x y z = record { x = x.start; y = y.start; z = z.start; whd = record { width = x.length; height = y.length; depth = z.length } }

IsHull-box_of : (first second : Cuboid) (x y z : Span) → IsHullOn X first second x → IsHullOn Y first second y → IsHullOn Z first second z
    → IsHull first second (box_of x y z)
unfolding box_of start extent end
IsHull-box_of first second x y z on_x on_y on_z = record {
  starts = λ a. elim a as (λ a. start a (box_of x y z) ≡ min (start a first) (start a second)) [ X ↦ on_x.0 | Y ↦ on_y.0 | Z ↦ on_z.0 ];
  ends = λ a. elim a as (λ a. end a (box_of x y z) ≡ max (end a first) (end a second)) [ X ↦ on_x.1 | Y ↦ on_y.1 | Z ↦ on_z.1 ];
}

-- a box that runs on each axis over those of two boxes
pub IsHull-spans : (first second b : Cuboid) (x y z : Span) (whd : Size) → IsHullOn X first second x → IsHullOn Y first second y → IsHullOn Z first second z
    → whd ≡ record { width = x.length; height = y.length; depth = z.length } → b ≡ record { x = x.start; y = y.start; z = z.start; whd = whd }
    → IsHull first second b
unfolding box_of
IsHull-spans first second b x y z whd on_x on_y on_z sides is = rw (is, sides) (IsHull-box_of first second x y z on_x on_y on_z)

-- the bounds of the first i boxes; what they start and end with is one of all boxes
pub record AreBoundsSoFar (boxes : List Cuboid) (i : ℕ) (bounds : Cuboid) : Type 0 where
  pub inside : All (λ b. IsPartOf b bounds) (take i boxes)
  pub starts : (a : Axis) → Any (λ b. start a b ≡ start a bounds) boxes
  pub ends : (a : Axis) → Any (λ b. end a b ≡ end a bounds) boxes
  pub fits : FitsU32 bounds

module _ (boxes : List Cuboid) (fit : All FitsU32 boxes) where
  pub AreBounds-first : (b : Cuboid) → 0 < length boxes → b ≡ get_or boxes 0 b → AreBoundsSoFar boxes 0 b
  AreBounds-first b some at = record {
    inside = λ i d lt. absurd (omega (arith, lt));
    starts = λ a. (0, b, some, sym at, refl);
    ends = λ a. (0, b, some, sym at, refl);
    fits = subst FitsU32 (sym at) (fit 0 b some);
  }

  pub AreBounds-more : (i : ℕ) (bounds next more : Cuboid) → i < length boxes → next ≡ get_or boxes i next → IsHull bounds next more
      → AreBoundsSoFar boxes i bounds → AreBoundsSoFar boxes (i + 1) more
  AreBounds-more i bounds next more within at hull h =
      let fits : FitsU32 next = subst FitsU32 (sym at) (fit i next within) in
      let old : IsPartOf bounds more = is_part bounds more (λ a. (omega (arith, hull.starts a), omega (arith, hull.ends a))) in
      let new : IsPartOf next more = is_part next more (λ a. (omega (arith, hull.starts a), omega (arith, hull.ends a))) in
      record {
        inside = All-more (λ b. IsPartOf b more) boxes i next within
            (All-weaker (λ b. IsPartOf b bounds) (λ b. IsPartOf b more) (λ b k. IsPartOf-trans b bounds more k old) (take i boxes) h.inside)
            (subst (λ b. IsPartOf b more) at new);
        starts = λ a. elim (cases_lt (start a next) (start a bounds)) [
          | inl lt ↦ (i, next, within, sym at, omega (arith, hull.starts a))
          | inr ge ↦ let r = h.starts a in (r.0, r.1, r.2, r.3, omega (arith, r.4, hull.starts a))
        ];
        ends = λ a. elim (cases_lt (end a bounds) (end a next)) [
          | inl lt ↦ (i, next, within, sym at, omega (arith, hull.ends a))
          | inr ge ↦ let r = h.ends a in (r.0, r.1, r.2, r.3, omega (arith, r.4, hull.ends a))
        ];
        fits = fits_from more (λ a. omega (arith, hull.ends a, fits_on a bounds h.fits, fits_on a next fits, end-is a bounds, end-is a next));
      }

  pub AreBounds-all : (i : ℕ) (bounds : Cuboid) → length boxes ≤ i → AreBoundsSoFar boxes i bounds → AreBounds boxes bounds
  AreBounds-all i bounds all h = record { inside = subst (All (λ b. IsPartOf b bounds)) (take_all i boxes all) h.inside; starts = h.starts; ends = h.ends }
