-- The two parts of a box at a place on an axis.
use Rattle.rectangle_pack_sections.proofs.Std.{ℕ, ◌-◌, ◌<◌, ◌≤◌, ◌≡◌, ◌≢◌, true, false, refl, ap, arith, false_from_ne_true}
use Rattle.rectangle_pack_sections.specs.declared.axis.Axis.{Axis}
use Rattle.rectangle_pack_sections.specs.declared.axis.Axis.TheVariants.{X, Y, Z}
use Rattle.rectangle_pack_sections.specs.Boxes.{Cuboid, IsPartOf, extent, start, end, has_cells}
use Rattle.rectangle_pack_sections.specs.CutTrees.{lower, upper, IsPlaceOf}
use Rattle.rectangle_pack_sections.proofs.lemmas.cuts.Axes.{by_other, by_axis, end-is, runs_on, has_cells-by, StaysIn, is_part}
use Rattle.rectangle_pack_sections.proofs.lemmas.cuts.Times.{box_ext}

-- where the parts start and end on the axis of the cut
pub start-lower : (a : Axis) (p : ℕ) (b : Cuboid) → start a (lower a p b) ≡ start a b
unfolding start lower
start-lower X p b = refl
start-lower _ p b = refl

pub end-lower : (a : Axis) (p : ℕ) (b : Cuboid) → start a b ≤ p → end a (lower a p b) ≡ p
unfolding start extent end lower
end-lower X p b h = omega arith
end-lower _ p b h = omega arith

pub start-upper : (a : Axis) (p : ℕ) (b : Cuboid) → start a (upper a p b) ≡ p
unfolding start upper
start-upper X p b = refl
start-upper _ p b = refl

pub end-upper : (a : Axis) (p : ℕ) (b : Cuboid) → p ≤ end a b → end a (upper a p b) ≡ end a b
unfolding start extent end upper
end-upper X p b h = omega arith
end-upper _ p b h = omega arith

-- boxes that start and end alike on an axis
abbrev pub RunAlike : Cuboid → Cuboid → Axis → Type 0
RunAlike b d e = (start e b ≡ start e d) × (end e b ≡ end e d)

pub box_alike : (b d : Cuboid) → ((a : Axis) → RunAlike b d a) → b ≡ d
unfolding start extent end
box_alike b d h =
    let x = h X in let y = h Y in let z = h Z in
    box_ext b d x.0 y.0 z.0 (omega arith) (omega arith) (omega arith)

pub box_alike_on : (a : Axis) (b d : Cuboid) → RunAlike b d a → ((e : Axis) → a ≢ e → RunAlike b d e) → b ≡ d
box_alike_on a b d here others = box_alike b d (by_axis (RunAlike b d) a here others)

module _ (p : ℕ) (b : Cuboid) where
  pub lower_other : (a e : Axis) → a ≢ e → RunAlike (lower a p b) b e
  unfolding start extent end lower
  lower_other = by_other (λ a e. RunAlike (lower a p b) b e) (refl, refl) (refl, refl) (refl, refl) (refl, refl) (refl, refl) (refl, refl)

  pub upper_other : (a e : Axis) → a ≢ e → RunAlike (upper a p b) b e
  unfolding start extent end upper
  upper_other = by_other (λ a e. RunAlike (upper a p b) b e) (refl, refl) (refl, refl) (refl, refl) (refl, refl) (refl, refl) (refl, refl)

-- two cuts on one axis
pub lower-lower : (a : Axis) (p q : ℕ) (b : Cuboid) → lower a p (lower a q b) ≡ lower a p b
unfolding lower
lower-lower X p q b = refl
lower-lower _ p q b = refl

pub upper-upper : (a : Axis) (p q : ℕ) (b : Cuboid) → p ≤ end a b → upper a q (upper a p b) ≡ upper a q b
unfolding start extent end upper
upper-upper X p q b h = ap (λ n. record b { x = q; whd = record b.whd { width = n - q } }) (omega arith)
upper-upper Y p q b h = ap (λ n. record b { y = q; whd = record b.whd { height = n - q } }) (omega arith)
upper-upper Z p q b h = ap (λ n. record b { z = q; whd = record b.whd { depth = n - q } }) (omega arith)

-- the part between two places
pub upper-lower : (a : Axis) (p q : ℕ) (b : Cuboid) → start a b ≤ q → p ≤ end a b → upper a p (lower a q b) ≡ lower a q (upper a p b)
unfolding start extent end lower upper
upper-lower X p q b h k = ap (λ n. record b { x = p; whd = record b.whd { width = n - p } }) (omega arith)
upper-lower Y p q b h k = ap (λ n. record b { y = p; whd = record b.whd { height = n - p } }) (omega arith)
upper-lower Z p q b h k = ap (λ n. record b { z = p; whd = record b.whd { depth = n - p } }) (omega arith)

-- a cut at the start or at the end of a box leaves it as one part
pub upper-start : (a : Axis) (b : Cuboid) → upper a (start a b) b ≡ b
upper-start a b =
    let p = start a b in
    box_alike_on a (upper a p b) b (start-upper a p b, end-upper a p b (omega (arith, end-is a b))) (upper_other p b a)

pub lower-end : (a : Axis) (b : Cuboid) → lower a (end a b) b ≡ b
lower-end a b =
    let p = end a b in
    box_alike_on a (lower a p b) b (start-lower a p b, end-lower a p b (omega (arith, end-is a b))) (lower_other p b a)

-- cuts on two axes, in either order
module _ (p q : ℕ) (b : Cuboid) where
  pub lower-lower_other : (a e : Axis) → a ≢ e → lower a p (lower e q b) ≡ lower e q (lower a p b)
  unfolding lower
  lower-lower_other = by_other (λ a e. lower a p (lower e q b) ≡ lower e q (lower a p b)) refl refl refl refl refl refl

  pub lower-upper_other : (a e : Axis) → a ≢ e → lower a p (upper e q b) ≡ upper e q (lower a p b)
  unfolding lower upper
  lower-upper_other = by_other (λ a e. lower a p (upper e q b) ≡ upper e q (lower a p b)) refl refl refl refl refl refl

  pub upper-upper_other : (a e : Axis) → a ≢ e → upper a p (upper e q b) ≡ upper e q (upper a p b)
  unfolding upper
  upper-upper_other = by_other (λ a e. upper a p (upper e q b) ≡ upper e q (upper a p b)) refl refl refl refl refl refl

-- a place of the box is a place of both parts of a cut on another axis
module _ (a e : Axis) (p q : ℕ) (b : Cuboid) (other : a ≢ e) (place : IsPlaceOf e q b) where
  place_alike : (d : Cuboid) → RunAlike d b e → IsPlaceOf e q d
  place_alike d like = record { from = omega arith; to = omega arith }

  pub IsPlaceOf-lower_other : IsPlaceOf e q (lower a p b)
  IsPlaceOf-lower_other = place_alike (lower a p b) (lower_other p b a e other)

  pub IsPlaceOf-upper_other : IsPlaceOf e q (upper a p b)
  IsPlaceOf-upper_other = place_alike (upper a p b) (upper_other p b a e other)

part_alike : (d b : Cuboid) (a : Axis) → StaysIn d b a → ((e : Axis) → a ≢ e → RunAlike d b e) → IsPartOf d b
part_alike d b a here others = is_part d b (by_axis (StaysIn d b) a here (λ e n. (omega (arith, others e n), omega (arith, others e n))))

module _ (a : Axis) (p : ℕ) (b : Cuboid) (place : IsPlaceOf a p b) where
  pub lower-part : IsPartOf (lower a p b) b
  lower-part = part_alike (lower a p b) b a (omega (arith, start-lower a p b), omega (arith, end-lower a p b place.from)) (lower_other p b a)

  pub upper-part : IsPartOf (upper a p b) b
  upper-part = part_alike (upper a p b) b a (omega (arith, start-upper a p b), omega (arith, end-upper a p b place.to)) (upper_other p b a)

  -- a part that ends where it starts has no cells
  pub lower-empty : p ≤ start a b → has_cells (lower a p b) ≡ false
  lower-empty ge = false_from_ne_true _ (λ t. absurd (omega (arith, runs_on (lower a p b) t a, start-lower a p b, end-lower a p b place.from)))

  pub upper-empty : end a b ≤ p → has_cells (upper a p b) ≡ false
  upper-empty ge = false_from_ne_true _ (λ t. absurd (omega (arith, runs_on (upper a p b) t a, start-upper a p b, end-upper a p b place.to)))

-- the lower part has cells where the place is after the start
pub lower-cells : (a : Axis) (p : ℕ) (b : Cuboid) → start a b < p → has_cells b ≡ true → has_cells (lower a p b) ≡ true
lower-cells a p b lo cells = has_cells-by (lower a p b) (by_axis (λ e. start e (lower a p b) < end e (lower a p b)) a
    (omega (arith, start-lower a p b, end-lower a p b (omega arith)))
    (λ e n. omega (arith, runs_on b cells e, lower_other p b a e n)))
