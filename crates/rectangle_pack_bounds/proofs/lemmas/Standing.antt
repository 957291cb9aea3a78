-- Where a box stands in a bin, in one of its ways: it has its cells there and at least its least rate, it is inside the
-- greatest size, and so some bin is large enough for it.
use Rattle.rectangle_pack_bounds.proofs.Std.{arith, ◌≡◌, ℕ, ◌≤◌, Bool, true, false, refl, ◌∙◌, List, [], ◌∷◌, map, All}
use Rattle.rectangle_pack_bounds.proofs.Std.{All-cons, All-nil, All-contains, All-contains_itself, Contains, list_any}
use Rattle.rectangle_pack_bounds.proofs.Std.{le-leb, Option, Some, None, IfSome, IfSome-lookup_from_All, lookup, values_of}
use Rattle.rectangle_pack_sections.specs.Boxes.{Size, Cuboid, IsInside, volume_of}
use Rattle.rectangle_pack_bounds.specs.declared.turning.TurningBox.{TurningBox}
use Rattle.rectangle_pack_bounds.specs.Turning.{about_x, about_y, about_z, ways_by, ways, fits_in, ways_in}
use Rattle.rectangle_pack_bounds.specs.DualFeasible.{rate_of}
use Rattle.rectangle_pack_bounds.specs.Ratings.{Ratings, rates_by, least_rate}
use Rattle.rectangle_pack_bounds.specs.Bounds.{enclosing, has_bin}
use Rattle.rectangle_pack_bounds.proofs.lemmas.Extremes.{le-greatest_by, least_of-le}
use Rattle.rectangle_pack_bounds.proofs.lemmas.Lists.{All-unmap, any-from_Contains}
use Rattle.rectangle_pack_sections.proofs.lemmas.util.Lists.{All-unfilter}
use Rattle.rectangle_pack_bounds.proofs.lemmas.BoxesByBin.{IsInsideFound}

-- a size has the same cells in each of its ways
turned_about_x : (s : Size) → volume_of (about_x s) ≡ volume_of s
turned_about_x s = omega arith

turned_about_y : (s : Size) → volume_of (about_y s) ≡ volume_of s
turned_about_y s = omega arith

turned_about_z : (s : Size) → volume_of (about_z s) ≡ volume_of s
turned_about_z s = omega arith

module _ (s : Size) where
  abbrev HasItsCells : Size → Type 0
  HasItsCells way = volume_of way ≡ volume_of s

  two_ways : (way : Size) → volume_of way ≡ volume_of s → All HasItsCells (s ∷ way ∷ [])
  two_ways way same = All-cons HasItsCells s (way ∷ []) refl (All-cons HasItsCells way [] same (All-nil HasItsCells))

  six_ways : All HasItsCells (s ∷ about_x s ∷ about_y s ∷ about_z s ∷ about_x (about_z s) ∷ about_z (about_x s) ∷ [])
  six_ways =
      All-cons HasItsCells s (about_x s ∷ about_y s ∷ about_z s ∷ about_x (about_z s) ∷ about_z (about_x s) ∷ []) refl
      (All-cons HasItsCells (about_x s) (about_y s ∷ about_z s ∷ about_x (about_z s) ∷ about_z (about_x s) ∷ [])
      (turned_about_x s)
      (All-cons HasItsCells (about_y s) (about_z s ∷ about_x (about_z s) ∷ about_z (about_x s) ∷ []) (turned_about_y s)
      (All-cons HasItsCells (about_z s) (about_x (about_z s) ∷ about_z (about_x s) ∷ []) (turned_about_z s)
      (two_turns))))
    where
      two_turns : All HasItsCells (about_x (about_z s) ∷ about_z (about_x s) ∷ [])
      two_turns =
          All-cons HasItsCells (about_x (about_z s)) (about_z (about_x s) ∷ [])
          (turned_about_x (about_z s) ∙ turned_about_z s)
          (All-cons HasItsCells (about_z (about_x s)) [] (turned_about_z (about_x s) ∙ turned_about_x s)
          (All-nil HasItsCells))

  ways_by-cells : (x y z : Bool) → All HasItsCells (ways_by x y z s)
  unfolding ways_by
  ways_by-cells false false false = All-cons HasItsCells s [] refl (All-nil HasItsCells)
  ways_by-cells true false false = two_ways (about_x s) (turned_about_x s)
  ways_by-cells false true false = two_ways (about_y s) (turned_about_y s)
  ways_by-cells false false true = two_ways (about_z s) (turned_about_z s)
  ways_by-cells true true z = six_ways
  ways_by-cells true false true = six_ways
  ways_by-cells false true true = six_ways

pub way_has_cells : (b : TurningBox) (s : Size) → Contains (ways b) s → volume_of s ≡ volume_of b.whd
way_has_cells b s h =
    All-contains (HasItsCells b.whd) (ways b) s (ways_by-cells b.whd b.turns.about_x b.turns.about_y b.turns.about_z) h

-- a box inside a bin fits in its size
fits_inside : (size : Size) (b : Cuboid) → IsInside size b → fits_in size b.whd ≡ true
fits_inside size b h =
    rw (
      le-leb b.whd.width size.width (omega (arith, h.within_x)),
      le-leb b.whd.height size.height (omega (arith, h.within_y)),
      le-leb b.whd.depth size.depth (omega (arith, h.within_z)),
    ) refl

-- the rate of a box that may be turned is at most that of each of its ways that fit
pub least_rate-le : (r : Ratings) (bin : Size) (b : TurningBox) (placed : Cuboid) → Contains (ways b) placed.whd
    → IsInside bin placed
    → least_rate r bin b ≤ rate_of (rates_by r bin) placed.whd
least_rate-le r bin b placed stands inside =
    let rate : Size → ℕ = rate_of (rates_by r bin) in
    let least : ℕ = least_rate r bin b in
    let each = All-unmap (λ n. least ≤ n) rate (ways_in bin b) (least_of-le (map rate (ways_in bin b))) in
    let kept = All-unfilter (fits_in bin) (λ s. least ≤ rate s) (ways b) each in
    All-contains (λ s. fits_in bin s ≡ true → least ≤ rate s) (ways b) placed.whd kept stands (fits_inside bin placed inside)

-- inside one of the sizes is inside the one that encloses them
inside_enclosing : (sizes : List Size) (size : Size) (b : Cuboid) → Contains sizes size → IsInside size b
    → IsInside (enclosing sizes) b
inside_enclosing sizes size b h inside =
    let wide = All-contains (λ s. s.width ≤ (enclosing sizes).width) sizes size (le-greatest_by (λ s. s.width) sizes) h in
    let high = All-contains (λ s. s.height ≤ (enclosing sizes).height) sizes size (le-greatest_by (λ s. s.height) sizes) h in
    let deep = All-contains (λ s. s.depth ≤ (enclosing sizes).depth) sizes size (le-greatest_by (λ s. s.depth) sizes) h in
    record {
      within_x = omega (arith, wide, inside.within_x);
      within_y = omega (arith, high, inside.within_y);
      within_z = omega (arith, deep, inside.within_z);
    }

-- a size that was found, of these
module _ (sizes : List Size) (b : Cuboid) where
  found_encloses : (found : Option Size) → IfSome found (Contains sizes) → IsInsideFound found b
      → IsInside (enclosing sizes) b
  found_encloses None listed inside = absurd inside
  found_encloses (Some size) listed inside = inside_enclosing sizes size b listed inside

  found_has_bin : (box : TurningBox) (found : Option Size) → IfSome found (Contains sizes) → IsInsideFound found b
      → Contains (ways box) b.whd → has_bin sizes box ≡ true
  found_has_bin box None listed inside stands = absurd inside
  found_has_bin box (Some size) listed inside stands =
      any-from_Contains (λ bin. list_any (fits_in bin) (ways box)) sizes size listed
      (any-from_Contains (fits_in size) (ways box) b.whd stands (fits_inside size b inside))

-- and one that a look-up finds
module _ {B : Type 0} (bins : List (B × Size)) (test : B → Bool) (b : Cuboid)
    (inside : IsInsideFound (lookup test bins) b) where
  listed : IfSome (lookup test bins) (Contains (values_of bins))
  listed = IfSome-lookup_from_All (Contains (values_of bins)) test bins (All-contains_itself (values_of bins))

  pub inside_greatest : IsInside (enclosing (values_of bins)) b
  inside_greatest = found_encloses (values_of bins) b (lookup test bins) listed inside

  pub has_some_bin : (box : TurningBox) → Contains (ways box) b.whd → has_bin (values_of bins) box ≡ true
  has_some_bin box stands = found_has_bin (values_of bins) b box (lookup test bins) listed inside stands
