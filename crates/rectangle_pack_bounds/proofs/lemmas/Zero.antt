-- Where a scale is 0, each length that fits is rated 0, and so is each box.
use Rattle.std.proofs.Common.{◌≡◌, ℕ, zero, suc, ◌+◌, ◌-◌, ◌*◌, ◌/◌, ◌%◌, ◌≤◌, Bool, true, false, cond, nat_lt, nat_eq, List, [], ◌∷◌, All, map, filter, sum_by, refl, ap, ◌∙◌, arith, inl, inr, ◌⊎◌}
use Rattle.std.proofs.Math.Nat.{div-zero, zero-mul, mul-zero, mod_self, div-add-mod}
use Rattle.std.proofs.lemmas.Nat.{div_below, le-div}
use Rattle.std.proofs.lemmas.Bool.{cases_lt}
use Rattle.std.proofs.lemmas.Bool.Decides.{nat_tests}
use Rattle.std.proofs.lemmas.List.Elements.{All-head, All-weaker, filter_passes}
use Rattle.std.proofs.lemmas.List.Sums.{sum_by-cons}
use Rattle.rectangle_pack_sections.specs.Boxes.{Size, volume_of}
use Rattle.rectangle_pack_bounds.specs.declared.rating.Rating.{Rating}
use Rattle.rectangle_pack_bounds.specs.declared.rating.Rating.TheVariants.{Rounded, InParts, InPieces}
use Rattle.rectangle_pack_bounds.specs.declared.turning.TurningBox.{TurningBox}
use Rattle.rectangle_pack_bounds.specs.DualFeasible.{rounded, in_parts, in_pieces, rate_of}
use Rattle.rectangle_pack_bounds.specs.Turning.{ways, fits_in}
use Rattle.rectangle_pack_bounds.specs.Ratings.{Ratings, rate_by, rates_by, scale_by, scales_by, least_of, least_rate}

-- a product is 0 where a factor is
pub a_factor : (a b : ℕ) → a * b ≡ 0 → (a ≡ 0) ⊎ (b ≡ 0)
a_factor zero b e = inl refl
a_factor (suc a) zero e = inr refl
a_factor (suc a) (suc b) e = absurd (grind arith)

rounded_none : (along least x : ℕ) → along ≡ 0 → x ≤ along → rounded along least x ≡ 0
rounded_none along least x e le = grind (arith, nat_tests)

either_none : (b : Bool) (m n : ℕ) → m ≡ 0 → n ≡ 0 → cond b m n ≡ 0
either_none true m n e f = e
either_none false m n e f = f

-- in one part, and on an axis of length 0
in_one_part : (along x : ℕ) → x ≤ along → in_parts along 0 x ≡ 0
in_one_part along x le =
    let one : (0 + 1) * x ≡ x = omega arith in
    elim (cases_lt x along) [
      | inl lt ↦
          let none : x / along ≡ 0 = omega (arith, div_below x along 1 (omega arith) (omega arith)) in
          either_none (nat_eq ((0 + 1) * x % along) 0) (0 * x) (along * ((0 + 1) * x / along)) (zero-mul x)
          (ap (λ y. along * (y / along)) one ∙ ap (λ q. along * q) none ∙ mul-zero along)
      | inr whole ↦
          let same : x ≡ along = omega arith in
          let rest : (0 + 1) * x % along ≡ 0 = ap (λ y. y % along) (one ∙ same) ∙ mod_self along in
          let test : nat_eq ((0 + 1) * x % along) 0 ≡ true = ap (λ y. nat_eq y 0) rest in
          ap (λ t. cond t (0 * x) (along * ((0 + 1) * x / along))) test ∙ zero-mul x
    ]

in_parts_nowhere : (along parts x : ℕ) → along ≡ 0 → x ≤ along → in_parts along parts x ≡ 0
in_parts_nowhere along parts x e le =
    let none : x ≡ 0 = omega arith in
    either_none (nat_eq ((parts + 1) * x % along) 0) (parts * x) (along * ((parts + 1) * x / along))
    (ap (λ y. parts * y) none ∙ mul-zero parts) (ap (λ y. y * ((parts + 1) * x / along)) e ∙ zero-mul ((parts + 1) * x / along))

quotient_none : (along piece x : ℕ) → along / piece ≡ 0 → x ≤ along → x / piece ≡ 0
quotient_none along zero x e le = div-zero x
quotient_none along (suc piece) x e le =
    let whole : x / suc piece * suc piece ≤ x = omega (arith, div-add-mod x (suc piece)) in
    omega (arith, le-div (x / suc piece) along (suc piece) (omega arith) (omega arith))

in_pieces_none : (along piece x : ℕ) → along / piece ≡ 0 → x ≤ along → in_pieces along piece x ≡ 0
in_pieces_none along piece x e le =
    let held = quotient_none along piece x e le in
    either_none (nat_lt along (2 * x)) (2 * (along / piece - (along - x) / piece)) _ (omega arith)
    (either_none (nat_lt (2 * x) along) (2 * (x / piece)) (along / piece) (omega arith) e)

rate_none : (r : Rating) (along x : ℕ) → scale_by r along ≡ 0 → x ≤ along → rate_by r along x ≡ 0
rate_none (Rounded least) along x e le = rounded_none along least x e le
rate_none (InParts parts) along x e le =
    elim (a_factor parts along e) [ inl none ↦ rw none (in_one_part along x le) | inr none ↦ in_parts_nowhere along parts x none le ]
rate_none (InPieces piece) along x e le = in_pieces_none along piece x (omega arith) le

-- a product of three is 0 where a factor is
three_factors : (a b d : ℕ) → a * b * d ≡ 0 → (a ≡ 0) ⊎ ((b ≡ 0) ⊎ (d ≡ 0))
three_factors a b d e = elim (a_factor (a * b) d e) [ inl ab ↦ elim (a_factor a b ab) [ inl l ↦ inl l | inr m ↦ inr (inl m) ] | inr n ↦ inr (inr n) ]

product_none : (a b d : ℕ) → (a ≡ 0) ⊎ ((b ≡ 0) ⊎ (d ≡ 0)) → a * b * d ≡ 0
product_none a b d (inl e) = ap (λ x. x * b * d) e ∙ ap (λ x. x * d) (zero-mul b) ∙ zero-mul d
product_none a b d (inr (inl e)) = ap (λ x. a * x * d) e ∙ ap (λ x. x * d) (mul-zero a) ∙ zero-mul d
product_none a b d (inr (inr e)) = ap (λ x. a * b * x) e ∙ mul-zero (a * b)

-- a size that fits
record Fits (bin s : Size) : Type 0 where
  wide : s.width ≤ bin.width
  high : s.height ≤ bin.height
  deep : s.depth ≤ bin.depth

fits_from_test : (bin s : Size) → fits_in bin s ≡ true → Fits bin s
fits_from_test bin s h = record { wide = grind (arith, nat_tests); high = grind (arith, nat_tests); deep = grind (arith, nat_tests) }

size_none : (r : Ratings) (bin s : Size) → volume_of (scales_by r bin) ≡ 0 → fits_in bin s ≡ true → rate_of (rates_by r bin) s ≡ 0
size_none r bin s e h =
    let fits = fits_from_test bin s h in
    product_none _ _ _ (elim (three_factors (scale_by r.of_width bin.width) (scale_by r.of_height bin.height) (scale_by r.of_depth bin.depth) e) [
      | inl w ↦ inl (rate_none r.of_width bin.width s.width w fits.wide)
      | inr (inl h) ↦ inr (inl (rate_none r.of_height bin.height s.height h fits.high))
      | inr (inr d) ↦ inr (inr (rate_none r.of_depth bin.depth s.depth d fits.deep))
    ])

least_none : (f : Size → ℕ) (sizes : List Size) → All (λ s. f s ≡ 0) sizes → least_of (map f sizes) ≡ 0
least_none f [] h = refl
least_none f (s ∷ []) h = All-head (λ s. f s ≡ 0) s [] h
least_none f (s ∷ t ∷ sizes) h = omega (arith, All-head (λ s. f s ≡ 0) s (t ∷ sizes) h)

box_none : (r : Ratings) (bin : Size) (b : TurningBox) → volume_of (scales_by r bin) ≡ 0 → least_rate r bin b ≡ 0
box_none r bin b e =
    least_none (rate_of (rates_by r bin)) (filter (fits_in bin) (ways b))
    (All-weaker (λ s. fits_in bin s ≡ true) (λ s. rate_of (rates_by r bin) s ≡ 0) (λ s h. size_none r bin s e h) (filter (fits_in bin) (ways b)) (filter_passes (fits_in bin) (ways b)))

-- where a scale is 0, boxes are rated 0, together
pub boxes_none : (r : Ratings) (bin : Size) (boxes : List TurningBox) → volume_of (scales_by r bin) ≡ 0 → sum_by (least_rate r bin) boxes ≡ 0
boxes_none r bin [] e = refl
boxes_none r bin (b ∷ boxes) e = sum_by-cons (least_rate r bin) b boxes ∙ omega (arith, box_none r bin b e, boxes_none r bin boxes e)
