-- Free sections by thickness and by the volume of their rooms.
use Rattle.rectangle_pack_sections.proofs.Std.{ℕ, ◌+◌, ◌-◌, ◌*◌, ◌^◌, ◌<◌, ◌≤◌, ◌≡◌, List, [], ◌∷◌, length, map, get_or, set, refl, ap, sym, ◌∙◌, subst, arith}
use Rattle.rectangle_pack_sections.proofs.Std.{Bool, false, All, mul-le-mul_right, inl, inr, IsNonDecreasingBy, cases_Bool, cases_lt, both_ways, nat_lt}
use Rattle.rectangle_pack_sections.proofs.Std.{IsPermutation, IsPermutation-refl, IsPermutation-trans, All-permutation, get_or-map, length-map}
use Rattle.rectangle_pack_sections.proofs.Std.{Less, Equal, nat_cmp, is_lt, ordering_then}
use Rattle.std.specs.Cmp.{nat_cmp_is}
use Rattle.std.specs.List.{swap}
use Rattle.std.specs.List.Sorted.{IsSortedBy}
use Rattle.std.proofs.lemmas.List.{map-set}
use Rattle.std.proofs.lemmas.Simd.{map-map}
use Rattle.std.proofs.lemmas.List.Edits.{swap_is}
use Rattle.std.proofs.lemmas.List.Sorted.{IsPermutation-keeps, IsPermutation-swap, IsNonDecreasingBy-from_all_adjacent}
use Rattle.rectangle_pack_plans.specs.declared.cut_anew.order.Ranked.{Ranked}
use Rattle.rectangle_pack_sections.specs.Boxes.{Size, Cuboid, FitsU32, volume_of}
use Rattle.rectangle_pack_plans.specs.declared.cut_anew.strips.FreeSection.{FreeSection}
use Rattle.rectangle_pack_sections.specs.LeastSides.{side_that_counts, least_side}
use Rattle.rectangle_pack_plans.specs.CuttingAnew.{AreThickestFirst, sections_alone}
use Rattle.rectangle_pack_plans.specs.private.CuttingAnew.{HaveBothFit, thickness_rank, ranked}

-- a product of three numbers of 32 bits is less than 2^96
product_fits : (w h d : ℕ) → w ≤ 4294967295 → h ≤ 4294967295 → d ≤ 4294967295 → w * h * d < 2 ^ 96
product_fits w h d x y z =
    let one : w * h ≤ 4294967295 * h = mul-le-mul_right h x in
    let two : (w * h) * d ≤ 18446744065119617025 * d = mul-le-mul_right d (omega (arith, one, y)) in
    omega (arith, two, z)

volume_fits : (b : Cuboid) → FitsU32 b → volume_of b.whd < 2 ^ 96
volume_fits b fits = product_fits b.whd.width b.whd.height b.whd.depth (omega (arith, fits.fits_x)) (omega (arith, fits.fits_y)) (omega (arith, fits.fits_z))

-- the least side is at most the greatest number of 32 bits
side_fits : (cells side : ℕ) → side ≤ 4294967295 → side_that_counts cells side ≤ 4294967295
side_fits cells side h = elim (cases_Bool (nat_lt 1 cells)) [ inl t ↦ rw t h | inr f ↦ rw f (omega arith) ]

least_fits : (bin : Size) (b : Cuboid) → FitsU32 b → least_side bin b.whd ≤ 4294967295
least_fits bin b fits = omega (arith, side_fits bin.width b.whd.width (omega (arith, fits.fits_x)))

-- what two ranks say
ranks_say : (l m v w : ℕ) → l ≤ 4294967295 → m ≤ 4294967295 → v < 2 ^ 96 → w < 2 ^ 96
    → (4294967295 - l) * 2 ^ 96 + v ≤ (4294967295 - m) * 2 ^ 96 + w → (m ≤ l) × (l ≡ m → v ≤ w)
ranks_say l m v w p q s t h = (omega (arith, p, q, s, t, h), λ e. omega (arith, e, h))

-- what two pairs say, of which the second parts are less than 2^96
pairs_say : (a b v w : ℕ) → v < 2 ^ 96 → w < 2 ^ 96 → a * 2 ^ 96 + v ≤ b * 2 ^ 96 + w → (a ≤ b) × (a ≡ b → v ≤ w)
pairs_say a b v w s t h = (omega (arith, s, t, h), λ e. omega (arith, e, h))

-- a pair that is not less than another
pairs_rise : (a b v w : ℕ) → is_lt (ordering_then (nat_cmp a b) (nat_cmp v w)) ≡ false → v < 2 ^ 96 → w < 2 ^ 96 → b * 2 ^ 96 + w ≤ a * 2 ^ 96 + v
pairs_rise a b v w h s t = elim (cases_lt a b) [
  | inl lt ↦ absurd (both_ways _ h (sym (ap (λ o. is_lt (ordering_then o (nat_cmp v w))) (nat_cmp_is a b Less lt))))
  | inr ge ↦ elim (cases_lt b a) [
    | inl gt ↦ omega (arith, gt, s, t)
    | inr le ↦
        let same : a ≡ b = omega (arith, ge, le) in
        let then : is_lt (nat_cmp v w) ≡ false = ap (λ o. is_lt (ordering_then o (nat_cmp v w))) (nat_cmp_is a b Equal same) ∙ h in
        elim (cases_lt v w) [
          | inl lt ↦ absurd (both_ways _ then (sym (ap is_lt (nat_cmp_is v w Less lt))))
          | inr le ↦ omega (arith, same, le)
        ]
  ]
]

-- by the rank of a free section and then by its volume
abbrev both_ranks : Size → FreeSection → ℕ
both_ranks bin f = thickness_rank bin f * 2 ^ 96 + volume_of f.section.whd

ranks_stand : (bin : Size) (free : List FreeSection) → All HaveBothFit free → IsNonDecreasingBy (both_ranks bin) free → AreThickestFirst bin free
ranks_stand bin free fit rises i j d lt within =
    let a = get_or free i d in
    let b = get_or free j d in
    let one = fit i d (omega (arith, lt, within)) in
    let two = fit j d within in
    let v = volume_fits a.section one.section in
    let w = volume_fits b.section two.section in
    let up = rises i j d (omega (arith, lt)) within in
    let rank : thickness_rank bin a ≤ thickness_rank bin b = (pairs_say (thickness_rank bin a) (thickness_rank bin b) _ _ v w up).0 in
    let r = ranks_say (least_side bin a.section.whd) (least_side bin b.section.whd) (volume_of a.room.whd) (volume_of b.room.whd)
    (least_fits bin a.section one.section) (least_fits bin b.section two.section) (volume_fits a.room one.room) (volume_fits b.room two.room) rank in
    record {
      thickness = r.0;
      room = r.1;
      volume = λ e f. (pairs_say (thickness_rank bin a) (thickness_rank bin b) _ _ v w up).1
          (ap (λ l. (4294967295 - l) * 2 ^ 96 + volume_of a.room.whd) e ∙ ap (λ r. (4294967295 - least_side bin b.section.whd) * 2 ^ 96 + r) f);
    }

-- a list in another order whose elements are images is the image of a list in another order
swapped : {P X : Type 0} (f : P → X) (xs : List P) (i j : ℕ) → i < length xs → j < length xs → swap (map f xs) i j ≡ map f (swap xs i j)
swapped f [] i j p q = absurd (omega (arith, p))
swapped f (d ∷ ds) i j p q =
    let xs = d ∷ ds in
    let long = length-map xs f in
    let ends : set (set (map f xs) i (get_or (map f xs) j (f d))) j (get_or (map f xs) i (f d)) ≡ map f (set (set xs i (get_or xs j d)) j (get_or xs i d)) =
    rw (get_or-map f xs j d (f d) q, get_or-map f xs i d (f d) p)
    (sym (map-set f (set xs i (get_or xs j d)) j (get_or xs i d) ∙ ap (λ l. set l j (f (get_or xs i d))) (map-set f xs i (get_or xs j d)))) in
    sym (swap_is (map f xs) i j (f d) (omega (arith, long, p)) (omega (arith, long, q))) ∙ ends ∙ ap (map f) (swap_is xs i j d p q)

images_moved : {P X : Type 0} (f : P → X) (xs : List P) (ys : List X) → IsPermutation (map f xs) ys
    → (zs : List P) × (ys ≡ map f zs) × IsPermutation xs zs
images_moved {P} f xs ys moved = IsPermutation-keeps (map f xs) (λ l. (zs : List P) × (l ≡ map f zs) × IsPermutation xs zs)
    (xs, refl, IsPermutation-refl xs)
    (λ l i j p q (zs, is, so_far).
    let a : i < length zs = omega (arith, p, ap length is, length-map zs f) in
    let b : j < length zs = omega (arith, q, ap length is, length-map zs f) in
    (swap zs i j, ap (λ k. swap k i j) is ∙ swapped f zs i j a b, IsPermutation-trans xs zs (swap zs i j) so_far (IsPermutation-swap zs (swap zs i j) i j a b refl)))
    ys moved

-- one ranked free section is before another
abbrev goes_before : Ranked → Ranked → Bool
goes_before a b = is_lt (ordering_then (nat_cmp a.rank b.rank) (nat_cmp (volume_of a.section.whd) (volume_of b.section.whd)))

-- free sections that were ranked, put in the order of their ranks and taken out again
pub sorted_stand : (bin : Size) (free : List FreeSection) (all sorted : List Ranked) (sections : List Cuboid) → All HaveBothFit free
    → all ≡ map (ranked bin) free → IsPermutation all sorted → IsSortedBy goes_before sorted → sections ≡ map (λ (r : Ranked). r.section) sorted
    → (moved : List FreeSection) × IsPermutation free moved × AreThickestFirst bin moved × (sections ≡ sections_alone moved)
sorted_stand bin free all sorted sections fit are moves rises taken =
    let m = images_moved (ranked bin) free sorted (subst (λ l. IsPermutation l sorted) are moves) in
    let zs = m.0 in
    let all_fit = All-permutation HaveBothFit free zs m.2 fit in
    let rise : IsNonDecreasingBy (both_ranks bin) zs = IsNonDecreasingBy-from_all_adjacent (both_ranks bin) zs (λ k d lt.
    let a = get_or zs (k + 1) d in
    let b = get_or zs k d in
    let up = subst (IsSortedBy goes_before) m.1 rises k (ranked bin d) (omega arith) (omega (arith, lt, length-map zs (ranked bin))) in
    let one = get_or-map (ranked bin) zs (k + 1) d (ranked bin d) lt in
    let two = get_or-map (ranked bin) zs k d (ranked bin d) (omega (arith, lt)) in
    pairs_rise (thickness_rank bin a) (thickness_rank bin b) (volume_of a.section.whd) (volume_of b.section.whd)
    (sym (ap (λ r. goes_before r (get_or (map (ranked bin) zs) k (ranked bin d))) one ∙ ap (goes_before (ranked bin a)) two) ∙ up)
    (volume_fits a.section (all_fit (k + 1) d lt).section) (volume_fits b.section (all_fit k d (omega (arith, lt))).section)) in
    (zs, m.2, ranks_stand bin zs all_fit rise, taken ∙ ap (map (λ (r : Ranked). r.section)) m.1 ∙ map-map (λ (r : Ranked). r.section) (ranked bin) zs)
