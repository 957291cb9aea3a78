-- How often a box stands in a list.
use Rattle.rectangle_pack_sections.proofs.Std.{ℕ, ◌+◌, ◌<◌, ◌≤◌, ◌≡◌, ◌≢◌, Bool, true, false, not, cond, eqb, List, [], ◌∷◌, ◌++◌, refl, sym, ap, subst, arith}
use Rattle.rectangle_pack_sections.proofs.Std.{inl, inr, ◌⊎◌, All, Contains, filter, count_by, get_or, remove, IsPermutation, eqb-true, eq-eqb, and_parts}
use Rattle.rectangle_pack_sections.proofs.Std.{cases_Bool, cases_lt, both_ways, false_from_ne_true, filter_passes, All-weaker, All-contains}
use Rattle.rectangle_pack_sections.proofs.Std.{All-contains_itself, sum_by-filter_both, sum_by-IsPermutation, IsPermutation-remove}
use Rattle.rectangle_pack_sections.specs.Boxes.{Cuboid}
use Rattle.rectangle_pack_sections.specs.CutTrees.{is_same_box, times_in}
use Rattle.rectangle_pack_sections.proofs.lemmas.cuts.Counting.{count-append, count_yes, count_no, some_from_count, count_from_some}

is_same_box-refl : (b : Cuboid) → is_same_box b b ≡ true
unfolding is_same_box
is_same_box-refl b =
    let e : (n : ℕ) → eqb n n ≡ true = λ n. eq-eqb n n refl in
    rw (e b.x, e b.y, e b.z, e b.whd.width, e b.whd.height, e b.whd.depth)

-- boxes with one corner and one size are one
pub box_ext : (b e : Cuboid) → b.x ≡ e.x → b.y ≡ e.y → b.z ≡ e.z → b.whd.width ≡ e.whd.width → b.whd.height ≡ e.whd.height → b.whd.depth ≡ e.whd.depth → b ≡ e
box_ext b e x y z w h d = λ i. record { x = x i; y = y i; z = z i; whd = record { width = w i; height = h i; depth = d i } }

is_same_box-true : (b e : Cuboid) → is_same_box b e ≡ true → b ≡ e
unfolding is_same_box
is_same_box-true b e same =
    let d = and_parts _ _ same in
    let h = and_parts _ _ d.0 in
    let w = and_parts _ _ h.0 in
    let z = and_parts _ _ w.0 in
    let xy = and_parts _ _ z.0 in
    box_ext b e (eqb-true _ _ xy.0) (eqb-true _ _ xy.1) (eqb-true _ _ z.1) (eqb-true _ _ w.1) (eqb-true _ _ h.1) (eqb-true _ _ d.1)

pub cases_box : (b e : Cuboid) → (b ≡ e) ⊎ (b ≢ e)
cases_box b e = elim (cases_Bool (is_same_box b e)) [
  | inl t ↦ inl (is_same_box-true b e t)
  | inr f ↦ inr (λ p. both_ways (is_same_box b e) f (rw p (is_same_box-refl e)))
]

pub times_in-nil : (b : Cuboid) → times_in b [] ≡ 0
unfolding times_in
times_in-nil b = refl

pub times_in-cons : (b e : Cuboid) (bs : List Cuboid) → times_in b (e ∷ bs) ≡ times_in b (e ∷ []) + times_in b bs
unfolding times_in
times_in-cons b e bs = count-append (is_same_box b) (e ∷ []) bs

pub times_in-append : (b : Cuboid) (bs es : List Cuboid) → times_in b (bs ++ es) ≡ times_in b bs + times_in b es
unfolding times_in
times_in-append b bs es = count-append (is_same_box b) bs es

pub times_in-same : (b : Cuboid) (bs : List Cuboid) → times_in b (b ∷ bs) ≡ 1 + times_in b bs
unfolding times_in
times_in-same b bs = count_yes (is_same_box b) b bs (is_same_box-refl b)

pub times_in-other : (b e : Cuboid) (bs : List Cuboid) → b ≢ e → times_in b (e ∷ bs) ≡ times_in b bs
unfolding times_in
times_in-other b e bs n = count_no (is_same_box b) e bs (false_from_ne_true _ (λ h. n (is_same_box-true b e h)))

pub times_in-permutation : (b : Cuboid) (bs es : List Cuboid) → IsPermutation bs es → times_in b es ≡ times_in b bs
unfolding times_in
times_in-permutation b bs es h = sum_by-IsPermutation (λ e. cond (is_same_box b e) 1 0) bs es h

pub Contains-times_in : (b : Cuboid) (bs : List Cuboid) → 0 < times_in b bs → Contains bs b
unfolding times_in
Contains-times_in b bs some =
    let r = some_from_count (is_same_box b) bs some in
    (r.0, r.2, subst (λ e. get_or bs r.0 e ≡ e) (sym (is_same_box-true b r.1 r.4)) r.3)

times_in-contains : (b : Cuboid) (bs : List Cuboid) → Contains bs b → 0 < times_in b bs
unfolding times_in
times_in-contains b bs there = count_from_some (is_same_box b) bs (there.0, b, there.1, there.2, is_same_box-refl b)

-- what holds of each entry holds of each box that stands in the list, and conversely
pub All-times_in : (P : Cuboid → Type 0) (b : Cuboid) (bs : List Cuboid) → All P bs → 0 < times_in b bs → P b
All-times_in P b bs all some = All-contains P bs b all (Contains-times_in b bs some)

pub All-from_times_in : (P : Cuboid → Type 0) (bs : List Cuboid) → ((b : Cuboid) → 0 < times_in b bs → P b) → All P bs
All-from_times_in P bs h = All-weaker (Contains bs) P (λ b there. h b (times_in-contains b bs there)) bs (All-contains_itself bs)

-- a box that fails a filter is dropped, and one that passes stays as often
pub times_in-dropped : (t : Cuboid → Bool) (b : Cuboid) (bs : List Cuboid) → t b ≡ false → times_in b (filter t bs) ≡ 0
times_in-dropped t b bs fails = elim (cases_lt 0 (times_in b (filter t bs))) [
  | inl some ↦ absurd (both_ways (t b) fails (All-times_in (λ e. t e ≡ true) b (filter t bs) (filter_passes t bs) some))
  | inr none ↦ omega arith
]

times_in-both : (t : Cuboid → Bool) (b : Cuboid) (bs : List Cuboid) → times_in b (filter t bs) + times_in b (filter (λ e. not (t e)) bs) ≡ times_in b bs
unfolding times_in
times_in-both t b bs = sum_by-filter_both t (λ e. not (t e)) (λ e. refl) (λ e. cond (is_same_box b e) 1 0) bs

pub times_in-filter : (t : Cuboid → Bool) (b : Cuboid) (bs : List Cuboid) → times_in b (filter t bs) ≤ times_in b bs
times_in-filter t b bs = omega (arith, times_in-both t b bs)

pub times_in-kept : (t : Cuboid → Bool) (b : Cuboid) (bs : List Cuboid) → t b ≡ true → times_in b (filter t bs) ≡ times_in b bs
times_in-kept t b bs passes = omega (arith, times_in-both t b bs, times_in-dropped (λ e. not (t e)) b bs (ap not passes))

-- some box that stands in the list passes a test that counts
pub which_passes : (q : Cuboid → Bool) (bs : List Cuboid) → 0 < count_by q bs → (b : Cuboid) × (q b ≡ true) × (0 < times_in b bs)
which_passes q bs some = let r = some_from_count q bs some in (r.1, r.4, times_in-contains r.1 bs (r.0, r.2, r.3))

pub passes_counted : (q : Cuboid → Bool) (b : Cuboid) (bs : List Cuboid) → q b ≡ true → 0 < times_in b bs → 0 < count_by q bs
passes_counted q b bs passes some = let there = Contains-times_in b bs some in count_from_some q bs (there.0, b, there.1, there.2, passes)

-- a box that stands in a list can stand in front
pub in_front : (b : Cuboid) (bs : List Cuboid) → 0 < times_in b bs → (others : List Cuboid) × IsPermutation bs (b ∷ others)
in_front b bs some = let there = Contains-times_in b bs some in (remove bs there.0, IsPermutation-remove bs there.0 b there.1 (sym there.2))
