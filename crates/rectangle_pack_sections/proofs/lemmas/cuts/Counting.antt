-- Counts of an element's passes, and what counts of cells say of boxes.
use Rattle.rectangle_pack_sections.proofs.Std.{arith, ◌≡◌, ℕ, zero, suc, ◌+◌, ◌<◌, ◌≤◌, Bool, true, false, List, [], ◌∷◌, ◌++◌, cond, refl, ap, IsTrue, inl}
use Rattle.rectangle_pack_sections.proofs.Std.{inr, All, Any, AllPairs, count_by, filter, cases_lt, cases_Bool, false_from_ne_true, both_ways, All-head}
use Rattle.rectangle_pack_sections.proofs.Std.{All-tail, AllPairs-cons, sum_by-append, count_by-le-length, get_or, get_or_default, get_or-le-sum_by}
use Rattle.rectangle_pack_sections.specs.Boxes.{Cuboid, Cell, IsCellOf, AreApart, is_cell_of, has_cells}
use Rattle.rectangle_pack_sections.specs.Counting.{times_filled, Tiles, AreAllApart, MakeUp}
use Rattle.rectangle_pack_sections.specs.Keeping.{KeepCells}
use Rattle.rectangle_pack_sections.proofs.lemmas.cuts.Boxes.{is_cell_of-true, is_cell_of-from, has_cells-from}
use Rattle.rectangle_pack_sections.proofs.lemmas.util.Lists.{AllPairs-head, AllPairs-tail}
use Rattle.rectangle_pack_sections.proofs.Std.{IsPermutation, sum_by-IsPermutation}

module _ {X : Type 0} (p : X → Bool) where
  pub count-cons : (x : X) (xs : List X) → count_by p (x ∷ xs) ≡ cond (p x) 1 0 + count_by p xs
  count-cons x xs = omega (arith, sum_by-append (λ x. cond (p x) 1 0) (x ∷ []) xs)

  pub count-append : (xs ys : List X) → count_by p (xs ++ ys) ≡ count_by p xs + count_by p ys
  count-append xs ys = sum_by-append (λ x. cond (p x) 1 0) xs ys

  pub count_yes : (x : X) (xs : List X) → p x ≡ true → count_by p (x ∷ xs) ≡ 1 + count_by p xs
  count_yes x xs t = let k : cond {A = ℕ} (p x) 1 0 ≡ 1 = rw t refl in omega (arith, k, count-cons x xs)

  pub count_no : (x : X) (xs : List X) → p x ≡ false → count_by p (x ∷ xs) ≡ count_by p xs
  count_no x xs t = let k : cond {A = ℕ} (p x) 1 0 ≡ 0 = rw t refl in omega (arith, k, count-cons x xs)

  pub some_from_count : (xs : List X) → 0 < count_by p xs → Any (λ x. IsTrue (p x)) xs
  some_from_count [] h = absurd (omega arith)
  some_from_count (x ∷ xs) h = elim (cases_Bool (p x)) [
    | inl t ↦ (zero, x, omega arith, refl, t)
    | inr f ↦ let r = some_from_count xs (omega (arith, count_no x xs f)) in (suc r.0, r.1, omega arith, r.3, r.4)
  ]

  pub count_from_some : (xs : List X) → Any (λ x. IsTrue (p x)) xs → 0 < count_by p xs
  count_from_some xs h =
      let one : cond {A = ℕ} (p (get_or xs h.0 h.1)) 1 0 ≡ 1 = rw (h.3, h.4) refl in
      omega (arith, one, get_or-le-sum_by (λ x. cond (p x) 1 0) xs h.0 h.1 h.2)

  count_once : (xs : List X) → count_by p xs ≤ 1 → AllPairs (λ a b. ¬ (IsTrue (p a) × IsTrue (p b))) xs
  count_once [] h = λ i j d lt below both. absurd (omega arith)
  count_once (x ∷ xs) h = AllPairs-cons (λ a b. ¬ (IsTrue (p a) × IsTrue (p b))) x xs
      (λ k d below both. omega (arith, count_yes x xs both.0, count_from_some xs (k, get_or xs k d, below, get_or_default xs k _ d below, both.1)))
      (count_once xs (omega (arith, count-cons x xs)))

  pub filter_all : (xs : List X) → All (λ x. p x ≡ true) xs → filter p xs ≡ xs
  filter_all [] h = refl
  filter_all (x ∷ xs) h = rw (All-head (λ x. p x ≡ true) x xs h) (ap (λ l. x ∷ l) (filter_all xs (All-tail (λ x. p x ≡ true) x xs h)))

  pub filter_none : (xs : List X) → All (λ x. p x ≡ false) xs → filter p xs ≡ []
  filter_none [] h = refl
  filter_none (x ∷ xs) h = rw (All-head (λ x. p x ≡ false) x xs h) (filter_none xs (All-tail (λ x. p x ≡ false) x xs h))

pub filled-append : (c : Cell) (xs ys : List Cuboid) → times_filled c (xs ++ ys) ≡ times_filled c xs + times_filled c ys
unfolding times_filled
filled-append c xs ys = count-append (is_cell_of c) xs ys

pub filled-cons : (c : Cell) (b : Cuboid) (bs : List Cuboid) → times_filled c (b ∷ bs) ≡ times_filled c (b ∷ []) + times_filled c bs
filled-cons c b bs = filled-append c (b ∷ []) bs

pub filled-nil : (c : Cell) → times_filled c [] ≡ 0
unfolding times_filled
filled-nil c = refl

pub filled_yes : (c : Cell) (b : Cuboid) (bs : List Cuboid) → IsCellOf c b → times_filled c (b ∷ bs) ≡ 1 + times_filled c bs
unfolding times_filled
filled_yes c b bs h = count_yes (is_cell_of c) b bs (is_cell_of-from c b h)

pub filled_none : (c : Cell) (b : Cuboid) → has_cells b ≡ false → times_filled c (b ∷ []) ≡ 0
unfolding times_filled
filled_none c b empty = count_no (is_cell_of c) b [] (false_from_ne_true _ (λ t. both_ways _ empty (has_cells-from c b t)))

-- one box has a cell at most once
pub filled_one : (c : Cell) (b : Cuboid) → times_filled c (b ∷ []) ≤ 1
unfolding times_filled
filled_one c b = count_by-le-length (is_cell_of c) (b ∷ [])

-- a box that has a counted cell has it
pub cell_from_filled : (c : Cell) (b : Cuboid) → 0 < times_filled c (b ∷ []) → IsCellOf c b
unfolding times_filled
cell_from_filled c b h = elim (cases_Bool (is_cell_of c b)) [
  | inl t ↦ is_cell_of-true c b t
  | inr f ↦ absurd (omega (arith, count_no (is_cell_of c) b [] f))
]

-- where no cell is in two of the boxes, no two of them share one
pub apart_from_counts : (boxes : List Cuboid) → ((c : Cell) → times_filled c boxes ≤ 1) → AreAllApart boxes
unfolding times_filled
apart_from_counts boxes h = λ i j d lt below. record {
  none = λ c a b. count_once (is_cell_of c) boxes (h c) i j d lt below (is_cell_of-from c _ a, is_cell_of-from c _ b);
}

pub tiles_apart : (boxes : List Cuboid) (whole : Cuboid) → Tiles boxes whole → AreAllApart boxes
tiles_apart boxes whole t = apart_from_counts boxes (λ c. omega (arith, t.same c, filled_one c whole))

some_from_filled : (c : Cell) (boxes : List Cuboid) → 0 < times_filled c boxes → Any (IsCellOf c) boxes
unfolding times_filled
some_from_filled c boxes h =
    let some = some_from_count (is_cell_of c) boxes h in
    (some.0, some.1, some.2, some.3, is_cell_of-true c _ some.4)

pub filled_from_some : (c : Cell) (boxes : List Cuboid) → Any (IsCellOf c) boxes → 0 < times_filled c boxes
unfolding times_filled
filled_from_some c boxes some = count_from_some (is_cell_of c) boxes (some.0, some.1, some.2, some.3, is_cell_of-from c _ some.4)

pub tiles_make_up : (boxes : List Cuboid) (whole : Cuboid) → Tiles boxes whole → MakeUp boxes whole
tiles_make_up boxes whole t = λ c. (
  (λ h. some_from_filled c boxes (omega (arith, filled_yes c whole [] h, filled-nil c, t.same c))),
  (λ a. cell_from_filled c whole (omega (arith, t.same c, filled_from_some c boxes a))),
)

-- where no two boxes share a cell, each is in at most one
pub counts_from_apart : (c : Cell) (boxes : List Cuboid) → AreAllApart boxes → times_filled c boxes ≤ 1
unfolding times_filled
counts_from_apart c [] h = omega arith
counts_from_apart c (b ∷ bs) h =
    let rest : count_by (is_cell_of c) bs ≤ 1 = counts_from_apart c bs (AllPairs-tail AreApart b bs h) in
    elim (cases_Bool (is_cell_of c b)) [
      | inr f ↦ omega (arith, count_no (is_cell_of c) b bs f, rest)
      | inl t ↦ elim (cases_lt 0 (count_by (is_cell_of c) bs)) [
        | inr none ↦ omega (arith, count_yes (is_cell_of c) b bs t)
        | inl some ↦
            let e = some_from_count (is_cell_of c) bs some in
            let apart : AreApart b e.1 = rw e.3 at (AllPairs-head AreApart b bs h e.0 e.1 e.2) in
            absurd (apart.none c (is_cell_of-true c b t) (is_cell_of-true c e.1 e.4))
      ]
    ]

-- boxes that fill each cell as often as others that are apart keep the cells
pub KeepCells-from_counts : (old new : List Cuboid) → AreAllApart old → ((c : Cell) → times_filled c new ≡ times_filled c old) → KeepCells old new
KeepCells-from_counts old new apart same = record {
  apart = apart_from_counts new (λ c. omega (arith, same c, counts_from_apart c old apart));
  cells = λ c. (
    (λ some. some_from_filled c new (omega (arith, same c, filled_from_some c old some))),
    (λ some. some_from_filled c old (omega (arith, same c, filled_from_some c new some))),
  );
}

-- boxes without cells do not count
pub filled-filter : (c : Cell) (bs : List Cuboid) → times_filled c (filter has_cells bs) ≡ times_filled c bs
unfolding times_filled
filled-filter c [] = refl
filled-filter c (b ∷ bs) = by (filled-filter c bs) (has_cells b) refl (is_cell_of c b) refl
  where
    by : count_by (is_cell_of c) (filter has_cells bs) ≡ count_by (is_cell_of c) bs → (t : Bool) → has_cells b ≡ t → (i : Bool) → is_cell_of c b ≡ i
        → count_by (is_cell_of c) (cond t (b ∷ filter has_cells bs) (filter has_cells bs)) ≡ count_by (is_cell_of c) (b ∷ bs)
    by ih true e i f = omega (arith, count-cons (is_cell_of c) b (filter has_cells bs), count-cons (is_cell_of c) b bs)
    by ih false e true f = let yes : has_cells b ≡ true = has_cells-from c b f in cc
    by ih false e false f = omega (arith, count_no (is_cell_of c) b bs f)

pub filled-permutation : (c : Cell) (bs es : List Cuboid) → IsPermutation bs es → times_filled c es ≡ times_filled c bs
unfolding times_filled
filled-permutation c bs es h = sum_by-IsPermutation (λ b. cond (is_cell_of c b) 1 0) bs es h
