-- Numbers of entries that ids find, each entry once: at most as many of the largest numbers of all.
use Rattle.rectangle_pack_bounds.proofs.Std.{arith, ◌≡◌, ℕ, ◌+◌, ◌-◌, ◌*◌, ◌<◌, ◌≤◌, refl, ap, List, [], ◌∷◌, length, map}
use Rattle.rectangle_pack_bounds.proofs.Std.{sum, sum_by, inl, inr, All, All-head, All-tail, cases_lt, get_or}
use Rattle.rectangle_pack_bounds.proofs.Std.{get_or_default, get_or-take, get_or-drop, length-take-le, take, drop}
use Rattle.rectangle_pack_bounds.proofs.Std.{sum_by-take-drop, length-drop, nil_from_length, sum_by-cons}
use Rattle.rectangle_pack_bounds.proofs.Std.{sum_by-IsPermutation, IsPermutation, IsSorted, IsNonDecreasingBy-from_sort}
use Rattle.rectangle_pack_bounds.proofs.Std.{nat_cmp, Ordering, is_at, Option, Some, None, lookup, values_of}
use Rattle.rectangle_pack_bounds.proofs.Std.{length-values_of}
use Rattle.rectangle_pack_bounds.specs.Ratings.{last_of}
use Rattle.rectangle_pack_bounds.proofs.lemmas.Sums.{sum_by-lesser, sum_by-added, sum_by-mapped, length-sum}
use Rattle.rectangle_pack_bounds.proofs.lemmas.DifferentIds.{number_at, times, found-le-all}

-- what numbers have over t, added up: nothing where they are at most t
over-none : (t : ℕ) (ns : List ℕ) → All (λ n. n ≤ t) ns → sum_by (λ n. n - t) ns ≡ 0
over-none t [] h = refl
over-none t (n ∷ ns) h =
    omega (arith, sum_by-cons (λ n. n - t) n ns, All-head (λ n. n ≤ t) n ns h, over-none t ns (All-tail (λ n. n ≤ t) n ns h))

-- and all that is not t itself where they are at least t
over-all : (t : ℕ) (ns : List ℕ) → All (λ n. t ≤ n) ns → sum_by (λ n. n - t) ns + length ns * t ≡ sum ns
over-all t [] h = omega arith
over-all t (n ∷ ns) h =
    let more : length (n ∷ ns) * t ≡ t + length ns * t = omega arith in
    let first = All-head (λ n. t ≤ n) n ns h in
    let rest = over-all t ns (All-tail (λ n. t ≤ n) n ns h) in
    omega (arith, more, sum_by-cons (λ n. n - t) n ns, sum_by-cons (λ n. n) n ns, first, rest)

-- numbers in order, about the one at place k
module _ (ns : List ℕ) (k : ℕ) (within : k < length ns) (up : IsSorted nat_cmp ns) where
  abbrev here : ℕ
  here = get_or ns k 0

  before-le : All (λ n. n ≤ here) (take k ns)
  before-le i d lt =
      let before : i < k = omega (arith, lt, length-take-le k ns) in
      rw (get_or-take k ns i d before, get_or_default ns i d 0 (omega arith))
      (IsNonDecreasingBy-from_sort (λ n. n) ns up i k 0 (omega arith) within)

  after-ge : All (λ n. here ≤ n) (drop k ns)
  after-ge i d lt =
      let inside : k + i < length ns = omega (arith, lt, length-drop k ns) in
      rw (get_or-drop k ns i d, get_or_default ns (k + i) d 0 inside)
      (IsNonDecreasingBy-from_sort (λ n. n) ns up k (k + i) 0 (omega arith) inside)

  -- what all have over it, and it itself for each from there on, is what those have
  over-from : sum_by (λ n. n - here) ns + (length ns - k) * here ≡ sum (drop k ns)
  over-from =
      let rest = rw (length-drop k ns) at (over-all here (drop k ns) after-ge) in
      omega (arith, sum_by-take-drop (λ n. n - here) ns k, over-none here (take k ns) before-le, rest)

module _ {B X : Type 0} (cmp : B → B → Ordering) (f : X → ℕ) (entries : List (B × X)) (ids : List B)
    (once : (id : B) → times cmp id ids ≤ 1) where
  -- the numbers of what the ids find, added up
  abbrev pub found_at : (X → ℕ) → ℕ
  found_at g = sum_by (λ id. number_at g (lookup (is_at (cmp id)) entries)) ids

  -- what is found is at most t each, and what it has over t
  found-over : (t : ℕ) → found_at f ≤ found_at (λ x. f x - t) + t * length ids
  unfolding number_at
  found-over t =
      let each = sum_by-lesser (λ id. number_at f (lookup (is_at (cmp id)) entries))
      (λ id. number_at (λ x. f x - t) (lookup (is_at (cmp id)) entries) + t * 1) ids
      (λ k d lt. one (lookup (is_at (cmp (get_or ids k d))) entries)) in
      let split = sum_by-added (λ id. number_at (λ x. f x - t) (lookup (is_at (cmp id)) entries) + t * 1)
      (λ id. number_at (λ x. f x - t) (lookup (is_at (cmp id)) entries)) (λ id. 1) t ids (λ id. refl) in
      let many : t * sum_by (λ (id : B). 1) ids ≡ t * length ids = ap (λ n. t * n) (length-sum ids) in
      omega (arith, each, split, many)
    where
      one : (o : Option X) → number_at f o ≤ number_at (λ x. f x - t) o + t * 1
      one None = omega arith
      one (Some x) = omega arith

  -- the numbers that are found add up to at most as many of the largest
  pub found-le-largest : (rising : List ℕ) → IsPermutation (map f (values_of entries)) rising → IsSorted nat_cmp rising
      → length ids ≤ length rising
      → found_at f ≤ sum (last_of (length ids) rising)
  found-le-largest rising p up few = elim (cases_lt 0 (length ids)) [
    | inr none ↦ let e = nil_from_length ids (omega arith) in rw e (omega arith)
    | inl some ↦
        let k : ℕ = length rising - length ids in
        let t : ℕ = get_or rising k 0 in
        let largest = over-from rising k (omega arith) up in
        let many : length rising - k ≡ length ids = omega arith in
        let here = rw many at largest in
        let all = found-le-all cmp (λ x. f x - t) entries ids once in
        let same = sum_by-IsPermutation (λ n. n - t) (map f (values_of entries)) rising p in
        let turned : t * length ids ≡ length ids * t = omega arith in
        omega (arith, found-over t, all, same, sum_by-mapped (λ n. n - t) f (values_of entries), here, turned)
  ]

  -- ids that each find an entry are no more than the entries
  pub length-found-le : All (λ id. 1 ≤ number_at (λ x. 1) (lookup (is_at (cmp id)) entries)) ids
      → length ids ≤ length entries
  length-found-le h =
      let each = sum_by-lesser (λ id. 1) (λ id. number_at (λ x. 1) (lookup (is_at (cmp id)) entries)) ids h in
      let all = found-le-all cmp (λ x. 1) entries ids once in
      omega (arith, each, all, length-sum ids, length-sum (values_of entries), length-values_of entries)
