-- The boxes of each bin of an arrangement: inside it and apart; and each box is in one of the bins that are used.
use Rattle.rectangle_pack_bounds.proofs.Std.{arith, ◌≡◌, ℕ, ◌+◌, ◌*◌, ◌≤◌, Bool, true, false, cond, List, [], ◌∷◌, map}
use Rattle.rectangle_pack_bounds.proofs.Std.{sum_by, inl, inr, Option, Some, None, IsSomeAnd, All, All-head, All-tail}
use Rattle.rectangle_pack_bounds.proofs.Std.{All-cons, All-nil, All-weaker, AllPairs, AllPairs-cons, cases_Bool, get_or}
use Rattle.rectangle_pack_bounds.proofs.Std.{list_any, Any-from_list_any, sum_by-cons, sum_by-le, get_or-le-sum_by}
use Rattle.rectangle_pack_bounds.proofs.Std.{mul-le-mul_left, Ordering, Equal, is_at, Equal-is, IsTotalOrder, lookup}
use Rattle.rectangle_pack_sections.specs.Boxes.{Size, Cuboid, IsInside, AreApart, volume_of}
use Rattle.rectangle_pack_sections.specs.Counting.{AreAllApart}
use Rattle.rectangle_pack_sections.proofs.lemmas.util.Lists.{AllPairs-head, AllPairs-tail}
use Rattle.rectangle_pack_bounds.specs.DualFeasible.{IsDualFeasible, Rates, AreDualFeasible, rate_of}
use Rattle.rectangle_pack_bounds.specs.Arrangements.{Put, bins_used, different}
use Rattle.rectangle_pack_bounds.proofs.lemmas.Lists.{All-unmap}
use Rattle.rectangle_pack_bounds.proofs.lemmas.Sums.{sum_by-lesser, sum_by-added}
use Rattle.rectangle_pack_bounds.proofs.lemmas.Boxes.{bin_bounded}
use Rattle.rectangle_pack_bounds.proofs.lemmas.DifferentIds.{number_at, finds_one, lookup_alike, different-found}

-- a size is found, and the box is inside it
abbrev pub IsInsideFound : Option Size → Cuboid → Type 0
IsInsideFound found b = IsSomeAnd found (λ size. IsInside size b)

-- lengths as they are rate a box at its cells
as_they_are : Rates
as_they_are = record { of_width = λ n. n; of_height = λ n. n; of_depth = λ n. n }

as_they_are_feasible : (size : Size) → AreDualFeasible size as_they_are size
unfolding as_they_are
as_they_are_feasible size = record { width = along size.width; height = along size.height; depth = along size.depth }
  where
    along : (long : ℕ) → IsDualFeasible long (λ n. n) long
    along long = record { bounded = λ lengths fit. fit }

-- boxes that are apart in a bin that was found have no more cells than it
cells_in_found : (found : Option Size) (boxes : List Cuboid) → All (IsInsideFound found) boxes → AreAllApart boxes
    → sum_by (λ b. volume_of b.whd) boxes ≤ number_at volume_of found
unfolding number_at as_they_are
cells_in_found None [] inside apart = omega arith
cells_in_found None (b ∷ boxes) inside apart = absurd (All-head (IsInsideFound None) b boxes inside)
cells_in_found (Some size) boxes inside apart =
    bin_bounded size as_they_are size (as_they_are_feasible size) boxes inside apart

module _ {E B : Type 0} (cmp : B → B → Ordering) where
  -- it was put into the bin of this id
  abbrev IsPutInto : B → Put E B → Type 0
  IsPutInto id p = is_at (cmp p.bin) id ≡ true

  -- its bin is among those of these ids
  abbrev IsAmong : List B → Put E B → Type 0
  IsAmong ids p = list_any (is_at (cmp p.bin)) ids ≡ true

  -- no two in one bin share a cell
  abbrev AreApartByBin : List (Put E B) → Type 0
  AreApartByBin puts = AllPairs (λ a b. cmp a.bin b.bin ≡ Equal → AreApart a.box b.box) puts

  -- the boxes in the bin of this id
  unfoldable pub boxes_at : B → List (Put E B) → List Cuboid
  boxes_at id [] = []
  boxes_at id (p ∷ puts) = cond (is_at (cmp p.bin) id) (p.box ∷ boxes_at id puts) (boxes_at id puts)

  All-boxes_at : (P : Cuboid → Type 0) (id : B) (puts : List (Put E B)) → All (λ p. IsPutInto id p → P p.box) puts
      → All P (boxes_at id puts)
  unfolding boxes_at
  All-boxes_at P id [] h = All-nil P
  All-boxes_at P id (p ∷ puts) h =
      let rest = All-boxes_at P id puts (All-tail (λ p. IsPutInto id p → P p.box) p puts h) in
      let first = All-head (λ p. IsPutInto id p → P p.box) p puts h in
      elim (cases_Bool (is_at (cmp p.bin) id)) [
        | inl here ↦ rw here (All-cons P p.box (boxes_at id puts) (first here) rest)
        | inr other ↦ rw other rest
      ]

  -- a box more adds its rate at the ids of its bin
  boxes_at-cons : (rate : Cuboid → ℕ) (id : B) (p : Put E B) (puts : List (Put E B))
      → sum_by rate (boxes_at id (p ∷ puts)) ≡ sum_by rate (boxes_at id puts) + rate p.box * cond (is_at (cmp p.bin) id) 1 0
  unfolding boxes_at
  boxes_at-cons rate id p puts = go (is_at (cmp p.bin) id)
    where
      go : (here : Bool) → sum_by rate (cond here (p.box ∷ boxes_at id puts) (boxes_at id puts))
          ≡ sum_by rate (boxes_at id puts) + rate p.box * cond here 1 0
      go true = omega (arith, sum_by-cons rate p.box (boxes_at id puts))
      go false = omega arith

  -- a box whose bin is among these is counted once or more
  counted_once : (ids : List B) (p : Put E B) → IsAmong ids p → 1 ≤ sum_by (λ id. cond (is_at (cmp p.bin) id) 1 0) ids
  counted_once ids p among =
      let found = Any-from_list_any (is_at (cmp p.bin)) ids among in
      rw (found.3, found.4) at
      (get_or-le-sum_by (λ id. cond {A = ℕ} (is_at (cmp p.bin) id) 1 0) ids found.0 found.1 found.2)

  -- so the rates of all are at most those of the boxes of each bin, added up
  by_bin : (rate : Cuboid → ℕ) (ids : List B) (puts : List (Put E B)) → All (IsAmong ids) puts
      → sum_by (λ p. rate p.box) puts ≤ sum_by (λ id. sum_by rate (boxes_at id puts)) ids
  by_bin rate ids [] among = omega arith
  by_bin rate ids (p ∷ puts) among =
      let here : B → ℕ = λ id. cond (is_at (cmp p.bin) id) 1 0 in
      let more = sum_by-added (λ id. sum_by rate (boxes_at id (p ∷ puts))) (λ id. sum_by rate (boxes_at id puts)) here
      (rate p.box) ids (λ id. boxes_at-cons rate id p puts) in
      let counted = mul-le-mul_left (rate p.box) (counted_once ids p (All-head (IsAmong ids) p puts among)) in
      let before = by_bin rate ids puts (All-tail (IsAmong ids) p puts among) in
      omega (arith, more, counted, sum_by-cons (λ p. rate p.box) p puts, before)

  module _ (order : IsTotalOrder cmp) where
    boxes_at-apart : (id : B) (puts : List (Put E B)) → AreApartByBin puts → AreAllApart (boxes_at id puts)
    unfolding boxes_at
    boxes_at-apart id [] h = λ i j d lt below. absurd (omega arith)
    boxes_at-apart id (p ∷ puts) h =
        let rest = boxes_at-apart id puts (AllPairs-tail (λ a b. cmp a.bin b.bin ≡ Equal → AreApart a.box b.box) p puts h) in
        let from_p = AllPairs-head (λ a b. cmp a.bin b.bin ≡ Equal → AreApart a.box b.box) p puts h in
        elim (cases_Bool (is_at (cmp p.bin) id)) [
          | inl here ↦
              let beside = All-weaker (λ q. cmp p.bin q.bin ≡ Equal → AreApart p.box q.box)
              (λ q. IsPutInto id q → AreApart p.box q.box)
              (λ q apart there. apart ((Equal-is (cmp p.bin q.bin)).0 (finds_one cmp order p.bin q.bin id here there)))
              puts from_p in
              rw here (AllPairs-cons AreApart p.box (boxes_at id puts) (All-boxes_at (AreApart p.box) id puts beside) rest)
          | inr other ↦ rw other rest
        ]

    module _ (puts : List (Put E B)) (apart : AreApartByBin puts) where
      -- the ids of the bins that have a box, each once
      abbrev used : List B
      used = different cmp (map (λ p. p.bin) puts)

      all_among : All (IsAmong used) puts
      all_among =
          All-unmap (λ id. list_any (is_at (cmp id)) used ≡ true) (λ p. p.bin) puts
          (different-found cmp order (map (λ p. p.bin) puts))

      module _ (bin scales : Size) (rates : Rates) (feasible : AreDualFeasible bin rates scales)
          (inside : All (λ p. IsInside bin p.box) puts) where
        bin_rated : (id : B) → sum_by (λ b. rate_of rates b.whd) (boxes_at id puts) ≤ volume_of scales
        bin_rated id =
            let here = All-weaker (λ p. IsInside bin p.box) (λ p. IsPutInto id p → IsInside bin p.box) (λ p h put. h) puts
            inside in
            bin_bounded bin rates scales feasible (boxes_at id puts) (All-boxes_at (IsInside bin) id puts here)
            (boxes_at-apart id puts apart)

        -- boxes inside a size, apart in each bin: they are rated at most the product of the scales for each bin that is used
        pub rated_by_bins : sum_by (λ p. rate_of rates p.box.whd) puts ≤ bins_used cmp puts * volume_of scales
        rated_by_bins =
            let most = sum_by-le (λ id. sum_by (λ b. rate_of rates b.whd) (boxes_at id puts)) (volume_of scales) used
            (λ k d lt. bin_rated (get_or used k d)) in
            omega (arith, by_bin (λ b. rate_of rates b.whd) used puts all_among, most)

      module _ (bins : List (B × Size))
          (inside : All (λ p. IsInsideFound (lookup (is_at (cmp p.bin)) bins) p.box) puts) where
        bin_filled : (id : B) → sum_by (λ b. volume_of b.whd) (boxes_at id puts)
            ≤ number_at volume_of (lookup (is_at (cmp id)) bins)
        bin_filled id =
            let size : Option Size = lookup (is_at (cmp id)) bins in
            let here = All-weaker {X = Put E B} (λ p. IsInsideFound (lookup (is_at (cmp p.bin)) bins) p.box)
            (λ p. IsPutInto id p → IsInsideFound size p.box)
            (λ p h put. rw (lookup_alike cmp order p.bin id put bins) at h) puts inside in
            cells_in_found size (boxes_at id puts) (All-boxes_at (IsInsideFound size) id puts here)
            (boxes_at-apart id puts apart)

        -- boxes inside their bins, apart in each: they have at most the cells of the bins that are used
        pub cells_by_bins : sum_by (λ p. volume_of p.box.whd) puts
            ≤ sum_by (λ id. number_at volume_of (lookup (is_at (cmp id)) bins)) used
        cells_by_bins =
            let most = sum_by-lesser (λ id. sum_by (λ b. volume_of b.whd) (boxes_at id puts))
            (λ id. number_at volume_of (lookup (is_at (cmp id)) bins)) used (λ k d lt. bin_filled (get_or used k d)) in
            omega (arith, by_bin (λ b. volume_of b.whd) used puts all_among, most)
