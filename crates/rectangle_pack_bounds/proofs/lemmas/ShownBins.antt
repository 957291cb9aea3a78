-- Each arrangement uses at least as many bins as ratings and volumes show, and no more than there are.
use Rattle.rectangle_pack_bounds.proofs.Std.{arith, ◌≡◌, ℕ, ◌+◌, ◌*◌, ◌<◌, ◌≤◌, true, refl, List, length, map, sum, sum_by}
use Rattle.rectangle_pack_bounds.proofs.Std.{inl, inr, max, All, All-map, All-permutation, IsPermutation-sym}
use Rattle.rectangle_pack_bounds.proofs.Std.{sum_by-IsPermutation, get_or, cases_lt, le-leb, list_all, list_all-from_AllPass}
use Rattle.rectangle_pack_bounds.proofs.Std.{div_ceil, div_ceil_times, lt_of_mul-lt-mul_right, Ordering, is_at, Option, Some}
use Rattle.rectangle_pack_bounds.proofs.Std.{None, IsSomeAnd, IsTotalOrder, lookup, values_of, length-values_of}
use Rattle.rectangle_pack_bounds.proofs.Std.{length_permutation, length-map, IsPermutation, IsSorted, nat_cmp}
use Rattle.rectangle_pack_sections.specs.Boxes.{Size, IsInside, volume_of}
use Rattle.rectangle_pack_sections.specs.declared.axis.Axis.TheVariants.{X, Y, Z}
use Rattle.rectangle_pack_bounds.specs.declared.rating.Rating.{Rating}
use Rattle.rectangle_pack_bounds.specs.declared.turning.TurningBox.{TurningBox}
use Rattle.rectangle_pack_bounds.specs.DualFeasible.{AreDualFeasible, rate_of}
use Rattle.rectangle_pack_bounds.specs.Turning.{ways}
use Rattle.rectangle_pack_bounds.specs.Arrangements.{Put, IsArrangement, IsMetBy, different, bins_used}
use Rattle.rectangle_pack_bounds.specs.Ratings.{IsUsable, Ratings, rates_by, scales_by, least_rate, capped, bound_by}
use Rattle.rectangle_pack_bounds.specs.Ratings.{greatest_by, lengths_along, last_of, AreShownByRatings}
use Rattle.rectangle_pack_bounds.specs.Bounds.{enclosing, has_bin, AreShownByVolumes, IsShown}
use Rattle.rectangle_pack_bounds.proofs.lemmas.Sums.{sum_by-lesser, sum_by-mapped}
use Rattle.rectangle_pack_bounds.proofs.lemmas.DifferentIds.{number_at, times, All-different, different-once}
use Rattle.rectangle_pack_bounds.proofs.lemmas.LargestNumbers.{found-le-largest, length-found-le}
use Rattle.rectangle_pack_bounds.proofs.lemmas.BoxesByBin.{rated_by_bins, cells_by_bins}
use Rattle.rectangle_pack_bounds.proofs.lemmas.Extremes.{greatest_by-le}
use Rattle.rectangle_pack_bounds.proofs.lemmas.TriedRatings.{ratings_feasible, tried_usable}
use Rattle.rectangle_pack_bounds.proofs.lemmas.Standing.{way_has_cells, least_rate-le, inside_greatest, has_some_bin}

capped-le : (n : ℕ) → capped n ≤ n
capped-le n = omega arith

capped-grows : (a b : ℕ) → a ≤ b → capped a ≤ capped b
capped-grows a b le = omega arith

-- so many times v or less, divided by v and rounded up, is at most so many
div_ceil-le : (a v n : ℕ) → a ≤ n * v → div_ceil a v ≤ n
div_ceil-le a v n le = elim (cases_lt 0 v) [
  | inl pos ↦
      let lt : div_ceil a v < n + 1 = lt_of_mul-lt-mul_right v (omega (arith, (div_ceil_times a v pos).1, le)) in
      omega arith
  | inr empty ↦
      let e : v ≡ 0 = omega arith in
      let none : a ≡ 0 = let at_zero = rw e at le in omega arith in
      let nothing : div_ceil 0 0 ≡ 0 = refl in
      rw (none, e, nothing) (omega arith)
]

-- a value that is found counts one
found_one : {X : Type 0} (Q : X → Type 0) (found : Option X) → IsSomeAnd found Q → 1 ≤ number_at (λ x. 1) found
unfolding number_at
found_one Q None h = absurd h
found_one Q (Some x) h = omega arith

module _ {E B : Type 0} (cmp : B → B → Ordering) (order : IsTotalOrder cmp) (box_of : E → TurningBox) (entries : List E)
    (bins : List (B × Size)) (puts : List (Put E B)) (a : IsArrangement cmp (λ e. ways (box_of e)) bins entries puts) where
  abbrev boxes : List TurningBox
  boxes = map box_of entries

  abbrev greatest_size : Size
  greatest_size = enclosing (values_of bins)

  -- the ids of the bins that are used, each once
  abbrev ids : List B
  ids = different cmp (map (λ p. p.bin) puts)

  once : (id : B) → times cmp id ids ≤ 1
  once = different-once cmp order (map (λ p. p.bin) puts)

  -- a sum over the boxes is one over the boxes that are put
  over_puts : (f : TurningBox → ℕ) → sum_by f boxes ≡ sum_by (λ p. f (box_of p.of)) puts
  over_puts f =
      let turned = sum_by-IsPermutation (λ e. f (box_of e)) entries (map (λ p. p.of) puts) a.each_once in
      omega (arith, sum_by-mapped f box_of entries, turned, sum_by-mapped (λ e. f (box_of e)) (λ p. p.of) puts)

  -- what holds of each box that is put holds of each box
  all_from_puts : (P : TurningBox → Type 0) → All (λ p. P (box_of p.of)) puts → All P boxes
  all_from_puts P h =
      All-map P box_of entries
      (All-permutation (λ e. P (box_of e)) (map (λ p. p.of) puts) entries
      (IsPermutation-sym entries (map (λ p. p.of) puts) a.each_once)
      (All-map (λ e. P (box_of e)) (λ p. p.of) puts h))

  -- no more bins are used than there are
  pub used-le-all : bins_used cmp puts ≤ length bins
  used-le-all =
      length-found-le cmp (λ x. 1) bins ids once
      (All-different cmp (λ id. 1 ≤ number_at (λ x. 1) (lookup (is_at (cmp id)) bins)) (map (λ p. p.bin) puts)
      (All-map (λ id. 1 ≤ number_at (λ x. 1) (lookup (is_at (cmp id)) bins)) (λ p. p.bin) puts
      (λ k d lt.
      let p : Put E B = get_or puts k d in
      found_one (λ size. IsInside size p.box) (lookup (is_at (cmp p.bin)) bins) (a.inside k d lt))))

  -- each box has a bin
  pub each_has_bin : list_all (has_bin (values_of bins)) boxes ≡ true
  each_has_bin =
      list_all-from_AllPass (has_bin (values_of bins)) boxes
      (all_from_puts (λ b. has_bin (values_of bins) b ≡ true)
      (λ k d lt.
      let p : Put E B = get_or puts k d in
      has_some_bin bins (is_at (cmp p.bin)) p.box (a.inside k d lt) (box_of p.of) (a.one_way k d lt)))

  inside_all : All (λ p. IsInside greatest_size p.box) puts
  inside_all = λ k d lt.
      let p : Put E B = get_or puts k d in
      inside_greatest bins (is_at (cmp p.bin)) p.box (a.inside k d lt)

  module _ (r : Ratings) where
    abbrev total : ℕ
    total = sum_by (least_rate r greatest_size) boxes

    abbrev scale : ℕ
    scale = volume_of (scales_by r greatest_size)

    -- the boxes are rated at most what they are where they stand
    total-le : total ≤ sum_by (λ p. rate_of (rates_by r greatest_size) p.box.whd) puts
    total-le =
        let lesser = sum_by-lesser (λ p. least_rate r greatest_size (box_of p.of))
        (λ p. rate_of (rates_by r greatest_size) p.box.whd) puts
        (λ k d lt.
        let p : Put E B = get_or puts k d in
        least_rate-le r greatest_size (box_of p.of) p.box (a.one_way k d lt) (inside_all k d lt)) in
        omega (arith, over_puts (least_rate r greatest_size), lesser)

    -- three ratings that are dual feasible show no more bins than are used
    bound_met : AreDualFeasible greatest_size (rates_by r greatest_size) (scales_by r greatest_size)
        → bound_by greatest_size boxes r ≤ bins_used cmp puts
    bound_met feasible =
        let rated = rated_by_bins cmp order puts a.apart greatest_size (scales_by r greatest_size) (rates_by r greatest_size)
        feasible inside_all in
        let most = div_ceil-le (capped total) scale (bins_used cmp puts) (omega (arith, total-le, rated, capped-le total)) in
        omega (arith, most)

  -- nor does the greatest number that three of the ratings that are tried show
  pub ratings_met : (shown : ℕ) → AreShownByRatings greatest_size boxes shown → shown ≤ bins_used cmp puts
  ratings_met shown s = omega (arith, by_widths, s.greatest)
    where
      bound_at : Rating → Rating → Rating → ℕ
      bound_at w h d = bound_by greatest_size boxes (record { of_width = w; of_height = h; of_depth = d })

      by_depths : (w h : Rating) → IsUsable w greatest_size.width → IsUsable h greatest_size.height
          → greatest_by (bound_at w h) s.depths ≤ bins_used cmp puts
      by_depths w h wide high =
          let deep = tried_usable s.effort greatest_size.depth (lengths_along Z boxes) s.depths s.of_depth in
          greatest_by-le (bound_at w h) s.depths (bins_used cmp puts)
          (λ k x lt.
          let r : Ratings = record { of_width = w; of_height = h; of_depth = get_or s.depths k x } in
          bound_met r (ratings_feasible r greatest_size wide high (deep k x lt)))

      by_heights : (w : Rating) → IsUsable w greatest_size.width
          → greatest_by (λ h. greatest_by (bound_at w h) s.depths) s.heights ≤ bins_used cmp puts
      by_heights w wide =
          let high = tried_usable s.effort greatest_size.height (lengths_along Y boxes) s.heights s.of_height in
          greatest_by-le (λ h. greatest_by (bound_at w h) s.depths) s.heights (bins_used cmp puts)
          (λ k x lt. by_depths w (get_or s.heights k x) wide (high k x lt))

      by_widths : greatest_by (λ w. greatest_by (λ h. greatest_by (bound_at w h) s.depths) s.heights) s.widths
          ≤ bins_used cmp puts
      by_widths =
          let wide = tried_usable s.effort greatest_size.width (lengths_along X boxes) s.widths s.of_width in
          greatest_by-le (λ w. greatest_by (λ h. greatest_by (bound_at w h) s.depths) s.heights) s.widths
          (bins_used cmp puts) (λ k x lt. by_heights (get_or s.widths k x) (wide k x lt))

  -- each box has its cells where it stands
  same_cells : sum_by (λ b. volume_of b.whd) boxes ≤ sum_by (λ p. volume_of p.box.whd) puts
  same_cells =
      let standing = sum_by-lesser (λ p. volume_of (box_of p.of).whd) (λ p. volume_of p.box.whd) puts (λ k d lt.
      let p : Put E B = get_or puts k d in
      omega (arith, way_has_cells (box_of p.of) p.box.whd (a.one_way k d lt))) in
      omega (arith, over_puts (λ b. volume_of b.whd), standing)

  module _ (rising : List ℕ) (each_once : IsPermutation (map volume_of (values_of bins)) rising)
      (ordered : IsSorted nat_cmp rising) where
    length-rising : length rising ≡ length bins
    length-rising =
        let same = length_permutation (map volume_of (values_of bins)) rising each_once in
        omega (arith, same, length-map (values_of bins) volume_of, length-values_of bins)

    -- the boxes have at most the cells of as many of the largest bins as are used
    cells-le : sum_by (λ b. volume_of b.whd) boxes ≤ sum (last_of (bins_used cmp puts) rising)
    cells-le =
        let few : bins_used cmp puts ≤ length rising = omega (arith, length-rising, used-le-all) in
        let largest = found-le-largest cmp volume_of bins ids once rising each_once ordered few in
        omega (arith, same_cells, cells_by_bins cmp order puts a.apart bins a.inside, largest)

  -- so volumes show no more bins than are used
  pub volumes_met : (shown : ℕ) → AreShownByVolumes (values_of bins) boxes shown → shown ≤ bins_used cmp puts
  volumes_met shown s =
      let used : ℕ = bins_used cmp puts in
      let enough = cells-le s.rising s.each_once s.ordered in
      let grows = capped-grows (sum_by (λ b. volume_of b.whd) boxes) (sum (last_of used s.rising)) enough in
      elim (cases_lt used shown) [ inl fewer ↦ absurd (omega (arith, s.too_few used fewer, grows)) | inr met ↦ met ]

-- what is shown of the boxes of entries, each arrangement of them meets, as long as it uses `apart` bins or more
pub shown_is_met : {E B : Type 0} (cmp : B → B → Ordering) → IsTotalOrder cmp → (box_of : E → TurningBox)
    (entries : List E) (bins : List (B × Size)) (puts : List (Put E B)) (apart : ℕ) (least : Option ℕ)
    → IsShown (values_of bins) (map box_of entries) apart least
    → IsArrangement cmp (λ e. ways (box_of e)) bins entries puts → apart ≤ bins_used cmp puts
    → IsMetBy least (bins_used cmp puts)
shown_is_met cmp order box_of entries bins puts apart least s a low =
    let most : ℕ = max (max s.by_ratings s.by_volumes) apart in
    let by_ratings = ratings_met cmp order box_of entries bins puts a s.by_ratings s.ratings_show in
    let by_volumes = volumes_met cmp order box_of entries bins puts a s.by_volumes s.volumes_show in
    let met : most ≤ bins_used cmp puts = omega (arith, by_ratings, by_volumes, low) in
    let all = used-le-all cmp order box_of entries bins puts a in
    let listed : most ≤ length (values_of bins) = omega (arith, met, all, length-values_of bins) in
    let enough = le-leb most (length (values_of bins)) listed in
    rw (s.least_is, each_has_bin cmp order box_of entries bins puts a, enough) met
