-- What is allowed by some answers is allowed by more; so two packings, each by closures of its own, are packings by what either may answer.
use Rattle.rectangle_pack_sections.proofs.Std.{◌≡◌, ℕ, Bool, true, false, List, [], ◌∷◌, inl, inr, ◌⊎◌, ⊎_elim, All, map, Option, Some, None}
use Rattle.rectangle_pack_sections.proofs.Std.{IsSomeAnd, MatchBool, Ordering, Equal, lookup, is_at}
use Rattle.rectangle_pack_sections.specs.declared.group.Group.{Group}
use Rattle.rectangle_pack_packing.specs.declared.answer.Placement.{Placement}
use Rattle.rectangle_pack_sections.specs.Boxes.{Size, Cuboid, IsU32}
use Rattle.rectangle_pack_sections.specs.Bins.{Bin}
use Rattle.rectangle_pack_sections.specs.Closures.{Answers}
use Rattle.rectangle_pack_sections.specs.Choice.{IsAllowedCut}
use Rattle.rectangle_pack_sections.specs.Cuts.{cuts, sizes_of}
use Rattle.rectangle_pack_sections.specs.Groups.{Collection}
use Rattle.rectangle_pack_packing.specs.Orders.{IsGroupKey, IsGroupOrder, IsBinOrder}
use Rattle.rectangle_pack_lists.specs.Steps.{AreLeft, IsStep, IsDone, IsStuck}
use Rattle.rectangle_pack_packing.specs.Packing.{Rules, rules_by, Members, Stage, at_start, excludes_by, IsStuckIn, DoesNotTake, IsPlaced, IsRefused, AreAllPlaced}
use Rattle.rectangle_pack_packing.specs.Packing.{StopsAfter, PackingDoneBy, PackingRefusedBy}
use Rattle.rectangle_pack_packing.specs.Results.{either_of, ClosuresDecide, HaveOneResult}
use Rattle.rectangle_pack_sections.specs.SmallestBox.{IsSmallestOrder}
use Rattle.rectangle_pack_sections.proofs.lemmas.util.Zips.{AllZip-weaker}
use Rattle.rectangle_pack_sections.proofs.lemmas.cuts.SmallestBox.{smallest_is_preorder}
use Rattle.rectangle_pack_sections.proofs.lemmas.cuts.Choices.{MayChoose-more, smallest_more}
use Rattle.rectangle_pack_packing.proofs.lemmas.determinism.Preorders.{total_decides}

-- what may be answered may be answered there too
pub record Includes (may more : Answers) : Type 0 where
  pub rate : (size : Size) (rate : ℕ) → may.rate size rate → more.rate size rate
  pub prefer : (first second : List Size) (r : Ordering) → may.prefer first second r → more.prefer first second r

some_weaker : {X : Type 0} (P Q : X → Type 0) → ((x : X) → P x → Q x) → (found : Option X) → IsSomeAnd found P → IsSomeAnd found Q
some_weaker P Q passes None h = h
some_weaker P Q passes (Some x) h = passes x h

module _ (may more : Answers) (includes : Includes may more) where
  allowed_more : (section : Cuboid) (size : Size) (cut : List Cuboid) → IsAllowedCut may.prefer section size cut → IsAllowedCut more.prefer section size cut
  allowed_more section size cut =
      MayChoose-more (λ a b. may.prefer (sizes_of a) (sizes_of b)) (λ a b. more.prefer (sizes_of a) (sizes_of b))
      (λ a b. includes.prefer (sizes_of a) (sizes_of b)) (cuts section size) cut

  left_more : (cut left : List Cuboid) → AreLeft may.rate cut left → AreLeft more.rate cut left
  left_more cut left h = record {
    rates = h.rates;
    rated = AllZip-weaker (λ piece rate. may.rate piece.whd rate) (λ piece rate. more.rate piece.whd rate)
        (λ piece. includes.rate piece.whd) cut h.rates h.rated;
    ranked = h.ranked;
    are_ranked = h.are_ranked;
    are = h.are;
  }

  -- a step by some answers is one by more
  pub step_more : (sections : List Cuboid) (m : Size) (l : Cuboid) (next : List Cuboid) (n : ℕ) → IsStep may sections m l next n → IsStep more sections m l next n
  step_more sections m l next n h = record {
    before = h.before;
    section = h.section;
    after = h.after;
    splits = h.splits;
    held = h.held;
    newest = h.newest;
    location_is = h.location_is;
    cut = h.cut;
    allowed = allowed_more h.section m h.cut h.allowed;
    left = h.left;
    are_left = left_more h.cut h.left h.are_left;
    next_is = h.next_is;
    tests_are = h.tests_are;
  }

  done_more : (sections : List Cuboid) (ms : List Size) (ls last : List Cuboid) (n : ℕ) → IsDone may sections ms ls last n → IsDone more sections ms ls last n
  done_more sections [] ls last n h = h
  done_more sections (m ∷ ms) [] last n h = absurd h
  done_more sections (m ∷ ms) (l ∷ ls) last n (next, one, others, step, rest, count) =
      (next, one, others, step_more sections m l next one step, done_more next ms ls last others rest, count)

  stuck_more : (sections : List Cuboid) (ms : List Size) (n : ℕ) → IsStuck may sections ms n → IsStuck more sections ms n
  stuck_more sections [] n h = absurd h
  stuck_more sections (m ∷ ms) n (inl none) = inl none
  stuck_more sections (m ∷ ms) n (inr (l, next, one, others, step, rest, count)) =
      inr (l, next, one, others, step_more sections m l next one step, stuck_more next ms others rest, count)

  key_more : {Id : Type 0} (cmp : Id → Id → Ordering) (sizes : List (Id × Size)) (ids : List Id) (key : ℕ) → IsGroupKey may.rate cmp sizes ids key
      → IsGroupKey more.rate cmp sizes ids key
  key_more cmp sizes ids key (rates, rated, is) = (
    rates,
    AllZip-weaker (λ id rate. IsSomeAnd (lookup (is_at (cmp id)) sizes) (λ size. may.rate size rate))
        (λ id rate. IsSomeAnd (lookup (is_at (cmp id)) sizes) (λ size. more.rate size rate))
        (λ id rate. some_weaker (λ size. may.rate size rate) (λ size. more.rate size rate) (λ size. includes.rate size rate) (lookup (is_at (cmp id)) sizes))
        ids rates rated,
    is,
  )

  groups_more : {Id K : Type 0} (group_cmp : K → K → Ordering) (cmp : Id → Id → Ordering) (sizes : List (Id × Size))
      (groups : List (K × List Id)) (order : List (ℕ × K))
      → IsGroupOrder may.rate group_cmp cmp sizes groups order → IsGroupOrder more.rate group_cmp cmp sizes groups order
  groups_more group_cmp cmp sizes groups order h = record {
    unsorted = h.unsorted;
    each = AllZip-weaker (λ group entry. (entry.1 ≡ group.0) × IsGroupKey may.rate cmp sizes group.1 entry.0)
        (λ group entry. (entry.1 ≡ group.0) × IsGroupKey more.rate cmp sizes group.1 entry.0)
        (λ group entry k. (k.0, key_more cmp sizes group.1 entry.0 k.1)) groups h.unsorted h.each;
    permutation = h.permutation;
    falling = h.falling;
  }

  bins_more : {B : Type 0} (cmp : B → B → Ordering) (bins : List (B × Bin)) (order : List (ℕ × B)) → IsBinOrder may.rate cmp bins order
      → IsBinOrder more.rate cmp bins order
  bins_more cmp bins order h = record {
    unsorted = h.unsorted;
    each = AllZip-weaker (λ bin entry. (cmp bin.0 entry.1 ≡ Equal) × may.rate bin.1.size entry.0)
        (λ bin entry. (cmp bin.0 entry.1 ≡ Equal) × more.rate bin.1.size entry.0)
        (λ bin entry k. (k.0, includes.rate bin.1.size entry.0 k.1)) bins h.unsorted h.each;
    permutation = h.permutation;
    rising = h.rising;
  }

module _ {Id B : Type 0} (cmp : Id → Id → Ordering) (bin_cmp : B → B → Ordering) (may more : Answers) (includes : Includes may more) where
  abbrev Less : Rules Id B
  Less = rules_by cmp bin_cmp may

  abbrev More : Rules Id B
  More = rules_by cmp bin_cmp more

  stuck_in_more : (bins : List (B × Bin)) (group : Members Id) (id : B) (n : ℕ) → IsStuckIn Less bins group id n → IsStuckIn More bins group id n
  stuck_in_more bins group id n =
      some_weaker (λ (bin : Bin). IsStuck may bin.sections group.sizes n) (λ (bin : Bin). IsStuck more bin.sections group.sizes n)
      (λ bin. stuck_more may more includes bin.sections group.sizes n) (lookup (is_at (bin_cmp id)) bins)

  passed_more : (excluded : B → Bool) (bins : List (B × Bin)) (group : Members Id) (id : B) (n : ℕ) → DoesNotTake Less excluded bins group id n
      → DoesNotTake More excluded bins group id n
  passed_more excluded bins group id n = by (excluded id)
    where
      by : (b : Bool) → MatchBool b (n ≡ 0) (IsStuckIn Less bins group id n) → MatchBool b (n ≡ 0) (IsStuckIn More bins group id n)
      by true h = h
      by false h = stuck_in_more bins group id n h

  abbrev placed_more : (excluded : B → Bool) (order : List B) (group : Members Id) (old : List (B × Bin)) (placements : List (Placement Id B))
      (new : List (B × Bin)) (n : ℕ)
      → IsPlaced Less excluded order group old placements new n → IsPlaced More excluded order group old placements new n
  placed_more excluded order group old placements new n h = record {
    before = h.before;
    here = h.here;
    after = h.after;
    order_is = h.order_is;
    counts = h.counts;
    passed = AllZip-weaker (DoesNotTake Less excluded old group) (DoesNotTake More excluded old group)
        (passed_more excluded old group) h.before h.counts h.passed;
    allowed = h.allowed;
    bin = h.bin;
    found = h.found;
    last = h.last;
    locations = h.locations;
    count = h.count;
    done = done_more may more includes h.bin.sections group.sizes h.locations h.last h.count h.done;
    named = h.named;
    new_is = h.new_is;
    tests_are = h.tests_are;
  }

  refused_more : (excluded : B → Bool) (order : List B) (group : Members Id) (bins : List (B × Bin)) (n : ℕ) → IsRefused Less excluded order group bins n
      → IsRefused More excluded order group bins n
  refused_more excluded order group bins n h = record {
    counts = h.counts;
    passed = AllZip-weaker (DoesNotTake Less excluded bins group) (DoesNotTake More excluded bins group)
        (passed_more excluded bins group) order h.counts h.passed;
    tests_are = h.tests_are;
  }

  module _ {K : Type 0} (excludes : List (K × B) → K → B → Bool) where
    all_placed_more : (order : List B) (groups : List (K × Members Id)) (old : Stage K B) (placements : List (Placement Id B)) (new : Stage K B) (n : ℕ)
        → AreAllPlaced Less excludes order groups old placements new n → AreAllPlaced More excludes order groups old placements new n
    all_placed_more order [] old placements new n h = h
    all_placed_more order (g ∷ gs) old placements new n (first, next, one, later, others, placed, rest, joined, count) = (
      first,
      next,
      one,
      later,
      others,
      placed_more (excludes old.homes g.0) order g.1 old.bins first next one placed,
      all_placed_more order gs (record { bins = next; homes = (g.0, placed.here) ∷ old.homes }) later new others rest,
      joined,
      count,
    )

    stops_more : (order : List B) (groups : List (K × Members Id)) (old new : List (B × Bin)) (n : ℕ)
        → StopsAfter Less excludes order groups old new n → StopsAfter More excludes order groups old new n
    stops_more order groups old new n h = record {
      beginning = h.beginning;
      next = h.next;
      later = h.later;
      groups_are = h.groups_are;
      placements = h.placements;
      homes = h.homes;
      first = h.first;
      placed = all_placed_more order h.beginning (at_start old) h.placements (record { bins = new; homes = h.homes }) h.first h.placed;
      count = h.count;
      refused = refused_more (excludes h.homes h.next.0) order h.next.1 new h.count h.refused;
      tests_are = h.tests_are;
    }

  module _ {G : Type 0} (group_cmp : Group G Id → Group G Id → Ordering) (excludes : List (Group G Id × B) → Group G Id → B → Bool) where
    -- a packing that is done
    pub PackingDone-more : (all : Collection Id G) (old : List (B × Bin)) (placements : List (Placement Id B)) (new : List (B × Bin))
        → PackingDoneBy group_cmp Less excludes all old placements new → PackingDoneBy group_cmp More excludes all old placements new
    PackingDone-more all old placements new h = record {
      group_order = h.group_order;
      bin_order = h.bin_order;
      groups = h.groups;
      by_groups = groups_more may more includes group_cmp cmp all.sizes all.groups h.group_order h.by_groups;
      by_bins = λ some. bins_more may more includes bin_cmp old h.bin_order (h.by_bins some);
      listed = h.listed;
      homes = h.homes;
      tests = h.tests;
      placed = all_placed_more excludes (map (λ o. o.1) h.bin_order) h.groups (at_start old) placements
          (record { bins = new; homes = h.homes }) h.tests h.placed;
    }

    -- and one that is refused
    pub PackingRefused-more : (all : Collection Id G) (old new : List (B × Bin)) → PackingRefusedBy group_cmp Less excludes all old new
        → PackingRefusedBy group_cmp More excludes all old new
    PackingRefused-more all old new h = record {
      group_order = h.group_order;
      bin_order = h.bin_order;
      groups = h.groups;
      by_groups = groups_more may more includes group_cmp cmp all.sizes all.groups h.group_order h.by_groups;
      by_bins = bins_more may more includes bin_cmp old h.bin_order h.by_bins;
      listed = h.listed;
      tests = h.tests;
      stops = stops_more excludes (map (λ o. o.1) h.bin_order) h.groups old new h.tests h.stops;
    }

-- each of two may answer what either may
either_one : (one other : Answers) → Includes one (either_of one other)
either_one one other = record { rate = λ size rate says. inl says; prefer = λ first second r says. inl says }

either_other : (one other : Answers) → Includes other (either_of one other)
either_other one other = record { rate = λ size rate says. inr says; prefer = λ first second r says. inr says }

-- so what holds of two packings by what either may answer holds of two by closures of their own
pub HaveOneResult-either : {Id B G : Type 0} (group_cmp : Group G Id → Group G Id → Ordering) (cmp : Id → Id → Ordering)
    (bin_cmp : B → B → Ordering) (one other : Answers)
    (all others : Collection Id G) (bins other_bins : List (B × Bin))
    → HaveOneResult group_cmp (rules_by cmp bin_cmp (either_of one other)) (rules_by cmp bin_cmp (either_of one other)) all others bins other_bins
    → HaveOneResult group_cmp (rules_by cmp bin_cmp one) (rules_by cmp bin_cmp other) all others bins other_bins
HaveOneResult-either group_cmp cmp bin_cmp one other all others bins other_bins h =
    let both = either_of one other in
    let excludes = excludes_by group_cmp bin_cmp all.partners in
    let other_bars = excludes_by group_cmp bin_cmp others.partners in
    let l = either_one one other in
    let r = either_other one other in
    record {
      done = λ ps qs m n p q. h.done ps qs m n (PackingDone-more cmp bin_cmp one both l group_cmp excludes all bins ps m p)
          (PackingDone-more cmp bin_cmp other both r group_cmp other_bars others other_bins qs n q);
      refused = λ m n p q. h.refused m n (PackingRefused-more cmp bin_cmp one both l group_cmp excludes all bins m p)
          (PackingRefused-more cmp bin_cmp other both r group_cmp other_bars others other_bins n q);
      not_done_and_refused = λ ps m n p q. h.not_done_and_refused ps m n (PackingDone-more cmp bin_cmp one both l group_cmp excludes all bins ps m p)
          (PackingRefused-more cmp bin_cmp other both r group_cmp other_bars others other_bins n q);
      not_refused_and_done = λ qs m n p q. h.not_refused_and_done qs m n (PackingRefused-more cmp bin_cmp one both l group_cmp excludes all bins m p)
          (PackingDone-more cmp bin_cmp other both r group_cmp other_bars others other_bins qs n q);
    }

-- a function as heuristic and smallest boxes decide, whichever of two pairs of closures answers
pub rates_decide : (rate_of : Size → ℕ) (one other : Answers) (R S : Size → ℕ → Type 0)
    → ((size : Size) (rate : ℕ) → one.rate size rate → rate ≡ rate_of size) → ((size : Size) (rate : ℕ) → other.rate size rate → rate ≡ rate_of size)
    → ((size : Size) (rate : ℕ) → IsU32 size → R size rate → rate ≡ rate_of size)
    → ((size : Size) (rate : ℕ) → IsU32 size → S size rate → rate ≡ rate_of size)
    → ((a b : List Size) (r : Ordering) → one.prefer a b r → All IsU32 a × All IsU32 b)
    → ((a b : List Size) (r : Ordering) → other.prefer a b r → All IsU32 a × All IsU32 b)
    → ((a b : List Size) (r : Ordering) → one.prefer a b r → IsSmallestOrder R a b r)
    → ((a b : List Size) (r : Ordering) → other.prefer a b r → IsSmallestOrder S a b r)
    → (boxes : List Size) (bins : List Bin) → ClosuresDecide boxes bins (either_of one other)
rates_decide rate_of one other R S rates other_rates rated other_rated small other_small smallest other_smallest boxes bins =
    let Both : Size → ℕ → Type 0 = λ size rate. R size rate ⊎ S size rate in
    total_decides boxes bins (either_of one other)
    (record { rate = rate_of; only = λ size rate. ⊎_elim (rates size rate) (other_rates size rate) })
    (smallest_is_preorder Both rate_of (λ size rate u. ⊎_elim (rated size rate u) (other_rated size rate u))
    (λ a b r. one.prefer a b r ⊎ other.prefer a b r) (λ a b r. ⊎_elim (small a b r) (other_small a b r))
    (λ a b r. ⊎_elim (λ says. smallest_more R Both (λ size rate h. inl h) a b r (smallest a b r says))
    (λ says. smallest_more S Both (λ size rate h. inr h) a b r (other_smallest a b r says))))
