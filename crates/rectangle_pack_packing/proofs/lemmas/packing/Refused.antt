-- A refused group is taken by no bin.
use Rattle.rectangle_pack_sections.proofs.Std.{◌≡◌, ℕ, List, [], ◌∷◌, refl, sym, ◌∙◌, subst, cond, true, false, Bool, inl, inr, Some, IsSome, map, All, AllZip}
use Rattle.rectangle_pack_sections.proofs.Std.{Ordering, Equal, IsTotalOrder, Equal-is, is_eq, lookup, is_at, All-head, All-tail, All-permutation}
use Rattle.rectangle_pack_sections.proofs.Std.{IsPermutation-map, IsPermutation-sym}
use Rattle.rectangle_pack_sections.specs.declared.group.Group.{Group}
use Rattle.rectangle_pack_packing.specs.declared.answer.Placement.{Placement}
use Rattle.rectangle_pack_sections.specs.Boxes.{Size, Cuboid, Holds}
use Rattle.rectangle_pack_sections.specs.Bins.{Bin}
use Rattle.rectangle_pack_sections.specs.Closures.{Answers}
use Rattle.rectangle_pack_sections.specs.Groups.{Collection}
use Rattle.rectangle_pack_packing.specs.Orders.{IsBinOrder}
use Rattle.rectangle_pack_packing.specs.Packing.{Rules, Members, Stage, at_start, excludes_by, DoesNotTake, IsRefused, AreAllPlaced, PackingRefused}
use Rattle.rectangle_pack_lists.specs.Steps.{IsStuck}
use Rattle.rectangle_pack_packing.proofs.lemmas.packing.Excluded.{excludes-alike}
use Rattle.rectangle_pack_sections.proofs.lemmas.util.Maps.{lookup-equal, is_some-keys}
use Rattle.rectangle_pack_sections.proofs.lemmas.util.Zips.{All-from_zip}
use Rattle.rectangle_pack_packing.proofs.lemmas.packing.Placed.{keys-placed}

module _ {Id B : Type 0} (rules : Rules Id B) (o : IsTotalOrder rules.bin_cmp) where
  -- what holds of each bin of an order holds of each bin
  at_each : (P : B → Type 0) → ((x y : B) → rules.bin_cmp x y ≡ Equal → P y → P x) → (es : List (B × Bin)) (unsorted : List (ℕ × B))
      → AllZip (λ bin entry. (rules.bin_cmp bin.0 entry.1 ≡ Equal) × rules.may.rate bin.1.size entry.0) es unsorted
      → All P (map (λ entry. entry.1) unsorted) → (q : B) → IsSome (lookup (is_at (rules.bin_cmp q)) es) → P q
  at_each P same [] [] each all q some = cc
  at_each P same [] (u ∷ us) each all q some = absurd each
  at_each P same (e ∷ es) [] each all q some = absurd each
  at_each P same (e ∷ es) (u ∷ us) each all q some = by (is_eq (rules.bin_cmp q e.0)) refl some
      (at_each P same es us each.1 (All-tail P u.1 (map (λ (entry : ℕ × B). entry.1) us) all) q)
    where
      by : (b : Bool) → is_eq (rules.bin_cmp q e.0) ≡ b → IsSome (cond b (Some e.1) (lookup (is_at (rules.bin_cmp q)) es))
          → (IsSome (lookup (is_at (rules.bin_cmp q)) es) → P q) → P q
      by true t h ih = same q u.1 (o.congr q e.0 u.1 ((Equal-is _).0 t) ∙ each.0.0) (All-head P u.1 (map (λ (entry : ℕ × B). entry.1) us) all)
      by false t h ih = ih h

  module _ {K : Type 0} (excludes : List (K × B) → K → B → Bool) where
    -- a group that is refused is taken by no bin
    pub none_takes : (bin_order : List (ℕ × B)) (old : Stage K B) (new : Stage K B) (beginning : List (K × Members Id)) (placements : List (Placement Id B))
        (tests : ℕ) (excluded : B → Bool) (group : Members Id) (count : ℕ)
        → ((x y : B) → rules.bin_cmp x y ≡ Equal → excluded x ≡ excluded y)
        → IsBinOrder rules.may.rate rules.bin_cmp old.bins bin_order
        → AreAllPlaced rules excludes (map (λ entry. entry.1) bin_order) beginning old placements new tests
        → IsRefused rules excluded (map (λ entry. entry.1) bin_order) group new.bins count
        → (q : B) → IsSome (lookup (is_at (rules.bin_cmp q)) old.bins) → (n : ℕ) × DoesNotTake rules excluded new.bins group q n
    none_takes bin_order old new beginning placements tests excluded group count alike by_bins placed refused q some =
        at_each P same old.bins by_bins.unsorted by_bins.each unsorted q some
      where
        P : B → Type 0
        P id = (n : ℕ) × DoesNotTake rules excluded new.bins group id n

        same : (x y : B) → rules.bin_cmp x y ≡ Equal → P y → P x
        same x y e h = (h.0, rw (alike x y e, lookup-equal o x y e new.bins) h.1)

        each : All P (map (λ (entry : ℕ × B). entry.1) bin_order)
        each = All-from_zip (DoesNotTake rules excluded new.bins group) P
            (λ id n passed. (n, passed)) (map (λ (entry : ℕ × B). entry.1) bin_order) refused.counts refused.passed

        unsorted : All P (map (λ (entry : ℕ × B). entry.1) by_bins.unsorted)
        unsorted = All-permutation P (map (λ (entry : ℕ × B). entry.1) bin_order) (map (λ (entry : ℕ × B). entry.1) by_bins.unsorted)
            (IsPermutation-map (λ (entry : ℕ × B). entry.1) bin_order by_bins.unsorted (IsPermutation-sym by_bins.unsorted bin_order by_bins.permutation)) each

-- a trial of one member that is stuck
one_stuck : (may : Answers) (sections : List Cuboid) (sizes : List Size) (size : Size) (n : ℕ) → sizes ≡ size ∷ [] → IsStuck may sections sizes n
    → All (λ s. ¬ Holds s size) sections
one_stuck may sections sizes size n one h = by (subst (λ ms. IsStuck may sections ms n) one h)
  where
    by : IsStuck may sections (size ∷ []) n → All (λ s. ¬ Holds s size) sections
    by (inl none) = none.0
    by (inr some) = absurd some.5

-- a bin that is not excluded and does not take a group of one box: none of its sections holds the box
pub none_held : {Id B : Type 0} (rules : Rules Id B) (excluded : B → Bool) (bins : List (B × Bin)) (group : Members Id) (size : Size) (id : B) (bin : Bin)
    → group.sizes ≡ size ∷ [] → excluded id ≡ false → lookup (is_at (rules.bin_cmp id)) bins ≡ Some bin
    → (n : ℕ) × DoesNotTake rules excluded bins group id n → All (λ s. ¬ Holds s size) bin.sections
none_held rules excluded bins group size id bin one allowed found (n, passed) =
    one_stuck rules.may bin.sections group.sizes size n one (rw (allowed, found) at passed)

module _ {Id B G : Type 0} (group_cmp : Group G Id → Group G Id → Ordering) (rules : Rules Id B) (o : IsTotalOrder rules.bin_cmp) (all : Collection Id G) where
  -- the refused group of a packing is taken by no bin, as the groups before it left them
  pub taken_nowhere : (old new : List (B × Bin)) (refused : PackingRefused group_cmp rules all old new) (id : B)
      → IsSome (lookup (is_at (rules.bin_cmp id)) old)
      → (n : ℕ) × DoesNotTake rules (excludes_by group_cmp rules.bin_cmp all.partners refused.stops.homes refused.stops.next.0) new refused.stops.next.1 id n
  taken_nowhere old new refused =
      let excludes = excludes_by group_cmp rules.bin_cmp all.partners in
      let stops = refused.stops in
      none_takes rules o excludes refused.bin_order (at_start old) (record { bins = new; homes = stops.homes }) stops.beginning stops.placements stops.first
      (excludes stops.homes stops.next.0) stops.next.1 stops.count (excludes-alike group_cmp o all.partners stops.homes stops.next.0)
      refused.by_bins stops.placed stops.refused

  -- and its box, if it has one entry, is held nowhere where it is not excluded
  pub held_nowhere : (old new : List (B × Bin)) (refused : PackingRefused group_cmp rules all old new) (size : Size)
      → refused.stops.next.1.sizes ≡ size ∷ [] → (id : B) (bin : Bin)
      → excludes_by group_cmp rules.bin_cmp all.partners refused.stops.homes refused.stops.next.0 id ≡ false → lookup (is_at (rules.bin_cmp id)) new ≡ Some bin
      → All (λ s. ¬ Holds s size) bin.sections
  held_nowhere old new refused size one id bin allowed found =
      let stops = refused.stops in
      let excludes = excludes_by group_cmp rules.bin_cmp all.partners in
      let order = map (λ (entry : ℕ × B). entry.1) refused.bin_order in
      let keys = sym (keys-placed rules excludes order stops.beginning (at_start old) stops.placements
      (record { bins = new; homes = stops.homes }) stops.first stops.placed) in
      none_held rules (excludes stops.homes stops.next.0) new stops.next.1 size id bin one allowed found
      (taken_nowhere old new refused id (is_some-keys (is_at (rules.bin_cmp id)) old new keys ∙ rw found refl))
