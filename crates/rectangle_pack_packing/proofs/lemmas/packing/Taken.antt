-- Groups that are taken in turn, each placed or left. Without those that are left, they are a packing that places all: so it keeps what a packing keeps.
use Rattle.rectangle_pack_sections.proofs.Std.{◌≡◌, ℕ, ◌+◌, Bool, List, [], ◌∷◌, ◌++◌, refl, ap, arith, length, map, inl, inr}
use Rattle.rectangle_pack_sections.proofs.Std.{Some, IsSome, All, Ordering, IsTotalOrder, lookup, keys_of, is_at, All-nil, All-cons, All-head, All-tail}
use Rattle.rectangle_pack_sections.proofs.Std.{IsPermutation, IsPermutation-refl, IsPermutation-trans, IsPermutation-cons, IsPermutation-middle}
use Rattle.rectangle_pack_sections.specs.Bins.{Bin}
use Rattle.rectangle_pack_sections.specs.Boxes.{Size, Cuboid}
use Rattle.rectangle_pack_packing.specs.declared.answer.Placement.{Placement}
use Rattle.rectangle_pack_packing.specs.Fitting.{AreTaken}
use Rattle.rectangle_pack_packing.specs.KeptBins.{KeepsEachBin}
use Rattle.rectangle_pack_packing.specs.Packing.{Rules, Members, Stage, AreKeptApart, excludes_by, AreAllPlaced}
use Rattle.rectangle_pack_packing.proofs.lemmas.packing.Excluded.{placed_apart}
use Rattle.rectangle_pack_packing.proofs.lemmas.packing.Frame.{IsFrame, KeptBySteps, IsChanged, changed-all}
use Rattle.rectangle_pack_packing.proofs.lemmas.packing.KeepsCells.{KeepsEachBin-placed}
use Rattle.rectangle_pack_packing.proofs.lemmas.packing.Placed.{keys-placed, known-placed}
use Rattle.rectangle_pack_packing.proofs.lemmas.packing.Whole.{AddsHomes, AreKnown, placed_whole}

-- an entry that moves from its place to the front
middle_front : {X : Type 0} (before : List X) (x : X) (after gs : List X) → IsPermutation (before ++ after) gs → IsPermutation (before ++ x ∷ after) (x ∷ gs)
middle_front before x after gs h =
    IsPermutation-trans (before ++ x ∷ after) (x ∷ (before ++ after)) (x ∷ gs) (IsPermutation-middle before x after) (IsPermutation-cons x (before ++ after) gs h)

module _ {Id B K : Type 0} (rules : Rules Id B) (excludes : List (K × B) → K → B → Bool) where
  -- where none is left, all are placed
  pub taken-none : (order : List B) (gs : List (K × Members Id)) (old : Stage K B) (placements : List (Placement Id B)) (new : Stage K B) (tests : ℕ)
      → AreTaken rules excludes order gs old placements [] new tests → AreAllPlaced rules excludes order gs old placements new tests
  taken-none order [] old placements new n h = (h.0, h.2, h.3)
  taken-none order (g ∷ gs) old placements new n (inl (first, next, one, later, others, placed, rest, joined, count)) =
      (first, next, one, later, others, placed, taken-none order gs _ later new others rest, joined, count)
  taken-none order (g ∷ gs) old placements new n (inr (one, names, others, refused, rest, left, count)) = absurd (omega (arith, ap length left))

  -- and the other way round
  pub taken-all : (order : List B) (gs : List (K × Members Id)) (old : Stage K B) (placements : List (Placement Id B)) (new : Stage K B) (tests : ℕ)
      → AreAllPlaced rules excludes order gs old placements new tests → AreTaken rules excludes order gs old placements [] new tests
  taken-all order [] old placements new n h = (h.0, refl, h.1, h.2)
  taken-all order (g ∷ gs) old placements new n (first, next, one, later, others, placed, rest, joined, count) =
      inl (first, next, one, later, others, placed, taken-all order gs _ later new others rest, joined, count)

  module _ (P : K × Members Id → Type 0) where
    -- the groups that are placed, of those that are taken: a packing of them alone places them all
    pub record PlacesSome (order : List B) (gs : List (K × Members Id)) (old : Stage K B) (placements : List (Placement Id B)) (left : List K)
        (new : Stage K B) : Type 0 where
      pub kept : List (K × Members Id)
      pub tests : ℕ
      pub placed : AreAllPlaced rules excludes order kept old placements new tests
      pub names : IsPermutation (map (λ g. g.0) kept ++ left) (map (λ g. g.0) gs)
      pub each : All P kept

    pub taken-some : (order : List B) (gs : List (K × Members Id)) (old : Stage K B) (placements : List (Placement Id B)) (left : List K) (new : Stage K B)
        (tests : ℕ) → All P gs → AreTaken rules excludes order gs old placements left new tests → PlacesSome order gs old placements left new
    taken-some order [] old placements left new n all h =
        record { kept = []; tests = 0; placed = (h.0, h.2, refl); names = rw h.1 (IsPermutation-refl []); each = All-nil P }
    taken-some order (g ∷ gs) old placements left new n all (inl (first, next, one, later, others, placed, rest, joined, count)) =
        let home : K × B = (g.0, placed.here) in
        let ih = taken-some order gs (record { bins = next; homes = home ∷ old.homes }) later left new others (All-tail P g gs all) rest in
        record {
          kept = g ∷ ih.kept;
          tests = one + ih.tests;
          placed = (first, next, one, later, ih.tests, placed, ih.placed, joined, refl);
          names = IsPermutation-cons g.0 (map (λ h. h.0) ih.kept ++ left) (map (λ h. h.0) gs) ih.names;
          each = All-cons P g ih.kept (All-head P g gs all) ih.each;
        }
    taken-some order (g ∷ gs) old placements left new n all (inr (one, names, others, refused, rest, is, count)) =
        let ih = taken-some order gs old placements names new others (All-tail P g gs all) rest in
        record {
          kept = ih.kept;
          tests = ih.tests;
          placed = ih.placed;
          names = rw is (middle_front (map (λ h. h.0) ih.kept) g.0 names (map (λ h. h.0) gs) ih.names);
          each = ih.each;
        }

  -- without more to say of the groups
  abbrev Some_placed : List B → List (K × Members Id) → Stage K B → List (Placement Id B) → List K → Stage K B → Type 0
  Some_placed order gs old placements left new = PlacesSome (λ _. Unit {0}) order gs old placements left new

  pub some_placed : (order : List B) (gs : List (K × Members Id)) (old : Stage K B) (placements : List (Placement Id B)) (left : List K) (new : Stage K B)
      (tests : ℕ) → AreTaken rules excludes order gs old placements left new tests → Some_placed order gs old placements left new
  some_placed order gs old placements left new n h = taken-some (λ _. Unit {0}) order gs old placements left new n (λ k d lt. tt) h

  -- no bin comes or goes
  pub keys-taken : (order : List B) (gs : List (K × Members Id)) (old : Stage K B) (placements : List (Placement Id B)) (left : List K) (new : Stage K B)
      (tests : ℕ) → AreTaken rules excludes order gs old placements left new tests → keys_of new.bins ≡ keys_of old.bins
  keys-taken order gs old placements left new n h =
      let s = some_placed order gs old placements left new n h in
      keys-placed rules excludes order s.kept old placements new s.tests s.placed

  -- what steps keep, they keep in each bin
  pub changed-taken : {R : List Cuboid → List Cuboid → Type 0} → IsFrame R → IsTotalOrder rules.bin_cmp → KeptBySteps rules.may R
      → (order : List B) (gs : List (K × Members Id)) (old : Stage K B) (placements : List (Placement Id B)) (left : List K) (new : Stage K B)
      (tests : ℕ) → AreTaken rules excludes order gs old placements left new tests
      → (q : B) (before : Bin) → lookup (is_at (rules.bin_cmp q)) old.bins ≡ Some before → IsChanged R rules.bin_cmp placements new.bins q before
  changed-taken frame o kept order gs old placements left new n h =
      let s = some_placed order gs old placements left new n h in
      changed-all frame rules o kept excludes order s.kept old placements new s.tests s.placed

  pub KeepsEachBin-taken : IsTotalOrder rules.bin_cmp → (order : List B) (gs : List (K × Members Id)) (old : Stage K B) (placements : List (Placement Id B))
      (left : List K) (new : Stage K B) (tests : ℕ) → AreTaken rules excludes order gs old placements left new tests
      → KeepsEachBin rules.bin_cmp old.bins placements new.bins
  KeepsEachBin-taken o order gs old placements left new n h =
      let s = some_placed order gs old placements left new n h in
      KeepsEachBin-placed rules o excludes order s.kept old placements new s.tests s.placed

  module _ (group_cmp : K → K → Ordering) (sizes : List (Id × Size)) (lists : List (K × List Id)) where
    -- the group is that of its list, with its sizes
    abbrev pub IsKnown : K × Members Id → Type 0
    IsKnown g = AreKnown rules group_cmp sizes lists (g ∷ [])

    pub known-each : (gs : List (K × Members Id)) → AreKnown rules group_cmp sizes lists gs → All IsKnown gs
    known-each [] k = All-nil IsKnown
    known-each (g ∷ gs) k = All-cons IsKnown g gs (k.0, k.1, tt) (known-each gs k.2)

    pub each-known : (gs : List (K × Members Id)) → All IsKnown gs → AreKnown rules group_cmp sizes lists gs
    each-known [] all = tt
    each-known (g ∷ gs) all = let k = All-head IsKnown g gs all in (k.0, k.1, each-known gs (All-tail IsKnown g gs all))

    -- the homes that are added are those of the groups that are placed, and with those that are left these are all groups
    pub record AddsSome (gs : List (K × Members Id)) (placements : List (Placement Id B)) (left : List K) (old new : List (K × B)) : Type 0 where
      pub kept : List (K × Members Id)
      pub adds : AddsHomes rules group_cmp sizes lists kept placements old new
      pub names : IsPermutation (map (λ g. g.0) kept ++ left) (map (λ g. g.0) gs)

    pub taken_whole : (order : List B) (gs : List (K × Members Id)) (old : Stage K B) (placements : List (Placement Id B)) (left : List K)
        (new : Stage K B) (tests : ℕ) → AreKnown rules group_cmp sizes lists gs → AreTaken rules excludes order gs old placements left new tests
        → AddsSome gs placements left old.homes new.homes
    taken_whole order gs old placements left new n known h =
        let s = taken-some IsKnown order gs old placements left new n (known-each gs known) h in
        record {
          kept = s.kept;
          adds = placed_whole rules group_cmp sizes lists excludes order s.kept old placements new s.tests (each-known s.kept s.each) s.placed;
          names = s.names;
        }

-- groups that are excluded do not share a bin
pub taken_apart : {Id K B : Type 0} (group_cmp : K → K → Ordering) (rules : Rules Id B) (partners : List (K × List K))
    (order : List B) (gs : List (K × Members Id)) (old : Stage K B) (placements : List (Placement Id B)) (left : List K) (new : Stage K B) (tests : ℕ)
    → AreTaken rules (excludes_by group_cmp rules.bin_cmp partners) order gs old placements left new tests
    → AreKeptApart group_cmp rules.bin_cmp partners old.homes → AreKeptApart group_cmp rules.bin_cmp partners new.homes
taken_apart group_cmp rules partners order gs old placements left new n h =
    let s = some_placed rules (excludes_by group_cmp rules.bin_cmp partners) order gs old placements left new n h in
    placed_apart group_cmp rules partners order s.kept old placements new s.tests s.placed
