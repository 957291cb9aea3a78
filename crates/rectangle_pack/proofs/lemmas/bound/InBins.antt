-- The boxes of a packing inside its bins, where no two share a cell.
use Rattle.rectangle_pack_sections.proofs.Std.{◌≡◌, ℕ, List, [], ◌∷◌, ◌++◌, get_or, refl, sym, ◌∙◌, ap, arith, Bool, true, false, cond, map, filter}
use Rattle.rectangle_pack_sections.proofs.Std.{All, All-nil, All-cons, All-head, All-tail, All-weaker, AllPairs, AllPairs-cons, AllZip, Ordering, Equal, IsTotalOrder, is_eq}
use Rattle.rectangle_pack_sections.proofs.Std.{lookup, is_at, keys_of, tied_itself, IsSome, IsSomeAnd, Some, option_map, lookup-map_values}
use Rattle.rectangle_pack_sections.specs.declared.group.Group.{Group}
use Rattle.rectangle_pack_sections.specs.Boxes.{IsInside, AreApart}
use Rattle.rectangle_pack_sections.specs.Bins.{Bin}
use Rattle.rectangle_pack_sections.specs.Counting.{AreAllApart}
use Rattle.rectangle_pack_sections.specs.Groups.{Collection}
use Rattle.rectangle_pack_bounds.specs.Arrangements.{Put}
use Rattle.rectangle_pack_packing.specs.declared.answer.Placement.{Placement}
use Rattle.rectangle_pack_packing.specs.declared.pack.told.Step.{Step}
use Rattle.rectangle_pack_packing.specs.KeptBins.{KeepsEachBin, locations_in}
use Rattle.rectangle_pack_packing.specs.Packing.{Rules, Members, Stage, AreAllPlaced}
use Rattle.rectangle_pack_packing.specs.Told.{AreStepsDone}
use Rattle.rectangle_pack.specs.Needed.{sizes_of}
use Rattle.rectangle_pack.specs.NeededLaws.{AreSound}
use Rattle.rectangle_pack_sections.proofs.lemmas.util.Lists.{All-back, AllPairs-head, AllPairs-tail}
use Rattle.rectangle_pack_sections.proofs.lemmas.util.Maps.{is_at-back, is_some-keys}
use Rattle.rectangle_pack_sections.proofs.lemmas.util.Searches.{some_of}
use Rattle.rectangle_pack_sections.proofs.lemmas.util.Zips.{All-alike}
use Rattle.rectangle_pack_packing.proofs.lemmas.packing.Frame.{IsRecut, IsChanged, IsFrame-recut, KeptBySteps-recut, changed-all}
use Rattle.rectangle_pack_packing.proofs.lemmas.packing.KeepsCells.{KeepsEachBin-placed}
use Rattle.rectangle_pack_packing.proofs.lemmas.packing.Placed.{keys-placed, known-placed}
use Rattle.rectangle_pack_packing.proofs.lemmas.packing.Told.{keys-told, known-told, changed-told, KeepsEachBin-told}
use Rattle.rectangle_pack.proofs.lemmas.bound.Puts.{IsReadAs}

-- the end of a list, of which each two elements are related
AllPairs-back : {X : Type 0} (R : X → X → Type 0) (xs ys : List X) → AllPairs R (xs ++ ys) → AllPairs R ys
AllPairs-back R [] ys h = h
AllPairs-back R (x ∷ xs) ys h = AllPairs-back R xs ys (AllPairs-tail R x (xs ++ ys) h)

module _ {X Y : Type 0} (f : X → Y) (t : X → Bool) where
  never : (x : X) → t x ≡ false → t x ≡ true → ⊥
  never x e here = let apart : true ≡ false = sym here ∙ e in cc

  -- what holds of what passes, holds of each element where it passes
  All-where : (P : Y → Type 0) (xs : List X) → All P (map f (filter t xs)) → All (λ x. t x ≡ true → P (f x)) xs
  All-where P [] h = All-nil (λ (x : X). t x ≡ true → P (f x))
  All-where P (x ∷ xs) h = by (t x) refl h (All-where P xs)
    where
      by : (b : Bool) → t x ≡ b → All P (map f (cond b (x ∷ filter t xs) (filter t xs)))
          → (All P (map f (filter t xs)) → All (λ y. t y ≡ true → P (f y)) xs) → All (λ y. t y ≡ true → P (f y)) (x ∷ xs)
      by true e passed rest =
          All-cons (λ y. t y ≡ true → P (f y)) x xs (λ here. All-head P (f x) (map f (filter t xs)) passed)
          (rest (All-tail P (f x) (map f (filter t xs)) passed))
      by false e passed rest = All-cons (λ y. t y ≡ true → P (f y)) x xs (λ here. absurd (never x e here)) (rest passed)

  -- and of each two
  AllPairs-where : (R : Y → Y → Type 0) (xs : List X) → AllPairs R (map f (filter t xs))
      → AllPairs (λ x y. t x ≡ true → t y ≡ true → R (f x) (f y)) xs
  AllPairs-where R [] h = λ i j d before within. absurd (omega arith)
  AllPairs-where R (x ∷ xs) h = by (t x) refl h (AllPairs-where R xs)
    where
      by : (b : Bool) → t x ≡ b → AllPairs R (map f (cond b (x ∷ filter t xs) (filter t xs)))
          → (AllPairs R (map f (filter t xs)) → AllPairs (λ x y. t x ≡ true → t y ≡ true → R (f x) (f y)) xs)
          → AllPairs (λ x y. t x ≡ true → t y ≡ true → R (f x) (f y)) (x ∷ xs)
      by true e passed rest =
          let later = map f (filter t xs) in
          AllPairs-cons (λ x y. t x ≡ true → t y ≡ true → R (f x) (f y)) x xs
          (All-weaker (λ y. t y ≡ true → R (f x) (f y)) (λ y. t x ≡ true → t y ≡ true → R (f x) (f y)) (λ y h here. h) xs
          (All-where (R (f x)) xs (AllPairs-head R (f x) later passed)))
          (rest (AllPairs-tail R (f x) later passed))
      by false e passed rest =
          AllPairs-cons (λ x y. t x ≡ true → t y ≡ true → R (f x) (f y)) x xs (λ k d within here. absurd (never x e here)) (rest passed)

-- what holds of each two of a list, holds of each two of a list that is like it
pub AllPairs-alike : {X Y : Type 0} (E : X → Y → Type 0) (R : X → X → Type 0) (S : Y → Y → Type 0)
    → ((x y : X) (v w : Y) → E x v → E y w → R x y → S v w) → (xs : List X) (ys : List Y) → AllZip E xs ys → AllPairs R xs → AllPairs S ys
AllPairs-alike E R S like [] [] h pairs = λ i j d before within. absurd (omega arith)
AllPairs-alike E R S like [] (y ∷ ys) h pairs = absurd h
AllPairs-alike E R S like (x ∷ xs) [] h pairs = absurd h
AllPairs-alike {X} {Y} E R S like (x ∷ xs) (y ∷ ys) h pairs =
    AllPairs-cons S y ys
    (All-alike E (R x) (S y) (λ z w e r. like x z y w h.0 e r) xs ys h.1 (AllPairs-head R x xs pairs))
    (AllPairs-alike E R S like xs ys h.1 (AllPairs-tail R x xs pairs))

-- the box of a placement is inside its bin
abbrev pub IsInBin : {Id B : Type 0} → (B → B → Ordering) → List (B × Bin) → Placement Id B → Type 0
IsInBin bin_cmp bins p = IsSomeAnd (lookup (is_at (bin_cmp p.bin)) (sizes_of bins)) (λ size. IsInside size p.location)

-- two boxes of one bin share no cell
abbrev pub AreApartInBin : {Id B : Type 0} → (B → B → Ordering) → Placement Id B → Placement Id B → Type 0
AreApartInBin bin_cmp a b = bin_cmp a.bin b.bin ≡ Equal → AreApart a.location b.location

-- what a packing keeps, so that its boxes are inside bins and apart: no bin comes or goes, each bin of a placement is
-- there, and the cells of each bin are filled as often as before
pub record AreBinsKept {Id B : Type 0} (bin_cmp : B → B → Ordering) (old : List (B × Bin)) (placements : List (Placement Id B)) (new : List (B × Bin)) : Type 0 where
  pub keys : keys_of new ≡ keys_of old
  pub there : All (λ p. IsSome (lookup (is_at (bin_cmp p.bin)) new)) placements
  pub changed : (q : B) (before : Bin) → lookup (is_at (bin_cmp q)) old ≡ Some before → IsChanged IsRecut bin_cmp placements new q before
  pub cells : KeepsEachBin bin_cmp old placements new

-- a packing of groups keeps it
pub placed_kept : {Id B K : Type 0} (rules : Rules Id B) → IsTotalOrder rules.bin_cmp → (excludes : List (K × B) → K → B → Bool) (order : List B)
    (gs : List (K × Members Id)) (old : Stage K B) (placements : List (Placement Id B)) (new : Stage K B) (tests : ℕ)
    → AreAllPlaced rules excludes order gs old placements new tests → AreBinsKept rules.bin_cmp old.bins placements new.bins
placed_kept rules o excludes order gs old placements new tests placed = record {
  keys = keys-placed rules excludes order gs old placements new tests placed;
  there = known-placed rules excludes o order gs old placements new tests placed;
  changed = changed-all IsFrame-recut rules o (KeptBySteps-recut rules.may) excludes order gs old placements new tests placed;
  cells = KeepsEachBin-placed rules o excludes order gs old placements new tests placed;
}

-- and so do steps as they are told
pub told_kept : {Id B G : Type 0} (group_cmp : Group G Id → Group G Id → Ordering) (cmp : Id → Id → Ordering) (bin_cmp : B → B → Ordering)
    (all : Collection Id G) → IsTotalOrder bin_cmp → (steps : List (Step Id G B)) (old : Stage (Group G Id) B) (placements : List (Placement Id B))
    (new : Stage (Group G Id) B) → AreStepsDone group_cmp cmp bin_cmp all steps old placements new → AreBinsKept bin_cmp old.bins placements new.bins
told_kept group_cmp cmp bin_cmp all o steps old placements new done = record {
  keys = keys-told group_cmp cmp bin_cmp all steps old placements new done;
  there = known-told group_cmp cmp bin_cmp all o steps old placements new done;
  changed = changed-told group_cmp cmp bin_cmp all IsFrame-recut o (λ heuristic. KeptBySteps-recut _) steps old placements new done;
  cells = KeepsEachBin-told group_cmp cmp bin_cmp all o steps old placements new done;
}

module _ {Id B : Type 0} {bin_cmp : B → B → Ordering} (o : IsTotalOrder bin_cmp) (old : List (B × Bin)) (placements : List (Placement Id B))
    (new : List (B × Bin)) (kept : AreBinsKept bin_cmp old placements new) (sound : AreSound bin_cmp old) where
  itself : (p : Placement Id B) → is_at (bin_cmp p.bin) p.bin ≡ true
  itself p = ap is_eq (tied_itself o p.bin)

  -- the bin of a placement was there before
  was_there : (p : Placement Id B) → IsSome (lookup (is_at (bin_cmp p.bin)) new) → (bin : Bin) × (lookup (is_at (bin_cmp p.bin)) old ≡ Some bin)
  was_there p some = some_of _ (sym (is_some-keys (is_at (bin_cmp p.bin)) new old kept.keys) ∙ some)

  known : All (λ p. (bin : Bin) × (lookup (is_at (bin_cmp p.bin)) old ≡ Some bin)) placements
  known = All-weaker (λ (p : Placement Id B). IsSome (lookup (is_at (bin_cmp p.bin)) new))
      (λ p. (bin : Bin) × (lookup (is_at (bin_cmp p.bin)) old ≡ Some bin)) was_there placements kept.there

  inside_there : (q : B) (bin : Bin) → lookup (is_at (bin_cmp q)) old ≡ Some bin → All (IsInside bin.size) (locations_in bin_cmp placements q)
  inside_there q bin was =
      let changed = kept.changed q bin was in
      All-back (IsInside bin.size) changed.after.sections (locations_in bin_cmp placements q)
      (changed.framed.inside bin.size (sound q bin was).inside)

  apart_there : (q : B) (bin : Bin) → lookup (is_at (bin_cmp q)) old ≡ Some bin → AreAllApart (locations_in bin_cmp placements q)
  apart_there q bin was =
      let (after, found, size, keeps) = kept.cells.each q bin was (sound q bin was).apart in
      AllPairs-back AreApart after.sections (locations_in bin_cmp placements q) keeps.apart

  pub placed_inside : All (IsInBin bin_cmp old) placements
  placed_inside = λ k d within.
      let p = get_or placements k d in
      let (bin, was) = known k d within in
      let size : lookup (is_at (bin_cmp p.bin)) (sizes_of old) ≡ Some bin.size =
      lookup-map_values (λ (b : Bin). b.size) (is_at (bin_cmp p.bin)) old ∙ ap (option_map (λ (b : Bin). b.size)) was in
      rw size (All-where (λ (r : Placement Id B). r.location) (λ r. is_at (bin_cmp r.bin) p.bin) (IsInside bin.size) placements
      (inside_there p.bin bin was) k d within (itself p))

  pub placed_apart : AllPairs (AreApartInBin bin_cmp) placements
  placed_apart = λ i j d before within same.
      let a = get_or placements i d in
      let b = get_or placements j d in
      let (bin, was) = known i d (omega arith) in
      AllPairs-where (λ (r : Placement Id B). r.location) (λ r. is_at (bin_cmp r.bin) a.bin) AreApart placements (apart_there a.bin bin was)
      i j d before within (itself a) (is_at-back o b.bin a.bin ∙ ap is_eq same)

-- and so it is of the puts that are read of the placements
module _ {Id B K : Type 0} (cmp : Id → Id → Ordering) (bin_cmp : B → B → Ordering) (bins : List (B × Bin)) (placements : List (Placement Id B))
    (puts : List (Put (K × Id) B)) (read : AllZip (IsReadAs cmp) placements puts) where
  pub puts_inside : All (IsInBin bin_cmp bins) placements
      → All (λ put. IsSomeAnd (lookup (is_at (bin_cmp put.bin)) (sizes_of bins)) (λ size. IsInside size put.box)) puts
  puts_inside h =
      All-alike (IsReadAs cmp) (IsInBin bin_cmp bins) (λ put. IsSomeAnd (lookup (is_at (bin_cmp put.bin)) (sizes_of bins)) (λ size. IsInside size put.box))
      (λ p put is inside. rw (is.1, is.2) inside) placements puts read h

  pub puts_apart : AllPairs (AreApartInBin bin_cmp) placements → AllPairs (λ a b. bin_cmp a.bin b.bin ≡ Equal → AreApart a.box b.box) puts
  puts_apart h =
      AllPairs-alike (IsReadAs cmp) (AreApartInBin bin_cmp) (λ a b. bin_cmp a.bin b.bin ≡ Equal → AreApart a.box b.box)
      (λ p q put other is are apart. rw (is.1, is.2, are.1, are.2) apart) placements puts read h
