-- The placements of groups that are placed whole, read as puts.
use Rattle.rectangle_pack_sections.proofs.Std.{◌≡◌, List, [], ◌∷◌, ◌++◌, get_or, refl, sym, ◌∙◌, ap, subst, arith, true, false, not, map, unwrap_or, Some}
use Rattle.rectangle_pack_sections.proofs.Std.{All, All-nil, All-cons, All-append, All-head, All-tail, All-weaker, AllPairs, AllZip, map-append, Ordering, Equal, IsTotalOrder, is_eq}
use Rattle.rectangle_pack_sections.proofs.Std.{lookup, is_at, tied_itself, and_parts}
use Rattle.std.proofs.Common.{flat_map}
use Rattle.rectangle_pack_sections.specs.Boxes.{Size}
use Rattle.rectangle_pack_sections.specs.Exclusions.{are_excluded}
use Rattle.rectangle_pack_bounds.specs.Arrangements.{Put}
use Rattle.rectangle_pack_packing.specs.declared.answer.Placement.{Placement}
use Rattle.rectangle_pack_packing.specs.Placed.{ArePlacedWhole}
use Rattle.rectangle_pack.specs.Needed.{are_two_excluded}
use Rattle.rectangle_pack_sections.proofs.lemmas.util.Lists.{AllPairs-head, AllPairs-tail, AllPairs-append}
use Rattle.rectangle_pack_sections.proofs.lemmas.util.Maps.{congr_right}
use Rattle.rectangle_pack_sections.proofs.lemmas.util.Zips.{AllZip-append}
use Rattle.rectangle_pack.proofs.lemmas.bound.Entries.{entries_named}

-- a placement, read as a put
abbrev pub IsReadAs : {Id B K : Type 0} → (Id → Id → Ordering) → Placement Id B → Put (K × Id) B → Type 0
IsReadAs cmp p put = (cmp put.of.1 p.id ≡ Equal) × (put.bin ≡ p.bin) × (put.box ≡ p.location)

-- the placements of the ids of a group, as puts
abbrev pub puts_in : {Id B K : Type 0} → K → List Id → List (Placement Id B) → List (Put (K × Id) B)
puts_in name [] ps = []
puts_in name (id ∷ ids) [] = []
puts_in name (id ∷ ids) (p ∷ ps) = record { of = (name, id); bin = p.bin; box = p.location } ∷ puts_in name ids ps

-- what holds of each element holds of each two
all_pairs : {X : Type 0} (P : X → Type 0) (R : X → X → Type 0) → ((x y : X) → P x → P y → R x y) → (xs : List X) → All P xs → AllPairs R xs
all_pairs P R both xs h = λ i j d before within. both (get_or xs i d) (get_or xs j d) (h i d (omega arith)) (h j d within)

module _ {Id B K : Type 0} (cmp : Id → Id → Ordering) (sizes : List (Id × Size)) (name : K) where
  abbrev IsEntry : Id → Placement Id B → Type 0
  IsEntry id p = (cmp id p.id ≡ Equal) × (lookup (is_at (cmp id)) sizes ≡ Some p.location.whd)

  -- the box is in the size of its id
  abbrev pub IsSized : Put (K × Id) B → Type 0
  IsSized put = lookup (is_at (cmp put.of.1)) sizes ≡ Some put.box.whd

  puts_in-of : (ids : List Id) (ps : List (Placement Id B)) → AllZip IsEntry ids ps → map (λ put. put.of) (puts_in name ids ps) ≡ map (λ id. (name, id)) ids
  puts_in-of [] ps h = refl
  puts_in-of (id ∷ ids) [] h = absurd h
  puts_in-of (id ∷ ids) (p ∷ ps) h = ap (λ (l : List (K × Id)). (name, id) ∷ l) (puts_in-of ids ps h.1)

  puts_in-read : (ids : List Id) (ps : List (Placement Id B)) → AllZip IsEntry ids ps → AllZip (IsReadAs cmp) ps (puts_in name ids ps)
  puts_in-read [] [] h = tt
  puts_in-read [] (p ∷ ps) h = absurd h
  puts_in-read (id ∷ ids) [] h = absurd h
  puts_in-read (id ∷ ids) (p ∷ ps) h = ((h.0.0, refl, refl), puts_in-read ids ps h.1)

  puts_in-sized : (ids : List Id) (ps : List (Placement Id B)) → AllZip IsEntry ids ps → All IsSized (puts_in name ids ps)
  puts_in-sized [] ps h = All-nil IsSized
  puts_in-sized (id ∷ ids) [] h = absurd h
  puts_in-sized (id ∷ ids) (p ∷ ps) h = All-cons IsSized _ (puts_in name ids ps) h.0.1 (puts_in-sized ids ps h.1)

  -- the puts of a group are in its bin
  abbrev IsHome : (B → B → Ordering) → B → Put (K × Id) B → Type 0
  IsHome bin_cmp here put = (put.of.0 ≡ name) × (bin_cmp here put.bin ≡ Equal)

  puts_in-home : (bin_cmp : B → B → Ordering) (here : B) (ids : List Id) (ps : List (Placement Id B)) → All (λ p. bin_cmp here p.bin ≡ Equal) ps
      → All (IsHome bin_cmp here) (puts_in name ids ps)
  puts_in-home bin_cmp here [] ps h = All-nil (IsHome bin_cmp here)
  puts_in-home bin_cmp here (id ∷ ids) [] h = All-nil (IsHome bin_cmp here)
  puts_in-home bin_cmp here (id ∷ ids) (p ∷ ps) h =
      let Here : Placement Id B → Type 0 = λ q. bin_cmp here q.bin ≡ Equal in
      All-cons (IsHome bin_cmp here) _ (puts_in name ids ps) (refl, All-head Here p ps h) (puts_in-home bin_cmp here ids ps (All-tail Here p ps h))

module _ {Id B K : Type 0} (group_cmp : K → K → Ordering) (cmp : Id → Id → Ordering) (bin_cmp : B → B → Ordering) (o : IsTotalOrder group_cmp)
    (bin_o : IsTotalOrder bin_cmp) (sizes : List (Id × Size)) (lists : List (K × List Id)) (partners : List (K × List K)) where
  -- where the groups of two homes are excluded, the bins differ
  abbrev AreHomesApart : K × B → K × B → Type 0
  AreHomesApart a b = are_excluded group_cmp partners a.0 b.0 ≡ true → is_at (bin_cmp a.1) b.1 ≡ false

  -- and those of two puts
  abbrev ArePutsApart : Put (K × Id) B → Put (K × Id) B → Type 0
  ArePutsApart a b = are_two_excluded group_cmp partners a.of.0 b.of.0 ≡ true → is_at (bin_cmp a.bin) b.bin ≡ false

  -- the placements of groups that are placed whole, as puts
  pub record ArePuts (homes : List (K × B)) (placements : List (Placement Id B)) : Type 0 where
    pub puts : List (Put (K × Id) B)
    pub read : AllZip (IsReadAs cmp) placements puts
    pub entries_are : map (λ put. put.of) puts ≡ flat_map (entries_named group_cmp lists) (map (λ home. home.0) homes)
    pub sized : All (λ put. lookup (is_at (cmp put.of.1)) sizes ≡ Some put.box.whd) puts
    pub beside : (home : K × B) → All (AreHomesApart home) homes → All (λ put. AreHomesApart home (put.of.0, put.bin)) puts
    pub apart : AllPairs AreHomesApart homes → AllPairs ArePutsApart puts

  -- the puts of one group are not of two groups
  one_group : (home : K × B) (x y : Put (K × Id) B) → x.of.0 ≡ home.0 → y.of.0 ≡ home.0 → ArePutsApart x y
  one_group home x y first second = λ two.
      let same : is_at (group_cmp x.of.0) y.of.0 ≡ true = rw (first, second) (ap is_eq (tied_itself o home.0)) in
      let differ : not (is_at (group_cmp x.of.0) y.of.0) ≡ true = (and_parts (not (is_at (group_cmp x.of.0) y.of.0)) (are_excluded group_cmp partners x.of.0 y.of.0) two).0 in
      absurd (let no : not true ≡ true = rw same at differ in cc)

  -- a put beside the home of another group
  across_one : (home : K × B) (x y : Put (K × Id) B) → (x.of.0 ≡ home.0) × (bin_cmp home.1 x.bin ≡ Equal) → AreHomesApart home (y.of.0, y.bin)
      → ArePutsApart x y
  across_one home x y at apart = λ two.
      let excluded : are_excluded group_cmp partners home.0 y.of.0 ≡ true =
      subst (λ (k : K). are_excluded group_cmp partners k y.of.0 ≡ true) at.0
      (and_parts (not (is_at (group_cmp x.of.0) y.of.0)) (are_excluded group_cmp partners x.of.0 y.of.0) two).1 in
      ap is_eq (sym (bin_o.congr home.1 x.bin y.bin at.1)) ∙ apart excluded

  pub puts_of : (homes : List (K × B)) (placements : List (Placement Id B)) → ArePlacedWhole cmp bin_cmp group_cmp sizes lists homes placements
      → ArePuts homes placements
  puts_of [] placements none =
      rw none (record {
        puts = [];
        read = tt;
        entries_are = refl;
        sized = λ k d within. absurd (omega arith);
        beside = λ home all k d within. absurd (omega arith);
        apart = λ all i j d before within. absurd (omega arith);
      })
  puts_of (home ∷ homes) placements (ids, first, later, found, placed, whole, joined) =
      let rest = puts_of homes later whole in
      let here : List (Put (K × Id) B) = puts_in home.0 ids first in
      let at_home : All (λ (put : Put (K × Id) B). (put.of.0 ≡ home.0) × (bin_cmp home.1 put.bin ≡ Equal)) here =
      puts_in-home cmp sizes home.0 bin_cmp home.1 ids first placed.together in
      let Sized : Put (K × Id) B → Type 0 = λ put. lookup (is_at (cmp put.of.1)) sizes ≡ Some put.box.whd in
      record {
        puts = here ++ rest.puts;
        read = rw joined (AllZip-append (IsReadAs cmp) first here later rest.puts (puts_in-read cmp sizes home.0 ids first placed.each) rest.read);
        entries_are =
            map-append (λ (put : Put (K × Id) B). put.of) here rest.puts
            ∙ ap (λ (l : List (K × Id)). l ++ map (λ put. put.of) rest.puts) (puts_in-of cmp sizes home.0 ids first placed.each
            ∙ ap (λ found_ids. map (λ id. (home.0, id)) (unwrap_or found_ids [])) (sym found))
            ∙ ap (λ (l : List (K × Id)). entries_named group_cmp lists home.0 ++ l) rest.entries_are;
        sized = All-append Sized here rest.puts (puts_in-sized cmp sizes home.0 ids first placed.each) rest.sized;
        beside = λ other all.
            let Beside : Put (K × Id) B → Type 0 = λ put. AreHomesApart other (put.of.0, put.bin) in
            let apart : AreHomesApart other home = All-head (AreHomesApart other) home homes all in
            All-append Beside here rest.puts
            (All-weaker (λ (put : Put (K × Id) B). (put.of.0 ≡ home.0) × (bin_cmp home.1 put.bin ≡ Equal)) Beside
            (λ put at excluded. ap is_eq (sym (congr_right bin_o home.1 put.bin other.1 at.1)) ∙ apart (rw at.0 at excluded)) here at_home)
            (rest.beside other (All-tail (AreHomesApart other) home homes all));
        apart = λ pairs.
            let InHome : Put (K × Id) B → Type 0 = λ put. (put.of.0 ≡ home.0) × (bin_cmp home.1 put.bin ≡ Equal) in
            let others = rest.beside home (AllPairs-head AreHomesApart home homes pairs) in
            AllPairs-append ArePutsApart here rest.puts
            (all_pairs InHome ArePutsApart (λ x y at and. one_group home x y at.0 and.0) here at_home)
            (rest.apart (AllPairs-tail AreHomesApart home homes pairs))
            (All-weaker (λ (put : Put (K × Id) B). AreHomesApart home (put.of.0, put.bin)) (λ y. All (λ x. ArePutsApart x y) here)
            (λ y beside. All-weaker InHome (λ x. ArePutsApart x y) (λ x at. across_one home x y at beside) here at_home) rest.puts others);
      }
