-- Placements that are released at once: the boxes go back one after another, and the list loses its records in one pass.
use Rattle.rectangle_pack_sections.proofs.Std.{◌≡◌, ◌≢◌, ℕ, suc, ◌+◌, ◌-◌, ◌<◌, ◌≤◌, List, [], ◌∷◌, ◌++◌, length, take, get_or, refl, ap, sym, ◌∙◌, subst, arith}
use Rattle.rectangle_pack_sections.proofs.Std.{Bool, true, false, not, eqb, eq-eqb, filter, list_any, All, AllPairs}
use Rattle.rectangle_pack_sections.proofs.Std.{filter-append, length-append, get_or_default, take_more, AllByRecursion, IsDistinct, MatchBool, Some}
use Rattle.rectangle_pack_sections.proofs.Std.{IsDistinct-head, IsDistinct-tail, get_or-append_seam}
use Rattle.rectangle_pack_sections.proofs.Std.{Ordering, IsTotalOrder, lookup, set_value, is_at, set_value_same}
use Rattle.rectangle_pack_sections.proofs.Std.{IsPermutation}
use Rattle.std.proofs.lemmas.List.Kept.{AllPairs-filter}
use Rattle.std.proofs.lemmas.List.Sorted.{list_any-IsPermutation}
use Rattle.rectangle_pack_sections.proofs.Std.{Option, IfSome, IfNone, is_some}
use Rattle.rectangle_pack_sections.proofs.lemmas.util.Lists.{All-middle, AllPairs-head}
use Rattle.rectangle_pack_sections.proofs.lemmas.cuts.Counting.{filter_all}
use Rattle.rectangle_pack_sections.proofs.Std.{None, remove, remove-append_right, append-nil}
use Rattle.rectangle_pack_sections.proofs.lemmas.util.Maps.{set_value-twice, lookup-set_here}
use Rattle.rectangle_pack_bins.proofs.lemmas.bins.Maps.{bins_of-written}
use Rattle.rectangle_pack.specs.declared.session.command.Outstanding.{Outstanding}
use Rattle.rectangle_pack.specs.declared.session.command.Reply.TheVariants.{Done}
use Rattle.rectangle_pack_sections.specs.Boxes.{Cuboid, has_cells}
use Rattle.rectangle_pack_sections.specs.Bins.{Bin, Held, IsAccepted, bins_of}
use Rattle.rectangle_pack.specs.Session.{State, IsSession, IsOutstanding, GivesBack}
use Rattle.rectangle_pack.specs.Releasing.{ReleasesInTurn}
use Rattle.rectangle_pack.specs.private.Releasing.{GivesBackInTurn, outstanding_but}
use Rattle.rectangle_pack.proofs.lemmas.session.Keeps.{IsSession-found, Some-bins_of, None-bins_of, outstanding_at}
use Rattle.rectangle_pack.proofs.lemmas.session.Transitions.{kept-released}
use Rattle.rectangle_pack.proofs.lemmas.session.ReleasedNumbers.{apart_from_less, apart_from_more, apart-back, IsDistinct-take, none_before}

module _ {Id B : Type 0} where
  -- the placements of other numbers
  abbrev without : ℕ → List (Outstanding Id B) → List (Outstanding Id B)
  without number rs = filter (λ r. not (eqb r.number number)) rs

  abbrev Rise : List (Outstanding Id B) → Type 0
  Rise rs = AllPairs (λ a b. a.number < b.number) rs

  AllPairs-rest : (r : Outstanding Id B) (rs : List (Outstanding Id B)) → Rise (r ∷ rs) → Rise rs
  AllPairs-rest r rs h i j d lt within = h (suc i) (suc j) d (omega (arith, lt)) (omega (arith, within))

  -- where numbers rise, a list loses one placement
  without-found : (before : List (Outstanding Id B)) (found : Outstanding Id B) (after : List (Outstanding Id B)) → Rise (before ++ found ∷ after)
      → without found.number (before ++ found ∷ after) ≡ before ++ after
  without-found [] found after rise =
      let same : eqb found.number found.number ≡ true = eq-eqb found.number found.number refl in
      let others : All (λ r. not (eqb r.number found.number) ≡ true) after = λ k d within.
      ap not (apart_from_more (get_or after k d).number found.number (AllPairs-head (λ a b. a.number < b.number) found after rise k d within)) in
      rw same (filter_all (λ r. not (eqb r.number found.number)) after others)
  without-found (r ∷ before) found after rise =
      let less : r.number < found.number = subst (λ (x : Outstanding Id B). r.number < x.number) (get_or-append_seam before found after found)
      (AllPairs-head (λ a b. a.number < b.number) r (before ++ found ∷ after) rise (length before) found
      (let e = length-append before (found ∷ after) in omega (arith, e))) in
      rw (apart_from_less r.number found.number less)
      (ap (λ l. r ∷ l) (without-found before found after (AllPairs-rest r (before ++ found ∷ after) rise)))

  pub without-outstanding : (rs : List (Outstanding Id B)) (number : ℕ) (at : IsOutstanding rs number) → Rise rs
      → at.before ++ at.after ≡ without number rs
  without-outstanding rs number at rise =
      let split : Rise (at.before ++ at.found ∷ at.after) = subst Rise at.splits rise in
      sym (ap (without number) at.splits ∙ ap (λ n. without n (at.before ++ at.found ∷ at.after)) (sym at.number_is)
      ∙ without-found at.before at.found at.after split)

  -- a placement that passes stays outstanding
  abbrev pub outstanding-kept : (p : Outstanding Id B → Bool) (rs : List (Outstanding Id B)) (number : ℕ) (at : IsOutstanding rs number)
      → p at.found ≡ true → IsOutstanding (filter p rs) number
  outstanding-kept p rs number at kept = record {
    before = filter p at.before;
    found = at.found;
    after = filter p at.after;
    splits = ap (filter p) at.splits ∙ filter-append p at.before (at.found ∷ at.after) ∙ rw kept refl;
    number_is = at.number_is;
  }

  -- placements of some numbers are left out one after another, or at once
  outstanding_but-more : (number : ℕ) (numbers : List ℕ) (rs : List (Outstanding Id B))
      → outstanding_but numbers (without number rs) ≡ outstanding_but (number ∷ numbers) rs
  outstanding_but-more number numbers [] = refl
  outstanding_but-more number numbers (r ∷ rs) = at (eqb r.number number) refl (list_any (eqb r.number) numbers) refl (outstanding_but-more number numbers rs)
    where
      at : (one : Bool) → eqb r.number number ≡ one → (others : Bool) → list_any (eqb r.number) numbers ≡ others
          → outstanding_but numbers (without number rs) ≡ outstanding_but (number ∷ numbers) rs
          → outstanding_but numbers (without number (r ∷ rs)) ≡ outstanding_but (number ∷ numbers) (r ∷ rs)
      at true e others f ih = rw e ih
      at false e true f ih = rw (e, f) ih
      at false e false f ih = rw (e, f) (ap (λ l. r ∷ l) ih)

  outstanding_but-none : (rs : List (Outstanding Id B)) → outstanding_but [] rs ≡ rs
  outstanding_but-none rs = filter_all (λ (r : Outstanding Id B). true) rs (λ k d within. refl)

  -- where numbers rise, one placement has a number
  pub found-once : (rs : List (Outstanding Id B)) (number : ℕ) → Rise rs → (a b : IsOutstanding rs number) → a.found ≡ b.found
  found-once rs number rise a b =
      let i = length a.before in
      let j = length b.before in
      let in_a : i < length rs = let e = ap length a.splits ∙ length-append a.before (a.found ∷ a.after) in omega (arith, e) in
      let in_b : j < length rs = let e = ap length b.splits ∙ length-append b.before (b.found ∷ b.after) in omega (arith, e) in
      let at_a : get_or rs i a.found ≡ a.found = ap (λ l. get_or l i a.found) a.splits ∙ get_or-append_seam a.before a.found a.after a.found in
      let at_b : get_or rs j a.found ≡ b.found = ap (λ l. get_or l j a.found) b.splits ∙ get_or-append_seam b.before b.found b.after a.found in
      let na : (get_or rs i a.found).number ≡ number = ap (λ (r : Outstanding Id B). r.number) at_a ∙ a.number_is in
      let nb : (get_or rs j a.found).number ≡ number = ap (λ (r : Outstanding Id B). r.number) at_b ∙ b.number_is in
      let not_less : i < j → ⊥ = λ lt. omega (arith, rise i j a.found lt in_b, na, nb) in
      let not_more : j < i → ⊥ = λ lt. omega (arith, rise j i a.found lt in_a, na, nb) in
      let same : i ≡ j = grind (arith, not_less, not_more) in
      sym at_a ∙ ap (λ k. get_or rs k a.found) same ∙ at_b

module _ {Id B : Type 0} (bin_cmp : B → B → Ordering) where
  -- boxes of other numbers are given back alike where one placement is left out
  GivesBackInTurn-without : (rs : List (Outstanding Id B)) (number : ℕ) (numbers : List ℕ) (old new : List (B × Bin))
      → AllByRecursion (λ n. eqb number n ≡ false) numbers
      → GivesBackInTurn bin_cmp rs numbers old new → GivesBackInTurn bin_cmp (without number rs) numbers old new
  GivesBackInTurn-without rs number [] old new apart gives = gives
  GivesBackInTurn-without rs number (n ∷ ns) old new (other, apart) (at, between, one, rest) =
      let kept : not (eqb at.found.number number) ≡ true = ap not (ap (λ k. eqb k number) at.number_is ∙ apart-back number n other) in
      (outstanding-kept (λ r. not (eqb r.number number)) rs n at kept, between, one, GivesBackInTurn-without rs number ns between new apart rest)

  -- what is given back in turn and then left out is released in turn
  pub released-in_turn : (numbers : List ℕ) (old new : List (B × Bin)) (rs : List (Outstanding Id B)) (next : ℕ) → Rise rs → IsDistinct eqb numbers
      → GivesBackInTurn bin_cmp rs numbers old new
      → ReleasesInTurn bin_cmp numbers (record { bins = old; outstanding = rs; next = next }) (record {
        bins = new;
        outstanding = outstanding_but numbers rs;
        next = next;
      })
  released-in_turn [] old new rs next rise distinct gives =
      ap (λ (bs : List (B × Bin)). record { bins = bs; outstanding = outstanding_but [] rs; next = next }) gives
      ∙ ap (λ (l : List (Outstanding Id B)). record { bins = old; outstanding = l; next = next }) (outstanding_but-none rs)
  released-in_turn (n ∷ ns) old new rs next rise distinct (at, between, one, rest) = (
    record { bins = between; outstanding = without n rs; next = next },
    (at, one, sym (without-outstanding rs n at rise), refl),
    subst (λ (l : List (Outstanding Id B)). ReleasesInTurn bin_cmp ns (record { bins = between; outstanding = without n rs; next = next })
        (record { bins = new; outstanding = l; next = next })) (outstanding_but-more n ns rs)
        (released-in_turn ns between new (without n rs) next (AllPairs-filter (λ (a b : Outstanding Id B). a.number < b.number) (λ r. not (eqb r.number n)) rs rise)
        (IsDistinct-tail eqb n ns distinct) (GivesBackInTurn-without rs n ns between new (IsDistinct-head eqb n ns distinct) rest)),
  )

  -- one more box is given back
  GivesBackInTurn-push : (rs : List (Outstanding Id B)) (numbers : List ℕ) (n : ℕ) (old mid new : List (B × Bin))
      → GivesBackInTurn bin_cmp rs numbers old mid
      → (at : IsOutstanding rs n) → GivesBack bin_cmp mid at.found.bin at.found.location new
      → GivesBackInTurn bin_cmp rs (numbers ++ n ∷ []) old new
  GivesBackInTurn-push rs [] n old mid new same at one =
      (at, new, subst (λ (bs : List (B × Bin)). GivesBack bin_cmp bs at.found.bin at.found.location new) same one, refl)
  GivesBackInTurn-push rs (m ∷ ms) n old mid new (first, between, gives, rest) at one =
      (first, between, gives, GivesBackInTurn-push rs ms n between mid new rest at one)

  pub GivesBackInTurn-more : (rs : List (Outstanding Id B)) (numbers : List ℕ) (i n : ℕ) (old mid new : List (B × Bin)) → i < length numbers
      → n ≡ get_or numbers i n
      → GivesBackInTurn bin_cmp rs (take i numbers) old mid
      → (at : IsOutstanding rs n) → GivesBack bin_cmp mid at.found.bin at.found.location new
      → GivesBackInTurn bin_cmp rs (take (i + 1) numbers) old new
  GivesBackInTurn-more rs numbers i n old mid new within is gives at one =
      subst (λ ns. GivesBackInTurn bin_cmp rs ns old new) (sym (take_more numbers i n within ∙ ap (λ z. take i numbers ++ z ∷ []) (sym is)))
      (GivesBackInTurn-push rs (take i numbers) n old mid new gives at one)

  -- the last box that was given back
  pub record IsLastGiven (rs : List (Outstanding Id B)) (numbers : List ℕ) (n : ℕ) (old new : List (B × Bin)) : Type 0 where
    pub before : List (B × Bin)
    pub rest : GivesBackInTurn bin_cmp rs numbers old before
    pub at : IsOutstanding rs n
    pub last : GivesBack bin_cmp before at.found.bin at.found.location new

  GivesBackInTurn-pop : (rs : List (Outstanding Id B)) (numbers : List ℕ) (n : ℕ) (old new : List (B × Bin))
      → GivesBackInTurn bin_cmp rs (numbers ++ n ∷ []) old new → IsLastGiven rs numbers n old new
  GivesBackInTurn-pop rs [] n old new (at, between, one, same) = record {
    before = old;
    rest = refl;
    at = at;
    last = subst (λ (bs : List (B × Bin)). GivesBack bin_cmp old at.found.bin at.found.location bs) (sym same) one;
  }
  GivesBackInTurn-pop rs (m ∷ ms) n old new (first, between, gives, rest) =
      let later = GivesBackInTurn-pop rs ms n between new rest in
      record { before = later.before; rest = (first, between, gives, later.rest); at = later.at; last = later.last }

  last-given : (rs : List (Outstanding Id B)) (numbers : List ℕ) (i n : ℕ) (old new : List (B × Bin)) → i < length numbers → n ≡ get_or numbers i n
      → GivesBackInTurn bin_cmp rs (take (i + 1) numbers) old new → IsLastGiven rs (take i numbers) n old new
  last-given rs numbers i n old new within is gives = GivesBackInTurn-pop rs (take i numbers) n old new
      (subst (λ ns. GivesBackInTurn bin_cmp rs ns old new) (take_more numbers i n within ∙ ap (λ z. take i numbers ++ z ∷ []) (sym is)) gives)

  pub last-of : (rs : List (Outstanding Id B)) (numbers : List ℕ) (j : ℕ) (old new : List (B × Bin)) → 0 < j → j ≤ length numbers
      → GivesBackInTurn bin_cmp rs (take j numbers) old new → IsLastGiven rs (take (j - 1) numbers) (get_or numbers (j - 1) 0) old new
  last-of rs numbers j old new some within gives =
      let i = j - 1 in
      let below : i < length numbers = omega (arith, some, within) in
      let one : i + 1 ≡ j = omega (arith, some) in
      last-given rs numbers i (get_or numbers i 0) old new below (get_or_default numbers i 0 (get_or numbers i 0) below)
      (subst (λ k. GivesBackInTurn bin_cmp rs (take k numbers) old new) (sym one) gives)

module _ {Id B : Type 0} {bin_cmp : B → B → Ordering} (o : IsTotalOrder bin_cmp) where
  -- a session stays one
  pub IsSession-in_turn : (numbers : List ℕ) (old new : State Id B) → ReleasesInTurn bin_cmp numbers old new
      → IsSession bin_cmp old → IsSession bin_cmp new
  IsSession-in_turn [] old new same h = rw same h
  IsSession-in_turn (n ∷ ns) old new (between, one, rest) h = IsSession-in_turn ns between new rest (kept-released o n old Done between one h).0

  -- once some boxes were given back, the next one is accepted
  pub accepted-between : (rs : List (Outstanding Id B)) (next : ℕ) (numbers : List ℕ) (i n : ℕ) (old : List (B × Bin)) (now : List (B × Held))
      → IsSession bin_cmp (record { bins = old; outstanding = rs; next = next })
      → IsDistinct eqb numbers → i < length numbers → n ≡ get_or numbers i n
      → GivesBackInTurn bin_cmp rs (take i numbers) old (bins_of now)
      → (at : IsOutstanding rs n) → (held : Held) × (lookup (is_at (bin_cmp at.found.bin)) now ≡ Some held) × IsAccepted held.bin at.found.location
  accepted-between rs next numbers i n old now h distinct within is gives at =
      let given = take i numbers in
      let left : Outstanding Id B → Bool = λ r. not (list_any (eqb r.number) given) in
      let kept : left at.found ≡ true = ap not (ap (λ k. list_any (eqb k) given) at.number_is ∙ none_before numbers i n distinct within is) in
      let was : State Id B = record { bins = old; outstanding = rs; next = next } in
      let is_now : State Id B = record { bins = bins_of now; outstanding = outstanding_but given rs; next = next } in
      IsSession-found o now (outstanding_but given rs) next n (outstanding-kept left rs n at kept)
      (IsSession-in_turn given was is_now (released-in_turn bin_cmp given old (bins_of now) rs next h.rising (IsDistinct-take numbers i distinct) gives) h)

-- what is outstanding has its number
pub not-there : {Id B : Type 0} (rs : List (Outstanding Id B)) (number : ℕ) → IsOutstanding rs number → All (λ o. o.number ≢ number) rs → ⊥
not-there {Id} {B} rs number at none =
    All-middle (λ (o : Outstanding Id B). o.number ≢ number) rs at.before at.after at.found at.splits none at.number_is

-- where a search does not find a number of the list, not all are outstanding
pub unknown-number : {Id B : Type 0} (rs : List (Outstanding Id B)) (numbers : List ℕ) (i : ℕ) (found : Option ℕ) → i < length numbers
    → IfNone found (All (λ o. o.number ≢ get_or numbers i 0) rs) → is_some found ≡ false → All (IsOutstanding rs) numbers → ⊥
unknown-number rs numbers i None within none missing all = not-there rs (get_or numbers i 0) (all i 0 within) none
unknown-number rs numbers i (Some k) within none missing all = absurd cc

-- and where it does, the placement is outstanding
pub known-number : {Id B : Type 0} (rs : List (Outstanding Id B)) (number : ℕ) (found : Option ℕ)
    → IfSome found (λ i. (i < length rs) × ((d : Outstanding Id B) → (get_or rs i d).number ≡ number)) → is_some found ≡ true → IsOutstanding rs number
known-number rs number None at there = absurd cc
known-number [] number (Some i) at there = absurd (omega (arith, at.0))
known-number (r ∷ rs) number (Some i) at there =
    outstanding_at (r ∷ rs) number i (get_or (r ∷ rs) i r) at (get_or_default (r ∷ rs) i r (get_or (r ∷ rs) i r) at.0)

module _ {Id B : Type 0} (bin_cmp : B → B → Ordering) where
  -- the box of a number, where a search found the number
  pub GivesBack-found : (rs : List (Outstanding Id B)) (number : ℕ) → AllPairs (λ a b. a.number < b.number) rs → (at : IsOutstanding rs number)
      → (i : ℕ) (r : Outstanding Id B)
      → (i < length rs) × ((d : Outstanding Id B) → (get_or rs i d).number ≡ number) → r ≡ get_or rs i r
      → (before now : List (B × Bin)) → GivesBack bin_cmp before at.found.bin at.found.location now → GivesBack bin_cmp before r.bin r.location now
  GivesBack-found rs number rise at i r within is before now gives =
      subst (λ (x : Outstanding Id B). GivesBack bin_cmp before x.bin x.location now)
      (found-once rs number rise at (outstanding_at rs number i r within is)) gives

remove-last : {X : Type 0} (xs : List X) (x : X) (n : ℕ) → n ≡ length (xs ++ x ∷ []) - 1 → remove (xs ++ x ∷ []) n ≡ xs
remove-last xs x n is =
    let here : n ≡ length xs = omega (arith, is, length-append xs (x ∷ [])) in
    let none : length xs - length xs ≡ 0 = omega arith in
    ap (remove (xs ++ x ∷ [])) here ∙ remove-append_right xs (x ∷ []) (length xs) (length xs) refl (omega arith)
    ∙ ap (λ k. xs ++ remove (x ∷ []) k) none ∙ append-nil xs

-- a box that was given back last is taken out again
set_back : {B : Type 0} (test : B → Bool) (before now : List (B × Bin)) (bin : Bin) (box : Cuboid) → lookup test before ≡ Some bin
    → now ≡ set_value test before (record bin { sections = bin.sections ++ box ∷ [] })
    → set_value test now bin ≡ before
set_back {B} test before now bin box found written =
    ap (λ (bs : List (B × Bin)). set_value test bs bin) written
    ∙ set_value-twice test before (record bin { sections = bin.sections ++ box ∷ [] }) bin ∙ set_value_same test before bin found

module _ {B : Type 0} (bin_cmp : B → B → Ordering) (before : List (B × Bin)) (id : B) (box : Cuboid) (old : List (B × Held)) (full : has_cells box ≡ true)
    (gives : GivesBack bin_cmp before id box (bins_of old)) where
  abbrev here : B → Bool
  here = is_at (bin_cmp id)

  -- a box with cells that was given back last is the last section of its bin
  abbrev AtEnd : Type 0
  AtEnd = (bin : Bin) × (lookup here before ≡ Some bin) × (bins_of old ≡ set_value here before (record bin { sections = bin.sections ++ box ∷ [] }))

  at_end : AtEnd
  at_end = subst (λ b. MatchBool b AtEnd (bins_of old ≡ before)) full gives

  abbrev more : Bin
  more = record at_end.0 { sections = at_end.0.sections ++ box ∷ [] }

  found-more : lookup here (bins_of old) ≡ Some more
  found-more = ap (lookup here) at_end.2 ∙ lookup-set_here here before at_end.0 more at_end.1

  pub bin-there : lookup here old ≡ None → ⊥
  bin-there absent = let no : None ≡ Some more = sym (None-bins_of here old absent) ∙ found-more in absurd cc

  is-more : (v : Held) → lookup here old ≡ Some v → v.bin ≡ more
  is-more v found = let both : Some v.bin ≡ Some more = sym (Some-bins_of here old v found) ∙ found-more in cc

  pub some-section : (v : Held) → lookup here old ≡ Some v → 0 < length v.bin.sections
  some-section v found =
      let long = ap (λ (b : Bin). length b.sections) (is-more v found) ∙ length-append at_end.0.sections (box ∷ []) in
      omega (arith, long)

  -- and once that is taken out, the bins are as before
  pub taken-back : (new : List (B × Held)) (v w : Held) (last : ℕ) → lookup here old ≡ Some v → new ≡ set_value here old w
      → last ≡ length v.bin.sections - 1 → w.bin ≡ record v.bin { sections = remove v.bin.sections last } → bins_of new ≡ before
  taken-back new v w last found written last_is taken =
      let bin = at_end.0 in
      let same = is-more v found in
      let left : remove (bin.sections ++ box ∷ []) last ≡ bin.sections = remove-last bin.sections box last (last_is ∙ ap (λ (b : Bin). length b.sections - 1) same) in
      let is_bin : w.bin ≡ bin = taken ∙ ap (λ (b : Bin). record b { sections = remove b.sections last }) same
      ∙ ap (λ (ss : List Cuboid). record bin { sections = ss }) left in
      bins_of-written here old new w bin written is_bin ∙ set_back here before (bins_of old) bin box at_end.1 at_end.2

-- the same placements are left out by numbers in another order
pub outstanding_but-same : {Id B : Type 0} (ms ns : List ℕ) → IsPermutation ns ms → (rs : List (Outstanding Id B))
    → outstanding_but ms rs ≡ outstanding_but ns rs
outstanding_but-same ms ns same [] = refl
outstanding_but-same {Id} {B} ms ns same (r ∷ rs) = at (list_any (eqb r.number) ns) refl (outstanding_but-same ms ns same rs)
  where
    at : (b : Bool) → list_any (eqb r.number) ns ≡ b → outstanding_but ms rs ≡ outstanding_but ns rs
        → outstanding_but ms (r ∷ rs) ≡ outstanding_but ns (r ∷ rs)
    at true e ih = rw (e, sym (list_any-IsPermutation (eqb r.number) ns ms same) ∙ e) ih
    at false e ih = rw (e, sym (list_any-IsPermutation (eqb r.number) ns ms same) ∙ e) (ap (λ l. r ∷ l) ih)

-- boxes are given back, and the list loses its records by a sorted copy of the numbers: these are released in turn
pub released-left_out : {Id B : Type 0} {bin_cmp : B → B → Ordering} → IsTotalOrder bin_cmp → (numbers copied sorted : List ℕ) → copied ≡ numbers
    → IsPermutation copied sorted → IsDistinct eqb copied
    → (old new : List (B × Bin)) (rs later : List (Outstanding Id B)) (next : ℕ) → GivesBackInTurn bin_cmp rs numbers old new
    → later ≡ outstanding_but sorted rs
    → IsSession bin_cmp (record { bins = old; outstanding = rs; next = next })
    → ReleasesInTurn bin_cmp numbers (record { bins = old; outstanding = rs; next = next }) (record { bins = new; outstanding = later; next = next })
    × IsSession bin_cmp (record { bins = new; outstanding = later; next = next })
released-left_out {Id} {B} {bin_cmp} o numbers copied sorted is_numbers same distinct old new rs later next gives left h =
    let was : State Id B = record { bins = old; outstanding = rs; next = next } in
    let is : State Id B = record { bins = new; outstanding = later; next = next } in
    let order : IsPermutation numbers sorted = subst (λ ns. IsPermutation ns sorted) is_numbers same in
    let apart : IsDistinct eqb numbers = subst (λ ns. IsDistinct eqb ns) is_numbers distinct in
    let those : outstanding_but numbers rs ≡ later = sym (left ∙ outstanding_but-same sorted numbers order rs) in
    let step : ReleasesInTurn bin_cmp numbers was is = subst (λ (l : List (Outstanding Id B)).
    ReleasesInTurn bin_cmp numbers was (record { bins = new; outstanding = l; next = next })) those
    (released-in_turn bin_cmp numbers old new rs next h.rising apart gives) in
    (step, IsSession-in_turn o numbers was is step h)
