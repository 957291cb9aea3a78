-- One step of each loop.
use Rattle.rectangle_pack_c.proofs.Std.{◌≡◌, ◌≢◌, ℕ, ◌+◌, ◌<◌, ◌≤◌, List, [], ◌∷◌, ◌++◌, length, get_or, take, drop, refl, ap, sym, ◌∙◌, arith, below_more, subst, ◌==◌, false}
use Rattle.rectangle_pack_c.proofs.Std.{AllPairs, map, Some, slice_get, enumerate_from, IsStrictlySortedBy, Ordering, Equal, keys_of, nat_cmp, insert_entry}
use Rattle.rectangle_pack_c.proofs.Std.{nat_tests, take_more, length-map, length-take, length-take-le, length-set, get_or_default, map-append, get_or-set_same, length-append}
use Rattle.rectangle_pack_c.proofs.Std.{get_or-set_other, slice_get-get_or, slice_get_within, get_or_from_slice_get, exact_unsigned, set}
use Rattle.rectangle_pack_c.proofs.Std.{Option, None, MatchOption, Vec, append_assoc, append-nil, take_all, suc, zero, Bool, true, cond, filter, filter-append}
use Rattle.std.proofs.lemmas.List.{take-append-drop}
use Rattle.std.proofs.lemmas.List.Elements.{filter_more}
use Rattle.rectangle_pack.specs.declared.session.command.Outstanding.{Outstanding}
use Rattle.rectangle_pack.specs.declared.session.command.Reply.TheVariants.{Done}
use Rattle.rectangle_pack.specs.declared.grouped_rects_to_place.Group.{Group}
use Rattle.rectangle_pack.specs.Bins.{Bin, new_bin}
use Rattle.rectangle_pack.specs.Boxes.{Size}
use Rattle.rectangle_pack.specs.declared.grouped_rects_to_place.Group.TheVariants.{Grouped}
use Rattle.rectangle_pack.specs.Groups.{Collection, PushesAlone, PushesInto, Excludes}
use Rattle.rectangle_pack.specs.Session.{State, AddsBin}
use Rattle.rectangle_pack_c.specs.declared.RpBin.{RpBin}
use Rattle.rectangle_pack_c.specs.declared.RpBox.{RpBox}
use Rattle.rectangle_pack_c.specs.declared.collection.RpMember.{RpMember}
use Rattle.rectangle_pack_c.specs.declared.collection.RpExclusion.{RpExclusion}
use Rattle.rectangle_pack_c.specs.Arguments.{bin_size, box_size, new_bins}
use Rattle.rectangle_pack_c.specs.Collections.{group_order, member_box, IsCollected}
use Rattle.rectangle_pack_c.specs.private.Pushed.{Pushes}
use Rattle.rectangle_pack_c.proofs.CollectedLemmas.{insert_last, collected_more, excluded_more}

-- one more bin
pub bins_more : (bins : List RpBin) (i : ℕ) (bin : RpBin) → i < length bins → get_or bins i bin ≡ bin → (key : ℕ) → nat_cmp i key ≡ Equal
    → insert_entry nat_cmp (new_bins (take i bins)) key (new_bin (bin_size bin)) ≡ new_bins (take (i + 1) bins)
bins_more bins i bin within is key same =
    let f : RpBin → Bin = λ b. new_bin (bin_size b) in
    let here : key ≡ i = sym (exact_unsigned i key same) in
    let long : i ≡ 0 + length (map f (take i bins)) = omega (arith, length-map (take i bins) f, length-take i bins) in
    rw here (insert_last 0 (map f (take i bins)) (f bin) i long)
    ∙ ap (enumerate_from 0) (sym (ap (map f) (take_more bins i bin within ∙ ap (λ b. take i bins ++ b ∷ []) is) ∙ map-append f (take i bins) (bin ∷ [])))

-- one more box
pub boxes_more : (boxes : List RpBox) (i : ℕ) (b : RpBox) (old new : Collection ℕ ℕ) → i < length boxes → get_or boxes i b ≡ b
    → IsCollected (take i boxes) [] old → Pushes i b old new
    → IsStrictlySortedBy group_order (keys_of new.groups) → IsCollected (take (i + 1) boxes) [] new
boxes_more boxes i b old new within is h p up =
    let long : i ≡ length (take i boxes) = omega (arith, length-take i boxes) in
    rw (take_more boxes i b within, is) (collected_more (take i boxes) [] b old new h (subst (λ n. Pushes n b old new) long p) up)

-- one more member, behind the boxes
pub members_more : (boxes : List RpBox) (members : List RpMember) (i : ℕ) (m : RpMember) (b : RpBox) (old new : Collection ℕ ℕ) → i < length members
    → get_or members i m ≡ m → b ≡ member_box boxes m
    → IsCollected (boxes ++ map (member_box boxes) (take i members)) [] old → (n : ℕ) → n ≡ length boxes + i → Pushes n b old new
    → IsStrictlySortedBy group_order (keys_of new.groups) → IsCollected (boxes ++ map (member_box boxes) (take (i + 1) members)) [] new
members_more boxes members i m b old new within is box h n here p up =
    let f = member_box boxes in
    let was = boxes ++ map f (take i members) in
    let long : n ≡ length was = omega (arith, here, length-append boxes (map f (take i members)), length-map (take i members) f, length-take i members) in
    let taken : take (i + 1) members ≡ take i members ++ m ∷ [] = take_more members i m within ∙ ap (λ (x : RpMember). take i members ++ x ∷ []) is in
    let more : boxes ++ map f (take (i + 1) members) ≡ was ++ b ∷ [] =
    ap (λ ms. boxes ++ map f ms) taken ∙ ap (λ bs. boxes ++ bs) (map-append f (take i members) (m ∷ []) ∙ ap (λ x. map f (take i members) ++ x ∷ []) (sym box))
    ∙ sym (append_assoc boxes (map f (take i members)) (b ∷ [])) in
    rw more (collected_more was [] b old new h (subst (λ k. Pushes k b old new) long p) up)

-- one more pair of groups that are excluded
pub pairs_more : (boxes : List RpBox) (exclusions : List RpExclusion) (i : ℕ) (e : RpExclusion) (old new : Collection ℕ ℕ) → i < length exclusions
    → get_or exclusions i e ≡ e → IsCollected boxes (take i exclusions) old → (R : Group ℕ ℕ → Group ℕ ℕ → Ordering) → R ≡ group_order
    → Excludes R old new (Grouped e.one) (Grouped e.other) → IsCollected boxes (take (i + 1) exclusions) new
pairs_more boxes exclusions i e old new within is h R same x =
    rw (take_more exclusions i e within, is)
    (excluded_more boxes (take i exclusions) e old new h (subst (λ r. Excludes r old new (Grouped e.one) (Grouped e.other)) same x))

-- an entry that is written, and the others
pub set_here : {X : Type 0} (xs : List X) (i : ℕ) (x : X) → i < length xs → slice_get (set xs i x) i ≡ Some x
set_here xs i x within =
    let long : i < length (set xs i x) = omega (arith, within, length-set xs i x) in
    slice_get-get_or (set xs i x) i x long ∙ ap (λ y. Some y) (get_or-set_same xs i x x within)

pub set_elsewhere : {X : Type 0} (xs : List X) (i k : ℕ) (x : X) → i ≢ k → slice_get (set xs i x) k ≡ slice_get xs k
set_elsewhere [] i k x ne = refl
set_elsewhere (y ∷ xs) zero zero x ne = absurd (ne refl)
set_elsewhere (y ∷ xs) zero (suc k) x ne = refl
set_elsewhere (y ∷ xs) (suc i) zero x ne = refl
set_elsewhere (y ∷ xs) (suc i) (suc k) x ne = set_elsewhere xs i k x (λ e. ne (ap (λ n. suc n) e))

-- one more record
pub written_more : {X : Type 0} (entry : Outstanding ℕ ℕ → X) (records : List (Outstanding ℕ ℕ)) (placements : List X) (i : ℕ) (r : Outstanding ℕ ℕ)
    → i < length records → r ≡ get_or records i r → r.id < length placements
    → AllPairs (λ r s. r.id ≢ s.id) records
    → ((k : ℕ) → k < i → (d : Outstanding ℕ ℕ) → slice_get placements (get_or records k d).id ≡ Some (entry (get_or records k d)))
    → (k : ℕ) → k < i + 1 → (d : Outstanding ℕ ℕ) → slice_get (set placements r.id (entry r)) (get_or records k d).id ≡ Some (entry (get_or records k d))
written_more entry records placements i r within is fits once before = below_more _ _ earlier here
  where
    at_last : slice_get (set placements r.id (entry r)) r.id ≡ Some (entry r)
    at_last =
        let long : r.id < length (set placements r.id (entry r)) = omega (arith, length-set placements r.id (entry r)) in
        slice_get-get_or (set placements r.id (entry r)) r.id (entry r) long ∙ ap (λ p. Some p) (get_or-set_same placements r.id (entry r) (entry r) fits)

    here : (d : Outstanding ℕ ℕ) → slice_get (set placements r.id (entry r)) (get_or records i d).id ≡ Some (entry (get_or records i d))
    here d =
        let same : get_or records i d ≡ r = sym (is ∙ get_or_default records i r d within) in
        rw same at_last

    kept : (s : Outstanding ℕ ℕ) → s.id ≢ r.id → slice_get placements s.id ≡ Some (entry s) → slice_get (set placements r.id (entry r)) s.id ≡ Some (entry s)
    kept s ne at =
        let short : s.id < length placements = slice_get_within placements s.id (entry s) at in
        let long : s.id < length (set placements r.id (entry r)) = omega (arith, length-set placements r.id (entry r)) in
        slice_get-get_or (set placements r.id (entry r)) s.id (entry s) long
        ∙ ap (λ q. Some q) (get_or-set_other placements r.id s.id (entry r) (entry s) ne ∙ get_or_from_slice_get placements s.id (entry s) (entry s) at)

    earlier : (k : ℕ) → k < i → (d : Outstanding ℕ ℕ) → slice_get (set placements r.id (entry r)) (get_or records k d).id ≡ Some (entry (get_or records k d))
    earlier k below d =
        let differ : (get_or records k d).id ≢ (get_or records i d).id = once k i d below within in
        let same : get_or records i d ≡ r = sym (is ∙ get_or_default records i r d within) in
        kept (get_or records k d) (rw same at differ) (before k below d)

-- the session with one more bin
pub added_more : (bins : List RpBin) (i : ℕ) (bin : RpBin) → i < length bins → get_or bins i bin ≡ bin → (old new : State ℕ ℕ)
    → old ≡ record { bins = new_bins (take i bins); outstanding = []; next = 0 }
    → AddsBin nat_cmp i (bin_size bin) old Done new → new ≡ record { bins = new_bins (take (i + 1) bins); outstanding = []; next = 0 }
added_more bins i bin within is old new was (absent, key, same, are) =
    let grown = bins_more bins i bin within is key same in
    are ∙ rw was (ap (λ (bs : List (ℕ × Bin)). record { bins = bs; outstanding = []; next = 0 }) grown)

-- what a push says, by the order of groups that the call has
pushes_alone : (R : Group ℕ ℕ → Group ℕ ℕ → Ordering) (i : ℕ) (b : RpBox) (old new : Collection ℕ ℕ) (size : Size) → PushesAlone nat_cmp R old new i size
    → size ≡ box_size b → b.group ≡ 0 → R ≡ group_order → Pushes i b old new
pushes_alone R i b old new size p is none same = rw none (subst (λ r. PushesAlone nat_cmp r old new i (box_size b)) same (rw is at p))

pushes_into : (R : Group ℕ ℕ → Group ℕ ℕ → Ordering) (i : ℕ) (b : RpBox) (old new : Collection ℕ ℕ) (named : List ℕ) (size : Size)
    → PushesInto nat_cmp R old new i named size → size ≡ box_size b → named ≡ b.group ∷ [] → b.group ≢ 0 → R ≡ group_order → Pushes i b old new
pushes_into R i b old new named size p is one some same =
    let test : (b.group == 0) ≡ false = grind (arith, nat_tests) in
    rw test (subst (λ r. PushesInto nat_cmp r old new i (b.group ∷ []) (box_size b)) same (rw (is, one) at p))

pub pushed : {A : Type 0} (R : Group ℕ ℕ → Group ℕ ℕ → Ordering) (i : ℕ) (b : RpBox) (old new : Collection ℕ ℕ) (groups : Option (Vec ℕ A)) (size : Size)
    → MatchOption groups (b.group ≡ 0) (λ named. (b.group ≢ 0) × (named.items ≡ b.group ∷ []))
    → MatchOption groups (PushesAlone nat_cmp R old new i size) (λ named. PushesInto nat_cmp R old new i named.items size)
    → size ≡ box_size b → R ≡ group_order → Pushes i b old new
pushed R i b old new None size of_group p is same = pushes_alone R i b old new size p is of_group same
pushed R i b old new (Some named) size of_group p is same = pushes_into R i b old new named.items size p is of_group.1 of_group.0 same

-- a list that goes to the beginning of an array: one entry more
pub told_next : {X Y : Type 0} (f : X → Y) (given : List X) (x : X) (array : List Y) → length given < length array
    → set (map f given ++ drop (length given) array) (length given) (f x) ≡ map f (given ++ x ∷ []) ++ drop (length (given ++ x ∷ [])) array
told_next f given x [] within = absurd (omega (arith, within))
told_next f [] x (a ∷ array) within = refl
told_next f (g ∷ given) x (a ∷ array) within = ap (λ l. f g ∷ l) (told_next f given x array (omega (arith, within)))

-- the same of the entry of this index
pub told_more : {X Y : Type 0} (f : X → Y) (there : List X) (array : List Y) (i : ℕ) (x : X)
    → i < length there → length there ≤ length array → x ≡ get_or there i x
    → set (map f (take i there) ++ drop i array) i (f x) ≡ map f (take (i + 1) there) ++ drop (i + 1) array
told_more {X = X} {Y = Y} f there array i x within long is =
    let n : length (take i there) ≡ i = length-take-le i there (omega (arith, within)) in
    let m : length (take i there ++ x ∷ []) ≡ i + 1 = omega (arith, length-append (take i there) (x ∷ []), n) in
    let one : take (i + 1) there ≡ take i there ++ x ∷ [] = take_more there i x within ∙ ap (λ (y : X). take i there ++ y ∷ []) (sym is) in
    let next = told_next {X = X} {Y = Y} f (take i there) x array (omega (arith, n, within, long)) in
    rw one (rw (n, m) at next)

-- all entries are written
pub told_all : {S T : Type 0} (written : S → T) (there : List S) (old new : List T) (i : ℕ) → i ≡ length there
    → new ≡ map written (take i there) ++ drop i old → new ≡ map written there ++ drop (length (map written there)) old
told_all written there old new i end told =
    rw (length-map there written) (told ∙ rw (end, take_all (length there) there (omega arith)) refl)

-- those of a kind among the first entries of a list are some of all of that kind
pub kept_within : {X : Type 0} (p : X → Bool) (there : List X) (n : ℕ) → length (filter p (take n there)) ≤ length (filter p there)
kept_within p there n =
    let first = filter p (take n there) in
    let parts : filter p there ≡ first ++ filter p (drop n there) =
    ap (filter p) (sym (take-append-drop n there)) ∙ filter-append p (take n there) (drop n there) in
    omega (arith, ap (λ l. length l) parts, length-append first (filter p (drop n there)))

module _ {X Y : Type 0} (f : X → Y) (p : X → Bool) (there : List X) (array : List Y) (i : ℕ) (x : X) (within : i < length there)
    (is : x ≡ get_or there i x) where
  -- those of a kind go to the beginning of an array
  abbrev kept : ℕ → List X
  kept n = filter p (take n there)

  next_kept : (t : Bool) → p x ≡ t → kept (i + 1) ≡ kept i ++ cond t (x ∷ []) []
  next_kept t e = filter_more p there i x within ∙ rw (← is, e) refl

  -- the entry of this index is one of them, and there is room for it
  pub kept_room : p x ≡ true → length (kept i) < length (filter p there)
  kept_room passes = omega
      (arith, ap (λ l. length l) (next_kept true passes), length-append (kept i) (x ∷ []), kept_within p there (i + 1))

  pub kept_count : p x ≡ true → length (kept (i + 1)) ≡ length (kept i) + 1
  kept_count passes = omega (arith, ap (λ l. length l) (next_kept true passes), length-append (kept i) (x ∷ []))

  -- it goes behind those that are written
  pub kept_more : p x ≡ true → length (filter p there) ≤ length array
      → set (map f (kept i) ++ drop (length (kept i)) array) (length (kept i)) (f x) ≡ map f (kept (i + 1)) ++ drop (length (kept (i + 1))) array
  kept_more passes room =
      let next = told_next f (kept i) x array (omega (arith, room, kept_room passes)) in
      rw (next_kept true passes) next

  -- or it is none of them
  pub kept_same : p x ≡ false → kept (i + 1) ≡ kept i
  kept_same fails = next_kept false fails ∙ append-nil (kept i)
