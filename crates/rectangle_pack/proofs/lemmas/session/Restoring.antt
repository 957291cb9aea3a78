-- Sessions that are made of their parts.
use Rattle.rectangle_pack_sections.proofs.Std.{ℕ, ◌+◌, ◌<◌, ◌≤◌, ◌≡◌, ◌++◌, ◌∙◌, ap, sym, subst, refl, arith, rules, Bool, true, false, List, [], ◌∷◌, take, drop, length, length-take-le}
use Rattle.rectangle_pack_sections.proofs.Std.{Option, Some, None, IsSome, MatchOption, All, Any, All-push, All-weaker, all_pairs_push, get_or, take_more, nat_lt, nat_tests, All-nil}
use Rattle.rectangle_pack_sections.proofs.Std.{Ordering, IsTotalOrder, is_at, lookup}
use Rattle.std.proofs.lemmas.List.Quantifiers.{Any-push}
use Rattle.rectangle_pack_covers.proofs.lemmas.Covers.{before_one, IsBinAnswer-fault}
use Rattle.rectangle_pack_sections.proofs.lemmas.util.Lists.{All-middle}
use Rattle.rectangle_pack_sections.proofs.Std.{Vec, cond, set_value, insert_entry, on_total, cases_Bool, inl, inr, Equal-is, append-nil, All-head, All-tail, map, filter, fun_ext, is_eq, length-append, Err, not}
use Rattle.std.specs.Borrow.{Bor}
use Rattle.rectangle_pack_sections.proofs.lemmas.util.Maps.{lookup-written, lookup-inserted, lookup-equal, congr_right}
use Rattle.rectangle_pack_sections.specs.Boxes.{Cuboid}
use Rattle.rectangle_pack_sections.specs.Bins.{Bin, whole as all_of}
use Rattle.rectangle_pack_sections.specs.Covering.{CoverBin}
use Rattle.rectangle_pack_sections.specs.CutTrees.{IsFromCuts}
use Rattle.rectangle_pack.specs.declared.session.command.Outstanding.{Outstanding}
use Rattle.rectangle_pack.specs.Restoring.{AreRecorded, IsWholeBin, IsRecordFault, IsBinFault, IsRestored, IsNoSession}
use Rattle.rectangle_pack.specs.declared.session.restoring.RestoreError.{RestoreError}
use Rattle.rectangle_pack.specs.declared.session.restoring.RestoreError.TheVariants.{NotRising, NotBelowNext, UnknownBin, WrongBin, OutOfMemory}
use Rattle.rectangle_pack.specs.Session.{State, IsSession, boxes_of}
use Rattle.rectangle_pack.specs.private.Restoring.{IsGreatest, boxes_at}

pub not_above : {Id B : Type 0} (last : Option ℕ) (number : ℕ) (before : List (Outstanding Id B)) (b : Bool) → MatchOption last (b ≡ true) (λ n. b ≡ nat_lt n number) → b ≡ false
    → IsGreatest last before → Any (λ r. number ≤ r.number) before
not_above None number before b is under h = absurd cc
not_above (Some n) number before b is under h =
    let most : number ≤ n = grind (arith, nat_tests, is, under) in
    (h.1.0, h.1.1, h.1.2, h.1.3, omega (arith, most, h.1.4))

pub above_all : {Id B : Type 0} (last : Option ℕ) (number : ℕ) (before : List (Outstanding Id B)) (b : Bool) → MatchOption last (b ≡ true) (λ n. b ≡ nat_lt n number) → b ≡ true
    → IsGreatest last before → All (λ r. r.number < number) before
above_all {Id} {B} None number before b is above h = rw h (All-nil (λ (r : Outstanding Id B). r.number < number))
above_all (Some n) number before b is above h =
    let less : n < number = grind (arith, nat_tests, is, above) in
    All-weaker (λ r. r.number ≤ n) (λ r. r.number < number) (λ r m. omega (arith, m, less)) before h.0

module _ {Id B : Type 0} (bin_cmp : B → B → Ordering) (bins : List (B × Bin)) (next : ℕ) (outstanding : List (Outstanding Id B)) where
  abbrev Numbered : Type 0
  Numbered = Outstanding Id B

  module _ (i : ℕ) (one : Numbered) (within : i < length outstanding) (is : one ≡ get_or outstanding i one) where
    one_more : take (i + 1) outstanding ≡ take i outstanding ++ one ∷ []
    one_more = take_more outstanding i one within ∙ ap (λ r. take i outstanding ++ r ∷ []) (sym is)

    pub AreRecorded-more : All (λ r. r.number < one.number) (take i outstanding) → one.number < next → IsSome (lookup (is_at (bin_cmp one.bin)) bins)
        → AreRecorded bin_cmp bins next (take i outstanding) → AreRecorded bin_cmp bins next (take (i + 1) outstanding)
    AreRecorded-more above below known h = subst (AreRecorded bin_cmp bins next) (sym one_more) (record {
      rising = all_pairs_push (λ a b. a.number < b.number) (take i outstanding) one h.rising above;
      below = All-push (λ r. r.number < next) (take i outstanding) one h.below below;
      known = All-push (λ r. IsSome (lookup (is_at (bin_cmp r.bin)) bins)) (take i outstanding) one h.known known;
    })

    pub IsGreatest-more : All (λ r. r.number < one.number) (take i outstanding) → IsGreatest (Some one.number) (take (i + 1) outstanding)
    IsGreatest-more above = subst (IsGreatest (Some one.number)) (sym one_more) (
      All-push (λ r. r.number ≤ one.number) (take i outstanding) one (All-weaker (λ r. r.number < one.number) (λ r. r.number ≤ one.number) (λ r m. omega (arith, m)) (take i outstanding) above) (omega arith),
      Any-push (λ r. one.number ≤ r.number) (take i outstanding) one (omega arith),
    )

-- the order of ids behind references
abbrev pub behind : {B : Type 0} → (B → B → Ordering) → Bor B → Bor B → Ordering
behind cmp a b = cmp a.now b.now

module _ {B A : Type 0} {cmp : B → B → Ordering} (o : IsTotalOrder cmp) where
  pub boxes-written : (here : Bor B) (es : List (Bor B × Vec Cuboid A)) (v w : Vec Cuboid A) (section : Cuboid)
      → lookup (λ key. is_at (cmp here.now) key.now) es ≡ Some v → w.items ≡ v.items ++ section ∷ [] → (q : B)
      → boxes_at cmp (set_value (λ key. is_at (cmp here.now) key.now) es w) q ≡ boxes_at cmp es q ++ cond (is_at (cmp here.now) q) (section ∷ []) []
  boxes-written here es v w section found more q =
      let there : Bor B = record here { now = q } in
      let after = lookup-written {cmp = behind cmp} (on_total (λ (r : Bor B). r.now) o) here es v w there found in
      elim (cases_Bool (is_at (cmp here.now) q)) [
        | inl same ↦
            let before = sym (lookup-equal {cmp = behind cmp} (on_total (λ (r : Bor B). r.now) o) here there ((Equal-is _).0 same) es) ∙ found in
            rw (after, same, before) more
        | inr other ↦ rw (after, other) (sym (append-nil _))
      ]

  pub boxes-inserted : (here : Bor B) (es : List (Bor B × Vec Cuboid A)) (w : Vec Cuboid A) (section : Cuboid)
      → lookup (λ key. is_at (cmp here.now) key.now) es ≡ None → w.items ≡ section ∷ [] → (q : B)
      → boxes_at cmp (insert_entry (behind cmp) es here w) q ≡ boxes_at cmp es q ++ cond (is_at (cmp here.now) q) (section ∷ []) []
  boxes-inserted here es w section absent alone q =
      let there : Bor B = record here { now = q } in
      let after = lookup-inserted {cmp = behind cmp} (on_total (λ (r : Bor B). r.now) o) es here w absent there in
      elim (cases_Bool (is_at (cmp here.now) q)) [
        | inl same ↦
            let before = sym (lookup-equal {cmp = behind cmp} (on_total (λ (r : Bor B). r.now) o) here there ((Equal-is _).0 same) es) ∙ absent in
            rw (after, same, before) alone
        | inr other ↦ rw (after, other) (sym (append-nil _))
      ]

-- what holds of each entry holds of one that is found, under a key that passes
entry_at : {K X : Type 0} (P : K × X → Type 0) (test : K → Bool) (es : List (K × X)) (v : X) → All P es → lookup test es ≡ Some v
    → (key : K) × (test key ≡ true) × P (key, v)
entry_at P test [] v all found = absurd cc
entry_at P test (e ∷ es) v all found = elim (cases_Bool (test e.0)) [
  | inl here ↦
      let is = rw here at found in
      let same : e.1 ≡ v = cc in
      (e.0, here, subst (λ x. P (e.0, x)) same (All-head P e es all))
  | inr beside ↦ entry_at P test es v (All-tail P e es all) (rw beside at found)
]

module _ {Id B : Type 0} {cmp : B → B → Ordering} (o : IsTotalOrder cmp) (outstanding : List (Outstanding Id B)) where
  -- equal ids name the same boxes
  boxes_of-equal : (id key : B) (bin : Bin) → is_at (cmp id) key ≡ true → boxes_of cmp outstanding key bin ≡ boxes_of cmp outstanding id bin
  boxes_of-equal id key bin same =
      let tests : (λ (r : Outstanding Id B). is_at (cmp r.bin) key) ≡ (λ (r : Outstanding Id B). is_at (cmp r.bin) id) =
      fun_ext (λ r. ap is_eq (sym (congr_right o id key r.bin ((Equal-is _).0 same)))) in
      ap (λ test. bin.sections ++ map (λ (r : Outstanding Id B). r.location) (filter test outstanding)) tests

  -- bins that are whole, and placements that a session may have, are a session
  pub IsSession-whole : (bins : List (B × Bin)) (next : ℕ) → AreRecorded cmp bins next outstanding → All (IsWholeBin cmp bins outstanding) bins
      → IsSession cmp (record { bins = bins; outstanding = outstanding; next = next })
  IsSession-whole bins next recorded whole = record {
    covered = λ id bin found.
        let at = entry_at (IsWholeBin cmp bins outstanding) (is_at (cmp id)) bins bin whole found in
        subst (λ bs. CoverBin bs bin.size) (boxes_of-equal id at.0 bin at.1) at.2.0;
    from_cuts = λ id bin found fresh.
        let at = entry_at (IsWholeBin cmp bins outstanding) (is_at (cmp id)) bins bin whole found in
        subst (λ bs. IsFromCuts bs (all_of bin.size)) (boxes_of-equal id at.0 bin at.1) (at.2.1 (rw fresh refl));
    known = recorded.known;
    rising = recorded.rising;
    below = recorded.below;
  }

-- what stands before an element is shorter than all
pub shorter : {X : Type 0} (all before : List X) (one : X) (after : List X) → all ≡ before ++ one ∷ after → length before < length all
shorter all before one after is = rw is (omega (arith, length-append before (one ∷ after)))

-- what is answered of placements and bins is what is restored, by its faults
pub restored-record : {Id B : Type 0} (bin_cmp : B → B → Ordering) (state : State Id B) (error : RestoreError)
    → IsRecordFault bin_cmp state.bins state.next state.outstanding error → IsRestored bin_cmp state (Err error)
restored-record bin_cmp state (NotRising p) h = h
restored-record bin_cmp state (NotBelowNext p) h = h
restored-record bin_cmp state (UnknownBin p) h = h
restored-record bin_cmp state (WrongBin p f) h = absurd h
restored-record bin_cmp state OutOfMemory h = absurd h

pub restored-bin : {Id B : Type 0} (bin_cmp : B → B → Ordering) (state : State Id B) (error : RestoreError)
    → AreRecorded bin_cmp state.bins state.next state.outstanding → IsBinFault bin_cmp state.bins state.outstanding error → IsRestored bin_cmp state (Err error)
restored-bin bin_cmp state (NotRising p) recorded h = absurd h
restored-bin bin_cmp state (NotBelowNext p) recorded h = absurd h
restored-bin bin_cmp state (UnknownBin p) recorded h = absurd h
restored-bin bin_cmp state (WrongBin p f) recorded h = (recorded, h)
restored-bin bin_cmp state OutOfMemory recorded h = absurd h

module _ {Id B : Type 0} (bin_cmp : B → B → Ordering) (state : State Id B) where
  -- a placement that is wrong is in no session
  pub no_session-record : (error : RestoreError) → IsRecordFault bin_cmp state.bins state.next state.outstanding error → IsNoSession bin_cmp state error
  no_session-record (NotRising p) h = λ session.
      let at = h.0 in
      let higher = h.2 in
      let rises = before_one (λ a b. a.number < b.number) state.outstanding at.before at.one at.after at.splits session.rising in
      let r = higher.1 in
      omega (arith, rises higher.0 r higher.2, higher.4, ap (λ (o : Outstanding Id B). o.number) higher.3)
  no_session-record (NotBelowNext p) h = λ session.
      let at = h.0 in
      omega (arith, All-middle (λ r. r.number < state.next) state.outstanding at.before at.after at.one at.splits session.below, h.3)
  no_session-record (UnknownBin p) h = λ session.
      let at = h.0 in
      let there = All-middle (λ r. IsSome (lookup (is_at (bin_cmp r.bin)) state.bins)) state.outstanding at.before at.after at.one at.splits session.known in
      absurd (search (rules, there, h.4))
  no_session-record (WrongBin p f) h = absurd h
  no_session-record OutOfMemory h = absurd h

  -- and neither is a bin that is wrong
  pub no_session-bin : (error : RestoreError) → IsBinFault bin_cmp state.bins state.outstanding error → IsNoSession bin_cmp state error
  no_session-bin (NotRising p) h = absurd h
  no_session-bin (NotBelowNext p) h = absurd h
  no_session-bin (UnknownBin p) h = absurd h
  no_session-bin (WrongBin p f) h = λ session.
      let at = h.0 in
      let bin = at.one.1 in
      IsBinAnswer-fault bin.size (not bin.coalesced) (boxes_of bin_cmp state.outstanding at.one.0 bin) f h.3 (session.covered at.one.0 bin h.2)
      (λ fresh. session.from_cuts at.one.0 bin h.2 (not_true bin.coalesced fresh))
    where
      not_true : (b : Bool) → not b ≡ true → b ≡ false
      not_true true is = absurd cc
      not_true false is = refl
  no_session-bin OutOfMemory h = absurd h
