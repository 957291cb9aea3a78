-- Bins that are checked out of their map, and checked in, and the summaries of bins.
use Rattle.rectangle_pack_sections.proofs.Std.{◌≡◌, ◌≢◌, ◌≤◌, ℕ, suc, zero, ◌<◌, List, [], ◌∷◌, ◌++◌, length, refl, ap, sym, ◌∙◌, true, false, Bool, arith, get_or}
use Rattle.rectangle_pack_sections.proofs.Std.{Option, Some, None, IsSome, IfSome, map, set, Ordering, is_eq, eq_by_cmp, IsTotalOrder, Equal-is, IsDistinct}
use Rattle.rectangle_pack_sections.proofs.Std.{lookup, set_value, keys_of, is_at, keys-set_value, IsDistinct-tail}
use Rattle.rectangle_pack_sections.proofs.Std.{set_value_same, inl, inr, cases_Bool, cases_order, cases_eq, set-get_or, take, drop, ◌+◌, sum_by-cons, get_or_default, drop-cons}
use Rattle.rectangle_pack_sections.proofs.Std.{Ok, get_or-map, length-map}
use Rattle.std.proofs.lemmas.Map.Keys.{apart_from_distinct}
use Rattle.rectangle_pack_sections.specs.Boxes.{Size, Cuboid}
use Rattle.rectangle_pack_sections.specs.Bins.{Bin, Held, bins_of}
use Rattle.rectangle_pack_bins.proofs.lemmas.bins.Maps.{is_some-bins_of}
use Rattle.rectangle_pack_sections.specs.Closures.{Answers}
use Rattle.rectangle_pack_lists.specs.declared.free_list.End.{End}
use Rattle.rectangle_pack_lists.specs.declared.free_list.End.TheVariants.{Keep, Undo}
use Rattle.rectangle_pack_lists.specs.declared.gap_list.summary.Summary.{Summary}
use Rattle.rectangle_pack_lists.specs.declared.trial.Trial.{Trial}
use Rattle.rectangle_pack_lists.specs.private.FreeLists.{IsTried, IsStuckAtOnce}
use Rattle.rectangle_pack_lists.specs.private.Summaries.{Bounds}
use Rattle.rectangle_pack_lists.proofs.lemmas.trial.Summaries.{none-bounded}
use Rattle.rectangle_pack_lists.proofs.lemmas.util.Stretches.{drop-head, drop-some}
use Rattle.rectangle_pack_packing.specs.private.BinsAtWork.{AtWork, left_at, put_back, checked_in, BinsInUse, in_use, left_of, CanCheckIn}
use Rattle.rectangle_pack_packing.specs.private.BinsAtWork.{IsBinAt, AreSummed, IsTriedIn, BinsHoldNone}
use Rattle.rectangle_pack_packing.specs.private.SummaryTrees.{RuleOut}
use Rattle.rectangle_pack_sections.proofs.lemmas.util.Maps.{is_at-back, is_some-keys, set_value-twice, lookup-set_here, lookup-written}

-- a bin that was not changed goes back as it was
left_at-new : (end : End) (bin : Bin) → left_at end (record { start = bin; now = bin }) ≡ bin
left_at-new Keep bin = refl
left_at-new Undo bin = refl

-- what is left of the bins that are in use
pub left_of-in_use : {B : Type 0} (cmp : B → B → Ordering) (end : End) (order : List (ℕ × B)) (out : List (Option AtWork)) (es : List (B × Bin))
    → left_of end (in_use cmp order out es) ≡ checked_in cmp end order out es
left_of-in_use cmp Keep order out es = refl
left_of-in_use cmp Undo order out es = refl

-- the parts of bins in use
pub parts : {B : Type 0} {new old : BinsInUse B} → new ≡ old → (new.now ≡ old.now) × (new.start ≡ old.start) × (new.order ≡ old.order) × (new.out ≡ old.out)
parts {B} same = (
  ap (λ (b : BinsInUse B). b.now) same,
  ap (λ (b : BinsInUse B). b.start) same,
  ap (λ (b : BinsInUse B). b.order) same,
  ap (λ (b : BinsInUse B). b.out) same,
)

-- where none is out, none is to be checked in
pub checked_in-none : {B : Type 0} (cmp : B → B → Ordering) (end : End) (order : List (ℕ × B)) (out : List (Option AtWork)) (es : List (B × Bin))
    → length out ≡ 0 → checked_in cmp end order out es ≡ es
checked_in-none cmp end [] out es none = refl
checked_in-none cmp end (x ∷ order) [] es none = refl
checked_in-none cmp end (x ∷ order) (a ∷ out) es none = absurd (omega (arith, none))

-- nor at a place at which nothing stands
pub checked_in-place : {B : Type 0} (cmp : B → B → Ordering) (end : End) (order : List (ℕ × B)) (out : List (Option AtWork)) (es : List (B × Bin))
    → checked_in cmp end order (out ++ None ∷ []) es ≡ checked_in cmp end order out es
checked_in-place cmp end [] out es = refl
checked_in-place cmp end (x ∷ order) [] es = checked_in-none cmp end order [] es refl
checked_in-place cmp end (x ∷ order) (a ∷ out) es = ap (put_back cmp end x.1 a) (checked_in-place cmp end order out es)

-- what stands last is checked in first
pub checked_in-last : {B : Type 0} (cmp : B → B → Ordering) (end : End) (order : List (ℕ × B)) (out : List (Option AtWork)) (es : List (B × Bin))
    (held : Option AtWork) (o : ℕ × B) → length out < length order → o ≡ get_or order (length out) o
    → checked_in cmp end order out (put_back cmp end o.1 held es) ≡ checked_in cmp end order (out ++ held ∷ []) es
checked_in-last cmp end [] out es held o within is = absurd (omega arith)
checked_in-last cmp end (x ∷ order) [] es held o within is = rw (is, checked_in-none cmp end order [] es refl) refl
checked_in-last cmp end (x ∷ order) (a ∷ out) es held o within is =
    ap (put_back cmp end x.1 a) (checked_in-last cmp end order out es held o (omega arith) is)

-- a bin that is out stands within the list
pub is_out-within : (out : List (Option AtWork)) (i : ℕ) → IsSome (get_or out i None) → i < length out
is_out-within [] i some = absurd cc
is_out-within (a ∷ out) zero some = omega arith
is_out-within (a ∷ out) (suc i) some = omega (arith, is_out-within out i some)

-- the entry at an index
pub entry_at : {X : Type 0} (xs : List X) (i : ℕ) → i < length xs → (x : X) × (x ≡ get_or xs i x)
entry_at [] i within = absurd (omega (arith, within))
entry_at (x ∷ xs) zero within = (x, refl)
entry_at (x ∷ xs) (suc i) within = entry_at xs i (omega (arith, within))

-- bins can be checked in where values alone were written in the map, and what is out stands at indices of the order
pub CanCheckIn-written : {B : Type 0} {cmp : B → B → Ordering} {order : List (ℕ × B)} {out : List (Option AtWork)} {es : List (B × Bin)}
    (later : List (Option AtWork)) (fs : List (B × Bin))
    → keys_of fs ≡ keys_of es → length later ≤ length order → CanCheckIn cmp order out es → CanCheckIn cmp order later fs
CanCheckIn-written {cmp = cmp} {order = order} {es = es} later fs keys within can = record {
  found = λ k d low. is_some-keys (is_at (cmp (get_or order k d).1)) fs es keys ∙ can.found k d low;
  distinct = can.distinct;
  within = within;
}

-- a trial that is stuck at its first member leaves the bin
pub IsTriedIn-stuck : {B : Type 0} (cmp : B → B → Ordering) (id : B) (bins : List (B × Bin)) (bin : Bin) → lookup (is_at (cmp id)) bins ≡ Some bin
    → IsTriedIn cmp id bins bin bin bins
IsTriedIn-stuck cmp id bins bin found = record { found = found; rest = refl; written = sym (set_value_same (is_at (cmp id)) bins bin found) }

pub IsTried-stuck : (E : Type 0) (may : Answers) (sections : List Cuboid) (members : List Size) (trial : Trial) (locations : List Cuboid)
    → trial.is_done ≡ false → IsStuckAtOnce sections members trial.tests → IsTried {E = E} may sections members (Ok trial) locations sections
IsTried-stuck E may sections members trial locations not_done stuck = rw (not_done, stuck.members_are) (inl (stuck.none, stuck.tests_are), refl)

-- where no summary is known, none is wrong
pub AreSummed-unknown : {B : Type 0} (cmp : B → B → Ordering) (order : List (ℕ × B)) (bins : List (B × Bin)) (summaries : List (Option Summary))
    → ((i : ℕ) → get_or summaries i None ≡ None) → AreSummed cmp order bins summaries
AreSummed-unknown cmp order bins summaries none = λ i. rw (none i) tt

weaker : {X : Type 0} {P Q : X → Type 0} (found : Option X) → ((x : X) → P x → Q x) → IfSome found P → IfSome found Q
weaker None f p = tt
weaker (Some x) f p = f x p

-- bins whose summaries rule a size out hold it nowhere
pub BinsHoldNone-ruled : {B : Type 0} (cmp : B → B → Ordering) (order : List (ℕ × B)) (bins : List (B × Bin)) (summaries : List (Option Summary)) (size : Size)
    (n from tests : ℕ) (here : List (Option Summary)) → AreSummed cmp order bins summaries → (0 < n → from + n ≤ length summaries)
    → drop from summaries ≡ here → RuleOut (take n here) size tests
    → BinsHoldNone cmp bins size (map (λ (x : ℕ × B). x.1) (take n (drop from order))) tests
BinsHoldNone-ruled cmp order bins summaries size zero from tests here summed within s out = record { counts = []; each = tt; tests_are = out }
BinsHoldNone-ruled cmp order bins summaries size (suc n) from tests [] summed within s out = absurd (drop-some summaries from n s (within (omega arith)))
BinsHoldNone-ruled cmp order bins summaries size (suc n) from tests (None ∷ here) summed within s out = absurd out
BinsHoldNone-ruled cmp order bins summaries size (suc n) from tests (Some summary ∷ here) summed within s out =
    let its = drop-head summaries from (Some summary) here s in
    let known : get_or summaries from None ≡ Some summary = get_or_default summaries from None (Some summary) its.0 ∙ sym its.1 in
    let this = rw known at (summed from) in
    let (o, is) = entry_at order from this.1.within in
    let head : drop from order ≡ o ∷ drop (suc from) order = drop-cons order from o this.1.within ∙ ap (λ x. x ∷ drop (suc from) order) (sym is) in
    let rest = BinsHoldNone-ruled cmp order bins summaries size n (suc from) out.1 here summed (λ some. omega (arith, within (omega arith))) its.2 out.2 in
    rw head (record {
      counts = summary.count ∷ rest.counts;
      each = (
        record {
          bin = this.0;
          found = this.1.found o is;
          none = none-bounded summary this.0.sections size this.2 out.0;
          tests_are = this.2.count;
        },
        rest.each,
      );
      tests_are = omega (arith, out.3, rest.tests_are, sum_by-cons (λ k. k) summary.count rest.counts);
    })

-- the id at an index has a bin in the map
pub is_in_map : {B : Type 0} (cmp : B → B → Ordering) (order : List (ℕ × B)) (out : List (Option AtWork)) (es : List (B × Held)) (i : ℕ) (o : ℕ × B)
    → CanCheckIn cmp order out (bins_of es) → i < length order → o ≡ get_or order i o → IsSome (lookup (is_at (cmp o.1)) es)
is_in_map cmp order out es i o can within is = sym (is_some-bins_of (is_at (cmp o.1)) es) ∙ rw is (can.found i o within)

module _ {B : Type 0} {cmp : B → B → Ordering} (total : IsTotalOrder cmp) where
  -- the ids of the order differ
  abbrev pub Differ : List (ℕ × B) → Type 0
  Differ order = IsDistinct (eq_by_cmp cmp) (map (λ (x : ℕ × B). x.1) order)

  -- a key that equals one of two keys that differ differs from the other
  differs : (a b k : B) → is_at (cmp a) b ≡ false → is_at (cmp a) k ≡ true → is_at (cmp b) k ≡ false
  differs a b k apart same = is_at-back total b k ∙ sym (ap is_eq (total.congr a k b ((Equal-is _).0 same))) ∙ apart

  -- writes at two keys, in either order
  set_value-swap : {X : Type 0} (a b : B) → is_at (cmp a) b ≡ false → (es : List (B × X)) (v w : X)
      → set_value (is_at (cmp a)) (set_value (is_at (cmp b)) es v) w ≡ set_value (is_at (cmp b)) (set_value (is_at (cmp a)) es w) v
  set_value-swap a b apart [] v w = refl
  set_value-swap a b apart (e ∷ es) v w = elim (cases_Bool (is_at (cmp a) e.0)) [
    | inl here ↦ simp (here, differs a b e.0 apart here)
    | inr off ↦ elim (cases_Bool (is_at (cmp b) e.0)) [
      | inl here ↦ simp (off, here)
      | inr other ↦ simp (off, other, set_value-swap a b apart es v w)
    ]
  ]

  -- what is checked in, and a write at another id, in either order
  put_back-swap : (end : End) (a b : B) → is_at (cmp a) b ≡ false → (held : Option AtWork) (es : List (B × Bin)) (w : Bin)
      → put_back cmp end a held (set_value (is_at (cmp b)) es w) ≡ set_value (is_at (cmp b)) (put_back cmp end a held es) w
  put_back-swap end a b apart None es w = refl
  put_back-swap end a b apart (Some h) es w = set_value-swap a b apart es w (left_at end h)

  -- a write at the same id is all that is left
  put_back-twice : (end : End) (a : B) (held : Option AtWork) (es : List (B × Bin)) (w : Bin)
      → set_value (is_at (cmp a)) es w ≡ set_value (is_at (cmp a)) (put_back cmp end a held es) w
  put_back-twice end a None es w = refl
  put_back-twice end a (Some h) es w = sym (set_value-twice (is_at (cmp a)) es (left_at end h) w)

  -- ids at two indices differ
  differ-at : (order : List (ℕ × B)) (i j : ℕ) (o p : ℕ × B) → Differ order → i < j → j < length order → o ≡ get_or order i o → p ≡ get_or order j p
      → is_at (cmp o.1) p.1 ≡ false
  differ-at order i j o p distinct before within is there =
      let id : ℕ × B → B = λ x. x.1 in
      let one : get_or (map id order) i o.1 ≡ o.1 = get_or-map id order i o o.1 (omega arith) ∙ ap id (sym is) in
      let other : get_or (map id order) j o.1 ≡ p.1 = get_or-map id order j p o.1 within ∙ ap id (sym there) in
      rw (one, other) at (apart_from_distinct (eq_by_cmp cmp) (map id order) i j o.1 distinct before (rw (length-map order id) within))

  differ : (order : List (ℕ × B)) (i j : ℕ) (o p : ℕ × B) → Differ order → i ≢ j → i < length order → j < length order → o ≡ get_or order i o
      → p ≡ get_or order j p → is_at (cmp o.1) p.1 ≡ false
  differ order i j o p distinct apart low high is there = elim (cases_order i j) [
    | inl e ↦ absurd (apart e)
    | inr (inl below) ↦ differ-at order i j o p distinct below high is there
    | inr (inr above) ↦ is_at-back total o.1 p.1 ∙ differ-at order j i p o distinct above low there is
  ]

  -- what is written at an id from which those of all bins that are out differ is written in the map
  checked_in-apart : (end : End) (id : B) (order : List (ℕ × B)) (out : List (Option AtWork)) (es : List (B × Bin)) (w : Bin)
      → ((k : ℕ) (p : ℕ × B) → k < length order → p ≡ get_or order k p → IsSome (get_or out k None) → is_at (cmp p.1) id ≡ false)
      → checked_in cmp end order out (set_value (is_at (cmp id)) es w) ≡ set_value (is_at (cmp id)) (checked_in cmp end order out es) w
  checked_in-apart end id [] out es w apart = refl
  checked_in-apart end id (x ∷ order) [] es w apart = refl
  checked_in-apart end id (x ∷ order) (None ∷ out) es w apart = checked_in-apart end id order out es w (λ k p low is. apart (suc k) p (omega arith) is)
  checked_in-apart end id (x ∷ order) (Some a ∷ out) es w apart =
      ap (put_back cmp end x.1 (Some a)) (checked_in-apart end id order out es w (λ k p low is. apart (suc k) p (omega arith) is))
      ∙ put_back-swap end x.1 id (apart 0 x (omega arith) refl refl) (Some a) _ w

  -- and so is what is written at the id of an index where no bin is out
  checked_in-written : (end : End) (order : List (ℕ × B)) (out : List (Option AtWork)) (es : List (B × Bin)) (i : ℕ) (o : ℕ × B) (w : Bin)
      → Differ order → i < length order → o ≡ get_or order i o → get_or out i None ≡ None
      → checked_in cmp end order out (set_value (is_at (cmp o.1)) es w) ≡ set_value (is_at (cmp o.1)) (checked_in cmp end order out es) w
  checked_in-written end order out es i o w distinct within is none = checked_in-apart end o.1 order out es w (λ k p low at some.
      differ order k i p o distinct (λ e. let bad : false ≡ true = rw (e, none) at some in absurd cc) low within at is)

  -- a bin that stands in the list is written at its id
  pub checked_in-set : (end : End) (order : List (ℕ × B)) (out : List (Option AtWork)) (es : List (B × Bin)) (i : ℕ) (o : ℕ × B) (w : AtWork)
      → Differ order → i < length out → i < length order → o ≡ get_or order i o
      → checked_in cmp end order (set out i (Some w)) es ≡ set_value (is_at (cmp o.1)) (checked_in cmp end order out es) (left_at end w)
  checked_in-set end [] out es i o w distinct within in_order is = absurd (omega arith)
  checked_in-set end (x ∷ order) [] es i o w distinct within in_order is = absurd (omega arith)
  checked_in-set end (x ∷ order) (a ∷ out) es zero o w distinct within in_order is =
      rw is (put_back-twice end x.1 a (checked_in cmp end order out es) (left_at end w))
  checked_in-set end (x ∷ order) (a ∷ out) es (suc i) o w distinct within in_order is =
      ap (put_back cmp end x.1 a) (checked_in-set end order out es i o w (IsDistinct-tail _ _ _ distinct) (omega arith) (omega arith) is)
      ∙ put_back-swap end x.1 o.1 (differ-at (x ∷ order) 0 (suc i) x o distinct (omega arith) (omega arith) refl is) a _ (left_at end w)

  keys-checked_in : (end : End) (order : List (ℕ × B)) (out : List (Option AtWork)) (es : List (B × Bin)) → keys_of (checked_in cmp end order out es) ≡ keys_of es
  keys-checked_in end [] out es = refl
  keys-checked_in end (x ∷ order) [] es = refl
  keys-checked_in end (x ∷ order) (None ∷ out) es = keys-checked_in end order out es
  keys-checked_in end (x ∷ order) (Some a ∷ out) es = keys-set_value (is_at (cmp x.1)) _ (left_at end a) ∙ keys-checked_in end order out es

  found-written : (test : B → Bool) (es : List (B × Bin)) (w : Bin) → IsSome (lookup test es) → lookup test (set_value test es w) ≡ Some w
  found-written test es w there = at (lookup test es) refl there
    where
      at : (found : Option Bin) → lookup test es ≡ found → IsSome found → lookup test (set_value test es w) ≡ Some w
      at None is some = absurd cc
      at (Some v) is some = lookup-set_here test es v w is

  module _ (order : List (ℕ × B)) (out : List (Option AtWork)) (es : List (B × Bin)) (i : ℕ) (o : ℕ × B) (can : CanCheckIn cmp order out es)
      (in_order : i < length order) (is : o ≡ get_or order i o) where
    -- the id has a bin, with all bins checked in
    there : (end : End) → IsSome (lookup (is_at (cmp o.1)) (checked_in cmp end order out es))
    there end = is_some-keys (is_at (cmp o.1)) _ es (keys-checked_in end order out es) ∙ rw is (can.found i o in_order)

    -- a bin that is in its map is found there
    found-in_map : (end : End) (bin : Bin) → get_or out i None ≡ None → lookup (is_at (cmp o.1)) es ≡ Some bin
        → lookup (is_at (cmp o.1)) (checked_in cmp end order out es) ≡ Some bin
    found-in_map end bin none found =
        let test = is_at (cmp o.1) in
        let same = ap (checked_in cmp end order out) (sym (set_value_same test es bin found)) ∙ checked_in-written end order out es i o bin can.distinct in_order is none in
        ap (lookup test) same ∙ found-written test _ bin (there end)

    pub IsBinAt-in_map : (bin : Bin) → get_or out i None ≡ None → lookup (is_at (cmp o.1)) es ≡ Some bin
        → IsBinAt cmp order (checked_in cmp Keep order out es) i bin
    IsBinAt-in_map bin none found = record {
      within = in_order;
      found = λ p at.
          let one : p ≡ o = at ∙ get_or_default order i p o in_order ∙ sym is in
          rw one (found-in_map Keep bin none found);
    }

    -- the bin is checked out, and another stands for it in the map: with all bins checked in, the map stays
    pub checked_in-out : (end : End) (bin other : Bin) → i < length out → get_or out i None ≡ None → lookup (is_at (cmp o.1)) es ≡ Some bin
        → checked_in cmp end order (set out i (Some (record { start = bin; now = bin }))) (set_value (is_at (cmp o.1)) es other) ≡ checked_in cmp end order out es
    checked_in-out end bin other within none found =
        let test = is_at (cmp o.1) in
        let all = checked_in cmp end order out es in
        checked_in-set end order out (set_value test es other) i o (record { start = bin; now = bin }) can.distinct within in_order is
        ∙ ap (set_value test (checked_in cmp end order out (set_value test es other))) (left_at-new end bin)
        ∙ ap (λ m. set_value test m bin) (checked_in-written end order out es i o other can.distinct in_order is none)
        ∙ set_value-twice test all other bin
        ∙ set_value_same test all bin (found-in_map end bin none found)

    module _ (v w : AtWork) (is_out : get_or out i None ≡ Some v) where
      within : i < length out
      within = is_out-within out i (rw is_out refl)

      -- a bin that is out is found
      found-out : (end : End) → lookup (is_at (cmp o.1)) (checked_in cmp end order out es) ≡ Some (left_at end v)
      found-out end =
          let same : set out i (Some v) ≡ out = rw (← is_out) (set-get_or out i None) in
          ap (λ l. lookup (is_at (cmp o.1)) (checked_in cmp end order l es)) (sym same)
          ∙ ap (lookup (is_at (cmp o.1))) (checked_in-set end order out es i o v can.distinct within in_order is)
          ∙ found-written (is_at (cmp o.1)) _ (left_at end v) (there end)

      -- and tried
      pub IsTriedIn-out : w.now ≡ record v.now { sections = w.now.sections }
          → IsTriedIn cmp o.1 (checked_in cmp Keep order out es) v.now w.now (checked_in cmp Keep order (set out i (Some w)) es)
      IsTriedIn-out rest = record {
        found = found-out Keep;
        rest = rest;
        written = checked_in-set Keep order out es i o w can.distinct within in_order is;
      }

      -- where it is written as it was, all stays
      pub checked_in-stays : (end : End) → left_at end w ≡ left_at end v → checked_in cmp end order (set out i (Some w)) es ≡ checked_in cmp end order out es
      checked_in-stays end same =
          checked_in-set end order out es i o w can.distinct within in_order is
          ∙ ap (set_value (is_at (cmp o.1)) (checked_in cmp end order out es)) same
          ∙ set_value_same (is_at (cmp o.1)) (checked_in cmp end order out es) (left_at end v) (found-out end)

  -- a bin was tried. Where its summary, if it was right, is right for its sections now, all summaries are
  pub AreSummed-tried : (order : List (ℕ × B)) (old new : List (B × Bin)) (k : ℕ) (o : ℕ × B) (before after : Bin) (summaries later : List (Option Summary))
      → Differ order → k < length order → o ≡ get_or order k o → AreSummed cmp order old summaries → IsTriedIn cmp o.1 old before after new
      → (IfSome (get_or summaries k None) (λ s. Bounds s before.sections) → IfSome (get_or later k None) (λ s. Bounds s after.sections))
      → ((i : ℕ) → i ≢ k → get_or later i None ≡ get_or summaries i None) → AreSummed cmp order new later
  AreSummed-tried order old new k o before after summaries later distinct in_order is summed tried here elsewhere = λ i. elim (cases_eq i k) [
    | inl e ↦ rw e (weaker (get_or later k None) (λ s bounds. (
      after,
      record {
        within = in_order;
        found = λ p at.
            let one : p ≡ o = at ∙ get_or_default order k p o in_order ∙ sym is in
            rw (one, tried.written) (lookup-set_here (is_at (cmp o.1)) old before after tried.found);
      },
      bounds,
    )) (here known))
    | inr apart ↦ rw (elsewhere i apart) (weaker (get_or summaries i None) (λ s this. (
      this.0,
      record {
        within = this.1.within;
        found = λ p at. rw (tried.written, lookup-written total o.1 old before after p.1 tried.found, differ order k i o p distinct (λ e. apart (sym e)) in_order this.1.within is at) (this.1.found p at);
      },
      this.2,
    )) (summed i))
  ]
    where
      known : IfSome (get_or summaries k None) (λ s. Bounds s before.sections)
      known = weaker (get_or summaries k None) (λ s this.
          let found : Some this.0 ≡ Some before = sym (this.1.found o is) ∙ tried.found in
          let same : this.0 ≡ before = cc in
          rw (← same) this.2) (summed k)
