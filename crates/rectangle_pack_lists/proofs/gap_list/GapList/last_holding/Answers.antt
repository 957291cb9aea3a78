use borrow.Author.Rules.{scaled_fits≤}
use Rattle.std.proofs.Common.{le_refl, le_of_lt, Fits, Fits-le, w64}
use Rattle.rectangle_pack_sections.proofs.Std.{ℕ, arith, ap, ◌≡◌, ◌≤◌, ◌<◌, ◌+◌, ◌-◌, ◌*◌, ◌/◌, ◌^◌}
use Rattle.rectangle_pack_sections.proofs.Std.{subst, sym, ◌∙◌}
use Rattle.rectangle_pack_sections.proofs.Std.{List, length, take, drop, get_or}
use Rattle.rectangle_pack_sections.specs.Boxes.{Cuboid}
use Rattle.rectangle_pack_lists.specs.private.GapBits.{bits_of, flags_of}
use Rattle.rectangle_pack_lists.specs.private.Places.{Places, places_of}
use Rattle.rectangle_pack_lists.proofs.lemmas.trial.Places.{NoneHolds-past, NoneHolds-most, NoneHolds-skip, IsLastHolding-in, length-stretch, block-within, block-places_of, length-places_of, within-places}
use Rattle.rectangle_pack_lists.proofs.gap_list.GapList.last_holding.Goals as goal

-- what is below a number of 64 bits is one
below_fits : (n end : ℕ) → n < end → Fits w64 end → Fits w64 n
below_fits n end below fits = Fits-le (le_of_lt below) fits

-- no more tests than places are a number of 64 bits
tests_fit : (tests end places len cap : ℕ) → tests ≤ places - end → len ≡ places → len ≤ cap
    → cap < 2 ^ 63
    → Fits w64 tests
tests_fit tests end places len cap most same within small = omega arith

-- nor are those of a stretch and those behind it
more_fit : (tests more begin end long places len cap : ℕ) → more ≤ long → long ≤ end - begin
    → tests ≤ places - end → end ≤ places → len ≡ places → len ≤ cap → cap < 2 ^ 63
    → Fits w64 (tests + more)
more_fit tests more begin end long places len cap a b c d same within small = omega arith

-- a place of a stretch is before its end
in_block : (begin end at long : ℕ) → begin ≤ end → at < long → long ≤ end - begin → begin + at < end
in_block begin end at long a b c = omega arith

-- an end within a list is within a view of it
in_deref : {X : Type 0} (view list : List X) (end : ℕ) → view ≡ list → end ≤ length list → end ≤ length view
in_deref view list end same within = rw same within

-- the places of the block before an end are those that its byte stands for
block_read : (end : ℕ) (s : List Cuboid) (bytes : List ℕ) (b : ℕ) → 0 < end → end ≤ length s → length bytes ≡ (length s + 7) / 8
    → b ≡ get_or bytes ((end - 1) / 8) b
    → take (end - (end - 1) / 8 * 8) (drop ((end - 1) / 8 * 8) (places_of s (flags_of bytes)))
    ≡ places_of (take (end - (end - 1) / 8 * 8) (drop ((end - 1) / 8 * 8) s)) (bits_of b)
block_read end s bytes b some within long read =
    let w = end - (end - 1) / 8 * 8 in
    let k = (end - 1) / 8 in
    block-places_of w k s bytes b (omega arith) (omega arith) ∙ ap (λ (n : ℕ). places_of (take w (drop (k * 8) s)) (bits_of n)) (sym read)

le_before : (a b n : ℕ) → a < b → b ≤ n → a ≤ n
le_before a b n below within = omega arith

le_from_same : (a b : ℕ) → a ≡ b → a ≤ b
le_from_same a b same = omega arith

pub overflow_add-tests : goal.overflow_add-tests
overflow_add-tests g c =
    let places = places_of c.self.inside.sections.items (flags_of c.self.inside.gaps.items) in
    let stretch = rw (c.from-size.ensures, ← ap (λ (v : Places). v.all) c.self.view_is) at c.in-Some.ensures.none in
    let less = c.in-Some.ensures.begin in
    let skipped = NoneHolds-skip places c.in-Some.begin c.loop-end.end _ _ _ (le_of_lt less) stretch
    c.loop-end.invariant.none in
    tests_fit _ c.in-Some.begin _ _ _ (NoneHolds-most places c.in-Some.begin _ _ skipped)
    (c.self.inside.sections.ok.0 ∙ sym (length-places_of _ _)) c.self.inside.sections.ok.1 c.self.inside.sections.small

pub loop-end-preserved-in-Some : goal.loop-end-preserved-in-Some
loop-end-preserved-in-Some g c =
    let places = places_of c.self.inside.sections.items (flags_of c.self.inside.gaps.items) in
    let stretch = rw (c.from-size.ensures, ← ap (λ (v : Places). v.all) c.self.view_is) at c.in-Some.ensures.none in
    let less = c.in-Some.ensures.begin in
    record {
      within = le_before _ c.loop-end.end _ less c.loop-end.invariant.within;
      none = NoneHolds-skip places c.in-Some.begin c.loop-end.end _ _ _ (le_of_lt less) stretch
          c.loop-end.invariant.none;
    }

pub overflow_add-tests-in_default : goal.overflow_add-tests-in_default
overflow_add-tests-in_default g c =
    let places = places_of c.self.inside.sections.items (flags_of c.self.inside.gaps.items) in
    let end = c.loop-end.end in
    let most = rw c.deref.ensures.value at c.last_of-found.ensures.most in
    let long = length-stretch c.self.inside.sections.items ((end - 1) / 8 * 8) end in
    more_fit _ _ ((end - 1) / 8 * 8) end _ _ _ _ most long
    (NoneHolds-most places end _ _ c.loop-end.invariant.none)
    (within-places _ _ end c.loop-end.invariant.within) (c.self.inside.sections.ok.0 ∙ sym (length-places_of _ _)) c.self.inside.sections.ok.1
    c.self.inside.sections.small

pub returns-in-Some-place : goal.returns-in-Some-place
returns-in-Some-place g c =
    let places = places_of c.self.inside.sections.items (flags_of c.self.inside.gaps.items) in
    let now = c.loop-end.invariant in
    let end = c.loop-end.end in
    let begin = (end - 1) / 8 * 8 in
    let block = block_read end c.self.inside.sections.items c.self.inside.gaps.items _ c.loop-end-test.true now.within c.self.invariant.0 c.index.ensures in
    let found = rw (c.deref.ensures.value, ← block) at (rw c.in-Some-place.is at c.last_of-found.ensures.found) in
    record {
      found = rw (← ap (λ (v : Places). v.all) c.self.view_is)
          (IsLastHolding-in places _ end _ _ _ _ (block-within _ _ (le_refl _)) (block-within end _ (within-places _ _ end now.within)) found now.none);
    }

pub loop-end-preserved : goal.loop-end-preserved
loop-end-preserved g c =
    let places = places_of c.self.inside.sections.items (flags_of c.self.inside.gaps.items) in
    let now = c.loop-end.invariant in
    let end = c.loop-end.end in
    let begin = (end - 1) / 8 * 8 in
    let block = block_read end c.self.inside.sections.items c.self.inside.gaps.items _ c.loop-end-test.true now.within c.self.invariant.0 c.index.ensures in
    let none = rw (c.deref.ensures.value, ← block) at (rw c.in_default-place.is at c.last_of-found.ensures.found) in
    record {
      within = block-within _ _ now.within;
      none = NoneHolds-skip places _ end _ _ _ (block-within _ _ (le_refl _)) none now.none;
    }

pub loop-end-init : goal.loop-end-init
loop-end-init g c =
    let places = places_of c.self.inside.sections.items (flags_of c.self.inside.gaps.items) in
    let all = c.len-end.ensures ∙ c.self.inside.sections.ok.0 in
    record { within = le_from_same _ _ all; none = NoneHolds-past places _ c.args.member.now (le_from_same _ _ (length-places_of _ _ ∙ sym all)) }

pub too_small_before-requires-clause-to : goal.too_small_before-requires-clause-to
too_small_before-requires-clause-to g c =
    subst (λ (v : Places). c.loop-end.end ≤ length v.all) c.self.view_is (within-places _ _ c.loop-end.end c.loop-end.invariant.within)

pub offset_bounds-deref-begin : goal.offset_bounds-deref-begin
offset_bounds-deref-begin g c =
    scaled_fits≤ _ _ 24
    (block-within c.loop-end.end _ (in_deref _ _ _ c.deref.ensures.value c.loop-end.invariant.within))
    c.deref.type_inv.1

pub overflow_add-result : goal.overflow_add-result
overflow_add-result g c =
    let at = rw c.in-Some-place.is at c.last_of-found.ensures.place in
    below_fits _ _ (in_block _ _ _ _ (block-within _ _ (le_refl _)) at
    (length-stretch c.deref.result.now _ c.loop-end.end))
    c.loop-end.auto.end-fits
