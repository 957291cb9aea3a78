-- Lists of sections without a gap: each place has a section.
use Rattle.std.proofs.Common.{insert}
use Rattle.std.proofs.Math.Seq.{drop-append-add}
use Rattle.std.proofs.lemmas.List.{drop-map}
use Rattle.rectangle_pack_sections.proofs.Std.{◌≡◌, ◌≤◌, ◌<◌, ◌+◌, ◌-◌, ℕ, suc, List, [], ◌∷◌, length, take, drop, get_or, refl, sym, ap, subst, ◌∙◌, arith}
use Rattle.rectangle_pack_sections.proofs.Std.{Option, Some, None, IsSome, All, AllWithin, HoldsAt, map, split_at, All-map, All-head, All-tail}
use Rattle.rectangle_pack_sections.proofs.Std.{length-append, length-map, length-drop, length-take-le, map-append, take-map, get_or-map, get_or-drop, get_or-append_seam}
use Rattle.rectangle_pack_sections.specs.Boxes.{Cuboid, Size, Holds}
use Rattle.rectangle_pack_sections.specs.Closures.{Answers}
use Rattle.rectangle_pack_lists.specs.Steps.{IsStep}
use Rattle.rectangle_pack_lists.specs.declared.free_list.plain.Taken.{Taken}
use Rattle.rectangle_pack_lists.specs.private.Notes.{plain_note, before_note, CanUndoOne}
use Rattle.rectangle_pack_lists.proofs.lemmas.trial.PlaceSteps.{sections_of-full}
use Rattle.rectangle_pack_lists.specs.private.Places.{sections_of, IsLastHolding, NoneHolds}

abbrev full : List Cuboid → List (Option Cuboid)
full xs = map (λ s. Some s) xs

no-gap : (xs : List Cuboid) → All (λ p. IsSome p) (full xs)
no-gap xs = All-map (λ p. IsSome p) (λ s. Some s) xs (λ k d within. refl)

-- places without a gap are those of their sections
pub plain-again : (places : List (Option Cuboid)) → All (λ p. IsSome p) places → full (sections_of places) ≡ places
plain-again [] all = refl
plain-again (None ∷ places) all = let none = All-head (λ p. IsSome p) None places all in absurd (cc none)
plain-again (Some s ∷ places) all = ap (λ l. Some s ∷ l) (plain-again places (All-tail (λ p. IsSome p) (Some s) places all))

-- the last of its sections that holds a size
last-at : (d : Cuboid) (xs : List Cuboid) (size : Size) (i : ℕ) → i < length xs → HoldsAt (λ s. Holds s size) xs i
    → AllWithin (λ s. ¬ Holds s size) xs (i + 1) (length xs) → IsLastHolding (full xs) size i (length xs - i)
last-at d xs size i within held newest =
    let behind : sections_of (full (drop (suc i) xs)) ≡ drop (suc i) xs = sections_of-full (drop (suc i) xs) in
    let long = length-drop (suc i) xs in
    record {
      before = full (take i xs);
      section = get_or xs i d;
      after = full (drop (suc i) xs);
      splits = ap (λ l. full l) (split_at xs i d within) ∙ map-append (λ s. Some s) (take i xs) (get_or xs i d ∷ drop (suc i) xs);
      place_is = omega (arith, length-map (take i xs) (λ s. Some s), length-take-le i xs (omega arith));
      held = held d;
      newest = subst (All (λ s. ¬ Holds s size)) (sym behind)
          (λ k e short. rw get_or-drop (newest (suc i + k) e (omega arith) (omega arith)));
      tests_are = omega (arith, ap length behind);
    }

pub IsLastHolding-plain : (xs : List Cuboid) (size : Size) (i : ℕ) → i < length xs → HoldsAt (λ s. Holds s size) xs i
    → AllWithin (λ s. ¬ Holds s size) xs (i + 1) (length xs) → IsLastHolding (full xs) size i (length xs - i)
IsLastHolding-plain [] size i within held newest = absurd (omega arith)
IsLastHolding-plain (x ∷ xs) size i within held newest = last-at x (x ∷ xs) size i within held newest

pub NoneHolds-plain : (xs : List Cuboid) (size : Size) → All (λ s. ¬ Holds s size) xs → NoneHolds (full xs) size (length xs)
NoneHolds-plain xs size none = record {
  none = subst (All (λ s. ¬ Holds s size)) (sym (sections_of-full xs)) none;
  tests_are = ap length (sym (sections_of-full xs));
}

module _ (xs : List Cuboid) (size : Size) (i tests : ℕ) (last : IsLastHolding (full xs) size i tests) where
  pub plain-within : i < length xs
  plain-within =
      omega (arith, last.place_is, ap length last.splits, length-map xs (λ s. Some s), length-append last.before (Some last.section ∷ last.after))

  -- the section there
  plain-is : (d : Cuboid) → get_or xs i d ≡ last.section
  plain-is d =
      let there : get_or (full xs) i (Some d) ≡ Some last.section =
      ap (λ l. get_or l i (Some d)) last.splits ∙ rw last.place_is (get_or-append_seam last.before (Some last.section) last.after (Some d)) in
      let here : get_or (full xs) i (Some d) ≡ Some (get_or xs i d) = get_or-map (λ s. Some s) xs i d (Some d) plain-within in
      cc

  -- and those behind it
  plain-after : sections_of last.after ≡ drop (i + 1) xs
  plain-after =
      let rest : full (drop (i + 1) xs) ≡ last.after =
      sym (drop-map (λ s. Some s) (i + 1) xs) ∙ ap (drop (i + 1)) last.splits
      ∙ rw last.place_is (drop-append-add last.before (Some last.section ∷ last.after) 1) in
      ap sections_of (sym rest) ∙ sections_of-full (drop (i + 1) xs)

  pub plain-holds : HoldsAt (λ s. Holds s size) xs i
  plain-holds d = subst (λ (s : Cuboid). Holds s size) (sym (plain-is d)) last.held

  pub plain-newest : AllWithin (λ s. ¬ Holds s size) xs (i + 1) (length xs)
  plain-newest k d from short =
      let ends : i + 1 + (k - (i + 1)) ≡ k = omega arith in
      let long = length-drop (i + 1) xs in
      let all : All (λ s. ¬ Holds s size) (drop (i + 1) xs) = subst (All (λ s. ¬ Holds s size)) plain-after last.newest in
      let read : get_or (drop (i + 1) xs) (k - (i + 1)) d ≡ get_or xs k d = get_or-drop (i + 1) xs (k - (i + 1)) d ∙ ap (λ n. get_or xs n d) ends in
      subst (λ (s : Cuboid). ¬ Holds s size) read (all (k - (i + 1)) d (omega arith))

  pub plain-tests : length xs - i ≡ tests
  plain-tests = omega (arith, last.tests_are, ap length plain-after, length-drop (i + 1) xs, plain-within)

  -- a step of its sections is one of its places
  pub IsStep-plain : (may : Answers) (location : Cuboid) (next : List Cuboid) → IsStep may xs size location next (length xs - i)
      → IsStep may (sections_of (full xs)) size location (sections_of (full next)) tests
  IsStep-plain may location next step = rw (sections_of-full xs, sections_of-full next, ← plain-tests) step

full-insert : (xs : List Cuboid) (i : ℕ) (s : Cuboid) → insert (full xs) i (Some s) ≡ full (insert xs i s)
full-insert xs i s =
    rw (take-map (λ s. Some s) i xs, drop-map (λ s. Some s) i xs) (sym (map-append (λ s. Some s) (take i xs) (s ∷ drop i xs)))

-- a note is undone among the sections as among their places
pub before_note-plain : (step : Taken) (xs before : List Cuboid) → insert (take (length xs - step.pushed) xs) step.place step.section ≡ before
    → before_note (plain_note step) (full xs) ≡ full before
before_note-plain step xs before is =
    let kept : take (length (full xs) - step.pushed) (full xs) ≡ full (take (length xs - step.pushed) xs) =
    ap (λ n. take (n - step.pushed) (full xs)) (length-map xs (λ s. Some s)) ∙ take-map (λ s. Some s) (length xs - step.pushed) xs in
    ap (λ l. insert l step.place (Some step.section)) kept ∙ full-insert (take (length xs - step.pushed) xs) step.place step.section ∙ ap (λ l. full l) is

pub CanUndoOne-plain : (room : ℕ) (step : Taken) (xs : List Cuboid) → step.place + step.pushed ≤ length xs → length xs < room + step.pushed
    → CanUndoOne room (plain_note step) (full xs)
CanUndoOne-plain room step xs place more = (omega (arith, length-map xs (λ s. Some s)), omega (arith, length-map xs (λ s. Some s)), no-gap xs)

-- a step that can be undone without a gap: none stands in the list, and its section fits in
pub plain-undone : (room : ℕ) (places : List (Option Cuboid)) (xs : List Cuboid) (step : Taken) → xs ≡ sections_of places
    → CanUndoOne room (plain_note step) places → (full xs ≡ places) × (step.place + step.pushed ≤ length xs) × (length xs < room + step.pushed)
plain-undone room places xs step is (place, more, all) =
    let same : full xs ≡ places = ap (λ l. full l) is ∙ plain-again places all in
    let long : length xs ≡ length places = omega (arith, ap length same, length-map xs (λ s. Some s)) in
    (same, omega arith, omega arith)
