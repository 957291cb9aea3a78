-- Steps in lists with gaps.
use Rattle.std.specs.List.{SameBelow}
use Rattle.rectangle_pack_sections.proofs.Std.{◌+◌, ◌-◌, get_or_append_left, arith, length-append, ◌≡◌, ◌<◌, ℕ, List, [], ◌∷◌, ◌++◌, length, take, set, get_or, refl, ap, subst, ◌∙◌, Option, Some, None, All}
use Rattle.rectangle_pack_sections.proofs.Std.{map, set-get_or, set-set, length-set, take-append_seam, get_or-append_seam, set-append_seam}
use Rattle.rectangle_pack_sections.specs.Boxes.{Size, Cuboid, Holds, FitsU32}
use Rattle.rectangle_pack_sections.specs.Choice.{IsAllowedCut}
use Rattle.rectangle_pack_sections.specs.Closures.{Answers}
use Rattle.rectangle_pack_sections.specs.Cuts.{placed}
use Rattle.rectangle_pack_lists.specs.Steps.{IsStep, AreLeft}
use Rattle.rectangle_pack_lists.specs.private.Places.{sections_of, IsLastHolding}
use Rattle.rectangle_pack_sections.proofs.lemmas.util.Lists.{All-middle}
use Rattle.rectangle_pack_lists.proofs.lemmas.trial.Places.{sections_of-append}

-- a step that leaves a gap, by the places and the sections under them before and after
module _ (s next pushed : List (Option Cuboid)) (i n m : ℕ) (is : next ≡ set s i None ++ pushed) (all : n ≡ length next) (kept : m ≡ length s) where
  long : length next ≡ length s + length pushed
  long = omega (arith, ap length is, length-append (set s i None) pushed, length-set s i None)

  -- it is undone, whatever was pushed
  pub before-taken : (x content : Cuboid) → get_or s i None ≡ Some x → content ≡ x → set (take (length next - (n - m)) next) i (Some content) ≡ s
  before-taken x content read same =
      let few : length next - (n - m) ≡ length (set s i None) = omega (arith, long, length-set s i None) in
      rw (few, is, take-append_seam (set s i None) pushed, set-set s i None (Some content), same, ← read) (set-get_or s i None)

  -- its gap is before what was pushed
  pub taken-within : i < length s → i + (n - m) < length next
  taken-within within = omega (arith, long)

-- and the sections stay, whatever is pushed
pub under-same : (under taken next more : List Cuboid) (n m : ℕ) → taken ≡ under → next ≡ taken ++ more → n ≡ m → n ≡ length under → SameBelow under next m
under-same under taken next more n m same is counted long k d below = rw (is, same) (get_or_append_left under more d k (omega arith))

-- the sections of places that are no gaps
pub sections_of-full : (xs : List Cuboid) → sections_of (map (λ s. Some s) xs) ≡ xs
sections_of-full [] = refl
sections_of-full (x ∷ xs) = ap (λ l. x ∷ l) (sections_of-full xs)

module _ (places : List (Option Cuboid)) (size : Size) (i tests : ℕ) (at : IsLastHolding places size i tests) where
  -- the last place whose section holds a size is one of the places, and no gap
  pub last-place : i < length places
  last-place = omega (arith, at.place_is, ap length at.splits, length-append at.before (Some at.section ∷ at.after))

  last-is : get_or places i None ≡ Some at.section
  last-is = ap (λ l. get_or l i None) at.splits ∙ rw at.place_is (get_or-append_seam at.before (Some at.section) at.after None)

  -- a section that is read at the last place whose section holds a size is the one that splits the sections
  last-splits : (s : Cuboid) → get_or places i None ≡ Some s → (at.section ≡ s) × (sections_of places ≡ sections_of at.before ++ s ∷ sections_of at.after)
  last-splits s found =
      let here : get_or places i None ≡ Some at.section = last-is in
      let same : at.section ≡ s = cc in
      (same, ap sections_of at.splits ∙ sections_of-append at.before (Some at.section ∷ at.after) ∙ rw same refl)

  -- so it fits where all sections do
  pub last-fits : (s : Cuboid) → get_or places i None ≡ Some s → All FitsU32 (sections_of places) → FitsU32 s
  last-fits s found = All-middle FitsU32 (sections_of places) _ _ s (last-splits s found).1

-- a step that leaves a gap
pub IsStep-in_places : (may : Answers) (places : List (Option Cuboid)) (member : Size) (i tests : ℕ) (s : Cuboid) (cut left : List Cuboid)
    → IsLastHolding places member i tests → get_or places i None ≡ Some s → IsAllowedCut may.prefer s member cut → AreLeft may.rate cut left
    → IsStep may (sections_of places) member (placed s member) (sections_of (set places i None ++ map (λ s. Some s) left)) tests
IsStep-in_places may places member i tests s cut left at found allowed are_left =
    let (same, all) = last-splits places member i tests at s found in
    let emptied : sections_of (set places i None) ≡ sections_of at.before ++ sections_of at.after =
    ap (λ l. sections_of (set l i None)) at.splits ∙ rw (at.place_is, set-append_seam) (sections_of-append at.before (None ∷ at.after)) in
    record {
      before = sections_of at.before;
      section = s;
      after = sections_of at.after;
      splits = all;
      held = subst (λ (x : Cuboid). Holds x member) same at.held;
      newest = at.newest;
      location_is = refl;
      cut = cut;
      allowed = allowed;
      left = left;
      are_left = are_left;
      next_is = rw (sections_of-append, sections_of-full, emptied) refl;
      tests_are = at.tests_are;
    }
