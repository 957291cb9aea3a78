-- What a packing answers at its end.
use Rattle.rectangle_pack_sections.proofs.Std.{◌≡◌, ℕ, ◌+◌, List, arith, refl, ◌∙◌, Ordering, Bool, Result, Ok, Err}
use Rattle.rectangle_pack_sections.specs.declared.group.Group.{Group}
use Rattle.rectangle_pack_sections.specs.Groups.{Collection}
use Rattle.rectangle_pack_sections.specs.Bins.{Bin}
use Rattle.rectangle_pack_lists.specs.Numbers.{saturated}
use Rattle.rectangle_pack_lists.specs.declared.free_list.End.{End}
use Rattle.rectangle_pack_lists.specs.declared.free_list.End.TheVariants.{Keep, Undo}
use Rattle.rectangle_pack_packing.specs.declared.answer.RectanglePackOk.{RectanglePackOk}
use Rattle.rectangle_pack_packing.specs.declared.answer.RectanglePackError.{RectanglePackError}
use Rattle.rectangle_pack_packing.specs.declared.answer.RectanglePackError.TheVariants.{NotEnoughBinSpace, OutOfMemory}
use Rattle.rectangle_pack_packing.specs.Packing.{Rules}
use Rattle.rectangle_pack_packing.specs.Fitting.{PackingFits}
use Rattle.rectangle_pack_packing.specs.PackAnswers.{IsCountedAnswer}
use Rattle.rectangle_pack_packing.specs.Placed.{AreLastPlacements, placements_of, locations_of}
use Rattle.rectangle_pack_packing.specs.private.BinsAtWork.{BinsInUse, left_of}
use Rattle.rectangle_pack_packing.specs.private.OnItsWay.{OnItsWay, IsPackingTried, IsFittingTried}
use Rattle.rectangle_pack_packing.specs.private.Ends.{IsEnd, IsUndoneAnswer, end_with}
use Rattle.rectangle_pack_packing.proofs.lemmas.packing.FitTests.{AreCounted-added}

-- what is left of bins that were these at the start
left-with : {B : Type 0} (end : End) (bins : BinsInUse B) (start : List (B × Bin)) → bins.start ≡ start → left_of end bins ≡ end_with end start bins.now
left-with Keep bins start is = refl
left-with Undo bins start is = is

-- the tests that are counted at an end: none where memory is refused
abbrev pub CountsAt : {X : Type 0} → Result X RectanglePackError → ℕ → ℕ → Type 0
CountsAt (Err OutOfMemory) made counted = counted ≡ 0
CountsAt answer made counted = counted ≡ made

-- whatever the end of a packing, it is answered
pub undone-end : {Id B G R A E : Type 0} (group_cmp : Group G Id → Group G Id → Ordering) (rules : Rules Id B) (all : Collection Id G) (old : List (B × Bin))
    (packing : OnItsWay Id B R) (packed : Result Bool E) (bins : List (B × Bin)) (answer : Result (RectanglePackOk Id B A) RectanglePackError)
    (counted before after : ℕ) (refused : End)
    → IsPackingTried rules group_cmp all old packed packing → packing.bins.start ≡ old
    → CountsAt answer packing.tests counted → after ≡ saturated (before + counted) → IsEnd rules.id_cmp rules.bin_cmp packing packed refused bins answer
    → IsUndoneAnswer group_cmp rules refused all old before answer bins after
undone-end group_cmp rules all old packing packed bins (Ok ok) counted before after refused tried start is_made added (is, kept, placed, last) =
    let p = rw is at tried in (
      record { done = rw (placed, kept) p.0; counted = rw placed p.2; last = last },
      AreCounted-added all old _ packing.tests before after p.1 (rw is_made at added),
    )
undone-end group_cmp rules all old packing packed bins (Err NotEnoughBinSpace) counted before after refused tried start is_made added e =
    let p = rw e.0 at tried in
    (_, p.0, AreCounted-added all old _ packing.tests before after p.1 (rw is_made at added), e.1 ∙ left-with refused packing.bins old start)
undone-end group_cmp rules all old packing packed bins (Err OutOfMemory) counted before after refused tried start is_made added e =
    (e ∙ start, (0, record { most = omega arith; added = rw is_made at added }))

-- where a refused packing is not undone, this is its answer with its fit tests
pub kept-answer : {Id B G A : Type 0} (group_cmp : Group G Id → Group G Id → Ordering) (rules : Rules Id B) (all : Collection Id G) (old new : List (B × Bin))
    (before after : ℕ) (answer : Result (RectanglePackOk Id B A) RectanglePackError) → IsUndoneAnswer group_cmp rules Keep all old before answer new after
    → IsCountedAnswer group_cmp rules all old before answer new after
kept-answer group_cmp rules all old new before after (Ok ok) h = h
kept-answer group_cmp rules all old new before after (Err NotEnoughBinSpace) (left, refused, counted, is) = rw is (refused, counted)
kept-answer group_cmp rules all old new before after (Err OutOfMemory) h = h

-- what fits is answered, where it is kept
pub fitted-done : {Id B G R A E : Type 0} (group_cmp : Group G Id → Group G Id → Ordering) (rules : Rules Id B) (all : Collection Id G) (old : List (B × Bin))
    (packing : OnItsWay Id B R) (left : List (Group G Id)) (tried : Result Bool E) (bins : List (B × Bin)) (ok : RectanglePackOk Id B A)
    → IsFittingTried rules group_cmp all old left tried packing → IsEnd rules.id_cmp rules.bin_cmp packing tried Undo bins (Ok ok)
    → PackingFits group_cmp rules all old (placements_of ok) left bins
    × AreLastPlacements rules.id_cmp rules.bin_cmp (placements_of ok) (locations_of ok)
fitted-done group_cmp rules all old packing left tried bins ok h (is, kept, placed, last) =
    let fits = rw is at h in (rw (placed, kept) fits.1, last)

-- and where it is not, the bins are as they were
pub fitted-failed : {Id B R A E : Type 0} (cmp : Id → Id → Ordering) (bin_cmp : B → B → Ordering) (old : List (B × Bin)) (packing : OnItsWay Id B R)
    (tried : Result Bool E) (bins : List (B × Bin)) (answer : Result (RectanglePackOk Id B A) RectanglePackError) (error : RectanglePackError)
    → packing.bins.start ≡ old → answer ≡ Err error → IsEnd cmp bin_cmp packing tried Undo bins answer → bins ≡ old
fitted-failed cmp bin_cmp old packing tried bins (Ok ok) error start failed end = absurd (let no = failed in cc)
fitted-failed cmp bin_cmp old packing tried bins (Err NotEnoughBinSpace) error start failed end = end.1 ∙ left-with Undo packing.bins old start
fitted-failed cmp bin_cmp old packing tried bins (Err OutOfMemory) error start failed end = end ∙ start
