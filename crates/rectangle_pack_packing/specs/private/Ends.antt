-- How a packing ends.
use Rattle.std.specs.Prelude.{◌≡◌, ℕ, Bool, true, false, List, Result, Ok, Err}
use Rattle.std.specs.declared.cmp.Ordering.{Ordering}
use Rattle.rectangle_pack_packing.specs.declared.answer.RectanglePackOk.{RectanglePackOk}
use Rattle.rectangle_pack_packing.specs.declared.answer.RectanglePackError.{RectanglePackError}
use Rattle.rectangle_pack_packing.specs.declared.answer.RectanglePackError.TheVariants.{NotEnoughBinSpace, OutOfMemory}
use Rattle.rectangle_pack_sections.specs.Bins.{Bin}
use Rattle.rectangle_pack_sections.specs.declared.group.Group.{Group}
use Rattle.rectangle_pack_sections.specs.Groups.{Collection}
use Rattle.rectangle_pack_packing.specs.Packing.{Rules, PackingRefused}
use Rattle.rectangle_pack_packing.specs.PackAnswers.{AreCounted, IsCountedAnswer}
use Rattle.rectangle_pack_packing.specs.Placed.{AreLastPlacements, placements_of, locations_of}
use Rattle.rectangle_pack_lists.specs.declared.free_list.End.{End}
use Rattle.rectangle_pack_lists.specs.declared.free_list.End.TheVariants.{Keep, Undo}
use Rattle.rectangle_pack_packing.specs.private.BinsAtWork.{left_of}
use Rattle.rectangle_pack_packing.specs.private.OnItsWay.{OnItsWay}

-- what a packing answers, and the bins with it: those it has where it is done, those of the start where memory was
-- refused, and where it is refused for space what `refused` leaves
abbrev pub IsEnd : {Id B R A E : Type 0} → (Id → Id → Ordering) → (B → B → Ordering) → OnItsWay Id B R → Result Bool E → End → List (B × Bin)
    → Result (RectanglePackOk Id B A) RectanglePackError → Type 0
IsEnd cmp bin_cmp packing packed refused bins (Ok ok) =
    (packed ≡ Ok true) × (bins ≡ packing.bins.now) × (placements_of ok ≡ packing.placements)
    × AreLastPlacements cmp bin_cmp (placements_of ok) (locations_of ok)
IsEnd cmp bin_cmp packing packed refused bins (Err NotEnoughBinSpace) = (packed ≡ Ok false) × (bins ≡ left_of refused packing.bins)
IsEnd cmp bin_cmp packing packed refused bins (Err OutOfMemory) = bins ≡ packing.bins.start

-- of the bins of the start and those that a packing leaves: the latter where it is kept
abbrev pub end_with : {X : Type 0} → End → X → X → X
end_with Keep start left = left
end_with Undo start left = start

-- what a packing answers, with its fit tests, as `IsCountedAnswer` says it; but if a packing that is refused for space
-- is undone, the bins are as they were then
abbrev pub IsUndoneAnswer : {Id B G A : Type 0} → (Group G Id → Group G Id → Ordering) → Rules Id B → End → Collection Id G → List (B × Bin) → ℕ
    → Result (RectanglePackOk Id B A) RectanglePackError → List (B × Bin) → ℕ → Type 0
IsUndoneAnswer {B = B} group_cmp rules end all old before (Err NotEnoughBinSpace) new after =
    (left : List (B × Bin)) × (refused : PackingRefused group_cmp rules all old left) × AreCounted all old refused.tests before after
    × (new ≡ end_with end old left)
IsUndoneAnswer group_cmp rules end all old before answer new after = IsCountedAnswer group_cmp rules all old before answer new after
