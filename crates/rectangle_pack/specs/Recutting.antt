-- The free part of a bin of a session, cut anew.
use Rattle.std.specs.Prelude.{◌≡◌, ◌++◌, Bool, true, false, List, [], ◌∷◌, filter, Some, None, IsSome}
use Rattle.std.specs.declared.cmp.Ordering.{Ordering}
use Rattle.std.specs.Map.{lookup, set_value}
use Rattle.std.specs.BTreeMap.{is_at}
use Rattle.rectangle_pack.specs.declared.session.command.Outstanding.{Outstanding}
use Rattle.rectangle_pack.specs.declared.session.command.Command.{Command}
use Rattle.rectangle_pack.specs.declared.session.command.Command.TheVariants.{Coalesce, CoalesceAll}
use Rattle.rectangle_pack.specs.declared.session.command.SessionError.TheVariants.{UnknownBin, NotFromCuts, OutOfMemory}
use Rattle.rectangle_pack.specs.declared.session.command.Reply.{Reply}
use Rattle.rectangle_pack.specs.declared.session.command.Reply.TheVariants.{Done, Refused}
use Rattle.rectangle_pack_sections.specs.Boxes.{Cuboid, Cell, has_cells}
use Rattle.rectangle_pack_sections.specs.Bins.{Bin, whole}
use Rattle.rectangle_pack_sections.specs.Counting.{times_filled}
use Rattle.rectangle_pack_sections.specs.CutTrees.{IsFromCuts}
use Rattle.rectangle_pack_plans.specs.CuttingAnew.{IsCutAnew}
use Rattle.rectangle_pack.specs.Session.{State, outstanding_in, boxes_of}

module _ {Id B : Type 0} (bin_cmp : B → B → Ordering) where
  -- the boxes with cells that stand in the bin of this id
  abbrev pub standing_in : List (Outstanding Id B) → B → List Cuboid
  standing_in outstanding id = filter has_cells (outstanding_in bin_cmp outstanding id)

  -- a bin is cut anew: it has free sections as `IsCutAnew` says of it and of the boxes that stand in it, and all else
  -- stays, also whether it counts as coalesced. Or it is refused, and nothing changes: `UnknownBin`, the bin is not there;
  -- `NotFromCuts`, it is there, and no free sections are from cuts of it together with these boxes; `OutOfMemory`, it is
  -- there. A reply of which there is no case never comes
  -- Example: in a bin 10x10x1 stands (0,0,0) 4x2x1. Its list [(4,0,0) 6x10x1, (0,2,0) 4x8x1] becomes [(0,2,0) 10x8x1,
  -- (4,0,0) 6x2x1]
  abbrev pub Recuts : B → State Id B → Reply → State Id B → Type 0
  Recuts id old Done new =
      (bin : Bin) × (lookup (is_at (bin_cmp id)) old.bins ≡ Some bin)
      × (sections : List Cuboid) × IsCutAnew (whole bin.size) (standing_in old.outstanding id) sections
      × (new ≡ record old { bins = set_value (is_at (bin_cmp id)) old.bins (record bin { sections = sections }) })
  Recuts id old (Refused UnknownBin) new = (lookup (is_at (bin_cmp id)) old.bins ≡ None) × (new ≡ old)
  Recuts id old (Refused NotFromCuts) new =
      (bin : Bin) × (lookup (is_at (bin_cmp id)) old.bins ≡ Some bin)
      × ((free : List Cuboid) → ¬ IsFromCuts (free ++ standing_in old.outstanding id) (whole bin.size)) × (new ≡ old)
  Recuts id old (Refused OutOfMemory) new = IsSome (lookup (is_at (bin_cmp id)) old.bins) × (new ≡ old)
  Recuts id old _ new = ⊥

  -- in each bin each cell is in as many free sections as before
  abbrev pub KeepsFree : State Id B → State Id B → Type 0
  KeepsFree old new =
      (id : B) (before after : Bin) → lookup (is_at (bin_cmp id)) old.bins ≡ Some before
      → lookup (is_at (bin_cmp id)) new.bins ≡ Some after
      → (c : Cell) → times_filled c after.sections ≡ times_filled c before.sections

  -- the bin of this id, if it is there, is cut straight: its boxes are from cuts of it, whether or not it counts as coalesced
  abbrev pub IsCutStraight : B → State Id B → Type 0
  IsCutStraight id state =
      (bin : Bin) → lookup (is_at (bin_cmp id)) state.bins ≡ Some bin
      → IsFromCuts (boxes_of bin_cmp state.outstanding id bin) (whole bin.size)

  -- where no box with cells stands in the bin of this id, and it has cells, its one free section is all of it
  abbrev pub IsWholeIfEmpty : B → State Id B → Type 0
  IsWholeIfEmpty id state =
      (bin : Bin) → lookup (is_at (bin_cmp id)) state.bins ≡ Some bin
      → standing_in state.outstanding id ≡ [] → has_cells (whole bin.size) ≡ true → bin.sections ≡ whole bin.size ∷ []

  -- the command coalesces the bin of this id
  abbrev pub coalesces : {G A : Type 0} → B → Command Id B G A → Bool
  coalesces id (Coalesce bin idx lo hi) = is_at (bin_cmp bin) id
  coalesces id (CoalesceAll bin) = is_at (bin_cmp bin) id
  coalesces id _ = false
