-- What a session makes of a packing by the best of several heuristics.
use Rattle.std.specs.Prelude.{◌≡◌, ◌+◌, ◌<◌, ◌≤◌, ◌^◌, List, All, Result, Ok, Err, ⊤}
use Rattle.std.specs.declared.cmp.Ordering.{Ordering}
use Rattle.rectangle_pack_sections.specs.declared.box_size_heuristics.named.Heuristic.{Heuristic}
use Rattle.rectangle_pack_sections.specs.declared.group.Group.{Group}
use Rattle.rectangle_pack_sections.specs.Groups.{Collection, entries_of}
use Rattle.rectangle_pack_packing.specs.Best.{named_rules, use_of, IsRefusedWith, IsBestOf}
use Rattle.rectangle_pack.specs.declared.session.command.Packed.{Packed}
use Rattle.rectangle_pack.specs.declared.session.command.SessionError.{SessionError}
use Rattle.rectangle_pack.specs.declared.session.command.SessionError.TheVariants.{NumbersUsedUp, NotEnoughBinSpace, OutOfMemory}
use Rattle.rectangle_pack.specs.Promise.{PlacesWhole, NoBinTakes}
use Rattle.rectangle_pack.specs.Session.{State, IsKept}

module _ {Id B G : Type 0} (group_cmp : Group G Id → Group G Id → Ordering) (cmp : Id → Id → Ordering) (bin_cmp : B → B → Ordering) where
  -- what a session makes of a packing with the best of several heuristics, by cases on the answer. A heuristic and
  -- numbers: the packing with this heuristic is done and kept (`IsKept`), and this is the best of the list
  -- (`IsBestOf`), with the use that its placements make of the bins; what stood there before does not count.
  -- `NumbersUsedUp`: the next number and the entries add up to 2^64 or more; of all other answers they add up to less.
  -- `NotEnoughBinSpace`: with each heuristic of the list, which is not empty, the packing is refused (`IsRefusedWith`).
  -- `OutOfMemory`: nothing more is said. On each of these the state is as it was. No other error comes
  -- Example: p 4x10x1 and q 6x10x1 into a new bin 10x10x1, from number 2, by the best of [`Width`, `Height`]: `Width`,
  -- the first of two that make the use 1 bin, 100 cells. Number 2 is q and 3 is p, as by width the wider goes first
  abbrev pub PacksBest : List Heuristic → Collection Id G → State Id B → Result (Heuristic × Packed) SessionError → State Id B → Type 0
  PacksBest heuristics all old (Ok (best, numbers)) new =
      (old.next + entries_of all < 2 ^ 64) × (kept : IsKept group_cmp (named_rules cmp bin_cmp best) all old numbers new)
      × IsBestOf group_cmp cmp bin_cmp all old.bins heuristics best (use_of bin_cmp kept.placements old.bins)
  PacksBest heuristics all old (Err NumbersUsedUp) new = (2 ^ 64 ≤ old.next + entries_of all) × (new ≡ old)
  PacksBest heuristics all old (Err NotEnoughBinSpace) new =
      (old.next + entries_of all < 2 ^ 64) × All (IsRefusedWith group_cmp cmp bin_cmp all old.bins) heuristics × (new ≡ old)
  PacksBest heuristics all old (Err OutOfMemory) new = (old.next + entries_of all < 2 ^ 64) × (new ≡ old)
  PacksBest heuristics all old _ new = ⊥

  -- what the promise says of it. A heuristic and numbers: `PlacesWhole`. `NotEnoughBinSpace`: `NoBinTakes` with each
  -- heuristic of the list, which is not empty. Of other errors nothing is said here
  abbrev pub PacksBestAsPromised : List Heuristic → Collection Id G → State Id B → Result (Heuristic × Packed) SessionError → State Id B → Type 0
  PacksBestAsPromised heuristics all old (Ok (best, numbers)) new = PlacesWhole group_cmp (named_rules cmp bin_cmp best) all old new
  PacksBestAsPromised heuristics all old (Err NotEnoughBinSpace) new =
      All (λ h. NoBinTakes group_cmp (named_rules cmp bin_cmp h) all old.bins) heuristics
  PacksBestAsPromised heuristics all old _ new = ⊤
