-- Upkeep of a session: a bin is made whole again, or is taken out. A reply for which `Clears` or `RemovesBin` has no case
-- never comes.
use Rattle.std.specs.Prelude.{◌≡◌, Bool, true, false, not, List, [], filter, Some, None, IsSome}
use Rattle.std.specs.List.{list_any}
use Rattle.std.specs.declared.cmp.Ordering.{Ordering}
use Rattle.std.specs.Map.{lookup, set_value, remove_entry}
use Rattle.std.specs.BTreeMap.{is_at}
use Rattle.rectangle_pack.specs.declared.session.command.Outstanding.{Outstanding}
use Rattle.rectangle_pack.specs.declared.session.command.SessionError.TheVariants.{UnknownBin, BinInUse, OutOfMemory}
use Rattle.rectangle_pack.specs.declared.session.command.Reply.{Reply}
use Rattle.rectangle_pack.specs.declared.session.command.Reply.TheVariants.{Done, Refused}
use Rattle.rectangle_pack_sections.specs.Bins.{Bin, new_bin}
use Rattle.rectangle_pack.specs.Session.{State}

module _ {Id B : Type 0} (bin_cmp : B → B → Ordering) where
  -- some placement stands in the bin of this id
  abbrev pub is_in_use : B → List (Outstanding Id B) → Bool
  is_in_use id outstanding = list_any (λ r. is_at (bin_cmp r.bin) id) outstanding

  -- the placements that stand in other bins than that of this id, in their order
  abbrev pub outstanding_beside : B → List (Outstanding Id B) → List (Outstanding Id B)
  outstanding_beside id outstanding = filter (λ r. not (is_at (bin_cmp r.bin) id)) outstanding

  -- a bin is cleared: it is as a new bin of its size, its placements are no longer outstanding, and all else stays; or
  -- the id is not there; or the reply is want of memory, and the bin has no free section. What is refused changes nothing
  -- Example: `a` 10x10x1 has the free section (4,0,0) 6x10x1, and counts as coalesced. Placement 0 stands in it, 1 in
  -- `b`, and the next number is 2. Then `a` has the one section (0,0,0) 10x10x1, and does not count as coalesced.
  -- Placement 1 alone is outstanding, and the next number is 2
  abbrev pub Clears : B → State Id B → Reply → State Id B → Type 0
  Clears id old Done new =
      (bin : Bin) × (lookup (is_at (bin_cmp id)) old.bins ≡ Some bin)
      × (new ≡ record old {
        bins = set_value (is_at (bin_cmp id)) old.bins (new_bin bin.size);
        outstanding = outstanding_beside id old.outstanding;
      })
  Clears id old (Refused UnknownBin) new = (lookup (is_at (bin_cmp id)) old.bins ≡ None) × (new ≡ old)
  Clears id old (Refused OutOfMemory) new =
      (bin : Bin) × (lookup (is_at (bin_cmp id)) old.bins ≡ Some bin) × (bin.sections ≡ []) × (new ≡ old)
  Clears id old _ new = ⊥

  -- a bin is taken out: it is there, no placement stands in it, its entry is gone, and all else stays; or the id is not
  -- there; or it is, and some placement stands in the bin. What is refused changes nothing
  abbrev pub RemovesBin : B → State Id B → Reply → State Id B → Type 0
  RemovesBin id old Done new =
      IsSome (lookup (is_at (bin_cmp id)) old.bins) × (is_in_use id old.outstanding ≡ false)
      × (new ≡ record old { bins = remove_entry (is_at (bin_cmp id)) old.bins })
  RemovesBin id old (Refused UnknownBin) new = (lookup (is_at (bin_cmp id)) old.bins ≡ None) × (new ≡ old)
  RemovesBin id old (Refused BinInUse) new =
      IsSome (lookup (is_at (bin_cmp id)) old.bins) × (is_in_use id old.outstanding ≡ true) × (new ≡ old)
  RemovesBin id old _ new = ⊥
