-- What a session shows of the placements in one bin.
use Rattle.std.specs.Prelude.{◌≡◌, List, filter, map, None, IsSome, Result, Ok, Err}
use Rattle.std.specs.declared.cmp.Ordering.{Ordering}
use Rattle.std.specs.declared.vec.Vec.{Vec}
use Rattle.std.specs.Borrow.{Bor}
use Rattle.std.specs.Map.{lookup}
use Rattle.std.specs.BTreeMap.{is_at}
use Rattle.rectangle_pack.specs.declared.session.command.Outstanding.{Outstanding}
use Rattle.rectangle_pack.specs.declared.session.command.SessionError.{SessionError}
use Rattle.rectangle_pack.specs.declared.session.command.SessionError.TheVariants.{UnknownBin, OutOfMemory}
use Rattle.rectangle_pack.specs.Session.{State}

module _ {Id B : Type 0} (bin_cmp : B → B → Ordering) where
  -- the placements that stand in the bin of this id, in their order
  abbrev pub placements_in : List (Outstanding Id B) → B → List (Outstanding Id B)
  placements_in outstanding id = filter (λ r. is_at (bin_cmp r.bin) id) outstanding

  -- what is answered where the outstanding placements of a bin are asked for. A list: the bin is there, and the list
  -- refers to the placements that stand in it, in the order of their numbers (`placements_in`). `UnknownBin`: the bin is
  -- not there. `OutOfMemory`: the bin is there. There is no other answer
  -- Example: 0 and 2 stand in P, and 1 in Q: of P the list is 0, 2
  abbrev pub ArePlacementsIn : {A : Type 0} → State Id B → B → Result (Vec (Bor (Outstanding Id B)) A) SessionError → Type 0
  ArePlacementsIn state id (Ok found) =
      IsSome (lookup (is_at (bin_cmp id)) state.bins) × (map (λ r. r.now) found.items ≡ placements_in state.outstanding id)
  ArePlacementsIn state id (Err UnknownBin) = lookup (is_at (bin_cmp id)) state.bins ≡ None
  ArePlacementsIn state id (Err OutOfMemory) = IsSome (lookup (is_at (bin_cmp id)) state.bins)
  ArePlacementsIn state id (Err _) = ⊥
