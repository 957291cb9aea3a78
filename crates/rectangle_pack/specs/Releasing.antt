-- Placements of a session that are released by one call.
use Rattle.std.specs.Prelude.{◌≡◌, ℕ, ◌<◌, List, [], ◌∷◌, length, All, eqb}
use Rattle.std.specs.List.{IsDistinct}
use Rattle.std.specs.declared.cmp.Ordering.{Ordering}
use Rattle.rectangle_pack.specs.declared.session.command.Outstanding.{Outstanding}
use Rattle.rectangle_pack.specs.declared.session.command.SessionError.TheVariants.{UnknownPlacement, OutOfMemory}
use Rattle.rectangle_pack.specs.declared.session.command.Reply.{Reply}
use Rattle.rectangle_pack.specs.declared.session.command.Reply.TheVariants.{Done, Refused}
use Rattle.rectangle_pack.specs.Session.{State, IsOutstanding, Releases}

-- a placement of each number is outstanding, and no number stands twice in the list
abbrev pub AreReleasable : {Id B : Type 0} → List (Outstanding Id B) → List ℕ → Type 0
AreReleasable outstanding numbers = All (IsOutstanding outstanding) numbers × IsDistinct eqb numbers

module _ {Id B : Type 0} (bin_cmp : B → B → Ordering) where
  -- placements are released one after another, in the order of the list: each release is done, in the state that the one
  -- before it leaves
  abbrev pub ReleasesInTurn : List ℕ → State Id B → State Id B → Type 0
  ReleasesInTurn [] old new = new ≡ old
  ReleasesInTurn (number ∷ numbers) old new =
      (between : State Id B) × Releases bin_cmp number old Done between × ReleasesInTurn numbers between new

  -- placements are released all at once: the session is then as after a release of each, in the order of the list; or some
  -- number is not outstanding, or stands twice; or the reply is want of memory, and there is a number, and each is
  -- outstanding. What is refused changes nothing
  -- Example: 0 and 2 stand in `a`, 1 in `b`. Once 2, 1 and 0 are released, the newest sections of `a` are the box of 2 and,
  -- behind it, that of 0; that of 1 is the newest of `b`. The list 2, 1, 2 is `UnknownPlacement`
  abbrev pub ReleasesAll : List ℕ → State Id B → Reply → State Id B → Type 0
  ReleasesAll numbers old Done new = ReleasesInTurn numbers old new
  ReleasesAll numbers old (Refused UnknownPlacement) new = (¬ AreReleasable old.outstanding numbers) × (new ≡ old)
  ReleasesAll numbers old (Refused OutOfMemory) new =
      (0 < length numbers) × All (IsOutstanding old.outstanding) numbers × (new ≡ old)
  ReleasesAll numbers old _ new = ⊥
