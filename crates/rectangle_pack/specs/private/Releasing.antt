-- Placements that are given back one after another, and the list without them.
use Rattle.std.specs.Prelude.{◌≡◌, ℕ, not, List, [], ◌∷◌, filter, eqb}
use Rattle.std.specs.List.{list_any}
use Rattle.std.specs.declared.cmp.Ordering.{Ordering}
use Rattle.rectangle_pack.specs.declared.session.command.Outstanding.{Outstanding}
use Rattle.rectangle_pack_sections.specs.Bins.{Bin}
use Rattle.rectangle_pack.specs.Session.{IsOutstanding, GivesBack}

-- the placements whose numbers are none of these, in their order
abbrev pub outstanding_but : {Id B : Type 0} → List ℕ → List (Outstanding Id B) → List (Outstanding Id B)
outstanding_but numbers outstanding = filter (λ r. not (list_any (eqb r.number) numbers)) outstanding

module _ {Id B : Type 0} (bin_cmp : B → B → Ordering) (outstanding : List (Outstanding Id B)) where
  -- the boxes of placements are given back one after another, in the order of their numbers
  abbrev pub GivesBackInTurn : List ℕ → List (B × Bin) → List (B × Bin) → Type 0
  GivesBackInTurn [] old new = new ≡ old
  GivesBackInTurn (number ∷ numbers) old new =
      (at : IsOutstanding outstanding number) × (between : List (B × Bin))
      × GivesBack bin_cmp old at.found.bin at.found.location between × GivesBackInTurn numbers between new
