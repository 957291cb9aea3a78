-- What one push makes of the collection of boxes.
use Rattle.std.specs.Prelude.{ℕ, [], ◌∷◌, ◌==◌, MatchBool}
use Rattle.std.specs.Ordering.{nat_cmp}
use Rattle.rectangle_pack.specs.Groups.{Collection, PushesAlone, PushesInto}
use Rattle.rectangle_pack_c.specs.declared.RpBox.{RpBox}
use Rattle.rectangle_pack_c.specs.Arguments.{box_size}
use Rattle.rectangle_pack_c.specs.Collections.{group_order}

-- a box is pushed under this id: alone where its group is 0, else into its group
abbrev pub Pushes : ℕ → RpBox → Collection ℕ ℕ → Collection ℕ ℕ → Type 0
Pushes id b old new =
    MatchBool (b.group == 0) (PushesAlone nat_cmp group_order old new id (box_size b))
    (PushesInto nat_cmp group_order old new id (b.group ∷ []) (box_size b))
