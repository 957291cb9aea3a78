use Rattle.rectangle_pack_sections.proofs.Std.{◌≡◌, List, [], ◌∷◌, map, take, keys_of}
use Rattle.rectangle_pack.specs.Needed.{AreTakenApart}
use Rattle.rectangle_pack.proofs.bound.apart.take_joining.Given as goal

abbrev pub invariant-loop-name : goal.invariant-loop-name
invariant-loop-name g l = (others : List g.row.K.Denot)
    × AreTakenApart g.K.Ord.cmp l.exclusions (keys_of l.groups.entries) (l.first ∷ []) (take l.name-index l.name-items) others
    × (map (λ name. name.now) l.taken.items ≡ l.first ∷ others)
