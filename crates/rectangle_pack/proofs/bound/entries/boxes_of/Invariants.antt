use Rattle.rectangle_pack_sections.proofs.Std.{◌≡◌, map, deref_pair}
use Rattle.rectangle_pack_sections.specs.Groups.{lists_of}
use Rattle.rectangle_pack.specs.Needed.{box_of, entries}
use Rattle.rectangle_pack.proofs.bound.entries.boxes_of.Given as goal

abbrev pub invariant-loop-ids : goal.invariant-loop-ids
invariant-loop-ids g l =
    l.boxes.items ≡ map (λ entry. box_of g.Id.Ord.cmp l.rects.entries l.turns.entries entry.1) (entries (lists_of (map deref_pair l.yielded)))
