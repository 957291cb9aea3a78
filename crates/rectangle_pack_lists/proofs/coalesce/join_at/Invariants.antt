use Rattle.rectangle_pack_sections.proofs.Std.{◌<◌, All, List, length}
use Rattle.rectangle_pack_sections.specs.Boxes.{Cuboid, FitsU32}
use Rattle.rectangle_pack_lists.specs.Joining.{IsJoined}
use Rattle.rectangle_pack_lists.proofs.coalesce.join_at.Given as goal

-- whatever the rest of the joins leaves is what all of them leave
abbrev pub invariant-loop-j : goal.invariant-loop-j
invariant-loop-j g l = record {
  fit : All FitsU32 l.sections.items;
  inside : l.idx < length l.sections.items;
  rest : (new : List Cuboid) → IsJoined l.idx l.range.start l.end l.sections.items new
      → IsJoined l.fn.idx l.fn.range.start l.fn.range.end l.fn.sections.items new;
}

abbrev pub decreases-loop-j : goal.decreases-loop-j
decreases-loop-j g l = length l.sections.items
