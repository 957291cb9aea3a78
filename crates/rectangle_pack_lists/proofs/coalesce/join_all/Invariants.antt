use Rattle.rectangle_pack_sections.proofs.Std.{All, List}
use Rattle.rectangle_pack_sections.specs.Boxes.{Cuboid, FitsU32}
use Rattle.rectangle_pack_lists.specs.Joining.{IsSwept, IsSweptBelow}
use Rattle.rectangle_pack_lists.proofs.coalesce.join_all.Given as goal

-- whatever the rest of the sweep leaves is what the whole sweep leaves
abbrev pub invariant-loop-idx : goal.invariant-loop-idx
invariant-loop-idx g l = record {
  fit : All FitsU32 l.sections.items;
  rest : (new : List Cuboid) → IsSweptBelow l.idx l.sections.items new → IsSwept l.fn.sections.items new;
}
