use Rattle.rectangle_pack_sections.proofs.Std.{◌≡◌, ◌++◌, List}
use Rattle.rectangle_pack_sections.specs.Boxes.{Cuboid, IsPartOf}
use Rattle.rectangle_pack_plans.specs.CuttingAnew.{AreStripsRound, cut_from}
use Rattle.rectangle_pack_plans.proofs.lemmas.cut_anew.Strips.{girth}
use Rattle.rectangle_pack_plans.proofs.cut_anew.strips.cut_strips.Given as goal

-- the strips so far, with those of the rest, are those of the room; the bounds are in the rest
abbrev pub invariant-loop-rest : goal.invariant-loop-rest
invariant-loop-rest g l = record {
  strips : List Cuboid;
  free : l.free.items ≡ l.fn.free.items ++ cut_from l.room strips;
  within : IsPartOf l.rest l.room;
  holds : IsPartOf l.bounds l.rest;
  round : (more : List Cuboid) → AreStripsRound l.bounds l.rest more → AreStripsRound l.bounds l.room (strips ++ more);
}

abbrev pub decreases-loop-rest : goal.decreases-loop-rest
decreases-loop-rest g l = girth l.rest
