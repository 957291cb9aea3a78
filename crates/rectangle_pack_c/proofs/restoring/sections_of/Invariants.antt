use Rattle.rectangle_pack_c.proofs.Std.{◌≡◌, map, take}
use Rattle.rectangle_pack_c.specs.Reading.{cuboid_of}
use Rattle.rectangle_pack_c.proofs.restoring.sections_of.Given as goal

abbrev pub invariant-loop-one : goal.invariant-loop-one
invariant-loop-one l = l.sections.items ≡ map cuboid_of (take l.one-index l.saved)
