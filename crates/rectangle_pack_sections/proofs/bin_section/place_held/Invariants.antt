use Rattle.rectangle_pack_sections.proofs.Std.{take}
use Rattle.rectangle_pack_sections.specs.Cuts.{sizes_of}
use Rattle.rectangle_pack_sections.specs.Choice.{MayChoose}
use Rattle.rectangle_pack_sections.specs.Closures.{MayCompare}
use Rattle.rectangle_pack_sections.proofs.bin_section.place_held.Given as goal

abbrev pub invariant-loop-next : goal.invariant-loop-next
invariant-loop-next g l =
    MayChoose (λ a b. MayCompare g.C.Fn l.comparison l.heuristic (sizes_of a) (sizes_of b)) (take l.next l.cuts) l.best
