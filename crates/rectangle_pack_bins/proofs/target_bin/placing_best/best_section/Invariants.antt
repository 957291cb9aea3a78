use Rattle.rectangle_pack_sections.proofs.Std.{◌<◌, IfSome}
use Rattle.rectangle_pack_bins.specs.private.Indices.{IsBestFrom}
use Rattle.rectangle_pack_bins.proofs.target_bin.placing_best.best_section.Given as goal

abbrev pub invariant-loop-i : goal.invariant-loop-i
invariant-loop-i g l = IsBestFrom l.bounds l.sections l.size l.i l.best × IfSome l.best (λ found. 0 < found.1)
