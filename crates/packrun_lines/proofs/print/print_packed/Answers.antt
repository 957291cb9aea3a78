use Rattle.std.proofs.Common.{codes}
use Rattle.packrun_lines.specs.Lines.{placement_text}
use Rattle.packrun_lines.proofs.lemmas.Lines.{Prints-list, Prints-list_stopped}
use Rattle.packrun_lines.proofs.lemmas.Printing.{Appends-item}
use Rattle.packrun_lines.proofs.print.print_packed.Goals as goal

pub loop-placement-preserved : goal.loop-placement-preserved
loop-placement-preserved g c =
    Appends-item placement_text c.args.placements.now c.loop-placement.placement-index c.placement-item.result _ (g.W.Write.contents c.loop-placement.out) _
    c.loop-placement-test.true c.placement-item.is c.loop-placement.invariant c.in_ok-print_placement.ensures

pub returns-in_err-print_placement : goal.returns-in_err-print_placement
returns-in_err-print_placement g c =
    Prints-list_stopped placement_text (codes "packed ") c.args.placements.now c.loop-placement.placement-index _ (g.W.Write.contents c.loop-placement.out) _ c.from_residual.result
    c.placement-item.result c.in_err-print_placement.field-0.0 c.loop-placement-test.true c.placement-item.is c.loop-placement.invariant c.in_err-print_placement.ensures c.from_residual.ensures.1

pub returns : goal.returns
returns g c =
    Prints-list placement_text (codes "packed ") c.args.placements.now c.loop-placement.placement-index _ (g.W.Write.contents c.loop-placement.out) _ c.print_count.result
    c.loop-placement-test.false c.loop-placement.invariant c.print_count.ensures
