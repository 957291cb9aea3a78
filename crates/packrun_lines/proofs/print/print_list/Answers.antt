use Rattle.std.proofs.Common.{codes}
use Rattle.packrun_lines.specs.Lines.{cuboid_text}
use Rattle.packrun_lines.proofs.lemmas.Lines.{Prints-list, Prints-list_stopped}
use Rattle.packrun_lines.proofs.lemmas.Printing.{Appends-item}
use Rattle.packrun_lines.proofs.print.print_list.Goals as goal

pub loop-section-preserved : goal.loop-section-preserved
loop-section-preserved g c =
    Appends-item cuboid_text c.args.sections.now c.loop-section.section-index c.section-item.result _ (g.W.Write.contents c.loop-section.out) _
    c.loop-section-test.true c.section-item.is c.loop-section.invariant c.in_ok-print_section.ensures

pub returns-in_err-print_section : goal.returns-in_err-print_section
returns-in_err-print_section g c =
    Prints-list_stopped cuboid_text (codes "sections ") c.args.sections.now c.loop-section.section-index _ (g.W.Write.contents c.loop-section.out) _ c.from_residual.result
    c.section-item.result c.in_err-print_section.field-0.0 c.loop-section-test.true c.section-item.is c.loop-section.invariant c.in_err-print_section.ensures c.from_residual.ensures.1

pub returns : goal.returns
returns g c =
    Prints-list cuboid_text (codes "sections ") c.args.sections.now c.loop-section.section-index _ (g.W.Write.contents c.loop-section.out) _ c.print_count.result
    c.loop-section-test.false c.loop-section.invariant c.print_count.ensures
