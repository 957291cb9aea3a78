use Rattle.rectangle_pack_sections.proofs.Std.{sym, subst}
use Rattle.rectangle_pack_sections.specs.Boxes.{FitsU32}
use Rattle.rectangle_pack_plans.proofs.lemmas.cut_plan.Filling.{HaveCellsAndFit-filled}
use Rattle.rectangle_pack_plans.proofs.cut_plan.strip.find_strip.Goals as goal

pub strip_on-requires-clause-section : goal.strip_on-requires-clause-section
strip_on-requires-clause-section c =
    let next = HaveCellsAndFit-filled c.args.part.now c.args.boxes.now c.requires c.loop-next.next-index c.next-item.result c.loop-next-test.true in
    subst FitsU32 (sym c.next-item.is) next.1
