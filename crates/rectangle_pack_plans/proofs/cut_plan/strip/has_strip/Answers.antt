use Rattle.rectangle_pack_sections.proofs.Std.{sym, subst}
use Rattle.rectangle_pack_sections.specs.Boxes.{FitsU32}
use Rattle.rectangle_pack_plans.proofs.lemmas.cut_plan.Filling.{HaveCellsAndFit-filled}
use Rattle.rectangle_pack_plans.proofs.cut_plan.strip.has_strip.Goals as goal

pub runs_up_to-requires : goal.runs_up_to-requires
runs_up_to-requires c =
    let next = HaveCellsAndFit-filled c.args.part.now c.args.boxes.now c.requires c.loop-next.next-index c.next-item.result c.loop-next-test.true in
    subst FitsU32 (sym c.next-item.is) next.1
