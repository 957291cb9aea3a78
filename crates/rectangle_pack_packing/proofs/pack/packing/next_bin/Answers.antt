use Rattle.rectangle_pack_sections.proofs.Std.{sym}
use Rattle.rectangle_pack_packing.proofs.lemmas.packing.PassedOver.{ArePassedOver-held}
use Rattle.rectangle_pack_packing.proofs.pack.packing.next_bin.Goals as goal

pub returns-in-Some-clause-passed : goal.returns-in-Some-clause-passed
returns-in-Some-clause-passed g c =
    ArePassedOver-held g.B.Ord.cmp c.args.excluded.now c.args.bins.now.now c.args.sizes.now c.in-Some.first.now _ _ c.if-is_empty.ensures
    (sym c.in-Some.ensures.value) c.pass_over.ensures.none
