use Rattle.rectangle_pack_plans.proofs.lemmas.cut_anew.Strips.{IsThickestOf-axis}
use Rattle.rectangle_pack_plans.proofs.cut_anew.strips.thicker_on.Goals as goal

pub returns : goal.returns
returns c = IsThickestOf-axis c.args.bounds.now c.args.room.now c.args.axis _ _ _ c.strip_on.ensures c.strip_on-2.ensures c.thicker.ensures
