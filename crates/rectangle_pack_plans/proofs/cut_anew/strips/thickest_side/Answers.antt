use Rattle.rectangle_pack_plans.proofs.lemmas.cut_anew.Strips.{thickest_on_axes}
use Rattle.rectangle_pack_plans.proofs.cut_anew.strips.thickest_side.Goals as goal

pub returns : goal.returns
returns c = thickest_on_axes c.args.bounds.now c.args.room.now _ _ _ _ _ c.requires.inside c.requires.beyond
    c.thicker_on-x.ensures c.thicker_on-y.ensures c.thicker_on-z.ensures c.thicker.ensures c.thicker-2.ensures
