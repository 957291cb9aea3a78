use Rattle.rectangle_pack_plans.proofs.lemmas.cut_anew.Bounds.{IsHull-spans}
use Rattle.rectangle_pack_plans.proofs.cut_anew.bounds.hull_of.Goals as goal

pub returns : goal.returns
returns c = IsHull-spans c.args.first.now c.args.second.now c.new.result c.hull_on-x.result c.hull_on-y.result c.hull_on-z.result c.any_size-whd.result
    c.hull_on-x.ensures c.hull_on-y.ensures c.hull_on-z.ensures c.any_size-whd.ensures c.new.ensures
