use Rattle.rectangle_pack_sections.proofs.Std.{refl}
use Rattle.rectangle_pack.proofs.lemmas.session.FittingBest.{named-refused}
use Rattle.rectangle_pack.proofs.session.Session.fit_named.Goals as goal

pub returns-in_err-fitted-clause-packed : goal.returns-in_err-fitted-clause-packed
returns-in_err-fitted-clause-packed g c =
    named-refused _ g.Id.Ord.cmp g.BinId.Ord.cmp c.args.groups.now c.args.heuristic c.args.self.now _ c.from_residual.result c.in_err-fitted.field-0.0
    c.from_residual.ensures.1 c.in_err-fitted.ensures.packed

pub returns-clause-packed : goal.returns-clause-packed
returns-clause-packed g c = (refl, c.in_ok-fitted.ensures.packed)
