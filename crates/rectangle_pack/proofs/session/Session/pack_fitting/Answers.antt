use Rattle.rectangle_pack_sections.specs.Closures.{answers}
use Rattle.rectangle_pack_packing.specs.Packing.{rules_by}
use Rattle.rectangle_pack.proofs.lemmas.session.Fitting.{fits_promised}
use Rattle.rectangle_pack.proofs.session.Session.pack_fitting.Goals as goal

pub returns-clause-promise : goal.returns-clause-promise
returns-clause-promise g c =
    fits_promised _ (rules_by g.Id.Ord.cmp g.BinId.Ord.cmp (answers g.H.Fn g.C.Fn c.args.heuristic.now c.args.comparison.now)) c.args.groups.now
    g.met.BinId.Ord.total _ c.fit_by.result _ c.fit_by.ensures.packed
