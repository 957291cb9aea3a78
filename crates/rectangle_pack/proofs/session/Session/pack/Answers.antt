use Rattle.rectangle_pack_sections.specs.Closures.{answers}
use Rattle.rectangle_pack_packing.specs.Packing.{rules_by}
use Rattle.rectangle_pack.specs.Session.{packed_reply}
use Rattle.rectangle_pack.proofs.lemmas.session.Promise.{packs-promised}
use Rattle.rectangle_pack.proofs.session.Session.pack.Goals as goal

pub returns-clause-promise : goal.returns-clause-promise
returns-clause-promise g c =
    packs-promised _ (rules_by g.Id.Ord.cmp g.BinId.Ord.cmp (answers g.H.Fn g.C.Fn c.args.heuristic.now c.args.comparison.now)) g.met.BinId.Ord.total
    c.args.groups.now _ (packed_reply c.pack_by.result) _ c.pack_by.ensures.packed
