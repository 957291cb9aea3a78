use Rattle.rectangle_pack_sections.specs.Closures.{answers}
use Rattle.rectangle_pack_packing.specs.Packing.{rules_by}
use Rattle.rectangle_pack.proofs.lemmas.session.CutsStay.{straight-transition, straight-run}
use Rattle.rectangle_pack.proofs.session.laws.cuts_stay_until_coalesced.Goals as goal

pub returns-clause-transition : goal.returns-clause-transition
returns-clause-transition g c = λ command reply old new id t h other. straight-transition _
    (rules_by g.Id.Ord.cmp g.BinId.Ord.cmp (answers g.H.Fn g.C.Fn c.args.heuristic.now c.args.comparison.now)) g.met.BinId.Ord.total
    command old reply new id t h other

pub returns-clause-run : goal.returns-clause-run
returns-clause-run g c = λ commands replies old new id run h other. straight-run _
    (rules_by g.Id.Ord.cmp g.BinId.Ord.cmp (answers g.H.Fn g.C.Fn c.args.heuristic.now c.args.comparison.now)) g.met.BinId.Ord.total
    commands old replies new id run h other
