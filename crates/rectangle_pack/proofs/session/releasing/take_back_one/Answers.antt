use Rattle.rectangle_pack_sections.specs.Bins.{bins_of}
use Rattle.rectangle_pack.proofs.lemmas.session.Releasing.{GivesBack-found, not-there}
use Rattle.rectangle_pack.proofs.session.releasing.take_back_one.Goals as goal

pub take_back-requires : goal.take_back-requires
take_back-requires g c =
    let given = c.requires.given in
    record {
      given = (
        given.0,
        GivesBack-found g.B.Ord.cmp c.args.outstanding.now c.args.number c.requires.rising given.1 c.in-Some.index c.index-outstanding-index.result
            c.in-Some.ensures.some c.index-outstanding-index.is given.0 (bins_of c.args.bins.now.entries) given.2,
      );
    }

pub unreachable-requires : goal.unreachable-requires
unreachable-requires g c = not-there c.args.outstanding.now c.args.number c.requires.given.1 c.in-None.ensures.none

pub returns : goal.returns
returns g c = λ before at gives.
    c.take_back.ensures before (GivesBack-found g.B.Ord.cmp c.args.outstanding.now c.args.number c.requires.rising at c.in-Some.index
    c.index-outstanding-index.result c.in-Some.ensures.some c.index-outstanding-index.is before (bins_of c.args.bins.now.entries) gives)
