use Rattle.rectangle_pack_sections.proofs.Std.{on_ok_weaker}
use Rattle.rectangle_pack_sections.specs.Bins.{bins_of}
use Rattle.rectangle_pack.specs.Session.{GivesBack, IsOutstanding}
use Rattle.rectangle_pack.proofs.lemmas.session.Keeps.{outstanding_at}
use Rattle.rectangle_pack.proofs.lemmas.session.Releasing.{not-there}
use Rattle.rectangle_pack.proofs.session.releasing.give_back_one.Goals as goal

pub give_back-requires : goal.give_back-requires
give_back-requires g c = record {
  accepted = c.requires.accepted
      (outstanding_at c.args.outstanding.now c.args.number c.in-Some.index c.index-outstanding-index.result c.in-Some.ensures.some c.index-outstanding-index.is);
}

pub unreachable-requires : goal.unreachable-requires
unreachable-requires g c = not-there c.args.outstanding.now c.args.number c.requires.there c.in-None.ensures.none

pub returns-clause-ok : goal.returns-clause-ok
returns-clause-ok g c =
    on_ok_weaker {Q = (at : IsOutstanding c.args.outstanding.now c.args.number)
    × GivesBack g.B.Ord.cmp (bins_of c.args.bins.now.entries) at.found.bin at.found.location (bins_of c.give_back.new.bins.entries)} _
    (λ gives. (
      outstanding_at c.args.outstanding.now c.args.number c.in-Some.index c.index-outstanding-index.result c.in-Some.ensures.some c.index-outstanding-index.is,
      gives,
    )) c.give_back.ensures.ok
