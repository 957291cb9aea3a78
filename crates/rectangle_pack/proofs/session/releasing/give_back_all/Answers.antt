use Rattle.rectangle_pack_sections.proofs.Std.{refl, get_or, get_or_default}
use Rattle.rectangle_pack_sections.specs.Bins.{bins_of}
use Rattle.rectangle_pack.proofs.lemmas.session.Releasing.{GivesBackInTurn-more, accepted-between}
use Rattle.rectangle_pack.proofs.session.releasing.give_back_all.Goals as goal

pub give_back_one-requires-clause-accepted : goal.give_back_one-requires-clause-accepted
give_back_one-requires-clause-accepted g c = λ at.
    let numbers = c.args.numbers.now in
    let i = c.loop-given.given in
    let f = accepted-between g.met.B.Ord.total c.args.outstanding.now c.requires.session.0 numbers i (get_or numbers i 0) (bins_of c.args.bins.now.entries)
    c.loop-given.bins.entries c.requires.session.1 c.requires.releasable.1 c.loop-given-test.true
    (get_or_default numbers i 0 (get_or numbers i 0) c.loop-given-test.true) c.loop-given.invariant.given at in
    rw f.1 (refl, f.2)

pub loop-given-preserved : goal.loop-given-preserved
loop-given-preserved g c =
    let numbers = c.args.numbers.now in
    let i = c.loop-given.given in
    record {
      given = GivesBackInTurn-more g.B.Ord.cmp c.args.outstanding.now numbers i (get_or numbers i 0) (bins_of c.args.bins.now.entries)
          (bins_of c.loop-given.bins.entries) (bins_of c.give_back_one.new.bins.entries) c.loop-given-test.true
          (get_or_default numbers i 0 (get_or numbers i 0) c.loop-given-test.true) c.loop-given.invariant.given c.in_default.ensures.ok.0
          c.in_default.ensures.ok.1;
    }
