use Rattle.rectangle_pack_sections.proofs.Std.{List, ◌-◌, subst, sym, take}
use Rattle.rectangle_pack_sections.specs.Bins.{Bin, bins_of}
use Rattle.rectangle_pack.specs.private.Releasing.{GivesBackInTurn}
use Rattle.rectangle_pack.proofs.lemmas.session.Releasing.{last-of}
use Rattle.rectangle_pack.proofs.session.releasing.take_back_all.Goals as goal

pub take_back_one-requires-clause-given : goal.take_back_one-requires-clause-given
take_back_one-requires-clause-given g c =
    let given = c.requires.given in
    let last = last-of g.B.Ord.cmp c.args.outstanding.now c.args.numbers.now c.loop-i.i given.0 (bins_of c.loop-i.bins.entries) c.loop-i-test.true
    c.loop-i.auto.i (c.loop-i.invariant.left given.0 given.1) in
    (last.before, last.at, last.last)

pub loop-i-preserved : goal.loop-i-preserved
loop-i-preserved g c = record {
  left = λ before gives.
      let last = last-of g.B.Ord.cmp c.args.outstanding.now c.args.numbers.now c.loop-i.i before (bins_of c.loop-i.bins.entries) c.loop-i-test.true
      c.loop-i.auto.i (c.loop-i.invariant.left before gives) in
      subst (λ (bs : List (g.row.B.Denot × Bin)).
      GivesBackInTurn g.B.Ord.cmp c.args.outstanding.now (take (c.loop-i.i - 1) c.args.numbers.now) before bs)
      (sym (c.take_back_one.ensures last.before last.at last.last)) last.rest;
}
