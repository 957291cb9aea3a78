use Rattle.rectangle_pack_sections.proofs.Std.{arith, ◌∙◌, ◌<◌, length, subst, sym, length-set, true, false, get_or_default}
use Rattle.rectangle_pack_judge.specs.Judging.{StandsAlone}
use Rattle.rectangle_pack_judge.proofs.lemmas.Firsts.{AreMarked-more, twice-more}
use Rattle.rectangle_pack_judge.proofs.conflicts.first_twice.Goals as goal

pub loop-i-preserved : goal.loop-i-preserved
loop-i-preserved g c =
    let claims = c.args.claims.now in
    let here = c.index-claims-i.result in
    let marks = c.loop-i.placed.items in
    let alone : StandsAlone c.args.case.now here = subst (StandsAlone c.args.case.now) (sym c.index-claims-i.is) (c.requires c.loop-i.i here c.loop-i-test.true) in
    let inside : here.entry < length marks = omega (arith, alone.entry, c.loop-i.invariant.long) in
    record {
      long = length-set marks here.entry true ∙ c.loop-i.invariant.long;
      marked = AreMarked-more c.args.case.now claims c.loop-i.i here marks c.loop-i-test.true c.index-claims-i.is inside c.loop-i.invariant.marked;
      free = twice-more c.args.case.now claims c.loop-i.i here marks c.loop-i-test.true c.index-claims-i.is inside c.loop-i.invariant.marked (get_or_default marks here.entry false c.index.result.now inside ∙ sym c.index.ensures ∙ c.if-index.false) c.loop-i.invariant.free;
    }
