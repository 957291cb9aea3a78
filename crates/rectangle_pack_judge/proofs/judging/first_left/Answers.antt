use Rattle.std.proofs.Common.{rules, tests}
use Rattle.std.proofs.lemmas.Iterator.{IsFirst-from_position, YieldsList-from_slice}
use Rattle.rectangle_pack_sections.proofs.Std.{arith, ◌∙◌, ◌≡◌, ◌<◌, length, subst, sym, length-set, true, false}
use Rattle.rectangle_pack_judge.specs.Judging.{StandsAlone}
use Rattle.rectangle_pack_judge.specs.private.Firsts.{AreMarked}
use Rattle.rectangle_pack_judge.proofs.lemmas.Firsts.{AreMarked-more}
use Rattle.rectangle_pack_judge.proofs.lemmas.Verdicts.{left-from}
use Rattle.rectangle_pack_judge.proofs.judging.first_left.Goals as goal

pub loop-claim-preserved : goal.loop-claim-preserved
loop-claim-preserved g c =
    let case = c.args.case.now in
    let claims = c.args.claims.now in
    let here = c.claim-item.result in
    let i = c.loop-claim.claim-index in
    let marks = c.loop-claim.placed.items in
    let within : i < length claims = omega (arith, c.loop-claim-test.true, c.loop-claim.auto.claim-index-end) in
    let alone : StandsAlone case here = subst (StandsAlone case) (sym c.claim-item.is) (c.requires i here within) in
    let inside : here.entry < length marks = omega (arith, alone.entry, c.loop-claim.invariant.long) in
    record {
      long = length-set marks here.entry true ∙ c.loop-claim.invariant.long;
      marked = AreMarked-more case claims i here marks within c.claim-item.is inside c.loop-claim.invariant.marked;
    }

pub returns : goal.returns
returns g c =
    let claims = c.args.claims.now in
    let marks = c.loop-claim.placed.items in
    let all : c.loop-claim.claim-index ≡ length claims = omega (arith, c.loop-claim-test.false, c.loop-claim.auto.claim-index-end) in
    left-from c.args.case.now claims marks c.position.result (subst (λ n. AreMarked (λ c. c.entry) claims n marks) all c.loop-claim.invariant.marked) c.loop-claim.invariant.long
    (rw c.deref.ensures.value at
    (IsFirst-from_position _ _ c.position.result (λ b. b ≡ false) (λ b. b ≡ true) c.position.ensures.ran
    (YieldsList-from_slice c.deref.result.now cc) (λ x q k. search (rules, tests)) (λ x q k. search (rules, tests))))
