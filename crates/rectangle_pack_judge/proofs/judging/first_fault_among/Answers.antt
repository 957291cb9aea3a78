use Rattle.rectangle_pack_sections.proofs.Std.{subst, sym}
use Rattle.rectangle_pack_judge.specs.Judging.{IsVerdict}
use Rattle.rectangle_pack_judge.proofs.lemmas.Verdicts.{verdict-if, verdict-alone}
use Rattle.rectangle_pack_judge.proofs.judging.first_fault_among.Goals as goal

pub returns-then-found-alone : goal.returns-then-found-alone
returns-then-found-alone g c = record {
  verdict = verdict-if c.args.case.now c.args.claims.now c.first_alone-alone.result c.first_alone-alone.ensures c.in_ok-found.found c.in_ok-found.ensures
      c.index-claims-found.result c.together_fault.result c.if-found-alone.true c.index-claims-found.is c.together_fault.ensures;
}

pub returns-in-Some : goal.returns-in-Some
returns-in-Some g c =
    let at = c.in-Some.ensures.lookup in
    let (fault, answer, is) = c.fault_alone.ensures in
    record {
      verdict = subst (IsVerdict c.args.case.now c.args.claims.now) (sym is)
          (verdict-alone c.args.case.now c.args.claims.now c.first_alone-alone.result c.first_alone-alone.ensures c.in_ok-found.found c.in_ok-found.ensures
          c.in-Some.claim.now fault c.if-found-alone.false at.3.0 at.1 answer);
    }
