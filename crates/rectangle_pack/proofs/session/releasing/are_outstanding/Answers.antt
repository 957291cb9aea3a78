use Rattle.rectangle_pack_sections.proofs.Std.{All, All-more, refl, take_all, arith, subst}
use Rattle.rectangle_pack.specs.Session.{IsOutstanding}
use Rattle.rectangle_pack.proofs.lemmas.session.Releasing.{known-number, unknown-number}
use Rattle.rectangle_pack.proofs.session.releasing.are_outstanding.Goals as goal

pub returns-then-is_none : goal.returns-then-is_none
returns-then-is_none g c = (
  λ yes. absurd cc,
  λ all. absurd (unknown-number c.args.outstanding.now c.args.numbers.now c.loop-number.number-index c.position_of.result c.loop-number-test.true
      c.position_of.ensures.none c.if-is_none.ensures all),
)

pub loop-number-preserved : goal.loop-number-preserved
loop-number-preserved g c = record {
  there = All-more (IsOutstanding c.args.outstanding.now) c.args.numbers.now c.loop-number.number-index 0 c.loop-number-test.true c.loop-number.invariant.there
      (known-number c.args.outstanding.now _ c.position_of.result c.position_of.ensures.some c.if-is_none.ensures);
}

pub returns : goal.returns
returns g c =
    let all : All (IsOutstanding c.args.outstanding.now) c.args.numbers.now =
    subst (λ ns. All (IsOutstanding c.args.outstanding.now) ns)
    (take_all c.loop-number.number-index c.args.numbers.now (omega (arith, c.loop-number-test.false))) c.loop-number.invariant.there in
    (λ yes. all, λ h. refl)
