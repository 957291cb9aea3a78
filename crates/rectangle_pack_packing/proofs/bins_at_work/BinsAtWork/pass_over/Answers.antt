use Rattle.rectangle_pack_sections.proofs.Std.{◌-◌, arith, refl}
use Rattle.rectangle_pack_packing.proofs.lemmas.bins.BinsAtWork.{BinsHoldNone-ruled}
use Rattle.rectangle_pack_packing.proofs.bins_at_work.BinsAtWork.pass_over.Goals as goal

pub returns-clause-none : goal.returns-clause-none
returns-clause-none g c =
    rw (← c.self.view_is)
    (BinsHoldNone-ruled g.B.Ord.cmp c.self.inside.order.now _ c.self.inside.summaries c.args.first.now (c.next.result.index - c.args.from) c.args.from
    c.next.result.tests _ c.self.invariant.1 (λ some. omega (arith, c.next.ensures.from, c.next.ensures.end (omega (arith, some)))) refl
    (rw c.from.ensures at c.next.ensures.passed))
