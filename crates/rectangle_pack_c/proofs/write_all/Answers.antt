use Rattle.rectangle_pack_c.proofs.Std.{ℕ, arith, ap, sym, ◌∙◌, ◌<◌, length}
use Rattle.rectangle_pack.specs.declared.session.command.Outstanding.{Outstanding}
use Rattle.rectangle_pack_c.proofs.LoopLemmas.{written_more, set_elsewhere}
use Rattle.rectangle_pack_c.proofs.write_all.Goals as goal

pub loop-placement-preserved : goal.loop-placement-preserved
loop-placement-preserved g c =
    let r = c.placement-item.result in
    let i = c.loop-placement.placement-index in
    let within = c.loop-placement-test.true in
    let fits : r.id < length c.loop-placement.placements = omega
    (arith, c.loop-placement.auto.placements, c.requires.within i r within, ap (λ x. x.id) c.placement-item.is) in
    rw c.of.ensures (record {
      written = written_more g.T.Written.written c.args.outstanding.now c.loop-placement.placements i r within c.placement-item.is fits
          c.requires.once c.loop-placement.invariant.written;
      others = λ k out.
          set_elsewhere c.loop-placement.placements r.id k (g.T.Written.written r)
          (λ e. out i r within (ap (λ (o : Outstanding ℕ ℕ). o.id) (sym c.placement-item.is) ∙ e))
          ∙ c.loop-placement.invariant.others k out;
    })

pub returns-clause-written : goal.returns-clause-written
returns-clause-written g c = λ k d within. c.loop-placement.invariant.written k (omega (arith, within, c.loop-placement-test.false)) d

pub returns-clause-others : goal.returns-clause-others
returns-clause-others g c = c.loop-placement.invariant.others
