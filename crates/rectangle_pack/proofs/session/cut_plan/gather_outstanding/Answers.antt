use Rattle.rectangle_pack_sections.proofs.Std.{◌≡◌, arith, append-nil, refl, sym, ap, ◌∙◌, ◌++◌, take, true, false, filter, take-length}
use Rattle.rectangle_pack_sections.specs.Boxes.{has_cells}
use Rattle.rectangle_pack.specs.Session.{outstanding_in}
use Rattle.rectangle_pack.proofs.lemmas.session.Stats.{gathered-more}
use Rattle.rectangle_pack.proofs.session.cut_plan.gather_outstanding.Goals.{then-eq+in_ok-gather, else-eq}
use Rattle.rectangle_pack.proofs.session.cut_plan.gather_outstanding.Goals as goal

pub loop-placement-preserved : goal.loop-placement-preserved
loop-placement-preserved g c =
    let start = c.args.boxes.now.items in
    let boxes = c.loop-placement.boxes.items in
    let test = sym (g.met.B.Ord.matches_eq _ _) ∙ sym c.eq.ensures in
    elim c.if-eq.branch [
      | then-eq+in_ok-gather w ↦ rw (w.boxes-is, w.in_ok-gather.ensures, w.section_at.ensures)
          (gathered-more g.B.Ord.cmp c.args.outstanding.now c.loop-placement.placement-index c.placement-item.result c.args.id.now true
          c.loop-placement-test.true c.placement-item.is (test ∙ w.if-eq.true) start boxes _ c.loop-placement.invariant refl)
      | else-eq w ↦ rw w.boxes-is
          (gathered-more g.B.Ord.cmp c.args.outstanding.now c.loop-placement.placement-index c.placement-item.result c.args.id.now false
          c.loop-placement-test.true c.placement-item.is (test ∙ w.if-eq.false) start boxes boxes c.loop-placement.invariant (sym (append-nil boxes)))
    ]

pub returns : goal.returns
returns g c =
    let outstanding = c.args.outstanding.now in
    let all : take c.loop-placement.placement-index outstanding ≡ outstanding = ap
    (λ n. take n outstanding) (omega (arith, c.loop-placement.auto.placement-index-end, c.loop-placement-test.false)) ∙ take-length outstanding in
    c.loop-placement.invariant ∙ ap (λ rs. c.args.boxes.now.items ++ filter has_cells (outstanding_in g.B.Ord.cmp rs c.args.id.now)) all
