use Rattle.rectangle_pack_sections.proofs.Std.{◌≡◌, ap, sym, ◌∙◌, arith, length, take, true, false, take-length}
use Rattle.rectangle_pack_sections.specs.Counting.{total_volume}
use Rattle.rectangle_pack.specs.Session.{outstanding_in}
use Rattle.rectangle_pack.proofs.lemmas.session.Stats.{outstanding-before, added-more}
use Rattle.rectangle_pack.proofs.session.stats.totals_in.Goals.{then-eq, else-eq}
use Rattle.rectangle_pack.proofs.session.stats.totals_in.Goals as goal

pub overflow_add-volume : goal.overflow_add-volume
overflow_add-volume g c =
    let here = sym (g.met.B.Ord.matches_eq _ _) ∙ sym c.eq.ensures ∙ c.if-eq.true in
    let room = outstanding-before g.B.Ord.cmp c.args.outstanding.now c.loop-placement.placement-index c.placement-item.result c.args.id.now
    c.loop-placement-test.true c.placement-item.is here in
    rw (c.volume-volume.ensures, c.whd.ensures, c.section_at.ensures) (omega (arith, room.0, c.loop-placement.invariant.volume, c.requires))

pub overflow_add-count : goal.overflow_add-count
overflow_add-count g c =
    let here = sym (g.met.B.Ord.matches_eq _ _) ∙ sym c.eq.ensures ∙ c.if-eq.true in
    let room = outstanding-before g.B.Ord.cmp c.args.outstanding.now c.loop-placement.placement-index c.placement-item.result c.args.id.now
    c.loop-placement-test.true c.placement-item.is here in
    omega (arith, room.1, c.loop-placement.invariant.count)

pub loop-placement-preserved : goal.loop-placement-preserved
loop-placement-preserved g c =
    let before = c.loop-placement.invariant in
    let test = sym (g.met.B.Ord.matches_eq _ _) ∙ sym c.eq.ensures in
    elim c.if-eq.branch [
      | then-eq w ↦
          let more = added-more g.B.Ord.cmp c.args.outstanding.now c.loop-placement.placement-index c.placement-item.result c.args.id.now true
          c.loop-placement-test.true c.placement-item.is (test ∙ w.if-eq.true) in
          record {
            volume = rw (w.volume-is, w.volume-volume.ensures, w.whd.ensures, w.section_at.ensures) (omega (arith, more.0, before.volume));
            count = rw w.count-is (omega (arith, more.1, before.count));
          }
      | else-eq w ↦
          let more = added-more g.B.Ord.cmp c.args.outstanding.now c.loop-placement.placement-index c.placement-item.result c.args.id.now false
          c.loop-placement-test.true c.placement-item.is (test ∙ w.if-eq.false) in
          record {
            volume = rw w.volume-is (omega (arith, more.0, before.volume));
            count = rw w.count-is (omega (arith, more.1, before.count));
          }
    ]

pub returns : goal.returns
returns g c =
    let outstanding = c.args.outstanding.now in
    let all : take c.loop-placement.placement-index outstanding ≡ outstanding = ap
    (λ n. take n outstanding) (omega (arith, c.loop-placement.auto.placement-index-end, c.loop-placement-test.false)) ∙ take-length outstanding in
    record {
      volume = c.loop-placement.invariant.volume ∙ ap (λ rs. total_volume (outstanding_in g.B.Ord.cmp rs c.args.id.now)) all;
      count = c.loop-placement.invariant.count ∙ ap (λ rs. length (outstanding_in g.B.Ord.cmp rs c.args.id.now)) all;
    }
