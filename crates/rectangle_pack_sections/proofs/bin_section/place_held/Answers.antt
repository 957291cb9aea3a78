use Rattle.rectangle_pack_sections.proofs.Std.{arith, ◌≡◌, ◌<◌, [], length, add-one, refl, sym, ◌∙◌, take-suc}
use Rattle.rectangle_pack_sections.specs.Cuts.{cuts}
use Rattle.rectangle_pack_sections.proofs.lemmas.cuts.BestOfAPass.{pass_start, pass_keeps, pass_moves, not_greater, is_greater}
use Rattle.rectangle_pack_sections.proofs.lemmas.cuts.Pieces.{length-cuts, next_three, best_three}
use Rattle.rectangle_pack_sections.proofs.bin_section.place_held.Goals as goal
use Rattle.rectangle_pack_sections.proofs.bin_section.place_held.Goals.{then-ne, else-ne}

pub loop-next-init : goal.loop-next-init
unfolding cuts
loop-next-init g c = rw c.cuts-cuts.ensures (pass_start _ _)

pub loop-next-preserved : goal.loop-next-preserved
loop-next-preserved g c =
    let in_range : c.loop-next.next < length c.cuts-cuts.result = rw c.cuts-cuts.ensures (omega (arith, length-cuts c.args.section.now c.args.held.now)) in
    let best = best_three c.loop-next.next c.cuts-cuts.ensures c.requires.ends c.requires.holds c.loop-next.invariant in
    let next = next_three c.loop-next.next c.cuts-cuts.ensures c.requires.ends c.requires.holds (omega arith) in
    let said = rw (c.sizes.ensures, c.sizes-in-loop-next.ensures) at c.comparison-order.ensures in
    let r = c.comparison-order.result in
    elim c.if-ne.branch [
      | then-ne w ↦ rw (w.best-is, add-one, take-suc c.cuts-cuts.result c.loop-next.next [] in_range)
          (pass_moves _ _ _ _ r c.loop-next.invariant
          (record { first_three = best; second_three = next; shown = c.args.heuristic; shows = refl; says = said })
          (not_greater r (sym c.ne.ensures ∙ w.if-ne.true)))
      | else-ne w ↦
          let greater = is_greater r (sym c.ne.ensures ∙ w.if-ne.false) in
          rw (w.best-is, add-one, take-suc c.cuts-cuts.result c.loop-next.next [] in_range)
          (pass_keeps _ _ _ _ c.loop-next.invariant
          (record { first_three = best; second_three = next; shown = c.args.heuristic; shows = refl; says = rw greater at said }))
    ]

pub returns-clause-pieces : goal.returns-clause-pieces
unfolding cuts
returns-clause-pieces g c = let six : c.loop-next.next ≡ 6 = omega arith in rw (six, c.cuts-cuts.ensures) at c.loop-next.invariant

pub comparison-order-requires : goal.comparison-order-requires
comparison-order-requires g c =
    let best = best_three c.loop-next.next c.cuts-cuts.ensures c.requires.ends c.requires.holds c.loop-next.invariant in
    let next = next_three c.loop-next.next c.cuts-cuts.ensures c.requires.ends c.requires.holds (omega arith) in
    c.requires.comparable _ _ _ (rw c.sizes.ensures best) (rw c.sizes-in-loop-next.ensures next) refl
