use Rattle.rectangle_pack_sections.proofs.Std.{refl, ◌∙◌, take, take_all, take_more, slice_index_or, All-nil, IfOk-from_err}
use borrow.Author.Count.{falls}
use Rattle.rectangle_pack_sections.specs.declared.box_size_heuristics.named.Heuristic.TheVariants.{Volume}
use Rattle.rectangle_pack_sections.proofs.lemmas.groups.GroupOrder.{groups_total}
use Rattle.rectangle_pack_sections.specs.Bins.{bins_of}
use Rattle.rectangle_pack_packing.proofs.lemmas.best.Steps.{best-after_failed, best-after_done}
use Rattle.rectangle_pack.proofs.lemmas.searching.Guesses.{guesses-compared}
use Rattle.rectangle_pack.proofs.searching.guess.best_guess.Goals.{in-Some, in_default}
use Rattle.rectangle_pack.proofs.searching.guess.best_guess.Goals as goal

pub loop-heuristic-preserved : goal.loop-heuristic-preserved
loop-heuristic-preserved g c =
    let inv = c.loop-heuristic.invariant in
    let i = c.loop-heuristic.heuristic-index in
    let hs = c.args.heuristics.now in
    let next = slice_index_or hs i Volume in
    let found = c.loop-heuristic.best in
    let same = c.guess_with.ensures.same ∙ inv.0 in
    let groups = groups_total _ g.Id.Ord.cmp g.GroupId.Ord.cmp g.met.Id.Ord.total g.met.GroupId.Ord.total (λ a b. refl) (λ a b. refl) (λ a b. refl) (λ a b. refl) in
    let compared = guesses-compared groups g.met.Id.Ord.total g.met.BinId.Ord.total c.args.groups.now c.args.options.now.may_leave
    c.args.options.now.costs.now.entries (bins_of c.args.bins.now.entries) in
    elim c.match-made.branch [
      | in-Some w ↦ (
        same,
        rw (w.best-is, take_more hs i Volume c.loop-heuristic-test.true)
            (best-after_done compared (take i hs) (next, w.in-Some.made) found w.better_guess.result inv.1
            (rw (w.in-Some.is, inv.0) at c.in_ok-made.ensures.guessed) w.better_guess.ensures),
      )
      | in_default w ↦ (
        same,
        rw (w.best-is, take_more hs i Volume c.loop-heuristic-test.true)
            (best-after_failed compared (take i hs) next found inv.1 (rw (w.in_default.is, inv.0) at c.in_ok-made.ensures.guessed)),
      )
    ]

pub returns-clause-best : goal.returns-clause-best
returns-clause-best g c = rw (take_all c.loop-heuristic.heuristic-index c.args.heuristics.now c.loop-heuristic-test.false) at c.loop-heuristic.invariant.1

pub loop-heuristic-init : goal.loop-heuristic-init
loop-heuristic-init g c = (refl, All-nil _)

pub returns-in_err-made-clause-best : goal.returns-in_err-made-clause-best
returns-in_err-made-clause-best g c = IfOk-from_err _ _ c.from_residual.ensures.0

pub returns-in_err-made-clause-same : goal.returns-in_err-made-clause-same
returns-in_err-made-clause-same g c = c.guess_with.ensures.same ∙ c.loop-heuristic.invariant.0

pub loop-heuristic-smaller : goal.loop-heuristic-smaller
loop-heuristic-smaller g c = falls _ c.loop-heuristic.heuristic-index c.loop-heuristic-test.true
