use Rattle.rectangle_pack_sections.proofs.Std.{◌≡◌, ◌∙◌}
use Rattle.rectangle_pack_sections.proofs.lemmas.util.Results.{OnErr-given}
use Rattle.rectangle_pack_sections.proofs.lemmas.groups.Excluded.{not-both}
use Rattle.rectangle_pack_sections.specs.Bins.{bins_of}
use Rattle.rectangle_pack_packing.proofs.pack.attempt.try_packing.Given.{Over}
use Rattle.rectangle_pack_packing.proofs.pack.attempt.try_packing.Goals.{After-place_all-packed, then-branch, else-branch}
use Rattle.rectangle_pack_packing.proofs.pack.attempt.try_packing.Goals.{then-keeps, else-keeps, then-is_kept, else-is_kept}
use Rattle.rectangle_pack_packing.proofs.pack.attempt.try_packing.Goals.at as goal_at
use Rattle.rectangle_pack_packing.proofs.pack.attempt.try_packing.Goals as goal

-- the packing began with the bins of before
start : (g : Over) (c : After-place_all-packed g) → c.place_all-packed.new.self.bins.start ≡ bins_of c.args.bins.now.entries
start g c = c.place_all-packed.ensures.start ∙ rw c.replace-before.ensures.value at c.new-packing.ensures.start

pub new-packing-requires-clause-found : goal.new-packing-requires-clause-found
new-packing-requires-clause-found g c = rw (c.replace-before.ensures.value, c.as_slice.ensures.value) c.in_ok-order.ensures.found

pub returns-in_err-packed-clause-stopped : goal.returns-in_err-packed-clause-stopped
returns-in_err-packed-clause-stopped g c = elim c.if-is_kept.branch [
  | then-is_kept w ↦ elim c.if-keeps.branch [
    | then-keeps k ↦ not-both _ (k.is_kept-is ∙ rw c.in_err-packed.was at k.eq-is_kept.ensures) w.if-is_kept.true
    | else-keeps k ↦ not-both _ (k.is_kept-is ∙ k.if-keeps.false) w.if-is_kept.true
  ]
  | else-is_kept w ↦
      let same = start g (goal_at.returns-in_err-packed-clause-stopped g c).After-place_all-packed in
      OnErr-given _ (rw w.end-is at c.end-after.ensures.bins ∙ same)
]

pub returns-clause-tried : goal.returns-clause-tried
returns-clause-tried g c = elim c.if-branch.branch [
  | then-branch v ↦
      let done = rw (v.if-branch.true, c.new-packing.ensures.now, c.new-packing.ensures.policy, c.replace-before.ensures.value) at c.in_ok-packed.ensures.packed in
      elim c.if-is_kept.branch [
        | then-is_kept w ↦ rw (v.result-is, c.end-after.ensures.placements) (_, done.0, done.2, λ yes. rw w.end-is at c.end-after.ensures.bins)
        | else-is_kept w ↦ rw (v.result-is, c.end-after.ensures.placements) (
          _,
          done.0,
          done.2,
          λ yes. elim c.if-keeps.branch [
            | then-keeps k ↦ not-both _ w.if-is_kept.false (k.is_kept-is ∙ rw (c.in_ok-packed.was, v.if-branch.true) at k.eq-is_kept.ensures)
            | else-keeps k ↦ not-both _ k.if-keeps.false yes
          ],
        )
      ]
  | else-branch v ↦
      let refused = rw (v.if-branch.false, c.new-packing.ensures.now, c.new-packing.ensures.policy, c.replace-before.ensures.value) at c.in_ok-packed.ensures.packed in
      elim c.if-is_kept.branch [
        | then-is_kept w ↦ elim c.if-keeps.branch [
          | then-keeps k ↦ not-both _ (k.is_kept-is ∙ rw (c.in_ok-packed.was, v.if-branch.false) at k.eq-is_kept.ensures) w.if-is_kept.true
          | else-keeps k ↦ not-both _ (k.is_kept-is ∙ k.if-keeps.false) w.if-is_kept.true
        ]
        | else-is_kept w ↦
            let same = start g (goal_at.returns-clause-tried g c).After-place_all-packed in
            rw v.result-is (_, refused.0, rw w.end-is at c.end-after.ensures.bins ∙ same)
      ]
]

pub returns-in_err-packed-clause-undone : goal.returns-in_err-packed-clause-undone
returns-in_err-packed-clause-undone g c = λ no. elim c.if-is_kept.branch [
  | then-is_kept w ↦ elim c.if-keeps.branch [
    | then-keeps k ↦ not-both _ no k.if-keeps.true
    | else-keeps k ↦ not-both _ (k.is_kept-is ∙ k.if-keeps.false) w.if-is_kept.true
  ]
  | else-is_kept w ↦
      rw w.end-is at c.end-after.ensures.bins ∙ start g (goal_at.returns-in_err-packed-clause-undone g c).After-place_all-packed
]

pub returns-clause-undone : goal.returns-clause-undone
returns-clause-undone g c = λ no. elim c.if-is_kept.branch [
  | then-is_kept w ↦ elim c.if-keeps.branch [
    | then-keeps k ↦ not-both _ no k.if-keeps.true
    | else-keeps k ↦ not-both _ (k.is_kept-is ∙ k.if-keeps.false) w.if-is_kept.true
  ]
  | else-is_kept w ↦ rw w.end-is at c.end-after.ensures.bins ∙ start g (goal_at.returns-clause-undone g c).After-place_all-packed
]
