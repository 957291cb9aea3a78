use Rattle.rectangle_pack_sections.proofs.Std.{◌≡◌, ◌∙◌}
use Rattle.rectangle_pack_sections.proofs.lemmas.util.Results.{OnErr-given}
use Rattle.rectangle_pack_sections.proofs.lemmas.groups.Excluded.{not-both}
use Rattle.rectangle_pack_sections.specs.Bins.{bins_of}
use Rattle.rectangle_pack_packing.proofs.pack.fitting.try_fitting.Given.{Over}
use Rattle.rectangle_pack_packing.proofs.pack.fitting.try_fitting.Goals.{After-place_all-tried}
use Rattle.rectangle_pack_packing.proofs.pack.fitting.try_fitting.Goals.{then-keeps, else-keeps, then-is_kept, else-is_kept}
use Rattle.rectangle_pack_packing.proofs.pack.fitting.try_fitting.Goals.at as goal_at
use Rattle.rectangle_pack_packing.proofs.pack.fitting.try_fitting.Goals as goal

-- the packing began with the bins of before
start : (g : Over) (c : After-place_all-tried g) → c.place_all-tried.new.self.bins.start ≡ bins_of c.args.bins.now.entries
start g c = c.place_all-tried.ensures.start ∙ rw c.replace-before.ensures.value at c.new-packing.ensures.start

pub new-packing-requires-clause-found : goal.new-packing-requires-clause-found
new-packing-requires-clause-found g c = rw (c.replace-before.ensures.value, c.as_slice.ensures.value) c.in_ok-order.ensures.found

pub returns-in_err-tried-clause-stopped : goal.returns-in_err-tried-clause-stopped
returns-in_err-tried-clause-stopped g c = elim c.if-is_kept.branch [
  | then-is_kept w ↦ elim c.if-keeps.branch [
    | then-keeps k ↦ not-both _ (k.is_kept-is ∙ rw c.in_err-tried.was at k.is_ok-is_kept.ensures.value) w.if-is_kept.true
    | else-keeps k ↦ not-both _ (k.is_kept-is ∙ k.if-keeps.false) w.if-is_kept.true
  ]
  | else-is_kept w ↦
      let same = start g (goal_at.returns-in_err-tried-clause-stopped g c).After-place_all-tried in
      OnErr-given _ (rw w.end-is at c.end-after.ensures.bins ∙ same)
]

pub returns-clause-fits : goal.returns-clause-fits
returns-clause-fits g c =
    let fits = rw (c.new-packing.ensures.now, c.new-packing.ensures.policy, c.replace-before.ensures.value) at c.in_ok-tried.ensures.packed in
    elim c.if-is_kept.branch [
      | then-is_kept w ↦ rw c.end-after.ensures.placements (_, fits.1, fits.2, λ yes. rw w.end-is at c.end-after.ensures.bins)
      | else-is_kept w ↦ rw c.end-after.ensures.placements (
        _,
        fits.1,
        fits.2,
        λ yes. elim c.if-keeps.branch [
          | then-keeps k ↦ not-both _ w.if-is_kept.false (k.is_kept-is ∙ rw c.in_ok-tried.was at k.is_ok-is_kept.ensures.value)
          | else-keeps k ↦ not-both _ k.if-keeps.false yes
        ],
      )
    ]

pub returns-in_err-tried-clause-undone : goal.returns-in_err-tried-clause-undone
returns-in_err-tried-clause-undone g c = λ no. elim c.if-is_kept.branch [
  | then-is_kept w ↦ elim c.if-keeps.branch [
    | then-keeps k ↦ not-both _ no k.if-keeps.true
    | else-keeps k ↦ not-both _ (k.is_kept-is ∙ k.if-keeps.false) w.if-is_kept.true
  ]
  | else-is_kept w ↦ rw w.end-is at c.end-after.ensures.bins ∙ start g (goal_at.returns-in_err-tried-clause-undone g c).After-place_all-tried
]

pub returns-clause-undone : goal.returns-clause-undone
returns-clause-undone g c = λ no. elim c.if-is_kept.branch [
  | then-is_kept w ↦ elim c.if-keeps.branch [
    | then-keeps k ↦ not-both _ no k.if-keeps.true
    | else-keeps k ↦ not-both _ (k.is_kept-is ∙ k.if-keeps.false) w.if-is_kept.true
  ]
  | else-is_kept w ↦ rw w.end-is at c.end-after.ensures.bins ∙ start g (goal_at.returns-clause-undone g c).After-place_all-tried
]
