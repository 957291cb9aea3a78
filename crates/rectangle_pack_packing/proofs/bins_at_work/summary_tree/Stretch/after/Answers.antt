use Rattle.rectangle_pack_sections.proofs.Std.{◌≡◌, ◌+◌, ◌/◌, arith}
use Rattle.rectangle_pack_packing.proofs.lemmas.bins.SummaryTrees.{IsStretch-next, IsStretch-twice}
use Rattle.rectangle_pack_packing.proofs.bins_at_work.summary_tree.Stretch.after.Goals as goal

pub returns-then-next-eq0-clause-after : goal.returns-then-next-eq0-clause-after
returns-then-next-eq0-clause-after c = λ place at.
    let next = c.args.self.node + 1 in
    let even : next / 2 + next / 2 ≡ next = omega arith in
    IsStretch-twice (place + c.args.self.width) next c.args.self.width even (IsStretch-next place c.args.self.node c.args.self.width at)
