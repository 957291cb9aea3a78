use Rattle.rectangle_pack_sections.proofs.Std.{◌≤◌, ◌+◌, ◌-◌, ◌*◌, length, take, drop}
use Rattle.rectangle_pack_packing.specs.private.SummaryTrees.{IsStretch, RuleOut}
use Rattle.rectangle_pack_packing.proofs.bins_at_work.summary_tree.SummaryTree.next.Given as goal

abbrev pub invariant-loop-passed : goal.invariant-loop-passed
invariant-loop-passed g l = record {
  from : l.fn.from ≤ l.passed.index;
  end : l.passed.index ≤ l.end;
  at : IsStretch (length l.self + l.passed.index) l.stretch.node l.stretch.width;
  out : RuleOut (take (l.passed.index - l.fn.from) (drop l.fn.from l.self)) l.size l.passed.tests;
}

abbrev pub decreases-loop-passed : goal.decreases-loop-passed
decreases-loop-passed g l = (l.end - l.passed.index) * 2 + l.stretch.width
