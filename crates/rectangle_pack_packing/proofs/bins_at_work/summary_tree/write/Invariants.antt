use Rattle.rectangle_pack_sections.proofs.Std.{◌≡◌, ◌<◌, ◌-◌, ◌/◌, length, drop, set}
use Rattle.rectangle_pack_packing.specs.private.SummaryTrees.{IsTreeBut}
use Rattle.rectangle_pack_packing.proofs.bins_at_work.summary_tree.write.Given as goal

abbrev pub invariant-loop-node : goal.invariant-loop-node
invariant-loop-node g l = record {
  tree : IsTreeBut (l.node / 2) l.nodes.items;
  long : length l.nodes.items ≡ length l.fn.nodes.items;
  some : 0 < l.node;
  within : l.node < length l.nodes.items;
  leaves : drop (length l.fn.nodes.items / 2) l.nodes.items
      ≡ set (drop (length l.fn.nodes.items / 2) l.fn.nodes.items) (l.leaf - length l.fn.nodes.items / 2) l.fn.summary;
}

abbrev pub decreases-loop-node : goal.decreases-loop-node
decreases-loop-node g l = l.node
