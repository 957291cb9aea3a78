use Rattle.rectangle_pack_sections.proofs.Std.{◌<◌, ◌/◌}
use Rattle.rectangle_pack_sections.proofs.Std.{length, arith, length-set, ◌∙◌}
use Rattle.rectangle_pack_sections.proofs.Std.{drop-set-lt}
use Rattle.rectangle_pack_packing.proofs.lemmas.bins.SummaryTrees.{IsTreeBut-leaf, IsTreeBut-above, drop-leaf}
use Rattle.rectangle_pack_packing.proofs.bins_at_work.summary_tree.write.Goals as goal

pub loop-node-init : goal.loop-node-init
loop-node-init g c =
    let nodes = c.args.nodes.now.items in
    let leaf = c.args.leaf in
    let long = length-set nodes leaf c.args.summary in
    record {
      tree = IsTreeBut-leaf nodes leaf c.args.summary c.requires.tree c.requires.leaf c.requires.within;
      long = long;
      some = omega (arith, c.requires.tree.even, c.requires.leaf, c.requires.within);
      within = omega (arith, long, c.requires.within);
      leaves = drop-leaf nodes leaf c.args.summary c.requires.leaf;
    }

pub loop-node-preserved : goal.loop-node-preserved
loop-node-preserved g c =
    let nodes = c.loop-node.nodes.items in
    let kept = c.loop-node.invariant in
    let node = c.loop-node.node / 2 in
    let new = c.both-joined.result in
    let long = length-set nodes node new ∙ kept.long in
    let half = length c.args.nodes.now.items / 2 in
    let inner : node < length nodes / 2 = omega (arith, kept.within, kept.tree.even) in
    record {
      tree = IsTreeBut-above nodes node new _ _ kept.tree inner c.index.ensures
          c.index-in-loop-node.ensures c.both-joined.ensures;
      long = long;
      some = omega (arith, c.loop-node-test.true);
      within = omega (arith, long, kept.long, kept.within);
      leaves = rw (drop-set-lt half nodes node new (rw kept.long at inner)) kept.leaves;
    }
