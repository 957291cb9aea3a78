use Rattle.rectangle_pack_sections.proofs.Std.{◌≡◌, ◌+◌, ◌-◌, ◌/◌, length}
use Rattle.rectangle_pack_sections.proofs.Std.{arith, refl, set, drop, None, get_or-set_same, get_or-set_other}
use Rattle.rectangle_pack_packing.proofs.lemmas.bins.SummaryTrees.{half_of}
use Rattle.rectangle_pack_packing.proofs.bins_at_work.summary_tree.SummaryTree.put.Given.{Over}
use Rattle.rectangle_pack_packing.proofs.bins_at_work.summary_tree.SummaryTree.put.Goals.{After-write}
use Rattle.rectangle_pack_packing.proofs.bins_at_work.summary_tree.SummaryTree.put.Goals.at as goal_at
use Rattle.rectangle_pack_packing.proofs.bins_at_work.summary_tree.SummaryTree.put.Goals as goal

pub write-requires-clause-within : goal.write-requires-clause-within
write-requires-clause-within g c =
    let nodes = c.self.inside.nodes in
    let half = half_of nodes.items _ c.self.view_is c.self.invariant in
    omega (arith, half, c.requires, c.len.ensures.bins, c.self.invariant.even)

-- the summaries of the bins, after the write
leaves : (g : Over) (c : After-write g)
    → drop (length c.write.new.nodes.items / 2) c.write.new.nodes.items ≡ set c.args.self.now c.args.index c.args.summary
leaves g c =
    let nodes = c.self.inside.nodes in
    let half = half_of nodes.items _ c.self.view_is c.self.invariant in
    let at : c.len.result + c.args.index - length nodes.items / 2 ≡ c.args.index = omega (arith, half, c.len.ensures.bins) in
    rw (c.write.ensures.half, c.write.ensures.leaves, at, c.self.view_is) refl

pub returns-clause-here : goal.returns-clause-here
returns-clause-here g c =
    rw (leaves g (goal_at.returns-clause-here g c).After-write) (get_or-set_same c.args.self.now c.args.index c.args.summary None c.requires)

pub returns-clause-elsewhere : goal.returns-clause-elsewhere
returns-clause-elsewhere g c = λ i apart.
    rw (leaves g (goal_at.returns-clause-elsewhere g c).After-write) (get_or-set_other c.args.self.now c.args.index i c.args.summary None apart)
