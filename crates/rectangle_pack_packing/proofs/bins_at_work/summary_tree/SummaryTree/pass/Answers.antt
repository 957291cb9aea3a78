use Rattle.rectangle_pack_sections.proofs.Std.{◌≡◌, ◌<◌, ◌+◌, ◌/◌, ◌∙◌, sym, ap, arith}
use Rattle.rectangle_pack_sections.proofs.Std.{length, length-drop}
use Rattle.rectangle_pack_packing.proofs.lemmas.bins.SummaryTrees.{RuleOut-pass}
use Rattle.std.proofs.Common.{pow_pos, le-mul_of_pos_right}
use Rattle.rectangle_pack_packing.proofs.bins_at_work.summary_tree.SummaryTree.pass.Goals as goal

pub returns-clause-passed : goal.returns-clause-passed
returns-clause-passed g c = λ from le before.
    let nodes = c.self.inside.nodes.items in
    let s = c.in_ok-summary.summary in
    let is = sym c.index.ensures ∙ c.in_ok-summary.was in
    let added : c.in_ok-checked_add.field-0 ≡ c.args.passed.now.tests + s.count =
    omega (arith, c.in_ok-checked_add.ensures.1, c.count.ensures) in
    RuleOut-pass nodes c.args.self.now c.args.size.now from c.args.passed.now.index c.args.stretch.now.node c.args.stretch.now.width c.args.passed.now.tests
    c.in_ok-checked_add.field-0 s _ c.self.invariant (sym c.self.view_is) le (omega (arith, c.requires.before, c.if-len-passed.false)) c.requires.at is
    c.if-may_hold.ensures added before

pub index-requires : goal.index-requires
index-requires g c =
    let nodes = c.self.inside.nodes in
    let at = c.requires.at in
    let width = c.args.stretch.now.width in
    let long = length-drop (length nodes.items / 2) nodes.items in
    let half = ap length c.self.view_is in
    let some : 0 < width = omega (arith, at.width_is, pow_pos at.height) in
    let low = le-mul_of_pos_right c.args.stretch.now.node some in
    omega (arith, low, at.place_is, c.requires.before, half, long, nodes.ok.0)
