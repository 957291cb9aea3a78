use Rattle.rectangle_pack_sections.proofs.Std.{◌≡◌, ◌<◌, ◌≤◌, refl, ◌∙◌, arith, deref_pair, iter_end}
use Rattle.rectangle_pack_bins.proofs.lemmas.bins.Maps.{keys-bins}
use Rattle.rectangle_pack_packing.specs.private.Cells.{cells_in}
use Rattle.rectangle_pack.specs.Searched.{cost_of}
use Rattle.rectangle_pack.proofs.lemmas.searching.Costs.{cost-with, cost-without}
use Rattle.rectangle_pack.proofs.searching.outlay.cost_of_counted.Goals as goal

pub loop-id-preserved-then-unwrap_or-gt0 : goal.loop-id-preserved-then-unwrap_or-gt0
loop-id-preserved-then-unwrap_or-gt0 g c =
    let costs = c.args.costs.now.entries in
    let count = cells_in g.B.Ord.cmp c.args.cells.now.entries in
    let n = c.unwrap_or.result in
    let is : n ≡ count c.in-Some.id.now = c.unwrap_or.ensures ∙ rw (c.copied.ensures, c.get.ensures.value) refl in
    let some : 0 < n = omega arith in
    let one : c.unwrap_or-of_bin.result ≡ cost_of g.B.Ord.cmp costs c.in-Some.id.now =
    c.unwrap_or-of_bin.ensures ∙ rw (c.copied-then-unwrap_or-gt0.ensures, c.get-then-unwrap_or-gt0.ensures.value) refl in
    cost-with g.B.Ord.cmp costs count c.loop-id.yielded (c.in-Some.id, c.in-Some.field-0-1) c.loop-id.cost c.unwrap_or-of_bin.result
    c.saturating_add-cost.result n c.loop-id.invariant is some one c.saturating_add-cost.ensures

pub loop-id-preserved : goal.loop-id-preserved
loop-id-preserved g c =
    let count = cells_in g.B.Ord.cmp c.args.cells.now.entries in
    let n = c.unwrap_or.result in
    let is : n ≡ count c.in-Some.id.now = c.unwrap_or.ensures ∙ rw (c.copied.ensures, c.get.ensures.value) refl in
    let none : n ≤ 0 = omega arith in
    cost-without g.B.Ord.cmp c.args.costs.now.entries count c.loop-id.yielded (c.in-Some.id, c.in-Some.field-0-1) c.loop-id.cost n c.loop-id.invariant is none

pub returns : goal.returns
returns g c =
    let all = iter_end deref_pair _ _ _ _ _ _ c.into_iter-id-iterator.ensures.into_iter_gives.0 c.loop-id.yielded_by c.in-None.is c.next.ensures.steps in
    rw (keys-bins c.args.bins.now.entries, ← all.0) c.loop-id.invariant
