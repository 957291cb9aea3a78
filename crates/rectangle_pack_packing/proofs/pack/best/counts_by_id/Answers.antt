use Rattle.rectangle_pack_sections.proofs.Std.{◌≡◌, ◌<◌, ◌≤◌, refl, ◌∙◌, arith, deref_pair, iter_end}
use Rattle.rectangle_pack_packing.specs.private.Cells.{cells_in}
use Rattle.rectangle_pack_packing.proofs.lemmas.best.Fillings.{counts-with, counts-without}
use Rattle.rectangle_pack_packing.proofs.pack.best.counts_by_id.Goals as goal

pub loop-id-preserved-in-Continue-1 : goal.loop-id-preserved-in-Continue-1
loop-id-preserved-in-Continue-1 g c =
    let count = cells_in g.B.Ord.cmp c.args.cells.now.entries in
    let n = c.unwrap_or-count.result in
    let is : n ≡ count c.in-Some.id.now = c.unwrap_or-count.ensures ∙ rw (c.copied.ensures, c.get.ensures.value) refl in
    let some : 0 < n = omega arith in
    counts-with count c.loop-id.yielded (c.in-Some.id, c.in-Some.field-0-1) c.loop-id.counts.items c.push.new.self.items n c.loop-id.invariant is some
    c.in_ok-push.ensures.items

pub loop-id-preserved : goal.loop-id-preserved
loop-id-preserved g c =
    let count = cells_in g.B.Ord.cmp c.args.cells.now.entries in
    let n = c.unwrap_or-count.result in
    let is : n ≡ count c.in-Some.id.now = c.unwrap_or-count.ensures ∙ rw (c.copied.ensures, c.get.ensures.value) refl in
    let none : n ≤ 0 = omega arith in
    counts-without count c.loop-id.yielded (c.in-Some.id, c.in-Some.field-0-1) c.loop-id.counts.items n c.loop-id.invariant is none

pub returns : goal.returns
returns g c =
    let all = iter_end deref_pair _ _ _ _ _ _ c.into_iter-id-iterator.ensures.into_iter_gives.0 c.loop-id.yielded_by c.in-None.is c.next.ensures.steps in
    rw (← all.0) c.loop-id.invariant
