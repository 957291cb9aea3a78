use Rattle.rectangle_pack_sections.proofs.Std.{rules, arith, ◌-◌}
use Rattle.rectangle_pack_lists.specs.Joining.{PastEnd, Alone}
use Rattle.rectangle_pack_lists.proofs.lemmas.joining.Joins.{one_join, joined_index-at}
use Rattle.rectangle_pack_lists.proofs.coalesce.join_at.Goals as goal

pub returns-then-idx-len-clause-joined : goal.returns-then-idx-len-clause-joined
returns-then-idx-len-clause-joined g c = PastEnd (omega arith)

pub loop-j-preserved-then-j-idx : goal.loop-j-preserved-then-j-idx
loop-j-preserved-then-j-idx g c =
    let now = c.loop-j in
    let (fit, inside, rest) = one_join now.sections.items c.remove.new.self.items now.idx c.args.range.start now.end c.in-Some.j (c.min-end.result - 1)
    (now.idx - 1) c.index.result.now c.index-in-Some.result.now c.join.result now.invariant.fit now.invariant.inside
    (rw c.as_slice.ensures.value at c.in-Some.ensures.some) c.index.ensures c.index-in-Some.ensures c.join.ensures.joined c.join.ensures.fits
    (search rules) (search rules) (omega (arith, joined_index-at now.idx c.in-Some.j)) in
    record { fit = fit; inside = inside; rest = λ new left. now.invariant.rest new (rest new left) }

pub loop-j-preserved : goal.loop-j-preserved
loop-j-preserved g c =
    let now = c.loop-j in
    let (fit, inside, rest) = one_join now.sections.items c.remove.new.self.items now.idx c.args.range.start now.end c.in-Some.j (c.min-end.result - 1)
    now.idx c.index.result.now c.index-in-Some.result.now c.join.result now.invariant.fit now.invariant.inside
    (rw c.as_slice.ensures.value at c.in-Some.ensures.some) c.index.ensures c.index-in-Some.ensures c.join.ensures.joined c.join.ensures.fits
    (search rules) (search rules) (omega (arith, joined_index-at now.idx c.in-Some.j)) in
    record { fit = fit; inside = inside; rest = λ new left. now.invariant.rest new (rest new left) }

pub returns-clause-joined : goal.returns-clause-joined
returns-clause-joined g c =
    c.loop-j.invariant.rest c.loop-j.sections.items (Alone c.loop-j.invariant.inside (rw c.as_slice.ensures.value at c.in_default.ensures.none))
