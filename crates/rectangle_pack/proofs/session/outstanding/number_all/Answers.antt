use Rattle.rectangle_pack_sections.proofs.Std.{◌∷◌, [], arith, map-id, length-append, YieldsList-end, YieldsList-from_vec, sym, append-nil, ◌∙◌}
use Rattle.rectangle_pack.proofs.lemmas.session.Numbering.{numbered-more}
use Rattle.rectangle_pack.proofs.session.outstanding.number_all.Goals as goal

pub loop-placement-preserved : goal.loop-placement-preserved
loop-placement-preserved g c =
    let inv = c.loop-placement.invariant in
    let more = length-append c.loop-placement.yielded (c.in-Some.placement ∷ []) in
    record {
      outstanding = numbered-more c.args.outstanding.now.items c.loop-placement.outstanding.items c.push_reserved.new.self.items c.args.first
          c.loop-placement.yielded c.in-Some.placement c.loop-placement.number inv.number inv.outstanding c.push_reserved.ensures.items;
      number = omega (arith, inv.number, more);
      room = omega (arith, inv.room, c.push_reserved.ensures.room, more);
      left = omega (arith, inv.left, c.in-Some.ensures.steps.1, more);
    }

pub returns : goal.returns
returns g c =
    let gives = c.into_iter-placement-iterator.ensures.into_iter_gives in
    let end = YieldsList-end (YieldsList-from_vec {s = c.into_iter-placement-iterator.result} c.args.placements.items gives.0
    (gives.1 ∙ c.args.placements.ok.0))
    c.loop-placement.yielded c.loop-placement.placement-iterator c.loop-placement.yielded_by c.next.result c.next.new.self c.in-None.is c.next.ensures.steps in
    rw (← end.0, map-id) c.loop-placement.invariant.outstanding

pub loop-placement-init : goal.loop-placement-init
loop-placement-init g c =
    record {
      outstanding = sym (append-nil c.args.outstanding.now.items);
      number = omega arith;
      room = omega arith;
      left = omega (arith, c.into_iter-placement-iterator.ensures.into_iter_gives.1);
    }

pub push_reserved-requires : goal.push_reserved-requires
push_reserved-requires g c =
    let inv = c.loop-placement.invariant in
    omega (arith, inv.room, inv.left, c.requires.room, c.in-Some.ensures.steps.1)

pub overflow_add-number : goal.overflow_add-number
overflow_add-number g c =
    let inv = c.loop-placement.invariant in
    omega (arith, inv.number, inv.left, c.requires.fits, c.in-Some.ensures.steps.1)
