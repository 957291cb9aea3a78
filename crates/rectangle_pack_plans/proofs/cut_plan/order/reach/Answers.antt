use Rattle.rectangle_pack_sections.proofs.Std.{ℕ, ◌<◌, ◌≡◌, ◌++◌, List, length, get_or, subst, true, sym, arith, Contains-append_left, Contains-append_right}
use Rattle.rectangle_pack_sections.specs.Boxes.{Cuboid, FitsU32, has_cells}
use Rattle.rectangle_pack_plans.specs.private.CutPlans.{HaveCellsAndFit}
use Rattle.rectangle_pack_plans.proofs.cut_plan.order.reach.Goals as goal

pub loop-i-preserved-then-is_first_next : goal.loop-i-preserved-then-is_first_next
loop-i-preserved-then-is_first_next c = record {
  first = omega (arith, (c.if-is_first_next.ensures {u = tt}));
  second = c.loop-i.invariant.second;
  closed = c.go_on-place.ensures (c.args.first.now ++ c.args.second.now) (Contains-append_left c.args.first.now c.args.second.now c.index-first-i.result
      (c.loop-i.i, (c.if-is_first_next.ensures {u = tt}), sym c.index-first-i.is)) c.loop-i.invariant.closed;
}

pub loop-i-preserved : goal.loop-i-preserved
loop-i-preserved c = record {
  first = c.loop-i.invariant.first;
  second = omega (arith, (c.if-is_first_next.ensures {u = tt}));
  closed = c.go_on-place-else-is_first_next.ensures (c.args.first.now ++ c.args.second.now) (Contains-append_right c.args.first.now c.args.second.now
      c.index-second-j.result (c.loop-i.j, (c.if-is_first_next.ensures {u = tt}), sym c.index-second-j.is)) c.loop-i.invariant.closed;
}

-- a box that is read has cells and fits
read_box : (boxes : List Cuboid) (i : ℕ) (b : Cuboid) → HaveCellsAndFit boxes → i < length boxes → b ≡ get_or boxes i b
    → (has_cells b ≡ true) × FitsU32 b
read_box boxes i b all within read = subst (λ (x : Cuboid). (has_cells x ≡ true) × FitsU32 x) (sym read) (all i b within)

pub bounds-first-i : goal.bounds-first-i
bounds-first-i c = c.if-is_first_next.ensures {u = tt}

pub go_on-place-requires-clause-fits : goal.go_on-place-requires-clause-fits
go_on-place-requires-clause-fits c = (read_box _ _ _ c.requires.first (c.if-is_first_next.ensures {u = tt}) c.index-first-i.is).1

pub go_on-place-requires-clause-cells : goal.go_on-place-requires-clause-cells
go_on-place-requires-clause-cells c = (read_box _ _ _ c.requires.first (c.if-is_first_next.ensures {u = tt}) c.index-first-i.is).0

pub bounds-second-j : goal.bounds-second-j
bounds-second-j c = c.if-is_first_next.ensures {u = tt}

pub go_on-place-requires-else-is_first_next-clause-fits : goal.go_on-place-requires-else-is_first_next-clause-fits
go_on-place-requires-else-is_first_next-clause-fits c = (read_box _ _ _ c.requires.second (c.if-is_first_next.ensures {u = tt}) c.index-second-j.is).1

pub go_on-place-requires-else-is_first_next-clause-cells : goal.go_on-place-requires-else-is_first_next-clause-cells
go_on-place-requires-else-is_first_next-clause-cells c = (read_box _ _ _ c.requires.second (c.if-is_first_next.ensures {u = tt}) c.index-second-j.is).0

pub returns : goal.returns
returns c = c.loop-i.invariant.closed
