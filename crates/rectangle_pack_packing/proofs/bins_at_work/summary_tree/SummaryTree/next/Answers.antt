use Rattle.std.proofs.Common.{◌<◌, ◌≤◌, ℕ, length, arith, refl}
use Rattle.std.proofs.Common.{le_refl, add_assoc, sub-eq-zero_of_le}
use Rattle.std.proofs.Common.{le-mul_of_pos_right, mul-le-mul_left, pow_pos}
use Rattle.rectangle_pack_packing.specs.private.SummaryTrees.{IsStretch}
use Rattle.rectangle_pack_packing.proofs.bins_at_work.summary_tree.SummaryTree.next.Goals as goal

some_wide : (place node width : ℕ) → IsStretch place node width → 0 < width
some_wide place node width at = omega (arith, at.width_is, pow_pos at.height)

pub loop-passed-preserved-in-Some : goal.loop-passed-preserved-in-Some
loop-passed-preserved-in-Some g c =
    let kept = c.loop-passed.invariant in
    let now = c.loop-passed.passed in
    let width = c.loop-passed.stretch.width in
    record {
      from = omega (arith, kept.from, c.in-Some.ensures.index);
      end = omega (arith, c.in-Some.ensures.end, c.len-end.ensures.bins);
      at = rw (c.in-Some.ensures.index, ← add_assoc (length c.args.self.now) now.index width)
          (c.after-stretch.ensures.after _ kept.at);
      out = c.in-Some.ensures.passed c.args.from kept.from kept.out;
    }

pub loop-passed-init : goal.loop-passed-init
loop-passed-init g c =
    record {
      from = le_refl c.args.from;
      end = omega (arith, c.if-from-end.false);
      at = record {
        height = 0;
        width_is = refl;
        place_is = omega (arith, c.len-end.ensures.bins);
      };
      out = rw (sub-eq-zero_of_le (le_refl c.args.from)) refl;
    }

pub after-stretch-requires-clause-next : goal.after-stretch-requires-clause-next
after-stretch-requires-clause-next g c =
    let at = c.loop-passed.invariant.at in
    let node = c.loop-passed.stretch.node in
    let low = le-mul_of_pos_right node (some_wide _ node _ at) in
    omega (arith, low, at.place_is, c.len-end.ensures.bins, c.len-end.ensures.small)

pub after-stretch-requires-clause-wide : goal.after-stretch-requires-clause-wide
after-stretch-requires-clause-wide g c =
    let at = c.loop-passed.invariant.at in
    omega (arith, at.place_is, c.in-Some.ensures.index, c.in-Some.ensures.end, c.len-end.ensures.bins, c.len-end.ensures.small)

pub loop-passed-smaller-in-Some : goal.loop-passed-smaller-in-Some
loop-passed-smaller-in-Some g c =
    let some = some_wide _ _ _ c.loop-passed.invariant.at in
    let wide = c.after-stretch.ensures.width in
    omega (arith, some, wide, c.in-Some.ensures.index, c.in-Some.ensures.end, c.len-end.ensures.bins)

pub first_half-stretch-requires-clause-node : goal.first_half-stretch-requires-clause-node
first_half-stretch-requires-clause-node g c =
    let at = c.loop-passed.invariant.at in
    let node = c.loop-passed.stretch.node in
    let some = some_wide _ node _ at in
    let two : 2 ≤ c.loop-passed.stretch.width = omega (arith, some, c.if-stretch-eq1.false) in
    let low = mul-le-mul_left node two in
    omega (arith, low, at.place_is, c.len-end.ensures.bins, c.len-end.ensures.small)
