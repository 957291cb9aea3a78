use Rattle.rectangle_pack_sections.proofs.Std.{◌≡◌, ◌++◌, true, leb, ◌∙◌, ap, subst, arith, OnTrue_from, leb-true, All-permutation, IsPermutation-trans}
use Rattle.rectangle_pack_sections.specs.Boxes.{Cuboid, FitsU32, has_cells}
use Rattle.rectangle_pack_plans.specs.private.CutPlans.{HaveCellsAndFit, IsClosedOn}
use Rattle.rectangle_pack_plans.proofs.lemmas.cut_plan.Ends.{ends_moved, ends_ordered, ends_open}
use Rattle.rectangle_pack_plans.proofs.lemmas.cut_plan.Filling.{HaveCellsAndFit-filled}
use Rattle.rectangle_pack_sections.proofs.lemmas.util.Lists.{All-front, All-back}
use Rattle.rectangle_pack_plans.proofs.cut_plan.order.is_blocked.Goals as goal

pub reach-requires : goal.reach-requires
reach-requires c =
    let front = c.split_at_mut-front.result in
    let back = c.split_at_mut-back.result in
    let HasCellsAndFits : Cuboid → Type 0 = λ b. (has_cells b ≡ true) × FitsU32 b in
    let all : HaveCellsAndFit (front.0.now ++ front.1.now) = subst HaveCellsAndFit c.split_at_mut-front.ensures.value
    (HaveCellsAndFit-filled c.args.whole.now c.args.boxes.now c.requires.filled) in
    let rest : HaveCellsAndFit (back.0.now ++ back.1.now) = subst HaveCellsAndFit c.split_at_mut-back.ensures.value
    (All-back HasCellsAndFits front.0.now front.1.now all) in
    record {
      first = All-permutation HasCellsAndFits _ _ c.order_on.ensures.permutation (All-front HasCellsAndFits front.0.now front.1.now all);
      second = All-permutation HasCellsAndFits _ _ c.order_on-2.ensures.permutation (All-back HasCellsAndFits back.0.now back.1.now rest);
    }

pub returns : goal.returns
returns c =
    let whole = c.args.whole.now in
    let front = c.split_at_mut-front.result.0.now in
    let between = c.split_at_mut-back.result.0.now in
    let back = c.split_at_mut-back.result.1.now in
    let first = c.restore_order.new.boxes in
    let last = c.restore_order-2.new.boxes in
    let parts : c.args.boxes.now ≡ front ++ (between ++ back) = c.split_at_mut-front.ensures.value ∙ ap (λ l. front ++ l) c.split_at_mut-back.ensures.value in
    let front_moved = IsPermutation-trans _ _ _ c.order_on.ensures.permutation c.restore_order.ensures.permutation in
    let back_moved = IsPermutation-trans _ _ _ c.order_on-2.ensures.permutation c.restore_order-2.ensures.permutation in
    record {
      permutation = rw parts (ends_moved front between back first last front_moved back_moved);
      ordered = ends_ordered front between back first last front_moved back_moved c.args.ordered (rw parts at c.requires.ordered)
          c.restore_order.ensures.ordered c.restore_order-2.ensures.ordered;
      closed = OnTrue_from (leb c.end.result c.reach.result) (IsClosedOn c.args.axis whole (first ++ (between ++ last))) (λ t q is_open.
          c.reach.ensures q (omega (arith, leb-true c.end.result c.reach.result t, c.end.ensures ∙ c.of.ensures.ends, is_open.before_end))
          (ends_open c.order_on.new.boxes between c.order_on-2.new.boxes first last c.restore_order.ensures.permutation
          c.restore_order-2.ensures.permutation c.args.axis q whole is_open));
    }
