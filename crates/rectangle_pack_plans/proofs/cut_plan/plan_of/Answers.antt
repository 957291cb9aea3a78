use Rattle.rectangle_pack_sections.proofs.Std.{ℕ, ◌+◌, ◌-◌, ◌≡◌, List, ◌∷◌, ◌++◌, length, take, drop, reverse, [], refl, ap, sym, ◌∙◌, subst, arith}
use Rattle.rectangle_pack_sections.proofs.Std.{None, drop-drop, nil_from_length, take-append-drop}
use Rattle.rectangle_pack_sections.specs.Boxes.{Cuboid}
use Rattle.rectangle_pack_sections.specs.CutTrees.{IsFromCuts}
use Rattle.rectangle_pack_plans.specs.private.CutPlans.{IsFilled, AreOrdered}
use Rattle.rectangle_pack_plans.specs.private.Pending.{LeadOn}
use Rattle.rectangle_pack_plans.proofs.lemmas.cut_plan.Pending.{LeadOn-same, IsNext, IsNext-popped, LeadOn-leaf, LeadOn-start, LeadOn-end}
use Rattle.rectangle_pack_plans.proofs.lemmas.cut_plan.Pending.{only_is_next, parts_are_next, planned_moved, still_within, weight-popped, weight-parted}
use Rattle.rectangle_pack_plans.proofs.cut_plan.plan_of.Given.{Over}
use Rattle.rectangle_pack_plans.proofs.cut_plan.plan_of.Goals.at as goal_at
use Rattle.rectangle_pack_plans.proofs.cut_plan.plan_of.Goals as goal
use Rattle.rectangle_pack_plans.proofs.cut_plan.plan_of.Goals.{In-Some}

-- the boxes of the next part, as the loop lends them
lent : (done n : ℕ) (boxes : List Cuboid) → take n (drop done boxes) ≡ take (done + n - done) (drop done boxes)
lent done n boxes = ap (λ k. take k (drop done boxes)) (omega arith)

-- what is known of the part that is taken
taken : (g : Over) (c : In-Some g)
    → IsNext c.args.boxes.now c.args.whole c.in-Some.part c.pop.new.self.items c.loop-part.boxes c.loop-part.done c.loop-part.plan.items
taken g c = IsNext-popped c.args.boxes.now c.args.whole c.loop-part.pending.items c.pop.new.self.items c.in-Some.part c.loop-part.boxes c.loop-part.done
    c.loop-part.plan.items c.loop-part.invariant.within (c.in-Some.ensures {u = tt}).items c.loop-part.invariant.leads

pub loop-part-init : goal.loop-part-init
loop-part-init g c =
    let boxes = c.args.boxes.now in
    let first = only_is_next c.new-pending.result.items c.push.new.self.items
    (record { whole = c.args.whole; count = length boxes; ordered = None; before = None; turns = 0 })
    c.new-pending.ensures.items (c.in_ok-push.ensures {u = tt}).items in
    record {
      within = omega arith;
      leads = LeadOn-same boxes c.args.whole _ _ boxes boxes [] c.new-plan.result.items first refl (sym c.new-plan.ensures.items)
          (LeadOn-start c.args.whole boxes c.requires.filled);
    }

pub overflow_add-end : goal.overflow_add-end
overflow_add-end g c = omega (arith, (taken g (goal_at.overflow_add-end g c).In-Some).within, c.loop-part.auto.boxes)

pub loop-part-preserved-then-part-le1 : goal.loop-part-preserved-then-part-le1
loop-part-preserved-then-part-le1 g c =
    let next = taken g (goal_at.loop-part-preserved-then-part-le1 g c).In-Some in
    record {
      within = next.within;
      leads = LeadOn-same _ _ _ _ _ _ _ _ refl (drop-drop c.in-Some.part.count c.loop-part.done c.loop-part.boxes)
          (sym (c.in_ok-push_leaf.ensures {u = tt}))
          (LeadOn-leaf _ _ _ _ _ _ c.if-part-le1.true next.leads);
    }

pub slice_bounds-filling-end : goal.slice_bounds-filling-end
slice_bounds-filling-end g c = omega (arith, (taken g (goal_at.slice_bounds-filling-end g c).In-Some).within)

pub cut_up-requires-clause-filled : goal.cut_up-requires-clause-filled
cut_up-requires-clause-filled g c =
    let next = taken g (goal_at.cut_up-requires-clause-filled g c).In-Some in
    subst (IsFilled c.in-Some.part.whole) (lent c.loop-part.done c.in-Some.part.count c.loop-part.boxes) next.pending.filled

pub cut_up-requires-clause-ordered : goal.cut_up-requires-clause-ordered
cut_up-requires-clause-ordered g c =
    let next = taken g (goal_at.cut_up-requires-clause-ordered g c).In-Some in
    subst (AreOrdered c.in-Some.part.ordered) (lent c.loop-part.done c.in-Some.part.count c.loop-part.boxes) next.pending.ordered

pub returns-in_default-2 : goal.returns-in_default-2
returns-in_default-2 g c =
    let next = taken g (goal_at.returns-in_default-2 g c).In-Some in
    let none = rw c.in_default-2.is at (c.in_ok-planned.ensures {u = tt}) in
    λ from. none (subst (λ l. IsFromCuts l c.in-Some.part.whole) (lent c.loop-part.done c.in-Some.part.count c.loop-part.boxes) (next.pending.from_cuts from))

pub loop-part-preserved : goal.loop-part-preserved
loop-part-preserved g c =
    let next = taken g (goal_at.loop-part-preserved g c).In-Some in
    let part = c.in-Some.part in
    let done = c.loop-part.done in
    let boxes = c.loop-part.boxes in
    let es = c.cut_up.new.boxes in
    let all = c.args.boxes.now in
    let popped = c.pop.new.self.items in
    let found = rw c.in-Some-2.is at (c.in_ok-planned.ensures {u = tt}) in
    let planned = c.in-Some-2.planned in
    let cut = found.4 in
    let before : drop done boxes ≡ take (done + part.count - done) (drop done boxes) ++ drop part.count (drop done boxes) =
    sym (take-append-drop part.count (drop done boxes)) ∙ ap (λ l. l ++ drop part.count (drop done boxes)) (lent done part.count boxes) in
    let leads = subst (λ l. LeadOn all c.args.whole (part ∷ reverse popped) l c.loop-part.plan.items) before next.leads in
    record {
      within = still_within done part.count boxes es c.loop-part.invariant.within planned cut.within;
      leads = LeadOn-same _ _ _ _ _ _ _ _ (parts_are_next popped c.cut_up.new.pending.items found.0 found.2)
          (planned_moved done part.count boxes es c.loop-part.invariant.within planned cut.within)
          (sym (found.3 ∙ ap (λ l. l ++ found.1) (c.in_ok-push_before.ensures {u = tt})))
          (cut.goes_on all c.args.whole (reverse popped) (drop part.count (drop done boxes)) c.loop-part.plan.items leads);
    }

pub loop-part-smaller-then-part-le1 : goal.loop-part-smaller-then-part-le1
loop-part-smaller-then-part-le1 g c = weight-popped c.loop-part.pending.items c.pop.new.self.items c.in-Some.part (c.in-Some.ensures {u = tt}).items

pub loop-part-smaller : goal.loop-part-smaller
loop-part-smaller g c =
    let found = rw c.in-Some-2.is at (c.in_ok-planned.ensures {u = tt}) in
    weight-parted c.loop-part.pending.items c.pop.new.self.items c.cut_up.new.pending.items found.0 c.in-Some.part (c.in-Some.ensures {u = tt}).items found.2
    found.4.lighter

pub returns : goal.returns
returns g c =
    let none = nil_from_length c.loop-part.pending.items (omega (arith, (c.in_default.ensures {u = tt}).cases, c.loop-part.pending.ok)) in
    LeadOn-end c.args.boxes.now c.args.whole _ _ c.requires.filled.tiles
    (LeadOn-same _ _ (reverse c.loop-part.pending.items) [] _ _ _ _ (ap reverse none) refl refl c.loop-part.invariant.leads)
