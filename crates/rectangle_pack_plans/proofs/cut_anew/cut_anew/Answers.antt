use Rattle.rectangle_pack_sections.proofs.Std.{◌≡◌, ◌<◌, [], length, sym, subst, arith, nil_from_length, All, IsPermutation}
use Rattle.rectangle_pack_sections.proofs.Std.{eqb-true, eq-eqb, cases_lt, both_ways, inl, inr}
use Rattle.rectangle_pack_plans.specs.CuttingAnew.{AreThickestFirst}
use Rattle.rectangle_pack_plans.specs.private.CuttingAnew.{HaveBothFit}
use Rattle.rectangle_pack_plans.proofs.lemmas.cut_anew.Found.{IsCutAnew-whole, IsCutAnew-sorted}
use Rattle.rectangle_pack_plans.proofs.cut_anew.cut_anew.Goals as goal

pub returns-then-is_empty : goal.returns-then-is_empty
returns-then-is_empty g c =
    let none : c.args.boxes.now ≡ [] = nil_from_length c.args.boxes.now (eqb-true (length c.args.boxes.now) 0 (sym (c.if-is_empty.ensures {u = tt}))) in
    IsCutAnew-whole c.args.whole c.args.boxes.now _ none (c.in_ok-filled.ensures {u = tt})

pub in_order-requires : goal.in_order-requires
in_order-requires g c =
    let found = rw c.if-not-branch.false at (c.in_ok-cut_rooms.ensures {u = tt}) in
    record { fit = subst (All HaveBothFit) (sym c.as_slice.ensures.value) found.2 }

pub returns : goal.returns
returns g c =
    let found = rw c.if-not-branch.false at (c.in_ok-cut_rooms.ensures {u = tt}) in
    let some : 0 < length c.args.boxes.now = elim (cases_lt 0 (length c.args.boxes.now)) [
      | inl lt ↦ lt
      | inr ge ↦ absurd (both_ways _ (sym (c.if-is_empty.ensures {u = tt})) (eq-eqb (length c.args.boxes.now) 0 (omega (arith, ge))))
    ] in
    let sorted = c.in_ok-sections.ensures {u = tt} in
    IsCutAnew-sorted c.args.whole c.args.boxes.now c.cut_rooms.new.free.items sorted.0 c.in_ok-sections.sections.items some found.0 found.1 found.3
    (subst (λ l. IsPermutation l sorted.0) c.as_slice.ensures.value sorted.1)
    (subst (λ s. AreThickestFirst s sorted.0) c.whd.ensures sorted.2) sorted.3
