use Rattle.rectangle_pack_sections.proofs.Std.{◌≡◌, refl, sym, subst, rules, Option, Some, None, Ok, filter, MatchOption, Ordering, Vec, lookup, is_at}
use Rattle.rectangle_pack_plans.specs.declared.cut_plan.CutStep.{CutStep}
use Rattle.rectangle_pack_sections.specs.Bins.{Bin, whole, bins_of}
use Rattle.rectangle_pack_sections.specs.Boxes.{has_cells}
use Rattle.rectangle_pack_sections.specs.CutTrees.{IsFromCuts}
use Rattle.rectangle_pack_plans.specs.CutPlans.{IsCutPlan}
use Rattle.rectangle_pack.specs.Session.{State, boxes_of}
use Rattle.rectangle_pack.specs.PlanAnswers.{IsPlanAnswer}
use Rattle.rectangle_pack_plans.proofs.lemmas.cut_plan.FirstPlanes.{IsCutPlan-same}
use Rattle.rectangle_pack_plans.proofs.lemmas.cut_plan.Filling.{IsFilled-bin}
use Rattle.rectangle_pack_sections.proofs.lemmas.cuts.SameBoxes.{HaveSameBoxes-sym, HaveSameBoxes-filter, IsFromCuts-same}
use Rattle.rectangle_pack.proofs.lemmas.session.Keeps.{Some-bins_of, None-bins_of}
use Rattle.rectangle_pack.proofs.lemmas.session.Transitions.{memory_refused}
use Rattle.rectangle_pack.proofs.session.Session.cut_plan.Goals as goal

-- a plan of the boxes with cells is a plan of the boxes
planned : {Id B A : Type 0} (bin_cmp : B → B → Ordering) (state : State Id B) (id : B) (bin : Bin) (found : lookup (is_at (bin_cmp id)) state.bins ≡ Some bin)
    (plan : Option (Vec CutStep A))
    → MatchOption plan (¬ IsFromCuts (filter has_cells (boxes_of bin_cmp state.outstanding id bin)) (whole bin.size))
    (λ p. IsCutPlan (filter has_cells (boxes_of bin_cmp state.outstanding id bin)) (whole bin.size) p.items)
    → IsPlanAnswer bin_cmp state id (Ok plan)
planned bin_cmp state id bin found None h =
    let boxes = boxes_of bin_cmp state.outstanding id bin in (
      bin,
      found,
      λ from. h
          (IsFromCuts-same boxes (filter has_cells boxes) (HaveSameBoxes-sym (filter has_cells boxes) boxes (HaveSameBoxes-filter boxes)) from),
    )
planned bin_cmp state id bin found (Some plan) h =
    let boxes = boxes_of bin_cmp state.outstanding id bin in
    (bin, found, IsCutPlan-same (filter has_cells boxes) boxes (whole bin.size) plan.items (HaveSameBoxes-filter boxes) h)

pub returns-in_default : goal.returns-in_default
returns-in_default g c =
    record { planned = rw (← c.self.view_is) (None-bins_of (is_at (g.BinId.Ord.cmp c.args.id.now)) c.self.inside.bins.entries (search rules)) }

pub returns-in_err-boxes : goal.returns-in_err-boxes
returns-in_err-boxes g c =
    record {
      planned = rw (
        memory_refused c.from_residual.result c.from_residual.ensures.1,
        ← c.self.view_is,
        Some-bins_of
            (is_at (g.BinId.Ord.cmp c.args.id.now)) c.self.inside.bins.entries c.in-Some.bin.now (sym c.in-Some.ensures.value),
      ) refl;
    }

pub plan_of-requires : goal.plan_of-requires
plan_of-requires g c =
    let cmp = g.BinId.Ord.cmp in
    let id = c.args.id.now in
    let bin = c.in-Some.bin.now.bin in
    let found = Some-bins_of (is_at (cmp id)) c.self.inside.bins.entries c.in-Some.bin.now (sym c.in-Some.ensures.value) in
    record {
      filled = rw (c.whole.ensures.whole, c.as_mut_slice.ensures.value, c.in_ok-boxes.ensures {u = tt}, c.as_slice.ensures.value)
          (IsFilled-bin bin.size (boxes_of cmp c.self.inside.outstanding.items id bin) (rw c.whole.ensures.whole at c.whole.ensures.fits)
          (c.self.invariant.covered id bin found));
    }

pub returns-in_err-plan : goal.returns-in_err-plan
returns-in_err-plan g c =
    record {
      planned = rw (
        memory_refused c.from_residual-in_err-plan.result c.from_residual-in_err-plan.ensures.1,
        ← c.self.view_is,
        Some-bins_of
            (is_at (g.BinId.Ord.cmp c.args.id.now)) c.self.inside.bins.entries c.in-Some.bin.now (sym c.in-Some.ensures.value),
      ) refl;
    }

pub returns : goal.returns
returns g c =
    let cmp = g.BinId.Ord.cmp in
    let id = c.args.id.now in
    let entries = c.self.inside.bins.entries in
    let found = Some-bins_of (is_at (cmp id)) entries c.in-Some.bin.now (sym c.in-Some.ensures.value) in
    let state : State g.row.Id.Denot g.row.BinId.Denot = record {
      bins = bins_of entries;
      outstanding = c.self.inside.outstanding.items;
      next = c.self.inside.next;
    } in
    let plan = rw (c.whole.ensures.whole, c.as_mut_slice.ensures.value, c.in_ok-boxes.ensures {u = tt}, c.as_slice.ensures.value) at
    (c.in_ok-plan.ensures {u = tt}) in
    record {
      planned = subst (λ state. IsPlanAnswer cmp state id (Ok c.in_ok-plan.plan)) c.self.view_is
          (planned cmp state id c.in-Some.bin.now.bin found c.in_ok-plan.plan plan);
    }
