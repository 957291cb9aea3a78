use Rattle.rectangle_pack_sections.proofs.Std.{◌≡◌, ◌++◌, ◌+◌, arith, [], refl, sym, ap, ◌∙◌, sum, length, take, take_all, append-nil, subst}
use Rattle.rectangle_pack_lists.specs.Steps.{IsDone, IsStuck}
use Rattle.rectangle_pack_packing.specs.Packing.{Rules, rules_by, Members}
use Rattle.rectangle_pack_packing.specs.private.Excluded.{are_in}
use Rattle.rectangle_pack_packing.specs.private.OnItsWay.{OnItsWay}
use Rattle.rectangle_pack_packing.proofs.lemmas.packing.Groups.{IsPlaced-at, IsDone-length, IsTriedIn-same}
use Rattle.rectangle_pack_packing.proofs.lemmas.packing.Turns.{saturated-none, saturated-add, DoesNotTake-excluded, DoesNotTake-stuck}
use Rattle.rectangle_pack_packing.proofs.lemmas.packing.Turns.{ArePassed, ArePassed-more}
use Rattle.rectangle_pack_packing.proofs.lemmas.packing.PassedOver.{ArePassed-over}
use Rattle.rectangle_pack_packing.proofs.pack.packing.Packing.place_group.Given.{Over}
use Rattle.rectangle_pack_packing.proofs.pack.packing.Packing.place_group.Goals.{After-add}
use Rattle.rectangle_pack_packing.proofs.pack.packing.Packing.place_group.Goals.at as goal_at
use Rattle.rectangle_pack_packing.proofs.pack.packing.Packing.place_group.Goals as goal

abbrev by : (g : Over) → g.row.R.Denot → Rules g.row.Id.Denot g.row.B.Denot
by g rules = rules_by g.Id.Ord.cmp g.B.Ord.cmp (g.R.Policy.may rules)

abbrev group : (g : Over) → After-add g → Members g.row.Id.Denot
group g c = record { ids = c.args.ids.now; sizes = c.args.sizes.now }

-- the order that is read is that of the packing
order_is : (g : Over) (c : After-add g) → c.order-order.result.now ≡ c.args.self.now.bins.order
order_is g c = c.order-order.ensures ∙ ap (λ (p : OnItsWay g.row.Id.Denot g.row.B.Denot g.row.R.Denot). p.bins.order) c.self.view_is

-- no bin before the next one takes the group
passed : (g : Over) (c : After-add g) → ArePassed (by g c.args.self.now.policy) (are_in g.B.Ord.cmp c.args.excluded.now)
    (take c.next_bin-passed.result.index c.args.self.now.bins.order) (group g c) c.args.self.now.bins.now c.args.self.now.tests c.add.new.tests
passed g c =
    let old = c.args.self.now in
    let inv = c.loop-order.invariant in
    ArePassed-over (by g old.policy) c.args.excluded.now c.loop-order.self-inside.bins.now (group g c) old.bins.now old.bins.order
    c.loop-order.self-inside.bins.order c.loop-order.from c.next_bin-passed.result.index c.next_bin-passed.result.tests old.tests
    c.loop-order.self-inside.tests c.add.new.tests inv.same inv.order c.next_bin-passed.ensures.from inv.passed c.next_bin-passed.ensures.passed c.add.ensures

pub loop-order-init : goal.loop-order-init
loop-order-init g c =
    rw (← c.self.view_is)
    (record { same = refl; start = refl; order = refl; policy = refl; passed = ([], tt, λ later. omega arith); placements = refl })

pub returns-then-passed-order-clause-tried : goal.returns-then-passed-order-clause-tried
returns-then-passed-order-clause-tried g c =
    let at = (goal_at.returns-then-passed-order-clause-tried g c).After-add in
    let all = rw (take_all c.next_bin-passed.result.index c.args.self.now.bins.order (rw (order_is g at) at c.if-passed-order.true)) at (passed g at) in (
      sum all.0,
      record { counts = all.0; passed = all.1; tests_are = refl },
      c.loop-order.invariant.same,
      record { placements = c.loop-order.invariant.placements ∙ sym (append-nil _); tests = all.2 },
    )

pub loop-order-preserved-then-has : goal.loop-order-preserved-then-has
loop-order-preserved-then-has g c =
    let at = (goal_at.loop-order-preserved-then-has g c).After-add in
    let old = c.args.self.now in
    let inv = c.loop-order.invariant in
    let excluded = are_in g.B.Ord.cmp c.args.excluded.now in
    let o = c.index-order-passed.result in
    let before = passed g at in
    record {
      same = inv.same;
      start = inv.start;
      order = inv.order;
      policy = inv.policy;
      passed = ArePassed-more (by g old.policy) excluded old.bins.order c.next_bin-passed.result.index o (group g at) old.bins.now 0 old.tests c.add.new.tests _
          (rw (order_is g at) at c.if-passed-order.false) (rw (order_is g at) at c.index-order-passed.is) before
          (DoesNotTake-excluded (by g old.policy) excluded old.bins.now (group g at) o.1 (sym c.has.ensures ∙ c.if-has.true)) (saturated-none _ _ before.2);
      placements = inv.placements;
    }

pub loop-order-preserved : goal.loop-order-preserved
loop-order-preserved g c =
    let at = (goal_at.loop-order-preserved g c).After-add in
    let old = c.args.self.now in
    let inv = c.loop-order.invariant in
    let excluded = are_in g.B.Ord.cmp c.args.excluded.now in
    let o = c.index-order-passed.result in
    let is = rw (order_is g at) at c.index-order-passed.is in
    let tried = c.in_ok-trial.ensures.tried o (rw inv.order is) in
    let stuck = rw c.if-trial.false at tried.3 in
    let at_first = subst (λ (p : g.row.R.Denot). IsStuck (g.R.Policy.may p) tried.0.sections c.args.sizes.now c.in_ok-trial.trial.tests) inv.policy stuck.0 in
    record {
      same = IsTriedIn-same g.B.Ord.cmp o.1 _ tried.0 tried.1 c.run_trial.new.self.now tried.2 stuck.1 ∙ inv.same;
      start = c.run_trial.ensures.start ∙ inv.start;
      order = c.run_trial.ensures.order ∙ inv.order;
      policy = inv.policy;
      passed = ArePassed-more (by g old.policy) excluded old.bins.order c.next_bin-passed.result.index o (group g at) old.bins.now c.in_ok-trial.trial.tests
          old.tests c.add.new.tests _ (rw (order_is g at) at c.if-passed-order.false) is (passed g at)
          (DoesNotTake-stuck (by g old.policy) excluded old.bins.now (group g at) o.1 c.loop-order.self-inside.bins.now c.in_ok-trial.trial.tests
          (sym c.has.ensures ∙ c.if-has.false) inv.same (rw tried.2.found at_first)) c.add-in-loop-order.ensures;
      placements = inv.placements;
    }

pub name_all-requires-clause-lengths : goal.name_all-requires-clause-lengths
name_all-requires-clause-lengths g c =
    let at = (goal_at.name_all-requires-clause-lengths g c).After-add in
    let is = rw (order_is g at) at c.index-order-passed.is in
    let tried = c.in_ok-trial.ensures.tried c.index-order-passed.result (rw c.loop-order.invariant.order is) in
    let done = rw c.if-trial.true at tried.3 in
    c.requires.lengths ∙ IsDone-length _ _ _ _ _ _ done ∙ ap length (sym c.as_slice.ensures.value)

pub returns-then-trial-clause-tried : goal.returns-then-trial-clause-tried
returns-then-trial-clause-tried g c =
    let at = (goal_at.returns-then-trial-clause-tried g c).After-add in
    let old = c.args.self.now in
    let inv = c.loop-order.invariant in
    let o = c.index-order-passed.result in
    let is = rw (order_is g at) at c.index-order-passed.is in
    let tried = c.in_ok-trial.ensures.tried o (rw inv.order is) in
    let done = subst (λ (p : g.row.R.Denot). IsDone (g.R.Policy.may p) tried.0.sections c.args.sizes.now c.run_trial.new.locations.items tried.1.sections
    c.in_ok-trial.trial.tests) inv.policy (rw c.if-trial.true at tried.3) in
    let named = c.in_ok-name_all.ensures in
    let before = passed g at in
    let placed = IsPlaced-at (by g old.policy) (are_in g.B.Ord.cmp c.args.excluded.now) old.bins.order c.next_bin-passed.result.index o (group g at)
    old.bins.now c.loop-order.self-inside.bins.now c.run_trial.new.self.now tried.0 tried.1 c.run_trial.new.locations.items before.0
    c.in_ok-trial.trial.tests named.0 (rw (order_is g at) at c.if-passed-order.false) is inv.same before.1 (sym c.has.ensures ∙ c.if-has.false) tried.2 done
    (rw (← c.as_slice.ensures.value) named.1) in (
      named.0,
      sum before.0 + c.in_ok-trial.trial.tests,
      placed.0,
      placed.1,
      record {
        placements = named.2 ∙ ap (λ l. l ++ named.0) inv.placements;
        tests = saturated-add old.tests c.add.new.tests _ (sum before.0) c.in_ok-trial.trial.tests before.2 c.add-in-loop-order.ensures;
      },
    )
