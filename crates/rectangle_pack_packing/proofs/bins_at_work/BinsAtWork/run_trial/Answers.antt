use Rattle.rectangle_pack_sections.proofs.Std.{ℕ, ◌≡◌, ◌<◌, ◌∙◌, ap, sym, refl, arith, get_or, length, IsSome, is_some, None, Some, set, length-set}
use Rattle.rectangle_pack_sections.proofs.Std.{option_copied_mut, get_or_default, Result, Ok, Err, OnErr, AllocError, All}
use Rattle.rectangle_pack_sections.specs.Boxes.{FitsU32}
use Rattle.rectangle_pack_sections.specs.Bins.{bins_of, IsSound}
use Rattle.rectangle_pack_lists.specs.declared.free_list.End.{End}
use Rattle.rectangle_pack_lists.specs.declared.free_list.End.TheVariants.{Keep, Undo}
use Rattle.rectangle_pack_lists.specs.private.FreeLists.{now_of, start_of}
use Rattle.rectangle_pack_lists.proofs.lemmas.trial.Steps.{IsSound-tried, fits-tried}
use Rattle.rectangle_pack_packing.specs.declared.bins_at_work.Lent.{Lent}
use Rattle.rectangle_pack_packing.specs.private.BinsAtWork.{AtWork, checked_in, left_of, left_at, IsTriedIn}
use Rattle.rectangle_pack_packing.proofs.lemmas.bins.BinsAtWork.{parts, left_of-in_use, is_out-within, entry_at, CanCheckIn-written, IsTriedIn-stuck, IsTried-stuck}
use Rattle.rectangle_pack_packing.proofs.lemmas.bins.BinsAtWork.{IsTriedIn-out, checked_in-stays, AreSummed-tried}
use Rattle.rectangle_pack_packing.proofs.bins_at_work.BinsAtWork.run_trial.Given.{Over}
use Rattle.rectangle_pack_packing.proofs.bins_at_work.BinsAtWork.run_trial.Goals.{After-run_trial_in}
use Rattle.rectangle_pack_packing.proofs.bins_at_work.BinsAtWork.run_trial.Goals.at as goal_at
use Rattle.rectangle_pack_packing.proofs.bins_at_work.BinsAtWork.run_trial.Goals as goal

on_err : {X E : Type 0} {P : Type 0} (r : Result X E) → P → OnErr r P
on_err (Ok x) p = tt
on_err (Err e) p = p

pub returns-in-Some-clause-tried : goal.returns-in-Some-clause-tried
returns-in-Some-clause-tried g c = λ o is.
    let stuck = c.in-Some.ensures.stuck in (
      stuck.1,
      stuck.1,
      rw c.look.ensures.same (IsTriedIn-stuck g.B.Ord.cmp o.1 c.args.self.now.now stuck.1 (stuck.2.found o is)),
      IsTried-stuck AllocError (g.R.Policy.may c.args.policy.now) stuck.1.sections c.args.sizes.now c.in-Some.trial c.args.locations.now.items stuck.0 stuck.3,
    )

pub returns-in_err-check_out-clause-err : goal.returns-in_err-check_out-clause-err
returns-in_err-check_out-clause-err g c = on_err c.from_residual.result (c.check_out.ensures.left Keep ∙ (parts c.look.ensures.same).0)

pub returns-in_err-check_out-clause-start : goal.returns-in_err-check_out-clause-start
returns-in_err-check_out-clause-start g c = c.check_out.ensures.left Undo ∙ (parts c.look.ensures.same).1

pub index_mut-requires : goal.index_mut-requires
index_mut-requires g c =
    let some : IsSome (get_or c.self.inside.out.items c.args.index None) = rw (parts c.self.view_is).3 c.in_ok-check_out.ensures.out in
    omega (arith, is_out-within c.self.inside.out.items c.args.index some, c.self.inside.out.ok.0)

pub unwrap-bin-requires : goal.unwrap-bin-requires
unwrap-bin-requires g c =
    let out = c.self.inside.out.items in
    let some : IsSome (get_or out c.args.index None) = rw (parts c.self.view_is).3 c.in_ok-check_out.ensures.out in
    c.as_mut.ensures.variant ∙ ap is_some (c.index_mut.ensures.value
    ∙ sym (get_or_default out c.args.index None c.index_mut.result.now (is_out-within out c.args.index some))) ∙ some

-- what is seen of a bin that is lent
abbrev seen : {A : Type 0} → Lent A → AtWork
seen lent = record {
  start = record lent.bin.bin { sections = start_of lent.list };
  now = record lent.bin.bin { sections = now_of lent.list };
}

-- the bin before the trial
abbrev before : (g : Over) → After-run_trial_in g → AtWork
before g c = seen c.deref_mut.result.now

-- and after it
abbrev after : (g : Over) → After-run_trial_in g → AtWork
after g c = record {
  start = record c.deref_mut.result.now.bin.bin { sections = start_of c.run_trial_in.new.self };
  now = record c.deref_mut.result.now.bin.bin { sections = now_of c.run_trial_in.new.self };
}

-- its sections stay sound
sound : (g : Over) (c : After-run_trial_in g) → IsSound c.deref_mut.result.now.bin.bin.size (start_of c.run_trial_in.new.self)
    × IsSound c.deref_mut.result.now.bin.bin.size (now_of c.run_trial_in.new.self) × All FitsU32 (now_of c.run_trial_in.new.self)
sound g c =
    let may = g.R.Policy.may c.args.policy.now in
    let tried = c.run_trial_in.ensures.tried in
    let kept = rw (← c.deref_mut.ensures.value) at c.bin.invariant in (
      rw c.run_trial_in.ensures.start kept.0,
      IsSound-tried may {E = AllocError} _ _ _ _ _ _ tried kept.1,
      fits-tried may {E = AllocError} _ _ _ _ _ tried kept.2,
    )

in_order : (g : Over) (c : After-run_trial_in g) → c.args.index < length c.self.inside.order.now
in_order g c = rw ((parts c.self.view_is).2, c.in_ok-check_out.ensures.order, c.look.ensures.same) c.requires.in_order

-- it stands in the list
held : (g : Over) (c : After-run_trial_in g) → get_or c.self.inside.out.items c.args.index None ≡ Some (before g c)
held g c =
    let out = c.self.inside.out.items in
    let some : IsSome (get_or out c.args.index None) = rw (parts c.self.view_is).3 c.in_ok-check_out.ensures.out in
    get_or_default out c.args.index None c.index_mut.result.now (is_out-within out c.args.index some) ∙ sym c.index_mut.ensures.value
    ∙ sym c.as_mut.ensures.value ∙ ap option_copied_mut c.unwrap-bin.ensures ∙ ap (λ b. Some b) (sym c.bin.view_is ∙ ap seen (sym c.deref_mut.ensures.value))

-- the bins are as they were at first
left : (g : Over) (c : After-run_trial_in g) (end : End)
    → checked_in g.B.Ord.cmp end c.self.inside.order.now c.self.inside.out.items (bins_of c.self.inside.bins.entries) ≡ left_of end c.args.self.now
left g c end =
    sym (left_of-in_use g.B.Ord.cmp end c.self.inside.order.now c.self.inside.out.items (bins_of c.self.inside.bins.entries))
    ∙ ap (left_of end) c.self.view_is ∙ c.in_ok-check_out.ensures.left end ∙ ap (left_of end) c.look.ensures.same

-- and where the trial leaves the bin, they stay
stays : (g : Over) (c : After-run_trial_in g) (end : End) → left_at end (after g c) ≡ left_at end (before g c)
    → checked_in g.B.Ord.cmp end c.self.inside.order.now (set c.self.inside.out.items c.args.index (Some (after g c))) (bins_of c.self.inside.bins.entries)
    ≡ checked_in g.B.Ord.cmp end c.self.inside.order.now c.self.inside.out.items (bins_of c.self.inside.bins.entries)
stays g c end same =
    let (o, is) = entry_at c.self.inside.order.now c.args.index (in_order g c) in
    checked_in-stays g.met.B.Ord.total c.self.inside.order.now c.self.inside.out.items (bins_of c.self.inside.bins.entries) c.args.index o
    c.self.invariant.0 (in_order g c) is (before g c) (after g c) (held g c) end same

-- the bin was tried
tried : (g : Over) (c : After-run_trial_in g) (o : ℕ × g.row.B.Denot) → o ≡ get_or c.self.inside.order.now c.args.index o
    → IsTriedIn g.B.Ord.cmp o.1 (checked_in g.B.Ord.cmp Keep c.self.inside.order.now c.self.inside.out.items (bins_of c.self.inside.bins.entries)) (before g c).now
    (after g c).now (checked_in g.B.Ord.cmp Keep c.self.inside.order.now (set c.self.inside.out.items c.args.index (Some (after g c))) (bins_of c.self.inside.bins.entries))
tried g c o is =
    IsTriedIn-out g.met.B.Ord.total c.self.inside.order.now c.self.inside.out.items (bins_of c.self.inside.bins.entries) c.args.index o c.self.invariant.0
    (in_order g c) is (before g c) (after g c) (held g c) refl

pub invariant_of-bin : goal.invariant_of-bin
invariant_of-bin g c = sound g (goal_at.invariant_of-bin g c).After-run_trial_in

pub invariant_of-bin-2 : goal.invariant_of-bin-2
invariant_of-bin-2 g c = sound g (goal_at.invariant_of-bin-2 g c).After-run_trial_in

pub invariant_of-self : goal.invariant_of-self
invariant_of-self g c =
    let at = (goal_at.invariant_of-self g c).After-run_trial_in in (
      CanCheckIn-written _ _ refl (rw (length-set c.self.inside.out.items c.args.index (Some (after g at))) c.self.invariant.0.within) c.self.invariant.0,
      rw (stays g at Keep (rw c.in_err-trial.ensures.tried refl)) c.self.invariant.1,
    )

pub invariant_of-self-2 : goal.invariant_of-self-2
invariant_of-self-2 g c =
    let at = (goal_at.invariant_of-self-2 g c).After-run_trial_in in
    let order = c.self.inside.order.now in
    let (o, is) = entry_at order c.args.index (in_order g at) in (
      CanCheckIn-written _ _ refl (rw (length-set c.self.inside.out.items c.args.index (Some (after g at))) c.self.invariant.0.within) c.self.invariant.0,
      AreSummed-tried g.met.B.Ord.total order _ _ c.args.index o (before g at).now (after g at).now c.self.inside.summaries c.sum_anew.new.summaries
          c.self.invariant.0.distinct (in_order g at) is c.self.invariant.1 (tried g at o is)
          (λ known. c.sum_anew.ensures.here (λ not_done. rw (rw not_done at c.in_ok-trial.ensures.tried).1 known)) c.sum_anew.ensures.elsewhere,
    )

pub returns-in_err-trial-clause-err : goal.returns-in_err-trial-clause-err
returns-in_err-trial-clause-err g c =
    let at = (goal_at.returns-in_err-trial-clause-err g c).After-run_trial_in in
    on_err c.from_residual-in_err-trial.result (stays g at Keep (rw c.in_err-trial.ensures.tried refl) ∙ left g at Keep)

pub returns-in_err-trial-clause-start : goal.returns-in_err-trial-clause-start
returns-in_err-trial-clause-start g c =
    let at = (goal_at.returns-in_err-trial-clause-start g c).After-run_trial_in in
    stays g at Undo (rw c.run_trial_in.ensures.start refl) ∙ left g at Undo

pub returns-clause-start : goal.returns-clause-start
returns-clause-start g c =
    let at = (goal_at.returns-clause-start g c).After-run_trial_in in
    stays g at Undo (rw c.run_trial_in.ensures.start refl) ∙ left g at Undo

pub returns-clause-tried : goal.returns-clause-tried
returns-clause-tried g c = λ o is.
    let at = (goal_at.returns-clause-tried g c).After-run_trial_in in
    let same = (parts c.self.view_is).2 ∙ c.in_ok-check_out.ensures.order ∙ (parts c.look.ensures.same).2 in
    let there : o ≡ get_or c.self.inside.order.now c.args.index o = rw same is in (
      (before g at).now,
      (after g at).now,
      rw (← left g at Keep) (tried g at o there),
      c.in_ok-trial.ensures.tried,
    )
