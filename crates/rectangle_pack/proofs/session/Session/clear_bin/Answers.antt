use Rattle.rectangle_pack_sections.proofs.Std.{refl, ap, sym, rules, is_at}
use Rattle.rectangle_pack.proofs.lemmas.session.Keeps.{Some-bins_of, None-bins_of}
use Rattle.rectangle_pack.proofs.lemmas.session.Packing.{state}
use Rattle.rectangle_pack.proofs.lemmas.session.Transitions.{memory_refused}
use Rattle.rectangle_pack.proofs.lemmas.session.Upkeep.{bins_of-same, cleared-written}
use Rattle.rectangle_pack.proofs.session.Session.clear_bin.Goals as goal

pub returns-in_default-clause-cleared : goal.returns-in_default-clause-cleared
returns-in_default-clause-cleared g c = rw (← c.self.view_is)
    (None-bins_of (is_at (g.BinId.Ord.cmp c.args.id.now)) c.self.inside.bins.entries (search rules), rw c.get_mut.follows.holds-at-none refl)

pub returns-in_err-clear-clause-cleared : goal.returns-in_err-clear-clause-cleared
returns-in_err-clear-clause-cleared g c =
    let test = is_at (g.BinId.Ord.cmp c.args.id.now) in
    let found = sym c.in-Some.ensures.value in
    rw (memory_refused c.from_residual.result c.from_residual.ensures.1, ← c.self.view_is) (
      c.in-Some.bin.now.bin,
      Some-bins_of test c.self.inside.bins.entries c.in-Some.bin.now found,
      c.in_err-clear.ensures.empty,
      ap (λ bs. state bs c.self.inside.outstanding.items c.self.inside.next) (bins_of-same test c.self.inside.bins.entries _ c.in-Some.bin.now _ found
          (c.get_mut.follows.holds _).0 c.in_err-clear.ensures.err),
    )

pub invariant_of-self-in_err-clear : goal.invariant_of-self-in_err-clear
invariant_of-self-in_err-clear g c =
    rw (bins_of-same (is_at (g.BinId.Ord.cmp c.args.id.now)) c.self.inside.bins.entries _ c.in-Some.bin.now c.clear.new.self
    (sym c.in-Some.ensures.value) (c.get_mut.follows.holds _).0 c.in_err-clear.ensures.err) c.self.invariant

pub returns-in_err-clear-clause-always : goal.returns-in_err-clear-clause-always
returns-in_err-clear-clause-always g c = invariant_of-self-in_err-clear g c

pub invariant_of-self-2 : goal.invariant_of-self-2
invariant_of-self-2 g c =
    (cleared-written g.met.BinId.Ord.total c.args.id.now _ _ c.in-Some.bin.now _ _ _ _ (sym c.in-Some.ensures.value) (c.get_mut.follows.holds _).0
    c.in_ok-clear.ensures.ok c.forget.ensures c.self.invariant).1

pub returns-clause-cleared : goal.returns-clause-cleared
returns-clause-cleared g c =
    rw (← c.self.view_is)
    (cleared-written g.met.BinId.Ord.total c.args.id.now _ _ c.in-Some.bin.now _ _ _ _ (sym c.in-Some.ensures.value) (c.get_mut.follows.holds _).0
    c.in_ok-clear.ensures.ok c.forget.ensures c.self.invariant).0

pub returns-clause-always : goal.returns-clause-always
returns-clause-always g c = invariant_of-self-2 g c
