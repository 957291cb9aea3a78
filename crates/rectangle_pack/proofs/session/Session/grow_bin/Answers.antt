use Rattle.rectangle_pack_sections.proofs.Std.{sym, refl, rules, is_at}
use Rattle.rectangle_pack.proofs.lemmas.session.Keeps.{Some-bins_of, None-bins_of}
use Rattle.rectangle_pack.proofs.lemmas.session.Transitions.{memory_refused}
use Rattle.rectangle_pack.proofs.lemmas.session.Growing.{unwritten, IsSession-unwritten, grown-written, not_below}
use Rattle.rectangle_pack.proofs.session.Session.grow_bin.Goals as goal

pub returns-in_default-clause-grown : goal.returns-in_default-clause-grown
returns-in_default-clause-grown g c = rw (← c.self.view_is)
    (None-bins_of (is_at (g.BinId.Ord.cmp c.args.id.now)) c.self.inside.bins.entries (search rules), rw c.get_mut.follows.holds-at-none refl)

pub invariant_of-self-then-not-can_grow : goal.invariant_of-self-then-not-can_grow
invariant_of-self-then-not-can_grow g c =
    IsSession-unwritten _ _ _ c.in-Some.bin.now _ _ _ (sym c.in-Some.ensures.value) (c.get_mut.follows.holds _).0 refl c.self.invariant

pub returns-then-not-can_grow-clause-grown : goal.returns-then-not-can_grow-clause-grown
returns-then-not-can_grow-clause-grown g c = rw (← c.self.view_is) (
  c.in-Some.bin.now.bin,
  Some-bins_of (is_at (g.BinId.Ord.cmp c.args.id.now)) c.self.inside.bins.entries c.in-Some.bin.now (sym c.in-Some.ensures.value),
  not_below c.can_grow.result _ _ c.can_grow.ensures c.if-not-can_grow.true,
  unwritten _ _ _ c.in-Some.bin.now _ _ _ (sym c.in-Some.ensures.value) (c.get_mut.follows.holds _).0 refl,
)

pub returns-then-not-can_grow-clause-always : goal.returns-then-not-can_grow-clause-always
returns-then-not-can_grow-clause-always g c = invariant_of-self-then-not-can_grow g c

pub invariant_of-self-in_err-reserve : goal.invariant_of-self-in_err-reserve
invariant_of-self-in_err-reserve g c =
    IsSession-unwritten _ _ _ c.in-Some.bin.now _ _ _ (sym c.in-Some.ensures.value) (c.get_mut.follows.holds _).0 refl c.self.invariant

pub returns-in_err-reserve-clause-grown : goal.returns-in_err-reserve-clause-grown
returns-in_err-reserve-clause-grown g c = rw (memory_refused c.from_residual.result c.from_residual.ensures.1, ← c.self.view_is) (
  c.in-Some.bin.now.bin,
  Some-bins_of (is_at (g.BinId.Ord.cmp c.args.id.now)) c.self.inside.bins.entries c.in-Some.bin.now (sym c.in-Some.ensures.value),
  c.can_grow.ensures.0 c.if-not-can_grow.false,
  unwritten _ _ _ c.in-Some.bin.now _ _ _ (sym c.in-Some.ensures.value) (c.get_mut.follows.holds _).0 refl,
)

pub returns-in_err-reserve-clause-always : goal.returns-in_err-reserve-clause-always
returns-in_err-reserve-clause-always g c = invariant_of-self-in_err-reserve g c

pub invariant_of-self-in_err-grow : goal.invariant_of-self-in_err-grow
invariant_of-self-in_err-grow g c =
    IsSession-unwritten _ _ _ c.in-Some.bin.now _ _ _ (sym c.in-Some.ensures.value) (c.get_mut.follows.holds _).0 c.in_err-grow.ensures.err c.self.invariant

pub returns-in_err-grow-clause-grown : goal.returns-in_err-grow-clause-grown
returns-in_err-grow-clause-grown g c = rw (memory_refused c.from_residual-in_err-grow.result c.from_residual-in_err-grow.ensures.1, ← c.self.view_is) (
  c.in-Some.bin.now.bin,
  Some-bins_of (is_at (g.BinId.Ord.cmp c.args.id.now)) c.self.inside.bins.entries c.in-Some.bin.now (sym c.in-Some.ensures.value),
  c.can_grow.ensures.0 c.if-not-can_grow.false,
  unwritten _ _ _ c.in-Some.bin.now _ _ _ (sym c.in-Some.ensures.value) (c.get_mut.follows.holds _).0 c.in_err-grow.ensures.err,
)

pub returns-in_err-grow-clause-always : goal.returns-in_err-grow-clause-always
returns-in_err-grow-clause-always g c = invariant_of-self-in_err-grow g c

pub invariant_of-self-2 : goal.invariant_of-self-2
invariant_of-self-2 g c =
    (grown-written g.met.BinId.Ord.total c.args.id.now c.args.axis c.args.by _ _ c.in-Some.bin.now _ _ _ (sym c.in-Some.ensures.value)
    (c.get_mut.follows.holds _).0 c.in_ok-grow.ensures.ok (c.can_grow.ensures.0 c.if-not-can_grow.false) c.self.invariant).1

pub returns-clause-grown : goal.returns-clause-grown
returns-clause-grown g c = rw (← c.self.view_is)
    (grown-written g.met.BinId.Ord.total c.args.id.now c.args.axis c.args.by _ _ c.in-Some.bin.now _ _ _ (sym c.in-Some.ensures.value)
    (c.get_mut.follows.holds _).0 c.in_ok-grow.ensures.ok (c.can_grow.ensures.0 c.if-not-can_grow.false) c.self.invariant).0

pub returns-clause-always : goal.returns-clause-always
returns-clause-always g c = invariant_of-self-2 g c
