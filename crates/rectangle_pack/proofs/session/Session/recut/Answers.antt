use Rattle.rectangle_pack_sections.proofs.Std.{sym, refl, rules, is_at}
use Rattle.rectangle_pack.specs.Session.{outstanding_in}
use Rattle.rectangle_pack.proofs.lemmas.session.Keeps.{Some-bins_of, None-bins_of}
use Rattle.rectangle_pack.proofs.lemmas.session.Growing.{unwritten, IsSession-unwritten}
use Rattle.rectangle_pack.proofs.lemmas.session.Packing.{state}
use Rattle.rectangle_pack.proofs.lemmas.session.Recutting.{recut-written, sound-anew, standing_inside}
use Rattle.rectangle_pack.proofs.lemmas.session.Transitions.{memory_refused}
use Rattle.rectangle_pack.proofs.session.Session.recut.Goals as goal

pub returns-in_default-clause-recut : goal.returns-in_default-clause-recut
returns-in_default-clause-recut g c = rw (← c.self.view_is)
    (None-bins_of (is_at (g.BinId.Ord.cmp c.args.id.now)) c.self.inside.bins.entries (search rules), rw c.get_mut.follows.holds-at-none refl)

pub free_anew-requires-clause-inside : goal.free_anew-requires-clause-inside
free_anew-requires-clause-inside g c = rw (c.whole.ensures.whole, c.as_slice-outstanding.ensures.value)
    (standing_inside g.BinId.Ord.cmp c.args.id.now (state _ c.self.inside.outstanding.items c.self.inside.next) c.in-Some.bin.now.bin
    (Some-bins_of (is_at (g.BinId.Ord.cmp c.args.id.now)) c.self.inside.bins.entries c.in-Some.bin.now (sym c.in-Some.ensures.value)) c.self.invariant)

pub invariant_of-self-in_err-sections : goal.invariant_of-self-in_err-sections
invariant_of-self-in_err-sections g c =
    IsSession-unwritten _ _ _ c.in-Some.bin.now _ _ _ (sym c.in-Some.ensures.value) (c.get_mut.follows.holds _).0 refl c.self.invariant

pub returns-in_err-sections-clause-recut : goal.returns-in_err-sections-clause-recut
returns-in_err-sections-clause-recut g c = rw (memory_refused c.from_residual.result c.from_residual.ensures.1, ← c.self.view_is) (
  rw (Some-bins_of (is_at (g.BinId.Ord.cmp c.args.id.now)) c.self.inside.bins.entries c.in-Some.bin.now (sym c.in-Some.ensures.value)) refl,
  unwritten _ _ _ c.in-Some.bin.now _ _ _ (sym c.in-Some.ensures.value) (c.get_mut.follows.holds _).0 refl,
)

pub returns-in_err-sections-clause-always : goal.returns-in_err-sections-clause-always
returns-in_err-sections-clause-always g c = invariant_of-self-in_err-sections g c

pub invariant_of-self-in_default-2 : goal.invariant_of-self-in_default-2
invariant_of-self-in_default-2 g c =
    IsSession-unwritten _ _ _ c.in-Some.bin.now _ _ _ (sym c.in-Some.ensures.value) (c.get_mut.follows.holds _).0 refl c.self.invariant

pub returns-in_default-2-clause-recut : goal.returns-in_default-2-clause-recut
returns-in_default-2-clause-recut g c = rw (← c.self.view_is) (
  c.in-Some.bin.now.bin,
  Some-bins_of (is_at (g.BinId.Ord.cmp c.args.id.now)) c.self.inside.bins.entries c.in-Some.bin.now (sym c.in-Some.ensures.value),
  rw (c.whole.ensures.whole, c.as_slice-outstanding.ensures.value, c.in_default-2.is) at (c.in_ok-sections.ensures {u = tt}),
  unwritten _ _ _ c.in-Some.bin.now _ _ _ (sym c.in-Some.ensures.value) (c.get_mut.follows.holds _).0 refl,
)

pub returns-in_default-2-clause-always : goal.returns-in_default-2-clause-always
returns-in_default-2-clause-always g c = invariant_of-self-in_default-2 g c

pub invariant_of-self-in_err-reserve : goal.invariant_of-self-in_err-reserve
invariant_of-self-in_err-reserve g c =
    IsSession-unwritten _ _ _ c.in-Some.bin.now _ _ _ (sym c.in-Some.ensures.value) (c.get_mut.follows.holds _).0 refl c.self.invariant

pub returns-in_err-reserve-clause-recut : goal.returns-in_err-reserve-clause-recut
returns-in_err-reserve-clause-recut g c =
    rw (memory_refused c.from_residual-in_err-reserve.result c.from_residual-in_err-reserve.ensures.1, ← c.self.view_is) (
      rw (Some-bins_of (is_at (g.BinId.Ord.cmp c.args.id.now)) c.self.inside.bins.entries c.in-Some.bin.now (sym c.in-Some.ensures.value)) refl,
      unwritten _ _ _ c.in-Some.bin.now _ _ _ (sym c.in-Some.ensures.value) (c.get_mut.follows.holds _).0 refl,
    )

pub returns-in_err-reserve-clause-always : goal.returns-in_err-reserve-clause-always
returns-in_err-reserve-clause-always g c = invariant_of-self-in_err-reserve g c

pub put_sections-requires : goal.put_sections-requires
put_sections-requires g c =
    sound-anew c.in-Some.bin.now.bin.size (outstanding_in g.BinId.Ord.cmp c.self.inside.outstanding.items c.args.id.now) c.in-Some-2.sections.items
    (rw (c.whole.ensures.whole, c.as_slice-outstanding.ensures.value, c.in-Some-2.is) at (c.in_ok-sections.ensures {u = tt}))

pub invariant_of-self-2 : goal.invariant_of-self-2
invariant_of-self-2 g c =
    let anew = rw (c.whole.ensures.whole, c.as_slice-outstanding.ensures.value, c.in-Some-2.is) at (c.in_ok-sections.ensures {u = tt}) in
    (recut-written g.met.BinId.Ord.total c.args.id.now _ _ c.in-Some.bin.now _ _ _ _ (sym c.in-Some.ensures.value) (c.get_mut.follows.holds _).0
    c.put_sections.ensures.bin (rw c.whole.ensures.whole at c.whole.ensures.fits) anew c.self.invariant).always

pub returns-clause-recut : goal.returns-clause-recut
returns-clause-recut g c =
    let anew = rw (c.whole.ensures.whole, c.as_slice-outstanding.ensures.value, c.in-Some-2.is) at (c.in_ok-sections.ensures {u = tt}) in
    rw (← c.self.view_is) (recut-written g.met.BinId.Ord.total c.args.id.now _ _ c.in-Some.bin.now _ _ _ _ (sym c.in-Some.ensures.value) (c.get_mut.follows.holds _).0
    c.put_sections.ensures.bin (rw c.whole.ensures.whole at c.whole.ensures.fits) anew c.self.invariant).recut

pub returns-clause-filled : goal.returns-clause-filled
returns-clause-filled g c =
    let anew = rw (c.whole.ensures.whole, c.as_slice-outstanding.ensures.value, c.in-Some-2.is) at (c.in_ok-sections.ensures {u = tt}) in
    rw (← c.self.view_is) (recut-written g.met.BinId.Ord.total c.args.id.now _ _ c.in-Some.bin.now _ _ _ _ (sym c.in-Some.ensures.value) (c.get_mut.follows.holds _).0
    c.put_sections.ensures.bin (rw c.whole.ensures.whole at c.whole.ensures.fits) anew c.self.invariant).filled

pub returns-clause-from_cuts : goal.returns-clause-from_cuts
returns-clause-from_cuts g c =
    let anew = rw (c.whole.ensures.whole, c.as_slice-outstanding.ensures.value, c.in-Some-2.is) at (c.in_ok-sections.ensures {u = tt}) in
    (recut-written g.met.BinId.Ord.total c.args.id.now _ _ c.in-Some.bin.now _ _ _ _ (sym c.in-Some.ensures.value) (c.get_mut.follows.holds _).0
    c.put_sections.ensures.bin (rw c.whole.ensures.whole at c.whole.ensures.fits) anew c.self.invariant).from_cuts

pub returns-clause-empty : goal.returns-clause-empty
returns-clause-empty g c =
    let anew = rw (c.whole.ensures.whole, c.as_slice-outstanding.ensures.value, c.in-Some-2.is) at (c.in_ok-sections.ensures {u = tt}) in
    (recut-written g.met.BinId.Ord.total c.args.id.now _ _ c.in-Some.bin.now _ _ _ _ (sym c.in-Some.ensures.value) (c.get_mut.follows.holds _).0
    c.put_sections.ensures.bin (rw c.whole.ensures.whole at c.whole.ensures.fits) anew c.self.invariant).empty

pub returns-clause-always : goal.returns-clause-always
returns-clause-always g c = invariant_of-self-2 g c
