use Rattle.rectangle_pack_sections.specs.Bins.{bins_of}
use Rattle.rectangle_pack.specs.Restoring.{state_of_parts}
use Rattle.rectangle_pack.proofs.lemmas.session.Restoring.{IsSession-whole, restored-record, restored-bin, no_session-record, no_session-bin}
use Rattle.rectangle_pack.proofs.session.Session.restore.Goals as goal

pub returns-in-Some : goal.returns-in-Some
returns-in-Some g c = record {
  restored = restored-record g.BinId.Ord.cmp (state_of_parts c.args.parts) c.in-Some.error (rw c.as_slice.ensures.value at c.in-Some.ensures);
  refused = no_session-record g.BinId.Ord.cmp (state_of_parts c.args.parts) c.in-Some.error (rw c.as_slice.ensures.value at c.in-Some.ensures);
  always = tt;
}

pub returns-in-Some-2 : goal.returns-in-Some-2
returns-in-Some-2 g c = record {
  restored = restored-bin g.BinId.Ord.cmp (state_of_parts c.args.parts) c.in-Some-2.error (rw c.as_slice.ensures.value at c.in_default.ensures)
      (rw (c.as_slice-2.ensures.value, c.in-Some-2.is) at c.in_ok-error.ensures);
  refused = no_session-bin g.BinId.Ord.cmp (state_of_parts c.args.parts) c.in-Some-2.error
      (rw (c.as_slice-2.ensures.value, c.in-Some-2.is) at c.in_ok-error.ensures);
  always = tt;
}

pub invariant_of-result : goal.invariant_of-result
invariant_of-result g c =
    rw c.of.ensures.items
    (IsSession-whole g.met.BinId.Ord.total c.args.parts.outstanding.items (bins_of c.args.parts.bins.entries) c.args.parts.next
    (rw c.as_slice.ensures.value at c.in_default.ensures) (rw (c.as_slice-2.ensures.value, c.in_default-2.is) at c.in_ok-error.ensures))

pub returns-clause-always : goal.returns-clause-always
returns-clause-always g c = invariant_of-result g c
