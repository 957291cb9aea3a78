use Rattle.rectangle_pack_c.proofs.Std.{refl, subst}
use Rattle.std.proofs.Common.{Err}
use Rattle.std.specs.Ordering.{nat_cmp}
use Rattle.rectangle_pack.specs.Boxes.{Cuboid}
use Rattle.rectangle_pack.specs.PlacingAt.{PlacesAt}
use Rattle.rectangle_pack.specs.declared.session.command.Reply.TheVariants.{Done, Refused}
use Rattle.rectangle_pack_c.proofs.SessionLemmas.{changed_so}
use Rattle.rectangle_pack_c.proofs.upkeep.rectangle_pack_session_place_at.Goals as goal

pub returns-in-Ok : goal.returns-in-Ok
returns-in-Ok c = record {
  placed = changed_so Done c.take-held.ensures.taken c.deref_mut.ensures.value c.of.ensures refl
      (rw c.location_of.ensures at c.in-Ok.ensures.placed) c.in-Ok.ensures.always;
}

pub returns-in-Err : goal.returns-in-Err
returns-in-Err c = record {
  placed = changed_so (Refused c.in-Err.error) c.take-held.ensures.taken c.deref_mut.ensures.value c.of.ensures c.refusal.ensures (
    subst (λ (l : Cuboid). PlacesAt nat_cmp c.args.bin 0 l c.deref_mut.result.now (Err c.in-Err.error) c.place_at-answer.new.self)
        c.location_of.ensures c.in-Err.ensures.placed,
    refl,
  ) c.in-Err.ensures.always;
}
