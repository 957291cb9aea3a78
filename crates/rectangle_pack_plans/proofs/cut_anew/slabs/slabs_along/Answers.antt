use Rattle.rectangle_pack_sections.proofs.Std.{◌≡◌, Some, refl, ap, subst, arith, rules}
use Rattle.rectangle_pack_sections.specs.declared.span.Span.{Span}
use Rattle.rectangle_pack_plans.specs.private.CuttingAnew.{AreClosedWithin}
use Rattle.rectangle_pack_plans.proofs.lemmas.cut_anew.FreeIn.{AreSame-moved, AreBounds-same}
use Rattle.rectangle_pack_plans.proofs.lemmas.cut_anew.Slabs.{IsClosedOn-flat}
use Rattle.rectangle_pack_plans.proofs.lemmas.cut_anew.Rooms.{AreInRoom-permutation}
use Rattle.rectangle_pack_plans.proofs.cut_anew.slabs.slabs_along.Goals as goal
use Rattle.rectangle_pack_plans.proofs.cut_anew.slabs.slabs_along.Goals.{then-eq-via-then-eq, then-eq-via-else-eq+then-of-le1}

pub returns-then-eq-clause-slabs : goal.returns-then-eq-clause-slabs
returns-then-eq-clause-slabs g c = (
  refl,
  elim c.then-eq.branch [
    | then-eq-via-then-eq w ↦
        let same : c.args.closed ≡ Some c.args.axis = search rules in
        subst (λ a. AreClosedWithin a c.args.boxes.now) same c.requires.closed c.args.room.now c.requires.bounds
    | then-eq-via-else-eq+then-of-le1 w ↦
        IsClosedOn-flat c.args.axis c.args.room.now c.args.boxes.now (omega (arith, w.if-of-le1.true, ap (λ (s : Span). s.length) w.of.ensures.is))
  ],
)

pub slabs_on-requires-clause-filling : goal.slabs_on-requires-clause-filling
slabs_on-requires-clause-filling g c = AreInRoom-permutation c.args.room.now c.args.boxes.now c.order_on.new.boxes c.order_on.ensures.permutation c.requires.filling

pub slabs_on-requires-clause-bounds : goal.slabs_on-requires-clause-bounds
slabs_on-requires-clause-bounds g c = AreBounds-same c.args.boxes.now c.order_on.new.boxes
    (AreSame-moved c.args.boxes.now c.order_on.new.boxes c.order_on.ensures.permutation c.requires.filling.cells) c.args.room.now c.requires.bounds
