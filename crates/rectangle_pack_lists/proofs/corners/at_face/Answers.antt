use Rattle.rectangle_pack_sections.proofs.Std.{◌≡◌, ap, ◌∙◌, sym, get_or_default}
use Rattle.std.proofs.lemmas.Bool.{true≢false}
use Rattle.rectangle_pack_sections.specs.Boxes.{Cuboid}
use Rattle.rectangle_pack_lists.specs.declared.corners.Name.{Name}
use Rattle.rectangle_pack_lists.specs.Joining.{entry}
use Rattle.rectangle_pack_lists.specs.private.Corners.{neighbour_number}
use Rattle.rectangle_pack_lists.proofs.lemmas.joining.Names.{at_face-some, at_face-none}
use Rattle.rectangle_pack_lists.proofs.corners.at_face.Goals as goal

pub returns : goal.returns
returns c =
    let slots = c.args.sections.now in
    let nothing : Cuboid = record { x = 0; y = 0; z = 0; whd = record { width = 0; height = 0; depth = 0 } } in
    let number : c.neighbour_number.result ≡ neighbour_number c.args.corner c.args.axis (entry slots c.args.slot) =
    c.neighbour_number.ensures ∙ ap (neighbour_number c.args.corner c.args.axis) (c.index-sections-slot.is ∙ get_or_default slots c.args.slot c.index-sections-slot.result nothing c.requires.full.within) in
    let name : Name = record { corner = 0; slot = 0 } in
    let found = c.in_ok-at.ensures {u = tt} in
    at_face-some c.args.corner slots c.args.names.now c.requires.named c.args.axis c.args.slot c.in_ok-at.at c.neighbour_number.result name number
    found.some.0 found.some.1 (c.is_beside.ensures.0 c.if-not-is_beside.false)

pub returns-then-not-is_beside : goal.returns-then-not-is_beside
returns-then-not-is_beside c =
    let slots = c.args.sections.now in
    let nothing : Cuboid = record { x = 0; y = 0; z = 0; whd = record { width = 0; height = 0; depth = 0 } } in
    let number : c.neighbour_number.result ≡ neighbour_number c.args.corner c.args.axis (entry slots c.args.slot) =
    c.neighbour_number.ensures ∙ ap (neighbour_number c.args.corner c.args.axis) (c.index-sections-slot.is ∙ get_or_default slots c.args.slot c.index-sections-slot.result nothing c.requires.full.within) in
    let name : Name = record { corner = 0; slot = 0 } in
    let found = c.in_ok-at.ensures {u = tt} in
    at_face-none c.args.corner slots c.args.names.now c.requires.named c.args.axis c.args.slot c.in_ok-at.at c.neighbour_number.result name number
    found.some.0 found.some.1 (λ beside. true≢false (sym (c.is_beside.ensures.1 beside) ∙ c.if-not-is_beside.true))
