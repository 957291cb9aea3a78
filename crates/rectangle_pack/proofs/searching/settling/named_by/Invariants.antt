use Rattle.rectangle_pack_sections.proofs.Std.{◌≡◌, take}
use Rattle.rectangle_pack_sections.specs.declared.group.Group.{Group}
use Rattle.rectangle_pack_sections.specs.contracts.group.GroupOrd.TheImpl.{ghosts}
use Rattle.rectangle_pack_packing.specs.private.Excluded.{are_in}
use Rattle.rectangle_pack.specs.Searched.{is_named}
use Rattle.rectangle_pack.proofs.searching.settling.named_by.Given as goal

abbrev pub invariant-loop-step : goal.invariant-loop-step
invariant-loop-step g l =
    let order = (ghosts g.row.GroupId g.row.Id g.GroupId.Ord g.GroupId.Ord-dict g.GroupId.Eq g.GroupId.Eq-dict g.GroupId.PartialEq g.GroupId.PartialEq-dict
    g.GroupId.PartialOrd g.GroupId.PartialOrd-dict g.Id.Ord g.Id.Ord-dict g.Id.Eq g.Id.Eq-dict g.Id.PartialEq g.Id.PartialEq-dict g.Id.PartialOrd
    g.Id.PartialOrd-dict).cmp in
    (name : Group g.row.GroupId.Denot g.row.Id.Denot) → are_in order l.names.keys name ≡ is_named order (take l.step-index l.steps) name
