use Rattle.rectangle_pack_sections.proofs.Std.{◌≡◌, ◌+◌, take, Ordering}
use Rattle.rectangle_pack_sections.specs.declared.group.Group.{Group}
use Rattle.rectangle_pack_sections.specs.contracts.group.GroupOrd.TheImpl.{ghosts}
use Rattle.rectangle_pack_packing.specs.Told.{entries_in_steps}
use Rattle.rectangle_pack.proofs.session.told.number_after_steps.Given.{Over}
use Rattle.rectangle_pack.proofs.session.told.number_after_steps.Given as goal

-- the order of groups
abbrev pub group_cmp : (g : Over) → Group g.row.GroupId.Denot g.row.Id.Denot → Group g.row.GroupId.Denot g.row.Id.Denot → Ordering
group_cmp g = (ghosts g.row.GroupId g.row.Id g.GroupId.Ord g.GroupId.Ord-dict g.GroupId.Eq g.GroupId.Eq-dict g.GroupId.PartialEq g.GroupId.PartialEq-dict
    g.GroupId.PartialOrd g.GroupId.PartialOrd-dict g.Id.Ord g.Id.Ord-dict g.Id.Eq g.Id.Eq-dict g.Id.PartialEq g.Id.PartialEq-dict g.Id.PartialOrd
    g.Id.PartialOrd-dict).cmp

abbrev pub invariant-loop-step : goal.invariant-loop-step
invariant-loop-step g l = l.number ≡ l.fn.first + entries_in_steps (group_cmp g) l.groups (take l.step-index l.steps)
