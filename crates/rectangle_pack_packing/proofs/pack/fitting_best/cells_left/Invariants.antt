use Rattle.rectangle_pack_sections.proofs.Std.{◌≡◌, ℕ, Ordering, Bor, sum_by, take}
use Rattle.rectangle_pack_sections.specs.declared.group.Group.{Group}
use Rattle.rectangle_pack_sections.specs.contracts.group.GroupOrd.TheImpl.{ghosts}
use Rattle.rectangle_pack_sections.specs.Groups.{Collection}
use Rattle.rectangle_pack_lists.specs.Numbers.{saturated}
use Rattle.rectangle_pack_packing.specs.Fitting.{cells_in_group}
use Rattle.rectangle_pack_packing.proofs.pack.fitting_best.cells_left.Given.{Over}
use Rattle.rectangle_pack_packing.proofs.pack.fitting_best.cells_left.Given as goal

-- the cells of the boxes of a group that is given by a reference
abbrev pub cells : (g : Over) → Collection g.row.Id.Denot g.row.GroupId.Denot → Bor (Group g.row.GroupId.Denot g.row.Id.Denot) → ℕ
cells g all name = cells_in_group g.Id.Ord.cmp (ghosts g.row.GroupId g.row.Id g.GroupId.Ord g.GroupId.Ord-dict g.GroupId.Eq g.GroupId.Eq-dict
    g.GroupId.PartialEq g.GroupId.PartialEq-dict g.GroupId.PartialOrd g.GroupId.PartialOrd-dict g.Id.Ord g.Id.Ord-dict g.Id.Eq g.Id.Eq-dict
    g.Id.PartialEq g.Id.PartialEq-dict g.Id.PartialOrd g.Id.PartialOrd-dict).cmp all name.now

abbrev pub invariant-loop-name : goal.invariant-loop-name
invariant-loop-name g l = l.cells ≡ saturated (sum_by (cells g l.rects_to_place) (take l.name-index l.left))
