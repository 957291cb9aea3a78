use Rattle.rectangle_pack_sections.proofs.Std.{◌≡◌, List, take, Ordering}
use Rattle.rectangle_pack_sections.specs.declared.group.Group.{Group}
use Rattle.rectangle_pack_sections.specs.contracts.group.GroupOrd.TheImpl.{ghosts}
use Rattle.rectangle_pack_packing.specs.Packing.{at_start}
use Rattle.rectangle_pack_packing.specs.Told.{AreStepsDone}
use Rattle.rectangle_pack_packing.specs.private.ToldOnItsWay.{collection_of}
use Rattle.rectangle_pack_packing.proofs.lemmas.packing.StepsMade.{IsAt, stage_of}
use Rattle.rectangle_pack_packing.proofs.pack.told.telling.make_all.Given.{Over}
use Rattle.rectangle_pack_packing.proofs.pack.told.telling.make_all.Given as goal

-- the order of groups
abbrev pub group_cmp : (g : Over) → Group g.row.GroupId.Denot g.row.Id.Denot → Group g.row.GroupId.Denot g.row.Id.Denot → Ordering
group_cmp g = (ghosts g.row.GroupId g.row.Id g.GroupId.Ord g.GroupId.Ord-dict g.GroupId.Eq g.GroupId.Eq-dict g.GroupId.PartialEq g.GroupId.PartialEq-dict
    g.GroupId.PartialOrd g.GroupId.PartialOrd-dict g.Id.Ord g.Id.Ord-dict g.Id.Eq g.Id.Eq-dict g.Id.PartialEq g.Id.PartialEq-dict g.Id.PartialOrd
    g.Id.PartialOrd-dict).cmp

abbrev pub invariant-loop-index : goal.invariant-loop-index
invariant-loop-index g l =
    (homes : List (Group g.row.GroupId.Denot g.row.Id.Denot × g.row.B.Denot))
    × AreStepsDone (group_cmp g) g.Id.Ord.cmp g.B.Ord.cmp (collection_of l.fn.telling) (take l.index l.steps) (at_start l.fn.telling.bins.now)
    l.telling.placements (stage_of (group_cmp g) g.Id.Ord.cmp g.B.Ord.cmp (collection_of l.fn.telling) l.telling homes)
    × IsAt (group_cmp g) g.Id.Ord.cmp g.B.Ord.cmp (collection_of l.fn.telling) l.telling homes
    × (l.telling.bins.start ≡ l.fn.telling.bins.start)
