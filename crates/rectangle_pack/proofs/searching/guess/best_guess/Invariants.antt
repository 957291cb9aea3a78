use Rattle.rectangle_pack_sections.proofs.Std.{◌≡◌, take}
use Rattle.rectangle_pack_sections.specs.contracts.group.GroupOrd.TheImpl.{ghosts}
use Rattle.rectangle_pack_sections.specs.Bins.{bins_of}
use Rattle.rectangle_pack.specs.private.Searched.{IsBestGuess}
use Rattle.rectangle_pack.proofs.searching.guess.best_guess.Given as goal

abbrev pub invariant-loop-heuristic : goal.invariant-loop-heuristic
invariant-loop-heuristic g l =
    let groups = (ghosts g.row.GroupId g.row.Id g.GroupId.Ord g.GroupId.Ord-dict g.GroupId.Eq g.GroupId.Eq-dict g.GroupId.PartialEq g.GroupId.PartialEq-dict
    g.GroupId.PartialOrd g.GroupId.PartialOrd-dict g.Id.Ord g.Id.Ord-dict g.Id.Eq g.Id.Eq-dict g.Id.PartialEq g.Id.PartialEq-dict g.Id.PartialOrd
    g.Id.PartialOrd-dict).cmp in
    (bins_of l.bins.entries ≡ bins_of l.fn.bins.entries)
    × IsBestGuess groups g.Id.Ord.cmp g.BinId.Ord.cmp l.groups l.options.may_leave l.options.costs.now.entries (bins_of l.fn.bins.entries)
    (take l.heuristic-index l.heuristics) l.best
