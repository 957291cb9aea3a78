use Rattle.rectangle_pack_sections.proofs.Std.{◌≡◌, map, filter, not, keys_of, deref_pair}
use Rattle.rectangle_pack_sections.specs.contracts.group.GroupOrd.TheImpl.{ghosts}
use Rattle.rectangle_pack_packing.specs.Fitting.{names_left}
use Rattle.rectangle_pack.specs.Searched.{is_named}
use Rattle.rectangle_pack.proofs.searching.settling.not_named.Given as goal

abbrev pub invariant-loop-name : goal.invariant-loop-name
invariant-loop-name g l =
    let order = (ghosts g.row.GroupId g.row.Id g.GroupId.Ord g.GroupId.Ord-dict g.GroupId.Eq g.GroupId.Eq-dict g.GroupId.PartialEq g.GroupId.PartialEq-dict
    g.GroupId.PartialOrd g.GroupId.PartialOrd-dict g.Id.Ord g.Id.Ord-dict g.Id.Eq g.Id.Eq-dict g.Id.PartialEq g.Id.PartialEq-dict g.Id.PartialOrd
    g.Id.PartialOrd-dict).cmp in
    names_left l.left ≡ filter (λ name. not (is_named order l.steps name)) (keys_of (map deref_pair l.yielded))
