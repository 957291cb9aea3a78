use Rattle.rectangle_pack_sections.proofs.Std.{sym, ap, ◌∙◌, Bor, filter, map, map_push, not, keys_of, deref_pair, iter_end}
use Rattle.rectangle_pack_groups.proofs.lemmas.multimap.Vectors.{keys-lists}
use Rattle.rectangle_pack_sections.specs.declared.group.Group.{Group}
use Rattle.rectangle_pack_packing.specs.Fitting.{names_left}
use Rattle.rectangle_pack.proofs.lemmas.searching.NotNamed.{filtered, passed-with, passed-without}
use Rattle.rectangle_pack.proofs.searching.settling.not_named.Goals as goal

pub loop-name-preserved-in-Continue-branch-2 : goal.loop-name-preserved-in-Continue-branch-2
loop-name-preserved-in-Continue-branch-2 g c =
    let now : Bor (Group g.row.GroupId.Denot g.row.Id.Denot) → Group g.row.GroupId.Denot g.row.Id.Denot = λ k. k.now in
    let name = c.in-Some.name in
    let named = sym (c.in_ok-names.ensures name.now) ∙ sym c.contains.ensures ∙ c.if-not-contains.true in
    passed-with _ c.loop-name.yielded (name, c.in-Some.field-0-1) (names_left c.loop-name.left) (names_left c.push.new.self) c.loop-name.invariant
    (ap not named) (ap (map now) c.in_ok-push.ensures.items ∙ map_push now c.loop-name.left.items name)

pub loop-name-preserved : goal.loop-name-preserved
loop-name-preserved g c =
    let name = c.in-Some.name in
    let named = sym (c.in_ok-names.ensures name.now) ∙ sym c.contains.ensures ∙ c.if-not-contains.false in
    passed-without _ c.loop-name.yielded (name, c.in-Some.field-0-1) (names_left c.loop-name.left) c.loop-name.invariant (ap not named)

pub returns : goal.returns
returns g c =
    let all = iter_end deref_pair _ _ _ _ _ _ c.into_iter-name-iterator.ensures.into_iter_gives.0 c.loop-name.yielded_by c.in-None.is c.next.ensures.steps in
    let names = sym (keys-lists _) ∙ ap keys_of c.groups-name-items.ensures.entries in
    filtered _ c.args.groups.now c.args.steps.now (names_left c.loop-name.left)
    (c.loop-name.invariant ∙ ap (filter _) (ap keys_of all.0 ∙ names))
