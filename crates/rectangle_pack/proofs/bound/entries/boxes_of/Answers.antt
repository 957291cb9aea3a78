use Rattle.rectangle_pack_sections.proofs.Std.{◌++◌, List, Bor, Vec, ap, ◌∙◌, map, deref_pair, iter_end}
use Rattle.rectangle_pack_sections.specs.Groups.{lists_of}
use Rattle.rectangle_pack_bounds.specs.declared.turning.TurningBox.{TurningBox}
use Rattle.rectangle_pack.specs.Needed.{box_of, entries}
use Rattle.rectangle_pack.proofs.lemmas.bound.Boxes.{boxes-push}
use Rattle.rectangle_pack.proofs.bound.entries.boxes_of.Goals as goal

pub loop-ids-preserved : goal.loop-ids-preserved
loop-ids-preserved g c =
    let f = box_of g.Id.Ord.cmp c.args.rects.now.entries c.args.turns.now.entries in
    let x : Bor g.row.K.Denot × Bor (Vec g.row.Id.Denot g.row.A.Denot) = (c.in-Some.field-0-0, c.in-Some.ids) in
    c.in_ok-add_boxes.ensures
    ∙ ap (λ (l : List TurningBox). l ++ map f c.as_slice.result.now) c.loop-ids.invariant
    ∙ ap (λ ids. map (λ entry. f entry.1) (entries (lists_of (map deref_pair c.loop-ids.yielded))) ++ map f ids) c.as_slice.ensures.value
    ∙ boxes-push f c.loop-ids.yielded x

pub returns : goal.returns
returns g c =
    let f = box_of g.Id.Ord.cmp c.args.rects.now.entries c.args.turns.now.entries in
    let all = iter_end deref_pair _ _ _ _ _ _ c.into_iter-ids-iterator.ensures.into_iter_gives.0 c.loop-ids.yielded_by c.in-None.is c.next.ensures.steps in
    c.loop-ids.invariant ∙ ap (λ es. map (λ entry. f entry.1) (entries (lists_of es))) all.0
