use Rattle.rectangle_pack_sections.proofs.Std.{rules, answers_always}
use Rattle.rectangle_pack_lists.specs.declared.corners.Name.{Name}
use Rattle.rectangle_pack_lists.proofs.lemmas.joining.Names.{searched}
use Rattle.rectangle_pack_lists.proofs.corners.find.Goals as goal

pub returns : goal.returns
returns c =
    let facts = c.binary_search_by_key.ensures in
    let by_number = facts.position (λ (n : Name). n.corner) (answers_always _ _ _ (λ f a r h called. search rules)) in
    let found = searched c.args.names.now c.args.corner _ c.requires facts.bound by_number in
    record { some = rw c.ok.ensures.value found.0; none = rw c.ok.ensures.value found.1 }
