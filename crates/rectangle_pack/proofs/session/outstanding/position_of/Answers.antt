use Rattle.rectangle_pack_sections.proofs.Std.{rules, answers_always}
use Rattle.rectangle_pack.specs.declared.session.command.Outstanding.{Outstanding}
use Rattle.rectangle_pack.proofs.lemmas.session.Numbering.{searched}
use Rattle.rectangle_pack.proofs.session.outstanding.position_of.Goals as goal

pub returns : goal.returns
returns g c =
    let facts = c.binary_search_by_key.ensures in
    let by_number = facts.position (λ (o : Outstanding g.row.Id.Denot g.row.B.Denot). o.number) (answers_always _ _ _ (λ f a r h called. search rules)) in
    let found = searched c.args.outstanding.now c.args.number _ c.requires.rising facts.bound by_number in
    record { some = rw c.ok.ensures.value found.0; none = rw c.ok.ensures.value found.1 }
