use Rattle.rectangle_pack_sections.proofs.Std.{◌∙◌}
use Rattle.rectangle_pack.proofs.lemmas.session.ReleasedNumbers.{listed-searched}
use Rattle.rectangle_pack.proofs.session.releasing.is_listed.Goals as goal

pub returns : goal.returns
returns c = λ rise.
    c.is_ok.ensures.value ∙ listed-searched c.args.numbers.now c.args.number c.binary_search.result rise c.binary_search.ensures.position
