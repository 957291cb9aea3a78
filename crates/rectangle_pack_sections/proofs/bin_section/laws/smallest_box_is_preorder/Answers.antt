use Rattle.rectangle_pack_sections.proofs.lemmas.cuts.SmallestBox.{smallest_is_preorder, preorder_on_cuts}
use Rattle.rectangle_pack_sections.proofs.bin_section.laws.smallest_box_is_preorder.Goals as goal

pub returns-clause-triples : goal.returns-clause-triples
returns-clause-triples g c =
    let f = c.requires.one_rate in
    smallest_is_preorder _ f.rate (λ size rate u says. f.only size rate (record { small = u; says = says })) _
    (λ a b r says. (says.first_three.small, says.second_three.small)) c.requires.smallest

pub returns-clause-cuts : goal.returns-clause-cuts
returns-clause-cuts g c = preorder_on_cuts _ _ (returns-clause-triples g c)
