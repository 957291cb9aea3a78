use Rattle.rectangle_pack_sections.proofs.Std.{ap, ◌∙◌}
use Rattle.rectangle_pack_sections.specs.Cuts.{sizes_of}
use Rattle.rectangle_pack_sections.specs.Heuristics.{named_answers, rate_of}
use Rattle.rectangle_pack_sections.proofs.lemmas.cuts.Choices.{MayChoose-more, smallest_more}
use Rattle.rectangle_pack_sections.proofs.closures.NamedPolicy.place.Goals as goal

pub returns-clause-pieces : goal.returns-clause-pieces
returns-clause-pieces c =
    MayChoose-more _ (λ a b. (named_answers c.args.self.now.0).prefer (sizes_of a) (sizes_of b))
    (λ a b r says. (
      says.first_three,
      says.second_three,
      smallest_more _ _ (λ size rate rates. rates.1 ∙ ap (λ f. rate_of f.0.now size) says.shows) _ _ r
          says.says.2,
    )) _ _ c.place_held.ensures.pieces
