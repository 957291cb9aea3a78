use Rattle.rectangle_pack_c.proofs.Std.{ap, ◌∙◌}
use Rattle.rectangle_pack.specs.Heuristics.{rate_of}
use Rattle.rectangle_pack_sections.proofs.lemmas.cuts.Choices.{smallest_more}
use Rattle.rectangle_pack_c.proofs.PlacingLemmas.{PlacesBest-named, is_placed, last_is}
use Rattle.rectangle_pack_c.proofs.placing.place_by.Goals as goal

pub returns-clause-placed : goal.returns-clause-placed
returns-clause-placed c =
    let placed = PlacesBest-named _ c.args.heuristic _ _ c.args.session.now c.place_best.new.self _ c.place_best.ensures.placed (record {
      rate = λ size rate says. says.says.1;
      prefer = λ a b r says. (
        says.first_three,
        says.second_three,
        smallest_more _ _ (λ size rate rates. rates.1 ∙ ap (λ f. rate_of f.0.now size) says.shows) a b r says.says.2,
      );
    }) in
    rw c.of.ensures
    (is_placed _ c.args.one_box.now c.args.heuristic c.args.session.now c.place_best.new.self _ c.index-known-known.result
    (rw (c.in_ok-place_best.was, c.new-size.ensures) at placed)
    (λ r is. c.index-known-known.is ∙ last_is c.outstanding-known.result.now c.args.session.now.outstanding r _
    (c.outstanding-known.ensures.outstanding ∙ is)))
