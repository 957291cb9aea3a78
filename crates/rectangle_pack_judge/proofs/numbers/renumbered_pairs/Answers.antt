use Rattle.rectangle_pack_sections.proofs.Std.{sym, ap, ◌∙◌, ◌++◌, ◌∷◌, [], get_or}
use Rattle.rectangle_pack_judge.specs.private.Numbers.{pairs_in}
use Rattle.rectangle_pack_judge.proofs.lemmas.Numbers.{pairs_in-more}
use Rattle.rectangle_pack_judge.proofs.numbers.renumbered_pairs.Goals as goal

pub loop-pair-preserved : goal.loop-pair-preserved
loop-pair-preserved g c =
    c.in_ok-add_pair.ensures ∙ ap (λ l. l ++ pairs_in c.args.numbers.now.entries (get_or c.args.excluded.now c.loop-pair.pair-index (0, 0) ∷ [])) c.loop-pair.invariant
    ∙ sym (pairs_in-more c.args.numbers.now.entries c.args.excluded.now c.loop-pair.pair-index (0, 0) c.loop-pair-test.true)
