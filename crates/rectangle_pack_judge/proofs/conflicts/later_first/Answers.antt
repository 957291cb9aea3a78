use Rattle.rectangle_pack_sections.proofs.Std.{◌∙◌, ◌≡◌, sym, ap, get_or, get_or_default, Some, None, subst}
use Rattle.rectangle_pack_judge.specs.private.Firsts.{IsLater}
use Rattle.rectangle_pack_judge.proofs.lemmas.Apart.{IsLater-beside, IsLater-both, first_less}
use Rattle.rectangle_pack_judge.proofs.conflicts.later_first.Goals as goal

pub returns-then-claims-one : goal.returns-then-claims-one
returns-then-claims-one c =
    let case = c.args.case.now in
    let claims = c.args.claims.now in
    let firsts = c.args.firsts.now in
    let one = c.in-Some.one in
    let other = c.in-Some-first_in.other in
    let some_one : get_or firsts c.args.pair.0 None ≡ Some one = sym c.first_in.ensures ∙ c.in-Some.is in
    let some_other : get_or firsts c.args.pair.1 None ≡ Some other = sym c.first_in-2.ensures ∙ c.in-Some-first_in.is in
    IsLater-beside case claims firsts c.requires.groups c.requires.alone c.requires.whole c.requires.firsts c.args.pair one other some_one some_other
    (λ d same. c.if-claims-one.true
    (ap (λ c. c.bin) (get_or_default claims one c.index-claims-one.result d (first_less case claims firsts c.requires.firsts c.args.pair.0 one some_one))
    ∙ same ∙ ap (λ c. c.bin) (get_or_default claims other d c.index-claims-other.result (first_less case claims firsts c.requires.firsts c.args.pair.1 other some_other))))

pub returns : goal.returns
returns c =
    let case = c.args.case.now in
    let claims = c.args.claims.now in
    let firsts = c.args.firsts.now in
    let one = c.in-Some.one in
    let other = c.in-Some-first_in.other in
    let some_one : get_or firsts c.args.pair.0 None ≡ Some one = sym c.first_in.ensures ∙ c.in-Some.is in
    let some_other : get_or firsts c.args.pair.1 None ≡ Some other = sym c.first_in-2.ensures ∙ c.in-Some-first_in.is in
    subst (IsLater case claims c.args.pair) (sym c.max.ensures)
    (IsLater-both case claims firsts c.requires.groups c.requires.alone c.requires.whole c.requires.firsts c.args.pair one other some_one some_other c.if-pair.false
    (λ d.
    ap (λ c. c.bin) (get_or_default claims one d c.index-claims-one.result (first_less case claims firsts c.requires.firsts c.args.pair.0 one some_one))
    ∙ c.if-claims-one.false
    ∙ ap (λ c. c.bin) (get_or_default claims other c.index-claims-other.result d (first_less case claims firsts c.requires.firsts c.args.pair.1 other some_other))))
