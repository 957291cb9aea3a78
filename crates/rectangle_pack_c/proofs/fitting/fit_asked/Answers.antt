use Rattle.rectangle_pack_c.proofs.Std.{◌∷◌, [], ◌∙◌, refl, sym}
use Rattle.rectangle_pack_sections.proofs.lemmas.groups.GroupOrder.{same_order}
use Rattle.rectangle_pack_c.proofs.FaultLemmas.{all_asked}
use Rattle.rectangle_pack_c.proofs.FittedLemmas.{fits_asked, fit_promise_asked}
use Rattle.rectangle_pack_c.proofs.fitting.fit_asked.Goals as goal

pub returns-in-Some-clause-packed : goal.returns-in-Some-clause-packed
returns-in-Some-clause-packed c =
    fits_asked _ (same_order _ _ _ (λ a b. refl) (λ a b. refl) (λ a b. refl) (λ a b. refl)) c.args.heuristic (c.in-Some.one ∷ []) c.in-Some.ensures.0
    c.args.rects.now c.args.session.now c.pack_fitting_best.new.self c.pack_fitting_best.result c.pack_fitting_best.ensures.packed

pub returns-in-Some-clause-promise : goal.returns-in-Some-clause-promise
returns-in-Some-clause-promise c =
    fit_promise_asked _ (same_order _ _ _ (λ a b. refl) (λ a b. refl) (λ a b. refl) (λ a b. refl))
    c.args.rects.now c.args.session.now c.pack_fitting_best.new.self c.pack_fitting_best.result c.pack_fitting_best.ensures.promise

pub returns-in-None-clause-packed : goal.returns-in-None-clause-packed
returns-in-None-clause-packed c =
    let best = c.pack_fitting_best-in-None in
    fits_asked _ (same_order _ _ _ (λ a b. refl) (λ a b. refl) (λ a b. refl) (λ a b. refl)) c.args.heuristic c.all.result
    (all_asked c.args.heuristic c.requires.known c.in-None.ensures ∙ sym c.all.ensures) c.args.rects.now c.args.session.now best.new.self best.result best.ensures.packed

pub returns-in-None-clause-promise : goal.returns-in-None-clause-promise
returns-in-None-clause-promise c =
    let best = c.pack_fitting_best-in-None in
    fit_promise_asked _ (same_order _ _ _ (λ a b. refl) (λ a b. refl) (λ a b. refl) (λ a b. refl))
    c.args.rects.now c.args.session.now best.new.self best.result best.ensures.promise
