use Rattle.std.proofs.lemmas.Result.{err_from_is_err_and}
use Rattle.rectangle_pack_sections.proofs.Std.{◌≡◌, ◌∙◌}
use Rattle.rectangle_pack_sections.specs.Bins.{bins_of}
use Rattle.rectangle_pack_packing.specs.Fitting.{names_left}
use Rattle.rectangle_pack_packing.specs.Placed.{placements_of}
use Rattle.rectangle_pack_packing.proofs.pack.fitting_best.pack_rects_fitting_best.Goals as goal

pub returns-clause-answer : goal.returns-clause-answer
returns-clause-answer g c =
    let fitted = rw c.choose.ensures.same at c.in_ok-fitted.ensures.answer in
    (fitted, c.in_ok-best.ensures.best (placements_of c.in_ok-fitted.fitted.packed) (names_left c.in_ok-fitted.fitted.left) _ fitted.fits)

pub returns-in_err-best-clause-answer : goal.returns-in_err-best-clause-answer
returns-in_err-best-clause-answer g c = rw (err_from_is_err_and c.from_residual.result c.from_residual.ensures.1).1 c.choose.ensures.same

pub returns-in_err-fitted-clause-answer : goal.returns-in_err-fitted-clause-answer
returns-in_err-fitted-clause-answer g c =
    rw (err_from_is_err_and c.from_residual-in_err-fitted.result c.from_residual-in_err-fitted.ensures.1).1 (c.in_err-fitted.ensures.answer ∙ c.choose.ensures.same)
