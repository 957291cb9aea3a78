use Rattle.rectangle_pack_sections.proofs.Std.{◌≡◌, ◌∙◌, AllocError, Ok, Some, None, refl, if◌then◌else◌}
use Rattle.rectangle_pack_sections.specs.Closures.{answers}
use Rattle.rectangle_pack_lists.specs.Trials.{IsTrialAnswer}
use Rattle.rectangle_pack_bins.proofs.lemmas.bins.Trials.{IsTrial-answered, IsTrialAnswer-refused}
use Rattle.rectangle_pack_lists.specs.private.FreeLists.{now_of}
use Rattle.rectangle_pack_lists.proofs.lemmas.trial.FitTests.{counted-le}
use Rattle.rectangle_pack_lists.proofs.lemmas.trial.PlaceSteps.{sections_of-full}
use Rattle.rectangle_pack_lists.proofs.lemmas.trial.Steps.{IsSound-tried}
use Rattle.rectangle_pack_bins.proofs.target_bin.TargetBin.place_all.Given.{Over}
use Rattle.rectangle_pack_bins.proofs.target_bin.TargetBin.place_all.Goals.{After-new-list, After-put_sections, Joined-is_done, then-is_done, else-is_done}
use Rattle.rectangle_pack_bins.proofs.target_bin.TargetBin.place_all.Goals.at as goal_at
use Rattle.rectangle_pack_bins.proofs.target_bin.TargetBin.place_all.Goals as goal

-- the list has the bin's sections
now_is : (g : Over) (c : After-new-list g) → now_of c.new-list.result ≡ c.args.self.now.bin.sections
now_is g c = rw c.new-list.ensures.places (sections_of-full _ ∙ c.take_sections.ensures.items)

pub run_trial-trial-requires-clause-fits : goal.run_trial-trial-requires-clause-fits
run_trial-trial-requires-clause-fits g c = rw (now_is g (goal_at.run_trial-trial-requires-clause-fits g c).After-new-list) c.take_sections.ensures.fits

pub put_sections-requires : goal.put_sections-requires
put_sections-requires g c =
    let at = (goal_at.put_sections-requires g c).After-new-list in
    rw (c.into_sections.ensures, c.take_sections.ensures.bin)
    (IsSound-tried _ {E = AllocError} _ _ _ _ _ _ (rw (now_is g at) at c.run_trial-trial.ensures.tried) c.take_sections.ensures.sound)

-- the bin has the list that the trial leaves
bin_is : (g : Over) (c : After-put_sections g)
    → c.put_sections.new.bin.bin ≡ record c.args.self.now.bin { sections = now_of c.run_trial-trial.new.self }
bin_is g c = rw (c.put_sections.ensures.bin, c.take_sections.ensures.bin, c.into_sections.ensures) refl

pub returns-in_err-is_done-clause-answer : goal.returns-in_err-is_done-clause-answer
returns-in_err-is_done-clause-answer g c =
    let at = goal_at.returns-in_err-is_done-clause-answer g c in
    let same : now_of c.run_trial-trial.new.self ≡ c.args.self.now.bin.sections = c.in_err-is_done.ensures.tried ∙ now_is g at.After-new-list in
    IsTrialAnswer-refused _ c.args.self.now.bin _ _ _ c.from_residual.result c.from_residual.ensures.0 (bin_is g at.After-put_sections ∙ rw same refl)

-- what is answered, by whether the trial is done
answer_is : (g : Over) (c : Joined-is_done g) → c.if-is_done.result ≡ (if c.in_ok-is_done.field-0.is_done then Some c.run_trial-trial.new.locations else None)
answer_is g c = elim c.if-is_done.branch [
  | then-is_done w ↦ w.result-is ∙ rw w.if-is_done.true refl
  | else-is_done w ↦ w.result-is ∙ rw w.if-is_done.false refl
]

answered : (g : Over) (c : Joined-is_done g)
    → IsTrialAnswer {E = AllocError} (answers g.H.Fn g.C.Fn c.args.heuristic.now c.args.comparison.now) c.args.self.now.bin c.args.members.now
    c.args.tests.now (Ok c.if-is_done.result) c.put_sections.new.bin.bin c.add.new.tests
answered g c =
    let same : now_of c.new-list.result ≡ c.args.self.now.bin.sections = rw c.new-list.ensures.places (sections_of-full _ ∙ c.take_sections.ensures.items) in
    let bin : c.put_sections.new.bin.bin ≡ record c.args.self.now.bin { sections = now_of c.run_trial-trial.new.self } =
    rw (c.put_sections.ensures.bin, c.take_sections.ensures.bin, c.into_sections.ensures) refl in (
      c.in_ok-is_done.field-0.tests,
      rw bin (IsTrial-answered _ c.args.self.now.bin.sections c.args.members.now c.in_ok-is_done.field-0.is_done c.run_trial-trial.new.locations c.if-is_done.result
          _ _ (answer_is g c) (rw same at c.in_ok-is_done.ensures.tried)),
      rw bin refl,
      c.add.ensures,
    )

pub returns-clause-answer : goal.returns-clause-answer
returns-clause-answer g c = answered g (goal_at.returns-clause-answer g c).Joined-is_done

pub returns-clause-most : goal.returns-clause-most
returns-clause-most g c =
    counted-le _ {E = AllocError} c.args.self.now.bin c.args.members.now c.args.tests.now (Ok c.if-is_done.result) c.put_sections.new.bin.bin c.add.new.tests
    (answered g (goal_at.returns-clause-most g c).Joined-is_done)
