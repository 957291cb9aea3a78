use Rattle.rectangle_pack_sections.proofs.Std.{◌≡◌, Ordering, Result, Ok, Err, sym, ◌∙◌, refl}
use Rattle.std.proofs.lemmas.Result.{err_from_is_err_and}
use Rattle.rectangle_pack_sections.proofs.lemmas.groups.Excluded.{not-both}
use Rattle.rectangle_pack_sections.specs.declared.group.Group.{Group}
use Rattle.rectangle_pack_sections.specs.contracts.group.GroupOrd.TheImpl.{ghosts}
use Rattle.rectangle_pack_sections.specs.Bins.{bins_of}
use Rattle.rectangle_pack_packing.specs.declared.pack.told.ToldError.{ToldError}
use Rattle.rectangle_pack_packing.specs.private.ToldOnItsWay.{AreStepsMade}
use Rattle.rectangle_pack_packing.proofs.lemmas.packing.StepsMade.{AreStepsDone-length, told-ok, told-err}
use Rattle.rectangle_pack_packing.proofs.pack.told.try_told_in_sizes.Given.{Over}
use Rattle.rectangle_pack_packing.proofs.pack.told.try_told_in_sizes.Goals.{After-last-last, then-is_ok, else-is_ok}
use Rattle.rectangle_pack_packing.proofs.pack.told.try_told_in_sizes.Goals.at as goal_at
use Rattle.rectangle_pack_packing.proofs.pack.told.try_told_in_sizes.Goals as goal

-- the order of groups
abbrev group_cmp : (g : Over) → Group g.row.GroupId.Denot g.row.Id.Denot → Group g.row.GroupId.Denot g.row.Id.Denot → Ordering
group_cmp g = (ghosts g.row.GroupId g.row.Id g.GroupId.Ord g.GroupId.Ord-dict g.GroupId.Eq g.GroupId.Eq-dict g.GroupId.PartialEq g.GroupId.PartialEq-dict
    g.GroupId.PartialOrd g.GroupId.PartialOrd-dict g.Id.Ord g.Id.Ord-dict g.Id.Eq g.Id.Eq-dict g.Id.PartialEq g.Id.PartialEq-dict g.Id.PartialOrd
    g.Id.PartialOrd-dict).cmp

-- the steps are made, from the bins of before on
made : (g : Over) (c : After-last-last g) → AreStepsMade (group_cmp g) g.Id.Ord.cmp g.BinId.Ord.cmp c.args.collection.now c.args.steps.now
    (bins_of c.args.bins.now.entries) c.make_all-told.result c.make_all-told.new.telling
made g c = rw (c.begin-telling.ensures.collection, c.begin-telling.ensures.now, c.replace-before.ensures.value) at c.make_all-told.ensures.made

-- where no error is theirs they are done
is_done : {X : Type 0} (told : Result (Unit {0}) X) → ((error : X) → told ≡ Err error → ⊥) → told ≡ Ok tt
is_done (Ok done) no_error = refl
is_done (Err error) no_error = absurd (no_error error refl)

pub returns-in_err-last : goal.returns-in_err-last
returns-in_err-last g c =
    let at = (goal_at.returns-in_err-last g c).After-last-last in
    let error = err_from_is_err_and c.from_residual-in_err-last.result c.from_residual-in_err-last.ensures.1 in
    elim c.if-is_ok.branch [
      | then-is_ok w ↦ not-both _ (rw c.in_err-last.was at c.is_ok.ensures.value) w.if-is_ok.true
      | else-is_ok w ↦
          rw (error.1, error.2) (told-err (group_cmp g) g.Id.Ord.cmp g.BinId.Ord.cmp c.args.collection.now c.args.steps.now (bins_of c.args.bins.now.entries)
          c.make_all-told.new.telling g.row.A.Denot c.make_all-told.result c.in_err-last.field-0.0 c.args.finds (bins_of c.end-after.result.0.entries)
          (made g at) (λ theirs is. let same = sym c.in_err-last.was ∙ c.last-last.ensures.refused theirs is in cc)
          (λ ok. rw c.in_err-last.was at (c.last-last.ensures.last ok))
          (rw w.end-is at c.end-after.ensures.bins ∙ c.make_all-told.ensures.start
          ∙ rw c.replace-before.ensures.value at c.begin-telling.ensures.start))
    ]

pub returns : goal.returns
returns g c =
    let at = (goal_at.returns g c).After-last-last in
    let no_error : (error : ToldError) → c.make_all-told.result ≡ Err error → ⊥ = λ error is.
    absurd (let same = sym c.in_ok-last.was ∙ c.last-last.ensures.refused error is in cc) in
    let done = told-ok (group_cmp g) g.Id.Ord.cmp g.BinId.Ord.cmp c.args.collection.now c.args.steps.now (bins_of c.args.bins.now.entries)
    c.make_all-told.new.telling c.make_all-told.result (made g at) no_error in
    let last = rw c.in_ok-last.was at (c.last-last.ensures.last (is_done c.make_all-told.result no_error)) in
    elim c.if-is_ok.branch [
      | then-is_ok w ↦
          rw (c.answer_of.ensures.placements, c.end-after.ensures.placements, rw w.end-is at c.end-after.ensures.bins, c.answer_of.ensures.locations) (
            done,
            AreStepsDone-length (group_cmp g) g.Id.Ord.cmp g.BinId.Ord.cmp c.args.collection.now c.args.steps.now _ _ _ done.done,
            last,
          )
      | else-is_ok w ↦ not-both _ w.if-is_ok.false (rw c.in_ok-last.was at c.is_ok.ensures.value)
    ]
