use Rattle.rectangle_pack_sections.proofs.Std.{refl, ◌∙◌}
use Rattle.rectangle_pack_sections.proofs.lemmas.groups.GroupOrder.{groups_total}
use Rattle.rectangle_pack_sections.specs.Bins.{bins_of}
use Rattle.rectangle_pack_packing.specs.Fitting.{names_left}
use Rattle.rectangle_pack.proofs.lemmas.searching.Guesses.{no_guess}
use Rattle.rectangle_pack.proofs.searching.guess.guess_with.Goals as goal

pub returns-clause-guessed : goal.returns-clause-guessed
returns-clause-guessed g c =
    let fits = c.in_ok-fitted.ensures.fits in record {
      placements = c.in_ok-fitted.fitted.packed.items;
      left = names_left c.in_ok-fitted.fitted.left;
      new = fits.0;
      fits = fits.1;
      allowed = rw (c.if-leaves_too_many.false, c.as_slice-left.ensures.value) at c.leaves_too_many.ensures;
      outlay_is = c.in_ok-outlay.ensures
          ∙ rw (c.try_fitting.ensures.undone refl, c.as_slice-placements.ensures.value, c.as_slice-left.ensures.value) refl;
    }

pub returns-then-leaves_too_many-clause-guessed : goal.returns-then-leaves_too_many-clause-guessed
returns-then-leaves_too_many-clause-guessed g c =
    let fits = c.in_ok-fitted.ensures.fits in
    let short = rw (c.if-leaves_too_many.true, c.as_slice-left.ensures.value) at c.leaves_too_many.ensures in
    no_guess (groups_total _ g.Id.Ord.cmp g.GroupId.Ord.cmp g.met.Id.Ord.total g.met.GroupId.Ord.total (λ a b. refl) (λ a b. refl) (λ a b. refl) (λ a b. refl)) g.met.Id.Ord.total g.met.BinId.Ord.total c.args.groups.now
    c.args.options.now.may_leave c.args.options.now.costs.now.entries (bins_of c.args.bins.now.entries) c.args.heuristic
    c.in_ok-fitted.fitted.packed.items (names_left c.in_ok-fitted.fitted.left) fits.0 fits.1 short.0 short.1
