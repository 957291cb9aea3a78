use Rattle.rectangle_pack_sections.proofs.Std.{refl}
use Rattle.rectangle_pack_packing.specs.Fitting.{names_left}
use Rattle.rectangle_pack_packing.proofs.pack.fitting_best.fit_with.Goals as goal

pub returns-clause-fits : goal.returns-clause-fits
returns-clause-fits g c =
    let fits = c.in_ok-fitted.ensures.fits in record {
      placements = c.in_ok-fitted.fitted.packed.items;
      left = names_left c.in_ok-fitted.fitted.left;
      new = fits.0;
      fits = fits.1;
      use_is = rw (c.cells_left.ensures, c.in_ok-use_made.ensures, c.try_fitting.ensures.undone refl, c.as_slice.ensures.value, c.as_slice-2.ensures.value)
          refl;
    }
