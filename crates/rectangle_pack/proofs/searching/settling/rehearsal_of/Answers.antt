use Rattle.rectangle_pack_sections.proofs.Std.{refl, ◌∙◌}
use Rattle.rectangle_pack.proofs.searching.settling.rehearsal_of.Goals as goal

pub returns-clause-found : goal.returns-clause-found
returns-clause-found g c =
    let told = rw (c.in-Ok.is, c.new-collection.ensures, c.as_slice-steps.ensures.value) at c.rehearse.ensures.told in record {
      ways = c.requires.ways;
      placements = c.in-Ok.placements.items;
      new = told.0;
      done = told.1;
      not_named = rw c.as_slice.ensures.value at c.in_ok-left.ensures;
      allowed = rw (c.if-leaves_too_many.false, c.as_slice-2.ensures.value) at c.leaves_too_many.ensures;
      outlay_is = c.in_ok-outlay.ensures
          ∙ rw (c.rehearse.ensures.same, c.as_slice-placed.ensures.value, c.as_slice-3.ensures.value) refl;
    }
