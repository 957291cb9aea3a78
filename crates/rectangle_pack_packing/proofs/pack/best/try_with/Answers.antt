use Rattle.rectangle_pack_sections.proofs.Std.{refl, ◌∙◌}
use Rattle.rectangle_pack_packing.proofs.pack.best.try_with.Goals as goal

pub returns-in_ok-use_made-in-Some-clause-tried : goal.returns-in_ok-use_made-in-Some-clause-tried
returns-in_ok-use_made-in-Some-clause-tried g c =
    let done = rw c.in-Some.is at c.in_ok-placements.ensures.tried in
    record {
      placements = c.in-Some.placements.items;
      new = done.0;
      done = done.1;
      use_is = c.in_ok-use_made-in-Some.ensures ∙ rw (c.as_slice.ensures.value, c.in_ok-placements.ensures.undone refl) refl;
    }

pub returns-in-None-clause-tried : goal.returns-in-None-clause-tried
returns-in-None-clause-tried g c =
    let refused = rw c.in-None.is at c.in_ok-placements.ensures.tried in record { left = refused.0; refused = refused.1 }
