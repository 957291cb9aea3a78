use Rattle.rectangle_pack.proofs.searching.find.Goals as goal

pub returns : goal.returns
returns g c =
    let settled = rw (c.in-Some.is, c.rehearsal_of.ensures.same, c.best_guess.ensures.same) at c.in_ok-settled.ensures in (
      settled.0,
      settled.1,
      record {
        used_are = settled.2;
        shown = c.in_ok-least.ensures.shown;
        needed = c.in_ok-least.ensures.needed;
        optimal = rw c.as_slice.ensures.value at c.is_proved-is_optimal.ensures;
      },
    )

pub settle-requires-clause-guess : goal.settle-requires-clause-guess
settle-requires-clause-guess g c = rw (c.rehearsal_of.ensures.same, c.best_guess.ensures.same) c.in_ok-guess.ensures.best

pub returns-in_default : goal.returns-in_default
returns-in_default g c = rw (c.in_default.is, c.rehearsal_of.ensures.same, c.best_guess.ensures.same) at c.in_ok-settled.ensures
