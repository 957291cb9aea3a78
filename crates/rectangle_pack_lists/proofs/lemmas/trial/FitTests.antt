-- How many fit tests a trial makes at most.
use Rattle.rectangle_pack_sections.proofs.Std.{◌≡◌, ℕ, zero, suc, ◌+◌, ◌-◌, ◌*◌, ◌≤◌, List, [], ◌∷◌, length, ap, arith, inl, inr, length-append, Result}
use Rattle.rectangle_pack_sections.proofs.Std.{Ok, Err, Option, Some, None, mul-le-mul_left, Vec}
use Rattle.rectangle_pack_sections.specs.Boxes.{Size, Cuboid}
use Rattle.rectangle_pack_sections.specs.Bins.{Bin}
use Rattle.rectangle_pack_lists.specs.Steps.{IsStep, IsDone, IsStuck}
use Rattle.rectangle_pack_sections.specs.Closures.{Answers}
use Rattle.rectangle_pack_lists.specs.Trials.{IsTrialAnswer, most_tests}
use Rattle.rectangle_pack_lists.proofs.lemmas.trial.Steps.{length-step}

pub square : (m : ℕ) → m ≤ m * m
square zero = omega arith
square (suc m) = omega arith

-- m * (m - 1) and m make m * m
pub pairs : (m : ℕ) → m * (m - 1) + m ≡ m * m
pairs zero = omega arith
pairs (suc m) = grind arith

module _ (may : Answers) where
  -- the tests of a step and of the k members after it
  step-le : (sections : List Cuboid) (m : Size) (l : Cuboid) (next : List Cuboid) (n others k : ℕ) → IsStep may sections m l next n
      → others + k ≤ k * length next + k * k → (n + others) + suc k ≤ suc k * length sections + suc k * suc k
  step-le sections m l next n others k step rest =
      let long = mul-le-mul_left k (length-step may sections m l next n step) in
      omega (arith, step.tests_are, ap length step.splits, length-append step.before (step.section ∷ step.after), rest, long)

  -- a trial of m members in s sections makes at most m*s + m*(m-1) tests
  pub done-le : (sections : List Cuboid) (ms : List Size) (ls last : List Cuboid) (n : ℕ) → IsDone may sections ms ls last n
      → n + length ms ≤ length ms * length sections + length ms * length ms
  done-le sections [] ls last n h = let e = h.2 in omega arith
  done-le sections (m ∷ ms) [] last n h = absurd h
  done-le sections (m ∷ ms) (l ∷ ls) last n (next, one, others, step, done, count) =
      rw count (step-le sections m l next one others (length ms) step (done-le next ms ls last others done))

  pub stuck-le : (sections : List Cuboid) (ms : List Size) (n : ℕ) → IsStuck may sections ms n
      → n + length ms ≤ length ms * length sections + length ms * length ms
  stuck-le sections [] n h = absurd h
  stuck-le sections (m ∷ ms) n (inl h) = let e = h.1 in omega arith
  stuck-le sections (m ∷ ms) n (inr (l, next, one, others, step, stuck, count)) =
      rw count (step-le sections m l next one others (length ms) step (stuck-le next ms others stuck))

  -- so a trial makes at most that many
  pub done-most : (sections : List Cuboid) (ms : List Size) (ls last : List Cuboid) (n : ℕ) → IsDone may sections ms ls last n
      → n ≤ most_tests (length ms) (length sections)
  done-most sections ms ls last n done = omega (arith, done-le sections ms ls last n done, pairs (length ms))

  pub stuck-most : (sections : List Cuboid) (ms : List Size) (n : ℕ) → IsStuck may sections ms n → n ≤ most_tests (length ms) (length sections)
  stuck-most sections ms n stuck = omega (arith, stuck-le sections ms n stuck, pairs (length ms))

  -- and a counter rises by no more, whatever the trial answers
  pub counted-le : {A E : Type 0} (old : Bin) (ms : List Size) (counted : ℕ) (answer : Result (Option (Vec Cuboid A)) E) (new : Bin) (counter : ℕ)
      → IsTrialAnswer may old ms counted answer new counter → counter ≤ counted + most_tests (length ms) (length old.sections)
  counted-le old ms counted (Ok (Some locations)) new counter (n, done, same, is) =
      omega (arith, is, done-most old.sections ms locations.items new.sections n done)
  counted-le old ms counted (Ok None) new counter (n, stuck, same, is) =
      omega (arith, is, stuck-most old.sections ms n stuck.0)
  counted-le old ms counted (Err error) new counter (same, is) = omega (arith, is)

  -- and a trial that is done makes the list longer by at most two a member
  pub grown-le : (sections : List Cuboid) (ms : List Size) (ls last : List Cuboid) (n : ℕ) → IsDone may sections ms ls last n
      → length last ≤ length sections + 2 * length ms
  grown-le sections [] ls last n h = let e = ap length h.1 in omega arith
  grown-le sections (m ∷ ms) [] last n h = absurd h
  grown-le sections (m ∷ ms) (l ∷ ls) last n (next, one, others, step, done, count) =
      let a = length-step may sections m l next one step in
      let b = grown-le next ms ls last others done in
      omega arith
