-- Trials in one bin.
use Rattle.std.specs.Result.{IsErr}
use Rattle.rectangle_pack_sections.proofs.Std.{◌≡◌, ℕ, List, Bool, true, false, Option, Some, None, Result, Ok, Err, Vec, refl, if◌then◌else◌}
use Rattle.rectangle_pack_sections.specs.Boxes.{Size, Cuboid}
use Rattle.rectangle_pack_sections.specs.Bins.{Bin}
use Rattle.rectangle_pack_sections.specs.Closures.{Answers}
use Rattle.std.specs.Option.{option_map}
use Rattle.rectangle_pack_lists.specs.Trials.{IsTrial, IsTrialAnswer}

-- what a trial answers, by whether it is done
pub IsTrial-answered : {A : Type 0} (may : Answers) (old : List Cuboid) (ms : List Size) (done : Bool) (locations : Vec Cuboid A)
    (answer : Option (Vec Cuboid A)) (last : List Cuboid) (n : ℕ)
    → answer ≡ (if done then Some locations else None) → IsTrial may old ms (if done then Some locations.items else None) last n
    → IsTrial may old ms (option_map (λ v. v.items) answer) last n
IsTrial-answered may old ms true locations answer last n is trial = rw is trial
IsTrial-answered may old ms false locations answer last n is trial = rw is trial

-- want of memory leaves bin and count
pub IsTrialAnswer-refused : {A E : Type 0} (may : Answers) (old new : Bin) (ms : List Size) (counted : ℕ) (r : Result (Option (Vec Cuboid A)) E)
    → IsErr r → new ≡ old → IsTrialAnswer may old ms counted r new counted
IsTrialAnswer-refused may old new ms counted (Ok found) error same = absurd cc
IsTrialAnswer-refused may old new ms counted (Err e) error same = (same, refl)
