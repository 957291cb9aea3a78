-- What a trial in a bin answers, and what it leaves.
use Rattle.std.specs.Prelude.{◌≡◌, ℕ, ◌+◌, ◌-◌, ◌*◌, List, Option, Some, None, Result, Ok, Err}
use Rattle.std.specs.declared.vec.Vec.{Vec}
use Rattle.std.specs.Option.{option_map}
use Rattle.rectangle_pack_sections.specs.Boxes.{Size, Cuboid}
use Rattle.rectangle_pack_sections.specs.Bins.{Bin}
use Rattle.rectangle_pack_sections.specs.Closures.{Answers}
use Rattle.rectangle_pack_lists.specs.Numbers.{saturated}
use Rattle.rectangle_pack_lists.specs.Steps.{IsDone, IsStuck}

-- a trial, by what comes of it. Locations: it is done (`IsDone`), and `new` is its last list. `None`: it is stuck
-- (`IsStuck`), and the list is as before
abbrev pub IsTrial : Answers → List Cuboid → List Size → Option (List Cuboid) → List Cuboid → ℕ → Type 0
IsTrial may old members (Some locations) new tests = IsDone may old members locations new tests
IsTrial may old members None new tests = IsStuck may old members tests × (new ≡ old)

-- what a trial in a bin answers, by cases. Done or stuck (`IsTrial`): the bin has the list that the trial leaves, all
-- else in it is as before, and the tests are added to the counter. Out of memory: bin and counter are as before
abbrev pub IsTrialAnswer : {A E : Type 0} → Answers → Bin → List Size → ℕ → Result (Option (Vec Cuboid A)) E → Bin → ℕ → Type 0
IsTrialAnswer may old members counted (Ok placed) new counter =
    (tests : ℕ) × IsTrial may old.sections members (option_map (λ v. v.items) placed) new.sections tests
    × (new ≡ record old { sections = new.sections }) × (counter ≡ saturated (counted + tests))
IsTrialAnswer may old members counted (Err error) new counter = (new ≡ old) × (counter ≡ counted)

-- the most fit tests of a trial of so many members in so many sections: members · sections + members · (members - 1),
-- since each member makes the list longer by at most two
-- Example: two members in one section make at most 4; 1x1x1 and then 10x10x10 in an empty bin 10x10x10 make 1 + 3
abbrev pub most_tests : ℕ → ℕ → ℕ
most_tests members sections = members * sections + members * (members - 1)
