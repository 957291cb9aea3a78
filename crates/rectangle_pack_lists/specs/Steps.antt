-- One step of a list of sections, and one trial.
use Rattle.std.specs.Prelude.{◌≡◌, ℕ, ◌+◌, ◌≤◌, ◌==◌, List, [], ◌∷◌, ◌++◌, length, All, AllPairs, ◌⊎◌, map, filter}
use Rattle.std.specs.List.{AllZip, zip}
use Rattle.rectangle_pack_sections.specs.Closures.{Answers}
use Rattle.rectangle_pack_sections.specs.Boxes.{Size, Cuboid, Holds, has_cells}
use Rattle.rectangle_pack_sections.specs.Cuts.{placed}
use Rattle.rectangle_pack_sections.specs.Choice.{IsAllowedCut}

-- the pieces in order: of any two the one with the greater rate first (`falling`), and those of one rate as they are
-- listed (`as_listed`)
-- Example: A with rate 5, B with rate 7 and C with rate 5 are listed as A, B, C. Ranked they are B, A, C. In B, C, A
-- those of rate 5 are not as listed; in A, B, C the rates do not fall; in B, A one is missing
pub record AreRanked (listed ranked : List (ℕ × Cuboid)) : Type 0 where
  pub falling : AllPairs (λ p q. q.0 ≤ p.0) ranked
  pub as_listed : (rate : ℕ) → filter (λ p. p.0 == rate) ranked ≡ filter (λ p. p.0 == rate) listed

-- each piece of the cut has one rate; `left` are the pieces in the order of these rates (`AreRanked`), without those
-- that have no cells
pub record AreLeft (MayRate : Size → ℕ → Type 0) (cut left : List Cuboid) : Type 0 where
  pub rates : List ℕ
  pub rated : AllZip (λ piece rate. MayRate piece.whd rate) cut rates
  pub ranked : List (ℕ × Cuboid)
  pub are_ranked : AreRanked (zip rates cut) ranked
  pub are : left ≡ filter has_cells (map (λ p. p.1) ranked)

module _ (may : Answers) where
  -- one step: the member goes into the last section that holds it: that section holds it, and no section after it does.
  -- The location is the member's size at the section's corner. In the new list the section is left out, and the pieces
  -- that an allowed cut leaves (`AreLeft`) stand at its end. There is one test for the section, and one for each
  -- section after it
  pub record IsStep (sections : List Cuboid) (member : Size) (location : Cuboid) (next : List Cuboid) (tests : ℕ) : Type 0 where
    pub before : List Cuboid
    pub section : Cuboid
    pub after : List Cuboid
    pub splits : sections ≡ before ++ section ∷ after
    pub held : Holds section member
    pub newest : All (λ s. ¬ Holds s member) after
    pub location_is : location ≡ placed section member
    pub cut : List Cuboid
    pub allowed : IsAllowedCut may.prefer section member cut
    pub left : List Cuboid
    pub are_left : AreLeft may.rate cut left
    pub next_is : next ≡ before ++ after ++ left
    pub tests_are : tests ≡ 1 + length after

  -- a trial that is done: each member in turn has a step (`IsStep`), in the list that the step before left. The
  -- locations are those of the steps, the last list is the one after the last of them, and the tests are the sum of
  -- theirs
  -- Example: by `volume_heuristic` and `contains_smallest_box`, the members 50x90x1 and 1x1x1 in [(0,0,0) 100x100x1].
  -- Behind has no cells in any cut, so the smaller of right and above decides. For the first member it is 50x10x1 (500
  -- cells) in the cuts 0, 2 and 3, and 100x10x1 (1000) in the others. Three cuts tie at 500, and the last of them is
  -- taken: cut 3. It leaves [(50,0,0) 50x100x1, (0,90,0) 50x10x1], the greater piece first. The second member goes into
  -- the last section, to (0,90,0) 1x1x1. Cut 3 is taken again, with 1x9x1 (9 cells); the cuts 1, 4 and 5 have 49x1x1
  -- (49). The last list is [(50,0,0) 50x100x1, (1,90,0) 49x10x1, (0,91,0) 1x9x1]. The tests are 1 + 1 = 2
  abbrev pub IsDone : List Cuboid → List Size → List Cuboid → List Cuboid → ℕ → Type 0
  IsDone sections [] locations last tests = (locations ≡ []) × (last ≡ sections) × (tests ≡ 0)
  IsDone sections (m ∷ ms) [] last tests = ⊥
  IsDone sections (m ∷ ms) (l ∷ ls) last tests =
      (next : List Cuboid) × (one : ℕ) × (others : ℕ) × IsStep sections m l next one × IsDone next ms ls last others × (tests ≡ one + others)

  -- a trial that is stuck: the closures may answer so that, after steps for the members before it, some member is held
  -- by no section of the list as it is then. The tests are those of these steps, and one for each section of that list.
  -- Where the closures are functions and the comparison is a total preorder, the answers leave no choice
  -- (`packing_has_one_result`)
  -- Example: the members 20x10x1 and 20x20x2 in [(0,0,1) 20x20x1, (0,10,0) 20x10x1, (10,0,0) 10x10x1]. The first is too
  -- wide for the last section (20 > 10) and fills the one before it: 2 tests. This leaves [(0,0,1) 20x20x1,
  -- (10,0,0) 10x10x1]. The second is too wide for the last of these (20 > 10) and too deep for the other (2 > 1):
  -- 2 tests more. So the trial is stuck, with 2 + 2 = 4 tests
  abbrev pub IsStuck : List Cuboid → List Size → ℕ → Type 0
  IsStuck sections [] tests = ⊥
  IsStuck sections (m ∷ ms) tests =
      (All (λ s. ¬ Holds s m) sections × (tests ≡ length sections))
      ⊎ ((l : Cuboid) × (next : List Cuboid) × (one : ℕ) × (others : ℕ)
      × IsStep sections m l next one × IsStuck next ms others × (tests ≡ one + others))
