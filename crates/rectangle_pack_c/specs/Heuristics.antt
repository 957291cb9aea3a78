-- The heuristics by the numbers of the header.
use Rattle.std.specs.Prelude.{ℕ, List, [], ◌∷◌, ◌||◌, ◌==◌, filter}
use Rattle.rectangle_pack_sections.specs.declared.box_size_heuristics.named.Heuristic.{Heuristic}
use Rattle.rectangle_pack_sections.specs.declared.box_size_heuristics.named.Heuristic.TheVariants.{Volume, Height, Width, Depth, SideSum, LongestSide, ShortestSide, SideArea}

-- the number of a heuristic in the header
abbrev pub heuristic_number : Heuristic → ℕ
heuristic_number Volume = 0
heuristic_number Height = 1
heuristic_number Width = 2
heuristic_number Depth = 3
heuristic_number SideSum = 4
heuristic_number LongestSide = 5
heuristic_number ShortestSide = 6
heuristic_number SideArea = 7

-- all heuristics, in the order of their numbers
abbrev pub all_heuristics : List Heuristic
all_heuristics = Volume ∷ Height ∷ Width ∷ Depth ∷ SideSum ∷ LongestSide ∷ ShortestSide ∷ SideArea ∷ []

-- the heuristics of which the best is asked for: the one of this number; all, for `RP_BEST`; none, where the number is
-- unknown
-- Example: `asked 1` is [`Height`], `asked 8` is []
abbrev pub asked : ℕ → List Heuristic
asked number = filter (λ h. (heuristic_number h == number) || (number == 0xffff)) all_heuristics
