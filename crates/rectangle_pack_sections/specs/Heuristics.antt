-- What the heuristics with a name rate a size by, and what a packing with one of them is answered.
use Rattle.std.specs.Prelude.{◌≡◌, ℕ, ◌+◌, ◌*◌, ◌^◌, ◌↔◌, List, Result, Ok, codes}
use Rattle.rectangle_pack_sections.specs.Boxes.{Size, volume_of, longest_side, middle_side, shortest_side}
use Rattle.rectangle_pack_sections.specs.Closures.{Answers, AreThreeSizes}
use Rattle.rectangle_pack_sections.specs.SmallestBox.{IsSmallestOrder}
use Rattle.rectangle_pack_sections.specs.declared.box_size_heuristics.named.Heuristic.{Heuristic}
use Rattle.rectangle_pack_sections.specs.declared.box_size_heuristics.named.Heuristic.TheVariants.{Volume, Height, Width, Depth, SideSum, LongestSide, ShortestSide, SideArea}

-- three numbers as one: first * 2^64 + second * 2^32 + third. Of numbers of 32 bits the first counts most, then the
-- second, then the third
-- Example: `in_turn 7 3 5` = 129127208528851763205
abbrev pub in_turn : ℕ → ℕ → ℕ → ℕ
in_turn first second third = first * 2 ^ 64 + second * 2 ^ 32 + third

-- what the heuristic of this name rates the size by: `Volume` width times height times depth; `Height` height, width
-- and depth in turn; `Width` width, height and depth in turn; `Depth` depth, width and height in turn; `SideSum` the
-- sum of the sides; `LongestSide` the longest, the middle and the shortest side in turn; `ShortestSide` the shortest,
-- the middle and the longest side in turn; `SideArea` height times depth
-- Example: of a box 3 wide, 7 high and 5 deep: `Volume` 105, `Height` `in_turn 7 3 5`, `SideSum` 15, `ShortestSide`
-- `in_turn 3 5 7`, `SideArea` 35
abbrev pub rate_of : Heuristic → Size → ℕ
rate_of Volume s = volume_of s
rate_of Height s = in_turn s.height s.width s.depth
rate_of Width s = in_turn s.width s.height s.depth
rate_of Depth s = in_turn s.depth s.width s.height
rate_of SideSum s = s.width + s.height + s.depth
rate_of LongestSide s = in_turn (longest_side s) (middle_side s) (shortest_side s)
rate_of ShortestSide s = in_turn (shortest_side s) (middle_side s) (longest_side s)
rate_of SideArea s = s.height * s.depth

-- the text of each name: `volume`, `height`, `width`, `depth`, `side-sum`, `longest-side`, `shortest-side`, `side-area`
abbrev pub heuristic_text : Heuristic → List ℕ
heuristic_text Volume = codes "volume"
heuristic_text Height = codes "height"
heuristic_text Width = codes "width"
heuristic_text Depth = codes "depth"
heuristic_text SideSum = codes "side-sum"
heuristic_text LongestSide = codes "longest-side"
heuristic_text ShortestSide = codes "shortest-side"
heuristic_text SideArea = codes "side-area"

-- what a text is parsed to: a heuristic exactly where it is that heuristic's text
-- Example: `height` is `Height`; `Height` is none
abbrev pub IsNamed : {E : Type 0} → List ℕ → Result Heuristic E → Type 0
IsNamed text answer = (h : Heuristic) → (answer ≡ Ok h) ↔ (text ≡ heuristic_text h)

-- what a packing with the heuristic of this name is answered: its rate of each size, and on two triples of sizes of 32
-- bits the order of `contains_smallest_box` by these rates (`IsSmallestOrder`)
abbrev pub named_answers : Heuristic → Answers
named_answers heuristic =
    let rates_by : Size → ℕ → Type 0 = λ size rate. rate ≡ rate_of heuristic size in
    record { rate = rates_by; prefer = λ first second r. AreThreeSizes first × AreThreeSizes second × IsSmallestOrder rates_by first second r }
