-- What a summary says of sections and of a stretch of places, and a list of summaries of the whole stretches of a width.
-- A search passes over a stretch whose summary rules the size out, and adds its count to the tests: as many as a look
-- at each section would make.
use Rattle.std.specs.Prelude.{◌≡◌, ℕ, ◌+◌, ◌*◌, ◌-◌, ◌^◌, ◌<◌, ◌≤◌, List, length, min, max, All, Option, take, drop, slice_index_or}
use Rattle.rectangle_pack_sections.specs.Boxes.{Size, Cuboid, Holds, volume_of, middle_side}
use Rattle.rectangle_pack_lists.specs.private.Places.{sections_of}
use Rattle.rectangle_pack_lists.specs.declared.gap_list.summary.Summary.{Summary}

-- how many cells a size has, at most 2^64 - 1
abbrev pub bounded_volume_of : Size → ℕ
bounded_volume_of s = min (volume_of s) (2 ^ 64 - 1)

-- the section has no greater width, height, depth, middle side or volume than the summary says
pub record IsWithin (summary : Summary) (section : Cuboid) : Type 0 where
  pub wide : section.whd.width ≤ summary.width
  pub high : section.whd.height ≤ summary.height
  pub deep : section.whd.depth ≤ summary.depth
  pub middle : middle_side section.whd ≤ summary.middle
  pub volume : bounded_volume_of section.whd ≤ summary.volume

-- there are so many sections, and each is within the summary
pub record Bounds (summary : Summary) (sections : List Cuboid) : Type 0 where
  pub count : summary.count ≡ length sections
  pub within : All (IsWithin summary) sections

-- so many sections stand at these places, and each is within the summary
abbrev pub Sums : Summary → List (Option Cuboid) → Type 0
Sums summary places = Bounds summary (sections_of places)

-- no section that is within the summary holds the size
-- Example: a summary of height 4 rules out 5x5x1, whatever else it says
abbrev pub RulesOut : Summary → Size → Type 0
RulesOut summary size = (section : Cuboid) → IsWithin summary section → ¬ Holds section size

-- each whole stretch of `width` places, from the first on, has its summary (`Sums`)
pub record SumAll (width : ℕ) (places : List (Option Cuboid)) (summaries : List Summary) : Type 0 where
  pub whole : length summaries * width ≤ length places
  pub rest : length places < length summaries * width + width
  pub each : (k : ℕ) (d : Summary) → k < length summaries → Sums (slice_index_or summaries k d) (take width (drop (k * width) places))

-- the whole blocks have their summaries, and so have the whole rows (`SumAll`)
pub record AreSummed (block row : ℕ) (places : List (Option Cuboid)) (blocks rows : List Summary) : Type 0 where
  pub in_blocks : SumAll block places blocks
  pub in_rows : SumAll row places rows

-- the summaries are those of the whole blocks of some places, which are fewer than 2^64 (`SumAll`)
abbrev pub HavePlaces : List Summary → Type 0
HavePlaces blocks = (places : List (Option Cuboid)) × (length places < 2 ^ 64) × SumAll 8 places blocks

-- the summary of one section, of this size
abbrev pub of_section : Size → Summary
of_section z =
    record {
      width = z.width;
      height = z.height;
      depth = z.depth;
      middle = middle_side z;
      volume = bounded_volume_of z;
      count = 1;
    }

-- the summary of two stretches together
abbrev pub joined : Summary → Summary → Summary
joined s t =
    record {
      width = max s.width t.width;
      height = max s.height t.height;
      depth = max s.depth t.depth;
      middle = max s.middle t.middle;
      volume = max s.volume t.volume;
      count = s.count + t.count;
    }
