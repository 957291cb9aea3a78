-- The summaries of bins in a binary tree, which stands in an array: those of the bins are its second half, and below
-- the node at n stand those at 2 n and 2 n + 1. By it a group passes over many bins at once that do not hold its first
-- member.
use Rattle.std.specs.Prelude.{◌≡◌, ◌≢◌, ℕ, ◌+◌, ◌*◌, ◌/◌, ◌^◌, ◌<◌, List, [], ◌∷◌, length, Option, Some, None, slice_index_or}
use Rattle.rectangle_pack_sections.specs.Boxes.{Size}
use Rattle.rectangle_pack_lists.specs.private.Summaries.{RulesOut, joined}
use Rattle.rectangle_pack_lists.specs.declared.gap_list.summary.Summary.{Summary}

-- a summary that is known above two is that of both, which are known too
abbrev pub IsAbove : Option Summary → Option Summary → Option Summary → Type 0
IsAbove None one other = Unit {0}
IsAbove (Some summary) (Some one) (Some other) = summary ≡ joined one other
IsAbove (Some summary) one other = ⊥

-- the summary at a node, or that nothing is known
abbrev pub node_at : List (Option Summary) → ℕ → Option Summary
node_at nodes n = slice_index_or nodes n None

-- the array has an even length, and each node in its first half, but the one at `hole`, is above the two that stand
-- below it (`IsAbove`). Place 0 has no node
pub record IsTreeBut (hole : ℕ) (nodes : List (Option Summary)) : Type 0 where
  pub even : length nodes ≡ length nodes / 2 + length nodes / 2
  pub above : (n : ℕ) → 0 < n → n < length nodes / 2 → n ≢ hole → IsAbove (node_at nodes n) (node_at nodes (2 * n)) (node_at nodes (2 * n + 1))

-- the same without an exception, as place 0 has no node
-- Example: an array of 16, with five bins at 8 to 12, of which the summaries of the first four are known. Then at 4 may
-- stand that of the first two together, at 5 that of the next two, and at 2 that of all four. At 6, 3 and 1 there is
-- none, as that of the fifth is not known
abbrev pub IsTree : List (Option Summary) → Type 0
IsTree nodes = IsTreeBut 0 nodes

-- the nodes of the array from a place on, as many as the width, are the lowest ones below this node
pub record IsStretch (place node width : ℕ) : Type 0 where
  pub height : ℕ
  pub width_is : width ≡ 2 ^ height
  pub place_is : place ≡ node * width

-- each summary is known and rules out the size; so many sections they count in all
-- Example: of two bins with the section 9x1x1 and two with 1x9x1 each summary rules out 2x2x1, and `tests` is 4. That
-- of all four does too, though it is 9 wide and 9 high: its middle side is 1
abbrev pub RuleOut : List (Option Summary) → Size → ℕ → Type 0
RuleOut [] size tests = tests ≡ 0
RuleOut (None ∷ summaries) size tests = ⊥
RuleOut (Some summary ∷ summaries) size tests =
    RulesOut summary size × (others : ℕ) × RuleOut summaries size others × (tests ≡ summary.count + others)
