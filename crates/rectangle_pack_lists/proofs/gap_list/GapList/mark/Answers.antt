use Rattle.std.proofs.Common.{◌%◌}
use Rattle.rectangle_pack_sections.proofs.Std.{arith, ℕ, ◌≡◌, ◌≤◌, ◌<◌, ◌+◌, ◌*◌, ◌/◌, ◌∙◌, get_or, ap, refl, List, Bool, Option, None, Some, length, set, length-set, if◌then◌else◌}
use Rattle.rectangle_pack_sections.specs.Boxes.{Cuboid}
use Rattle.rectangle_pack_lists.specs.Joining.{entry}
use Rattle.rectangle_pack_lists.specs.private.GapBits.{bits_of, flags_of}
use Rattle.rectangle_pack_lists.specs.private.Places.{Places, places_of}
use Rattle.rectangle_pack_lists.specs.private.Summaries.{SumAll}
use Rattle.rectangle_pack_lists.specs.declared.gap_list.summary.Summary.{Summary}
use Rattle.rectangle_pack_lists.proofs.lemmas.trial.GapBits.{all-flags_of, set-flags_of}
use Rattle.rectangle_pack_lists.proofs.lemmas.trial.Places.{counted, length-places_of, mark-places_of}
use Rattle.rectangle_pack_lists.proofs.gap_list.GapList.mark.Given.{Over}
use Rattle.rectangle_pack_lists.proofs.gap_list.GapList.mark.Goals.{After-sum_block_anew}
use Rattle.rectangle_pack_lists.proofs.gap_list.GapList.mark.Goals.at as goal_at
use Rattle.rectangle_pack_lists.proofs.gap_list.GapList.mark.Goals as goal

-- the summaries are still those of whole stretches
blocks_whole : (s s' : List Cuboid) (g : List Bool) (blocks : List Summary) → SumAll 8 (places_of s g) blocks → s' ≡ s → length blocks * 8 ≤ length s'
blocks_whole s s' g blocks summed same = omega (arith, summed.whole, length-places_of s g, ap length same)

rows_whole : (s s' : List Cuboid) (g g' : List Bool) (blocks rows : List Summary) → SumAll 64 (places_of s g) rows → SumAll 8 (places_of s' g') blocks
    → s' ≡ s → length rows * 8 ≤ length blocks
rows_whole s s' g g' blocks rows in_rows in_blocks same =
    omega (arith, in_rows.whole, in_blocks.rest, length-places_of s g, length-places_of s' g', ap length same)

both : (s s' : List Cuboid) (g g' : List Bool) → s ≡ s' → g ≡ g' → places_of s g ≡ places_of s' g'
both s s' g g' a b = rw (a, b) refl

-- the flag of the place is written
flag_written : (s : List Cuboid) (all : List (Option Cuboid)) (bytes : List ℕ) (place old new : ℕ) (is_gap : Bool) → place < length all → length s ≡ length all
    → length bytes ≡ (length s + 7) / 8 → old ≡ get_or bytes (place / 8) old → bits_of new ≡ set (bits_of old) (place % 8) is_gap
    → flags_of (set bytes (place / 8) new) ≡ set (flags_of bytes) place is_gap
flag_written s all bytes place old new is_gap within counted long read is =
    set-flags_of bytes place new old is_gap (omega arith) (is ∙ ap (λ (b : ℕ). set (bits_of b) (place % 8) is_gap) read)

flags : (g : Over) (c : After-sum_block_anew g)
    → flags_of c.as_slice-2.result.now ≡ set (flags_of c.self.inside.gaps.items) c.args.place c.args.is_gap
flags g c =
    ap flags_of c.as_slice-2.ensures.value
    ∙ flag_written c.self.inside.sections.items c.args.self.now.all c.self.inside.gaps.items c.args.place c.index.result.now c.marked.result c.args.is_gap
    c.requires (counted _ _ _ (ap (λ (v : Places). v.all) c.self.view_is)) c.self.invariant.0 c.index.ensures c.marked.ensures

set_places : (g : Over) (c : After-sum_block_anew g) → places_of c.as_slice.result.now (flags_of c.as_slice-2.result.now)
    ≡ set (places_of c.self.inside.sections.items (flags_of c.self.inside.gaps.items)) c.args.place
    (if c.args.is_gap then None else Some (entry c.self.inside.sections.items c.args.place))
set_places g c =
    both _ _ _ _ c.as_slice.ensures.value (flags g c)
    ∙ mark-places_of c.self.inside.sections.items (flags_of c.self.inside.gaps.items) c.args.place c.args.is_gap
    (all-flags_of c.self.inside.sections.items c.self.inside.gaps.items c.self.invariant.0)

-- the blocks are summed
in_blocks : (g : Over) (c : After-sum_block_anew g) → SumAll 8 (places_of c.as_slice.result.now (flags_of c.as_slice-2.result.now)) c.sum_block_anew.new.blocks.items
in_blocks g c = c.sum_block_anew.ensures.sums _ _ (set_places g c) c.self.invariant.1.in_blocks

-- the byte of the place's block is there
block_inside : (place all sections bytes long : ℕ) → place < all → long ≡ bytes → bytes ≡ (sections + 7) / 8 → sections ≡ all → place / 8 < long
block_inside place all sections bytes long within same blocks counted = omega arith

pub index-requires : goal.index-requires
index-requires g c =
    block_inside _ _ _ _ _ c.requires c.self.inside.gaps.ok.0 c.self.invariant.0 (counted _ _ _ (ap (λ (v : Places). v.all) c.self.view_is))

pub index_mut-requires : goal.index_mut-requires
index_mut-requires g c =
    block_inside _ _ _ _ _ c.requires c.self.inside.gaps.ok.0 c.self.invariant.0 (counted _ _ _ (ap (λ (v : Places). v.all) c.self.view_is))

pub sum_block_anew-requires-clause-whole : goal.sum_block_anew-requires-clause-whole
sum_block_anew-requires-clause-whole g c = blocks_whole _ _ _ _ c.self.invariant.1.in_blocks c.as_slice.ensures.value

pub sum_row_anew-requires-clause-whole : goal.sum_row_anew-requires-clause-whole
sum_row_anew-requires-clause-whole g c =
    rw c.as_slice-3.ensures.value
    (rows_whole _ _ _ _ _ _ c.self.invariant.1.in_rows (in_blocks g (goal_at.sum_row_anew-requires-clause-whole g c).After-sum_block_anew) c.as_slice.ensures.value)

pub sum_row_anew-requires-clause-summed : goal.sum_row_anew-requires-clause-summed
sum_row_anew-requires-clause-summed g c = (
  places_of c.as_slice.result.now (flags_of c.as_slice-2.result.now),
  rw (length-places_of c.as_slice.result.now (flags_of c.as_slice-2.result.now)) c.as_slice.type_inv.0,
  rw c.as_slice-3.ensures.value (in_blocks g (goal_at.sum_row_anew-requires-clause-summed g c).After-sum_block_anew),
)

pub invariant_of-self : goal.invariant_of-self
invariant_of-self g c =
    let here = (goal_at.invariant_of-self g c).After-sum_block_anew in
    let summed = in_blocks g here in
    let marked = set_places g here in
    let content : Option Cuboid = if c.args.is_gap then None else Some (entry c.self.inside.sections.items c.args.place) in
    let rows = c.sum_row_anew.ensures.sums _ content (rw c.as_slice-3.ensures.value (rw marked at summed)) c.self.invariant.1.in_rows in (
      length-set c.self.inside.gaps.items (c.args.place / 8) c.marked.result ∙ c.self.invariant.0,
      record {
        in_blocks = rw (c.as_slice.ensures.value, c.as_slice-2.ensures.value) at summed;
        in_rows = rw (c.as_slice.ensures.value, c.as_slice-2.ensures.value) at (rw (← marked) at rows);
      },
    )

pub returns-clause-all : goal.returns-clause-all
returns-clause-all g c =
    let all = set_places g (goal_at.returns-clause-all g c).After-sum_block_anew in
    rw (c.as_slice.ensures.value, c.as_slice-2.ensures.value) at all
    ∙ ap (λ (v : Places). set v.all c.args.place (if c.args.is_gap then None else Some (entry v.under c.args.place))) c.self.view_is
