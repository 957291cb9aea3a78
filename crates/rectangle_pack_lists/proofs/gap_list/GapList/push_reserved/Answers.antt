use Rattle.rectangle_pack_sections.proofs.Std.{arith, ◌≡◌, ◌≤◌, ◌<◌, ◌+◌, ◌*◌, ◌/◌, ◌∙◌, ◌++◌, ◌∷◌, [], refl, ap, ℕ, take, List, Bool, false, Some, length, length-append}
use Rattle.rectangle_pack_sections.specs.Boxes.{Cuboid}
use Rattle.rectangle_pack_lists.specs.private.GapBits.{flags_of}
use Rattle.rectangle_pack_lists.specs.private.Places.{Places, places_of}
use Rattle.rectangle_pack_lists.specs.private.Summaries.{SumAll}
use Rattle.rectangle_pack_lists.specs.declared.gap_list.summary.Summary.{Summary}
use Rattle.rectangle_pack_lists.proofs.lemmas.trial.GapBits.{all-flags_of}
use Rattle.rectangle_pack_lists.proofs.lemmas.trial.Places.{counted, length-places_of, more-places_of}
use Rattle.rectangle_pack_lists.proofs.lemmas.trial.Rooms.{counted-more, section-fits, flag-fits, block-fits, row-fits}
use Rattle.rectangle_pack_lists.proofs.gap_list.GapList.push_reserved.Given.{Over}
use Rattle.rectangle_pack_lists.proofs.gap_list.GapList.push_reserved.Goals.{After-as_slice-2, After-sum_last_block}
use Rattle.rectangle_pack_lists.proofs.gap_list.GapList.push_reserved.Goals.at as goal_at
use Rattle.rectangle_pack_lists.proofs.gap_list.GapList.push_reserved.Goals as goal

-- the places are those of before and one more
pushed : (s s' : List Cuboid) (bytes new now : List ℕ) (x : Cuboid) (n : ℕ) → n ≡ length s → length bytes ≡ (length s + 7) / 8 → s' ≡ s ++ x ∷ [] → now ≡ new
    → ((rest : List Bool) × (flags_of new ≡ take n (flags_of bytes) ++ false ∷ rest)) → places_of s' (flags_of now) ≡ places_of s (flags_of bytes) ++ Some x ∷ []
pushed s s' bytes new now x n at long more same (rest, flags) =
    rw (more, same) (more-places_of s (flags_of bytes) (flags_of new) rest x (all-flags_of s bytes long) (rw at at flags))

-- and each has its bit
grown : (s s' : List Cuboid) (bytes : List ℕ) (x : Cuboid) (n : ℕ) → n ≡ length s → s' ≡ s ++ x ∷ [] → length bytes ≡ n / 8 + 1
    → length bytes ≡ (length s' + 7) / 8
grown s s' bytes x n at more long = omega (arith, ap length more, length-append s (x ∷ []))

-- the blocks are those of the places before, and of the rest at most one is whole
blocks_whole : (s s' : List Cuboid) (g : List Bool) (blocks : List Summary) → SumAll 8 (places_of s g) blocks → length s' ≡ length s + 1 → length blocks * 8 < length s'
blocks_whole s s' g blocks summed more = omega (arith, summed.whole, length-places_of s g, more)

blocks_rest : (s s' : List Cuboid) (g : List Bool) (blocks : List Summary) → SumAll 8 (places_of s g) blocks → length s' ≡ length s + 1
    → length s' ≤ length blocks * 8 + 8
blocks_rest s s' g blocks summed more = omega (arith, summed.rest, length-places_of s g, more)

-- and so are the rows
module _ (s s' : List Cuboid) (g g' : List Bool) (blocks rows : List Summary) (in_rows : SumAll 64 (places_of s g) rows) (in_blocks : SumAll 8 (places_of s' g') blocks)
    (more : length s' ≡ length s + 1) where
  rows_whole : length rows * 8 ≤ length blocks
  rows_whole = omega (arith, in_rows.whole, in_blocks.rest, length-places_of s g, length-places_of s' g', more)

  rows_rest : length blocks ≤ length rows * 8 + 8
  rows_rest = omega (arith, in_rows.rest, in_blocks.whole, length-places_of s g, length-places_of s' g', more)

blocks_within : (s : List Cuboid) (g : List Bool) (blocks : List Summary) → SumAll 8 (places_of s g) blocks → length blocks * 8 ≤ length s
blocks_within s g blocks summed = omega (arith, summed.whole, length-places_of s g)

next : (g : Over) (c : After-as_slice-2 g) → length c.as_slice.result.now ≡ length c.self.inside.sections.items + 1
next g c = counted-more _ _ c.args.section _ refl (c.as_slice.ensures.value ∙ c.push_reserved.ensures.items)

more : (g : Over) (c : After-sum_last_block g)
    → places_of c.as_slice.result.now (flags_of c.as_slice-2.result.now)
    ≡ places_of c.self.inside.sections.items (flags_of c.self.inside.gaps.items) ++ Some c.args.section ∷ []
more g c =
    pushed _ _ _ _ _ c.args.section c.len.result (c.len.ensures ∙ c.self.inside.sections.ok.0) c.self.invariant.0
    (c.as_slice.ensures.value ∙ c.push_reserved.ensures.items) c.as_slice-2.ensures.value c.push_place.ensures.flags

-- the blocks are summed
in_blocks : (g : Over) (c : After-sum_last_block g) → SumAll 8 (places_of c.as_slice.result.now (flags_of c.as_slice-2.result.now)) c.sum_last_block.new.blocks.items
in_blocks g c = c.sum_last_block.ensures.sums _ (Some c.args.section) (more g c) c.self.invariant.1.in_blocks

pub push_reserved-requires : goal.push_reserved-requires
push_reserved-requires g c =
    section-fits _ _ _ _ _ (ap (λ (v : Places). v.room) c.self.view_is) _ c.requires _ _ c.self.inside.sections.ok.0
    (counted _ _ _ (ap (λ (v : Places). v.all) c.self.view_is))

pub push_place-requires-clause-room : goal.push_place-requires-clause-room
push_place-requires-clause-room g c =
    flag-fits _ _ _ _ _ (ap (λ (v : Places). v.room) c.self.view_is) _ c.requires _ _ (c.len.ensures ∙ c.self.inside.sections.ok.0)
    (counted _ _ _ (ap (λ (v : Places). v.all) c.self.view_is))

pub sum_last_block-requires-clause-whole : goal.sum_last_block-requires-clause-whole
sum_last_block-requires-clause-whole g c =
    blocks_whole _ _ _ _ c.self.invariant.1.in_blocks (next g (goal_at.sum_last_block-requires-clause-whole g c).After-as_slice-2)

pub sum_last_block-requires-clause-rest : goal.sum_last_block-requires-clause-rest
sum_last_block-requires-clause-rest g c =
    blocks_rest _ _ _ _ c.self.invariant.1.in_blocks (next g (goal_at.sum_last_block-requires-clause-rest g c).After-as_slice-2)

pub sum_last_block-requires-clause-room : goal.sum_last_block-requires-clause-room
sum_last_block-requires-clause-room g c =
    block-fits _ _ _ _ _ (ap (λ (v : Places). v.room) c.self.view_is) _ c.requires _ _
    (next g (goal_at.sum_last_block-requires-clause-room g c).After-as_slice-2) (counted _ _ _ (ap (λ (v : Places). v.all) c.self.view_is))

pub sum_last_row-requires-clause-whole : goal.sum_last_row-requires-clause-whole
sum_last_row-requires-clause-whole g c =
    let at = goal_at.sum_last_row-requires-clause-whole g c in
    rw c.as_slice-3.ensures.value (rows_whole _ _ _ _ _ _ c.self.invariant.1.in_rows (in_blocks g at.After-sum_last_block) (next g at.After-as_slice-2))

pub sum_last_row-requires-clause-rest : goal.sum_last_row-requires-clause-rest
sum_last_row-requires-clause-rest g c =
    let at = goal_at.sum_last_row-requires-clause-rest g c in
    rw c.as_slice-3.ensures.value (rows_rest _ _ _ _ _ _ c.self.invariant.1.in_rows (in_blocks g at.After-sum_last_block) (next g at.After-as_slice-2))

pub sum_last_row-requires-clause-room : goal.sum_last_row-requires-clause-room
sum_last_row-requires-clause-room g c =
    let at = goal_at.sum_last_row-requires-clause-room g c in
    rw c.as_slice-3.ensures.value
    (row-fits _ _ _ _ _ (ap (λ (v : Places). v.room) c.self.view_is) _ c.requires _ _ _ (blocks_within _ _ _ (in_blocks g at.After-sum_last_block))
    (next g at.After-as_slice-2) (counted _ _ _ (ap (λ (v : Places). v.all) c.self.view_is)))

pub sum_last_row-requires-clause-summed : goal.sum_last_row-requires-clause-summed
sum_last_row-requires-clause-summed g c =
    let at = goal_at.sum_last_row-requires-clause-summed g c in (
      places_of c.as_slice.result.now (flags_of c.as_slice-2.result.now),
      rw (length-places_of c.as_slice.result.now (flags_of c.as_slice-2.result.now)) c.as_slice.type_inv.0,
      rw c.as_slice-3.ensures.value (in_blocks g at.After-sum_last_block),
    )

pub invariant_of-self : goal.invariant_of-self
invariant_of-self g c =
    let at = goal_at.invariant_of-self g c in
    let blocks = in_blocks g at.After-sum_last_block in
    let more = more g at.After-sum_last_block in
    let rows = c.sum_last_row.ensures.sums _ (Some c.args.section) (rw c.as_slice-3.ensures.value (rw more at blocks)) c.self.invariant.1.in_rows in (
      grown c.self.inside.sections.items c.push_reserved.new.self.items c.push_place.new.gaps.items c.args.section c.len.result
          (c.len.ensures ∙ c.self.inside.sections.ok.0) c.push_reserved.ensures.items c.push_place.ensures.long,
      record {
        in_blocks = rw (c.as_slice.ensures.value, c.as_slice-2.ensures.value) at blocks;
        in_rows = rw (c.as_slice.ensures.value, c.as_slice-2.ensures.value) at (rw (← more) at rows);
      },
    )

pub returns-clause-all : goal.returns-clause-all
returns-clause-all g c =
    let all = more g (goal_at.returns-clause-all g c).After-sum_last_block in
    rw (c.as_slice.ensures.value, c.as_slice-2.ensures.value) at all ∙ ap (λ (v : Places). v.all ++ Some c.args.section ∷ []) c.self.view_is
