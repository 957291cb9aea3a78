use Rattle.std.specs.Int.{div_ceil}
use Rattle.std.proofs.Common.{replicate, le_trans}
use Rattle.std.proofs.Math.Seq.{take-nil}
use Rattle.rectangle_pack_sections.proofs.Std.{arith, ℕ, ◌≡◌, ◌≤◌, ◌+◌, ◌*◌, ◌/◌, ◌∙◌, ap, sym, length, min, vec_capacity, List, [], ◌++◌, take, map, Some}
use Rattle.rectangle_pack_sections.specs.Boxes.{Cuboid}
use Rattle.rectangle_pack_lists.specs.private.GapBits.{flags_of}
use Rattle.rectangle_pack_lists.specs.private.Places.{places_of}
use Rattle.rectangle_pack_lists.proofs.lemmas.trial.GapBits.{flags_of-none}
use Rattle.rectangle_pack_lists.proofs.lemmas.trial.Places.{length-places_of, places_of-full}
use Rattle.rectangle_pack_lists.proofs.gap_list.GapList.over.Goals as goal

few_rows : (b b' places n len extra : ℕ) → b * 8 ≤ places → places ≡ n → n ≡ len → b' ≡ b → b' / 8 ≤ (len + extra) / 64
few_rows b b' places n len extra whole long same read = omega arith

-- sections, flags, blocks and rows for so many places make room for them
room_made : (all most n extra sections bytes gaps blocks rows : ℕ) → all ≡ n → most ≡ n + extra → most ≤ sections → bytes ≡ div_ceil most 8 → bytes ≤ gaps → most / 8 ≤ blocks → most / 64 ≤ rows
    → all + extra ≤ min (min sections (gaps * 8)) (min (blocks * 8 + 7) (rows * 64 + 63))
room_made all most n extra sections bytes gaps blocks rows long same s is g b r = omega arith

-- where the bytes are all new, each place has its section
no_gap : (s s' : List Cuboid) (g g' : List ℕ) (n m : ℕ) → s' ≡ s → g ≡ [] → g' ≡ take n g ++ replicate m 0
    → places_of s' (flags_of g') ≡ map (λ x. Some x) s
no_gap s s' g g' n m same none filled = rw (same, filled, none, take-nil n, flags_of-none m) (places_of-full s (m * 8))

pub sum_rows-requires-clause-summed : goal.sum_rows-requires-clause-summed
sum_rows-requires-clause-summed g c = (
  places_of c.as_slice.result.now (flags_of c.as_slice-2.result.now),
  rw (length-places_of c.as_slice.result.now (flags_of c.as_slice-2.result.now)) c.as_slice.type_inv.0,
  rw c.as_slice-3.ensures.value c.in_ok-blocks.ensures.sums,
)

pub sum_rows-requires-clause-room : goal.sum_rows-requires-clause-room
sum_rows-requires-clause-room g c =
    few_rows _ _ _ _ _ _ c.in_ok-blocks.ensures.sums.whole (length-places_of _ _) (c.as_slice.ensures.len ∙ sym c.len.ensures) (ap length c.as_slice-3.ensures.value)

pub returns-clause-all : goal.returns-clause-all
returns-clause-all g c =
    rw c.replace-taken.ensures.value (no_gap _ _ _ _ _ _ c.reserve.ensures.items c.in_ok-gaps.ensures.items c.in_ok-resize.ensures.items)

pub returns-clause-room : goal.returns-clause-room
returns-clause-room g c =
    let made : c.len.result + c.args.extra ≤ vec_capacity c.reserve.new.self = rw c.len.ensures c.in_ok-reserve.ensures.ok in
    rw c.replace-taken.ensures.value
    (room_made _ (c.len.result + c.args.extra) _ _ _ _ _ _ _ (length-places_of _ _) (ap (λ n. n + c.args.extra) (c.len.ensures ∙ c.reserve.new.self.ok.0))
    made c.div_ceil.ensures (le_trans c.in_ok-gaps.ensures.capacity c.resize.ensures.capacity) c.in_ok-blocks.ensures.room c.in_ok-rows.ensures.room)
