use Rattle.rectangle_pack_sections.proofs.Std.{◌≡◌, ◌≤◌, length, take, drop, vec_capacity}
use Rattle.rectangle_pack_lists.specs.private.GapBits.{flags_of}
use Rattle.rectangle_pack_lists.specs.private.Places.{places_of, sections_of}
use Rattle.rectangle_pack_lists.proofs.gap_list.close_up.Given as goal

-- the first are the sections of the places so far, and those to come stand where they stood
abbrev pub invariant-loop-place : goal.invariant-loop-place
invariant-loop-place g l = record {
  long : length l.sections.items ≡ length l.fn.sections.items;
  few : l.kept ≤ l.place;
  done : take l.kept l.sections.items ≡ sections_of (take l.place (places_of l.fn.sections.items (flags_of l.gaps)));
  rest : drop l.place l.sections.items ≡ drop l.place l.fn.sections.items;
  capacity : vec_capacity l.sections ≡ vec_capacity l.fn.sections;
}
