use Rattle.rectangle_pack_sections.proofs.Std.{◌≡◌, ◌+◌, map, deref_pair}
use Rattle.rectangle_pack_groups.proofs.lemmas.multimap.Vectors.{entries_in}
use Rattle.rectangle_pack_groups.proofs.grouped_rects_to_place.multimap.number_after.Given as goal

abbrev pub invariant-loop-list : goal.invariant-loop-list
invariant-loop-list g l = l.number ≡ l.first + entries_in (map deref_pair l.yielded)
