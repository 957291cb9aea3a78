use Rattle.rectangle_pack_sections.proofs.Std.{◌≡◌, ◌≤◌, length, All, vec_capacity, Equal}
use Rattle.rectangle_pack_groups.proofs.grouped_rects_to_place.members.clones.Given as goal

abbrev pub invariant-loop : goal.invariant-loop
invariant-loop g l = record {
  count : length l.all.items ≡ l.counter;
  room : l.count ≤ vec_capacity l.all;
  clones : All (λ x. g.Id.Ord.cmp l.id x ≡ Equal) l.all.items;
}
