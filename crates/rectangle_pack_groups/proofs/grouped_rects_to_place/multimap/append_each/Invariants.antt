use Rattle.rectangle_pack_sections.proofs.Std.{◌≡◌, ◌+◌, ◌<◌, length, take, All, Contains, reverse, get, IsOrdered}
use Rattle.rectangle_pack_sections.specs.Groups.{lists_of}
use Rattle.rectangle_pack_groups.specs.private.Multimaps.{times, AreAppended, TakesBack}
use Rattle.rectangle_pack_groups.proofs.grouped_rects_to_place.multimap.append_each.Given as goal

abbrev pub invariant-loop-i : goal.invariant-loop-i
invariant-loop-i g l = record {
  left : length l.items.items + l.i ≡ length l.keys;
  given : All (Contains l.fn.items.items) l.items.items;
  added : (q : g.row.K.Denot) → AreAppended l.fn.items.items (times g.K.Ord.cmp (take l.i l.keys) q) (get g.K.Ord.cmp l.fn.map q) (get g.K.Ord.cmp l.map q);
  back : TakesBack g.K.Ord.cmp (reverse (take l.i l.keys)) (lists_of l.map.entries) (lists_of l.fn.map.entries);
  ordered : 0 < l.i → IsOrdered g.K.Ord.cmp l.map;
}
