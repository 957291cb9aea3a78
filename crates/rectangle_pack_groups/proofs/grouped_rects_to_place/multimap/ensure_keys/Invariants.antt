use Rattle.rectangle_pack_sections.proofs.Std.{◌≡◌, ◌<◌, take, IsSome, get}
use Rattle.rectangle_pack_sections.specs.Groups.{lists_of}
use Rattle.rectangle_pack_groups.specs.private.Multimaps.{filled, times, items_of}
use Rattle.rectangle_pack_groups.proofs.grouped_rects_to_place.multimap.ensure_keys.Given as goal

abbrev pub invariant-loop-key : goal.invariant-loop-key
invariant-loop-key g l = record {
  kept : filled (lists_of l.map.entries) ≡ filled (lists_of l.fn.map.entries);
  items : (q : g.row.K.Denot) → items_of (get g.K.Ord.cmp l.map q) ≡ items_of (get g.K.Ord.cmp l.fn.map q);
  others : (q : g.row.K.Denot) → times g.K.Ord.cmp (take l.key-index l.keys) q ≡ 0 → get g.K.Ord.cmp l.map q ≡ get g.K.Ord.cmp l.fn.map q;
  has : (q : g.row.K.Denot) → 0 < times g.K.Ord.cmp (take l.key-index l.keys) q → IsSome (get g.K.Ord.cmp l.map q);
}
