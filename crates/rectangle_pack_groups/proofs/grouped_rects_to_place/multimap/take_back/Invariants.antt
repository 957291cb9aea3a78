use Rattle.rectangle_pack_sections.proofs.Std.{List, take, reverse}
use Rattle.rectangle_pack_sections.specs.Groups.{lists_of}
use Rattle.rectangle_pack_groups.specs.private.Multimaps.{TakesBack}
use Rattle.rectangle_pack_groups.proofs.grouped_rects_to_place.multimap.take_back.Given as goal

abbrev pub invariant-loop-i : goal.invariant-loop-i
invariant-loop-i g l = record {
  some : (start : List (g.row.K.Denot × List g.row.T.Denot)) × TakesBack g.K.Ord.cmp (reverse (take l.i l.keys)) (lists_of l.map.entries) start;
  each : (start : List (g.row.K.Denot × List g.row.T.Denot)) → TakesBack g.K.Ord.cmp (reverse l.keys) (lists_of l.fn.map.entries) start
      → TakesBack g.K.Ord.cmp (reverse (take l.i l.keys)) (lists_of l.map.entries) start;
}
