use Rattle.rectangle_pack_sections.proofs.Std.{IsDistinct-from_sorted, refl}
use Rattle.rectangle_pack_packing.proofs.pack.told.telling.begin.Goals as goal

pub new-bins-requires-clause-distinct : goal.new-bins-requires-clause-distinct
new-bins-requires-clause-distinct g c = IsDistinct-from_sorted g.B.Ord.cmp _ c.requires.rising

pub invariant_of-result : goal.invariant_of-result
invariant_of-result g c = record {
  ids = c.requires.ids;
  bin_ids = c.requires.bin_ids;
  sized = c.collection.invariant;
  rising = rw (c.set_boxes.ensures, c.new-bins.ensures.order) c.requires.rising;
}

pub returns-clause-begun : goal.returns-clause-begun
returns-clause-begun g c = record {
  homes = rw c.new.ensures refl;
  named = c.new-2.ensures.empty;
  placements = c.new-3.ensures.items;
  bins = rw (c.set_boxes.ensures, c.new-bins.ensures.order, c.new-bins.ensures.now) c.requires.all;
}
