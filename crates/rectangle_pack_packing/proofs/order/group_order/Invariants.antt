use Rattle.rectangle_pack_sections.proofs.Std.{◌≡◌, ◌<◌, length, map, All, AllPairs, AllZip, deref_pair}
use Rattle.rectangle_pack_packing.specs.Orders.{IsGroupKey}
use Rattle.rectangle_pack_packing.specs.private.Orders.{SizesStandAt}
use Rattle.rectangle_pack_packing.proofs.order.group_order.Given as goal

abbrev pub invariant-loop-group : goal.invariant-loop-group
invariant-loop-group g l = record {
  listed : AllZip (λ e o. (o.name.now ≡ e.0) × IsGroupKey (g.R.Policy.may l.policy).rate g.Id.Ord.cmp l.rects.entries e.1.items o.key.0 × (o.ids.now ≡ e.1))
      (map deref_pair l.yielded) l.order.items;
  sized : All (λ o. SizesStandAt g.Id.Ord.cmp l.rects.entries l.sizes.items o.ids.now.items o.start) l.order.items;
  rising : AllPairs (λ o p. o.start < p.start) l.order.items;
  begun : All (λ o. o.start < length l.sizes.items) l.order.items;
}
