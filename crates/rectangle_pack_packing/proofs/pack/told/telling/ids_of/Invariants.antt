use Rattle.rectangle_pack_sections.proofs.Std.{◌≡◌, map, AllZip, deref_pair, Equal}
use Rattle.rectangle_pack_packing.proofs.pack.told.telling.ids_of.Given as goal

abbrev pub invariant-loop-id : goal.invariant-loop-id
invariant-loop-id g l = AllZip (λ b o. g.B.Ord.cmp b.0 o.1 ≡ Equal) (map deref_pair l.yielded) l.ids.items
