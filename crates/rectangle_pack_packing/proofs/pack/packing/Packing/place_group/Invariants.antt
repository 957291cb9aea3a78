use Rattle.rectangle_pack_sections.proofs.Std.{◌≡◌, ◌-◌, length, take}
use Rattle.rectangle_pack_packing.specs.Packing.{rules_by}
use Rattle.rectangle_pack_packing.specs.private.Excluded.{are_in}
use Rattle.rectangle_pack_packing.proofs.lemmas.packing.Turns.{WerePassed}
use Rattle.rectangle_pack_packing.proofs.pack.packing.Packing.place_group.Given as goal

abbrev pub invariant-loop-order : goal.invariant-loop-order
invariant-loop-order g l = record {
  same : l.self-inside.bins.now ≡ l.fn.self.bins.now;
  start : l.self-inside.bins.start ≡ l.fn.self.bins.start;
  order : l.self-inside.bins.order ≡ l.fn.self.bins.order;
  policy : l.self-inside.policy.now ≡ l.fn.self.policy;
  passed : WerePassed (rules_by g.Id.Ord.cmp g.B.Ord.cmp (g.R.Policy.may l.fn.self.policy)) (are_in g.B.Ord.cmp l.excluded)
      (take l.from l.fn.self.bins.order) (record { ids = l.ids; sizes = l.sizes }) l.fn.self.bins.now l.fn.self.tests l.self-inside.tests;
  placements : l.self-inside.placements.items ≡ l.fn.self.placements;
}

abbrev pub decreases-loop-order : goal.decreases-loop-order
decreases-loop-order g l = length l.fn.self.bins.order - l.from
