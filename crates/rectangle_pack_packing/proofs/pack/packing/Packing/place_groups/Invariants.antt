use Rattle.rectangle_pack_sections.proofs.Std.{◌≡◌, ℕ, List, [], take, map}
use Rattle.rectangle_pack_lists.specs.Numbers.{saturated}
use Rattle.rectangle_pack_packing.specs.Packing.{rules_by, excludes_by, at_start}
use Rattle.rectangle_pack_packing.specs.Fitting.{AreTaken, names_left}
use Rattle.rectangle_pack_packing.specs.declared.pack.packing.OnRefusal.TheVariants.{Stop}
use Rattle.rectangle_pack_packing.specs.private.Excluded.{bars}
use Rattle.rectangle_pack_packing.specs.private.OnItsWay.{names_of, IsSamePacking}
use Rattle.rectangle_pack_packing.specs.private.Orders.{members_of}
use Rattle.rectangle_pack_packing.proofs.lemmas.packing.Excluded.{Named}
use Rattle.rectangle_pack_packing.proofs.pack.packing.Packing.place_groups.Given as goal

abbrev pub invariant-loop-group : goal.invariant-loop-group
invariant-loop-group g l = record {
  done : (placed : List (g.row.K.Denot × g.row.B.Denot)) × (tests : ℕ)
      × AreTaken (rules_by g.Id.Ord.cmp g.B.Ord.cmp (g.R.Policy.may l.fn.self.policy)) (excludes_by g.K.Ord.cmp g.B.Ord.cmp l.exclusions)
      (names_of l.fn.self) (map (members_of l.sizes) (take l.group-index l.groups)) (at_start l.fn.self.bins.now) l.self.placements (names_left l.left)
      (record { bins = l.self.bins.now; homes = placed }) tests
      × (l.self.tests ≡ saturated tests)
      × (bars g.K.Ord.cmp g.B.Ord.cmp l.homes ≡ excludes_by g.K.Ord.cmp g.B.Ord.cmp l.exclusions placed);
  stops : l.on_refusal ≡ Stop → l.left.items ≡ [];
  partners : l.homes.partners ≡ l.exclusions;
  named : Named g.K.Ord.cmp g.B.Ord.cmp g.met.K.Ord.total (take l.group-index l.groups) l.homes;
  same : IsSamePacking l.fn.self l.self;
}
