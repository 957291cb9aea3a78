use Rattle.rectangle_pack_sections.proofs.Std.{◌≡◌, ◌∷◌, [], ◌++◌, refl, sym, ◌∙◌, ap, arith, Equal, Equal-is, Ok, option_map}
use Rattle.rectangle_pack_sections.specs.Bins.{bins_of}
use Rattle.rectangle_pack_sections.specs.Closures.{answers}
use Rattle.rectangle_pack.specs.declared.session.command.Outstanding.{Outstanding}
use Rattle.rectangle_pack.specs.PlacingBest.{PlacesBest}
use Rattle.rectangle_pack.specs.Session.{IsSession}
use Rattle.rectangle_pack.proofs.lemmas.session.Packing.{state}
use Rattle.rectangle_pack.proofs.lemmas.session.PlacingBest.{best-held, placed-best}
use Rattle.rectangle_pack.proofs.session.Session.place_best.Given.{Over}
use Rattle.rectangle_pack.proofs.session.Session.place_best.Goals.{After-push_reserved}
use Rattle.rectangle_pack.proofs.session.Session.place_best.Goals.at as goal_at
use Rattle.rectangle_pack.proofs.session.Session.place_best.Goals as goal

pub cut_in-requires-clause-best : goal.cut_in-requires-clause-best
cut_in-requires-clause-best g c =
    let equal : g.BinId.Ord.cmp c.in-Some-best_place.best.bin.now c.in_ok-bin.bin ≡ Equal =
    (Equal-is _).0 (sym (g.met.BinId.Ord.matches_eq _ _) ∙ c.requires.bin_ids _ _ c.in_ok-bin.ensures.cases) in
    best-held g.met.BinId.Ord.total (option_map (λ b. b.now) c.args.bin) c.args.size c.self.inside.bins.entries c.in-Some-best_place.best.bin.now c.in_ok-bin.bin
    c.in-Some-best_place.best.index equal c.in-Some-best_place.ensures.some

-- what is answered, and what always holds
done : (g : Over) (c : After-push_reserved g)
    → PlacesBest g.BinId.Ord.cmp (answers g.H.Fn g.C.Fn c.args.heuristic.now c.args.comparison.now) (option_map (λ b. b.now) c.args.bin) c.args.id c.args.size
    (state (bins_of c.self.inside.bins.entries) c.self.inside.outstanding.items c.self.inside.next) (Ok c.self.inside.next)
    (state (bins_of c.cut_in.new.bins.entries) c.push_reserved.new.self.items c.in-Some.next)
    × IsSession g.BinId.Ord.cmp (state (bins_of c.cut_in.new.bins.entries) c.push_reserved.new.self.items c.in-Some.next)
done g c =
    let r : Outstanding g.row.Id.Denot g.row.BinId.Denot = record {
      number = c.self.inside.next;
      id = c.args.id;
      bin = c.in_ok-bin.bin;
      location = c.in_ok-location.location;
    } in
    let equal : g.BinId.Ord.cmp c.in-Some-best_place.best.bin.now c.in_ok-bin.bin ≡ Equal =
    (Equal-is _).0 (sym (g.met.BinId.Ord.matches_eq _ _) ∙ c.requires.bin_ids _ _ c.in_ok-bin.ensures.cases) in
    let (bin, there, left, placed, are) = c.in_ok-location.ensures.ok in
    placed-best g.met.BinId.Ord.total (answers g.H.Fn g.C.Fn c.args.heuristic.now c.args.comparison.now) (option_map (λ b. b.now) c.args.bin) c.args.size r
    c.in-Some-best_place.best.bin.now c.in-Some-best_place.best.index (bins_of c.self.inside.bins.entries) _ c.self.inside.outstanding.items _ c.self.inside.next
    c.in-Some.next equal c.in-Some-best_place.ensures.some bin there left placed are (omega (arith, c.in-Some.ensures)) (omega (arith, c.in-Some.ensures))
    (c.push_reserved.ensures.items ∙ ap (λ items. items ++ r ∷ []) c.in_ok-reserve.ensures.items) refl c.self.invariant

pub invariant_of-self-2 : goal.invariant_of-self-2
invariant_of-self-2 g c = (done g (goal_at.invariant_of-self-2 g c).After-push_reserved).1

pub returns-clause-always : goal.returns-clause-always
returns-clause-always g c = (done g (goal_at.returns-clause-always g c).After-push_reserved).1

pub returns-clause-placed : goal.returns-clause-placed
returns-clause-placed g c = rw (← c.self.view_is) (done g (goal_at.returns-clause-placed g c).After-push_reserved).0
