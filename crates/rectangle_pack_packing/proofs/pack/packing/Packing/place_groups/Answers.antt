use Rattle.rectangle_pack_sections.proofs.Std.{◌≡◌, ◌∷◌, [], List, ◌+◌, Bor, Bool, take, drop, refl, sym, ap, ◌∙◌, take_all, length, map, map_push, fun_ext}
use Rattle.rectangle_pack_packing.specs.Packing.{Rules, rules_by, excludes_by, at_start, Members}
use Rattle.rectangle_pack_packing.specs.declared.order.OrderedGroup.{OrderedGroup}
use Rattle.rectangle_pack_packing.specs.Fitting.{names_left}
use Rattle.rectangle_pack_packing.specs.declared.pack.packing.OnRefusal.TheVariants.{Stop}
use Rattle.rectangle_pack_packing.specs.private.Excluded.{are_in}
use Rattle.rectangle_pack_packing.specs.private.OnItsWay.{names_of, IsGroupTried, IsSamePacking, OnItsWay}
use Rattle.rectangle_pack_packing.specs.private.Orders.{members_of}
use Rattle.rectangle_pack_packing.proofs.lemmas.packing.Excluded.{bars-none, bars-more, Named-more, Named-left, Named-fresh}
use Rattle.rectangle_pack_packing.proofs.lemmas.packing.Groups.{StopsAfter-at, HasSizes-length}
use Rattle.rectangle_pack_packing.proofs.lemmas.packing.Turns.{saturated-sum, AreTaken-turn, AreTaken-turn_left, tried-alike}
use Rattle.rectangle_pack_packing.proofs.lemmas.packing.Taken.{taken-none}
use Rattle.rectangle_pack_packing.proofs.lemmas.packing.Orders.{map-split_at}
use Rattle.rectangle_pack_packing.proofs.pack.packing.Packing.place_groups.Given.{Over}
use Rattle.rectangle_pack_packing.proofs.pack.packing.Packing.place_groups.Goals.{After-place_group}
use Rattle.rectangle_pack_packing.proofs.pack.packing.Packing.place_groups.Goals.{in-Some+in_ok-keep-in-Some, in-None+in-Leave+in_ok-push-in-Leave}
use Rattle.rectangle_pack_packing.proofs.pack.packing.Packing.place_groups.Goals.at as goal_at
use Rattle.rectangle_pack_packing.proofs.pack.packing.Packing.place_groups.Goals as goal

abbrev by : (g : Over) → g.row.R.Denot → Rules g.row.Id.Denot g.row.B.Denot
by g policy = rules_by g.Id.Ord.cmp g.B.Ord.cmp (g.R.Policy.may policy)

abbrev excludes : (g : Over) → List (g.row.K.Denot × List g.row.K.Denot) → List (g.row.K.Denot × g.row.B.Denot) → g.row.K.Denot → g.row.B.Denot → Bool
excludes g partners = excludes_by g.K.Ord.cmp g.B.Ord.cmp partners

-- a group of the order, with its members
abbrev group : (g : Over) → After-place_group g → OrderedGroup g.row.K.Denot g.row.Id.Denot g.row.A.Denot → g.row.K.Denot × Members g.row.Id.Denot
group g c = members_of c.args.sizes.now

-- the group is tried in the bins that are not excluded for it by the groups before it
tried : (g : Over) (c : After-place_group g) → IsGroupTried (by g c.args.self.now.policy)
    (excludes g c.args.exclusions.now c.loop-group.invariant.done.0 c.group-item.result.name.now) (group g c c.group-item.result).1 c.loop-group.self
    c.place_group.result c.place_group.new.self
tried g c =
    let inv = c.loop-group.invariant in
    tried-alike (by g) c.loop-group.self.policy c.args.self.now.policy (are_in g.B.Ord.cmp c.in_ok-excluded.excluded) _
    (record { ids = c.as_slice.result.now; sizes = c.sizes_in-members.result.now }) (group g c c.group-item.result).1 c.loop-group.self
    c.place_group.new.self c.place_group.result inv.same.policy
    (fun_ext c.in_ok-excluded.ensures ∙ ap (λ (f : g.row.K.Denot → g.row.B.Denot → Bool). f c.group-item.result.name.now) inv.done.4)
    (rw (c.as_slice.ensures.value, c.sizes_in-members.ensures) refl) c.place_group.ensures.tried

-- where a refusal stops the packing, no group is left
none_left : (g : Over) (c : After-place_group g) → c.args.on_refusal ≡ Stop → names_left c.loop-group.left ≡ []
none_left g c stop = ap (map (λ (k : Bor g.row.K.Denot). k.now)) (c.loop-group.invariant.stops stop)

pub loop-group-init : goal.loop-group-init
loop-group-init g c =
    let was = ap (λ (p : OnItsWay g.row.Id.Denot g.row.B.Denot g.row.R.Denot). p.bins) c.self.view_is in
    record {
      done = (
        [],
        0,
        (
          rw (← c.self.view_is) at c.requires.begun.placements,
          ap (map (λ (k : Bor g.row.K.Denot). k.now)) c.requires.none_left,
          rw (c.make_ready.ensures, was) refl,
          refl,
        ),
        rw (← c.self.view_is) at c.requires.begun.tests,
        bars-none g.K.Ord.cmp g.B.Ord.cmp g.met.K.Ord.total c.args.exclusions.now c.new-homes.result c.new-homes.ensures,
      );
      stops = λ stop. c.requires.none_left;
      partners = rw c.new-homes.ensures refl;
      named = λ q h id. rw c.new-homes.ensures refl;
      same = record {
        start = rw (c.make_ready.ensures, was) refl;
        order = rw (c.make_ready.ensures, was) refl;
        policy = rw (← c.self.view_is) refl;
      };
    }

pub place_group-requires : goal.place_group-requires
place_group-requires g c = record {
  lengths = HasSizes-length c.args.sizes.now c.group-item.result c.as_slice.result.now _ c.as_slice.ensures.value refl
      (rw c.group-item.is (c.requires.in_range c.loop-group.group-index c.group-item.result c.loop-group-test.true))
      ∙ ap length (sym c.sizes_in-members.ensures);
}

pub returns-in-Stop-clause-packed : goal.returns-in-Stop-clause-packed
returns-in-Stop-clause-packed g c =
    let at = (goal_at.returns-in-Stop-clause-packed g c).After-place_group in
    let done = c.loop-group.invariant.done in
    let i = c.loop-group.group-index in
    let o = c.group-item.result in
    let refused = rw (c.in_ok-here.was, c.in-None.is) at (tried g at) in
    let placed = taken-none (by g c.args.self.now.policy) (excludes g c.args.exclusions.now) (names_of c.args.self.now)
    (map (group g at) (take i c.args.groups.now)) (at_start c.args.self.now.bins.now) c.loop-group.self.placements _ done.1
    (rw (none_left g at c.in-Stop.is) at done.2) in (
      done.1 + refused.0,
      StopsAfter-at (by g c.args.self.now.policy) (excludes g c.args.exclusions.now) (names_of c.args.self.now) (map (group g at) c.args.groups.now)
          (map (group g at) (take i c.args.groups.now)) (group g at o) (map (group g at) (drop (i + 1) c.args.groups.now)) (names_of c.loop-group.self)
          c.args.self.now.bins.now _ c.loop-group.self.bins.now done.0 c.loop-group.self.placements done.1 refused.0
          (map-split_at (group g at) c.args.groups.now i o c.loop-group-test.true c.group-item.is) placed
          (ap (map (λ o. o.1)) c.loop-group.invariant.same.order) refused.2 refused.1,
      saturated-sum c.loop-group.self.tests _ done.1 refused.0 done.3 refused.3.tests,
    )

pub keep-requires : goal.keep-requires
keep-requires g c = record {
  fresh = Named-fresh g.K.Ord.cmp g.B.Ord.cmp g.met.K.Ord.total c.args.groups.now c.loop-group.group-index c.group-item.result c.loop-group.homes
      c.requires.distinct c.loop-group-test.true c.group-item.is c.loop-group.invariant.named;
}

pub loop-group-preserved : goal.loop-group-preserved
loop-group-preserved g c =
    let at = (goal_at.loop-group-preserved g c).After-place_group in
    let inv = c.loop-group.invariant in
    let i = c.loop-group.group-index in
    let o = c.group-item.result in
    let same = c.in_ok-here.ensures.same in
    let same_packing : IsSamePacking c.args.self.now c.place_group.new.self =
    record { start = same.start ∙ inv.same.start; order = same.order ∙ inv.same.order; policy = same.policy ∙ inv.same.policy } in
    elim c.match-branch-4.branch [
      | in-Some+in_ok-keep-in-Some w ↦
          let placed = rw (c.in_ok-here.was, w.in-Some.is) at (tried g at) in
          let kept = w.in_ok-keep-in-Some.ensures in
          rw (w.left-is, w.homes-is) (record {
            done = (
              (o.name.now, placed.2.here) ∷ inv.done.0,
              inv.done.1 + placed.1,
              AreTaken-turn (by g c.args.self.now.policy) (excludes g c.args.exclusions.now) (group g at) c.args.groups.now i o (names_of c.loop-group.self)
                  (names_of c.args.self.now) (at_start c.args.self.now.bins.now) c.loop-group.self.bins.now inv.done.0 c.place_group.new.self.bins.now
                  c.loop-group.self.placements placed.0 _ (names_left c.loop-group.left) inv.done.1 placed.1 c.loop-group-test.true c.group-item.is
                  (ap (map (λ o. o.1)) inv.same.order) inv.done.2 placed.2 placed.4.placements,
              saturated-sum c.loop-group.self.tests _ inv.done.1 placed.1 inv.done.3 placed.4.tests,
              bars-more g.K.Ord.cmp g.B.Ord.cmp g.met.K.Ord.total c.args.exclusions.now inv.done.0 c.loop-group.homes w.keep.new.self o.name.now
                  w.in-Some.here.now placed.2.here inv.partners placed.3 kept inv.done.4,
            );
            stops = inv.stops;
            partners = kept.partners ∙ inv.partners;
            named = Named-more g.K.Ord.cmp g.B.Ord.cmp g.met.K.Ord.total c.args.groups.now i o c.loop-group.homes w.keep.new.self w.in-Some.here.now
                c.loop-group-test.true c.group-item.is kept inv.named;
            same = same_packing;
          })
      | in-None+in-Leave+in_ok-push-in-Leave w ↦
          let refused = rw (c.in_ok-here.was, w.in-None.is) at (tried g at) in
          rw (w.left-is, w.homes-is) (record {
            done = (
              inv.done.0,
              inv.done.1 + refused.0,
              AreTaken-turn_left (by g c.args.self.now.policy) (excludes g c.args.exclusions.now) (group g at) c.args.groups.now i o
                  (names_of c.loop-group.self) (names_of c.args.self.now) (at_start c.args.self.now.bins.now) c.loop-group.self.bins.now inv.done.0
                  c.place_group.new.self.bins.now c.loop-group.self.placements _ (names_left c.loop-group.left) _ inv.done.1 refused.0
                  c.loop-group-test.true c.group-item.is (ap (map (λ o. o.1)) inv.same.order) inv.done.2 refused.1 refused.2 refused.3.placements
                  (ap (map (λ (k : Bor g.row.K.Denot). k.now)) w.in_ok-push-in-Leave.ensures.items
                  ∙ map_push (λ (k : Bor g.row.K.Denot). k.now) c.loop-group.left.items o.name),
              saturated-sum c.loop-group.self.tests _ inv.done.1 refused.0 inv.done.3 refused.3.tests,
              inv.done.4,
            );
            stops = λ stop. (let clash = sym stop ∙ w.in-Leave.is in absurd cc);
            partners = inv.partners;
            named = Named-left g.K.Ord.cmp g.B.Ord.cmp g.met.K.Ord.total c.args.groups.now i o c.loop-group.homes c.loop-group-test.true c.group-item.is
                inv.named;
            same = same_packing;
          })
    ]

pub returns-clause-packed : goal.returns-clause-packed
returns-clause-packed g c =
    let done = rw (take_all c.loop-group.group-index c.args.groups.now c.loop-group-test.false) at c.loop-group.invariant.done in
    (done.0, done.1, done.2, done.3)
