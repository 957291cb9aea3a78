use Rattle.rectangle_pack_sections.proofs.Std.{◌≡◌, ℕ, ◌+◌, ◌<◌, [], length, get_or, sum, AllZip, Some, lookup, is_at, Equal, sym, ap, ◌∙◌, refl}
use Rattle.std.proofs.lemmas.Map.Views.{IfSome-lookup_from_All}
use Rattle.rectangle_pack_sections.specs.Groups.{HaveSizes, lists_of}
use Rattle.rectangle_pack_sections.proofs.lemmas.util.Zips.{length-zip}
use Rattle.rectangle_pack_packing.specs.Best.{named_rules}
use Rattle.rectangle_pack_packing.specs.Packing.{Members}
use Rattle.rectangle_pack_packing.specs.private.Excluded.{bars}
use Rattle.rectangle_pack_packing.proofs.lemmas.bins.BinsAtWork.{entry_at}
use Rattle.rectangle_pack_packing.proofs.lemmas.packing.Excluded.{excluded-more}
use Rattle.rectangle_pack_packing.proofs.lemmas.packing.Groups.{IsDone-length}
use Rattle.rectangle_pack_packing.proofs.lemmas.packing.StepsMade.{IsPlaced-there, IsStuckIn-there}
use Rattle.rectangle_pack_packing.proofs.pack.told.telling.Telling.place.Given.{Over}
use Rattle.rectangle_pack_packing.proofs.pack.told.telling.Telling.place.Goals.{After-run_trial}
use Rattle.rectangle_pack_packing.proofs.pack.told.telling.Telling.place.Goals.at as goal_at
use Rattle.rectangle_pack_packing.proofs.pack.told.telling.Telling.place.Goals as goal

-- what stands at the index of the order
entry : (g : Over) (c : After-run_trial g) → (o : ℕ × g.row.B.Denot) × (o ≡ get_or c.self.inside.bins.order c.args.index o)
entry g c = entry_at c.self.inside.bins.order c.args.index (rw (← c.self.view_is) at c.requires.free.there.within)

-- it is the id of the bin
here : (g : Over) (c : After-run_trial g) → g.B.Ord.cmp c.args.bin.now (entry g c).0.1 ≡ Equal
here g c = (rw (← c.self.view_is) at c.requires.free.there.here) (entry g c).0 (entry g c).1

-- the group
abbrev group : (g : Over) → After-run_trial g → Members g.row.Id.Denot
group g c = record { ids = c.args.ids.now; sizes = c.as_slice-sizes.result.now }

-- each id has its size
sized : (g : Over) (c : After-run_trial g)
    → AllZip (λ id size. lookup (is_at (g.Id.Ord.cmp id)) c.self.inside.rects.now.entries ≡ Some size) c.args.ids.now c.as_slice-sizes.result.now
sized g c = rw (c.as_slice-sizes.ensures.value, c.in_ok-add_sizes.ensures.2, c.clear.ensures.items) c.in_ok-add_sizes.ensures.1

pub add_sizes-requires : goal.add_sizes-requires
add_sizes-requires g c =
    let known = rw (← c.self.view_is) at c.requires.free.known in
    (rw known at (IfSome-lookup_from_All (λ ids. (0 < length ids) × HaveSizes g.Id.Ord.cmp c.self.inside.rects.now.entries ids)
    (is_at (g.K.Ord.cmp c.args.group.now)) (lists_of c.self.inside.lists.now.entries) c.self.invariant.sized)).1

pub name_all-requires-clause-lengths : goal.name_all-requires-clause-lengths
name_all-requires-clause-lengths g c =
    let at = (goal_at.name_all-requires-clause-lengths g c).After-run_trial in
    let tried = c.in_ok-trial.ensures.tried (entry g at).0 (entry g at).1 in
    let done = rw c.if-trial.true at tried.3 in
    length-zip _ _ _ (sized g at) ∙ IsDone-length _ _ _ _ _ _ done ∙ ap length (sym c.as_slice.ensures.value)

pub returns-in_ok-insert-clause-made : goal.returns-in_ok-insert-clause-made
returns-in_ok-insert-clause-made g c =
    let at = (goal_at.returns-in_ok-insert-clause-made g c).After-run_trial in
    let tried = c.in_ok-trial.ensures.tried (entry g at).0 (entry g at).1 in
    let done = rw c.if-trial.true at tried.3 in
    let named = c.in_ok-name_all.ensures in
    rw (← c.self.view_is, c.if-trial.true) (record {
      members = group g at;
      are_members = record { ids = rw (← c.self.view_is) at c.requires.free.known; sizes = sized g at };
      added = named.0;
      tests = sum [] + c.in_ok-trial.trial.tests;
      placed = IsPlaced-there (named_rules g.Id.Ord.cmp g.B.Ord.cmp c.args.heuristic) g.met.B.Ord.total c.args.bin.now (entry g at).0.1 (here g at)
          (bars g.K.Ord.cmp g.B.Ord.cmp c.self.inside.homes c.args.group.now) (group g at) c.self.inside.bins.now c.run_trial.new.self.now tried.0 tried.1
          c.run_trial.new.locations.items c.in_ok-trial.trial.tests named.0 (rw (← c.self.view_is) at c.requires.free.allowed) tried.2 done
          (rw (← c.as_slice.ensures.value) named.1);
      placements = named.2;
      kept = c.in_ok-keep.ensures;
      named = λ other.
          excluded-more g.met.K.Ord.total c.self.inside.named.keys c.insert.new.self.keys c.args.group _ _ other
          (c.in_ok-insert.ensures.updates.0 (record c.args.group { now = other })) refl refl;
    })

pub returns-else-trial-clause-made : goal.returns-else-trial-clause-made
returns-else-trial-clause-made g c =
    let at = (goal_at.returns-else-trial-clause-made g c).After-run_trial in
    let tried = c.in_ok-trial.ensures.tried (entry g at).0 (entry g at).1 in
    let stuck = rw c.if-trial.false at tried.3 in
    rw (← c.self.view_is, c.if-trial.false) (record {
      members = group g at;
      are_members = record { ids = rw (← c.self.view_is) at c.requires.free.known; sizes = sized g at };
      tests = c.in_ok-trial.trial.tests;
      stuck = IsStuckIn-there (named_rules g.Id.Ord.cmp g.B.Ord.cmp c.args.heuristic) g.met.B.Ord.total c.args.bin.now (entry g at).0.1 (here g at)
          (group g at) c.self.inside.bins.now c.run_trial.new.self.now tried.0 tried.1 c.in_ok-trial.trial.tests tried.2 stuck.0;
    })
