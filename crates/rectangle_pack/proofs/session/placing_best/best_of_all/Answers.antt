use Rattle.rectangle_pack_sections.proofs.Std.{◌≡◌, ◌∙◌, ◌++◌, sym, ap, arith, Some, map, deref_pair, iter_end, rest_so_far, rest_more, is_at, get, lookup}
use Rattle.rectangle_pack_sections.specs.Bins.{bins_of}
use Rattle.rectangle_pack_sections.proofs.lemmas.util.Lists.{All-middle}
use Rattle.rectangle_pack.specs.declared.session.placing_best.Best.{Best}
use Rattle.rectangle_pack.proofs.lemmas.session.Keeps.{Some-bins_of}
use Rattle.rectangle_pack.proofs.lemmas.session.PlacingBest.{so_far-past, so_far-closer, so_far-none_left, so_far-end, bins_of-yielded, bins_of-split}
use Rattle.rectangle_pack.proofs.session.placing_best.best_of_all.Given.{Over}
use Rattle.rectangle_pack.proofs.session.placing_best.best_of_all.Goals.{In-Some-best_section}
use Rattle.rectangle_pack.proofs.session.placing_best.best_of_all.Goals.at as goal_at
use Rattle.rectangle_pack.proofs.session.placing_best.best_of_all.Goals as goal

pub loop-bin-preserved-in_default : goal.loop-bin-preserved-in_default
loop-bin-preserved-in_default g c =
    rw (bins_of-yielded c.loop-bin.yielded (c.in-Some.bin, c.in-Some.target))
    (so_far-past g.B.Ord.cmp g.met.B.Ord.total c.args.size.now (bins_of c.args.bins.now.entries) (bins_of (map deref_pair c.loop-bin.yielded))
    c.in-Some.bin.now c.in-Some.target.now.bin c.loop-bin.best c.in_default.ensures.none c.loop-bin.invariant)

-- the bin is in the map
there : (g : Over) (c : In-Some-best_section g)
    → lookup (is_at (g.B.Ord.cmp c.in-Some.bin.now)) (bins_of c.args.bins.now.entries) ≡ Some c.in-Some.target.now.bin
there g c =
    let all = c.args.bins.now.entries in
    let split = sym c.into_iter-bin-iterator.ensures.into_iter_gives.0
    ∙ rest_so_far deref_pair c.loop-bin.yielded _ _ c.loop-bin.yielded_by
    ∙ ap (λ l. map deref_pair c.loop-bin.yielded ++ l) (rest_more deref_pair _ _ _ (c.in-Some.bin, c.in-Some.target) c.in-Some.is c.next.ensures.steps) in
    Some-bins_of (is_at (g.B.Ord.cmp c.in-Some.bin.now)) all c.in-Some.target.now
    (All-middle (λ e. get g.B.Ord.cmp c.args.bins.now e.0 ≡ Some e.1) all (map deref_pair c.loop-bin.yielded) _ (c.in-Some.bin.now, c.in-Some.target.now) split
    c.into_iter-bin-iterator.ensures.into_iter_gives.6)

pub returns-then-rest-eq0-clause-some : goal.returns-then-rest-eq0-clause-some
returns-then-rest-eq0-clause-some g c =
    let all = c.args.bins.now.entries in
    let here : Best g.row.B.Denot = record {
      bin = c.in-Some.bin;
      index = c.in-Some-best_section.index;
      rest = c.in-Some-best_section.rest;
    } in
    so_far-none_left g.B.Ord.cmp g.met.B.Ord.total c.args.size.now (bins_of all) (bins_of (map deref_pair c.loop-bin.yielded)) here c.in-Some.target.now.bin
    (there g (goal_at.returns-then-rest-eq0-clause-some g c).In-Some-best_section) c.in-Some-best_section.ensures.some c.loop-bin.best _ c.if-rest-eq0.true
    (bins_of-split all (map deref_pair c.loop-bin.yielded) _ c.in-Some.bin.now c.in-Some.target.now _
    (sym c.into_iter-bin-iterator.ensures.into_iter_gives.0 ∙ rest_so_far deref_pair c.loop-bin.yielded _ _ c.loop-bin.yielded_by)
    (rest_more deref_pair _ _ _ (c.in-Some.bin, c.in-Some.target) c.in-Some.is c.next.ensures.steps)) c.loop-bin.invariant

pub loop-bin-preserved : goal.loop-bin-preserved
loop-bin-preserved g c =
    let here : Best g.row.B.Denot = record {
      bin = c.in-Some.bin;
      index = c.in-Some-best_section.index;
      rest = c.in-Some-best_section.rest;
    } in
    rw (bins_of-yielded c.loop-bin.yielded (c.in-Some.bin, c.in-Some.target))
    (so_far-closer g.B.Ord.cmp g.met.B.Ord.total c.args.size.now (bins_of c.args.bins.now.entries) (bins_of (map deref_pair c.loop-bin.yielded)) here
    c.in-Some.target.now.bin (there g (goal_at.loop-bin-preserved g c).In-Some-best_section) c.in-Some-best_section.ensures.some c.loop-bin.best c.closer.result
    (omega (arith, c.if-rest-eq0.false)) c.closer.ensures.kept c.closer.ensures.taken c.loop-bin.invariant)

pub returns-clause-none : goal.returns-clause-none
returns-clause-none g c =
    let all = iter_end deref_pair _ _ _ _ _ _ c.into_iter-bin-iterator.ensures.into_iter_gives.0 c.loop-bin.yielded_by c.in-None.is c.next.ensures.steps in
    (so_far-end g.B.Ord.cmp g.met.B.Ord.total c.args.size.now (bins_of c.args.bins.now.entries) c.loop-bin.best (rw all.0 at c.loop-bin.invariant)).0

pub returns-clause-some : goal.returns-clause-some
returns-clause-some g c =
    let all = iter_end deref_pair _ _ _ _ _ _ c.into_iter-bin-iterator.ensures.into_iter_gives.0 c.loop-bin.yielded_by c.in-None.is c.next.ensures.steps in
    (so_far-end g.B.Ord.cmp g.met.B.Ord.total c.args.size.now (bins_of c.args.bins.now.entries) c.loop-bin.best (rw all.0 at c.loop-bin.invariant)).1
