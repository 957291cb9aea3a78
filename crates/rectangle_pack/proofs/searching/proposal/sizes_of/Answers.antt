use Rattle.rectangle_pack_sections.proofs.Std.{◌≡◌, sym, ◌∙◌, All-nil, Equal, Equal-is, Contains, map, map_push, deref_pair, iter_end, true}
use Rattle.rectangle_pack_bounds.specs.Turning.{ways}
use Rattle.rectangle_pack.specs.Needed.{box_of}
use Rattle.rectangle_pack.proofs.lemmas.searching.Sizes.{found-more, members_sized, ways-more, ways-none}
use Rattle.rectangle_pack.proofs.searching.proposal.sizes_of.Goals as goal

pub loop-id-init : goal.loop-id-init
loop-id-init g c = rw c.new-sizes.ensures.empty (ways-none g.met.Id.Ord.total c.args.groups.now c.args.turns.now.entries, All-nil _)

pub loop-id-preserved : goal.loop-id-preserved
loop-id-preserved g c =
    let id = c.in-Some.id.now in
    let key = c.in_ok-clone.field-0 in
    let turns = c.args.turns.now.entries in
    let same : g.Id.PartialEq.eq id key ≡ true = c.requires.ids _ _ c.in_ok-clone.ensures.cases in
    let equal : g.Id.Ord.cmp id key ≡ Equal = (Equal-is _).0 (sym (g.met.Id.Ord.matches_eq _ _) ∙ same) in
    let inv = c.loop-id.invariant in
    let updates = c.in_ok-insert.ensures.updates.0 in
    let found = rw (c.box_of.ensures, c.rects-rects.ensures.entries) at c.way_of-whd.ensures in
    let way : Contains (ways (box_of g.Id.Ord.cmp c.args.groups.now.sizes turns id)) c.new-size.result =
    rw (c.new-size.ensures, c.width.ensures, c.height.ensures, c.depth.ensures) found in (
      ways-more g.met.Id.Ord.total c.args.groups.now turns c.loop-id.sizes.entries c.insert.new.self.entries id key c.new-size.result inv.0 equal way updates,
      rw (map_push deref_pair c.loop-id.yielded (c.in-Some.id, c.in-Some.field-0-1))
          (found-more g.met.Id.Ord.total (map deref_pair c.loop-id.yielded) (deref_pair (c.in-Some.id, c.in-Some.field-0-1)) c.loop-id.sizes.entries
          c.insert.new.self.entries key c.new-size.result inv.1 equal updates),
    )

pub returns-clause-ways : goal.returns-clause-ways
returns-clause-ways g c = c.loop-id.invariant.0

pub returns-clause-sized : goal.returns-clause-sized
returns-clause-sized g c =
    let all = iter_end deref_pair _ _ _ _ _ _ c.into_iter-id-iterator.ensures.into_iter_gives.0 c.loop-id.yielded_by c.in-None.is c.next.ensures.steps in
    members_sized g.met.Id.Ord.total c.args.groups.now.sizes c.loop-id.sizes.entries c.args.groups.now.groups
    (rw (all.0, c.rects-rects.ensures.entries) at c.loop-id.invariant.1) c.requires.sized
