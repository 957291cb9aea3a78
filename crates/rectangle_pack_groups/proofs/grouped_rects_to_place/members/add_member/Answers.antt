use Rattle.rectangle_pack_sections.proofs.Std.{◌≡◌, ◌<◌, List, refl, sym, ◌∙◌, ap, subst, length, reverse, tied_itself, IfOk-from_err}
use Rattle.rectangle_pack_sections.specs.Groups.{lists_of}
use Rattle.rectangle_pack_groups.specs.private.Multimaps.{filled, TakesBack, AppendsAtEach}
use Rattle.rectangle_pack_groups.proofs.lemmas.multimap.Vectors.{keys-lists}
use Rattle.rectangle_pack_sections.proofs.lemmas.util.Results.{OnErr-given}
use Rattle.rectangle_pack_groups.proofs.lemmas.multimap.Sized.{MembersHaveSizes-some, MembersHaveSizes-added, MembersHaveSizes-same}
use Rattle.rectangle_pack_groups.proofs.grouped_rects_to_place.members.add_member.Goals as goal

pub add_clones-requires-clause-clones_equal : goal.add_clones-requires-clause-clones_equal
add_clones-requires-clause-clones_equal g c = c.requires.clones_equal

pub add_clones-requires-clause-ids : goal.add_clones-requires-clause-ids
add_clones-requires-clause-ids g c = c.requires.ids

pub add_clones-requires-clause-some : goal.add_clones-requires-clause-some
add_clones-requires-clause-some g c = MembersHaveSizes-some g.Id.Ord.cmp c.args.sizes.now.entries (lists_of c.args.groups.now.entries) c.requires.members

pub take_back-requires : goal.take_back-requires
take_back-requires g c =
    let can = c.in_ok-add_clones.ensures.back in
    (can.start, rw (c.as_slice-in-Err.ensures.value, ← c.as_slice.ensures.value) can.back)

pub returns-in_err-add_clones : goal.returns-in_err-add_clones
returns-in_err-add_clones g c =
    let failed = c.from_residual.ensures.0 in
    let kept = c.in_err-add_clones.ensures.kept in
    record {
      appended = IfOk-from_err _ _ failed;
      size = IfOk-from_err _ _ failed;
      members = MembersHaveSizes-same g.Id.Ord.cmp _ _ _ _ refl kept c.requires.members;
      groups_kept = OnErr-given _ kept;
      sizes_kept = OnErr-given _ refl;
    }

pub returns-in-Ok : goal.returns-in-Ok
returns-in-Ok g c =
    let cmp = g.Id.Ord.cmp in
    let keys = c.as_slice.result.now in
    let old = lists_of c.args.groups.now.entries in
    let new = lists_of c.add_clones.new.groups.entries in
    let added = c.in_ok-add_clones.ensures in
    let is : keys ≡ c.args.keys.items = c.as_slice.ensures.value in
    let some : 0 < length keys = subst (λ (ks : List g.row.K.Denot). 0 < length ks) (sym is) c.requires.given in
    record {
      appended = subst (λ (ks : List g.row.K.Denot). AppendsAtEach g.K.Ord.cmp cmp ks c.args.id old new) is added.appended;
      size = (c.args.id, tied_itself g.met.Id.Ord.total c.args.id, c.in-Ok.ensures.entries);
      members = MembersHaveSizes-added cmp c.args.sizes.now.entries c.insert.new.self.entries c.args.id c.args.size c.in-Ok.ensures.updates.0
          added.lawful keys old new c.requires.members added.appended (rw (keys-lists c.add_clones.new.groups.entries) (added.ordered some));
      groups_kept = tt;
      sizes_kept = tt;
    }

pub returns : goal.returns
returns g c =
    let can = c.in_ok-add_clones.ensures.back in
    let back : TakesBack g.K.Ord.cmp (reverse c.as_slice-in-Err.result.now) (lists_of c.add_clones.new.groups.entries) can.start =
    rw (c.as_slice-in-Err.ensures.value, ← c.as_slice.ensures.value) can.back in
    let kept = c.forget_empty.ensures ∙ ap filled (c.take_back.ensures can.start back) ∙ can.same in
    record {
      appended = tt;
      size = tt;
      members = MembersHaveSizes-same g.Id.Ord.cmp _ _ _ _ c.in-Err.ensures.err kept c.requires.members;
      groups_kept = kept;
      sizes_kept = c.in-Err.ensures.err;
    }
