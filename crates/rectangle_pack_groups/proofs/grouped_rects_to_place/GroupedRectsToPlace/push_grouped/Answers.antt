use Rattle.rectangle_pack_sections.proofs.Std.{◌≡◌, refl, length, vec_len, length-map, IfOk-from_err}
use Rattle.rectangle_pack_sections.specs.Groups.{lists_of}
use Rattle.rectangle_pack_sections.proofs.lemmas.util.Results.{OnErr-given}
use Rattle.rectangle_pack_groups.proofs.lemmas.multimap.Sized.{lists-added, lists-other, OnOk-both, OnErr-both}
use Rattle.rectangle_pack_sections.proofs.lemmas.groups.GroupOrder.{groups_by_variants}
use Rattle.rectangle_pack_sections.specs.declared.group.Group.TheVariants.{Grouped}
use contract.BorrowLft.{⊑_meet, ⊑_static}
use Rattle.rectangle_pack_groups.proofs.grouped_rects_to_place.GroupedRectsToPlace.push_grouped.Goals as goal

pub add_member-requires-clause-clones_equal : goal.add_member-requires-clause-clones_equal
add_member-requires-clause-clones_equal g c = groups_by_variants _ c.requires.ids (λ a b h. absurd h) (λ a b h. absurd h) c.requires.group_ids

pub add_member-requires-clause-ids : goal.add_member-requires-clause-ids
add_member-requires-clause-ids g c = c.requires.ids

pub add_member-requires-clause-given : goal.add_member-requires-clause-given
add_member-requires-clause-given g c =
    let named = c.args.group_ids.items in
    let long : vec_len c.args.group_ids ≡ length named = c.args.group_ids.ok.0 in
    rw (c.in_ok-keys.ensures, length-map) (rw long at c.requires.given)

pub add_member-requires-clause-members : goal.add_member-requires-clause-members
add_member-requires-clause-members g c = c.self.invariant

pub invariant_of-self : goal.invariant_of-self
invariant_of-self g c = c.add_member.ensures.members

pub returns-clause-ok : goal.returns-clause-ok
returns-clause-ok g c =
    let old = lists_of c.self.inside.groups.entries in
    let new = lists_of c.add_member.new.groups.entries in
    let named = c.args.group_ids.items in
    let keys = c.in_ok-keys.keys.items in
    rw (← c.self.view_is) (OnOk-both c.add_member.result
    (λ added size. record {
      sizes = size;
      partners = refl;
      named_groups = lists-added g.Id.Ord.cmp c.args.inbound_id _ Grouped named keys c.in_ok-keys.ensures old new added.named;
      other_groups = lists-other _ Grouped named keys c.in_ok-keys.ensures old new added.others;
    })
    c.add_member.ensures.appended c.add_member.ensures.size)

pub returns-clause-err : goal.returns-clause-err
returns-clause-err g c =
    let old = c.self.inside in
    let new = c.add_member.new in
    OnErr-both c.add_member.result
    (λ (groups : lists_of new.groups.entries ≡ lists_of old.groups.entries) (sizes : new.sizes.entries ≡ old.rects.entries). rw (groups, sizes) c.self.view_is)
    c.add_member.ensures.groups_kept c.add_member.ensures.sizes_kept

pub returns-in_err-keys : goal.returns-in_err-keys
returns-in_err-keys g c = record { ok = IfOk-from_err _ _ c.from_residual.ensures.0; err = OnErr-given _ refl }

-- each lifetime of a group's parts is within that of the list of groups
pub branch-keys-requires : goal.branch-keys-requires
branch-keys-requires g c κs = λ (id, (name, mem)).
    let end = ⊑_static κs.0 in
    let groups = ⊑_meet _ _ _ (⊑_meet _ _ _ name (⊑_meet _ _ _ id end)) (⊑_meet _ _ _ (⊑_meet _ _ _ id end) (⊑_meet _ _ _ (⊑_meet _ _ _ name end) end)) in
    (⊑_meet _ _ _ (⊑_meet _ _ _ groups (⊑_meet _ _ _ mem end)) (⊑_meet _ _ _ mem end), ⊑_static _)
