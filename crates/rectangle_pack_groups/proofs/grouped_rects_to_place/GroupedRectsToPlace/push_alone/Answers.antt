use Rattle.rectangle_pack_sections.proofs.Std.{◌≡◌, refl, ap, sym, ◌∙◌, Equal, Equal-is, IfOk-from_err, tied_itself}
use Rattle.rectangle_pack_sections.specs.declared.group.Group.TheVariants.{Ungrouped}
use Rattle.rectangle_pack_sections.specs.Boxes.{Size}
use Rattle.rectangle_pack_sections.specs.Groups.{lists_of}
use Rattle.rectangle_pack_sections.proofs.lemmas.util.Results.{OnErr-given}
use Rattle.rectangle_pack_groups.proofs.lemmas.multimap.Sized.{MembersHaveSizes-alone, MembersHaveSizes-same, lists-alone}
use Rattle.rectangle_pack_groups.proofs.grouped_rects_to_place.GroupedRectsToPlace.push_alone.Goals as goal

pub put_alone-requires : goal.put_alone-requires
put_alone-requires g c = record { ids = c.requires.ids }

pub restore-requires : goal.restore-requires
restore-requires g c =
    let same : g.Id.Ord.cmp c.args.inbound_id c.in_ok-clone.field-0 ≡ Equal =
    (Equal-is _).0 (sym (g.met.Id.Ord.matches_eq _ _) ∙ c.requires.ids _ _ c.in_ok-clone.ensures.cases) in
    record { has = rw c.in-Err.ensures.value_returned (c.in_ok-before.ensures.found (Ungrouped c.args.inbound_id) same) }

pub invariant_of-self : goal.invariant_of-self
invariant_of-self g c = MembersHaveSizes-same g.Id.Ord.cmp _ _ _ _ refl (ap lists_of c.in_err-before.ensures.kept) c.self.invariant

pub invariant_of-self-in-Ok : goal.invariant_of-self-in-Ok
invariant_of-self-in-Ok g c =
    MembersHaveSizes-alone g.Id.Ord.cmp c.self.inside.rects.entries c.insert.new.self.entries c.args.inbound_id c.args.inbound c.in-Ok.ensures.updates.0
    _ c.self.inside.groups.entries c.put_alone.new.groups.entries (Ungrouped c.in_ok-clone.field-0) c.in_ok-before.ensures.put c.self.invariant

pub invariant_of-self-in-Err : goal.invariant_of-self-in-Err
invariant_of-self-in-Err g c =
    let before = c.in_ok-before.ensures in
    let same : g.Id.Ord.cmp c.args.inbound_id c.in_ok-clone.field-0 ≡ Equal =
    (Equal-is _).0 (sym (g.met.Id.Ord.matches_eq _ _) ∙ c.requires.ids _ _ c.in_ok-clone.ensures.cases) in
    let back = ap (λ (pair : g.row.Id.Denot × Size). g.Id.Ord.cmp pair.0 c.in_ok-clone.field-0) c.in-Err.ensures.value_returned ∙ same in
    let restored = c.restore.ensures c.self.inside.groups.entries (Ungrouped c.in_ok-clone.field-0) before.put.list before.ordered
    back before.before before.put.put in
    MembersHaveSizes-same g.Id.Ord.cmp _ _ _ _ c.in-Err.ensures.err (ap lists_of restored) c.self.invariant

pub returns-in_err-clone : goal.returns-in_err-clone
returns-in_err-clone g c = record { ok = IfOk-from_err _ _ c.from_residual.ensures.0; err = OnErr-given _ refl }

pub returns-in_err-before : goal.returns-in_err-before
returns-in_err-before g c =
    let kept = rw (← c.in_err-before.ensures.kept) at c.self.view_is in
    record { ok = IfOk-from_err _ _ c.from_residual-in_err-before.ensures.0; err = OnErr-given _ kept }

pub returns-in-Ok-clause-ok : goal.returns-in-Ok-clause-ok
returns-in-Ok-clause-ok g c =
    let put = c.in_ok-before.ensures.put in
    rw (← c.self.view_is) (record {
      sizes = (c.args.inbound_id, tied_itself g.met.Id.Ord.total c.args.inbound_id, c.in-Ok.ensures.entries);
      partners = refl;
      groups = (
        c.in_ok-clone.field-0,
        put.member,
        (Equal-is _).0 (sym (g.met.Id.Ord.matches_eq _ _) ∙ c.requires.ids _ _ c.in_ok-clone.ensures.cases),
        put.equal,
        lists-alone _ _ _ _ _ _ put,
      );
    })

pub returns-in-Ok-clause-err : goal.returns-in-Ok-clause-err
returns-in-Ok-clause-err g c = tt

pub returns-in-Err-clause-ok : goal.returns-in-Err-clause-ok
returns-in-Err-clause-ok g c = tt

pub returns-in-Err-clause-err : goal.returns-in-Err-clause-err
returns-in-Err-clause-err g c =
    let before = c.in_ok-before.ensures in
    let same : g.Id.Ord.cmp c.args.inbound_id c.in_ok-clone.field-0 ≡ Equal =
    (Equal-is _).0 (sym (g.met.Id.Ord.matches_eq _ _) ∙ c.requires.ids _ _ c.in_ok-clone.ensures.cases) in
    let back = ap (λ (pair : g.row.Id.Denot × Size). g.Id.Ord.cmp pair.0 c.in_ok-clone.field-0) c.in-Err.ensures.value_returned ∙ same in
    let restored = c.restore.ensures c.self.inside.groups.entries (Ungrouped c.in_ok-clone.field-0) before.put.list before.ordered
    back before.before before.put.put in
    rw (restored, c.in-Err.ensures.err) c.self.view_is
