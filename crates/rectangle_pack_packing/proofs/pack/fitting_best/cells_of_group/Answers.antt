use Rattle.rectangle_pack_sections.proofs.Std.{◌≡◌, ℕ, List, [], Option, Some, None, sym, ap, ◌∙◌, lookup, is_at, option_map, unwrap_or, sum_by, Bool}
use Rattle.rectangle_pack_sections.specs.contracts.group.GroupOrd.TheImpl.{ghosts}
use Rattle.rectangle_pack_sections.specs.declared.group.Group.{Group}
use Rattle.rectangle_pack_sections.specs.Groups.{Collection}
use Rattle.rectangle_pack_sections.proofs.lemmas.groups.Lists.{lookup-lists, list-found}
use Rattle.rectangle_pack_lists.specs.Numbers.{saturated}
use Rattle.rectangle_pack_packing.specs.Fitting.{cells_of_box}
use Rattle.rectangle_pack_packing.proofs.pack.fitting_best.cells_of_group.Given.{Over}
use Rattle.rectangle_pack_packing.proofs.pack.fitting_best.cells_of_group.Goals as goal

-- the test by which the group is looked up
abbrev test : (g : Over) → Group g.row.GroupId.Denot g.row.Id.Denot → Group g.row.GroupId.Denot g.row.Id.Denot → Bool
test g name = is_at ((ghosts g.row.GroupId g.row.Id g.GroupId.Ord g.GroupId.Ord-dict g.GroupId.Eq g.GroupId.Eq-dict g.GroupId.PartialEq
    g.GroupId.PartialEq-dict g.GroupId.PartialOrd g.GroupId.PartialOrd-dict g.Id.Ord g.Id.Ord-dict g.Id.Eq g.Id.Eq-dict g.Id.PartialEq
    g.Id.PartialEq-dict g.Id.PartialOrd g.Id.PartialOrd-dict).cmp name)

-- the cells of the boxes of a list that is found
abbrev cells : (g : Over) → Collection g.row.Id.Denot g.row.GroupId.Denot → Option (List g.row.Id.Denot) → ℕ
cells g all found = saturated (sum_by (cells_of_box g.Id.Ord.cmp all) (unwrap_or found []))

pub returns-in-Some : goal.returns-in-Some
returns-in-Some g c =
    let t = test g c.args.name.now in
    let all = c.args.rects_to_place.now in
    let es = c.groups.result.now.entries in
    let found : lookup t es ≡ Some c.in-Some.ids.now = sym c.in-Some.ensures.value in
    let listed : lookup t all.groups ≡ Some c.in-Some.ids.now.items =
    ap (lookup t) (sym c.groups.ensures.entries) ∙ list-found t es c.in-Some.ids.now found in
    rw c.as_slice.ensures.value at c.cells_of_boxes.ensures ∙ sym (ap (cells g all) listed)

pub returns-in-None : goal.returns-in-None
returns-in-None g c =
    let t = test g c.args.name.now in
    let all = c.args.rects_to_place.now in
    let es = c.groups.result.now.entries in
    let found : lookup t es ≡ None = sym c.in-None.ensures.value in
    let listed : lookup t all.groups ≡ None =
    ap (lookup t) (sym c.groups.ensures.entries) ∙ lookup-lists t es ∙ ap (option_map (λ v. v.items)) found in
    sym (ap (cells g all) listed)
