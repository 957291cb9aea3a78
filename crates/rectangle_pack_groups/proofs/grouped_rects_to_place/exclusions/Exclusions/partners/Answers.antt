use Rattle.rectangle_pack_sections.proofs.Std.{◌≡◌, sym, ◌∙◌, ap, [], refl, Some, None, unwrap_or, option_map, lookup, is_at}
use Rattle.rectangle_pack_sections.proofs.lemmas.groups.Lists.{lookup-lists, list-found}
use Rattle.rectangle_pack_groups.proofs.grouped_rects_to_place.exclusions.Exclusions.partners.Goals as goal

pub returns-in-Some-clause-listed : goal.returns-in-Some-clause-listed
returns-in-Some-clause-listed g c =
    let test = is_at (g.K.Ord.cmp c.args.key.now) in
    let es = c.self.inside.partners.entries in
    let found : lookup test es ≡ Some c.in-Some.partners.now = sym c.in-Some.ensures.value in
    c.as_slice.ensures.value ∙ sym (ap (λ o. unwrap_or o []) (list-found test es c.in-Some.partners.now found)) ∙ rw c.self.view_is refl

pub returns-in-None-clause-listed : goal.returns-in-None-clause-listed
returns-in-None-clause-listed g c =
    let test = is_at (g.K.Ord.cmp c.args.key.now) in
    let es = c.self.inside.partners.entries in
    let found : lookup test es ≡ None = sym c.in-None.ensures.value in
    sym (ap (λ o. unwrap_or o []) (lookup-lists test es ∙ ap (option_map (λ v. v.items)) found)) ∙ rw c.self.view_is refl
