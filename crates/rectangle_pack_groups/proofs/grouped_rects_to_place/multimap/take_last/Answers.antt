use Rattle.rectangle_pack_sections.proofs.Std.{◌≡◌, ◌-◌, [], ◌∷◌, ◌++◌, length, take, vec_len, refl, sym, ◌∙◌, ap, Some, option_map, lookup, is_at}
use Rattle.rectangle_pack_sections.specs.Groups.{lists_of}
use Rattle.rectangle_pack_groups.proofs.lemmas.multimap.Vectors.{lists_of-set_value}
use Rattle.rectangle_pack_sections.proofs.lemmas.groups.Lists.{lookup-lists}
use Rattle.rectangle_pack_groups.proofs.lemmas.multimap.TakeBack.{take-all_but_last}
use Rattle.rectangle_pack_groups.proofs.grouped_rects_to_place.multimap.take_last.Goals as goal

pub returns : goal.returns
returns g c = λ list last is.
    let test = is_at (g.K.Ord.cmp c.args.key.now) in
    let old = c.args.map.now.entries in
    let was = c.in-Some.list.now in
    let w = c.pop.new.self in
    let found : lookup test (lists_of old) ≡ Some was.items = lookup-lists test old ∙ ap (option_map (λ v. v.items)) (sym c.in-Some.ensures.value) in
    let same : was.items ≡ list ++ last ∷ [] = cc in
    let long : vec_len was ≡ length was.items = was.ok.0 in
    let rest : w.items ≡ list = c.pop.ensures.rest ∙ ap (λ n. take (n - 1) was.items) (long ∙ ap length same) ∙ ap (take (length (list ++ last ∷ []) - 1)) same
    ∙ take-all_but_last list last in
    rw ((c.get_mut.follows.holds w).0, lists_of-set_value test old w, rest) refl
