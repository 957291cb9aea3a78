use Rattle.rectangle_pack_sections.proofs.Std.{rules, nat_lt, length, ⊤, filter_from_retain_pairs}
use Rattle.rectangle_pack_groups.proofs.lemmas.multimap.Vectors.{lists_of-filter}
use Rattle.rectangle_pack_groups.proofs.grouped_rects_to_place.multimap.forget_empty.Goals as goal

pub returns : goal.returns
returns g c =
    let r = filter_from_retain_pairs _ (λ f. ⊤) (λ e. nat_lt 0 (length e.1.items)) (λ f k v b w f' i t. search rules) _ _ _ tt c.retain.ensures.filtered in
    rw r (lists_of-filter c.args.map.now.entries)
