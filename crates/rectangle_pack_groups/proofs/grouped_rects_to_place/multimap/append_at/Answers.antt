use Rattle.rectangle_pack_sections.proofs.Std.{rules, ◌≡◌, [], ◌∷◌, ◌++◌, sym, ◌∙◌, ap, Some, is_some, option_map, lookup, is_at, cond, Equal-is}
use Rattle.rectangle_pack_sections.specs.Groups.{lists_of}
use Rattle.rectangle_pack_groups.proofs.lemmas.multimap.Vectors.{lists_of-set_value}
use Rattle.rectangle_pack_sections.proofs.lemmas.groups.Lists.{lookup-lists}
use Rattle.rectangle_pack_sections.proofs.lemmas.util.Maps.{lookup-equal}
use Rattle.rectangle_pack_groups.proofs.lemmas.multimap.Append.{appended-found}
use Rattle.rectangle_pack_groups.proofs.lemmas.multimap.TakeBack.{TakesBack-appended}
use Rattle.rectangle_pack_groups.proofs.grouped_rects_to_place.multimap.append_at.Goals as goal

pub returns-clause-back : goal.returns-clause-back
returns-clause-back g c = λ keys start h.
    let cmp = g.K.Ord.cmp in
    let test = is_at (cmp c.args.key.now) in
    let old = c.args.map.now.entries in
    let list = c.in-Some.list.now in
    let w = c.push_reserved.new.self in
    let items : w.items ≡ list.items ++ c.args.item ∷ [] = search rules in
    let found : lookup test (lists_of old) ≡ Some list.items = lookup-lists test old ∙ ap (option_map (λ v. v.items)) (sym c.in-Some.ensures.value) in
    rw ((c.get_mut.follows.holds w).0, lists_of-set_value test old w, items)
    (TakesBack-appended cmp c.args.key.now keys (lists_of old) start list.items c.args.item found h)

pub returns-clause-others : goal.returns-clause-others
returns-clause-others g c = ((c.get_mut.follows.holds c.push_reserved.new.self).3 (ap is_some (sym c.in-Some.ensures.value))).2

pub returns-clause-ordered : goal.returns-clause-ordered
returns-clause-ordered g c = (c.get_mut.follows.holds c.push_reserved.new.self).4

pub returns-clause-here : goal.returns-clause-here
returns-clause-here g c = λ q same.
    let cmp = g.K.Ord.cmp in
    let k = c.args.key.now in
    let old = c.args.map.now.entries in
    let w = c.push_reserved.new.self in
    let found = sym c.in-Some.ensures.value in
    let updates = (c.get_mut.follows.holds w).3 (ap is_some found) in
    appended-found c.args.item (lookup (is_at (cmp q)) old) _ c.in-Some.list.now w (sym (lookup-equal g.met.K.Ord.total k q ((Equal-is _).0 same) old) ∙ found)
    (updates.0 q ∙ ap (λ here. cond here (Some w) (lookup (is_at (cmp q)) old)) same)
    c.push_reserved.ensures.items
