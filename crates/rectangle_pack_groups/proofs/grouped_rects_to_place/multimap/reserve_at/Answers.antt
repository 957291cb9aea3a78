use Rattle.rectangle_pack_sections.proofs.Std.{◌≡◌, sym, ◌∙◌, ap, subst, Some, option_map, lookup, is_at, set_value, set_value_same, on_ok_weaker}
use Rattle.rectangle_pack_sections.specs.Groups.{lists_of}
use Rattle.rectangle_pack_groups.specs.private.Multimaps.{HasRoom}
use Rattle.rectangle_pack_groups.proofs.lemmas.multimap.Vectors.{lists_of-set_value, items-same, known-same}
use Rattle.rectangle_pack_sections.proofs.lemmas.groups.Lists.{lookup-lists}
use Rattle.rectangle_pack_groups.proofs.grouped_rects_to_place.multimap.reserve_at.Goals as goal

pub returns : goal.returns
returns g c =
    let cmp = g.K.Ord.cmp in
    let test = is_at (cmp c.args.key.now) in
    let old = c.args.map.now.entries in
    let list = c.in-Some.list.now in
    let w = c.reserve.new.self in
    let written = c.get_mut.follows.holds w in
    let updates = written.3 c.requires.has in
    let found : lookup test (lists_of old) ≡ Some list.items = lookup-lists test old ∙ ap (option_map (λ v. v.items)) (sym c.in-Some.ensures.value) in
    let kept = ap lists_of written.0 ∙ lists_of-set_value test old w ∙ ap (set_value test (lists_of old)) c.reserve.ensures.items
    ∙ set_value_same test (lists_of old) list.items found in
    record {
      kept = kept;
      items = λ q. items-same (is_at (cmp q)) _ old kept;
      known = λ q. known-same (is_at (cmp q)) _ old kept;
      others = updates.2;
      room = on_ok_weaker c.reserve.result (λ fits. subst (λ found. HasRoom found 1) (sym updates.1) fits) c.reserve.ensures.ok;
    }
