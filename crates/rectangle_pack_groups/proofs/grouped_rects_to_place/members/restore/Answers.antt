use Rattle.rectangle_pack_sections.proofs.Std.{sym, ◌∙◌, ap, remove_entry, set_value, is_at}
use Rattle.rectangle_pack_sections.proofs.lemmas.util.Maps.{lookup-equal}
use Rattle.rectangle_pack_groups.proofs.lemmas.multimap.Restore.{remove-insert, set-insert}
use Rattle.rectangle_pack_groups.proofs.grouped_rects_to_place.members.restore.Goals as goal

pub returns-in-None : goal.returns-in-None
returns-in-None g c = λ was k v up same before inserted.
    c.remove.ensures.entries ∙ ap (remove_entry (is_at (g.K.Ord.cmp c.args.key.now))) inserted
    ∙ remove-insert g.met.K.Ord.total c.args.key.now k same was v (lookup-equal g.met.K.Ord.total c.args.key.now k same was ∙ sym before ∙ c.in-None.is)

pub returns-in-Some-get_mut : goal.returns-in-Some-get_mut
returns-in-Some-get_mut g c = λ was k v up same before inserted.
    (c.get_mut.follows.holds c.in-Some.value).0 ∙ ap (λ es. set_value (is_at (g.K.Ord.cmp c.args.key.now)) es c.in-Some.value) inserted
    ∙ set-insert g.met.K.Ord.total c.args.key.now k same was v c.in-Some.value up
    (lookup-equal g.met.K.Ord.total c.args.key.now k same was ∙ sym before ∙ c.in-Some.is)
