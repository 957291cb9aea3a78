use Rattle.rectangle_pack_sections.proofs.Std.{◌∷◌, ◌++◌, [], List, ap, sym, ◌∙◌, is_at, list_any, take, take_more}
use Rattle.rectangle_pack.proofs.lemmas.bound.Sets.{in-more, to}
use Rattle.rectangle_pack.proofs.bound.apart.partners_of.Goals as goal

pub loop-partner-preserved : goal.loop-partner-preserved
loop-partner-preserved g c = λ other.
    let i = c.loop-partner.partner-index in
    let partners = c.partners-partner-items.result.now in
    in-more g.met.K.Ord.total c.loop-partner.partners.keys c.insert.new.self.keys c.partner-item.result (take i partners)
    (λ id. c.in_ok-insert.ensures.updates.0 (to id)) c.loop-partner.invariant other
    ∙ ap (λ (l : List g.row.K.Denot). list_any (is_at (g.K.Ord.cmp other)) l)
    (ap (λ x. take i partners ++ x ∷ []) c.partner-item.is ∙ sym (take_more partners i c.partner-item.result c.loop-partner-test.true))
