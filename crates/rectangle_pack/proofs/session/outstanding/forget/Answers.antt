use Rattle.rectangle_pack_sections.proofs.Std.{rules, sym}
use Rattle.std.proofs.lemmas.Fn.{filter_same}
use Rattle.rectangle_pack.proofs.session.outstanding.forget.Goals as goal

pub returns : goal.returns
returns g c = filter_same _ _ _ (λ x b f' k. rw (sym (g.met.B.Ord.matches_eq x.bin c.args.id.now)) (search rules)) _ _ c.retain.ensures.filtered
