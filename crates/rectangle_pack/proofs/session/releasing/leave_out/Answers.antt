use Rattle.rectangle_pack_sections.proofs.Std.{rules}
use Rattle.std.proofs.lemmas.Fn.{filter_same}
use Rattle.rectangle_pack.proofs.session.releasing.leave_out.Goals as goal

pub returns : goal.returns
returns g c = filter_same _ _ _ (λ x b f' k. let rise = c.requires.rising in search rules) _ _ c.retain.ensures.filtered
