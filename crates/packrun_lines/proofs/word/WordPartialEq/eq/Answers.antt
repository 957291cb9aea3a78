use Rattle.std.proofs.Common.{◌≡◌, ◌==◌, refl, sym, ap, ◌∙◌}
use Rattle.std.specs.declared.cmp.Ordering.{Ordering}
use Rattle.std.specs.declared.cmp.Ordering.TheVariants.{Less, Equal, Greater}
use Rattle.std.specs.Ordering.{is_eq, ordering_index}
use Rattle.std.specs.Cmp.Lexicographic.{texts_ties}
use Rattle.packrun_lines.proofs.word.WordPartialEq.eq.Goals as goal

by_index : (o : Ordering) → (ordering_index o == 1) ≡ is_eq o
by_index Less = refl
by_index Equal = refl
by_index Greater = refl

pub returns : goal.returns
returns g c = c.eq.ensures ∙ by_index c.cmp.result ∙ ap is_eq c.cmp.ensures ∙ sym (texts_ties c.args.self.now c.args.other.now)
