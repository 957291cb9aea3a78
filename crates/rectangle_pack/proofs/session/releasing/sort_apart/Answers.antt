use Rattle.rectangle_pack_sections.proofs.Std.{rules, answers_always}
use Rattle.std.proofs.Common.{ltb}
use Rattle.rectangle_pack.proofs.lemmas.session.ReleasedNumbers.{sorted-apart}
use Rattle.rectangle_pack.proofs.session.releasing.sort_apart.Goals as goal

pub returns-clause-apart : goal.returns-clause-apart
returns-clause-apart g c =
    (sorted-apart c.args.numbers.now.items c.sort_unstable.new.self.items c.is_sorted_by.result c.sort_unstable.ensures.permutation c.sort_unstable.ensures.sorted
    (rw c.deref.ensures.value at (c.is_sorted_by.ensures.cases ltb (answers_always _ _ _ (λ f a r h called. search rules))))).0

pub returns-clause-rising : goal.returns-clause-rising
returns-clause-rising g c =
    (sorted-apart c.args.numbers.now.items c.sort_unstable.new.self.items c.is_sorted_by.result c.sort_unstable.ensures.permutation c.sort_unstable.ensures.sorted
    (rw c.deref.ensures.value at (c.is_sorted_by.ensures.cases ltb (answers_always _ _ _ (λ f a r h called. search rules))))).1
