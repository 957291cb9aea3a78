use Rattle.rectangle_pack_sections.proofs.Std.{◌≡◌, length, All}
use Rattle.rectangle_pack_judge.proofs.marks.marks.Given as goal

abbrev pub invariant-loop : goal.invariant-loop
invariant-loop g l = (length l.marks.items ≡ l.counter) × All (λ m. m ≡ l.mark) l.marks.items
