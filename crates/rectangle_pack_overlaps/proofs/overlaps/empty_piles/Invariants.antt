use Rattle.rectangle_pack_sections.proofs.Std.{◌≡◌, [], length, All}
use Rattle.rectangle_pack_overlaps.proofs.overlaps.empty_piles.Given as goal

abbrev pub invariant-loop : goal.invariant-loop
invariant-loop g l = (length l.piles.items ≡ l.counter) × All (λ p. p.items ≡ []) l.piles.items
