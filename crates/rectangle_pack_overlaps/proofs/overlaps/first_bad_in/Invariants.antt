use Rattle.rectangle_pack_sections.proofs.Std.{ℕ, length}
use Rattle.rectangle_pack_overlaps.specs.private.Piles.{ArePiles, IsFirstBadIn}
use Rattle.rectangle_pack_overlaps.proofs.overlaps.first_bad_in.Given as goal

abbrev pub invariant-loop-pile : goal.invariant-loop-pile
invariant-loop-pile g l = (bins : ℕ) → ArePiles l.boxes (length l.boxes) bins l.piles → IsFirstBadIn l.boxes l.pile-index l.second
