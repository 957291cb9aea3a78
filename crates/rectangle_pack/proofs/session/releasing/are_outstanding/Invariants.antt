use Rattle.rectangle_pack_sections.proofs.Std.{All, take}
use Rattle.rectangle_pack.specs.Session.{IsOutstanding}
use Rattle.rectangle_pack.proofs.session.releasing.are_outstanding.Given as goal

abbrev pub invariant-loop-number : goal.invariant-loop-number
invariant-loop-number g l = record { there : All (IsOutstanding l.outstanding) (take l.number-index l.numbers) }
