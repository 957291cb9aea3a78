-- What a call promises of its answer.
use Rattle.rectangle_pack_sections.proofs.Std.{Result, Ok, Err, OnErr}

-- what holds anyway holds of a refusal
pub OnErr-given : {X E P : Type 0} (r : Result X E) → P → OnErr r P
OnErr-given (Ok x) h = tt
OnErr-given (Err e) h = h
