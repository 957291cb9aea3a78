-- What the calls of a store say, before their answers are printed.
use Rattle.std.specs.Prelude.{◌≡◌, Result, Err}
use Rattle.rectangle_pack.specs.declared.session.command.SessionError.{SessionError}
use Rattle.rectangle_pack.specs.declared.session.command.SessionError.TheVariants.{OutOfMemory}
use Rattle.packrun_lines.specs.Store.{Store}

-- a call changes the store so; or memory is refused, and nothing is changed
abbrev pub UnlessNoMemory : (Store → Result (Unit {0}) SessionError → Store → Type 0) → Store → Result (Unit {0}) SessionError → Store → Type 0
UnlessNoMemory Changes old (Err OutOfMemory) new = new ≡ old
UnlessNoMemory Changes old answer new = Changes old answer new
