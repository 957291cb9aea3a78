-- What a call that prints does to the bytes that its writer holds, where these are known.
use Rattle.std.specs.Prelude.{◌≡◌, ℕ, List, Option, Some, None, Ok, Err}
use Rattle.std.specs.Borrow.{Bor}
use Rattle.std.specs.List.{flat_map}
use Rattle.std.specs.Io.KnownBytes.{Appends, Keeps}
use Rattle.packrun_lines.specs.Ends.{Ended}
use Rattle.packrun_lines.specs.Printing.{AppendsStart}
use Rattle.packrun_lines.specs.declared.stop.Stop.TheVariants.{NoMemory, IoFailed}

-- the text is printed, and nothing else; or a write failed, and a beginning of the text is printed
abbrev pub Prints : Option (List ℕ) → Option (List ℕ) → Ended → List ℕ → Type 0
Prints old new (Ok done) text = Appends old new text
Prints old new (Err stop) text = (stop ≡ IoFailed) × AppendsStart old new text

-- the text of an answer is printed, where it has one; else memory was refused, and nothing is printed
abbrev pub PrintsAnswer : Option (List ℕ) → Option (List ℕ) → Ended → Option (List ℕ) → Type 0
PrintsAnswer old new result (Some text) = Prints old new result text
PrintsAnswer old new result None = (result ≡ Err NoMemory) × Keeps old new

-- the bytes of the parts, one behind the other
abbrev pub bytes_of_parts : List (Bor (List ℕ)) → List ℕ
bytes_of_parts parts = flat_map (λ (part : Bor (List ℕ)). part.now) parts
