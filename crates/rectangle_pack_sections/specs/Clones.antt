-- Clones of ids.
use Rattle.std.specs.Prelude.{Bool, IsTrue}

-- whatever may be a clone of an id equals that id, by the ids' own `==`
abbrev pub ClonesEqual : {X : Type 0} → (X → X → Type 0) → (X → X → Bool) → Type 0
ClonesEqual {X} is_clone eq = (a b : X) → is_clone a b → IsTrue (eq a b)
