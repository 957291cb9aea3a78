-- What the list of a session's outstanding placements is to its callers.
use Rattle.std.specs.Prelude.{ℕ, List}

-- a list, as a session sees that of its outstanding placements: its items in order, and how many more it takes without
-- asking for memory (`spare`)
-- Example: of records 0, 1, 2, 3 and 4 in a block for eight, 0 and 1 were released, and are kept at the front as gone: the
-- items are 2, 3 and 4, and the spare room is 3
pub record Roomy (T : Type 0) : Type 0 where
  pub items : List T
  pub spare : ℕ
