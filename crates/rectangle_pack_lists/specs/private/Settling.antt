-- What a sweep has reached.
use Rattle.std.specs.Prelude.{ℕ, ◌≢◌, ◌<◌, ◌≤◌, List, length}
use Rattle.rectangle_pack_sections.specs.Boxes.{Cuboid}
use Rattle.rectangle_pack_lists.specs.Joining.{SharesFace, entry}

-- the entries from k on share no whole face with any other entry
unfoldable pub Settled : List Cuboid → ℕ → Type 0
Settled sections k = (u v : ℕ) → k ≤ u → u < length sections → v < length sections → u ≢ v → ¬ SharesFace (entry sections u) (entry sections v)

-- the entries beyond idx share no whole face with any other entry than that at idx
unfoldable pub Around : List Cuboid → ℕ → Type 0
Around sections idx = (u v : ℕ) → idx < u → u < length sections → v < length sections → u ≢ v → v ≢ idx → ¬ SharesFace (entry sections u) (entry sections v)
