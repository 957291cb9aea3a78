-- Joins in slots: a section that is joined leaves its slot without cells, and none is moved. The list is that of the sections with cells.
use Rattle.rectangle_pack_sections.proofs.Std.{arith, ℕ, ◌≡◌, ◌≢◌, ◌+◌, ◌-◌, ◌<◌, ◌≤◌, inl, inr, true, false, List, length, get_or, set}
use Rattle.rectangle_pack_sections.proofs.Std.{remove, refl, ap, sym, subst, ◌∙◌, Some, None, cases_lt, cases_eq, length-set}
use Rattle.rectangle_pack_sections.proofs.Std.{get_or-set_same, get_or-set_other, get_or_default, min}
use Rattle.rectangle_pack_sections.specs.Boxes.{Cuboid, has_cells}
use Rattle.rectangle_pack_lists.specs.Joining.{SharesFace, join, entry, IsNeighbour, IsAlone, IsFirstNeighbour, joined_list, joined_index, IsJoined, Joins, Alone}
use Rattle.rectangle_pack_lists.specs.private.Corners.{full, place, IsFull, IsBeside, IsLeastBeside, IsJoinedAt}
use Rattle.rectangle_pack_lists.specs.private.Settling.{Around}
use Rattle.rectangle_pack_lists.proofs.lemmas.util.Kept.{rank-within, kept-rank, kept-written, kept-emptied, rank-before, rank-written, rank-emptied, rank-rises, ranked_at}
use Rattle.rectangle_pack_lists.proofs.lemmas.joining.Joins.{length-joined_list, joined_index-at}
use Rattle.rectangle_pack_lists.proofs.lemmas.joining.Sweeps.{Around-joined_list, Settled-from_Around}
use Rattle.rectangle_pack_lists.proofs.lemmas.joining.Corners.{join-has_cells}

-- a box without cells
abbrev pub nothing : Cuboid
nothing = record { x = 0; y = 0; z = 0; whd = record { width = 0; height = 0; depth = 0 } }

-- a section is at its place in the list of the sections
pub place-within : (slots : List Cuboid) (slot : ℕ) → IsFull slots slot → place slots slot < length (full slots)
unfolding place
place-within slots slot at = rank-within has_cells slots slot nothing at.within at.cells

pub place-entry : (slots : List Cuboid) (slot : ℕ) → IsFull slots slot → entry (full slots) (place slots slot) ≡ entry slots slot
unfolding place
place-entry slots slot at = kept-rank has_cells slots slot nothing at.within at.cells

pub place-rises : (slots : List Cuboid) (slot other : ℕ) → IsFull slots slot → slot < other → place slots slot < place slots other
unfolding place
place-rises slots slot other at lt = rank-rises has_cells slots slot other nothing at.within lt at.cells

slot_at : (slots : List Cuboid) (k : ℕ) → k < length (full slots) → (slot : ℕ) × IsFull slots slot × (place slots slot ≡ k)
unfolding place
slot_at slots k below = let (slot, within, cells, is) = ranked_at has_cells slots nothing k below in (slot, record { within = within; cells = cells }, is)

place-differs : (slots : List Cuboid) (slot other : ℕ) → IsFull slots slot → IsFull slots other → other ≢ slot → place slots other ≢ place slots slot
place-differs slots slot other at also differs same = elim (cases_lt other slot) [
  | inl lt ↦ let less = place-rises slots other slot also lt in omega arith
  | inr ge ↦ let less = place-rises slots slot other at (omega arith) in omega arith
]

-- what is beside a slot is a neighbour in the list, and the other way round
beside-neighbour : (slots : List Cuboid) (slot other : ℕ) → IsFull slots slot → IsBeside slots slot other
    → IsNeighbour (full slots) (place slots slot) 0 (length (full slots)) (place slots other)
beside-neighbour slots slot other at beside = record {
  from = omega arith;
  below = place-within slots other beside.full;
  within = place-within slots other beside.full;
  other = place-differs slots slot other at beside.full beside.differs;
  shares = rw (place-entry slots slot at, place-entry slots other beside.full) beside.shares;
}

neighbour-beside : (slots : List Cuboid) (slot hi k : ℕ) → IsFull slots slot → IsNeighbour (full slots) (place slots slot) 0 hi k
    → (other : ℕ) × IsBeside slots slot other × (place slots other ≡ k)
neighbour-beside slots slot hi k at near =
    let (other, there, is) = slot_at slots k near.within in
    let shares : SharesFace (entry slots slot) (entry slots other) =
    subst (λ b. SharesFace b (entry slots other)) (place-entry slots slot at)
    (subst (λ b. SharesFace (entry (full slots) (place slots slot)) b) (ap (entry (full slots)) (sym is) ∙ place-entry slots other there) near.shares) in
    (other, record { full = there; differs = λ same. near.other (sym is ∙ ap (place slots) same); shares = shares }, is)

-- so who has none beside it is alone, and the least beside it is the first neighbour
pub beside-alone : (slots : List Cuboid) (slot hi : ℕ) → IsFull slots slot → IsLeastBeside (IsFull slots) slots slot None → IsAlone (full slots) (place slots slot) 0 hi
beside-alone slots slot hi at least k near =
    let (other, beside, is) = neighbour-beside slots slot hi k at near in
    least.least other beside beside.full

pub beside-first : (slots : List Cuboid) (slot other : ℕ) → IsFull slots slot → IsLeastBeside (IsFull slots) slots slot (Some other)
    → IsFirstNeighbour (full slots) (place slots slot) 0 (length (full slots)) (place slots other)
beside-first slots slot other at least = record {
  is_one = beside-neighbour slots slot other at least.beside;
  least = λ k below near.
      let (another, beside, is) = neighbour-beside slots slot (length (full slots)) k at near in
      let no_less : other ≤ another = least.least another beside beside.full in
      elim (cases_eq other another) [
        | inl same ↦ let e = ap (place slots) same in omega arith
        | inr differ ↦ let less = place-rises slots other another least.beside.full (omega arith) in omega arith
      ];
}

-- the slots once the section in one is joined to that in another
module _ (slots : List Cuboid) (slot other : ℕ) (empty : Cuboid) (none : has_cells empty ≡ false) (at : IsFull slots slot) (beside : IsBeside slots slot other) where
  abbrev pub after_join : List Cuboid
  after_join = set (set slots slot (join (entry slots slot) (entry slots other))) other empty

  cells : has_cells (join (entry slots slot) (entry slots other)) ≡ true
  cells = join-has_cells (entry slots slot) (entry slots other) at.cells beside.full.cells

  pub after_join-slot : IsFull after_join slot
  after_join-slot =
      let b = join (entry slots slot) (entry slots other) in
      let differs : slot ≢ other = λ e. beside.differs (sym e) in
      let long = length-set slots slot b in
      let within = at.within in
      let is : entry after_join slot ≡ b = get_or-set_other (set slots slot b) other slot empty nothing differs ∙ get_or-set_same slots slot b nothing within in
      record { within = omega (arith, length-set (set slots slot b) other empty, long); cells = ap has_cells is ∙ cells }

  still-full : IsFull (set slots slot (join (entry slots slot) (entry slots other))) other
  still-full =
      let b = join (entry slots slot) (entry slots other) in
      let within = beside.full.within in
      record {
        within = omega (arith, length-set slots slot b);
        cells = ap has_cells (get_or-set_other slots slot other b nothing beside.differs) ∙ beside.full.cells;
      }

  same_place : (n : ℕ) → place (set slots slot (join (entry slots slot) (entry slots other))) n ≡ place slots n
  unfolding place
  same_place n = elim (cases_lt slot n) [
    | inl lt ↦ rank-written has_cells slots slot n nothing (join (entry slots slot) (entry slots other)) at.within lt at.cells cells
    | inr ge ↦ rank-before has_cells slots slot n (join (entry slots slot) (entry slots other)) ge
  ]

  pub after_join-full : full after_join ≡ joined_list (full slots) (place slots slot) (place slots other)
  unfolding joined_list place
  after_join-full =
      let b = join (entry slots slot) (entry slots other) in
      let written : full (set slots slot b) ≡ set (full slots) (place slots slot) b = kept-written has_cells slots slot nothing b at.within at.cells cells in
      let emptied : full after_join ≡ remove (full (set slots slot b)) (place (set slots slot b) other) =
      kept-emptied has_cells (set slots slot b) other nothing empty still-full.within still-full.cells none in
      let joins : join (entry (full slots) (place slots slot)) (entry (full slots) (place slots other)) ≡ b =
      ap (λ e. join e (entry (full slots) (place slots other))) (place-entry slots slot at) ∙ ap (join (entry slots slot)) (place-entry slots other beside.full) in
      emptied ∙ ap (remove (full (set slots slot b))) (same_place other) ∙ ap (λ l. remove l (place slots other)) written
      ∙ ap (λ e. remove (set (full slots) (place slots slot) e) (place slots other)) (sym joins)

  pub after_join-place : place after_join slot ≡ joined_index (place slots slot) (place slots other)
  unfolding place
  after_join-place =
      let b = join (entry slots slot) (entry slots other) in
      let index = joined_index-at (place slots slot) (place slots other) in
      elim (cases_lt other slot) [
        | inl lt ↦
            let less : place after_join slot + 1 ≡ place (set slots slot b) slot =
            rank-emptied has_cells (set slots slot b) other slot nothing empty still-full.within lt still-full.cells none in
            let lower = place-rises slots other slot beside.full lt in
            omega (arith, less, same_place slot)
        | inr ge ↦
            let same : place after_join slot ≡ place (set slots slot b) slot = rank-before has_cells (set slots slot b) other slot empty ge in
            let higher = place-rises slots slot other at (let n = beside.differs in omega arith) in
            omega (arith, same, same_place slot)
      ]

  pub after_join-length : length after_join ≡ length slots
  after_join-length =
      let b = join (entry slots slot) (entry slots other) in
      omega (arith, length-set (set slots slot b) other empty, length-set slots slot b)

-- joins in slots so far: whatever the rest of the joins leaves is what all of them leave
pub record AreJoinedSoFar (slot : ℕ) (old now : List Cuboid) : Type 0 where
  pub rest : (new : List Cuboid) → IsJoined (place now slot) 0 (length (full now)) (full now) new → IsJoined (place old slot) 0 (length (full old)) (full old) new
  pub around : Around (full old) (place old slot) → Around (full now) (place now slot)
  pub no_farther : place now slot ≤ place old slot
  pub as_long : length now ≡ length old

pub AreJoinedSoFar-none : (slot : ℕ) (slots : List Cuboid) → AreJoinedSoFar slot slots slots
AreJoinedSoFar-none slot slots = record { rest = λ new joined. joined; around = λ around. around; no_farther = omega arith; as_long = refl }

pub AreJoinedSoFar-more : (slot other : ℕ) (empty : Cuboid) (old now next : List Cuboid) → has_cells empty ≡ false → IsFull now slot
    → IsLeastBeside (IsFull now) now slot (Some other) → next ≡ set (set now slot (join (entry now slot) (entry now other))) other empty
    → AreJoinedSoFar slot old now → AreJoinedSoFar slot old next
AreJoinedSoFar-more slot other empty old now next none at least is so_far =
    let beside : IsBeside now slot other = least.beside in
    let list : full next ≡ joined_list (full now) (place now slot) (place now other) = ap full is ∙ after_join-full now slot other empty none at beside in
    let index : place next slot ≡ joined_index (place now slot) (place now other) = ap (λ l. place l slot) is ∙ after_join-place now slot other empty none at beside in
    let first = beside-first now slot other at least in
    let within = place-within now other beside.full in
    let shorter = length-joined_list (full now) (place now slot) (place now other) within in
    let short : length (full next) ≡ min (length (full now)) (length (full now)) - 1 = omega (arith, ap length list, shorter) in
    let lower = joined_index-at (place now slot) (place now other) in
    record {
      rest = λ new joined. so_far.rest new (Joins (place-within now slot at) (place now other) first (rw (← index, ← list, ← short) joined));
      around = λ around. rw (list, index) (Around-joined_list (full now) (place now slot) (place now other) within (so_far.around around));
      no_farther = let before = so_far.no_farther in omega (arith, index);
      as_long = ap length is ∙ after_join-length now slot other empty none at beside ∙ so_far.as_long;
    }

pub AreJoinedSoFar-done : (slot : ℕ) (old now : List Cuboid) → IsFull now slot → IsLeastBeside (IsFull now) now slot None
    → AreJoinedSoFar slot old now → IsJoinedAt slot old now
AreJoinedSoFar-done slot old now at least so_far = record {
  joined = so_far.rest (full now) (Alone (place-within now slot at) (beside-alone now slot (length (full now)) at least));
  settled = λ around.
      Settled-from_Around (full now) (place now slot) (length (full now)) (omega arith) (so_far.around around)
      (beside-alone now slot (length (full now)) at least);
  no_farther = so_far.no_farther;
  as_long = so_far.as_long;
}

-- one join leaves one section fewer
pub full-fewer : (slots next : List Cuboid) (slot other : ℕ) (empty : Cuboid) → has_cells empty ≡ false → IsFull slots slot → IsBeside slots slot other
    → next ≡ set (set slots slot (join (entry slots slot) (entry slots other))) other empty → length (full next) < length (full slots)
full-fewer slots next slot other empty none at beside is =
    let list : full next ≡ joined_list (full slots) (place slots slot) (place slots other) = ap full is ∙ after_join-full slots slot other empty none at beside in
    let shorter = length-joined_list (full slots) (place slots slot) (place slots other) (place-within slots other beside.full) in
    omega (arith, ap length list, shorter)

-- the slots that a turn writes are those of a join
pub written-joined : (slots : List Cuboid) (slot other : ℕ) (a b whole empty : Cuboid) → IsFull slots slot → IsBeside slots slot other
    → a ≡ get_or slots slot a → b ≡ get_or slots other b → whole ≡ join a b
    → set (set slots slot whole) other empty ≡ set (set slots slot (join (entry slots slot) (entry slots other))) other empty
written-joined slots slot other a b whole empty at beside is_a is_b is =
    let first : a ≡ entry slots slot = is_a ∙ get_or_default slots slot a _ at.within in
    let second : b ≡ entry slots other = is_b ∙ get_or_default slots other b _ beside.full.within in
    ap (λ w. set (set slots slot w) other empty) (is ∙ ap (λ x. join x b) first ∙ ap (join (entry slots slot)) second)
