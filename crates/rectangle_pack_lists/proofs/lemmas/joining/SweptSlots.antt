-- A sweep in slots, from the last down to the first.
use Rattle.rectangle_pack_sections.proofs.Std.{arith, ℕ, zero, suc, ◌≡◌, ◌+◌, ◌<◌, ◌≤◌, inl, inr, Bool, true, false, List, length, get_or, get_or_default, take_all, refl, ap, sym, subst, ◌∙◌, cases_lt}
use Rattle.rectangle_pack_sections.specs.Boxes.{Cuboid, has_cells}
use Rattle.rectangle_pack_lists.specs.Joining.{entry, IsJoined, Alone, PastEnd, IsSwept, IsSweptBelow}
use Rattle.rectangle_pack_lists.specs.private.Corners.{full, place, IsFull, IsJoinedAt}
use Rattle.rectangle_pack_lists.specs.private.Settling.{Settled, Around}
use Rattle.rectangle_pack_lists.proofs.lemmas.joining.Sweeps.{Around-from_Settled, Settled-past}
use Rattle.std.proofs.lemmas.List.Filters.{length-filter_more}

-- what is settled stays as it is when it is visited
settled-visited : (n k : ℕ) (list : List Cuboid) → k ≤ n → Settled list k → IsJoined n 0 (length list) list list
unfolding Settled
settled-visited n k list from settled = elim (cases_lt n (length list)) [
  | inl at ↦ Alone at (λ j near. settled n j from at near.within (λ e. near.other (sym e)) near.shares)
  | inr past ↦ PastEnd past
]

IsSweptBelow-settled : (n k : ℕ) (list new : List Cuboid) → k ≤ n → Settled list k → IsSweptBelow k list new → IsSweptBelow n list new
IsSweptBelow-settled zero k list new from settled swept = let none : k ≡ 0 = omega arith in subst (λ m. IsSweptBelow m list new) none swept
IsSweptBelow-settled (suc n) k list new from settled swept = elim (cases_lt n k) [
  | inl past ↦ let same : k ≡ suc n = omega arith in subst (λ m. IsSweptBelow m list new) same swept
  | inr ge ↦ (list, settled-visited n k list ge settled, IsSweptBelow-settled n k list new ge settled swept)
]

-- the place after that of a slot
place-next : (slots : List Cuboid) (slot : ℕ) → IsFull slots slot → place slots (slot + 1) ≡ suc (place slots slot)
unfolding place
place-next slots slot at =
    let nothing : Cuboid = record { x = 0; y = 0; z = 0; whd = record { width = 0; height = 0; depth = 0 } } in
    let more = length-filter_more has_cells slots slot nothing at.within in
    omega (arith, rw at.cells at more)

pub place-skipped : (slots : List Cuboid) (slot : ℕ) → slot < length slots → has_cells (entry slots slot) ≡ false → place slots (slot + 1) ≡ place slots slot
unfolding place
place-skipped slots slot within none =
    let nothing : Cuboid = record { x = 0; y = 0; z = 0; whd = record { width = 0; height = 0; depth = 0 } } in
    let more = length-filter_more has_cells slots slot nothing within in
    omega (arith, rw none at more)

-- a slot that was read, and whose section has cells
pub IsFull-read : (slots : List Cuboid) (slot : ℕ) (b : Cuboid) (cells : Bool) → slot < length slots → cells ≡ has_cells (get_or slots slot b) → cells ≡ true → IsFull slots slot
IsFull-read slots slot b cells within are is = record {
  within = within;
  cells = ap has_cells (sym (get_or_default slots slot b _ within)) ∙ sym are ∙ is;
}

-- a sweep down to a slot: whatever the rest of it leaves is what all of it leaves
pub record IsSweptTo (slot : ℕ) (old now : List Cuboid) : Type 0 where
  pub within : slot ≤ length now
  pub settled : Settled (full now) (place now slot)
  pub rest : (new : List Cuboid) → IsSweptBelow (place now slot) (full now) new → IsSwept (full old) new

pub IsSweptTo-start : (slots : List Cuboid) → IsSweptTo (length slots) slots slots
unfolding place
IsSweptTo-start slots =
    let all : place slots (length slots) ≡ length (full slots) = ap (λ l. length (full l)) (take_all (length slots) slots (omega arith)) in
    record {
      within = omega arith;
      settled = Settled-past (full slots) (place slots (length slots)) (omega arith);
      rest = λ new swept. subst (λ n. IsSweptBelow n (full slots) new) all swept;
    }

pub IsSweptTo-joined : (slot : ℕ) (old now next : List Cuboid) → IsSweptTo (slot + 1) old now → IsFull now slot → IsJoinedAt slot now next → IsSweptTo slot old next
IsSweptTo-joined slot old now next swept at joined =
    let above = place-next now slot at in
    let around : Around (full now) (place now slot) = Around-from_Settled (full now) (place now slot) (subst (Settled (full now)) above swept.settled) in
    let settled = joined.settled around in
    record {
      within = let w = at.within in let long = joined.as_long in omega arith;
      settled = settled;
      rest = λ new left. swept.rest new (subst (λ n. IsSweptBelow n (full now) new) (sym above)
          (full next, joined.joined, IsSweptBelow-settled (place now slot) (place next slot) (full next) new joined.no_farther settled left));
    }

pub IsSweptTo-skipped : (slot : ℕ) (old now : List Cuboid) (b : Cuboid) (cells : Bool) → IsSweptTo (slot + 1) old now
    → cells ≡ has_cells (get_or now slot b) → cells ≡ false → IsSweptTo slot old now
IsSweptTo-skipped slot old now b cells swept are is =
    let within = swept.within in
    let none : has_cells (entry now slot) ≡ false = ap has_cells (sym (get_or_default now slot b _ (omega arith))) ∙ sym are ∙ is in
    let same = place-skipped now slot (omega arith) none in
    record {
      within = omega arith;
      settled = subst (Settled (full now)) same swept.settled;
      rest = λ new left. swept.rest new (subst (λ n. IsSweptBelow n (full now) new) (sym same) left);
    }

pub IsSweptTo-done : (slot : ℕ) (old now : List Cuboid) → slot ≤ 0 → IsSweptTo slot old now → IsSwept (full old) (full now)
unfolding place
IsSweptTo-done zero old now end swept = swept.rest (full now) refl
IsSweptTo-done (suc slot) old now end swept = absurd (omega arith)
