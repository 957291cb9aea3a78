-- Slots that are named under the numbers of corners.
use Rattle.rectangle_pack_sections.proofs.Std.{arith, ℕ, zero, suc, ◌≡◌, ◌≢◌, ◌+◌, ◌-◌, ◌<◌, ◌≤◌, inl, inr, Bool, true, false, List, [], ◌∷◌, ◌++◌, length, get_or, set, Contains-append_left}
use Rattle.rectangle_pack_sections.proofs.Std.{refl, ap, sym, subst, ◌∙◌, Some, None, All, Contains, cases_lt, cases_eq, cases_order, length-set}
use Rattle.rectangle_pack_sections.proofs.Std.{get_or-set_same, get_or-set_other, get_or_default, nat_cmp, Result, Ok, Err, IfSome, IfNone, result_ok, ranked}
use Rattle.rectangle_pack_sections.proofs.Std.{IsSearchInRange, IsBinarySearchResult, IsNonDecreasingBy, ordering_index, nat_tests}
use Rattle.std.specs.List.{AllAdjacentBelow, IsAllAdjacentAnswer}
use Rattle.std.proofs.lemmas.List.Elements.{Contains-push, Contains-get_or}
use Rattle.std.proofs.lemmas.Bool.{true≢false, ltb-true}
use Rattle.std.proofs.Common.{ltb}
use Rattle.rectangle_pack_sections.specs.declared.axis.Axis.{Axis}
use Rattle.rectangle_pack_sections.specs.Boxes.{Cuboid, has_cells}
use Rattle.rectangle_pack_lists.specs.declared.corners.Corner.{Corner}
use Rattle.rectangle_pack_lists.specs.declared.corners.Name.{Name}
use Rattle.rectangle_pack_lists.specs.Joining.{join, entry}
use Rattle.rectangle_pack_lists.specs.private.Corners.{corner_number, neighbour_number, IsFull, Rise, AreNamed, IsRenamed, IsBeside, IsLeastBeside, IsAtFace}
use Rattle.rectangle_pack_lists.proofs.lemmas.joining.Corners.{joined-corner}

name-same : {c d i j : ℕ} → c ≡ d → i ≡ j → let a : Name = record { corner = c; slot = i } in let b : Name = record { corner = d; slot = j } in a ≡ b
name-same p q i = record { corner = p i; slot = q i }

-- where numbers rise, there is one name under each
pub named-one : (names : List Name) (m n : Name) → Rise names → Contains names m → Contains names n → m.corner ≡ n.corner → m ≡ n
named-one names m n rise (i, at, is_m) (j, below, is_n) same =
    let first : get_or names i n ≡ m = get_or_default names i n m at ∙ is_m in
    let second : get_or names j m ≡ n = get_or_default names j m n below ∙ is_n in
    elim (cases_order i j) [
      | inl e ↦ sym first ∙ ap (λ k. get_or names k n) e ∙ is_n
      | inr (inl lt) ↦
          let up = rise i j m lt below in
          absurd (omega (arith, up, ap (λ (a : Name). a.corner) is_m, ap (λ (a : Name). a.corner) second))
      | inr (inr gt) ↦
          let up = rise j i n gt at in
          absurd (omega (arith, up, ap (λ (a : Name). a.corner) is_n, ap (λ (a : Name). a.corner) first))
    ]

-- numbers that rise from each to the next all rise
rise_far : (names : List Name) (i n : ℕ) (d : Name) → AllAdjacentBelow (λ a b. a.corner < b.corner) names (length names)
    → i + n + 1 < length names → (get_or names i d).corner < (get_or names (i + n + 1) d).corner
rise_far names i zero d up within =
    let e : i + 0 ≡ i = omega arith in
    subst (λ k. (get_or names i d).corner < (get_or names (k + 1) d).corner) (sym e) (up i d (omega arith))
rise_far names i (suc n) d up within =
    let e : i + suc n ≡ i + n + 1 = omega arith in
    let before = rise_far names i n d up (omega arith) in
    let next = up (i + n + 1) d (omega arith) in
    subst (λ k. (get_or names i d).corner < (get_or names (k + 1) d).corner) (sym e) (omega (arith, before, next))

pub Rise-adjacent : (names : List Name) → AllAdjacentBelow (λ a b. a.corner < b.corner) names (length names) → Rise names
Rise-adjacent names up i j d lt below =
    let e : i + (j - (i + 1)) + 1 ≡ j = omega arith in
    subst (λ k. (get_or names i d).corner < (get_or names k d).corner) e (rise_far names i (j - (i + 1)) d up (omega arith))

-- where numbers rise, so does how they compare with a number
comparisons_rise : (names : List Name) (number : ℕ) → Rise names → IsNonDecreasingBy (λ n. ordering_index (nat_cmp n.corner number)) names
comparisons_rise names number rising i j d le within = grind
    (arith, nat_tests, rising i j d, λ (same : i ≡ j). ap (λ k. (get_or names k d).corner) same)

-- so a search ends at the number, or finds that it is not there
pub searched : (names : List Name) (number : ℕ) (r : Result ℕ ℕ) → Rise names
    → IsSearchInRange r (length names) → IsBinarySearchResult (λ n. nat_cmp n.corner number) names r
    → IfSome (result_ok r) (λ i. (i < length names) × ((d : Name) → (get_or names i d).corner ≡ number))
    × IfNone (result_ok r) (All (λ n. n.corner ≢ number) names)
searched names number (Ok at) rising within equal = ((within, λ d. ranked _ number _ (sym (equal d))), tt)
searched names number (Err at) rising within parted =
    let halves = parted (comparisons_rise names number rising) in
    let less : (k : ℕ) (d : Name) → k < at → (get_or names k d).corner < number = λ k d lt. ranked _ number _
    (sym (halves.0 k d (omega arith) lt)) in
    let more : (k : ℕ) (d : Name) → at ≤ k → k < length names
    → number < (get_or names k d).corner = λ k d le lt. ranked _ number _ (sym (halves.1 k d le lt)) in (
      tt,
      λ k d below same. elim (cases_lt k at) [
        | inl lt ↦ absurd (omega (arith, less k d lt, same))
        | inr le
            ↦ absurd (omega (arith, more k d le below, same))
      ],
    )

-- a new name under a number that was found
pub renamed-at : (names new : List Name) (at number slot : ℕ) → Rise names → at < length names → ((d : Name) → (get_or names at d).corner ≡ number)
    → new ≡ set names at (record { corner = number; slot = slot }) → IsRenamed number slot names new
renamed-at names new at number slot rising within found is =
    let name : Name = record { corner = number; slot = slot } in
    let corner_at : (k : ℕ) (d : Name) → k < length names → (get_or new k d).corner ≡ (get_or names k d).corner =
    λ k d below. elim (cases_eq k at) [
      | inl e ↦ ap (λ l. (get_or l k d).corner) is ∙ ap (λ i. (get_or (set names at name) i d).corner) e
          ∙ ap (λ (a : Name). a.corner) (get_or-set_same names at name d within) ∙ sym (ap (λ i. (get_or names i d).corner) e ∙ found d)
      | inr n ↦ ap (λ l. (get_or l k d).corner) is ∙ ap (λ (a : Name). a.corner) (get_or-set_other names at k name d n)
    ] in
    let long : length new ≡ length names = ap length is ∙ length-set names at name in
    record {
      rise = λ i j d lt below. let up = rising i j d lt (omega arith) in omega (arith, corner_at i d (omega arith), corner_at j d (omega arith));
      others = λ n there other.
          let (k, below, is_n) = there in
          let apart : k ≢ at = λ e. other (sym (ap (λ (a : Name). a.corner) is_n) ∙ ap (λ i. (get_or names i n).corner) e ∙ found n) in
          (k, omega arith, ap (λ l. get_or l k n) is ∙ get_or-set_other names at k name n apart ∙ is_n);
      renamed = λ n there same. (at, omega arith, ap (λ l. get_or l at name) is ∙ get_or-set_same names at name name within);
    }

-- one more slot is named
pub named-more : (corner : Corner) (slots : List Cuboid) (names new : List Name) (n number : ℕ) (b : Cuboid)
    → ((k : ℕ) → k < n → Contains names (record { corner = corner_number corner (entry slots k); slot = k }))
    → n < length slots → b ≡ get_or slots n b → number ≡ corner_number corner b → new ≡ names ++ record { corner = number; slot = n } ∷ []
    → (k : ℕ) → k < n + 1 → Contains new (record { corner = corner_number corner (entry slots k); slot = k })
named-more corner slots names new n number b named within read is more k below =
    let name : Name = record { corner = number; slot = n } in
    rw more (elim (cases_lt k n) [
      | inl lt ↦ Contains-append_left names (name ∷ []) _ (named k lt)
      | inr ge ↦
          let same : k ≡ n = omega arith in
          let box : b ≡ entry slots k = read ∙ get_or_default slots n b _ within ∙ ap (entry slots) (sym same) in
          subst (Contains (names ++ name ∷ [])) (name-same (is ∙ ap (corner_number corner) box) (sym same)) (Contains-push names name)
    ])

-- numbers that are tested one after another rise
pub Rise-tested : (names : List Name) (rise : Bool) → IsAllAdjacentAnswer (λ a b r. r ≡ ltb a.corner b.corner) names rise → rise ≡ true → Rise names
Rise-tested names true all is = Rise-adjacent names (λ k d below. ltb-true _ _ (sym (all k d below)))
Rise-tested names false all is = absurd (true≢false (sym is))

module _ (corner : Corner) (slots : List Cuboid) (names : List Name) (named : AreNamed corner slots names) where
  module _ (axis : Axis) (slot at number : ℕ) (d : Name) (is : number ≡ neighbour_number corner axis (entry slots slot))
      (within : at < length names) (found : (e : Name) → (get_or names at e).corner ≡ number) where
    -- the name under the number that a box at a face has is that of its slot
    named-at_face : (other : ℕ) → IsBeside slots slot other → IsAtFace corner axis slots slot other → (get_or names at d).slot ≡ other
    named-at_face other beside face =
        ap (λ (a : Name). a.slot) (named-one names (get_or names at d) _ named.rise (Contains-get_or names at d within) (named.all other beside.full)
        (found d ∙ is ∙ sym face))

    -- so that slot is the only one at the face, if it is beside
    pub at_face-some : IsBeside slots slot (get_or names at d).slot → IsLeastBeside (IsAtFace corner axis slots slot) slots slot (Some (get_or names at d).slot)
    at_face-some beside = record { beside = beside; least = λ other near face. let same = named-at_face other near face in omega arith }

    pub at_face-none : ¬ IsBeside slots slot (get_or names at d).slot → IsLeastBeside (IsAtFace corner axis slots slot) slots slot None
    at_face-none none = record { beside = tt; least = λ other near face. none (subst (IsBeside slots slot) (sym (named-at_face other near face)) near) }

  -- the names once the section in a slot is joined with one that is beside it
  pub named-joined : (slot other : ℕ) (empty : Cuboid) (next : List Cuboid) (new : List Name) → IsFull slots slot → IsBeside slots slot other
      → has_cells empty ≡ false → next ≡ set (set slots slot (join (entry slots slot) (entry slots other))) other empty
      → IsRenamed (corner_number corner (entry slots other)) slot names new → AreNamed corner next new
  named-joined slot other empty next new at beside none is renamed =
      let nothing : Cuboid = record { x = 0; y = 0; z = 0; whd = record { width = 0; height = 0; depth = 0 } } in
      let b = entry slots slot in
      let e = entry slots other in
      let long : length next ≡ length slots = ap length is ∙ length-set (set slots slot (join b e)) other empty ∙ length-set slots slot (join b e) in
      let still : length (set slots slot (join b e)) ≡ length slots = length-set slots slot (join b e) in
      let emptied : entry next other ≡ empty =
      ap (λ l. entry l other) is ∙ get_or-set_same (set slots slot (join b e)) other empty nothing (let h = beside.full.within in omega (arith, still)) in
      let joined : entry next slot ≡ join b e =
      ap (λ l. entry l slot) is ∙ get_or-set_other (set slots slot (join b e)) other slot empty nothing (λ q. beside.differs (sym q))
      ∙ get_or-set_same slots slot (join b e) nothing at.within in
      let mine : Contains names (record { corner = corner_number corner b; slot = slot }) = named.all slot at in
      let its : Contains names (record { corner = corner_number corner e; slot = other }) = named.all other beside.full in
      let taken : corner_number corner b ≡ corner_number corner e → slot ≡ other = λ q. ap (λ (a : Name). a.slot) (named-one names _ _ named.rise mine its q) in
      let for_slot : Contains new (record { corner = corner_number corner (join b e); slot = slot }) =
      elim (joined-corner corner b e beside.shares) [
        | inl q ↦ subst (Contains new) (name-same (sym q) refl)
            (renamed.others _ mine (λ r. beside.differs (sym (taken r))))
        | inr q ↦ subst (Contains new) (name-same (sym q) refl) (renamed.renamed _ its refl)
      ] in
      record {
        rise = renamed.rise;
        all = λ u there. elim (cases_eq u other) [
          | inl p ↦ absurd (true≢false (sym there.cells ∙ ap (λ k. has_cells (entry next k)) p ∙ ap has_cells emptied ∙ none))
          | inr n ↦ elim (cases_eq u slot) [
            | inl p ↦ subst (Contains new) (name-same (ap (corner_number corner) (sym joined ∙ ap (entry next) (sym p))) (sym p)) for_slot
            | inr m ↦
                let same : entry next u ≡ entry slots u =
                ap (λ l. entry l u) is ∙ get_or-set_other (set slots slot (join b e)) other u empty nothing n ∙ get_or-set_other slots slot u (join b e) nothing m in
                let before : IsFull slots u = record { within = let w = there.within in omega (arith, long); cells = sym (ap has_cells same) ∙ there.cells } in
                let name = named.all u before in
                subst (Contains new) (name-same (ap (corner_number corner) (sym same)) refl)
                (renamed.others _ name (λ r. n (ap (λ (a : Name). a.slot) (named-one names _ _ named.rise name its r))))
          ]
        ];
      }
