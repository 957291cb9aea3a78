-- What holds of arguments that have no fault.
use Rattle.rectangle_pack_c.proofs.Std.{◌≡◌, ◌≢◌, ◌⊎◌, inl, inr, ℕ, ◌+◌, ◌<◌, ◌==◌, Bool, true, false, cond, ◌&&◌, List, [], ◌∷◌, ◌++◌, length, refl, ap, arith, All, map}
use Rattle.rectangle_pack_c.proofs.Std.{All-head, All-weaker, list_any, nat_tests, length-append, length-map, not, nat_le, nat_lt, ◌^◌, append-nil, ◌∙◌}
use Rattle.rectangle_pack_sections.proofs.lemmas.util.Searches.{none_pass}
use Rattle.rectangle_pack_c.specs.declared.RpBox.{RpBox}
use Rattle.rectangle_pack_c.specs.declared.collection.RpMember.{RpMember}
use Rattle.rectangle_pack_c.specs.declared.collection.RpExclusion.{RpExclusion}
use Rattle.rectangle_pack_c.specs.declared.collection.RpCollection.{RpCollection}
use Rattle.rectangle_pack_c.specs.Collections.{all_boxes, fault_of, are_as_many, member_box}
use Rattle.rectangle_pack_c.specs.Heuristics.{asked, all_heuristics}

-- a status that is 0 is not the one that a test gives
pub past : (t : Bool) (status rest : ℕ) → status ≢ 0 → cond t status rest ≡ 0 → (t ≡ false) × (rest ≡ 0)
past true status rest some e = absurd (some e)
past false status rest some e = (refl, e)

-- there is a place for each box, and an index; a heuristic is asked for; each member has a box; and no group is excluded with itself
pub record IsSound (c : RpCollection) (heuristic places : ℕ) : Type 0 where
  pub as_many : places ≡ length (all_boxes c)
  pub few : places < 0x1_0000_0000
  pub some : length (asked heuristic) ≢ 0
  pub known : All (λ m. m.index < length c.boxes.now) c.members.now
  pub differ : All (λ e. e.one ≢ e.other) c.exclusions.now

pub sound : (c : RpCollection) (heuristic places : ℕ) → fault_of c heuristic places ≡ 0 → IsSound c heuristic places
sound c heuristic places none =
    let (fits, second) = past (not (are_as_many c places)) 3 _ (omega arith) none in
    let (some, third) = past (length (asked heuristic) == 0) 10 _ (omega arith) second in
    let (known, fourth) = past (list_any (λ m. nat_le (length c.boxes.now) m.index) c.members.now) 11 _ (omega arith) third in
    let (differ, last) = past (list_any (λ e. e.one == e.other) c.exclusions.now) 12 0 (omega arith) fourth in
    let (same, few) = both (places == length c.boxes.now + length c.members.now) (nat_lt places (2 ^ 32)) fits in
    record {
      as_many = omega (
        arith,
        is_equal places (length c.boxes.now + length c.members.now) same,
        length-append c.boxes.now (map (member_box c.boxes.now) c.members.now),
        length-map c.members.now (member_box c.boxes.now),
      );
      few = is_less places (2 ^ 32) few;
      some = is_other (length (asked heuristic)) 0 some;
      known = All-weaker (λ (m : RpMember). nat_le (length c.boxes.now) m.index ≡ false) (λ m. m.index < length c.boxes.now)
          (λ m e. is_below (length c.boxes.now) m.index e) c.members.now (none_pass (λ m. nat_le (length c.boxes.now) m.index) c.members.now known);
      differ = All-weaker (λ (e : RpExclusion). (e.one == e.other) ≡ false) (λ e. e.one ≢ e.other)
          (λ e d. is_other e.one e.other d) c.exclusions.now (none_pass (λ e. e.one == e.other) c.exclusions.now differ);
    }
  where
    both : (s t : Bool) → not (s && t) ≡ false → (s ≡ true) × (t ≡ true)
    both true true e = (refl, refl)
    both true false e = absurd cc
    both false t e = absurd cc

    is_equal : (a b : ℕ) → (a == b) ≡ true → a ≡ b
    is_equal a b e = grind (arith, nat_tests)

    is_other : (a b : ℕ) → (a == b) ≡ false → a ≢ b
    is_other a b e = grind (arith, nat_tests)

    is_less : (a b : ℕ) → nat_lt a b ≡ true → a < b
    is_less a b e = grind (arith, nat_tests)

    is_below : (a b : ℕ) → nat_le a b ≡ false → b < a
    is_below a b e = grind (arith, nat_tests)

-- a number that has no name and asks for something asks for all
pub all_asked : (number : ℕ) → asked number ≢ [] → (asked number ≡ []) ⊎ (number ≡ 0xffff) → asked number ≡ all_heuristics
all_asked number some (inl none) = absurd (some none)
all_asked number some (inr best) = rw best refl

-- boxes alone, in no other groups
pub only_boxes : (c : RpCollection) (boxes : List RpBox) → c.boxes.now ≡ boxes → c.members.now ≡ [] → all_boxes c ≡ boxes
only_boxes c boxes is none =
    ap (λ ms. c.boxes.now ++ map (member_box c.boxes.now) ms) none ∙ append-nil c.boxes.now ∙ is

-- have no fault but in their number
pub only_lengths : (c : RpCollection) (places : ℕ) → c.members.now ≡ [] → c.exclusions.now ≡ [] → (fault_of c 0 places ≡ 0) ⊎ (fault_of c 0 places ≡ 3)
only_lengths c places none pairs = rw (none, pairs) (by (not ((places == length c.boxes.now + 0) && nat_lt places (2 ^ 32))))
  where
    by : (t : Bool) → let status : ℕ = cond t 3 0 in (status ≡ 0) ⊎ (status ≡ 3)
    by true = inr refl
    by false = inl refl

-- where there are no boxes there are no members
pub no_boxes : (c : RpCollection) → All (λ m. m.index < length c.boxes.now) c.members.now → length c.boxes.now ≡ 0 → all_boxes c ≡ []
no_boxes c known none = by c.boxes.now c.members.now none known
  where
    by : (boxes : List RpBox) (members : List RpMember) → length boxes ≡ 0 → All (λ m. m.index < length boxes) members
        → boxes ++ map (member_box boxes) members ≡ []
    by [] [] e h = refl
    by [] (m ∷ ms) e h = absurd (omega (arith, All-head (λ (m : RpMember). m.index < 0) m ms h))
    by (b ∷ bs) ms e h = absurd (omega (arith, e))
