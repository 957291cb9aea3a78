-- The least slot beside another.
use Rattle.rectangle_pack_sections.proofs.Std.{ℕ, ◌≡◌, ◌≤◌, ◌⊎◌, inl, inr, List, Option, Some, None, IfSome, IsSomeAnd, subst}
use Rattle.rectangle_pack_sections.specs.declared.axis.Axis.{Axis}
use Rattle.rectangle_pack_sections.specs.declared.axis.Axis.TheVariants.{X, Y, Z}
use Rattle.rectangle_pack_sections.specs.Boxes.{Cuboid}
use Rattle.rectangle_pack_lists.specs.declared.corners.Corner.TheVariants.{Near, Far}
use Rattle.rectangle_pack_lists.specs.Joining.{entry}
use Rattle.rectangle_pack_lists.specs.private.Corners.{IsFull, IsBeside, IsLeastBeside, IsAtFace}
use Rattle.rectangle_pack_lists.proofs.lemmas.joining.Corners.{face-on_some}

one_of : (P : ℕ → Type 0) (a b r : Option ℕ) → IfSome r (λ i. (a ≡ Some i) ⊎ (b ≡ Some i)) → IfSome a P → IfSome b P → IfSome r P
one_of P a b None one p q = tt
one_of P a b (Some i) (inl is) p q = subst (λ o. IfSome o P) is p
one_of P a b (Some i) (inr is) p q = subst (λ o. IfSome o P) is q

-- the lesser of two that were found
pub either-beside : (P Q : ℕ → Type 0) (slots : List Cuboid) (slot : ℕ) (a b r : Option ℕ) → IsLeastBeside P slots slot a → IsLeastBeside Q slots slot b
    → IfSome r (λ i. (a ≡ Some i) ⊎ (b ≡ Some i))
    → ((n : ℕ) → IsSomeAnd a (λ i. i ≤ n) → IsSomeAnd r (λ i. i ≤ n)) → ((n : ℕ) → IsSomeAnd b (λ i. i ≤ n) → IsSomeAnd r (λ i. i ≤ n))
    → IsLeastBeside (λ other. P other ⊎ Q other) slots slot r
either-beside P Q slots slot a b r p q one first second = record {
  beside = one_of (IsBeside slots slot) a b r one p.beside q.beside;
  least = λ other near kind. elim kind [ inl k ↦ first other (p.least other near k) | inr k ↦ second other (q.least other near k) ];
}

-- one of the two faces on the axis
abbrev AtFaces : Axis → List Cuboid → ℕ → ℕ → Type 0
AtFaces axis slots slot other = IsAtFace Near axis slots slot other ⊎ IsAtFace Far axis slots slot other

-- the least of those on each axis is the least of all
pub axes-beside : (slots : List Cuboid) (slot : ℕ) (x y z some r : Option ℕ)
    → IsLeastBeside (AtFaces X slots slot) slots slot x → IsLeastBeside (AtFaces Y slots slot) slots slot y → IsLeastBeside (AtFaces Z slots slot) slots slot z
    → IfSome some (λ i. (x ≡ Some i) ⊎ (y ≡ Some i))
    → ((n : ℕ) → IsSomeAnd x (λ i. i ≤ n) → IsSomeAnd some (λ i. i ≤ n)) → ((n : ℕ) → IsSomeAnd y (λ i. i ≤ n) → IsSomeAnd some (λ i. i ≤ n))
    → IfSome r (λ i. (some ≡ Some i) ⊎ (z ≡ Some i))
    → ((n : ℕ) → IsSomeAnd some (λ i. i ≤ n) → IsSomeAnd r (λ i. i ≤ n)) → ((n : ℕ) → IsSomeAnd z (λ i. i ≤ n) → IsSomeAnd r (λ i. i ≤ n))
    → IsLeastBeside (IsFull slots) slots slot r
axes-beside slots slot x y z some r on_x on_y on_z one first second one_r first_r second_r =
    let two = either-beside (AtFaces X slots slot) (AtFaces Y slots slot) slots slot x y some on_x on_y one first second in
    let all = either-beside (λ other. AtFaces X slots slot other ⊎ AtFaces Y slots slot other) (AtFaces Z slots slot) slots slot some z r two on_z one_r first_r second_r in
    record { beside = all.beside; least = λ other near full. all.least other near (face-on_some (entry slots slot) (entry slots other) near.shares) }
