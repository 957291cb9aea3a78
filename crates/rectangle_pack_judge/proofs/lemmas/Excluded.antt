-- The groups that are excluded with a group.
use Rattle.rectangle_pack_sections.proofs.Std.{ℕ, ◌≡◌, ◌==◌, ◌&&◌, ◌∙◌, Bool, true, false, not, List, [], ◌∷◌, refl}
use Rattle.rectangle_pack_sections.proofs.Std.{nat_cmp, list_any}
use Rattle.std.specs.BTreeSet.{BTreeSet, contains}
use Rattle.rectangle_pack_judge.specs.declared.case.Case.{Case}
use Rattle.rectangle_pack_judge.specs.Judging.{are_these}
use Rattle.rectangle_pack_judge.specs.private.Apart.{AreExcludedWith, is_other}

-- a test of each, and one of all beside it
any_both : {X : Type 0} (b : Bool) (test : X → Bool) (xs : List X) → list_any (λ x. b && test x) xs ≡ b && list_any test xs
any_both true test xs = refl
any_both false test [] = refl
any_both false test (x ∷ xs) = any_both false test xs

module _ (group : ℕ) where
  -- the groups that these pairs say
  abbrev pub AreOthers : List (ℕ × ℕ) → BTreeSet ℕ → Type 0
  AreOthers pairs groups = (n : ℕ) → contains nat_cmp groups n ≡ list_any (λ p. is_other p group n) pairs

  pub AreExcludedWith-all : (case : Case) (groups : BTreeSet ℕ) → AreOthers case.excluded.now groups → AreExcludedWith case group groups
  AreExcludedWith-all case groups h n = h n ∙ any_both (not (n == group)) (λ p. are_these p n group) case.excluded.now
