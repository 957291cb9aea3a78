-- Maps and collections that agree, where equal is what the order of the keys says.
use Rattle.std.specs.Prelude.{◌≡◌, List}
use Rattle.std.specs.List.{AllZip}
use Rattle.std.specs.declared.cmp.Ordering.{Ordering}
use Rattle.std.specs.declared.cmp.Ordering.TheVariants.{Equal}
use Rattle.rectangle_pack_sections.specs.declared.group.Group.{Group}
use Rattle.rectangle_pack_sections.specs.Exclusions.{are_excluded}
use Rattle.rectangle_pack_sections.specs.Groups.{Collection}

-- two lists of entries of one length; at each place the two keys are equal, by their order, and the two values are
-- alike
abbrev pub AreMapsAlike : {K X : Type 0} → (K → K → Ordering) → (X → X → Type 0) → List (K × X) → List (K × X) → Type 0
AreMapsAlike cmp Alike xs ys = AllZip (λ x y. (cmp x.0 y.0 ≡ Equal) × Alike x.1 y.1) xs ys

-- equal ids with the same sizes, equal groups whose lists have equal ids, in order, and the same pairs that are
-- excluded
pub record AreCollectionsAlike {Id G : Type 0} (group_cmp : Group G Id → Group G Id → Ordering)
    (cmp : Id → Id → Ordering) (one other : Collection Id G) : Type 0 where
  pub sizes : AreMapsAlike cmp (λ a b. a ≡ b) one.sizes other.sizes
  pub groups : AreMapsAlike group_cmp (λ a b. AllZip (λ x y. cmp x y ≡ Equal) a b) one.groups other.groups
  pub excluded : (a b : Group G Id) → are_excluded group_cmp one.partners a b ≡ are_excluded group_cmp other.partners a b
