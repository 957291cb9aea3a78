-- How pairs of keys are kept: each of the two is listed at the other.
use Rattle.std.specs.Prelude.{◌≡◌, ◌<◌, All, length, List}
use Rattle.std.specs.declared.cmp.Ordering.{Ordering}
use Rattle.std.specs.Map.{values_of}
use Rattle.rectangle_pack_sections.specs.Exclusions.{is_listed}

-- where one is listed at another, the other is listed at it
abbrev pub AreMutual : {K : Type 0} → (K → K → Ordering) → List (K × List K) → Type 0
AreMutual {K} cmp partners = (a b : K) → is_listed cmp partners a b ≡ is_listed cmp partners b a

-- something is listed at each key
abbrev pub AreNonempty : {K X : Type 0} → List (K × List X) → Type 0
AreNonempty lists = All (λ items. 0 < length items) (values_of lists)
