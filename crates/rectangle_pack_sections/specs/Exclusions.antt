-- Groups that are excluded: pairs that may not share a bin.
use Rattle.std.specs.Prelude.{Bool, ◌&&◌, ◌||◌, List, [], unwrap_or}
use Rattle.std.specs.declared.cmp.Ordering.{Ordering}
use Rattle.std.specs.List.{list_any}
use Rattle.std.specs.Map.{lookup}
use Rattle.std.specs.BTreeMap.{is_at}

-- what is listed at the key; the empty list where the key is not there
abbrev pub listed_at : {K : Type 0} → (K → K → Ordering) → List (K × List K) → K → List K
listed_at cmp partners key = unwrap_or (lookup (is_at (cmp key)) partners) []

-- whether b is among what is listed at a
abbrev pub is_listed : {K : Type 0} → (K → K → Ordering) → List (K × List K) → K → K → Bool
is_listed cmp partners a b = list_any (is_at (cmp b)) (listed_at cmp partners a)

-- whether b is listed at a, or a at b. So it does not matter in which order the two are named
abbrev pub are_excluded : {K : Type 0} → (K → K → Ordering) → List (K × List K) → K → K → Bool
are_excluded cmp partners a b = is_listed cmp partners a b || is_listed cmp partners b a

-- x and y are a and b, in either order
abbrev pub are_these : {K : Type 0} → (K → K → Ordering) → K → K → K → K → Bool
are_these cmp a b x y = (is_at (cmp x) a && is_at (cmp y) b) || (is_at (cmp x) b && is_at (cmp y) a)
