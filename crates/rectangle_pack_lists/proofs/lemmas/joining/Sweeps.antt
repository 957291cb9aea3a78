-- A sweep leaves no two sections that share a whole face.
use Rattle.rectangle_pack_sections.proofs.Std.{arith, ℕ, zero, suc, ◌≡◌, ◌≢◌, ◌+◌, ◌-◌, ◌<◌, ◌≤◌, ◌⊎◌, inl, inr, List, length, get_or, refl, subst, sym, ◌∙◌}
use Rattle.rectangle_pack_sections.proofs.Std.{min, length-set, cases_lt, cases_eq, get_or-set_other, get_or_default, get_or-remove_below, get_or-remove_above}
use Rattle.rectangle_pack_sections.proofs.Std.{set}
use Rattle.rectangle_pack_sections.specs.Boxes.{Cuboid}
use Rattle.rectangle_pack_lists.specs.Joining.{ShareNoFace, join, entry, IsNeighbour, IsAlone, IsFirstNeighbour, joined_list, joined_index}
use Rattle.rectangle_pack_lists.specs.Joining.{IsJoined, PastEnd, Alone, Joins, IsSwept, IsSweptBelow}
use Rattle.rectangle_pack_lists.specs.private.Settling.{Settled, Around}
use Rattle.rectangle_pack_lists.proofs.lemmas.joining.Joins.{SharesFace-symmetric, length-joined_list, joined_index-at}

-- where an entry other than the join stood before
entry-joined_list : (sections : List Cuboid) (idx j u : ℕ) → j < length sections → u < length (joined_list sections idx j) → u ≢ joined_index idx j
    → (v : ℕ) × (v < length sections) × (v ≢ idx) × (((u < j) × (v ≡ u)) ⊎ ((j ≤ u) × (v ≡ u + 1))) × (entry (joined_list sections idx j) u ≡ entry sections v)
unfolding joined_list
entry-joined_list sections idx j u within here n =
    let b = join (entry sections idx) (entry sections j) in
    let none : Cuboid = record { x = 0; y = 0; z = 0; whd = record { width = 0; height = 0; depth = 0 } } in
    let short = length-joined_list sections idx j within in
    let long : j < length (set sections idx b) = omega (arith, length-set sections idx b) in
    let at = joined_index-at idx j in
    elim (cases_lt u j) [
      | inl lt ↦
          let ui : u ≢ idx = λ e. omega arith in
          let same = get_or-remove_below (set sections idx b) j none u lt long ∙ get_or-set_other sections idx u b none ui in
          (u, omega arith, ui, inl (lt, refl), same)
      | inr ge ↦
          let ui : u + 1 ≢ idx = λ e. omega arith in
          let same = get_or-remove_above (set sections idx b) j none u ge long ∙ get_or-set_other sections idx (u + 1) b none ui in
          (u + 1, omega arith, ui, inr (ge, refl), same)
    ]

pub Around-joined_list : (sections : List Cuboid) (idx j : ℕ) → j < length sections → Around sections idx → Around (joined_list sections idx j) (joined_index idx j)
unfolding Around
Around-joined_list sections idx j within around u v beyond hu hv uv vi face =
    let at = joined_index-at idx j in
    let r = entry-joined_list sections idx j u within hu (λ e. omega arith) in
    let s = entry-joined_list sections idx j v within hv vi in
    around r.0 s.0 (omega arith) r.1 s.1 (λ e. omega arith) s.2 (rw (r.4, s.4) at face)

pub Settled-from_Around : (sections : List Cuboid) (idx hi : ℕ) → length sections ≤ hi → Around sections idx → IsAlone sections idx 0 hi → Settled sections idx
unfolding Around Settled
Settled-from_Around sections idx hi all around none u v from hu hv uv face = elim (cases_eq u idx) [
  | inl p ↦ none v (record { from = omega arith; below = omega arith; within = hv; other = omega arith; shares = rw p at face })
  | inr n ↦ elim (cases_eq v idx) [
    | inl q ↦
        let back = rw q at (SharesFace-symmetric (entry sections u) (entry sections v) face) in
        none u (record { from = omega arith; below = omega arith; within = hu; other = n; shares = back })
    | inr m ↦ around u v (omega arith) hu hv uv m face
  ]
]

Settled-weaker : (sections : List Cuboid) (k n : ℕ) → k ≤ n → Settled sections k → Settled sections n
unfolding Settled
Settled-weaker sections k n h settled u v from hu hv uv face = settled u v (omega arith) hu hv uv face

pub Settled-past : (sections : List Cuboid) (k : ℕ) → length sections ≤ k → Settled sections k
unfolding Settled
Settled-past sections k h u v from hu hv uv face = omega arith

-- joining at an index over the whole list settles it, where all beyond it are settled
IsJoined-settles : {old new : List Cuboid} {idx lo hi : ℕ} → IsJoined idx lo hi old new → lo ≡ 0 → length old ≤ hi → Around old idx → Settled new idx
IsJoined-settles (PastEnd {old = old} {idx = idx} past) z all around = Settled-past old idx past
IsJoined-settles (Alone {old = old} {idx = idx} {hi = hi} at none) z all around = Settled-from_Around old idx hi all around (rw z at none)
IsJoined-settles (Joins {old = old} {new = new} {idx = idx} {hi = hi} at j first next) z all around =
    let within = first.is_one.within in
    Settled-weaker new (joined_index idx j) idx (omega (arith, joined_index-at idx j))
    (IsJoined-settles next z (omega (arith, length-joined_list old idx j within)) (Around-joined_list old idx j within around))

pub Around-from_Settled : (sections : List Cuboid) (n : ℕ) → Settled sections (suc n) → Around sections n
unfolding Around Settled
Around-from_Settled sections n settled u v beyond hu hv uv vi face = settled u v (omega arith) hu hv uv face

IsSwept-settles : (n : ℕ) (old new : List Cuboid) → IsSweptBelow n old new → Settled old n → Settled new 0
IsSwept-settles zero old new swept settled = rw swept settled
IsSwept-settles (suc n) old new swept settled =
    IsSwept-settles n swept.0 new swept.2 (IsJoined-settles swept.1 refl (omega arith) (Around-from_Settled old n settled))

pub sweep_leaves_no_face : (old new : List Cuboid) → IsSwept old new → ShareNoFace new
unfolding Settled
sweep_leaves_no_face old new swept i j d lt below face =
    let settled = IsSwept-settles (length old) old new swept (Settled-past old (length old) (omega arith)) in
    let a : get_or new i d ≡ entry new i = get_or_default new i d _ (omega arith) in
    let b : get_or new j d ≡ entry new j = get_or_default new j d _ below in
    settled i j (omega arith) (omega arith) below (omega arith) (rw (a, b) at face)

-- the rule leaves one list alone
first_is_one : (sections : List Cuboid) (idx lo hi j k : ℕ) → IsFirstNeighbour sections idx lo hi j → IsFirstNeighbour sections idx lo hi k → j ≡ k
first_is_one sections idx lo hi j k first other = elim (cases_eq j k) [
  | inl same ↦ same
  | inr differ ↦ elim (cases_lt j k) [ inl lt ↦ absurd (other.least j lt first.is_one) | inr ge ↦ absurd (first.least k (omega arith) other.is_one) ]
]

pub IsJoined-one : {old a b : List Cuboid} {idx lo hi : ℕ} → IsJoined idx lo hi old a → IsJoined idx lo hi old b → a ≡ b
IsJoined-one (PastEnd past) (PastEnd also) = refl
IsJoined-one (PastEnd past) (Alone at none) = refl
IsJoined-one (PastEnd past) (Joins at j first next) = absurd (omega arith)
IsJoined-one (Alone at none) (PastEnd past) = refl
IsJoined-one (Alone at none) (Alone here also) = refl
IsJoined-one (Alone at none) (Joins here j first next) = absurd (none j first.is_one)
IsJoined-one (Joins at j first next) (PastEnd past) = absurd (omega arith)
IsJoined-one (Joins at j first next) (Alone here none) = absurd (none j first.is_one)
IsJoined-one (Joins {old = old} {idx = idx} {lo = lo} {hi = hi} at j first next) (Joins {new = b} here k other last) =
    IsJoined-one next (rw (first_is_one old idx lo hi k j other first) at last)

pub IsSwept-one : (n : ℕ) (old a b : List Cuboid) → IsSweptBelow n old a → IsSweptBelow n old b → a ≡ b
IsSwept-one zero old a b p q = p ∙ sym q
IsSwept-one (suc n) old a b p q = IsSwept-one n p.0 a b p.2 (rw (IsJoined-one q.1 p.1) at q.2)

-- an index past the end, an empty range, and a range past the end
pub IsJoined-past_end : (old new : List Cuboid) (idx lo hi : ℕ) → length old ≤ idx → IsJoined idx lo hi old new → new ≡ old
IsJoined-past_end old new idx lo hi past joined = IsJoined-one joined (PastEnd past)

pub IsJoined-empty : (old new : List Cuboid) (idx lo hi : ℕ) → hi ≤ lo → IsJoined idx lo hi old new → new ≡ old
IsJoined-empty old new idx lo hi none joined = elim (cases_lt idx (length old)) [
  | inl at ↦ IsJoined-one joined (Alone at (λ j near. let from = near.from in let below = near.below in omega arith))
  | inr past ↦ IsJoined-one joined (PastEnd past)
]

IsNeighbour-within : (old : List Cuboid) (idx lo hi other j : ℕ) → min hi (length old) ≡ min other (length old)
    → IsNeighbour old idx lo hi j → IsNeighbour old idx lo other j
IsNeighbour-within old idx lo hi other j same near =
    let below = near.below in let within = near.within in
    record { from = near.from; below = omega arith; within = near.within; other = near.other; shares = near.shares }

-- ranges that are one once they are cut to the list leave the same
pub IsJoined-within : {old new : List Cuboid} {idx lo hi : ℕ} (other : ℕ) → min hi (length old) ≡ min other (length old)
    → IsJoined idx lo hi old new → IsJoined idx lo other old new
IsJoined-within other same (PastEnd past) = PastEnd past
IsJoined-within other same (Alone {old = old} {idx = idx} {lo = lo} {hi = hi} at none) =
    Alone at (λ j near. none j (IsNeighbour-within old idx lo other hi j (sym same) near))
IsJoined-within other same (Joins {old = old} {new = new} {idx = idx} {lo = lo} {hi = hi} at j first next) =
    let here : IsFirstNeighbour old idx lo other j = record {
      is_one = IsNeighbour-within old idx lo hi other j same first.is_one;
      least = λ k below near. first.least k below (IsNeighbour-within old idx lo other hi k (sym same) near);
    } in
    Joins at j here (subst (λ n. IsJoined (joined_index idx j) lo (n - 1) (joined_list old idx j) new) same next)
