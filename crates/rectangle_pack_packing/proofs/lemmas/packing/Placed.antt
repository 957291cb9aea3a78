-- Where the placements of a packing are, and which bins it knows.
use Rattle.rectangle_pack_sections.proofs.Std.{◌≡◌, ℕ, List, [], ◌∷◌, ◌++◌, refl, ap, ◌∙◌, cond, true, false, Bool, Some, IsSome, map, filter, All, Ordering}
use Rattle.rectangle_pack_sections.proofs.Std.{Equal, IsTotalOrder, is_eq, lookup, keys_of, is_at, keys-set_value, All-nil, All-head, All-tail, All-append}
use Rattle.rectangle_pack_sections.proofs.Std.{All-weaker, filter-append, map-append, append_assoc, IsStrictlySortedBy}
use Rattle.rectangle_pack_packing.specs.declared.answer.Placement.{Placement}
use Rattle.rectangle_pack_sections.specs.Bins.{Bin}
use Rattle.rectangle_pack_packing.specs.KeptBins.{locations_in}
use Rattle.rectangle_pack_sections.specs.Boxes.{Cuboid}
use Rattle.rectangle_pack_packing.specs.Placed.{AreLastPlacements}
use Rattle.rectangle_pack_packing.specs.Packing.{Rules, Members, Stage, IsPlaced, AreAllPlaced}
use Rattle.rectangle_pack_sections.proofs.lemmas.util.Maps.{lookup-equal, lookup-written, is_some-keys}

-- where nothing is placed, no id is found
pub AreLastPlacements-none : {Id B : Type 0} (cmp : Id → Id → Ordering) (bin_cmp : B → B → Ordering) (found : List (Id × (B × Cuboid)))
    → IsStrictlySortedBy cmp (keys_of found) → found ≡ [] → AreLastPlacements cmp bin_cmp [] found
AreLastPlacements-none cmp bin_cmp found ascend none = record { ascend = ascend; each = λ id. rw none (All-nil _) }

-- nor in an answer that has none
pub AreLastPlacements-nothing : {Id B : Type 0} (cmp : Id → Id → Ordering) (bin_cmp : B → B → Ordering) (placements : List (Placement Id B))
    (found made : List (Id × (B × Cuboid))) → IsStrictlySortedBy cmp (keys_of made) → placements ≡ [] → found ≡ made → made ≡ []
    → AreLastPlacements cmp bin_cmp placements found
AreLastPlacements-nothing cmp bin_cmp placements found made ascend none is empty = rw (none, is) (AreLastPlacements-none cmp bin_cmp made ascend empty)

-- one more stands last among those that were added
pub added-more : {X : Type 0} (old added mid new : List X) (x : X) → mid ≡ old ++ added → new ≡ mid ++ x ∷ [] → new ≡ old ++ (added ++ x ∷ [])
added-more old added mid new x so_far pushed = rw (pushed, so_far) (append_assoc old added (x ∷ []))

-- all placements are in the bin that is asked for, or none
pub locations_in-here : {Id B : Type 0} (cmp : B → B → Ordering) (ps : List (Placement Id B)) (q : B) → All (λ p. is_at (cmp p.bin) q ≡ true) ps
    → locations_in cmp ps q ≡ map (λ p. p.location) ps
locations_in-here cmp [] q h = refl
locations_in-here {Id} {B} cmp (p ∷ ps) q h =
    let P : Placement Id B → Type 0 = λ x. is_at (cmp x.bin) q ≡ true in
    rw (All-head P p ps h, locations_in-here cmp ps q (All-tail P p ps h)) refl

pub locations_in-none : {Id B : Type 0} (cmp : B → B → Ordering) (ps : List (Placement Id B)) (q : B)
    → All (λ p. is_at (cmp p.bin) q ≡ false) ps → locations_in cmp ps q ≡ []
locations_in-none cmp [] q h = refl
locations_in-none {Id} {B} cmp (p ∷ ps) q h =
    let P : Placement Id B → Type 0 = λ x. is_at (cmp x.bin) q ≡ false in
    rw (All-head P p ps h, locations_in-none cmp ps q (All-tail P p ps h)) refl

pub locations_in-append : {Id B : Type 0} (cmp : B → B → Ordering) (ps qs : List (Placement Id B)) (q : B)
    → locations_in cmp (ps ++ qs) q ≡ locations_in cmp ps q ++ locations_in cmp qs q
locations_in-append {Id} {B} cmp ps qs q =
    ap (map (λ (p : Placement Id B). p.location)) (filter-append (λ p. is_at (cmp p.bin) q) ps qs)
    ∙ map-append (λ (p : Placement Id B). p.location) (filter (λ p. is_at (cmp p.bin) q) ps) (filter (λ p. is_at (cmp p.bin) q) qs)

module _ {Id B : Type 0} (rules : Rules Id B) where
  -- a look-up after a group is placed
  pub lookup-placed : IsTotalOrder rules.bin_cmp → (excluded : B → Bool) (order : List B) (group : Members Id) (old : List (B × Bin))
      (placements : List (Placement Id B)) (new : List (B × Bin)) (tests : ℕ) → (h : IsPlaced rules excluded order group old placements new tests)
      → (q : B) → lookup (is_at (rules.bin_cmp q)) new ≡ cond (is_eq (rules.bin_cmp h.here q)) (Some (record h.bin { sections = h.last }))
      (lookup (is_at (rules.bin_cmp q)) old)
  lookup-placed o excluded order group old placements new tests h q =
      ap (lookup (is_at (rules.bin_cmp q))) h.new_is ∙ lookup-written o h.here old h.bin (record h.bin { sections = h.last }) q h.found

  module _ {K : Type 0} (excludes : List (K × B) → K → B → Bool) where
    -- no bin comes or goes
    pub keys-placed : (order : List B) (gs : List (K × Members Id)) (old : Stage K B) (placements : List (Placement Id B)) (new : Stage K B) (tests : ℕ)
        → AreAllPlaced rules excludes order gs old placements new tests
        → keys_of new.bins ≡ keys_of old.bins
    keys-placed order [] old placements new n h = ap (λ (s : Stage K B). keys_of s.bins) h.1
    keys-placed order (g ∷ gs) old placements new n (first, next, one, rest, others, placed, later, joined, counted) =
        keys-placed order gs (record { bins = next; homes = (g.0, placed.here) ∷ old.homes }) rest new others later
        ∙ ap keys_of placed.new_is ∙ keys-set_value (is_at (rules.bin_cmp placed.here)) old.bins (record placed.bin { sections = placed.last })

    -- each bin that a placement names is there
    pub known-placed : IsTotalOrder rules.bin_cmp → (order : List B) (gs : List (K × Members Id)) (old : Stage K B) (placements : List (Placement Id B))
        (new : Stage K B) (tests : ℕ) → AreAllPlaced rules excludes order gs old placements new tests
        → All (λ p. IsSome (lookup (is_at (rules.bin_cmp p.bin)) new.bins)) placements
    known-placed o order [] old placements new n h = rw h.0 (All-nil (λ (p : Placement Id B). IsSome (lookup (is_at (rules.bin_cmp p.bin)) new.bins)))
    known-placed o order (g ∷ gs) old placements new n h =
        let (first, next, one, rest, others, placed, later, joined, counted) = h in
        let There : Stage K B → Placement Id B → Type 0 = λ stage p. IsSome (lookup (is_at (rules.bin_cmp p.bin)) stage.bins) in
        rw joined (All-append (There new) first rest
        (All-weaker (λ (p : Placement Id B). rules.bin_cmp placed.here p.bin ≡ Equal) (There new)
        (λ p same. is_some-keys (is_at (rules.bin_cmp p.bin)) new.bins old.bins (keys-placed order (g ∷ gs) old placements new n h)
        ∙ rw (← lookup-equal o placed.here p.bin same old.bins, placed.found) refl) first placed.named.together)
        (known-placed o order gs (record { bins = next; homes = (g.0, placed.here) ∷ old.homes }) rest new others later))
