-- A packing that is done places each group whole in one bin.
use Rattle.rectangle_pack_sections.proofs.Std.{◌≡◌, ℕ, List, [], ◌∷◌, ◌++◌, refl, sym, ◌∙◌, ap, append_assoc, Some, map, reverse, Bool, AllZip, Ordering, Equal}
use Rattle.rectangle_pack_sections.proofs.Std.{lookup, is_at, reverse-append, append-nil}
use Rattle.rectangle_pack_packing.specs.declared.answer.Placement.{Placement}
use Rattle.rectangle_pack_sections.specs.Boxes.{Size}
use Rattle.rectangle_pack_sections.specs.Bins.{Bin}
use Rattle.rectangle_pack_packing.specs.Placed.{ArePlacedIn, ArePlacedWhole}
use Rattle.rectangle_pack_packing.specs.Packing.{Rules, Members, Stage, AreGroups, IsPlaced, AreAllPlaced}
use Rattle.rectangle_pack_packing.proofs.lemmas.packing.Groups.{IsDone-sizes}
use Rattle.rectangle_pack_sections.proofs.lemmas.util.Zips.{AllZip-equal}

entries : {Id B : Type 0} (cmp : Id → Id → Ordering) (sizes : List (Id × Size)) (ids : List Id) (ps : List (Placement Id B)) (ss : List Size)
    → AllZip (λ id p. cmp id p.id ≡ Equal) ids ps
    → AllZip (λ id size. lookup (is_at (cmp id)) sizes ≡ Some size) ids ss → map (λ l. l.whd) (map (λ p. p.location) ps) ≡ ss
    → AllZip (λ id p. (cmp id p.id ≡ Equal) × (lookup (is_at (cmp id)) sizes ≡ Some p.location.whd)) ids ps
entries cmp sizes [] [] ss named sized e = tt
entries cmp sizes [] (p ∷ ps) ss named sized e = absurd named
entries cmp sizes (id ∷ ids) [] ss named sized e = absurd named
entries cmp sizes (id ∷ ids) (p ∷ ps) [] named sized e = absurd sized
entries cmp sizes (id ∷ ids) (p ∷ ps) (s ∷ ss) named sized e =
    let here : p.location.whd ≡ s = cc in
    ((named.0, sized.0 ∙ ap (λ (size : Size). Some size) (sym here)), entries cmp sizes ids ps ss named.1 sized.1 (cc))

-- the groups that an order names have its names
pub names_listed : {Id K : Type 0} (cmp : Id → Id → Ordering) (group_cmp : K → K → Ordering) (sizes : List (Id × Size)) (lists : List (K × List Id))
    (order : List (ℕ × K)) (gs : List (K × Members Id)) → AreGroups cmp group_cmp sizes lists order gs → map (λ g. g.0) gs ≡ map (λ o. o.1) order
names_listed cmp group_cmp sizes lists order gs listed = AllZip-equal _ (λ o. o.1) (λ g. g.0) (λ o g r. r.0) order gs listed.each

-- a group that is placed is so in one bin, each member in its size
pub placed_in : {Id B : Type 0} (rules : Rules Id B) (sizes : List (Id × Size)) (excluded : B → Bool) (order : List B) (group : Members Id)
    (old : List (B × Bin)) (placements : List (Placement Id B)) (new : List (B × Bin)) (tests : ℕ)
    (placed : IsPlaced rules excluded order group old placements new tests)
    → AllZip (λ id size. lookup (is_at (rules.id_cmp id)) sizes ≡ Some size) group.ids group.sizes
    → ArePlacedIn rules.id_cmp rules.bin_cmp sizes group.ids placed.here placements
placed_in rules sizes excluded order group old placements new tests placed known =
    let sized : map (λ l. l.whd) (map (λ p. p.location) placements) ≡ group.sizes =
    ap (map (λ l. l.whd)) placed.named.at ∙ IsDone-sizes rules.may placed.bin.sections group.sizes placed.locations placed.last placed.count placed.done in
    record { each = entries rules.id_cmp sizes group.ids placements group.sizes placed.named.named known sized; together = placed.named.together }

module _ {Id B K : Type 0} (rules : Rules Id B) (group_cmp : K → K → Ordering) (sizes : List (Id × Size)) (lists : List (K × List Id)) where
  abbrev HaveSizes : List Id → List Size → Type 0
  HaveSizes ids ss = AllZip (λ id size. lookup (is_at (rules.id_cmp id)) sizes ≡ Some size) ids ss

  -- the groups are those of the lists, with their sizes
  abbrev pub AreKnown : List (K × Members Id) → Type 0
  AreKnown [] = Unit {0}
  AreKnown (g ∷ gs) = (lookup (is_at (group_cmp g.0)) lists ≡ Some g.1.ids) × HaveSizes g.1.ids g.1.sizes × AreKnown gs

  pub known : (order : List (ℕ × K)) (gs : List (K × Members Id))
      → AllZip (λ o g. (g.0 ≡ o.1) × (lookup (is_at (group_cmp o.1)) lists ≡ Some g.1.ids) × HaveSizes g.1.ids g.1.sizes) order gs
      → AreKnown gs
  known [] [] h = tt
  known [] (g ∷ gs) h = absurd h
  known (o ∷ order) [] h = absurd h
  known (o ∷ order) (g ∷ gs) h = (rw h.0.0 h.0.1, h.0.2, known order gs h.1)

  -- the homes that a part of a packing adds, in the order taken
  pub record AddsHomes (groups : List (K × Members Id)) (placements : List (Placement Id B)) (old new : List (K × B)) : Type 0 where
    pub added : List (K × B)
    pub homes : reverse new ≡ reverse old ++ added
    pub names : map (λ h. h.0) added ≡ map (λ g. g.0) groups
    pub whole : ArePlacedWhole rules.id_cmp rules.bin_cmp group_cmp sizes lists added placements

  pub placed_whole : (excludes : List (K × B) → K → B → Bool) (order : List B) (gs : List (K × Members Id)) (old : Stage K B) (placements : List (Placement Id B))
      (new : Stage K B) (n : ℕ)
      → AreKnown gs → AreAllPlaced rules excludes order gs old placements new n → AddsHomes gs placements old.homes new.homes
  placed_whole excludes order [] old placements new n k h =
      let same : new.homes ≡ old.homes = ap (λ (s : Stage K B). s.homes) h.1 in
      record { added = []; homes = ap reverse same ∙ sym (append-nil (reverse old.homes)); names = refl; whole = h.0 }
  placed_whole excludes order (g ∷ gs) old placements new n k (first, next, one, later, others, placed, rest, joined, count) =
      let home : K × B = (g.0, placed.here) in
      let ih = placed_whole excludes order gs (record { bins = next; homes = home ∷ old.homes }) later new others k.2 rest in
      record {
        added = home ∷ ih.added;
        homes =
            ih.homes
            ∙ ap (λ (hs : List (K × B)). hs ++ ih.added) (reverse-append (home ∷ []) old.homes)
            ∙ append_assoc (reverse old.homes) (home ∷ []) ih.added;
        names = (let e = ih.names in cc);
        whole = (
          g.1.ids,
          first,
          later,
          k.0,
          placed_in rules sizes (excludes old.homes g.0) order g.1 old.bins first next one placed k.1,
          ih.whole,
          joined,
        );
      }

  pub all_whole : (excludes : List (K × B) → K → B → Bool) (names : List (ℕ × K)) (order : List B) (gs : List (K × Members Id)) (old : Stage K B)
      (placements : List (Placement Id B)) (new : Stage K B) (n : ℕ)
      → AreGroups rules.id_cmp group_cmp sizes lists names gs → AreAllPlaced rules excludes order gs old placements new n
      → AddsHomes gs placements old.homes new.homes × (map (λ g. g.0) gs ≡ map (λ o. o.1) names)
  all_whole excludes names order gs old placements new n listed placed = (
    placed_whole excludes order gs old placements new n (known names gs listed.each) placed,
    names_listed rules.id_cmp group_cmp sizes lists names gs listed,
  )
