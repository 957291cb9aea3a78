-- Where placements are alike, the locations by id are.
use Rattle.rectangle_pack_sections.proofs.Std.{◌≡◌, true, false, List, sym, ◌∙◌, ap, subst, All, Option, Some, None, MatchOption, AllZip, Ordering, Equal}
use Rattle.rectangle_pack_sections.proofs.Std.{is_eq, IsTotalOrder, lookup, is_at, All-weaker}
use Rattle.rectangle_pack_sections.specs.Boxes.{Cuboid}
use Rattle.rectangle_pack_packing.specs.declared.answer.Placement.{Placement}
use Rattle.rectangle_pack_packing.specs.Placed.{IsLastOf, AreLastPlacements}
use Rattle.rectangle_pack_packing.specs.Results.{ArePlacementsAlike, AreLocationsAlike}
use Rattle.rectangle_pack_sections.proofs.lemmas.util.Lists.{All-middle}
use Rattle.rectangle_pack_sections.proofs.lemmas.util.Maps.{congr_right}
use Rattle.rectangle_pack_sections.proofs.lemmas.groups.Alike.{AreOptionsAlike, maps_alike}
use Rattle.rectangle_pack_packing.proofs.lemmas.determinism.OneTrial.{split_last}
use Rattle.rectangle_pack_sections.proofs.lemmas.util.Zips.{All-alike, AllZip-back}
use Rattle.rectangle_pack_packing.proofs.lemmas.determinism.OnePacking.{split_alike}

module _ {Id B : Type 0} (cmp : Id → Id → Ordering) (bin_cmp : B → B → Ordering) (id_total : IsTotalOrder cmp) (bin_total : IsTotalOrder bin_cmp)
    (ps qs : List (Placement Id B)) (alike : ArePlacementsAlike cmp bin_cmp ps qs) where
  abbrev S : Placement Id B → Placement Id B → Type 0
  S p q = (cmp p.id q.id ≡ Equal) × (bin_cmp p.bin q.bin ≡ Equal) × (p.location ≡ q.location)

  abbrev Misses : Id → Placement Id B → Type 0
  Misses id p = is_eq (cmp id p.id) ≡ false

  missed : (id : Id) (xs ys : List (Placement Id B)) → AllZip S xs ys → All (Misses id) xs → All (Misses id) ys
  missed id xs ys h all = All-alike S (Misses id) (Misses id) (λ p q s m. ap is_eq (sym (congr_right id_total p.id q.id id s.0)) ∙ m) xs ys h all

  missed_back : (id : Id) (xs ys : List (Placement Id B)) → AllZip S xs ys → All (Misses id) ys → All (Misses id) xs
  missed_back id xs ys h all = All-alike (λ q p. S p q) (Misses id) (Misses id) (λ q p s m. ap is_eq (congr_right id_total p.id q.id id s.0) ∙ m) ys xs
      (AllZip-back S (λ q p. S p q) (λ p q s. s) xs ys h) all

  not_missed : (id : Id) (rs : List (Placement Id B)) (found : B × Cuboid) → IsLastOf cmp bin_cmp rs id found → All (Misses id) rs → ⊥
  not_missed id rs found l none =
      let miss : is_eq (cmp id l.last.id) ≡ false = All-middle (Misses id) rs l.before l.after l.last l.splits none in
      let hit : is_eq (cmp id l.last.id) ≡ true = ap is_eq l.same in
      absurd cc

  -- the last placements of an id are alike
  last_alike : (id : Id) (x y : B × Cuboid) → IsLastOf cmp bin_cmp ps id x → IsLastOf cmp bin_cmp qs id y → (bin_cmp x.0 y.0 ≡ Equal) × (x.1 ≡ y.1)
  last_alike id x y l k =
      let s = split_alike S l.before l.last l.after qs (subst (λ (rs : List (Placement Id B)). AllZip S rs qs) l.splits alike) in
      let Hits : Placement Id B → Type 0 = λ p. cmp id p.id ≡ Equal in
      let not_hit : (rs : List (Placement Id B)) → All (Misses id) rs → All (λ p. ¬ Hits p) rs = λ rs h. All-weaker (Misses id) (λ p. ¬ Hits p)
      (λ p m e. absurd (let hit : is_eq (cmp id p.id) ≡ true = ap is_eq e in cc)) rs h in
      let same = split_last Hits s.front s.at s.back k.before k.last k.after (sym s.splits ∙ k.splits)
      (sym (congr_right id_total l.last.id s.at.id id s.alike.0) ∙ l.same) k.same
      (not_hit s.back (missed id l.after s.back s.after_alike l.later)) (not_hit k.after k.later) in
      let bins : bin_cmp l.last.bin k.last.bin ≡ Equal = subst (λ (p : Placement Id B). bin_cmp l.last.bin p.bin ≡ Equal) same.at s.alike.1 in (
        sym (bin_total.congr l.last.bin x.0 y.0 l.bin) ∙ bin_total.congr l.last.bin k.last.bin y.0 bins ∙ k.bin,
        l.location ∙ s.alike.2 ∙ ap (λ (p : Placement Id B). p.location) same.at ∙ sym k.location,
      )

  pub locations_alike : (xs ys : List (Id × (B × Cuboid))) → AreLastPlacements cmp bin_cmp ps xs → AreLastPlacements cmp bin_cmp qs ys
      → AreLocationsAlike cmp bin_cmp xs ys
  locations_alike xs ys h k = maps_alike cmp id_total (λ a b. (bin_cmp a.0 b.0 ≡ Equal) × (a.1 ≡ b.1)) xs ys h.ascend k.ascend
      (λ id. at id (lookup (is_at (cmp id)) xs) (lookup (is_at (cmp id)) ys) (h.each id) (k.each id))
    where
      at : (id : Id) (u v : Option (B × Cuboid)) → MatchOption u (All (Misses id) ps) (IsLastOf cmp bin_cmp ps id)
          → MatchOption v (All (Misses id) qs) (IsLastOf cmp bin_cmp qs id)
          → AreOptionsAlike (λ a b. (bin_cmp a.0 b.0 ≡ Equal) × (a.1 ≡ b.1)) u v
      at id None None h k = tt
      at id None (Some y) h k = absurd (not_missed id qs y k (missed id ps qs alike h))
      at id (Some x) None h k = absurd (not_missed id ps x h (missed_back id ps qs alike k))
      at id (Some x) (Some y) h k = last_alike id x y h k
