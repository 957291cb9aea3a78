-- A box that is left is held nowhere, as the bins are at the end.
use Rattle.rectangle_pack_sections.proofs.Std.{◌≡◌, ℕ, List, [], ◌∷◌, ◌&&◌, ◌||◌, refl, sym, ◌∙◌, ap, arith, subst, true, false, Bool, Option, Some, None, IsSome, map, All, AllZip}
use Rattle.rectangle_pack_sections.proofs.Std.{Ordering, IsTotalOrder, lookup, keys_of, is_at}
use Rattle.rectangle_pack_sections.specs.Bins.{Bin}
use Rattle.rectangle_pack_sections.specs.Boxes.{Size, Cuboid, Holds, IsPartOf}
use Rattle.rectangle_pack_sections.specs.Exclusions.{are_excluded}
use Rattle.rectangle_pack_packing.specs.declared.answer.Placement.{Placement}
use Rattle.rectangle_pack_packing.specs.Orders.{IsBinOrder}
use Rattle.rectangle_pack_packing.specs.Packing.{Rules, Members, Stage, at_start, excludes_by, AreAllPlaced}
use Rattle.rectangle_pack_sections.proofs.lemmas.util.Lists.{All-front, All-middle}
use Rattle.rectangle_pack_sections.proofs.lemmas.util.Maps.{is_some-keys}
use Rattle.rectangle_pack_packing.proofs.lemmas.packing.Excluded.{excludes-alike}
use Rattle.rectangle_pack_packing.proofs.lemmas.packing.Frame.{IsFrame-passes, KeptBySteps-passes}
use Rattle.rectangle_pack_packing.proofs.lemmas.packing.Left.{IsLeftAt}
use Rattle.rectangle_pack_packing.proofs.lemmas.packing.Refused.{none_takes, none_held}
use Rattle.rectangle_pack_packing.proofs.lemmas.packing.Taken.{some_placed, keys-taken, changed-taken, IsKnown, known-each}
use Rattle.rectangle_pack_packing.proofs.lemmas.packing.Whole.{AreKnown}

-- a box that a section does not hold, no part of it holds
not_held : (size : Size) (b s : Cuboid) → IsPartOf b s → ¬ Holds s size → ¬ Holds b size
not_held size b s part none held = none (record { wide = omega arith; high = omega arith; deep = omega arith })

or_right : (a b : Bool) → (a || b) ≡ false → b ≡ false
or_right true b none = absurd (let e = none in cc)
or_right false b none = none

-- a look-up that finds something
found_some : {X : Type 0} (o : Option X) → IsSome o → (x : X) × (o ≡ Some x)
found_some None some = cc
found_some (Some x) some = (x, refl)

-- the sizes of a list of one id
one_size : {Id : Type 0} (cmp : Id → Id → Ordering) (sizes : List (Id × Size)) (id : Id) (size : Size) (ids : List Id) (ss : List Size) → ids ≡ id ∷ []
    → AllZip (λ id size. lookup (is_at (cmp id)) sizes ≡ Some size) ids ss → lookup (is_at (cmp id)) sizes ≡ Some size → ss ≡ size ∷ []
one_size {Id} cmp sizes id size ids ss one h is = by ss (subst (λ (xs : List Id). AllZip (λ id size. lookup (is_at (cmp id)) sizes ≡ Some size) xs ss) one h)
  where
    by : (ss : List Size) → AllZip (λ id size. lookup (is_at (cmp id)) sizes ≡ Some size) (id ∷ []) ss → ss ≡ size ∷ []
    by [] h = absurd h
    by (s ∷ []) h = (let same : Some s ≡ Some size = sym h.0 ∙ is in cc)
    by (s ∷ t ∷ ss) h = absurd h.1

module _ {Id K B : Type 0} (group_cmp : K → K → Ordering) (rules : Rules Id B) (o : IsTotalOrder rules.bin_cmp) (partners : List (K × List K)) where
  abbrev excludes : List (K × B) → K → B → Bool
  excludes = excludes_by group_cmp rules.bin_cmp partners

  -- a bin that is not excluded at the end was not excluded before
  never_excluded : (order : List B) (gs : List (K × Members Id)) (old : Stage K B) (placements : List (Placement Id B)) (new : Stage K B) (tests : ℕ)
      → AreAllPlaced rules excludes order gs old placements new tests → (name : K) (id : B) → excludes new.homes name id ≡ false
      → excludes old.homes name id ≡ false
  never_excluded order [] old placements new n h name id none = ap (λ (s : Stage K B). excludes s.homes name id) (sym h.1) ∙ none
  never_excluded order (g ∷ gs) old placements new n (first, next, one, later, others, placed, rest, joined, count) name id none =
      or_right (are_excluded group_cmp partners name g.0 && is_at (rules.bin_cmp id) placed.here) (excludes old.homes name id)
      (never_excluded order gs (record { bins = next; homes = (g.0, placed.here) ∷ old.homes }) later new others rest name id none)

  -- a group of one box that is left: no free section of a bin that is not excluded for it at the end holds the box there
  pub held_nowhere_after : (sizes : List (Id × Size)) (lists : List (K × List Id)) (bin_order : List (ℕ × B)) (gs : List (K × Members Id))
      (old : List (B × Bin)) (new : Stage K B) (name : K)
      → IsBinOrder rules.may.rate rules.bin_cmp old bin_order → AreKnown rules group_cmp sizes lists gs
      → IsLeftAt rules excludes (map (λ entry. entry.1) bin_order) gs (at_start old) new name
      → (id : Id) (size : Size) → lookup (is_at (group_cmp name)) lists ≡ Some (id ∷ []) → lookup (is_at (rules.id_cmp id)) sizes ≡ Some size
      → (bin_id : B) (bin : Bin) → excludes new.homes name bin_id ≡ false → lookup (is_at (rules.bin_cmp bin_id)) new.bins ≡ Some bin
      → All (λ s. ¬ Holds s size) bin.sections
  held_nowhere_after sizes lists bin_order gs old new name by_bins known at id size listed sized bin_id bin allowed found =
      let order : List B = map (λ entry. entry.1) bin_order in
      let start : Stage K B = at_start old in
      let Free : Cuboid → Type 0 = λ s. ¬ Holds s size in
      let is_at_bin : B → Bool = is_at (rules.bin_cmp bin_id) in
      let is = All-middle (IsKnown rules excludes group_cmp sizes lists) gs at.before at.after (name, at.members) at.groups_are
      (known-each rules excludes group_cmp sizes lists gs known) in
      let ids : Some at.members.ids ≡ Some (id ∷ []) = sym is.0 ∙ listed in
      let one : at.members.sizes ≡ size ∷ [] = one_size rules.id_cmp sizes id size at.members.ids at.members.sizes (cc) is.1 sized in
      let before = some_placed rules excludes order at.before start at.placements at.passed at.turn at.tests at.taken in
      let after = some_placed rules excludes order at.after at.turn at.later at.others new at.rest_tests at.rest in
      let keys : keys_of new.bins ≡ keys_of at.turn.bins = keys-taken rules excludes order at.after at.turn at.later at.others new at.rest_tests at.rest in
      let first_keys : keys_of at.turn.bins ≡ keys_of old =
      keys-taken rules excludes order at.before start at.placements at.passed at.turn at.tests at.taken in
      let there : IsSome (lookup is_at_bin at.turn.bins) = is_some-keys is_at_bin at.turn.bins new.bins (sym keys) ∙ rw found refl in
      let began : IsSome (lookup is_at_bin old) = is_some-keys is_at_bin old at.turn.bins (sym first_keys) ∙ there in
      let (then, was) = found_some (lookup is_at_bin at.turn.bins) there in
      let free : excludes at.turn.homes name bin_id ≡ false =
      never_excluded order after.kept at.turn at.later new after.tests after.placed name bin_id allowed in
      let passed = none_takes rules o excludes bin_order start at.turn before.kept at.placements before.tests (excludes at.turn.homes name) at.members
      at.count (excludes-alike group_cmp o partners at.turn.homes name) by_bins before.placed at.refused bin_id began in
      let none : All Free then.sections = none_held rules (excludes at.turn.homes name) at.turn.bins at.members size bin_id then one free was passed in
      let changed = changed-taken rules excludes (IsFrame-passes Free) o (KeptBySteps-passes rules.may Free (not_held size)) order at.after at.turn at.later
      at.others new at.rest_tests at.rest bin_id then was in
      let same : Some changed.after ≡ Some bin = sym changed.found ∙ found in
      let end : changed.after ≡ bin = cc in
      rw (← end) (All-front Free changed.after.sections _ (changed.framed none))
