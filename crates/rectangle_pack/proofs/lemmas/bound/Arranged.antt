-- A packing that is done is an arrangement of its collection.
use Rattle.rectangle_pack_sections.proofs.Std.{◌≡◌, ◌≤◌, ℕ, List, [], ◌∷◌, ◌++◌, get_or, get_or_default, refl, sym, subst, arith, Bool, true, false, map, reverse, unwrap_or, All}
use Rattle.rectangle_pack_sections.proofs.Std.{All-head, All-tail, All-weaker, AllPairs-cons}
use Rattle.rectangle_pack_sections.proofs.Std.{Contains, Ordering, IsTotalOrder, lookup, is_at, keys_of, eq_by_cmp, IsDistinct, IsPermutation, Some}
use Rattle.rectangle_pack_sections.specs.declared.group.Group.{Group}
use Rattle.rectangle_pack_sections.specs.Boxes.{Size, Cuboid, Cell, IsInside, IsCellOf, AreApart}
use Rattle.rectangle_pack_sections.specs.Bins.{Bin, whole}
use Rattle.rectangle_pack_sections.specs.Counting.{times_filled, AreAllApart}
use Rattle.rectangle_pack_sections.specs.Groups.{Collection}
use Rattle.rectangle_pack_bounds.specs.declared.turning.Turns.{Turns}
use Rattle.rectangle_pack_bounds.specs.Turning.{ways, ways_by}
use Rattle.rectangle_pack_bounds.specs.Arrangements.{Put}
use Rattle.rectangle_pack_packing.specs.declared.answer.Placement.{Placement}
use Rattle.rectangle_pack_packing.specs.Packing.{Rules, AreKeptApart, at_start, excludes_by}
use Rattle.rectangle_pack_packing.specs.Placed.{ArePlacedWhole}
use Rattle.rectangle_pack_packing.specs.Told.{in_sizes}
use Rattle.rectangle_pack.specs.Needed.{AreArranged, box_of, not_turned, entries}
use Rattle.rectangle_pack.specs.NeededLaws.{AreSound, PackingsAreArrangements, FittingsAreArrangements, KeptPackingsAreArrangements, FewestBinsAreUsed}
use Rattle.rectangle_pack.specs.NeededLaws.{AreWaysOf, ToldPackingsAreArrangements, ToldFewestBinsAreUsed}
use Rattle.rectangle_pack.specs.Session.{State, IsSession, outstanding_in}
use Rattle.rectangle_pack_sections.proofs.lemmas.cuts.Counting.{filled-append, filled-cons, filled_yes, filled_from_some}
use Rattle.rectangle_pack_sections.proofs.lemmas.util.Lists.{All-front}
use Rattle.rectangle_pack_packing.proofs.lemmas.packing.Excluded.{apart-reverse}
use Rattle.rectangle_pack_packing.proofs.lemmas.packing.FittingLaws.{done_is_none_left}
use Rattle.rectangle_pack_packing.proofs.lemmas.packing.Laws.{place_whole, keep_apart}
use Rattle.rectangle_pack_packing.proofs.lemmas.packing.ToldLaws.{tellings_place_whole, tellings_keep_apart}
use Rattle.rectangle_pack.proofs.lemmas.bound.Entries.{entries-moved, names-ordered}
use Rattle.rectangle_pack.proofs.lemmas.bound.InBins.{AreBinsKept, placed_kept, told_kept, placed_inside, placed_apart, puts_inside, puts_apart}
use Rattle.rectangle_pack.proofs.lemmas.bound.Puts.{puts_of}
use Rattle.rectangle_pack.proofs.lemmas.bound.ToldHomes.{homes_listed, homes_name_all, homes_apart}

-- a box may stand as it is, however it may be turned
pub as_it_is : (x y z : Bool) (s : Size) → Contains (ways_by x y z s) s
unfolding ways_by
as_it_is false false false s = (0, omega arith, refl)
as_it_is true false false s = (0, omega arith, refl)
as_it_is false true false s = (0, omega arith, refl)
as_it_is false false true s = (0, omega arith, refl)
as_it_is true true false s = (0, omega arith, refl)
as_it_is true true true s = (0, omega arith, refl)
as_it_is true false true s = (0, omega arith, refl)
as_it_is false true true s = (0, omega arith, refl)

-- its own sizes are ways of a collection
pub own_sizes : {Id G : Type 0} (cmp : Id → Id → Ordering) (all : Collection Id G) (turns : List (Id × Turns)) → AreWaysOf cmp all turns all.sizes
own_sizes cmp all turns id size found =
    let t = unwrap_or (lookup (is_at (cmp id)) turns) not_turned in
    rw found (as_it_is t.about_x t.about_y t.about_z size)

-- groups that are placed whole, all groups and each once, are arranged
module _ {Id B G : Type 0} (group_cmp : Group G Id → Group G Id → Ordering) (cmp : Id → Id → Ordering) (bin_cmp : B → B → Ordering)
    (o : IsTotalOrder group_cmp) (bin_o : IsTotalOrder bin_cmp) (all : Collection Id G) (turns : List (Id × Turns)) (sizes : List (Id × Size))
    (old new : List (B × Bin)) (placements : List (Placement Id B)) where
  whole_arranged : IsDistinct (eq_by_cmp group_cmp) (keys_of all.groups) → AreSound bin_cmp old → AreWaysOf cmp all turns sizes
      → (homes : List (Group G Id × B)) → ArePlacedWhole cmp bin_cmp group_cmp sizes all.groups homes placements
      → IsPermutation (keys_of all.groups) (map (λ home. home.0) homes) → AreKeptApart group_cmp bin_cmp all.partners homes
      → AreBinsKept bin_cmp old placements new → AreArranged group_cmp cmp bin_cmp all turns old placements
  whole_arranged distinct sound ways_are homes whole names apart kept =
      let K : Type 0 = Group G Id in
      let made = puts_of group_cmp cmp bin_cmp o bin_o sizes all.groups all.partners homes placements whole in
      let Sized : Put (K × Id) B → Type 0 = λ put. lookup (is_at (cmp put.of.1)) sizes ≡ Some put.box.whd in
      let OneWay : Put (K × Id) B → Type 0 = λ put. Contains (ways (box_of cmp all.sizes turns put.of.1)) put.box.whd in
      record {
        puts = made.puts;
        same = made.read;
        arrangement = record {
          arranged = record {
            each_once = subst (λ (es : List (K × Id)). IsPermutation (entries all.groups) es) (sym made.entries_are)
                (entries-moved o all.groups (map (λ home. home.0) homes) distinct names);
            one_way = All-weaker Sized OneWay (λ put sized. ways_are put.of.1 put.box.whd sized) made.puts made.sized;
            inside = puts_inside cmp bin_cmp old placements made.puts made.read (placed_inside bin_o old placements new kept sound);
            apart = puts_apart cmp bin_cmp old placements made.puts made.read (placed_apart bin_o old placements new kept sound);
          };
          excluded_apart = made.apart apart;
        };
      }

-- a packing as it is told is an arrangement, where its steps name all groups
module _ {Id B G : Type 0} (group_cmp : Group G Id → Group G Id → Ordering) (cmp : Id → Id → Ordering) (bin_cmp : B → B → Ordering)
    (o : IsTotalOrder group_cmp) (bin_o : IsTotalOrder bin_cmp) where
  pub told_are_arrangements : ToldPackingsAreArrangements group_cmp cmp bin_cmp
  told_are_arrangements all turns sizes steps old new placements distinct sound ways_are named told =
      let packed : Collection Id G = in_sizes all sizes in
      let whole = tellings_place_whole group_cmp cmp bin_cmp in
      let h = homes_listed o cmp bin_cmp sizes all.groups steps placements (whole.whole packed steps old new placements told) in
      whole_arranged group_cmp cmp bin_cmp o bin_o all turns sizes old new placements distinct sound ways_are h.homes h.whole
      (homes_name_all o cmp bin_cmp sizes all.groups steps placements h distinct (whole.once packed steps old new placements told) named)
      (homes_apart o cmp bin_cmp sizes all.groups steps placements h all.partners
      (tellings_keep_apart group_cmp cmp bin_cmp bin_o packed steps old new placements told))
      (told_kept group_cmp cmp bin_cmp packed bin_o steps (at_start old) placements _ told.done)

  -- and uses the fewest bins, where it uses no more than are needed
  pub told_fewest_are_used : ToldFewestBinsAreUsed group_cmp cmp bin_cmp
  told_fewest_are_used all turns sizes steps old new placements least distinct sound ways_are named told needed few = record {
    arranged = told_are_arrangements all turns sizes steps old new placements distinct sound ways_are named told;
    fewest = λ puts arranged. omega (arith, few, needed puts arranged);
  }

module _ {Id B G : Type 0} (group_cmp : Group G Id → Group G Id → Ordering) (rules : Rules Id B) (o : IsTotalOrder group_cmp)
    (bin_o : IsTotalOrder rules.bin_cmp) where
  pub packings_are_arrangements : PackingsAreArrangements group_cmp rules
  packings_are_arrangements all turns old new placements distinct sound done =
      let K : Type 0 = Group G Id in
      let homes : List (K × B) = reverse done.homes in
      let excludes = excludes_by group_cmp rules.bin_cmp all.partners in
      let whole = place_whole group_cmp rules in
      let names : IsPermutation (keys_of all.groups) (map (λ (h : K × B). h.0) homes) =
      subst (λ (ns : List K). IsPermutation (keys_of all.groups) ns) (sym (whole.all_groups all old new placements done))
      (names-ordered group_cmp rules.may.rate rules.id_cmp all.sizes all.groups done.group_order done.by_groups) in
      let order = map (λ (b : ℕ × B). b.1) done.bin_order in
      whole_arranged group_cmp rules.id_cmp rules.bin_cmp o bin_o all turns all.sizes old new placements distinct sound
      (own_sizes rules.id_cmp all turns) homes (whole.whole all old new placements done) names
      (apart-reverse group_cmp rules all.partners bin_o done.homes ((keep_apart group_cmp rules).done all old new placements done))
      (placed_kept rules bin_o excludes order done.groups (at_start old) placements _ done.tests done.placed)

  -- and so is what fits, where none is left
  pub fittings_are_arrangements : FittingsAreArrangements group_cmp rules
  fittings_are_arrangements all turns old new placements distinct sound fits =
      packings_are_arrangements all turns old new placements distinct sound ((done_is_none_left group_cmp rules all old new placements fits.tests).0 (fits, refl)).0

  -- a packing with no more bins than are needed uses the fewest
  pub fewest_are_used : FewestBinsAreUsed group_cmp rules
  fewest_are_used all turns old new placements least distinct sound done needed few = record {
    arranged = packings_are_arrangements all turns old new placements distinct sound done;
    fewest = λ puts arranged. omega (arith, few, needed puts arranged);
  }

-- boxes inside a bin share no cell, where each cell of the bin is filled once at most
apart_within : (size : Size) (free placed : List Cuboid) → All (IsInside size) free
    → ((c : Cell) → IsCellOf c (whole size) → times_filled c (free ++ placed) ≤ 1) → AreAllApart free
apart_within size [] placed inside once = λ i j d before within. absurd (omega arith)
apart_within size (box ∷ free) placed inside once =
    AllPairs-cons AreApart box free
    (λ k d within. record {
      none = λ c first second.
          let here = All-head (IsInside size) box free inside in
          let in_bin : IsCellOf c (whole size) = record {
            from_x = omega arith;
            below_x = omega (arith, here.within_x, first.below_x);
            from_y = omega arith;
            below_y = omega (arith, here.within_y, first.below_y);
            from_z = omega arith;
            below_z = omega (arith, here.within_z, first.below_z);
          } in
          omega (
            arith,
            once c in_bin,
            filled_yes c box (free ++ placed) first,
            filled-append c free placed,
            filled_from_some c free (k, get_or free k d, within, get_or_default free k (get_or free k d) d within, second),
          );
    })
    (apart_within size free placed (All-tail (IsInside size) box free inside)
    (λ c in_bin. omega (arith, once c in_bin, filled-cons c box (free ++ placed))))

-- the bins of a session are sound
sound_session : {Id B : Type 0} (bin_cmp : B → B → Ordering) (state : State Id B) → IsSession bin_cmp state → AreSound bin_cmp state.bins
sound_session bin_cmp state session id bin found =
    let cover = session.covered id bin found in
    let placed = outstanding_in bin_cmp state.outstanding id in
    let inside : All (IsInside bin.size) bin.sections = All-front (IsInside bin.size) bin.sections placed cover.inside in
    record { inside = inside; apart = apart_within bin.size bin.sections placed inside (λ c in_bin. omega (arith, cover.once c in_bin)) }

-- what a session packs and keeps is an arrangement
pub kept_are_arrangements : {Id B G : Type 0} (group_cmp : Group G Id → Group G Id → Ordering) (rules : Rules Id B) → IsTotalOrder group_cmp
    → IsTotalOrder rules.bin_cmp → KeptPackingsAreArrangements group_cmp rules
kept_are_arrangements group_cmp rules o bin_o all turns old new numbers distinct session kept =
    packings_are_arrangements group_cmp rules o bin_o all turns old.bins new.bins kept.placements distinct (sound_session rules.bin_cmp old session) kept.done
