-- What a session keeps of a packing of what fits, and what is promised of it.
use Rattle.rectangle_pack_sections.proofs.Std.{◌≡◌, ℕ, ◌+◌, ◌<◌, ◌≤◌, ◌^◌, true, List, [], ◌∷◌, ◌++◌, refl, ap, sym, subst, arith, length, length-append, length-map, map, append-nil, nil_from_length}
use Rattle.rectangle_pack_sections.proofs.Std.{All, All-weaker, Vec, Bor, Result, Ok, Err, IsErrAnd, Ordering, IsTotalOrder, IsPermutation, IsPermutation-sym, IsPermutation-trans, IsPermutation-map}
use Rattle.rectangle_pack_sections.proofs.Std.{length_permutation, keys_of}
use Rattle.rectangle_pack_sections.specs.declared.group.Group.{Group}
use Rattle.rectangle_pack_sections.specs.Groups.{Collection, entries_of}
use Rattle.rectangle_pack_sections.specs.Bins.{Bin}
use Rattle.rectangle_pack_sections.proofs.lemmas.util.Zips.{AllZip-equal}
use Rattle.rectangle_pack_packing.specs.declared.answer.Fitted.{Fitted}
use Rattle.rectangle_pack_packing.specs.declared.answer.Placement.{Placement}
use Rattle.rectangle_pack_packing.specs.Fitting.{PackingFits, names_left}
use Rattle.rectangle_pack_packing.specs.Packing.{Rules, Stage, AreKeptApart, at_start, excludes_by}
use Rattle.rectangle_pack_packing.specs.Placed.{ArePlacedWhole}
use Rattle.rectangle_pack_packing.proofs.lemmas.packing.Excluded.{apart-reverse, excludes-alike}
use Rattle.rectangle_pack_packing.proofs.lemmas.packing.Groups.{PackingDone-none}
use Rattle.rectangle_pack_packing.proofs.lemmas.packing.Left.{IsLeftAt, left_at}
use Rattle.rectangle_pack_packing.proofs.lemmas.packing.Orders.{names-zip}
use Rattle.rectangle_pack_packing.proofs.lemmas.packing.Refused.{none_takes}
use Rattle.rectangle_pack_packing.proofs.lemmas.packing.Taken.{some_placed, taken-all, taken_apart, taken_whole}
use Rattle.rectangle_pack_packing.proofs.lemmas.packing.Whole.{known}
use Rattle.rectangle_pack.specs.declared.session.command.Outstanding.{Outstanding}
use Rattle.rectangle_pack.specs.declared.session.command.Packed.{Packed as PackedNumbers}
use Rattle.rectangle_pack.specs.declared.session.command.SessionError.{SessionError}
use Rattle.rectangle_pack.specs.declared.session.command.SessionError.TheVariants.{OutOfMemory}
use Rattle.rectangle_pack.specs.Session.{State, IsSession, numbered}
use Rattle.rectangle_pack.specs.SessionFitting.{IsFittingKept, PacksFitting, IsTakenNowhere, PlacesWhatFits, FitsAsPromised}
use Rattle.rectangle_pack.proofs.lemmas.session.Keeps.{IsSession-packed}
use Rattle.rectangle_pack.proofs.lemmas.session.Packing.{state, unchanged}
use Rattle.rectangle_pack.proofs.lemmas.session.Transitions.{memory_refused}

-- a list that is not empty has an element
pub not_empty : {X : Type 0} (xs : List X) → (xs ≡ [] → ⊥) → 0 < length xs
not_empty [] some = absurd (some refl)
not_empty (x ∷ xs) some = omega arith

module _ {Id B G : Type 0} (group_cmp : Group G Id → Group G Id → Ordering) (rules : Rules Id B) (all : Collection Id G) where
  -- a session stays one where what fits is placed, and the placements stand behind the outstanding ones
  pub IsSession-fits : IsTotalOrder rules.bin_cmp → (bins now : List (B × Bin)) (placements : List (Placement Id B)) (left : List (Group G Id))
      (outstanding later : List (Outstanding Id B)) (first next : ℕ)
      → PackingFits group_cmp rules all bins placements left now → later ≡ outstanding ++ numbered first placements → next ≡ first + length placements
      → IsSession rules.bin_cmp (state bins outstanding first) → IsSession rules.bin_cmp (state now later next)
  IsSession-fits o bins now placements left outstanding later first next fits added counted h =
      let excludes = excludes_by group_cmp rules.bin_cmp all.partners in
      let order = map (λ (e : ℕ × B). e.1) fits.bin_order in
      let last : Stage (Group G Id) B = record { bins = now; homes = fits.homes } in
      let some = some_placed rules excludes order fits.groups (at_start bins) placements left last fits.tests fits.taken in
      rw (added, counted) (IsSession-packed rules o excludes order some.kept (at_start bins) last placements some.tests outstanding first some.placed h)

  -- without groups all fits, and nothing is changed
  pub PacksFitting-nothing : {A : Type 0} (bins : List (B × Bin)) (outstanding : List (Outstanding Id B)) (first : ℕ) (left : Vec (Bor (Group G Id)) A)
      (old : State Id B) → state bins outstanding first ≡ old → first + entries_of all < 2 ^ 64 → all.groups ≡ [] → left.items ≡ []
      → PacksFitting group_cmp rules all old (Ok (record { packed = record { first = first; count = 0 }; left = left })) old
  PacksFitting-nothing bins outstanding first left old is fits none empty =
      let done = (PackingDone-none group_cmp rules all bins [] none refl).0 in
      let excludes = excludes_by group_cmp rules.bin_cmp all.partners in
      let last : Stage (Group G Id) B = record { bins = bins; homes = done.homes } in
      rw (← is, empty) (
        fits,
        record {
          placements = [];
          fits = record {
            group_order = done.group_order;
            bin_order = done.bin_order;
            groups = done.groups;
            by_groups = done.by_groups;
            by_bins = done.by_bins;
            listed = done.listed;
            homes = done.homes;
            tests = done.tests;
            taken = taken-all rules excludes _ done.groups (at_start bins) [] last done.tests done.placed;
          };
          first = refl;
          count = refl;
          outstanding = sym (append-nil outstanding);
          next = omega arith;
        },
      )

  -- the same, of a packing that was tried
  pub IsSession-tried : {A : Type 0} → IsTotalOrder rules.bin_cmp → (bins now : List (B × Bin)) (fitted : Fitted (Vec (Placement Id B) A) (Group G Id) A)
      (outstanding later : List (Outstanding Id B)) (first next : ℕ)
      → (packed : List (B × Bin)) × PackingFits group_cmp rules all bins fitted.packed.items (names_left fitted.left) packed
      × (length fitted.packed.items ≤ entries_of all) × (true ≡ true → now ≡ packed)
      → later ≡ outstanding ++ numbered first fitted.packed.items → next ≡ first + length fitted.packed.items
      → IsSession rules.bin_cmp (state bins outstanding first) → IsSession rules.bin_cmp (state now later next)
  IsSession-tried o bins now fitted outstanding later first next (packed, fits, few, same) added counted h =
      IsSession-fits o bins now fitted.packed.items (names_left fitted.left) outstanding later first next (rw (same refl) fits) added counted h

  -- where memory is refused while it is tried, all is as it was
  pub fitting-stopped : {A : Type 0} (bins now : List (B × Bin)) (outstanding later : List (Outstanding Id B)) (first : ℕ) → now ≡ bins → later ≡ outstanding
      → (old : State Id B) → state bins outstanding first ≡ old → first + entries_of all < 2 ^ 64 → (all.groups ≡ [] → ⊥)
      → (result : Result (Fitted PackedNumbers (Group G Id) A) SessionError) → IsErrAnd result (λ e. e ≡ OutOfMemory)
      → PacksFitting group_cmp rules all old result (state now later first)
  fitting-stopped bins now outstanding later first same_bins same old is fits some result failed = rw (memory_refused result failed) (
    subst (λ (s : State Id B). s.next + entries_of all < 2 ^ 64) is fits,
    not_empty all.groups some,
    unchanged bins now outstanding later first same_bins same old is,
  )

  module _ (o : IsTotalOrder rules.bin_cmp) where
    -- no bin takes a group that is left, at its turn
    pub left_nowhere : (old new : List (B × Bin)) (placements : List (Placement Id B)) (left : List (Group G Id))
        (fits : PackingFits group_cmp rules all old placements left new) → All (IsTakenNowhere group_cmp rules fits) left
    left_nowhere old new placements left fits =
        let excludes = excludes_by group_cmp rules.bin_cmp all.partners in
        let order = map (λ (e : ℕ × B). e.1) fits.bin_order in
        let last : Stage (Group G Id) B = record { bins = new; homes = fits.homes } in
        All-weaker (IsLeftAt rules excludes order fits.groups (at_start old) last) (IsTakenNowhere group_cmp rules fits) (λ group at.
        let some = some_placed rules excludes order at.before (at_start old) at.placements at.passed at.turn at.tests at.taken in
        let many : 0 < length fits.groups = omega (arith, ap length at.groups_are, length-append at.before ((group, at.members) ∷ at.after)) in
        record {
          before = at.before;
          members = at.members;
          after = at.after;
          groups_are = at.groups_are;
          placed = at.placements;
          passed = at.passed;
          turn = at.turn;
          tests = at.tests;
          taken = at.taken;
          each = none_takes rules o excludes fits.bin_order (at_start old) at.turn some.kept at.placements some.tests (excludes at.turn.homes group)
              at.members at.count (excludes-alike group_cmp o all.partners at.turn.homes group) (fits.by_bins many) some.placed at.refused;
        }) left (left_at rules excludes order fits.groups (at_start old) placements left last fits.tests fits.taken)

    -- what fits is placed whole, and apart, and the rest is left
    pub fits_parts : (old new : List (B × Bin)) (placements : List (Placement Id B)) (left : List (Group G Id))
        → PackingFits group_cmp rules all old placements left new
        → (homes : List (Group G Id × B)) × IsPermutation (keys_of all.groups) (map (λ home. home.0) homes ++ left)
        × ArePlacedWhole rules.id_cmp rules.bin_cmp group_cmp all.sizes all.groups homes placements
        × AreKeptApart group_cmp rules.bin_cmp all.partners homes
    fits_parts old new placements left fits =
        let excludes = excludes_by group_cmp rules.bin_cmp all.partners in
        let order = map (λ (e : ℕ × B). e.1) fits.bin_order in
        let last : Stage (Group G Id) B = record { bins = new; homes = fits.homes } in
        let name : ℕ × Group G Id → Group G Id = λ e. e.1 in
        let some = taken_whole rules excludes group_cmp all.sizes all.groups order fits.groups (at_start old) placements left last fits.tests
        (known rules group_cmp all.sizes all.groups fits.group_order fits.groups fits.listed.each) fits.taken in
        let listed : map (λ g. g.0) fits.groups ≡ map name fits.group_order =
        AllZip-equal _ name (λ g. g.0) (λ e g r. r.0) fits.group_order fits.groups fits.listed.each in
        let by = fits.by_groups in
        let parted : IsPermutation (map (λ g. g.0) some.kept ++ left) (map name fits.group_order) = rw listed at some.names in
        let apart = taken_apart group_cmp rules all.partners order fits.groups (at_start old) placements left last fits.tests fits.taken
        (λ i j d lt within. absurd (omega arith)) in (
          some.adds.added,
          rw (some.adds.names, ← names-zip name _ all.groups by.unsorted by.each)
              (IsPermutation-trans _ (map name fits.group_order) _ (IsPermutation-map name by.unsorted fits.group_order by.permutation)
              (IsPermutation-sym _ _ parted)),
          some.adds.whole,
          subst (λ homes. AreKeptApart group_cmp rules.bin_cmp all.partners homes) some.adds.homes
              (apart-reverse group_cmp rules all.partners o fits.homes apart),
        )

    fits_whole : (old new : State Id B) (numbers : PackedNumbers) (left : List (Group G Id)) → IsFittingKept group_cmp rules all old numbers left new
        → PlacesWhatFits group_cmp rules all old left new
    fits_whole old new numbers left kept =
        let parts = fits_parts old.bins new.bins kept.placements left kept.fits in
        record {
          placements = kept.placements;
          outstanding = kept.outstanding;
          homes = parts.0;
          groups = parts.1;
          whole = parts.2;
          apart = parts.3;
          fits = kept.fits;
          nowhere = left_nowhere old.bins new.bins kept.placements left kept.fits;
        }

    -- what is answered is as promised
    pub fits_promised : {A : Type 0} (old : State Id B) (result : Result (Fitted PackedNumbers (Group G Id) A) SessionError) (new : State Id B)
        → PacksFitting group_cmp rules all old result new → FitsAsPromised group_cmp rules all old result new
    fits_promised old (Ok fitted) new h = fits_whole old new fitted.packed (names_left fitted.left) h.1
    fits_promised old (Err error) new h = tt

    -- without groups nothing is placed, and none is left
    pub nothing_fits : all.groups ≡ [] → (old new : List (B × Bin)) (placements : List (Placement Id B)) (left : List (Group G Id))
        → PackingFits group_cmp rules all old placements left new → (placements ≡ []) × (left ≡ [])
    nothing_fits none old new placements left fits =
        let parts = fits_parts old new placements left fits in
        let homes = parts.0 in
        let long = length_permutation _ _ parts.1 in
        let names : List (Group G Id) = map (λ home. home.0) homes in
        let no_keys : length (keys_of all.groups) ≡ 0 = ap (λ gs. length (keys_of gs)) none in
        let few : length (names ++ left) ≡ length names + length left = length-append names left in
        let same : length names ≡ length homes = length-map homes (λ (home : Group G Id × B). home.0) in
        let no_left : length left ≡ 0 = omega arith in
        let no_home : homes ≡ [] = nil_from_length homes (omega arith) in
        (nothing_placed homes no_home placements parts.2, nil_from_length left no_left)
      where
        nothing_placed : (homes : List (Group G Id × B)) → homes ≡ [] → (placements : List (Placement Id B))
            → ArePlacedWhole rules.id_cmp rules.bin_cmp group_cmp all.sizes all.groups homes placements → placements ≡ []
        nothing_placed [] none placements whole = whole
        nothing_placed (home ∷ homes) none placements whole = absurd (omega (arith, ap length none))
