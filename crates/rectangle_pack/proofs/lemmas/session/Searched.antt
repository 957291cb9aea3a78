-- What a session keeps of a packing that is searched for, and what is promised of it.
use Rattle.rectangle_pack_sections.proofs.Std.{◌≡◌, ℕ, ◌+◌, ◌<◌, ◌≤◌, ◌^◌, Bool, false, List, ◌++◌, refl, length, Ok, Err, Ordering, IsTotalOrder}
use Rattle.rectangle_pack_sections.specs.declared.box_size_heuristics.named.Heuristic.{Heuristic}
use Rattle.rectangle_pack_sections.specs.declared.group.Group.{Group}
use Rattle.rectangle_pack_sections.specs.Bins.{Bin}
use Rattle.rectangle_pack_sections.specs.Groups.{Collection, entries_of}
use Rattle.rectangle_pack_bounds.specs.declared.turning.Turns.{Turns}
use Rattle.rectangle_pack_packing.specs.declared.answer.Placement.{Placement}
use Rattle.rectangle_pack_packing.specs.Best.{IsRefusedWith, named_rules}
use Rattle.rectangle_pack_packing.specs.Fitting.{names_left}
use Rattle.rectangle_pack_packing.specs.Packing.{Stage, at_start}
use Rattle.rectangle_pack_packing.specs.Told.{in_sizes}
use Rattle.rectangle_pack_packing.proofs.lemmas.packing.StepsDone.{told_whole, apart_told, named_once}
use Rattle.rectangle_pack.specs.declared.searching.answer.Searched.{Searched}
use Rattle.rectangle_pack.specs.declared.session.command.Outstanding.{Outstanding}
use Rattle.rectangle_pack.specs.declared.session.command.Packed.{Packed as PackedNumbers}
use Rattle.rectangle_pack.specs.declared.session.command.Reply.TheVariants.{Refused}
use Rattle.rectangle_pack.specs.declared.session.command.SessionError.TheVariants.{NotEnoughBinSpace}
use Rattle.rectangle_pack.specs.Promise.{NoBinTakes}
use Rattle.rectangle_pack.specs.Searched.{AreCounted, IsFound}
use Rattle.rectangle_pack.specs.Session.{State, IsSession, numbered}
use Rattle.rectangle_pack.specs.SessionSearched.{IsSearchKept, PacksSearched, PlacesSearched}
use Rattle.rectangle_pack.proofs.lemmas.searching.Entries.{few_placements}
use Rattle.rectangle_pack.proofs.lemmas.session.Packing.{state, unchanged}
use Rattle.rectangle_pack.proofs.lemmas.session.Promise.{packs-promised}
use Rattle.rectangle_pack.proofs.lemmas.session.Told.{IsSession-told}

module _ {Id B G : Type 0} {group_cmp : Group G Id → Group G Id → Ordering} (group_total : IsTotalOrder group_cmp) (cmp : Id → Id → Ordering)
    {bin_cmp : B → B → Ordering} (o : IsTotalOrder bin_cmp) (all : Collection Id G) (turns : List (Id × Turns)) (may_leave : Bool) (costs : List (B × ℕ)) where
  abbrev Found : List (B × Bin) → List (Placement Id B) → List (Group G Id) → List (B × Bin) → Type 0
  Found = IsFound group_cmp cmp bin_cmp all turns may_leave costs

  -- at most as many placements are made as there are entries
  pub found_few : (old new : List (B × Bin)) (placements : List (Placement Id B)) (left : List (Group G Id)) → Found old placements left new
      → length placements ≤ entries_of all
  found_few old new placements left found =
      few_placements group_total cmp bin_cmp (in_sizes all found.sizes) found.steps old new placements found.done

  -- a session stays one
  pub IsSession-found : (bins now : List (B × Bin)) (placements : List (Placement Id B)) (left : List (Group G Id)) (outstanding later : List (Outstanding Id B))
      (first next : ℕ) → Found bins placements left now → later ≡ outstanding ++ numbered first placements → next ≡ first + length placements
      → IsSession bin_cmp (state bins outstanding first) → IsSession bin_cmp (state now later next)
  IsSession-found bins now placements left outstanding later first next found added counted session =
      IsSession-told group_cmp cmp o (in_sizes all found.sizes) found.steps bins now placements outstanding later first next found.done added counted session

  -- what is kept is as promised
  pub kept_promised : {A : Type 0} (old : State Id B) (answer : Searched PackedNumbers (Group G Id) A) (new : State Id B)
      → IsSearchKept group_cmp cmp bin_cmp all turns may_leave costs old answer new
      → PlacesSearched group_cmp cmp bin_cmp all turns may_leave costs old (names_left answer.left) new
  kept_promised old answer new kept =
      let found = kept.done in
      let packed : Collection Id G = in_sizes all found.sizes in
      let last : Stage (Group G Id) B = record { bins = new.bins; homes = found.done.homes } in
      record {
        sizes = found.sizes;
        ways = found.ways;
        steps = found.steps;
        places = record {
          placements = kept.placements;
          outstanding = kept.outstanding;
          whole = told_whole group_cmp cmp bin_cmp packed found.steps (at_start old.bins) kept.placements last found.done.done;
          once = named_once group_cmp cmp bin_cmp packed found.steps (at_start old.bins) kept.placements last found.done.done;
          apart = apart_told group_cmp cmp bin_cmp packed o found.steps old.bins kept.placements last found.done.done;
        };
        not_named = found.not_named;
      }

  -- and where there is not enough space, no bin takes some group, with each heuristic
  pub no_bin_takes : (old : State Id B) → old.next + entries_of all < 2 ^ 64
      → ((h : Heuristic) → IsRefusedWith group_cmp cmp bin_cmp all old.bins h)
      → (h : Heuristic) → NoBinTakes group_cmp (named_rules cmp bin_cmp h) all old.bins
  no_bin_takes old fits refused h =
      packs-promised group_cmp (named_rules cmp bin_cmp h) o all old (Refused NotEnoughBinSpace) old (fits, (refused h).left, (refused h).refused, refl)

  -- what is found is kept, with its placements behind the outstanding ones
  pub searched_kept : {A : Type 0} (bins now : List (B × Bin)) (outstanding later : List (Outstanding Id B)) (first next : ℕ)
      (old : State Id B) → state bins outstanding first ≡ old → first + entries_of all < 2 ^ 64
      → (placements : List (Placement Id B)) (answer : Searched PackedNumbers (Group G Id) A)
      → Found bins placements (names_left answer.left) now
      → AreCounted group_cmp cmp bin_cmp all turns may_leave costs bins placements (names_left answer.left) answer.used answer.least answer.is_optimal
      → answer.packed.first ≡ first → answer.packed.count ≡ length placements
      → later ≡ outstanding ++ numbered first placements → next ≡ first + length placements
      → PacksSearched group_cmp cmp bin_cmp all turns may_leave costs old (Ok answer) (state now later next)
  searched_kept bins now outstanding later first next old is fits placements answer found counted is_first is_count added after =
      rw (← is) (
        fits,
        record {
          placements = placements;
          done = found;
          counted = counted;
          first = is_first;
          count = is_count;
          outstanding = added;
          next = after;
        },
      )

  -- where there is not enough space the state is as it was
  pub searched_refused : (A : Type 0) (bins now : List (B × Bin)) (outstanding later : List (Outstanding Id B)) (first : ℕ) (old : State Id B)
      → state bins outstanding first ≡ old → first + entries_of all < 2 ^ 64 → later ≡ outstanding → may_leave ≡ false
      → ((h : Heuristic) → IsRefusedWith group_cmp cmp bin_cmp all bins h) → now ≡ bins
      → PacksSearched group_cmp cmp bin_cmp all turns may_leave costs {A = A} old (Err NotEnoughBinSpace) (state now later first)
  searched_refused A bins now outstanding later first old is fits same none_may refused same_bins =
      rw (← is) (fits, none_may, refused, unchanged bins now outstanding later first same_bins same (state bins outstanding first) refl)
