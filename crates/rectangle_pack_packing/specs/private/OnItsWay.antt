-- A packing on its way: what is seen of it, and what the methods say that try its groups.
use Rattle.std.specs.Prelude.{◌≡◌, ℕ, ◌+◌, ◌≤◌, Bool, true, false, List, [], ◌++◌, length, map, Option, Some, None, Result, Ok, Err}
use Rattle.std.specs.declared.cmp.Ordering.{Ordering}
use Rattle.std.specs.Borrow.{Bor}
use Rattle.rectangle_pack_sections.specs.declared.group.Group.{Group}
use Rattle.rectangle_pack_sections.specs.Bins.{Bin}
use Rattle.rectangle_pack_sections.specs.Groups.{Collection, entries_of}
use Rattle.rectangle_pack_lists.specs.Numbers.{saturated}
use Rattle.rectangle_pack_packing.specs.declared.answer.Placement.{Placement}
use Rattle.rectangle_pack_packing.specs.Packing.{Rules, Members, at_start, IsPlaced, IsRefused, StopsAfter, PackingDone, PackingRefused}
use Rattle.rectangle_pack_packing.specs.PackAnswers.{AreCounted}
use Rattle.rectangle_pack_packing.specs.Fitting.{AreTaken, PackingFits}
use Rattle.rectangle_pack_packing.specs.declared.pack.packing.OnRefusal.{OnRefusal}
use Rattle.rectangle_pack_packing.specs.declared.pack.packing.OnRefusal.TheVariants.{Stop, Leave}
use Rattle.rectangle_pack_packing.specs.private.BinsAtWork.{BinsInUse}

-- what is seen of a packing on its way: its bins, the policy it goes by, what it placed so far, and how many fit tests
-- it made
pub record OnItsWay (Id B R : Type 0) : Type 0 where
  pub bins : BinsInUse B
  pub policy : R
  pub placements : List (Placement Id B)
  pub tests : ℕ

-- what it needs: clones of ids and of bin ids equal their originals, and the policy may be asked
pub record MayGoOn (IdsEqual BinIdsEqual IsCallable : Type 0) : Type 0 where
  pub ids : IdsEqual
  pub bin_ids : BinIdsEqual
  pub callable : IsCallable

module _ {Id B R : Type 0} where
  -- the ids of its bins, in the order in which they are tried
  abbrev pub names_of : OnItsWay Id B R → List B
  names_of packing = map (λ o. o.1) packing.bins.order

  -- it has placed nothing and made no test
  pub record IsBegun (packing : OnItsWay Id B R) : Type 0 where
    pub placements : packing.placements ≡ []
    pub tests : packing.tests ≡ 0

  -- the bins of the start, their order and the policy are the same
  pub record IsSamePacking (old new : OnItsWay Id B R) : Type 0 where
    pub start : new.bins.start ≡ old.bins.start
    pub order : new.bins.order ≡ old.bins.order
    pub policy : new.policy ≡ old.policy

  -- these placements are added, and so many tests
  pub record GoesOn (old new : OnItsWay Id B R) (added : List (Placement Id B)) (more : ℕ) : Type 0 where
    pub placements : new.placements ≡ old.placements ++ added
    pub tests : new.tests ≡ saturated (old.tests + more)

  module _ (rules : Rules Id B) where
    -- a group is tried in the bins of a packing, but for those that are excluded. Some bin: it is placed there. None: it
    -- is refused. Where memory is refused, nothing is said
    abbrev pub IsGroupTried : {E : Type 0} → (B → Bool) → Members Id → OnItsWay Id B R → Result (Option (Bor B)) E → OnItsWay Id B R → Type 0
    IsGroupTried excluded group old (Ok (Some here)) new =
        (added : List (Placement Id B)) × (tests : ℕ) × (placed : IsPlaced rules excluded (names_of old) group old.bins.now added new.bins.now tests)
        × (placed.here ≡ here.now) × GoesOn old new added tests
    IsGroupTried excluded group old (Ok None) new =
        (tests : ℕ) × IsRefused rules excluded (names_of old) group old.bins.now tests × (new.bins.now ≡ old.bins.now) × GoesOn old new [] tests
    IsGroupTried excluded group old (Err error) new = Unit {0}

    -- groups are tried one after another, in a packing that had none before. True: each is placed or left (`AreTaken`),
    -- and `left` names those that are left. False: it stops after some of them (`StopsAfter`)
    abbrev pub AreGroupsTried : {E K : Type 0} → (List (K × B) → K → B → Bool) → List (K × Members Id) → OnItsWay Id B R → List K → Result Bool E
        → OnItsWay Id B R → Type 0
    AreGroupsTried {K = K} excludes groups old left (Ok true) new =
        (homes : List (K × B)) × (tests : ℕ)
        × AreTaken rules excludes (names_of old) groups (at_start old.bins.now) new.placements left (record { bins = new.bins.now; homes = homes }) tests
        × (new.tests ≡ saturated tests)
    AreGroupsTried excludes groups old left (Ok false) new =
        (tests : ℕ) × StopsAfter rules excludes (names_of old) groups old.bins.now new.bins.now tests × (new.tests ≡ saturated tests)
    AreGroupsTried excludes groups old left (Err error) new = Unit {0}

    -- all groups of a collection are tried in a packing that began with these bins, where a group that no bin takes ends
    -- it. True: it is done, with a placement for each entry, and with its fit tests (`AreCounted`). False: it is refused,
    -- with its fit tests
    abbrev pub IsPackingTried : {E G : Type 0} → (Group G Id → Group G Id → Ordering) → Collection Id G → List (B × Bin) → Result Bool E → OnItsWay Id B R → Type 0
    IsPackingTried group_cmp all old (Ok true) new =
        (done : PackingDone group_cmp rules all old new.placements new.bins.now) × AreCounted all old done.tests 0 new.tests
        × (length new.placements ≡ entries_of all)
    IsPackingTried group_cmp all old (Ok false) new =
        (refused : PackingRefused group_cmp rules all old new.bins.now) × AreCounted all old refused.tests 0 new.tests
    IsPackingTried group_cmp all old (Err error) new = Unit {0}

    -- all groups of a collection are tried in a packing that began with these bins, where a group that no bin takes is
    -- left: what fits is placed (`PackingFits`), and no more than one placement is made for each entry
    abbrev pub IsFittingTried : {E G : Type 0} → (Group G Id → Group G Id → Ordering) → Collection Id G → List (B × Bin) → List (Group G Id) → Result Bool E
        → OnItsWay Id B R → Type 0
    IsFittingTried group_cmp all old left (Ok done) new =
        (done ≡ true) × PackingFits group_cmp rules all old new.placements left new.bins.now × (length new.placements ≤ entries_of all)
    IsFittingTried group_cmp all old left (Err error) new = Unit {0}

    -- what `IsPackingTried` says where a group that no bin takes ends the packing, and `IsFittingTried` where it is left
    abbrev pub AreAllTried : {E G : Type 0} → (Group G Id → Group G Id → Ordering) → Collection Id G → List (B × Bin) → OnRefusal → List (Group G Id)
        → Result Bool E → OnItsWay Id B R → Type 0
    AreAllTried group_cmp all old Stop left result new = IsPackingTried group_cmp all old result new
    AreAllTried group_cmp all old Leave left result new = IsFittingTried group_cmp all old left result new
