-- What each transition of a session keeps, and how a run goes on.
use Rattle.rectangle_pack_sections.proofs.Std.{◌≡◌, ℕ, ◌+◌, ◌<◌, ◌≤◌, List, [], ◌∷◌, ◌++◌, refl, ap, sym, ◌∙◌, subst, true, arith, length, append-nil, get_or}
use Rattle.rectangle_pack_sections.proofs.Std.{take, Some, None, Result, Ok, Err, Ordering, Equal, IsTotalOrder, IsErrAnd, lookup, set_value, is_at}
use Rattle.rectangle_pack_sections.proofs.Std.{insert_entry, take_all, take_more, keys-set_value, tied_itself}
use Rattle.rectangle_pack.specs.declared.session.command.Outstanding.{Outstanding}
use Rattle.rectangle_pack_sections.specs.declared.group.Group.{Group}
use Rattle.rectangle_pack.specs.declared.session.command.Command.{Command}
use Rattle.rectangle_pack.specs.declared.session.command.Command.TheVariants.{AddBin, Pack, Release, Coalesce, CoalesceAll}
use Rattle.rectangle_pack.specs.declared.session.command.SessionError.{SessionError}
use Rattle.rectangle_pack.specs.declared.session.command.Reply.{Reply}
use Rattle.rectangle_pack.specs.declared.session.command.Reply.TheVariants.{Done, Packed, Refused}
use Rattle.rectangle_pack.specs.declared.session.command.SessionError.TheVariants.{DuplicateBin, UnknownBin, UnknownPlacement, NumbersUsedUp, NotEnoughBinSpace}
use Rattle.rectangle_pack.specs.declared.session.command.SessionError.TheVariants.{OutOfMemory}
use Rattle.rectangle_pack_sections.specs.Boxes.{Size, Cuboid, IsInside}
use Rattle.rectangle_pack_sections.specs.Bins.{Bin, Held, new_bin, bins_of}
use Rattle.rectangle_pack_sections.specs.Groups.{Collection}
use Rattle.rectangle_pack_lists.specs.Joining.{IsJoined, IsSwept}
use Rattle.rectangle_pack_packing.specs.Packing.{Rules}
use Rattle.rectangle_pack.specs.Session.{State, outstanding_in, IsSession, IsOutstanding, GivesBack, AddsBin, Releases, Packs, Coalesces, IsTransition, IsRun}
use Rattle.rectangle_pack_packing.proofs.lemmas.packing.Frame.{IsRecut, IsFrame-recut}
use Rattle.rectangle_pack_lists.proofs.lemmas.joining.Joins.{IsJoined-cells, IsSwept-cells, IsJoined-keeps, IsSwept-keeps, join-inside}
use Rattle.rectangle_pack_bins.proofs.lemmas.bins.Maps.{bins_of-written}
use Rattle.rectangle_pack_sections.proofs.lemmas.util.Maps.{lookup-equal, lookup-inserted}
use Rattle.rectangle_pack.proofs.lemmas.session.Keeps.{Some-bins_of, None-bins_of, bins_of-insert_entry, IsSession-carried, in_session, AreCarried-written, known-kept}
use Rattle.rectangle_pack.proofs.lemmas.session.Keeps.{IsSession-added, IsSession-released, IsSession-done}

-- a bin is added under an id alike under each that equals it
pub AddsBin-equal : {Id B : Type 0} {bin_cmp : B → B → Ordering} → IsTotalOrder bin_cmp → (id other : B) → bin_cmp id other ≡ Equal
    → (size : Size) (old : State Id B) (reply : Reply) (new : State Id B)
    → AddsBin bin_cmp other size old reply new → AddsBin bin_cmp id size old reply new
AddsBin-equal {bin_cmp = cmp} o id other same size old Done new (absent, key, equal, are) =
    (lookup-equal o id other same old.bins ∙ absent, key, o.congr id other key same ∙ equal, are)
AddsBin-equal o id other same size old (Refused DuplicateBin) new h = (rw (lookup-equal o id other same old.bins) h.0, h.1)
AddsBin-equal o id other same size old (Refused OutOfMemory) new h = (lookup-equal o id other same old.bins ∙ h.0, h.1)
AddsBin-equal o id other same size old reply new h = absurd h

-- what holds always holds after each transition, and the next number does not fall
abbrev pub IsKeptSession : {Id B : Type 0} → (B → B → Ordering) → State Id B → State Id B → Type 0
IsKeptSession bin_cmp old new = IsSession bin_cmp old → IsSession bin_cmp new × (old.next ≤ new.next)

unchanged : {Id B : Type 0} (bin_cmp : B → B → Ordering) (old new : State Id B) → new ≡ old → IsKeptSession bin_cmp old new
unchanged bin_cmp old new same h = rw same (h, omega arith)

module _ {Id B : Type 0} {bin_cmp : B → B → Ordering} (o : IsTotalOrder bin_cmp) where
  pub kept-added : (id : B) (size : Size) (old : State Id B) (reply : Reply) (new : State Id B) → AddsBin bin_cmp id size old reply new
      → IsKeptSession bin_cmp old new
  kept-added id size old Done new (absent, key, equal, are) = λ h.
      let none : lookup (is_at (bin_cmp key)) old.bins ≡ None = sym (lookup-equal o id key equal old.bins) ∙ absent in
      rw are (IsSession-added o old.bins _ old.outstanding old.next key size none (lookup-inserted o old.bins key (new_bin size) none) h, omega arith)
  kept-added id size old (Refused DuplicateBin) new a = unchanged bin_cmp old new a.1
  kept-added id size old (Refused OutOfMemory) new a = unchanged bin_cmp old new a.1
  kept-added id size old reply new a = absurd a

  -- a new bin is put into a map: a transition, and a session stays one
  pub added-inserted : (id : B) (size : Size) (old new : List (B × Held)) (v : Held) (outstanding : List (Outstanding Id B)) (next : ℕ)
      → lookup (is_at (bin_cmp id)) old ≡ None → new ≡ insert_entry bin_cmp old id v → v.bin ≡ new_bin size
      → IsSession bin_cmp (record { bins = bins_of old; outstanding = outstanding; next = next })
      → AddsBin bin_cmp id size (record { bins = bins_of old; outstanding = outstanding; next = next }) Done (record {
        bins = bins_of new;
        outstanding = outstanding;
        next = next;
      }) × IsSession bin_cmp (record { bins = bins_of new; outstanding = outstanding; next = next })
  added-inserted id size old new v outstanding next absent inserted fresh h =
      let was : State Id B = record { bins = bins_of old; outstanding = outstanding; next = next } in
      let is : State Id B = record { bins = bins_of new; outstanding = outstanding; next = next } in
      let step : AddsBin bin_cmp id size was Done is = (
        None-bins_of (is_at (bin_cmp id)) old absent,
        id,
        tied_itself o id,
        ap (λ (bs : List (B × Bin)). record { bins = bs; outstanding = outstanding; next = next })
            (ap bins_of inserted ∙ bins_of-insert_entry bin_cmp old id v ∙ ap (insert_entry bin_cmp (bins_of old) id) fresh),
      ) in
      (step, (kept-added id size was Done is step h).0)

  pub kept-released : (number : ℕ) (old : State Id B) (reply : Reply) (new : State Id B) → Releases bin_cmp number old reply new → IsKeptSession bin_cmp old new
  kept-released number old Done new (at, gives, outstanding, next) = λ h.
      let was : IsSession bin_cmp (record { bins = old.bins; outstanding = at.before ++ at.found ∷ at.after; next = old.next }) = subst
      (λ rs. IsSession bin_cmp (record { bins = old.bins; outstanding = rs; next = old.next })) at.splits h in
      let is : new ≡ record { bins = new.bins; outstanding = at.before ++ at.after; next = old.next } = rw (← outstanding, ← next) refl in
      (rw is (IsSession-released o old.bins new.bins at.before at.found at.after old.next gives was), omega (arith, next))
  kept-released number old (Refused UnknownPlacement) new r = unchanged bin_cmp old new r.1
  kept-released number old (Refused OutOfMemory) new r = unchanged bin_cmp old new r.2
  kept-released number old reply new r = absurd r

  -- a placement leaves the list, where its box was given back: the same
  pub released-removed : (number : ℕ) (old new : List (B × Bin)) (outstanding : List (Outstanding Id B)) (next : ℕ) (at : IsOutstanding outstanding number)
      → GivesBack bin_cmp old at.found.bin at.found.location new
      → IsSession bin_cmp (record { bins = old; outstanding = outstanding; next = next })
      → Releases bin_cmp number (record { bins = old; outstanding = outstanding; next = next }) Done (record {
        bins = new;
        outstanding = at.before ++ at.after;
        next = next;
      }) × IsSession bin_cmp (record { bins = new; outstanding = at.before ++ at.after; next = next })
  released-removed number old new outstanding next at gives h =
      let was : State Id B = record { bins = old; outstanding = outstanding; next = next } in
      let is : State Id B = record { bins = new; outstanding = at.before ++ at.after; next = next } in
      let step : Releases bin_cmp number was Done is = (at, gives, refl, refl) in
      (step, (kept-released number was Done is step h).0)

-- boxes that stand beside a list that is cut anew
IsRecut-beside : (old new beside : List Cuboid) → IsRecut old new → IsRecut (old ++ beside) (new ++ beside)
IsRecut-beside old new beside h = subst (λ bs. IsRecut (old ++ beside) (new ++ bs)) (append-nil beside)
    (IsFrame-recut.beside old new [] beside (subst (λ bs. IsRecut old bs) (sym (append-nil new)) h))

pub IsRecut-joined : (idx lo hi : ℕ) (old new : List Cuboid) → IsJoined idx lo hi old new → IsRecut old new
IsRecut-joined idx lo hi old new h = record { cells = λ c. IsJoined-cells c h; inside = λ size all. IsJoined-keeps (IsInside size) (join-inside size) h all }

pub IsRecut-swept : (old new : List Cuboid) → IsSwept old new → IsRecut old new
IsRecut-swept old new h = record {
  cells = λ c. IsSwept-cells c (length old) old new h;
  inside = λ size all. IsSwept-keeps (IsInside size) (join-inside size) (length old) old new h all;
}

module _ {Id B : Type 0} {bin_cmp : B → B → Ordering} (o : IsTotalOrder bin_cmp) where
  IsSession-coalesced : (id : B) (old : State Id B) (bin : Bin) (joined : List Cuboid) → lookup (is_at (bin_cmp id)) old.bins ≡ Some bin
      → IsRecut bin.sections joined
      → IsSession bin_cmp old
      → IsSession bin_cmp (record old { bins = set_value (is_at (bin_cmp id)) old.bins (record bin { sections = joined; coalesced = true }) })
  IsSession-coalesced id old bin joined there recut h =
      let joint : Bin = record bin { sections = joined; coalesced = true } in
      let new : State Id B = record old { bins = set_value (is_at (bin_cmp id)) old.bins joint } in
      IsSession-carried bin_cmp old new
      (AreCarried-written o in_session old id bin joint old.outstanding there refl (λ not_so. absurd cc)
      (λ q e. (IsRecut-beside bin.sections joined (outstanding_in bin_cmp old.outstanding q) recut, λ not_so. absurd cc)) (λ q e. refl))
      (known-kept bin_cmp old.bins new.bins (keys-set_value (is_at (bin_cmp id)) old.bins joint) old.outstanding h.known)
      (record { rising = h.rising; below = h.below }) h

  kept-coalesced : (Joins : List Cuboid → List Cuboid → Type 0) → ((a b : List Cuboid) → Joins a b → IsRecut a b)
      → (id : B) (old : State Id B) (reply : Reply) (new : State Id B) → Coalesces bin_cmp Joins id old reply new → IsKeptSession bin_cmp old new
  kept-coalesced Joins recuts id old Done new (bin, there, joined, joins, are) = λ h. rw are
      (IsSession-coalesced id old bin joined there (recuts bin.sections joined joins) h, omega arith)
  kept-coalesced Joins recuts id old (Refused UnknownBin) new c = unchanged bin_cmp old new c.1
  kept-coalesced Joins recuts id old reply new c = absurd c

  -- one bin of a map is written, with a list that joining leaves: the same
  pub coalesced-written : (Joins : List Cuboid → List Cuboid → Type 0) → ((a b : List Cuboid) → Joins a b → IsRecut a b)
      → (id : B) (old new : List (B × Held)) (v w : Held) (outstanding : List (Outstanding Id B)) (next : ℕ)
      → lookup (is_at (bin_cmp id)) old ≡ Some v → new ≡ set_value (is_at (bin_cmp id)) old w
      → w.bin ≡ record v.bin { sections = w.bin.sections; coalesced = true } → Joins v.bin.sections w.bin.sections
      → IsSession bin_cmp (record { bins = bins_of old; outstanding = outstanding; next = next })
      → Coalesces bin_cmp Joins id (record { bins = bins_of old; outstanding = outstanding; next = next }) Done (record {
        bins = bins_of new;
        outstanding = outstanding;
        next = next;
      }) × IsSession bin_cmp (record { bins = bins_of new; outstanding = outstanding; next = next })
  coalesced-written Joins recuts id old new v w outstanding next found written stays joins h =
      let was : State Id B = record { bins = bins_of old; outstanding = outstanding; next = next } in
      let is : State Id B = record { bins = bins_of new; outstanding = outstanding; next = next } in
      let step : Coalesces bin_cmp Joins id was Done is = (
        v.bin,
        Some-bins_of (is_at (bin_cmp id)) old v found,
        w.bin.sections,
        joins,
        ap (λ (bs : List (B × Bin)). record { bins = bs; outstanding = outstanding; next = next })
            (bins_of-written (is_at (bin_cmp id)) old new w _ written stays),
      ) in
      (step, (kept-coalesced Joins recuts id was Done is step h).0)

module _ {Id B G : Type 0} (group_cmp : Group G Id → Group G Id → Ordering) (rules : Rules Id B) (o : IsTotalOrder rules.bin_cmp) where
  kept-packed : (all : Collection Id G) (old : State Id B) (reply : Reply) (new : State Id B) → Packs group_cmp rules all old reply new
      → IsKeptSession rules.bin_cmp old new
  kept-packed all old (Packed numbers) new (fits, kept) = λ h. (
    IsSession-done group_cmp rules o all old.bins new.bins kept.placements old.outstanding new.outstanding old.next new.next kept.done kept.outstanding
        (kept.next ∙ ap (λ n. old.next + n) (sym kept.counted)) h,
    omega (arith, kept.next),
  )
  kept-packed all old (Refused NumbersUsedUp) new p = unchanged rules.bin_cmp old new p.1
  kept-packed all old (Refused NotEnoughBinSpace) new (fits, left, refused, same) = unchanged rules.bin_cmp old new same
  kept-packed all old (Refused OutOfMemory) new p = unchanged rules.bin_cmp old new p.2
  kept-packed all old reply new p = absurd p

  pub kept-transition : {A : Type 0} (command : Command Id B G A) (old : State Id B) (reply : Reply) (new : State Id B)
      → IsTransition group_cmp rules command old reply new → IsKeptSession rules.bin_cmp old new
  kept-transition (AddBin id width height depth) old reply new t = kept-added o id (record { width = width; height = height; depth = depth }) old reply new t
  kept-transition (Pack all) old reply new t = kept-packed all old reply new t
  kept-transition (Release number) old reply new t = kept-released o number old reply new t
  kept-transition (Coalesce id idx lo hi) old reply new t = kept-coalesced o (IsJoined idx lo hi) (IsRecut-joined idx lo hi) id old reply new t
  kept-transition (CoalesceAll id) old reply new t = kept-coalesced o IsSwept IsRecut-swept id old reply new t

  pub kept-run : {A : Type 0} (commands : List (Command Id B G A)) (old : State Id B) (replies : List Reply) (new : State Id B)
      → IsRun (IsTransition group_cmp rules) commands old replies new → IsKeptSession rules.bin_cmp old new
  kept-run [] old [] new run = unchanged rules.bin_cmp old new run
  kept-run (c ∷ cs) old (r ∷ rs) new (next, step, run) = λ h.
      let one = kept-transition c old r next step h in
      let later = kept-run cs next rs new run one.0 in
      (later.0, omega (arith, one.1, later.1))
  kept-run cs old rs new run = absurd run

-- a run goes on by one step
module _ {C R S : Type 0} (IsStep : C → S → R → S → Type 0) where
  IsRun-push : (cs : List C) (c : C) (old mid new : S) (rs : List R) (r : R) → IsRun IsStep cs old rs mid → IsStep c mid r new
      → IsRun IsStep (cs ++ c ∷ []) old (rs ++ r ∷ []) new
  IsRun-push [] c old mid new [] r ran step = (new, subst (λ (s : S). IsStep c s r new) ran step, refl)
  IsRun-push (c' ∷ cs) c old mid new (r' ∷ rs) r (next, first, rest) step = (next, first, IsRun-push cs c next mid new rs r rest step)
  IsRun-push cs c old mid new rs r ran step = absurd ran

  pub IsRun-more : (cs : List C) (i : ℕ) (c : C) (old mid new : S) (rs later : List R) (r : R) → i < length cs → c ≡ get_or cs i c
      → IsRun IsStep (take i cs) old rs mid → IsStep c mid r new → later ≡ rs ++ r ∷ [] → IsRun IsStep (take (i + 1) cs) old later new
  IsRun-more cs i c old mid new rs later r within is ran step pushed =
      rw pushed (subst (λ xs. IsRun IsStep xs old (rs ++ r ∷ []) new) (sym (take_more cs i c within ∙ ap (λ z. take i cs ++ z ∷ []) (sym is)))
      (IsRun-push (take i cs) c old mid new rs r ran step))

  -- and is whole once no command is left
  pub IsRun-all : (cs : List C) (i : ℕ) (old new : S) (rs : List R) → length cs ≤ i → IsRun IsStep (take i cs) old rs new → IsRun IsStep cs old rs new
  IsRun-all cs i old new rs none_left ran = subst (λ xs. IsRun IsStep xs old rs new) (take_all i cs none_left) ran

-- what `?` makes of refused memory
pub memory_refused : {T : Type 0} (r : Result T SessionError) → IsErrAnd r (λ e. e ≡ OutOfMemory) → r ≡ Err OutOfMemory
memory_refused (Ok x) h = absurd h
memory_refused (Err e) h = ap (λ (x : SessionError). Err x) h
