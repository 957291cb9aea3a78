-- What is cut straight stays so until it is coalesced.
use Rattle.rectangle_pack_sections.proofs.Std.{◌≡◌, ℕ, ◌+◌, List, [], ◌∷◌, ◌++◌, refl, ap, sym, ◌∙◌, subst, Bool, true, false, Some, None, Ordering, IsTotalOrder}
use Rattle.rectangle_pack_sections.proofs.Std.{is_eq, cond, lookup, is_at, length, or_parts}
use Rattle.std.specs.List.{list_any}
use Rattle.rectangle_pack_sections.specs.declared.group.Group.{Group}
use Rattle.rectangle_pack.specs.declared.session.command.Command.{Command}
use Rattle.rectangle_pack.specs.declared.session.command.Command.TheVariants.{AddBin, Pack, Release, Coalesce, CoalesceAll}
use Rattle.rectangle_pack.specs.declared.session.command.SessionError.TheVariants.{DuplicateBin, UnknownBin, UnknownPlacement, NumbersUsedUp, NotEnoughBinSpace}
use Rattle.rectangle_pack.specs.declared.session.command.SessionError.TheVariants.{OutOfMemory}
use Rattle.rectangle_pack.specs.declared.session.command.Reply.{Reply}
use Rattle.rectangle_pack.specs.declared.session.command.Reply.TheVariants.{Done, Packed, Refused}
use Rattle.rectangle_pack_sections.specs.Boxes.{Size, Cuboid}
use Rattle.rectangle_pack_sections.specs.Bins.{Bin, new_bin, whole}
use Rattle.rectangle_pack_sections.specs.CutTrees.{IsFromCuts}
use Rattle.rectangle_pack_sections.specs.Groups.{Collection}
use Rattle.rectangle_pack_lists.specs.Joining.{IsJoined, IsSwept}
use Rattle.rectangle_pack_packing.specs.Packing.{Rules}
use Rattle.rectangle_pack.specs.Session.{State, IsSession, boxes_of, numbered, AddsBin, Releases, Packs, Coalesces, IsTransition, IsRun}
use Rattle.rectangle_pack.specs.Recutting.{IsCutStraight, coalesces}
use Rattle.rectangle_pack_sections.proofs.lemmas.util.Maps.{lookup-equal, lookup-inserted, lookup-written}
use Rattle.rectangle_pack.proofs.lemmas.session.Keeps.{AreCarried, AreCarried-given, AreCarried-done, IsFromCuts-kept}
use Rattle.rectangle_pack.proofs.lemmas.session.Transitions.{kept-added, kept-transition}

-- no bin is let off
abbrev no_bin : Bin → Bool
no_bin bin = false

-- a bin that is cut straight stays so
abbrev StaysStraight : {Id B : Type 0} → (B → B → Ordering) → B → State Id B → State Id B → Type 0
StaysStraight bin_cmp id old new = IsCutStraight bin_cmp id old → IsCutStraight bin_cmp id new

unchanged : {Id B : Type 0} (bin_cmp : B → B → Ordering) (id : B) (old new : State Id B) → new ≡ old → StaysStraight bin_cmp id old new
unchanged bin_cmp id old new same h = rw same h

module _ {Id B : Type 0} {bin_cmp : B → B → Ordering} where
  -- as it does where bins are carried
  straight-carried : (id : B) (old new : State Id B) → AreCarried bin_cmp no_bin old new → StaysStraight bin_cmp id old new
  straight-carried id old new carried h bin found =
      let c = carried id bin found in
      rw c.size (IsFromCuts-kept c.before.size (boxes_of bin_cmp old.outstanding id c.before) (boxes_of bin_cmp new.outstanding id bin) (c.framed.1 refl)
      (h c.before c.found))

module _ {Id B : Type 0} {bin_cmp : B → B → Ordering} (o : IsTotalOrder bin_cmp) where
  straight-added : (q id : B) (size : Size) (old : State Id B) (reply : Reply) (new : State Id B) → AddsBin bin_cmp id size old reply new
      → IsSession bin_cmp old → StaysStraight bin_cmp q old new
  straight-added q id size old Done new (absent, key, equal, are) h = λ cut bin found. by cut bin found (is_eq (bin_cmp key q)) refl
    where
      session : IsSession bin_cmp new
      session = (kept-added o id size old Done new (absent, key, equal, are) h).0

      none : lookup (is_at (bin_cmp key)) old.bins ≡ None
      none = sym (lookup-equal o id key equal old.bins) ∙ absent

      seen : lookup (is_at (bin_cmp q)) new.bins ≡ cond (is_eq (bin_cmp key q)) (Some (new_bin size)) (lookup (is_at (bin_cmp q)) old.bins)
      seen = ap (λ (s : State Id B). lookup (is_at (bin_cmp q)) s.bins) are ∙ lookup-inserted o old.bins key (new_bin size) none q

      by : IsCutStraight bin_cmp q old → (bin : Bin) → lookup (is_at (bin_cmp q)) new.bins ≡ Some bin → (b : Bool) → is_eq (bin_cmp key q) ≡ b
          → IsFromCuts (boxes_of bin_cmp new.outstanding q bin) (whole bin.size)
      by cut bin found true e =
          let now : Some bin ≡ Some (new_bin size) = sym found ∙ seen ∙ rw e refl in
          let is : bin ≡ new_bin size = cc in
          session.from_cuts q bin found (ap (λ (b : Bin). b.coalesced) is)
      by cut bin found false e =
          let was : lookup (is_at (bin_cmp q)) old.bins ≡ Some bin = sym (seen ∙ rw e refl) ∙ found in
          rw are (cut bin was)
  straight-added q id size old (Refused DuplicateBin) new a h = unchanged bin_cmp q old new a.1
  straight-added q id size old (Refused OutOfMemory) new a h = unchanged bin_cmp q old new a.1
  straight-added q id size old reply new a h = absurd a

  straight-released : (q : B) (number : ℕ) (old : State Id B) (reply : Reply) (new : State Id B) → Releases bin_cmp number old reply new
      → IsSession bin_cmp old → StaysStraight bin_cmp q old new
  straight-released q number old Done new (at, gives, outstanding, next) h =
      let was : State Id B = record { bins = old.bins; outstanding = at.before ++ at.found ∷ at.after; next = old.next } in
      let is : State Id B = record { bins = new.bins; outstanding = at.before ++ at.after; next = old.next } in
      let same : was ≡ old = ap (λ rs. record { bins = old.bins; outstanding = rs; next = old.next }) (sym at.splits) in
      let same_new : is ≡ new = rw (← outstanding, ← next) refl in
      subst (λ s. StaysStraight bin_cmp q s new) same (subst (λ s. StaysStraight bin_cmp q was s) same_new
      (straight-carried q was is
      (AreCarried-given o no_bin old.bins new.bins at.before at.found at.after old.next gives (subst (λ s. IsSession bin_cmp s) (sym same) h))))
  straight-released q number old (Refused UnknownPlacement) new r h = unchanged bin_cmp q old new r.1
  straight-released q number old (Refused OutOfMemory) new r h = unchanged bin_cmp q old new r.2
  straight-released q number old reply new r h = absurd r

  -- another bin is coalesced
  straight-coalesced : (q : B) (Joins : List Cuboid → List Cuboid → Type 0) (id : B) (old : State Id B) (reply : Reply) (new : State Id B)
      → Coalesces bin_cmp Joins id old reply new → is_at (bin_cmp id) q ≡ false → StaysStraight bin_cmp q old new
  straight-coalesced q Joins id old Done new (bin, there, joined, joins, are) e = λ cut after found.
      let joint : Bin = record bin { sections = joined; coalesced = true } in
      let was : lookup (is_at (bin_cmp q)) old.bins ≡ Some after = sym (lookup-written o id old.bins bin joint q there ∙ rw e refl)
      ∙ sym (ap (λ (s : State Id B). lookup (is_at (bin_cmp q)) s.bins) are) ∙ found in
      rw are (cut after was)
  straight-coalesced q Joins id old (Refused UnknownBin) new c e = unchanged bin_cmp q old new c.1
  straight-coalesced q Joins id old reply new c e = absurd c

module _ {Id B G : Type 0} (group_cmp : Group G Id → Group G Id → Ordering) (rules : Rules Id B) (o : IsTotalOrder rules.bin_cmp) where
  straight-packed : (q : B) (all : Collection Id G) (old : State Id B) (reply : Reply) (new : State Id B) → Packs group_cmp rules all old reply new
      → StaysStraight rules.bin_cmp q old new
  straight-packed q all old (Packed numbers) new (fits, kept) =
      let is : State Id B = record {
        bins = new.bins;
        outstanding = old.outstanding ++ numbered old.next kept.placements;
        next = old.next + length kept.placements;
      } in
      let same : is ≡ new = rw (kept.counted, ← kept.outstanding, ← kept.next) refl in
      subst (λ s. StaysStraight rules.bin_cmp q old s) same
      (straight-carried q old is (AreCarried-done group_cmp rules o no_bin all old.bins new.bins kept.placements old.outstanding old.next kept.done))
  straight-packed q all old (Refused NumbersUsedUp) new p = unchanged rules.bin_cmp q old new p.1
  straight-packed q all old (Refused NotEnoughBinSpace) new (fits, left, refused, same) = unchanged rules.bin_cmp q old new same
  straight-packed q all old (Refused OutOfMemory) new p = unchanged rules.bin_cmp q old new p.2
  straight-packed q all old reply new p = absurd p

  pub straight-transition : {A : Type 0} (command : Command Id B G A) (old : State Id B) (reply : Reply) (new : State Id B) (q : B)
      → IsTransition group_cmp rules command old reply new → IsSession rules.bin_cmp old → coalesces rules.bin_cmp q command ≡ false
      → StaysStraight rules.bin_cmp q old new
  straight-transition (AddBin id width height depth) old reply new q t h e =
      straight-added o q id (record { width = width; height = height; depth = depth }) old reply new t h
  straight-transition (Pack all) old reply new q t h e = straight-packed q all old reply new t
  straight-transition (Release number) old reply new q t h e = straight-released o q number old reply new t h
  straight-transition (Coalesce id idx lo hi) old reply new q t h e = straight-coalesced o q (IsJoined idx lo hi) id old reply new t e
  straight-transition (CoalesceAll id) old reply new q t h e = straight-coalesced o q IsSwept id old reply new t e

  pub straight-run : {A : Type 0} (commands : List (Command Id B G A)) (old : State Id B) (replies : List Reply) (new : State Id B) (q : B)
      → IsRun (IsTransition group_cmp rules) commands old replies new → IsSession rules.bin_cmp old
      → list_any (coalesces rules.bin_cmp q) commands ≡ false → StaysStraight rules.bin_cmp q old new
  straight-run [] old [] new q run h e = unchanged rules.bin_cmp q old new run
  straight-run (c ∷ cs) old (r ∷ rs) new q (next, step, run) h e = λ cut.
      let parts = or_parts (coalesces rules.bin_cmp q c) (list_any (coalesces rules.bin_cmp q) cs) e in
      straight-run cs next rs new q run (kept-transition group_cmp rules o c old r next step h).0 parts.1
      (straight-transition c old r next q step h parts.0 cut)
  straight-run cs old rs new q run h e = absurd run
