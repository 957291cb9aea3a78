-- A box that is placed at a corner of the caller's choice: the session stays one.
use Rattle.rectangle_pack_sections.proofs.Std.{◌≡◌, ℕ, ◌+◌, ◌<◌, ◌^◌, List, [], ◌∷◌, ◌++◌, refl, ap, sym, ◌∙◌, arith, true, false, Ok, Result, IsErrAnd, Some, Ordering, IsTotalOrder, set_value}
use Rattle.rectangle_pack_sections.proofs.Std.{All-push, All-weaker, IsSome, append-nil, all_pairs_push, is_eq, is_at, lookup, keys_of, keys-set_value}
use Rattle.rectangle_pack_sections.specs.Boxes.{Cuboid, IsInside, IsPartOf, has_cells}
use Rattle.rectangle_pack_sections.specs.Bins.{Bin}
use Rattle.rectangle_pack_sections.specs.CutTrees.{times_in}
use Rattle.rectangle_pack_sections.proofs.lemmas.util.Lists.{All-middle}
use Rattle.rectangle_pack_sections.proofs.lemmas.util.Maps.{is_some-keys}
use Rattle.rectangle_pack_sections.proofs.lemmas.cuts.Counting.{filled-append, filled-cons}
use Rattle.rectangle_pack_sections.proofs.lemmas.cuts.Times.{times_in-nil, times_in-cons, times_in-append, times_in-same, times_in-kept}
use Rattle.rectangle_pack_sections.proofs.lemmas.cuts.Trees.{box_makes_way}
use Rattle.rectangle_pack_bins.specs.PlacedAt.{IsPlacedAt, pieces_round}
use Rattle.rectangle_pack_bins.specs.private.Indices.{IsFirstAroundAt}
use Rattle.rectangle_pack_bins.proofs.lemmas.bins.RoundABox.{left, round_from_cuts, filled-round, All-round}
use Rattle.rectangle_pack_packing.proofs.lemmas.packing.Frame.{IsRecut}
use Rattle.rectangle_pack_packing.proofs.lemmas.packing.KeepsCuts.{KeepsCuts, KeepsBoxes, IsFrame-boxes}
use Rattle.rectangle_pack.specs.declared.session.command.Outstanding.{Outstanding}
use Rattle.rectangle_pack.specs.declared.session.command.SessionError.{SessionError}
use Rattle.rectangle_pack.specs.declared.session.command.SessionError.TheVariants.{OutOfMemory}
use Rattle.rectangle_pack.specs.Session.{State, IsSession, outstanding_in, boxes_of}
use Rattle.rectangle_pack.specs.PlacingAt.{PlacesIn, PlacesAt}
use Rattle.rectangle_pack.proofs.lemmas.session.Packing.{state}
use Rattle.rectangle_pack.proofs.lemmas.session.Transitions.{memory_refused}
use Rattle.rectangle_pack.proofs.lemmas.session.Keeps.{IsSession-carried, AreCarried, in_session, AreCarried-written, known-kept, outstanding_in-record}

module _ (s b : Cuboid) (part : IsPartOf b s) (before after : List Cuboid) where
  abbrev rest : List Cuboid
  rest = before ++ after ++ left s b part

  -- the box and the pieces have the cells of the section, and are inside where it is
  IsRecut-round : IsRecut (before ++ s ∷ after) (rest ++ b ∷ [])
  IsRecut-round = record {
    cells = λ c. omega (arith, filled-round s b part before after c, filled-cons c b rest, filled-append c rest (b ∷ []));
    inside = λ size all.
        let passes : (e : Cuboid) → IsPartOf e s → IsInside size s → IsInside size e = λ e p inside.
        record { within_x = omega arith; within_y = omega arith; within_z = omega arith } in
        All-push (IsInside size) rest b (All-round s b part before after (IsInside size) passes all)
        (passes b part (All-middle (IsInside size) (before ++ s ∷ after) before after s refl all));
  }

  -- what was from cuts is from cuts
  KeepsCuts-round : KeepsCuts (before ++ s ∷ after) (rest ++ b ∷ [])
  KeepsCuts-round = record {
    kept = λ beside whole from.
        let pieces = pieces_round s b in
        let old : (e : Cuboid) → times_in e ((before ++ s ∷ after) ++ beside)
        ≡ times_in e before + times_in e (s ∷ []) + times_in e after + times_in e beside = λ e.
        omega (arith, times_in-append e (before ++ s ∷ after) beside, times_in-append e before (s ∷ after), times_in-cons e s after) in
        box_makes_way {s = s} ((before ++ s ∷ after) ++ beside) (b ∷ pieces) ((rest ++ b ∷ []) ++ beside) from (round_from_cuts s b part)
        (λ cells. omega (arith, old s, times_in-same s [], times_in-nil s))
        (λ e cells. omega (
          arith,
          old e,
          times_in-append e (rest ++ b ∷ []) beside,
          times_in-append e rest (b ∷ []),
          times_in-append e (before ++ after) (left s b part),
          times_in-append e before after,
          times_in-kept has_cells e pieces cells,
          times_in-cons e b pieces,
        ));
  }

-- the boxes of a bin, with the box that is placed
KeepsBoxes-placed : (bin : Bin) (box : Cuboid) (after : Bin) → IsPlacedAt bin box true after
    → KeepsBoxes after.coalesced bin.sections (after.sections ++ box ∷ [])
KeepsBoxes-placed bin box after (first, at, is) =
    rw (at.splits, ap (λ (b : Bin). b.sections) is)
    (IsRecut-round first box at.around at.before at.after, λ not_so. KeepsCuts-round first box at.around at.before at.after)

module _ {Id B : Type 0} {bin_cmp : B → B → Ordering} (o : IsTotalOrder bin_cmp) (old new : State Id B) (r : Outstanding Id B) (bin after : Bin)
    (there : lookup (is_at (bin_cmp r.bin)) old.bins ≡ Some bin) (is : after ≡ record bin { sections = after.sections })
    (keeps : KeepsBoxes after.coalesced bin.sections (after.sections ++ r.location ∷ [])) (are : new.bins ≡ set_value (is_at (bin_cmp r.bin)) old.bins after)
    (added : new.outstanding ≡ old.outstanding ++ r ∷ []) where
  -- the bins of a session in one of which a box is put
  AreCarried-put : AreCarried bin_cmp in_session old new
  AreCarried-put q found_bin found =
      let later = old.outstanding ++ r ∷ [] in
      let here : (p : B) → is_eq (bin_cmp r.bin p) ≡ true
      → KeepsBoxes after.coalesced (boxes_of bin_cmp old.outstanding p bin) (boxes_of bin_cmp later p after) = λ p e.
      rw (outstanding_in-record bin_cmp old.outstanding r [] p true e)
      ((IsFrame-boxes after.coalesced).beside bin.sections after.sections (r.location ∷ []) (outstanding_in bin_cmp old.outstanding p) keeps) in
      let c = AreCarried-written o in_session old r.bin bin after later there (ap (λ (b : Bin). b.size) is)
      (λ not_so. sym (ap (λ (b : Bin). b.coalesced) is) ∙ not_so)
      here (λ p e. outstanding_in-record bin_cmp old.outstanding r [] p false e ∙ append-nil _) q found_bin (rw are at found) in
      record {
        before = c.before;
        found = c.found;
        size = c.size;
        uncoalesced = c.uncoalesced;
        framed = rw added c.framed;
      }

  -- so it stays a session
  pub IsSession-put : r.number ≡ old.next → new.next ≡ old.next + 1 → IsSession bin_cmp old → IsSession bin_cmp new
  IsSession-put number next h =
      let There : Outstanding Id B → Type 0 = λ x. IsSome (lookup (is_at (bin_cmp x.bin)) new.bins) in
      let keys = ap (λ (bs : List (B × Bin)). keys_of bs) are ∙ keys-set_value (is_at (bin_cmp r.bin)) old.bins after in
      IsSession-carried bin_cmp old new AreCarried-put
      (rw added (All-push There old.outstanding r (known-kept bin_cmp old.bins new.bins keys old.outstanding h.known)
      (is_some-keys (is_at (bin_cmp r.bin)) new.bins old.bins keys ∙ rw there refl)))
      (rw (added, next) (record {
        rising = all_pairs_push (λ (a b : Outstanding Id B). a.number < b.number) old.outstanding r h.rising
            (λ k d within. rw number (h.below k d within));
        below = All-push (λ (x : Outstanding Id B). x.number < old.next + 1) old.outstanding r
            (All-weaker (λ (x : Outstanding Id B). x.number < old.next) (λ (x : Outstanding Id B). x.number < old.next + 1)
            (λ x lt. omega arith) old.outstanding h.below) (omega (arith, number));
      })) h

module _ {Id B : Type 0} {bin_cmp : B → B → Ordering} (o : IsTotalOrder bin_cmp) where
  -- a box is placed in the bin of this id, and its placement is pushed: what is answered, and what always holds
  pub placed-pushed : (r : Outstanding Id B) (old new : List (B × Bin)) (outstanding later : List (Outstanding Id B)) (next after : ℕ) → next + 1 < 2 ^ 64
      → after ≡ next + 1 → PlacesIn bin_cmp r.bin r.location old new → later ≡ outstanding ++ r ∷ [] → r.number ≡ next
      → IsSession bin_cmp (state old outstanding next)
      → PlacesAt bin_cmp r.bin r.id r.location (state old outstanding next) (Ok r.number) (state new later after)
      × IsSession bin_cmp (state new later after)
  placed-pushed r old new outstanding later next after fits follows places added number h = (
    (fits, number, places, added, follows),
    (
        let (bin, there, placed, at, are) = places in
        IsSession-put o (state old outstanding next) (state new later after) r bin placed there (rw at.2 refl)
        (KeepsBoxes-placed bin r.location placed at) are added number follows h
        ),
  )

-- what is answered where memory is refused
pub placing_at-refused : {Id B : Type 0} (bin_cmp : B → B → Ordering) (id : B) (box : Id) (location : Cuboid) (bins now : List (B × Bin))
    (outstanding later : List (Outstanding Id B)) (next i : ℕ) (bin : Bin) (result : Result ℕ SessionError) → IsErrAnd result (λ e. e ≡ OutOfMemory)
    → next + 1 < 2 ^ 64 → lookup (is_at (bin_cmp id)) bins ≡ Some bin → IsFirstAroundAt bin.sections location i → now ≡ bins → later ≡ outstanding
    → PlacesAt bin_cmp id box location (state bins outstanding next) result (state now later next)
placing_at-refused bin_cmp id box location bins now outstanding later next i bin result failed fits found at same kept =
    rw (memory_refused result failed) (fits, bin, found, at.0, at.1, rw (same, kept) refl)
