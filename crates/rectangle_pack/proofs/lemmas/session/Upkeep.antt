-- What clearing a bin and taking one out keep, and what the calls say of them.
use Rattle.rectangle_pack_sections.proofs.Std.{◌≡◌, ℕ, ◌<◌, List, [], ◌∷◌, refl, ap, sym, ◌∙◌, cond, not, true, false, Bool, All, Some, None, IsSome}
use Rattle.rectangle_pack_sections.proofs.Std.{option_map, Ordering, IsTotalOrder, Equal-is, is_eq, get_or, lookup, set_value, remove_entry, is_at}
use Rattle.rectangle_pack_sections.proofs.Std.{keys-set_value, set_value_same, All-filter, All-nil, All-cons, or_parts}
use Rattle.std.proofs.lemmas.List.Kept.{AllPairs-filter}
use Rattle.rectangle_pack.specs.declared.session.command.Outstanding.{Outstanding}
use Rattle.rectangle_pack.specs.declared.session.command.Reply.TheVariants.{Done}
use Rattle.rectangle_pack_sections.specs.Bins.{Bin, Held, whole, new_bin, bins_of}
use Rattle.rectangle_pack_sections.specs.Covering.{CoverBin}
use Rattle.rectangle_pack_sections.specs.CutTrees.{IsFromCuts}
use Rattle.rectangle_pack.specs.Session.{State, outstanding_in, boxes_of, IsSession}
use Rattle.rectangle_pack.specs.Upkeep.{is_in_use, outstanding_beside, Clears, RemovesBin}
use Rattle.rectangle_pack_sections.proofs.lemmas.cuts.Trees.{IsFromCuts-leaf}
use Rattle.rectangle_pack_sections.proofs.lemmas.util.Maps.{congr_right, is_at-back, lookup-written}
use Rattle.rectangle_pack_bins.proofs.lemmas.bins.Maps.{bins_of-written, lookup-bins_of}
use Rattle.rectangle_pack.proofs.lemmas.session.Keeps.{known-kept, whole-covers, Some-bins_of}

-- a bin that is written as it was leaves the bins as they were
pub bins_of-same : {B : Type 0} (test : B → Bool) (old new : List (B × Held)) (v w : Held) → lookup test old ≡ Some v → new ≡ set_value test old w
    → w.bin ≡ v.bin → bins_of new ≡ bins_of old
bins_of-same test old new v w found written same =
    bins_of-written test old new w v.bin written same ∙ set_value_same test (bins_of old) v.bin (Some-bins_of test old v found)

module _ {Id B : Type 0} {bin_cmp : B → B → Ordering} (o : IsTotalOrder bin_cmp) where
  -- once the placements of a bin are left out, none stands in it
  outstanding_beside-here : (id q : B) (rs : List (Outstanding Id B)) → is_eq (bin_cmp id q) ≡ true
      → outstanding_in bin_cmp (outstanding_beside bin_cmp id rs) q ≡ []
  outstanding_beside-here id q [] e = refl
  outstanding_beside-here id q (r ∷ rs) e = at (is_eq (bin_cmp r.bin id)) refl (outstanding_beside-here id q rs e)
    where
      at : (b : Bool) → is_eq (bin_cmp r.bin id) ≡ b → outstanding_in bin_cmp (outstanding_beside bin_cmp id rs) q ≡ []
          → outstanding_in bin_cmp (outstanding_beside bin_cmp id (r ∷ rs)) q ≡ []
      at true t ih = rw t ih
      at false t ih = rw (t, sym (ap is_eq (congr_right o id q r.bin ((Equal-is _).0 e))) ∙ t) ih

  -- and those of other bins stay
  outstanding_beside-other : (id q : B) (rs : List (Outstanding Id B)) → is_eq (bin_cmp id q) ≡ false
      → outstanding_in bin_cmp (outstanding_beside bin_cmp id rs) q ≡ outstanding_in bin_cmp rs q
  outstanding_beside-other id q [] e = refl
  outstanding_beside-other id q (r ∷ rs) e =
      at (is_eq (bin_cmp r.bin id)) refl (is_eq (bin_cmp r.bin q)) refl (outstanding_beside-other id q rs e)
    where
      at : (b : Bool) → is_eq (bin_cmp r.bin id) ≡ b → (there : Bool) → is_eq (bin_cmp r.bin q) ≡ there
          → outstanding_in bin_cmp (outstanding_beside bin_cmp id rs) q ≡ outstanding_in bin_cmp rs q
          → outstanding_in bin_cmp (outstanding_beside bin_cmp id (r ∷ rs)) q ≡ outstanding_in bin_cmp (r ∷ rs) q
      at true t there s ih = rw (t, ap is_eq (o.congr r.bin id q ((Equal-is _).0 t)) ∙ e) ih
      at false t true s ih = rw (t, s) (ap (λ l. r.location ∷ l) ih)
      at false t false s ih = rw (t, s) ih

  IsSession-cleared : (id : B) (old : State Id B) (bin : Bin) → lookup (is_at (bin_cmp id)) old.bins ≡ Some bin → IsSession bin_cmp old
      → IsSession bin_cmp (record old {
        bins = set_value (is_at (bin_cmp id)) old.bins (new_bin bin.size);
        outstanding = outstanding_beside bin_cmp id old.outstanding;
      })
  IsSession-cleared id old bin there h = record {
    covered = λ q after found. (each q after found (is_eq (bin_cmp id q)) refl).0;
    from_cuts = λ q after found not_so. (each q after found (is_eq (bin_cmp id q)) refl).1 not_so;
    known = known-kept bin_cmp old.bins bins (keys-set_value (is_at (bin_cmp id)) old.bins (new_bin bin.size)) left
        (All-filter beside (λ (r : Outstanding Id B). IsSome (lookup (is_at (bin_cmp r.bin)) old.bins)) old.outstanding h.known);
    rising = AllPairs-filter (λ (a b : Outstanding Id B). a.number < b.number) beside old.outstanding h.rising;
    below = All-filter beside (λ (r : Outstanding Id B). r.number < old.next) old.outstanding h.below;
  }
    where
      beside : Outstanding Id B → Bool
      beside r = not (is_at (bin_cmp r.bin) id)

      left : List (Outstanding Id B)
      left = outstanding_beside bin_cmp id old.outstanding

      bins : List (B × Bin)
      bins = set_value (is_at (bin_cmp id)) old.bins (new_bin bin.size)

      each : (q : B) (after : Bin) → lookup (is_at (bin_cmp q)) bins ≡ Some after → (b : Bool) → is_eq (bin_cmp id q) ≡ b
          → CoverBin (boxes_of bin_cmp left q after) after.size × (after.coalesced ≡ false → IsFromCuts (boxes_of bin_cmp left q after) (whole after.size))
      each q after found true e =
          let now : Some after ≡ Some (new_bin bin.size) = sym found ∙ lookup-written o id old.bins bin (new_bin bin.size) q there ∙ rw e refl in
          let same : after ≡ new_bin bin.size = cc in
          rw (same, outstanding_beside-here id q old.outstanding e) (whole-covers bin.size, λ not_so. IsFromCuts-leaf (whole bin.size))
      each q after found false e =
          let was = sym (lookup-written o id old.bins bin (new_bin bin.size) q there ∙ rw e refl) ∙ found in
          rw (outstanding_beside-other id q old.outstanding e) (h.covered q after was, h.from_cuts q after was)

  -- one bin of a map is made whole, and its placements are left out: the session is cleared of it, and stays one
  pub cleared-written : (id : B) (old new : List (B × Held)) (v w : Held) (outstanding later : List (Outstanding Id B)) (next : ℕ)
      → lookup (is_at (bin_cmp id)) old ≡ Some v → new ≡ set_value (is_at (bin_cmp id)) old w → w.bin ≡ new_bin v.bin.size
      → later ≡ outstanding_beside bin_cmp id outstanding
      → IsSession bin_cmp (record { bins = bins_of old; outstanding = outstanding; next = next })
      → Clears bin_cmp id (record { bins = bins_of old; outstanding = outstanding; next = next }) Done (record {
        bins = bins_of new;
        outstanding = later;
        next = next;
      }) × IsSession bin_cmp (record { bins = bins_of new; outstanding = later; next = next })
  cleared-written id old new v w outstanding later next found written is_new left h =
      let was : State Id B = record { bins = bins_of old; outstanding = outstanding; next = next } in
      let there = Some-bins_of (is_at (bin_cmp id)) old v found in
      rw (bins_of-written (is_at (bin_cmp id)) old new w _ written is_new, left) ((v.bin, there, refl), IsSession-cleared id was v.bin there h)

  -- where no placement stands in a bin, none of the outstanding ones has its id
  All-not_in_use : (id : B) (rs : List (Outstanding Id B)) → is_in_use bin_cmp id rs ≡ false → All (λ r. is_eq (bin_cmp r.bin id) ≡ false) rs
  All-not_in_use id [] e = All-nil (λ (r : Outstanding Id B). is_eq (bin_cmp r.bin id) ≡ false)
  All-not_in_use id (r ∷ rs) e =
      let parts = or_parts (is_at (bin_cmp r.bin) id) (is_in_use bin_cmp id rs) e in
      All-cons (λ (x : Outstanding Id B). is_eq (bin_cmp x.bin id) ≡ false) r rs parts.0 (All-not_in_use id rs parts.1)

  IsSession-removed : (id : B) (old new : List (B × Bin)) (outstanding : List (Outstanding Id B)) (next : ℕ)
      → ((q : B) → lookup (is_at (bin_cmp q)) new ≡ cond (is_at (bin_cmp id) q) None (lookup (is_at (bin_cmp q)) old))
      → is_in_use bin_cmp id outstanding ≡ false
      → IsSession bin_cmp (record { bins = old; outstanding = outstanding; next = next })
      → IsSession bin_cmp (record { bins = new; outstanding = outstanding; next = next })
  IsSession-removed id old new outstanding next seen free h = record {
    covered = λ q bin found. h.covered q bin (was q bin found (is_eq (bin_cmp id q)) refl);
    from_cuts = λ q bin found not_so. h.from_cuts q bin (was q bin found (is_eq (bin_cmp id q)) refl) not_so;
    known = λ k d within. stays (get_or outstanding k d) (h.known k d within) (All-not_in_use id outstanding free k d within);
    rising = h.rising;
    below = h.below;
  }
    where
      was : (q : B) (bin : Bin) → lookup (is_at (bin_cmp q)) new ≡ Some bin → (b : Bool) → is_eq (bin_cmp id q) ≡ b
          → lookup (is_at (bin_cmp q)) old ≡ Some bin
      was q bin found true e = let none : None ≡ Some bin = sym (seen q ∙ rw e refl) ∙ found in absurd cc
      was q bin found false e = sym (seen q ∙ rw e refl) ∙ found

      stays : (r : Outstanding Id B) → IsSome (lookup (is_at (bin_cmp r.bin)) old) → is_eq (bin_cmp r.bin id) ≡ false
          → IsSome (lookup (is_at (bin_cmp r.bin)) new)
      stays r some other = rw (seen r.bin, is_at-back o id r.bin ∙ other) some

-- an entry that is taken out, without its room
remove_entry-bins_of : {B : Type 0} (test : B → Bool) (es : List (B × Held)) → bins_of (remove_entry test es) ≡ remove_entry test (bins_of es)
remove_entry-bins_of test [] = refl
remove_entry-bins_of test (e ∷ es) = elim (test e.0) as
    (λ b. bins_of (cond b es (e ∷ remove_entry test es)) ≡ cond b (bins_of es) ((e.0, e.1.bin) ∷ remove_entry test (bins_of es)))
    [ true ↦ refl | false ↦ ap (λ l. (e.0, e.1.bin) ∷ l) (remove_entry-bins_of test es) ]

-- what the look-ups of a map without an entry find, without its room
lookup-removed : {B : Type 0} (bin_cmp : B → B → Ordering) (id : B) (old new : List (B × Held)) (q : B)
    → lookup (is_at (bin_cmp q)) new ≡ cond (is_at (bin_cmp id) q) None (lookup (is_at (bin_cmp q)) old)
    → lookup (is_at (bin_cmp q)) (bins_of new) ≡ cond (is_at (bin_cmp id) q) None (lookup (is_at (bin_cmp q)) (bins_of old))
lookup-removed {B} bin_cmp id old new q seen = at (is_at (bin_cmp id) q) refl
  where
    test : B → Bool
    test = is_at (bin_cmp q)

    at : (b : Bool) → is_at (bin_cmp id) q ≡ b → lookup test (bins_of new) ≡ cond (is_at (bin_cmp id) q) None (lookup test (bins_of old))
    at true e =
        let gone : lookup test new ≡ None = seen ∙ rw e refl in
        lookup-bins_of test new ∙ rw (gone, e) refl
    at false e =
        let stays : lookup test new ≡ lookup test old = seen ∙ rw e refl in
        lookup-bins_of test new ∙ ap (option_map (λ (x : Held). x.bin)) stays ∙ sym (lookup-bins_of test old) ∙ rw e refl

-- a bin in which no placement stands is taken out of a map: the session stays one
pub removed-entry : {Id B : Type 0} {bin_cmp : B → B → Ordering} → IsTotalOrder bin_cmp → (id : B) (old new : List (B × Held))
    (outstanding : List (Outstanding Id B)) (next : ℕ)
    → IsSome (lookup (is_at (bin_cmp id)) (bins_of old)) → is_in_use bin_cmp id outstanding ≡ false
    → new ≡ remove_entry (is_at (bin_cmp id)) old
    → ((q : B) → lookup (is_at (bin_cmp q)) new ≡ cond (is_at (bin_cmp id) q) None (lookup (is_at (bin_cmp q)) old))
    → IsSession bin_cmp (record { bins = bins_of old; outstanding = outstanding; next = next })
    → RemovesBin bin_cmp id (record { bins = bins_of old; outstanding = outstanding; next = next }) Done (record {
      bins = bins_of new;
      outstanding = outstanding;
      next = next;
    }) × IsSession bin_cmp (record { bins = bins_of new; outstanding = outstanding; next = next })
removed-entry {Id} {B} {bin_cmp} o id old new outstanding next there free removed seen h = (
  (
    there,
    free,
    ap (λ (bs : List (B × Bin)). record { bins = bs; outstanding = outstanding; next = next })
        (ap bins_of removed ∙ remove_entry-bins_of (is_at (bin_cmp id)) old),
  ),
  (IsSession-removed o id (bins_of old) (bins_of new) outstanding next (λ q. lookup-removed bin_cmp id old new q (seen q)) free h),
)
