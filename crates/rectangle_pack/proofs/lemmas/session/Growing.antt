-- Bins of a session that grow.
use Rattle.rectangle_pack_sections.proofs.Std.{◌≡◌, ℕ, ◌+◌, ◌<◌, ◌≤◌, ◌^◌, ◌↔◌, List, refl, ap, sym, ◌∙◌, Bool, true, false, Some, Ordering, IsTotalOrder}
use Rattle.rectangle_pack_sections.proofs.Std.{Equal-is, is_eq, lookup, set_value, is_at, keys-set_value, set_value_same, IsTrue, arith, inl, inr, cases_lt, both_ways}
use Rattle.rectangle_pack_sections.specs.declared.axis.Axis.{Axis}
use Rattle.rectangle_pack.specs.declared.session.command.Outstanding.{Outstanding}
use Rattle.rectangle_pack.specs.declared.session.command.Reply.TheVariants.{Done}
use Rattle.rectangle_pack_sections.specs.Boxes.{extent}
use Rattle.rectangle_pack_sections.specs.Bins.{Bin, Held, whole, bins_of}
use Rattle.rectangle_pack_sections.specs.Covering.{CoverBin}
use Rattle.rectangle_pack_sections.specs.CutTrees.{IsFromCuts}
use Rattle.rectangle_pack_bins.specs.GrownBins.{grown_bin}
use Rattle.rectangle_pack.specs.Session.{State, outstanding_in, boxes_of, IsSession}
use Rattle.rectangle_pack.specs.Growing.{GrowsBin}
use Rattle.rectangle_pack_sections.proofs.lemmas.util.Maps.{lookup-equal, lookup-written}
use Rattle.rectangle_pack_bins.proofs.lemmas.bins.Growing.{CoverBin-grown, IsFromCuts-grown}
use Rattle.rectangle_pack_bins.proofs.lemmas.bins.Maps.{bins_of-written}
use Rattle.rectangle_pack.proofs.lemmas.session.Keeps.{Some-bins_of, known-kept}
use Rattle.rectangle_pack.proofs.lemmas.session.Packing.{state}

-- a map in which a bin was written as it was
bins_of-unwritten : {B : Type 0} (test : B → Bool) (old new : List (B × Held)) (v w : Held) → lookup test old ≡ Some v → new ≡ set_value test old w
    → w.bin ≡ v.bin → bins_of new ≡ bins_of old
bins_of-unwritten test old new v w found written same =
    bins_of-written test old new w v.bin written same ∙ set_value_same test (bins_of old) v.bin (Some-bins_of test old v found)

-- so the state is as it was
pub unwritten : {Id B : Type 0} (test : B → Bool) (old new : List (B × Held)) (v w : Held) (outstanding : List (Outstanding Id B)) (next : ℕ)
    → lookup test old ≡ Some v → new ≡ set_value test old w → w.bin ≡ v.bin
    → state (bins_of new) outstanding next ≡ state (bins_of old) outstanding next
unwritten {B = B} test old new v w outstanding next found written same =
    ap (λ (bs : List (B × Bin)). state bs outstanding next) (bins_of-unwritten test old new v w found written same)

pub IsSession-unwritten : {Id B : Type 0} {bin_cmp : B → B → Ordering} (test : B → Bool) (old new : List (B × Held)) (v w : Held)
    (outstanding : List (Outstanding Id B)) (next : ℕ) → lookup test old ≡ Some v → new ≡ set_value test old w → w.bin ≡ v.bin
    → IsSession bin_cmp (state (bins_of old) outstanding next) → IsSession bin_cmp (state (bins_of new) outstanding next)
IsSession-unwritten {bin_cmp = bin_cmp} test old new v w outstanding next found written same h =
    rw (bins_of-unwritten test old new v w found written same) h

module _ {Id B : Type 0} {bin_cmp : B → B → Ordering} (o : IsTotalOrder bin_cmp) where
  -- a session stays one where a bin grows
  IsSession-grown : (id : B) (axis : Axis) (by : ℕ) (old : State Id B) (bin : Bin) → lookup (is_at (bin_cmp id)) old.bins ≡ Some bin
      → IsSession bin_cmp old
      → IsSession bin_cmp (record old { bins = set_value (is_at (bin_cmp id)) old.bins (grown_bin axis by bin) })
  IsSession-grown id axis by old bin there h = record {
    covered = λ q after found. (each q after found (is_eq (bin_cmp id q)) refl).0;
    from_cuts = λ q after found not_so. (each q after found (is_eq (bin_cmp id q)) refl).1 not_so;
    known = known-kept bin_cmp old.bins (set_value (is_at (bin_cmp id)) old.bins (grown_bin axis by bin))
        (keys-set_value (is_at (bin_cmp id)) old.bins (grown_bin axis by bin)) old.outstanding h.known;
    rising = h.rising;
    below = h.below;
  }
    where
      each : (q : B) (after : Bin) → lookup (is_at (bin_cmp q)) (set_value (is_at (bin_cmp id)) old.bins (grown_bin axis by bin)) ≡ Some after
          → (b : Bool) → is_eq (bin_cmp id q) ≡ b
          → CoverBin (boxes_of bin_cmp old.outstanding q after) after.size
          × (after.coalesced ≡ false → IsFromCuts (boxes_of bin_cmp old.outstanding q after) (whole after.size))
      each q after found true e =
          let now : Some after ≡ Some (grown_bin axis by bin) = sym found ∙ lookup-written o id old.bins bin (grown_bin axis by bin) q there ∙ rw e refl in
          let is : after ≡ grown_bin axis by bin = cc in
          let was = sym (lookup-equal o id q ((Equal-is _).0 e) old.bins) ∙ there in
          let beside = outstanding_in bin_cmp old.outstanding q in
          rw is (
            CoverBin-grown axis by bin.size bin.sections beside (h.covered q bin was),
            λ not_so. IsFromCuts-grown axis by bin.size bin.sections beside (h.from_cuts q bin was not_so),
          )
      each q after found false e =
          let was = sym (lookup-written o id old.bins bin (grown_bin axis by bin) q there ∙ rw e refl) ∙ found in
          (h.covered q after was, h.from_cuts q after was)

  -- one bin of a map is written, grown: the bin grows, and a session stays one
  pub grown-written : (id : B) (axis : Axis) (by : ℕ) (old new : List (B × Held)) (v w : Held) (outstanding : List (Outstanding Id B)) (next : ℕ)
      → lookup (is_at (bin_cmp id)) old ≡ Some v → new ≡ set_value (is_at (bin_cmp id)) old w → w.bin ≡ grown_bin axis by v.bin
      → extent axis v.bin.size + by < 2 ^ 32
      → IsSession bin_cmp (record { bins = bins_of old; outstanding = outstanding; next = next })
      → GrowsBin bin_cmp id axis by (record { bins = bins_of old; outstanding = outstanding; next = next }) Done (record {
        bins = bins_of new;
        outstanding = outstanding;
        next = next;
      }) × IsSession bin_cmp (record { bins = bins_of new; outstanding = outstanding; next = next })
  grown-written id axis by old new v w outstanding next found written grows fits h =
      let there = Some-bins_of (is_at (bin_cmp id)) old v found in
      let is = bins_of-written (is_at (bin_cmp id)) old new w (grown_bin axis by v.bin) written grows in (
        (v.bin, there, fits, ap (λ (bs : List (B × Bin)). record { bins = bs; outstanding = outstanding; next = next }) is),
        rw is (IsSession-grown id axis by (record { bins = bins_of old; outstanding = outstanding; next = next }) v.bin there h),
      )

-- where the test of a growth answers false, the side would be too large
pub not_below : (r : Bool) (n m : ℕ) → IsTrue r ↔ (n < m) → r ≡ false → m ≤ n
not_below r n m test fails = elim (cases_lt n m) [
  | inl lt ↦ absurd (both_ways r fails (test.1 lt))
  | inr ge ↦ omega arith
]
