-- Bins of a session that are cut anew.
use Rattle.rectangle_pack_sections.proofs.Std.{◌≡◌, ℕ, ◌+◌, List, [], ◌++◌, refl, ap, sym, ◌∙◌, arith, rules, Bool, true, false, All, filter, Some, All-weaker, All-filter}
use Rattle.rectangle_pack_sections.proofs.Std.{Ordering, IsTotalOrder, Equal-is, is_eq, lookup, set_value, is_at, keys-set_value}
use Rattle.rectangle_pack_sections.proofs.Std.{All-append, map, tied_itself}
use Rattle.std.proofs.lemmas.List.Elements.{filter_agree}
use Rattle.rectangle_pack.specs.declared.session.command.Outstanding.{Outstanding}
use Rattle.rectangle_pack.specs.declared.session.command.Reply.TheVariants.{Done}
use Rattle.rectangle_pack_sections.specs.Boxes.{Size, Cuboid, Cell, IsInside, IsPartOf, FitsU32, has_cells}
use Rattle.rectangle_pack_sections.specs.Bins.{Bin, Held, IsSound, whole, bins_of}
use Rattle.rectangle_pack_sections.specs.Counting.{times_filled}
use Rattle.rectangle_pack_sections.specs.Covering.{CoverBin}
use Rattle.rectangle_pack_sections.specs.CutTrees.{IsFromCuts}
use Rattle.rectangle_pack_plans.specs.CuttingAnew.{IsCutAnew}
use Rattle.rectangle_pack.specs.Session.{State, outstanding_in, boxes_of, IsSession}
use Rattle.rectangle_pack.specs.Recutting.{standing_in, Recuts, KeepsFree, IsCutStraight, IsWholeIfEmpty}
use Rattle.rectangle_pack_sections.proofs.lemmas.util.Lists.{All-back}
use Rattle.rectangle_pack_sections.proofs.lemmas.util.Maps.{congr_right, lookup-equal, lookup-written}
use Rattle.rectangle_pack_sections.proofs.lemmas.cuts.Counting.{apart_from_counts, filled-append, filled-filter, filled-nil, filled_one, filled_yes}
use Rattle.rectangle_pack_sections.proofs.lemmas.cuts.Times.{times_in-append, All-times_in, All-from_times_in}
use Rattle.rectangle_pack_sections.proofs.lemmas.cuts.SameBoxes.{HaveSameBoxes-filter, IsFromCuts-same}
use Rattle.rectangle_pack_sections.proofs.lemmas.cuts.Trees.{IsFromCuts-part}
use Rattle.rectangle_pack_sections.proofs.lemmas.cuts.TreesFill.{IsFromCuts-tiles}
use Rattle.rectangle_pack_bins.proofs.lemmas.bins.Maps.{bins_of-written}
use Rattle.rectangle_pack_plans.proofs.lemmas.cut_plan.Filling.{IsFilled-bin}
use Rattle.rectangle_pack.proofs.lemmas.session.Keeps.{Some-bins_of, known-kept}
use Rattle.rectangle_pack.proofs.lemmas.session.Packing.{state}

module _ (size : Size) (boxes free : List Cuboid) (anew : IsCutAnew (whole size) (filter has_cells boxes) free) where
  -- boxes without cells may stand among those round which a bin is cut anew
  from_cuts-anew : IsFromCuts (free ++ boxes) (whole size)
  from_cuts-anew = IsFromCuts-same (free ++ filter has_cells boxes) (free ++ boxes)
      (λ e cells. omega (
        arith,
        times_in-append e free (filter has_cells boxes),
        times_in-append e free boxes,
        HaveSameBoxes-filter boxes e cells,
      )) anew.from_cuts

  -- the new free sections are inside the bin
  inside-anew : All (IsInside size) free
  inside-anew = All-from_times_in (IsInside size) free (λ e some.
      let cells : has_cells e ≡ true = All-times_in (λ s. has_cells s ≡ true) e free anew.cells some in
      let part : IsPartOf e (whole size) = IsFromCuts-part from_cuts-anew e cells (omega (arith, some, times_in-append e free boxes)) in
      search rules)

  -- they and the boxes cover the bin, where these are inside it
  covers-anew : All (IsInside size) boxes → CoverBin (free ++ boxes) size
  covers-anew inside = record {
    inside = All-append (IsInside size) free boxes inside-anew inside;
    once = λ c h. omega (arith, (IsFromCuts-tiles (free ++ boxes) (whole size) from_cuts-anew).same c, filled_yes c (whole size) [] h, filled-nil c);
  }

  -- they are sound
  pub sound-anew : IsSound size free
  sound-anew = record {
    inside = inside-anew;
    apart = apart_from_counts free (λ c. omega (
      arith,
      (IsFromCuts-tiles (free ++ boxes) (whole size) from_cuts-anew).same c,
      filled_one c (whole size),
      filled-append c free boxes,
    ));
  }

  -- the same cells are free as before
  filled-anew : FitsU32 (whole size) → (sections : List Cuboid) → CoverBin (sections ++ boxes) size → (c : Cell)
      → times_filled c free ≡ times_filled c sections
  filled-anew fits sections cover c = omega (
    arith,
    (IsFilled-bin size (sections ++ boxes) fits cover).tiles.same c,
    filled-filter c (sections ++ boxes),
    (IsFromCuts-tiles (free ++ boxes) (whole size) from_cuts-anew).same c,
    filled-append c sections boxes,
    filled-append c free boxes,
  )

-- all that is said of a session once a bin of it is cut anew
pub record IsRecutWell {Id B : Type 0} (bin_cmp : B → B → Ordering) (id : B) (old new : State Id B) : Type 0 where
  pub recut : Recuts bin_cmp id old Done new
  pub filled : KeepsFree bin_cmp old new
  pub from_cuts : IsCutStraight bin_cmp id new
  pub empty : IsWholeIfEmpty bin_cmp id new
  pub always : IsSession bin_cmp new

module _ {Id B : Type 0} {bin_cmp : B → B → Ordering} (o : IsTotalOrder bin_cmp) where
  -- what stands in a bin stands in it under each id that equals its own
  outstanding_in-equal : (id q : B) → is_eq (bin_cmp id q) ≡ true → (rs : List (Outstanding Id B))
      → outstanding_in bin_cmp rs q ≡ outstanding_in bin_cmp rs id
  outstanding_in-equal id q e rs = ap (map (λ (r : Outstanding Id B). r.location))
      (filter_agree (λ r. is_at (bin_cmp r.bin) q) (λ r. is_at (bin_cmp r.bin) id)
      (λ r. sym (ap is_eq (congr_right o id q r.bin ((Equal-is _).0 e)))) rs)

  module _ (id : B) (old : State Id B) (bin : Bin) (there : lookup (is_at (bin_cmp id)) old.bins ≡ Some bin) (free : List Cuboid)
      (anew : IsCutAnew (whole bin.size) (standing_in bin_cmp old.outstanding id) free) where
    abbrev recut : Bin
    recut = record bin { sections = free }

    abbrev recut_state : State Id B
    recut_state = record old { bins = set_value (is_at (bin_cmp id)) old.bins recut }

    -- under each id that equals its own stands the bin, cut anew
    found_here : (q : B) (after : Bin) → lookup (is_at (bin_cmp q)) recut_state.bins ≡ Some after → is_eq (bin_cmp id q) ≡ true → after ≡ recut
    found_here q after found e =
        let now : Some after ≡ Some recut = sym found ∙ lookup-written o id old.bins bin recut q there ∙ rw e refl in
        cc

    -- and under another id what stood there
    found_beside : (q : B) (after : Bin) → lookup (is_at (bin_cmp q)) recut_state.bins ≡ Some after → is_eq (bin_cmp id q) ≡ false
        → lookup (is_at (bin_cmp q)) old.bins ≡ Some after
    found_beside q after found e = sym (lookup-written o id old.bins bin recut q there ∙ rw e refl) ∙ found

    IsSession-recut : IsSession bin_cmp old → IsSession bin_cmp recut_state
    IsSession-recut h = record {
      covered = λ q after found. (each q after found (is_eq (bin_cmp id q)) refl).0;
      from_cuts = λ q after found not_so. (each q after found (is_eq (bin_cmp id q)) refl).1 not_so;
      known = known-kept bin_cmp old.bins recut_state.bins (keys-set_value (is_at (bin_cmp id)) old.bins recut) old.outstanding h.known;
      rising = h.rising;
      below = h.below;
    }
      where
        each : (q : B) (after : Bin) → lookup (is_at (bin_cmp q)) recut_state.bins ≡ Some after → (b : Bool) → is_eq (bin_cmp id q) ≡ b
            → CoverBin (boxes_of bin_cmp old.outstanding q after) after.size
            × (after.coalesced ≡ false → IsFromCuts (boxes_of bin_cmp old.outstanding q after) (whole after.size))
        each q after found true e =
            let boxes = outstanding_in bin_cmp old.outstanding id in
            rw (found_here q after found e, outstanding_in-equal id q e old.outstanding) (
              covers-anew bin.size boxes free anew (All-back (IsInside bin.size) bin.sections boxes (h.covered id bin there).inside),
              λ not_so. from_cuts-anew bin.size boxes free anew,
            )
        each q after found false e =
            let was = found_beside q after found e in
            (h.covered q after was, h.from_cuts q after was)

    KeepsFree-recut : FitsU32 (whole bin.size) → IsSession bin_cmp old → KeepsFree bin_cmp old recut_state
    KeepsFree-recut fits h q before after was found c = by (is_eq (bin_cmp id q)) refl
      where
        by : (b : Bool) → is_eq (bin_cmp id q) ≡ b → times_filled c after.sections ≡ times_filled c before.sections
        by true e =
            let same : Some before ≡ Some bin = sym was ∙ sym (lookup-equal o id q ((Equal-is _).0 e) old.bins) ∙ there in
            let is : before ≡ bin = cc in
            rw (is, found_here q after found e)
            (filled-anew bin.size (outstanding_in bin_cmp old.outstanding id) free anew fits bin.sections (h.covered id bin there) c)
        by false e =
            let same : Some after ≡ Some before = sym (found_beside q after found e) ∙ was in
            let is : after ≡ before = cc in
            rw is refl

    IsCutStraight-recut : IsCutStraight bin_cmp id recut_state
    IsCutStraight-recut after found = rw (found_here id after found (ap is_eq (tied_itself o id)))
        (from_cuts-anew bin.size (outstanding_in bin_cmp old.outstanding id) free anew)

    IsWholeIfEmpty-recut : IsWholeIfEmpty bin_cmp id recut_state
    IsWholeIfEmpty-recut after found none cells =
        let is : after ≡ recut = found_here id after found (ap is_eq (tied_itself o id)) in
        rw is (anew.empty (rw is at cells) none)

  -- one bin of a map is written, cut anew: what is said of the bin, and what always holds
  pub recut-written : (id : B) (old new : List (B × Held)) (v w : Held) (free : List Cuboid) (outstanding : List (Outstanding Id B)) (next : ℕ)
      → lookup (is_at (bin_cmp id)) old ≡ Some v → new ≡ set_value (is_at (bin_cmp id)) old w → w.bin ≡ record v.bin { sections = free }
      → FitsU32 (whole v.bin.size) → IsCutAnew (whole v.bin.size) (standing_in bin_cmp outstanding id) free
      → IsSession bin_cmp (state (bins_of old) outstanding next)
      → IsRecutWell bin_cmp id (state (bins_of old) outstanding next) (state (bins_of new) outstanding next)
  recut-written id old new v w free outstanding next found written is_new fits anew h =
      let was = state (bins_of old) outstanding next in
      let there = Some-bins_of (is_at (bin_cmp id)) old v found in
      let is = bins_of-written (is_at (bin_cmp id)) old new w (record v.bin { sections = free }) written is_new in
      rw is (record {
        recut = (v.bin, there, free, anew, refl);
        filled = KeepsFree-recut id was v.bin there free anew fits h;
        from_cuts = IsCutStraight-recut id was v.bin there free anew;
        empty = IsWholeIfEmpty-recut id was v.bin there free anew;
        always = IsSession-recut id was v.bin there free anew h;
      })

-- the boxes with cells that stand in a bin are parts of it
pub standing_inside : {Id B : Type 0} (bin_cmp : B → B → Ordering) (id : B) (state : State Id B) (bin : Bin)
    → lookup (is_at (bin_cmp id)) state.bins ≡ Some bin → IsSession bin_cmp state
    → All (λ b. IsPartOf b (whole bin.size)) (standing_in bin_cmp state.outstanding id)
standing_inside bin_cmp id state bin there h =
    let boxes = outstanding_in bin_cmp state.outstanding id in
    let inside : All (IsInside bin.size) boxes = All-back (IsInside bin.size) bin.sections boxes (h.covered id bin there).inside in
    All-weaker (IsInside bin.size) (λ b. IsPartOf b (whole bin.size)) (λ b in_bin. search rules) (filter has_cells boxes)
    (All-filter has_cells (IsInside bin.size) boxes inside)
