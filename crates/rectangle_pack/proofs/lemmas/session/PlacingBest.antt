-- A box that is placed where it fits best: in which bin, and the session stays one.
use Rattle.std.specs.Bool.{OnTrue, OnFalse}
use Rattle.rectangle_pack_sections.proofs.Std.{◌≡◌, ℕ, ◌+◌, ◌<◌, ◌≤◌, ◌^◌, List, [], ◌∷◌, ◌++◌, refl, ap, sym, ◌∙◌, arith, Option, Some, None, Ok}
use Rattle.rectangle_pack_sections.proofs.Std.{Ordering, Equal, IsTotalOrder, All, All-nil, All-cons, All-push, All-append, All-weaker, append-nil, append_assoc, IfNone, IfSome, IsSome, is_some, true, false}
use Rattle.rectangle_pack_sections.proofs.Std.{IsPermutation, IsPermutation-append_left, is_at, lookup, set_value, subst, Bool, MatchOption, inl, inr, cases_lt, tied_itself, Bor, map, map-append, map_push, deref_pair}
use Rattle.rectangle_pack_sections.specs.Boxes.{Size, Cuboid, Holds}
use Rattle.rectangle_pack_sections.specs.Bins.{Bin, Held, bins_of}
use Rattle.rectangle_pack_sections.specs.Closures.{Answers}
use Rattle.rectangle_pack_sections.specs.LeastSides.{least_rest}
use Rattle.rectangle_pack_sections.proofs.lemmas.cuts.SameBoxes.{HaveSameBoxes-permutation, IsFromCuts-same}
use Rattle.rectangle_pack_sections.proofs.lemmas.util.Maps.{lookup-equal, congr_right}
use Rattle.rectangle_pack_bins.specs.BestFit.{LeavesAtLeast, LeavesMore, IsBestFit, IsPlacedBest}
use Rattle.rectangle_pack_bins.specs.private.Indices.{IsBestFitAt}
use Rattle.rectangle_pack_bins.proofs.lemmas.bins.BestFits.{moved_to_end}
use Rattle.rectangle_pack_bins.proofs.lemmas.bins.Maps.{is_some-bins_of}
use Rattle.rectangle_pack_packing.proofs.lemmas.packing.Frame.{IsLoose-recut}
use Rattle.rectangle_pack_packing.proofs.lemmas.packing.KeepsCuts.{KeepsBoxes, IsFrame-boxes, KeptBySteps-boxes}
use Rattle.rectangle_pack.specs.declared.session.command.Outstanding.{Outstanding}
use Rattle.rectangle_pack.specs.declared.session.placing_best.Best.{Best}
use Rattle.rectangle_pack.specs.Session.{IsSession}
use Rattle.rectangle_pack.specs.PlacingBest.{IsChosen, IsBestBin, IsThere, IsUnknown, PlacesBest}
use Rattle.rectangle_pack.specs.private.BestPlaces.{IsBestPlace, IsBestSeen}
use Rattle.rectangle_pack.proofs.lemmas.session.Packing.{state}
use Rattle.rectangle_pack.proofs.lemmas.session.Keeps.{Some-bins_of, None-bins_of}
use Rattle.rectangle_pack.proofs.lemmas.session.PlacingAt.{IsSession-put}

-- of no section that holds the box it leaves less than of the one that it fits best
all_leave : (size box : Size) (sections : List Cuboid) (best : Cuboid) → IsBestFit size sections box best
    → LeavesAtLeast (least_rest size best box) size box sections
all_leave size box sections best fits =
    let rest = least_rest size best box in
    let P : Cuboid → Type 0 = λ s. Holds s box → rest ≤ least_rest size s box in
    rw fits.splits (All-append P fits.before (best ∷ fits.after) fits.older
    (All-cons P best fits.after (λ held. omega arith)
    (All-weaker (λ s. Holds s box → rest < least_rest size s box) P (λ s more held. omega (arith, more held)) fits.after fits.newer)))

all_leave_at : (size box : Size) (sections : List Cuboid) (index rest : ℕ) → IsBestFitAt size sections box index rest → LeavesAtLeast rest size box sections
all_leave_at size box sections index rest (best, fits, long, is) = rw is (all_leave size box sections best fits)

-- where it leaves at least as much, it leaves more than what is less
more_than : (size box : Size) (sections : List Cuboid) (less rest : ℕ) → less < rest → LeavesAtLeast rest size box sections → LeavesMore less size box sections
more_than size box sections less rest lt = All-weaker (λ s. Holds s box → rest ≤ least_rest size s box) (λ s. Holds s box → less < least_rest size s box)
    (λ s le held. omega (arith, lt, le held)) sections

at_least : (size box : Size) (sections : List Cuboid) (less rest : ℕ) → less ≤ rest → LeavesAtLeast rest size box sections → LeavesAtLeast less size box sections
at_least size box sections less rest lt = All-weaker (λ s. Holds s box → rest ≤ least_rest size s box) (λ s. Holds s box → less ≤ least_rest size s box)
    (λ s le held. omega (arith, lt, le held)) sections

module _ {B : Type 0} (bin_cmp : B → B → Ordering) (o : IsTotalOrder bin_cmp) (box : Size) (all : List (B × Bin)) where
  abbrev None_holds : B × Bin → Type 0
  None_holds e = All (λ s. ¬ Holds s box) e.1.sections

  module _ (seen : List (B × Bin)) (key : B) (bin : Bin) where
    -- one bin more, in which no section holds the box
    pub seen-past : (id : B) (index rest : ℕ) → None_holds (key, bin) → IsBestSeen bin_cmp box all seen id index rest
        → IsBestSeen bin_cmp box all (seen ++ (key, bin) ∷ []) id index rest
    seen-past id index rest none (found, there, first, at) = (
      found,
      there,
      record {
        before = first.before;
        key = first.key;
        after = first.after ++ (key, bin) ∷ [];
        splits = rw first.splits (append_assoc first.before ((first.key, found) ∷ first.after) ((key, bin) ∷ []));
        same = first.same;
        earlier = first.earlier;
        later = All-push (λ (e : B × Bin). LeavesAtLeast rest e.1.size box e.1.sections) first.after (key, bin) first.later
            (λ k d within held. absurd (none k d within held));
      },
      at,
    )

    -- one bin more, in which the box leaves no less
    pub seen-kept : (id : B) (index rest here more : ℕ) → rest ≤ more → IsBestFitAt bin.size bin.sections box here more
        → IsBestSeen bin_cmp box all seen id index rest → IsBestSeen bin_cmp box all (seen ++ (key, bin) ∷ []) id index rest
    seen-kept id index rest here more le fits (found, there, first, at) = (
      found,
      there,
      record {
        before = first.before;
        key = first.key;
        after = first.after ++ (key, bin) ∷ [];
        splits = rw first.splits (append_assoc first.before ((first.key, found) ∷ first.after) ((key, bin) ∷ []));
        same = first.same;
        earlier = first.earlier;
        later = All-push (λ (e : B × Bin). LeavesAtLeast rest e.1.size box e.1.sections) first.after (key, bin) first.later
            (at_least bin.size box bin.sections rest more le (all_leave_at bin.size box bin.sections here more fits));
      },
      at,
    )

    -- the bin itself, where of each section in a bin before it the box leaves more
    pub seen-here : (index rest : ℕ) (after : List (B × Bin)) → bin_cmp key key ≡ Equal → lookup (is_at (bin_cmp key)) all ≡ Some bin
        → IsBestFitAt bin.size bin.sections box index rest
        → All (λ e. LeavesMore rest e.1.size box e.1.sections) seen → All (λ e. LeavesAtLeast rest e.1.size box e.1.sections) after
        → IsBestSeen bin_cmp box all (seen ++ (key, bin) ∷ after) key index rest
    seen-here index rest after same there fits earlier later = (
      bin,
      there,
      record { before = seen; key = key; after = after; splits = refl; same = same; earlier = earlier; later = later },
      fits,
    )

  -- of each section of the bins that were looked at the box leaves more than what is less
  pub seen-more : (seen : List (B × Bin)) (id : B) (index rest less : ℕ) → less < rest → IsBestSeen bin_cmp box all seen id index rest
      → All (λ e. LeavesMore less e.1.size box e.1.sections) seen
  seen-more seen id index rest less lt (found, there, first, at) =
      let P : B × Bin → Type 0 = λ e. LeavesMore less e.1.size box e.1.sections in
      rw first.splits (All-append P first.before ((first.key, found) ∷ first.after)
      (All-weaker (λ (e : B × Bin). LeavesMore rest e.1.size box e.1.sections) P
      (λ e more. All-weaker (λ s. Holds s box → rest < least_rest e.1.size s box) (λ s. Holds s box → less < least_rest e.1.size s box)
      (λ s gt held. omega (arith, lt, gt held)) e.1.sections more) first.before first.earlier)
      (All-cons P (first.key, found) first.after
      (more_than found.size box found.sections less rest lt (all_leave_at found.size box found.sections index rest at))
      (All-weaker (λ (e : B × Bin). LeavesAtLeast rest e.1.size box e.1.sections) P
      (λ e least. more_than e.1.size box e.1.sections less rest lt least) first.after first.later)))

  -- where no section holds it, it leaves more of each
  pub none-more : (seen : List (B × Bin)) (less : ℕ) → All None_holds seen → All (λ e. LeavesMore less e.1.size box e.1.sections) seen
  none-more seen less = All-weaker None_holds (λ (e : B × Bin). LeavesMore less e.1.size box e.1.sections)
      (λ e none k d within held. absurd (none k d within held)) seen

  -- of each section that holds the box it leaves at least 0
  pub leaves_none : (after : List (B × Bin)) → All (λ e. LeavesAtLeast 0 e.1.size box e.1.sections) after
  leaves_none after k d within j s inside held = omega arith

  -- what is known once these bins were looked at
  abbrev pub IsSoFar : List (B × Bin) → Option (Best B) → Type 0
  IsSoFar seen best = MatchOption best (All None_holds seen) (λ b. IsBestSeen bin_cmp box all seen b.bin.now b.index b.rest × (0 < b.rest))

  -- one bin more, in which no section holds the box
  pub so_far-past : (seen : List (B × Bin)) (key : B) (bin : Bin) (best : Option (Best B)) → None_holds (key, bin) → IsSoFar seen best
      → IsSoFar (seen ++ (key, bin) ∷ []) best
  so_far-past seen key bin None none h = All-push None_holds seen (key, bin) h none
  so_far-past seen key bin (Some b) none h = (seen-past seen key bin b.bin.now b.index b.rest none h.0, h.1)

  module _ (seen : List (B × Bin)) (here : Best B) (bin : Bin) (there : lookup (is_at (bin_cmp here.bin.now)) all ≡ Some bin)
      (fits : IsBestFitAt bin.size bin.sections box here.index here.rest) where
    -- of each section of a bin that was looked at the box leaves more
    leaves_more : (best : Option (Best B)) → IfSome best (λ b. here.rest < b.rest) → IsSoFar seen best
        → All (λ e. LeavesMore here.rest e.1.size box e.1.sections) seen
    leaves_more None less h = none-more seen here.rest h
    leaves_more (Some b) less h = seen-more seen b.bin.now b.index b.rest here.rest less h.0

    -- one bin more, and the better of it and the best so far
    pub so_far-closer : (best : Option (Best B)) (later : Best B) → 0 < here.rest → IfSome best (λ b. b.rest ≤ here.rest → later ≡ b)
        → (IfSome best (λ b. here.rest < b.rest) → later ≡ here) → IsSoFar seen best
        → IsSoFar (seen ++ (here.bin.now, bin) ∷ []) (Some later)
    so_far-closer best later left kept taken h = by best kept taken h
      where
        this : (best : Option (Best B)) → IfSome best (λ b. here.rest < b.rest) → IsSoFar seen best
            → IsSoFar (seen ++ (here.bin.now, bin) ∷ []) (Some here)
        this best less h = (
          seen-here seen here.bin.now bin here.index here.rest [] (tied_itself o here.bin.now) there fits (leaves_more best less h)
              (All-nil (λ (e : B × Bin). LeavesAtLeast here.rest e.1.size box e.1.sections)),
          left,
        )

        by : (best : Option (Best B)) → IfSome best (λ b. b.rest ≤ here.rest → later ≡ b)
            → (IfSome best (λ b. here.rest < b.rest) → later ≡ here) → IsSoFar seen best
            → IsSoFar (seen ++ (here.bin.now, bin) ∷ []) (Some later)
        by None kept taken h = rw (taken tt) (this None tt h)
        by (Some b) kept taken h = elim (cases_lt here.rest b.rest) [
          | inl lt ↦ rw (taken lt) (this (Some b) lt h)
          | inr le
              ↦ rw (kept (omega arith)) (seen-kept seen here.bin.now bin b.bin.now b.index b.rest here.index here.rest (omega arith) fits h.0, h.1)
        ]

    -- the box leaves nothing there, so no later bin is better
    pub so_far-none_left : (best : Option (Best B)) (after : List (B × Bin)) → here.rest ≡ 0 → all ≡ seen ++ (here.bin.now, bin) ∷ after
        → IsSoFar seen best → IsBestSeen bin_cmp box all all here.bin.now here.index here.rest
    so_far-none_left best after none is h =
        subst (λ bins. IsBestSeen bin_cmp box all bins here.bin.now here.index here.rest) (sym is)
        (seen-here seen here.bin.now bin here.index here.rest after (tied_itself o here.bin.now) there fits (leaves_more best (less best h) h)
        (rw none (leaves_none after)))
      where
        less : (best : Option (Best B)) → IsSoFar seen best → IfSome best (λ b. here.rest < b.rest)
        less None h = tt
        less (Some b) h = omega (arith, none, h.1)

  -- what is known once all bins were looked at
  pub so_far-end : (best : Option (Best B)) → IsSoFar all best
      → IfNone best (All None_holds all) × IfSome best (λ b. IsBestSeen bin_cmp box all all b.bin.now b.index b.rest)
  so_far-end None h = (h, tt)
  so_far-end (Some b) h = (tt, h.0)

  -- of all bins this is the one
  pub seen_all : (id : B) (index rest : ℕ) → IsBestSeen bin_cmp box all all id index rest → IsBestPlace bin_cmp None box all id index
  seen_all id index rest (bin, there, first, (best, fits, long, is)) = (
    bin,
    best,
    record { there = there; fits = fits; chosen = rw is at first },
    long,
  )

  pub seen_all-found : (found : Option (Best B)) → IfSome found (λ b. IsBestSeen bin_cmp box all all b.bin.now b.index b.rest)
      → IfSome found (λ b. IsBestPlace bin_cmp None box all b.bin.now b.index)
  seen_all-found None h = tt
  seen_all-found (Some b) h = seen_all b.bin.now b.index b.rest h

  -- the bin that is named is the one
  pub place-named : (name id : B) (bin : Bin) (index rest : ℕ) → bin_cmp name id ≡ Equal → lookup (is_at (bin_cmp name)) all ≡ Some bin
      → IsBestFitAt bin.size bin.sections box index rest → IsBestPlace bin_cmp (Some name) box all id index
  place-named name id bin index rest same found (best, fits, long, is) = (
    bin,
    best,
    record { there = sym (lookup-equal o name id same all) ∙ found; fits = fits; chosen = same },
    long,
  )

  -- and that is so by each id that equals its own
  pub place-equal : (named : Option B) (id equal : B) (bin : Bin) (best : Cuboid) → bin_cmp id equal ≡ Equal → IsBestBin bin_cmp named box all id bin best
      → IsBestBin bin_cmp named box all equal bin best
  place-equal named id equal bin best same at = record {
    there = sym (lookup-equal o id equal same all) ∙ at.there;
    fits = at.fits;
    chosen = chosen named at.chosen;
  }
    where
      chosen : (named : Option B) → IsChosen bin_cmp named box (least_rest bin.size best box) all id bin
          → IsChosen bin_cmp named box (least_rest bin.size best box) all equal bin
      chosen None first = record {
        before = first.before;
        key = first.key;
        after = first.after;
        splits = first.splits;
        same = sym (o.congr id equal first.key same) ∙ first.same;
        earlier = first.earlier;
        later = first.later;
      }
      chosen (Some name) is = sym (congr_right o id equal name same) ∙ is

-- the bins that were looked at, with one more
pub bins_of-yielded : {B : Type 0} (xs : List (Bor B × Bor Held)) (x : Bor B × Bor Held)
    → bins_of (map deref_pair (xs ++ x ∷ [])) ≡ bins_of (map deref_pair xs) ++ (x.0.now, x.1.now.bin) ∷ []
bins_of-yielded xs x = ap bins_of (map_push deref_pair xs x) ∙ map_push (λ e. (e.0, e.1.bin)) (map deref_pair xs) (deref_pair x)

-- all bins: those that were looked at, one more, and the others
pub bins_of-split : {B : Type 0} (all seen rest : List (B × Held)) (key : B) (held : Held) (after : List (B × Held))
    → all ≡ seen ++ rest → rest ≡ (key, held) ∷ after → bins_of all ≡ bins_of seen ++ (key, held.bin) ∷ bins_of after
bins_of-split all seen rest key held after is next =
    rw (is, next) (map-append (λ e. (e.0, e.1.bin)) seen ((key, held) ∷ after))

-- the order of a list does not matter
KeepsBoxes-moved : (coalesced : Bool) (xs ys : List Cuboid) → IsPermutation xs ys → KeepsBoxes coalesced xs ys
KeepsBoxes-moved coalesced xs ys moved = (
  IsLoose-recut.moves xs ys moved,
  λ not_so. record {
    kept = λ beside whole from.
        IsFromCuts-same (xs ++ beside) (ys ++ beside)
        (HaveSameBoxes-permutation (xs ++ beside) (ys ++ beside) (IsPermutation-append_left beside xs ys moved)) from;
  },
)

-- the boxes of a bin, with the box that is placed
KeepsBoxes-best : (may : Answers) (bin : Bin) (box : Size) (location : Cuboid) (after : Bin) → IsPlacedBest may bin box (Some location) after
    → KeepsBoxes after.coalesced bin.sections (after.sections ++ location ∷ [])
KeepsBoxes-best may bin box location after (best, fits, left, step, is) = rw is
    (let frame = IsFrame-boxes bin.coalesced in
    let last = fits.before ++ fits.after ++ best ∷ [] in
    let moved : KeepsBoxes bin.coalesced bin.sections (last ++ []) = rw (append-nil last, fits.splits)
    (KeepsBoxes-moved bin.coalesced (fits.before ++ best ∷ fits.after) last (moved_to_end fits.before best fits.after)) in
    frame.next bin.sections last [] left (location ∷ []) moved ((KeptBySteps-boxes may bin.coalesced).step last box location left 1 step))

-- whether the bin that is named is there
pub named-there : {B : Type 0} (bin_cmp : B → B → Ordering) (name : B) (es : List (B × Held)) (found : Bool)
    → found ≡ is_some (lookup (is_at (bin_cmp name)) es)
    → OnTrue found (IsThere bin_cmp (Some name) (bins_of es)) × OnFalse found (IsUnknown bin_cmp (Some name) (bins_of es))
named-there bin_cmp name es true is = (is_some-bins_of (is_at (bin_cmp name)) es ∙ sym is, tt)
named-there bin_cmp name es false is = (tt, none (lookup (is_at (bin_cmp name)) es) refl)
  where
    none : (o : Option Held) → lookup (is_at (bin_cmp name)) es ≡ o → lookup (is_at (bin_cmp name)) (bins_of es) ≡ None
    none None e = None-bins_of (is_at (bin_cmp name)) es e
    none (Some held) e =
        let other : false ≡ true = is ∙ rw e refl in
        absurd cc

-- a bin that is there is found
pub found-absent : {B : Type 0} (bin_cmp : B → B → Ordering) (name : B) (bins : List (B × Bin)) → IsThere bin_cmp (Some name) bins
    → lookup (is_at (bin_cmp name)) bins ≡ None → ⊥
found-absent bin_cmp name bins there absent =
    let some : IsSome {T = Bin} None = rw absent at there in
    absurd cc

-- the bin is in the map, with room, and the box fits the section at the index best there
pub best-held : {B : Type 0} {bin_cmp : B → B → Ordering} → IsTotalOrder bin_cmp → (named : Option B) (box : Size) (es : List (B × Held)) (key id : B) (index : ℕ)
    → bin_cmp key id ≡ Equal → IsBestPlace bin_cmp named box (bins_of es) key index
    → IsSome (lookup (is_at (bin_cmp id)) es)
    × IfSome (lookup (is_at (bin_cmp id)) es) (λ held. (rest : ℕ) × IsBestFitAt held.bin.size held.bin.sections box index rest)
best-held {B} {bin_cmp} o named box es key id index same (bin, best, at, long) = by (lookup (is_at (bin_cmp id)) es) refl
  where
    there : lookup (is_at (bin_cmp id)) (bins_of es) ≡ Some bin
    there = (place-equal bin_cmp o box (bins_of es) named key id bin best same at).there

    by : (found : Option Held) → lookup (is_at (bin_cmp id)) es ≡ found
        → IsSome found × IfSome found (λ held. (rest : ℕ) × IsBestFitAt held.bin.size held.bin.sections box index rest)
    by None e =
        let none : Some bin ≡ None = sym there ∙ None-bins_of (is_at (bin_cmp id)) es e in
        absurd cc
    by (Some held) e =
        let some : Some held.bin ≡ Some bin = sym (Some-bins_of (is_at (bin_cmp id)) es held e) ∙ there in
        let is : held.bin ≡ bin = cc in
        (refl, subst (λ (b : Bin). (rest : ℕ) × IsBestFitAt b.size b.sections box index rest) (sym is) (least_rest bin.size best box, (best, at.fits, long, refl)))

module _ {Id B : Type 0} {bin_cmp : B → B → Ordering} (o : IsTotalOrder bin_cmp) (may : Answers) where
  -- a box is placed in the bin where it fits best, and its placement is pushed: what is answered, and what always holds
  pub placed-best : (named : Option B) (box : Size) (r : Outstanding Id B) (key : B) (index : ℕ) (old new : List (B × Bin)) (outstanding later : List (Outstanding Id B))
      (next after : ℕ) → bin_cmp key r.bin ≡ Equal → IsBestPlace bin_cmp named box old key index
      → (bin : Bin) → lookup (is_at (bin_cmp r.bin)) old ≡ Some bin → (left : Bin) → IsPlacedBest may bin box (Some r.location) left
      → new ≡ set_value (is_at (bin_cmp r.bin)) old left
      → next + 1 < 2 ^ 64 → after ≡ next + 1 → later ≡ outstanding ++ r ∷ [] → r.number ≡ next → IsSession bin_cmp (state old outstanding next)
      → PlacesBest bin_cmp may named r.id box (state old outstanding next) (Ok r.number) (state new later after)
      × IsSession bin_cmp (state new later after)
  placed-best named box r key index old new outstanding later next after same (chosen, best, at, long) bin there left placed are fits follows added number h =
      let here = place-equal bin_cmp o box old named key r.bin chosen best same at in
      let is : Some chosen ≡ Some bin = sym here.there ∙ there in
      let one : chosen ≡ bin = cc in (
        (fits, number, r.bin, r.location, (chosen, best, here, left, rw one placed, are), added, follows),
        IsSession-put o (state old outstanding next) (state new later after) r bin left there (rw placed.4 refl)
            (KeepsBoxes-best may bin box r.location left placed) are added number follows h,
      )
