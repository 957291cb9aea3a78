-- What each change of a bin's boxes keeps: a step, a trial, a group that is placed, a packing.
use Rattle.rectangle_pack_sections.proofs.Std.{◌≡◌, ℕ, List, [], ◌∷◌, ◌++◌, refl, ap, sym, ◌∙◌, cond, true, false, Bool, arith, append-nil, append_assoc, Some}
use Rattle.rectangle_pack_sections.proofs.Std.{All, IsPermutation, Ordering, Equal, IsTotalOrder, Equal-is, is_eq, lookup, is_at, All-tail, All-append}
use Rattle.rectangle_pack_sections.proofs.Std.{All-push, All-weaker, IsPermutation-refl, IsPermutation-trans, IsPermutation-append_right}
use Rattle.rectangle_pack_sections.proofs.Std.{IsPermutation-append_comm, IsPermutation-middle, All-permutation}
use Rattle.rectangle_pack_packing.specs.declared.answer.Placement.{Placement}
use Rattle.rectangle_pack_sections.specs.Boxes.{Size, Cuboid, Cell, IsInside, IsPartOf, has_cells}
use Rattle.rectangle_pack_sections.specs.Bins.{Bin}
use Rattle.rectangle_pack_sections.specs.Closures.{Answers}
use Rattle.rectangle_pack_sections.specs.Counting.{times_filled}
use Rattle.rectangle_pack_sections.specs.Cuts.{placed}
use Rattle.rectangle_pack_packing.specs.KeptBins.{locations_in}
use Rattle.rectangle_pack_packing.specs.Packing.{Rules, Members, Stage, IsPlaced, AreAllPlaced}
use Rattle.rectangle_pack_lists.specs.Steps.{IsStep, IsDone}
use Rattle.rectangle_pack_sections.proofs.lemmas.util.Lists.{All-front, All-back, All-middle}
use Rattle.rectangle_pack_sections.proofs.lemmas.cuts.Counting.{filled-append, filled-cons, filled_none, filled-permutation}
use Rattle.rectangle_pack_sections.proofs.lemmas.util.Maps.{lookup-equal}
use Rattle.rectangle_pack_packing.proofs.lemmas.packing.Placed.{locations_in-here, locations_in-none, locations_in-append, lookup-placed}
use Rattle.rectangle_pack_lists.proofs.lemmas.trial.Steps.{IsStep-keeps, filled-step}

-- a relation between the boxes of a bin before and after a change: it goes on from one change to the next, boxes may stand
-- beside, a box may move to the end of the free sections, and a box without cells may go
pub record IsFrame (R : List Cuboid → List Cuboid → Type 0) : Type 0 where
  pub same : (xs : List Cuboid) → R xs xs
  pub next : (a b x d y : List Cuboid) → R a (b ++ x) → R b (d ++ y) → R a (d ++ (x ++ y))
  pub beside : (a b x z : List Cuboid) → R a (b ++ x) → R (a ++ z) (b ++ (z ++ x))
  pub moved : (free before after : List Cuboid) (box : Cuboid) → R (free ++ (before ++ box ∷ after)) ((free ++ box ∷ []) ++ (before ++ after))
  pub dropped : (free before after : List Cuboid) (box : Cuboid) → has_cells box ≡ false → R (free ++ (before ++ box ∷ after)) (free ++ (before ++ after))

-- and a step keeps it, with the box that it places
pub record KeptBySteps (may : Answers) (R : List Cuboid → List Cuboid → Type 0) : Type 0 where
  pub step : (sections : List Cuboid) (m : Size) (l : Cuboid) (next : List Cuboid) (n : ℕ) → IsStep may sections m l next n → R sections (next ++ l ∷ [])

-- what is enough for a frame: the order of a list does not matter, it goes on from one change to the next, boxes may stand
-- behind, and a first box without cells may go
pub record IsLoose (R : List Cuboid → List Cuboid → Type 0) : Type 0 where
  pub moves : (xs ys : List Cuboid) → IsPermutation xs ys → R xs ys
  pub next : (a b d : List Cuboid) → R a b → R b d → R a d
  pub behind : (a b z : List Cuboid) → R a b → R (a ++ z) (b ++ z)
  pub drops : (box : Cuboid) (xs : List Cuboid) → has_cells box ≡ false → R (box ∷ xs) xs

-- boxes behind two lists come between them
swapped : (d y x : List Cuboid) → IsPermutation ((d ++ y) ++ x) (d ++ (x ++ y))
swapped d y x = rw append_assoc (IsPermutation-append_right d (y ++ x) (x ++ y) (IsPermutation-append_comm y x))

pub IsFrame-loose : {R : List Cuboid → List Cuboid → Type 0} → IsLoose R → IsFrame R
IsFrame-loose loose = record {
  same = λ xs. loose.moves xs xs (IsPermutation-refl xs);
  next = λ a b x d y first next.
      loose.next a (b ++ x) (d ++ (x ++ y)) first
      (loose.next (b ++ x) ((d ++ y) ++ x) (d ++ (x ++ y)) (loose.behind b (d ++ y) x next) (loose.moves _ _ (swapped d y x)));
  beside = λ a b x z h. loose.next (a ++ z) ((b ++ x) ++ z) (b ++ (z ++ x)) (loose.behind a (b ++ x) z h) (loose.moves _ _ (swapped b x z));
  moved = λ free before after box. loose.moves _ _ (rw append_assoc (in_front free before after box));
  dropped = λ free before after box empty.
      let rest = free ++ (before ++ after) in
      let first =
      IsPermutation-trans _ (free ++ box ∷ (before ++ after)) _ (in_front free before after box) (IsPermutation-middle free box (before ++ after)) in
      loose.next _ (box ∷ rest) rest (loose.moves _ _ first) (loose.drops box rest empty);
}
  where
    in_front : (free before after : List Cuboid) (box : Cuboid) → IsPermutation (free ++ (before ++ box ∷ after)) (free ++ box ∷ (before ++ after))
    in_front free before after box = IsPermutation-append_right free (before ++ box ∷ after) (box ∷ (before ++ after)) (IsPermutation-middle before box after)

-- what holds of all boxes before, holds of all after
abbrev pub Passes : (Cuboid → Type 0) → List Cuboid → List Cuboid → Type 0
Passes P old new = All P old → All P new

IsLoose-passes : (P : Cuboid → Type 0) → IsLoose (Passes P)
IsLoose-passes P = record {
  moves = λ xs ys moved. All-permutation P xs ys moved;
  next = λ a b d first next h. next (first h);
  behind = λ a b z h az. All-append P b z (h (All-front P a z az)) (All-back P a z az);
  drops = λ box xs empty. All-tail P box xs;
}

pub IsFrame-passes : (P : Cuboid → Type 0) → IsFrame (Passes P)
IsFrame-passes P = IsFrame-loose {R = Passes P} (IsLoose-passes P)

-- a step keeps what passes from a box to each part of it
pub KeptBySteps-passes : (may : Answers) (P : Cuboid → Type 0) → ((b s : Cuboid) → IsPartOf b s → P s → P b) → KeptBySteps may (Passes P)
KeptBySteps-passes may P parts = record {
  step = λ sections m l next n step h.
      let here : P step.section = All-middle P sections step.before step.after step.section step.splits h in
      let fits = step.held in
      let part : IsPartOf (placed step.section m) step.section = record {
        from_x = omega arith;
        to_x = omega arith;
        from_y = omega arith;
        to_y = omega arith;
        from_z = omega arith;
        to_z = omega arith;
      } in
      let at : P l = rw step.location_is (parts (placed step.section m) step.section part here) in
      All-push P next l (IsStep-keeps may P sections m l next n parts step h) at;
}

-- each cell is filled as often as before, and what was inside a bin stays inside
pub record IsRecut (old new : List Cuboid) : Type 0 where
  pub cells : (c : Cell) → times_filled c new ≡ times_filled c old
  pub inside : (size : Size) → All (IsInside size) old → All (IsInside size) new

pub IsLoose-recut : IsLoose IsRecut
IsLoose-recut = record {
  moves = λ xs ys moved. record { cells = λ c. filled-permutation c xs ys moved; inside = λ size. (IsLoose-passes (IsInside size)).moves xs ys moved };
  next = λ a b d first next. record { cells = λ c. next.cells c ∙ first.cells c; inside = λ size h. next.inside size (first.inside size h) };
  behind = λ a b z h. record {
    cells = λ c. omega (arith, h.cells c, filled-append c a z, filled-append c b z);
    inside = λ size. (IsLoose-passes (IsInside size)).behind a b z (h.inside size);
  };
  drops = λ box xs empty. record {
    cells = λ c. omega (arith, filled-cons c box xs, filled_none c box empty);
    inside = λ size. (IsLoose-passes (IsInside size)).drops box xs empty;
  };
}

pub IsFrame-recut : IsFrame IsRecut
IsFrame-recut = IsFrame-loose IsLoose-recut

pub KeptBySteps-recut : (may : Answers) → KeptBySteps may IsRecut
KeptBySteps-recut may = record {
  step = λ sections m l next n step. record {
    cells = λ c. omega (arith, filled-append c next (l ∷ []), filled-step may c sections m l next n step);
    inside = λ size. (KeptBySteps-passes may (IsInside size)
        (λ b s part inside. record { within_x = omega arith; within_y = omega arith; within_z = omega arith })).step sections m l next n step;
  };
}

module _ {R : List Cuboid → List Cuboid → Type 0} (frame : IsFrame R) where
  -- a trial that is done keeps it, with its locations
  framed-done : (may : Answers) → KeptBySteps may R → (sections : List Cuboid) (ms : List Size) (ls last : List Cuboid) (n : ℕ)
      → IsDone may sections ms ls last n → R sections (last ++ ls)
  framed-done may kept sections [] ls last n done = rw (done.0, done.1, append-nil sections) (frame.same sections)
  framed-done may kept sections (m ∷ ms) [] last n done = absurd done
  framed-done may kept sections (m ∷ ms) (l ∷ ls) last n (next, one, others, step, done, count) =
      frame.next sections next (l ∷ []) last ls (kept.step sections m l next one step) (framed-done may kept next ms ls last others done)

-- the bin of this id is there after a change, with another list; it kept the rest, and the relation holds, with what was placed in it
pub record IsChanged {Id B : Type 0} (R : List Cuboid → List Cuboid → Type 0) (bin_cmp : B → B → Ordering) (placements : List (Placement Id B))
    (new : List (B × Bin)) (id : B) (before : Bin) : Type 0 where
  pub after : Bin
  pub found : lookup (is_at (bin_cmp id)) new ≡ Some after
  pub kept : after ≡ record before { sections = after.sections }
  pub framed : R before.sections (after.sections ++ locations_in bin_cmp placements id)

-- one change after another
pub IsChanged-next : {R : List Cuboid → List Cuboid → Type 0} → IsFrame R → {Id B : Type 0} (bin_cmp : B → B → Ordering)
    (first later placements : List (Placement Id B)) (next new : List (B × Bin)) (id : B) (before : Bin)
    → (head : IsChanged R bin_cmp first next id before) → IsChanged R bin_cmp later new id head.after → placements ≡ first ++ later
    → IsChanged R bin_cmp placements new id before
IsChanged-next frame bin_cmp first later placements next new id before head tail joined = record {
  after = tail.after;
  found = tail.found;
  kept = tail.kept ∙ ap (λ (b : Bin). record b { sections = tail.after.sections }) head.kept;
  framed = rw (joined, locations_in-append bin_cmp first later id)
      (frame.next before.sections head.after.sections (locations_in bin_cmp first id) tail.after.sections (locations_in bin_cmp later id)
      head.framed tail.framed);
}

module _ {R : List Cuboid → List Cuboid → Type 0} (frame : IsFrame R) {Id B : Type 0} (rules : Rules Id B) (o : IsTotalOrder rules.bin_cmp)
    (kept : KeptBySteps rules.may R) where
  -- one group that is placed
  changed-placed : (excluded : B → Bool) (order : List B) (group : Members Id) (old : List (B × Bin)) (placements : List (Placement Id B))
      (new : List (B × Bin)) (tests : ℕ) → IsPlaced rules excluded order group old placements new tests
      → (q : B) (before : Bin) → lookup (is_at (rules.bin_cmp q)) old ≡ Some before → IsChanged R rules.bin_cmp placements new q before
  changed-placed excluded order group old placements new n h q before was = by (is_eq (rules.bin_cmp h.here q)) refl
    where
      seen : lookup (is_at (rules.bin_cmp q)) new
          ≡ cond (is_eq (rules.bin_cmp h.here q)) (Some (record h.bin { sections = h.last })) (lookup (is_at (rules.bin_cmp q)) old)
      seen = lookup-placed rules o excluded order group old placements new n h q

      tests : (b : Bool) → is_eq (rules.bin_cmp h.here q) ≡ b → All (λ (p : Placement Id B). is_at (rules.bin_cmp p.bin) q ≡ b) placements
      tests b e = All-weaker (λ (p : Placement Id B). rules.bin_cmp h.here p.bin ≡ Equal) (λ (p : Placement Id B). is_at (rules.bin_cmp p.bin) q ≡ b)
          (λ p same. rw (← o.congr h.here p.bin q same) e) placements h.named.together

      by : (b : Bool) → is_eq (rules.bin_cmp h.here q) ≡ b → IsChanged R rules.bin_cmp placements new q before
      by true e =
          let equal : rules.bin_cmp h.here q ≡ Equal = (Equal-is _).0 e in
          let same : Some before ≡ Some h.bin = sym was ∙ sym (lookup-equal o h.here q equal old) ∙ h.found in
          let is : before ≡ h.bin = cc in
          let there : locations_in rules.bin_cmp placements q ≡ h.locations = locations_in-here rules.bin_cmp placements q (tests true e) ∙ h.named.at in
          record {
            after = record h.bin { sections = h.last };
            found = seen ∙ rw e refl;
            kept = rw is refl;
            framed = rw (is, there) (framed-done frame rules.may kept h.bin.sections group.sizes h.locations h.last h.count h.done);
          }
      by false e = record {
        after = before;
        found = seen ∙ rw e was;
        kept = refl;
        framed = rw (locations_in-none rules.bin_cmp placements q (tests false e), append-nil before.sections) (frame.same before.sections);
      }

  module _ {K : Type 0} (excludes : List (K × B) → K → B → Bool) where
    -- all groups of a list
    pub changed-all : (order : List B) (gs : List (K × Members Id)) (old : Stage K B) (placements : List (Placement Id B)) (new : Stage K B)
        (tests : ℕ) → AreAllPlaced rules excludes order gs old placements new tests
        → (q : B) (before : Bin) → lookup (is_at (rules.bin_cmp q)) old.bins ≡ Some before → IsChanged R rules.bin_cmp placements new.bins q before
    changed-all order [] old placements new n h q before was =
        rw (h.0, h.1) (record { after = before; found = was; kept = refl; framed = rw (append-nil before.sections) (frame.same before.sections) })
    changed-all order (g ∷ gs) old placements new n (first, next, one, rest, others, placed, later, joined, counted) q before was =
        let head = changed-placed (excludes old.homes g.0) order g.1 old.bins first next one placed q before was in
        let tail = changed-all order gs (record { bins = next; homes = (g.0, placed.here) ∷ old.homes }) rest new others later q head.after head.found in
        IsChanged-next frame rules.bin_cmp first rest placements next new.bins q before head tail joined
