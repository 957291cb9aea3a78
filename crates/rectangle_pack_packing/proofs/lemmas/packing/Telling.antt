-- A packing that is done, read as steps, is a packing as it is told.
use Rattle.rectangle_pack_sections.proofs.Std.{◌≡◌, ℕ, zero, suc, List, [], ◌∷◌, ◌++◌, refl, sym, ◌∙◌, ap, subst, arith, append-nil, append_assoc, true, false, Bool, map}
use Rattle.rectangle_pack_sections.proofs.Std.{reverse, reverse-append, All, All-nil, All-cons, All-head, All-tail, Ordering, IsTotalOrder, is_at, keys_of}
use Rattle.rectangle_pack_sections.proofs.Std.{IsDistinct, IsDistinct-tail, IsDistinct-IsPermutation, IsPermutation-map, eq_by_cmp}
use Rattle.rectangle_pack_sections.specs.declared.box_size_heuristics.named.Heuristic.{Heuristic}
use Rattle.rectangle_pack_sections.specs.declared.group.Group.{Group}
use Rattle.rectangle_pack_sections.specs.Bins.{Bin}
use Rattle.rectangle_pack_sections.specs.Boxes.{Size}
use Rattle.rectangle_pack_sections.specs.Groups.{Collection}
use Rattle.rectangle_pack_packing.specs.declared.answer.Placement.{Placement}
use Rattle.rectangle_pack_packing.specs.Best.{named_rules}
use Rattle.rectangle_pack_packing.specs.Orders.{IsGroupOrder}
use Rattle.rectangle_pack_packing.specs.Packing.{Rules, Members, Stage, excludes_by, IsPlaced, AreAllPlaced}
use Rattle.rectangle_pack_packing.specs.Told.{WasNamed, IsStepDone, AreStepsDone}
use Rattle.rectangle_pack_packing.specs.ToldLaws.{step_to}
use Rattle.rectangle_pack_sections.proofs.lemmas.util.Maps.{is_at-back}
use Rattle.rectangle_pack_sections.proofs.lemmas.util.Zips.{AllZip-equal}
use Rattle.rectangle_pack_packing.proofs.lemmas.packing.Orders.{IsDistinct-apart}
use Rattle.rectangle_pack_packing.proofs.lemmas.packing.Whole.{AreKnown}

-- an order names no group twice, where the collection lists none twice
pub names_distinct : {Id K : Type 0} {group_cmp : K → K → Ordering} → IsTotalOrder group_cmp → (MayRate : Size → ℕ → Type 0) (cmp : Id → Id → Ordering)
    (sizes : List (Id × Size)) (groups : List (K × List Id)) (order : List (ℕ × K)) → IsGroupOrder MayRate group_cmp cmp sizes groups order
    → IsDistinct (eq_by_cmp group_cmp) (keys_of groups) → IsDistinct (eq_by_cmp group_cmp) (map (λ o. o.1) order)
names_distinct {Id} {K} {group_cmp} o MayRate cmp sizes groups order by_groups distinct =
    let name : ℕ × K → K = λ entry. entry.1 in
    let names : map name by_groups.unsorted ≡ keys_of groups =
    AllZip-equal _ (λ g. g.0) name (λ g entry is. is.0) groups by_groups.unsorted by_groups.each in
    IsDistinct-IsPermutation (eq_by_cmp group_cmp) (λ x y. is_at-back o x y) (map name by_groups.unsorted) (map name order)
    (IsPermutation-map name by_groups.unsorted order by_groups.permutation)
    (subst (λ (ks : List K). IsDistinct (eq_by_cmp group_cmp) ks) (sym names) distinct)

-- what differs in a list, differs in its end
pub distinct_back : {K : Type 0} (e : K → K → Bool) (xs ys : List K) → IsDistinct e (xs ++ ys) → IsDistinct e ys
distinct_back e [] ys h = h
distinct_back e (x ∷ xs) ys h = distinct_back e xs ys (IsDistinct-tail e x (xs ++ ys) h)

-- a group that is placed is so in the bin that it went to, alone
placed_here : {Id B : Type 0} (rules : Rules Id B) (excluded : B → Bool) (order : List B) (group : Members Id) (old : List (B × Bin))
    (placements : List (Placement Id B)) (new : List (B × Bin)) (tests : ℕ) → (p : IsPlaced rules excluded order group old placements new tests)
    → IsPlaced rules excluded (p.here ∷ []) group old placements new p.count
placed_here rules excluded order group old placements new tests p = record {
  before = [];
  here = p.here;
  after = [];
  order_is = refl;
  counts = [];
  passed = tt;
  allowed = p.allowed;
  bin = p.bin;
  found = p.found;
  last = p.last;
  locations = p.locations;
  count = p.count;
  done = p.done;
  named = p.named;
  new_is = p.new_is;
  tests_are = omega arith;
}

module _ {Id B G : Type 0} (group_cmp : Group G Id → Group G Id → Ordering) (cmp : Id → Id → Ordering) (bin_cmp : B → B → Ordering)
    (all : Collection Id G) (named : Heuristic) (o : IsTotalOrder group_cmp) where
  -- no group of these has a home
  abbrev pub AreFresh : List (Group G Id × B) → List (Group G Id × Members Id) → Type 0
  AreFresh homes gs = All (λ g. ¬ WasNamed group_cmp cmp bin_cmp all g.0 homes) gs

  pub none_named : (gs : List (Group G Id × Members Id)) → AreFresh [] gs
  none_named gs = λ k d within (i, home, below, at, same). absurd (omega arith)

  -- one more home, of another group
  not_named : (name group : Group G Id) (here : B) (homes : List (Group G Id × B)) → is_at (group_cmp name) group ≡ false
      → ¬ WasNamed group_cmp cmp bin_cmp all group homes → ¬ WasNamed group_cmp cmp bin_cmp all group ((name, here) ∷ homes)
  not_named name group here homes apart fresh (zero, home, within, at, same) =
      let back : is_at (group_cmp group) name ≡ true = ap (λ (h : Group G Id × B). is_at (group_cmp group) h.0) at ∙ same in
      let differ : true ≡ false = sym back ∙ is_at-back o group name ∙ apart in
      absurd cc
  not_named name group here homes apart fresh (suc k, home, within, at, same) = fresh (k, home, omega arith, at, same)

  still_fresh : (name : Group G Id) (here : B) (homes : List (Group G Id × B)) (gs : List (Group G Id × Members Id)) → AreFresh homes gs
      → All (λ y. eq_by_cmp group_cmp name y ≡ false) (map (λ g. g.0) gs) → AreFresh ((name, here) ∷ homes) gs
  still_fresh name here homes [] fresh apart = All-nil _
  still_fresh name here homes (g ∷ gs) fresh apart =
      let P : Group G Id × Members Id → Type 0 = λ h. ¬ WasNamed group_cmp cmp bin_cmp all h.0 homes in
      let names : List (Group G Id) = map (λ h. h.0) gs in
      let Apart : Group G Id → Type 0 = λ y. eq_by_cmp group_cmp name y ≡ false in
      All-cons (λ h. ¬ WasNamed group_cmp cmp bin_cmp all h.0 ((name, here) ∷ homes)) g gs
      (not_named name g.0 here homes (All-head Apart g.0 names apart) (All-head P g gs fresh))
      (still_fresh name here homes gs (All-tail P g gs fresh) (All-tail Apart g.0 names apart))

  -- the homes that are added, in order, read as steps
  pub record IsToldBy (old : Stage (Group G Id) B) (placements : List (Placement Id B)) (new : Stage (Group G Id) B) : Type 0 where
    pub added : List (Group G Id × B)
    pub homes : reverse new.homes ≡ reverse old.homes ++ added
    pub done : AreStepsDone group_cmp cmp bin_cmp all (map (step_to named) added) old placements new

  pub tell : (order : List B) (gs : List (Group G Id × Members Id)) (old : Stage (Group G Id) B) (placements : List (Placement Id B))
      (new : Stage (Group G Id) B) (tests : ℕ)
      → AreKnown (named_rules cmp bin_cmp named) group_cmp all.sizes all.groups gs → AreFresh old.homes gs
      → IsDistinct (eq_by_cmp group_cmp) (map (λ g. g.0) gs)
      → AreAllPlaced (named_rules cmp bin_cmp named) (excludes_by group_cmp bin_cmp all.partners) order gs old placements new tests
      → IsToldBy old placements new
  tell order [] old placements new n known fresh distinct h = record {
    added = [];
    homes = ap (λ (s : Stage (Group G Id) B). reverse s.homes) h.1 ∙ sym (append-nil (reverse old.homes));
    done = (h.0, h.1);
  }
  tell order (g ∷ gs) old placements new n known fresh distinct (first, next, one, later, others, placed, rest, joined, count) =
      let home : Group G Id × B = (g.0, placed.here) in
      let rules = named_rules cmp bin_cmp named in
      let P : Group G Id × Members Id → Type 0 = λ h. ¬ WasNamed group_cmp cmp bin_cmp all h.0 old.homes in
      let names : List (Group G Id) = map (λ h. h.0) gs in
      let ih = tell order gs (record { bins = next; homes = home ∷ old.homes }) later new others known.2
      (still_fresh g.0 placed.here old.homes gs (All-tail P g gs fresh) (IsDistinct-apart (eq_by_cmp group_cmp) g.0 names distinct))
      (IsDistinct-tail (eq_by_cmp group_cmp) g.0 names distinct) rest in
      let step : IsStepDone group_cmp cmp bin_cmp all (step_to named home) old first next = record {
        members = g.1;
        known = record { ids = known.0; sizes = known.1 };
        fresh = All-head P g gs fresh;
        tests = placed.count;
        placed = placed_here rules (excludes_by group_cmp bin_cmp all.partners old.homes g.0) order g.1 old.bins first next one placed;
      } in
      record {
        added = home ∷ ih.added;
        homes =
            ih.homes
            ∙ ap (λ (hs : List (Group G Id × B)). hs ++ ih.added) (reverse-append (home ∷ []) old.homes)
            ∙ append_assoc (reverse old.homes) (home ∷ []) ih.added;
        done = (first, next, later, step, ih.done, joined);
      }
