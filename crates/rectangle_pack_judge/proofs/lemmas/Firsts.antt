-- The first claim that is in conflict with an earlier one.
use Rattle.rectangle_pack_sections.proofs.Std.{ℕ, zero, suc, ◌+◌, ◌<◌, ◌≤◌, ◌≡◌, ◌≢◌, Bool, true, false, List, [], ◌∷◌, length, map, take, get_or, set}
use Rattle.rectangle_pack_sections.proofs.Std.{All, AllPairs, Contains, Option, Some, None, refl, ap, sym, ◌∙◌, subst, arith, inl, inr, cases_lt, cases_eq, both_ways}
use Rattle.rectangle_pack_sections.proofs.Std.{get_or-take, length-take-le, take_all, get_or_default, get_or_append_left, length-set}
use Rattle.rectangle_pack_sections.proofs.Std.{get_or-set_same, get_or-set_other, length-map, take-take, All-weaker, list_any, IsTrue, rules}
use Rattle.std.proofs.lemmas.List.Folds.{Any-from_list_any}
use Rattle.std.proofs.Math.Seq.{get_or-append_seam}
use Rattle.rectangle_pack_sections.specs.Boxes.{Size}
use Rattle.rectangle_pack_sections.proofs.lemmas.cuts.Boxes.{not_from_AreApart}
use Rattle.rectangle_pack_overlaps.specs.declared.overlaps.Standing.{Standing}
use Rattle.rectangle_pack_overlaps.specs.declared.overlaps.Overlap.{Overlap}
use Rattle.rectangle_pack_overlaps.specs.Overlaps.{AreClear, IsFirstOverlap}
use Rattle.rectangle_pack_overlaps.proofs.lemmas.Places.{place_within}
use Rattle.rectangle_pack_judge.specs.declared.case.Case.{Case}
use Rattle.rectangle_pack_judge.specs.declared.case.Claim.{Claim}
use Rattle.rectangle_pack_judge.specs.declared.case.Conflict.TheVariants.{PlacedTwice, SharesCell, GroupInTwoBins, ExcludedTogether}
use Rattle.rectangle_pack_judge.specs.Judging.{StandsAlone, IsFree, group_of, GoTogether, no_entry}
use Rattle.rectangle_pack_judge.specs.private.Numbers.{HaveGroups}
use Rattle.rectangle_pack_judge.specs.private.Firsts.{IsFirst, AreMarked, AreHomes}

-- a size that some of these equals is one of these
pub Contains-size : (size : Size) (eq : Size → Size → Bool) (sizes : List Size) → list_any (eq size) sizes ≡ true
    → ((a b : Size) → eq a b ≡ true → a ≡ b) → Contains sizes size
Contains-size size eq sizes found same =
    let (k, x, within, at, is) = Any-from_list_any (eq size) sizes found in
    (k, within, get_or_default sizes k size x within ∙ at ∙ sym (same size x is))

pub IsTrue-from : (b : Bool) → b ≡ true → IsTrue b
IsTrue-from b e = rw e (search rules)

pub not-from-IsTrue : (b : Bool) (P : Type 0) → (P → IsTrue b) → b ≡ false → ¬ P
not-from-IsTrue b P h e = λ p. let t : IsTrue false = subst IsTrue e (h p) in absurd (search rules)

module _ (Free : Claim → Claim → Type 0) (claims : List Claim) where
  -- one more claim, which is free of all before it
  pub AllPairs-more : (i : ℕ) → i < length claims → AllPairs Free (take i claims)
      → ((k : ℕ) (d : Claim) → k < i → Free (get_or claims k d) (get_or claims i d)) → AllPairs Free (take (i + 1) claims)
  AllPairs-more i within free next k j d below inside =
      let long = length-take-le (i + 1) claims (omega arith) in
      let short = length-take-le i claims (omega arith) in
      rw (get_or-take (i + 1) claims k d (omega arith), get_or-take (i + 1) claims j d (omega arith))
      (elim (cases_lt j i) [
        | inl lt ↦ rw (get_or-take i claims k d (omega arith), get_or-take i claims j d lt) at (free k j d below (omega arith))
        | inr ge ↦ let e : i ≡ j = omega arith in subst (λ n. Free (get_or claims k d) (get_or claims n d)) e (next k d (omega arith))
      ])

  -- no claim is in conflict
  pub IsFirst-none : AllPairs Free claims → IsFirst Free claims (length claims)
  IsFirst-none free = record {
    at_most = omega arith;
    free = rw (take_all (length claims) claims (omega arith)) free;
    bad = λ d less. absurd (omega (arith, less));
  }

  -- this claim is in conflict with one before it
  pub IsFirst-here : (i k : ℕ) → i < length claims → AllPairs Free (take i claims) → k < i
      → ((d : Claim) → ¬ Free (get_or claims k d) (get_or claims i d)) → IsFirst Free claims i
  IsFirst-here i k within free before conflict = record {
    at_most = omega arith;
    free = free;
    bad = λ d less all. conflict d (rw (get_or-take i claims k d before) at (all k d (omega (arith, length-take-le i claims (omega arith)))));
  }

-- the boxes of claims, with their bins
abbrev pub standing : Claim → Standing
standing c = record { bin = c.bin; section = c.section }

Some-same : {x y : ℕ} → Some x ≡ Some y → x ≡ y
Some-same {x} {y} e = cc

map_at : {X Y : Type 0} (f : X → Y) (xs : List X) (k : ℕ) (d : X) → get_or (map f xs) k (f d) ≡ f (get_or xs k d)
map_at f [] k d = refl
map_at f (x ∷ xs) zero d = refl
map_at f (x ∷ xs) (suc k) d = map_at f xs k d

module _ (case : Case) (claims : List Claim) where
  pub IsFirst-clear : AllPairs AreClear (map standing claims) → IsFirst (IsFree case SharesCell) claims (length claims)
  IsFirst-clear clear = IsFirst-none (IsFree case SharesCell) claims (λ i j d below within.
      rw (map_at standing claims i d, map_at standing claims j d) at (clear i j (standing d) below (omega (arith, length-map claims standing))))

  pub IsFirst-shared : (o : Overlap) → IsFirstOverlap (map standing claims) o → IsFirst (IsFree case SharesCell) claims o.second
  IsFirst-shared o h =
      let all = map standing claims in
      let later = h.later in
      let earlier = h.earlier in
      let as_many = length-map claims standing in
      let within : o.second < length claims = omega (arith, as_many, place_within all o.second later) in
      let earlier_at : (k : ℕ) (d : Claim) → k < o.second → get_or later.before k (standing d) ≡ standing (get_or claims k d) = λ k d lt.
      sym (get_or_append_left later.before (later.one ∷ later.after) (standing d) k (omega (arith, later.place_is)))
      ∙ ap (λ bs. get_or bs k (standing d)) (sym later.splits) ∙ map_at standing claims k d in
      let other_at : (d : Claim) → later.one ≡ standing (get_or claims o.second d) = λ d.
      sym (get_or-append_seam later.before later.one later.after (standing d))
      ∙ ap (λ bs. get_or bs (length later.before) (standing d)) (sym later.splits)
      ∙ ap (λ n. get_or all n (standing d)) (sym later.place_is) ∙ map_at standing claims o.second d in
      let before : o.first < o.second = omega (arith, later.place_is, place_within later.before o.first earlier) in
      let one_at : (d : Claim) → earlier.one ≡ standing (get_or claims o.first d) = λ d.
      sym (get_or-append_seam earlier.before earlier.one earlier.after (standing d))
      ∙ ap (λ bs. get_or bs (length earlier.before) (standing d)) (sym earlier.splits)
      ∙ ap (λ n. get_or later.before n (standing d)) (sym earlier.place_is) ∙ earlier_at o.first d before in
      let size = length-take-le o.second claims (omega arith) in
      IsFirst-here (IsFree case SharesCell) claims o.second o.first within
      (λ i j d below inside.
      rw (get_or-take o.second claims i d (omega arith), get_or-take o.second claims j d (omega arith))
      (rw (earlier_at i d (omega arith), earlier_at j d (omega arith)) at (h.clear i j (standing d) below (omega (arith, later.place_is)))))
      before
      (λ d free.
      let clear : AreClear earlier.one later.one = rw (one_at d, other_at d) free in
      not_from_AreApart earlier.one.section later.one.section (clear h.clash.one_bin) h.clash.shares)

  -- entries that are placed
  pub AreMarked-more : (i : ℕ) (here : Claim) (marks : List Bool) → i < length claims → here ≡ get_or claims i here → here.entry < length marks
      → AreMarked (λ c. c.entry) claims i marks → AreMarked (λ c. c.entry) claims (i + 1) (set marks here.entry true)
  AreMarked-more i here marks within at inside h = record {
    seen = λ k d e below.
        let n : ℕ = (get_or claims k d).entry in
        elim (cases_eq n here.entry) [
          | inl same ↦ ap (λ m. get_or (set marks here.entry true) m e) same ∙ get_or-set_same marks here.entry true e inside
          | inr other ↦ elim (cases_lt k i) [
            | inl lt ↦ get_or-set_other marks here.entry n true e other ∙ h.seen k d e lt
            | inr ge ↦
                let is : k ≡ i = omega arith in
                absurd (other (ap (λ m. (get_or claims m d).entry) is ∙ ap (λ c. c.entry) (get_or_default claims i d here within ∙ sym at)))
          ]
        ];
    only = λ n e below marked. elim (cases_eq n here.entry) [
      | inl same ↦ (i, omega arith, λ d. ap (λ c. c.entry) (get_or_default claims i d here within ∙ sym at) ∙ sym same)
      | inr other ↦
          let (k, lt, is) = h.only n e (omega (arith, length-set marks here.entry true)) (sym (get_or-set_other marks here.entry n true e other) ∙ marked) in
          (k, omega (arith, lt), is)
    ];
  }

  pub twice-more : (i : ℕ) (here : Claim) (marks : List Bool) → i < length claims → here ≡ get_or claims i here → here.entry < length marks
      → AreMarked (λ c. c.entry) claims i marks → get_or marks here.entry false ≡ false
      → AllPairs (IsFree case PlacedTwice) (take i claims) → AllPairs (IsFree case PlacedTwice) (take (i + 1) claims)
  twice-more i here marks within at inside h unmarked free = AllPairs-more (IsFree case PlacedTwice) claims i within free (λ k d before same.
      let of_here : (get_or claims i d).entry ≡ here.entry = ap (λ c. c.entry) (get_or_default claims i d here within ∙ sym at) in
      both_ways _ unmarked (ap (λ n. get_or marks n false) (sym (same ∙ of_here)) ∙ h.seen k d false before))

  -- homes of groups
  pub AreHomes-more : (groups i : ℕ) (here : Claim) (homes : List (Option ℕ)) → i < length claims → here ≡ get_or claims i here
      → group_of case here < groups
      → ((k : ℕ) (d : Claim) → k < i → group_of case (get_or claims k d) ≡ group_of case here → (get_or claims k d).bin ≡ here.bin)
      → AreHomes case groups claims i homes → AreHomes case groups claims (i + 1) (set homes (group_of case here) (Some here.bin))
  AreHomes-more groups i here homes within at inside one_bin h = record {
    as_many = length-set homes (group_of case here) (Some here.bin) ∙ h.as_many;
    seen = λ k d e below.
        let n : ℕ = group_of case (get_or claims k d) in
        elim (cases_eq n (group_of case here)) [
          | inl same ↦
              ap (λ m. get_or (set homes (group_of case here) (Some here.bin)) m e) same
              ∙ get_or-set_same homes (group_of case here) (Some here.bin) e (omega (arith, h.as_many))
              ∙ ap Some (sym (elim (cases_lt k i) [
                | inl lt ↦ one_bin k d lt same
                | inr ge ↦ let is : k ≡ i = omega arith in ap (λ m. (get_or claims m d).bin) is ∙ ap (λ c. c.bin) (get_or_default claims i d here within ∙ sym at)
              ]))
          | inr other ↦ elim (cases_lt k i) [
            | inl lt ↦ get_or-set_other homes (group_of case here) n (Some here.bin) e other ∙ h.seen k d e lt
            | inr ge ↦
                let is : k ≡ i = omega arith in
                absurd (other (ap (λ m. group_of case (get_or claims m d)) is ∙ ap (group_of case) (get_or_default claims i d here within ∙ sym at)))
          ]
        ];
    only = λ n e bin below found. elim (cases_eq n (group_of case here)) [
      | inl same ↦
          let found_here : Some here.bin ≡ Some bin =
          sym (get_or-set_same homes (group_of case here) (Some here.bin) e (omega (arith, h.as_many)))
          ∙ ap (λ m. get_or (set homes (group_of case here) (Some here.bin)) m e) (sym same) ∙ found in
          let is_here : (d : Claim) → get_or claims i d ≡ here = λ d. get_or_default claims i d here within ∙ sym at in
          (i, omega arith, λ d. (ap (group_of case) (is_here d) ∙ sym same, ap (λ c. c.bin) (is_here d) ∙ Some-same found_here))
      | inr other ↦
          let (k, lt, is) = h.only n e bin below (sym (get_or-set_other homes (group_of case here) n (Some here.bin) e other) ∙ found) in
          (k, omega (arith, lt), is)
    ];
  }

  -- the group of a claim that may stand alone is one of the groups
  pub group_of-below : (groups : ℕ) (c : Claim) → HaveGroups case groups → StandsAlone case c → group_of case c < groups
  group_of-below groups c have alone = have c.entry no_entry alone.entry

  -- all earlier claims of the group are in its bin
  pub one_bin-some : (groups i : ℕ) (here : Claim) (homes : List (Option ℕ)) (v : Option ℕ) → AreHomes case groups claims i homes
      → v ≡ get_or homes (group_of case here) v → v ≡ Some here.bin
      → (k : ℕ) (d : Claim) → k < i → group_of case (get_or claims k d) ≡ group_of case here → (get_or claims k d).bin ≡ here.bin
  one_bin-some groups i here homes v h at is k d below same =
      Some-same (sym (h.seen k d v below) ∙ ap (λ n. get_or homes n v) same ∙ sym at ∙ is)

  pub one_bin-none : (groups i : ℕ) (here : Claim) (homes : List (Option ℕ)) (v : Option ℕ) → AreHomes case groups claims i homes
      → v ≡ get_or homes (group_of case here) v → v ≡ None
      → (k : ℕ) (d : Claim) → k < i → group_of case (get_or claims k d) ≡ group_of case here → (get_or claims k d).bin ≡ here.bin
  one_bin-none groups i here homes v h at is k d below same =
      let e : Some (get_or claims k d).bin ≡ None = sym (h.seen k d v below) ∙ ap (λ n. get_or homes n v) same ∙ sym at ∙ is in
      absurd (search (rules, e))

  pub parted-more : (i : ℕ) (here : Claim) → i < length claims → here ≡ get_or claims i here
      → ((k : ℕ) (d : Claim) → k < i → group_of case (get_or claims k d) ≡ group_of case here → (get_or claims k d).bin ≡ here.bin)
      → AllPairs (IsFree case GroupInTwoBins) (take i claims) → AllPairs (IsFree case GroupInTwoBins) (take (i + 1) claims)
  parted-more i here within at one_bin free = AllPairs-more (IsFree case GroupInTwoBins) claims i within free (λ k d before same.
      let is_here : get_or claims i d ≡ here = get_or_default claims i d here within ∙ sym at in
      one_bin k d before (same ∙ ap (group_of case) is_here) ∙ sym (ap (λ c. c.bin) is_here))

  -- an earlier claim of the group is in another bin
  pub IsFirst-parted : (groups i : ℕ) (here : Claim) (homes : List (Option ℕ)) (v : Option ℕ) (bin : ℕ) → i < length claims → here ≡ get_or claims i here
      → group_of case here < groups → AreHomes case groups claims i homes → v ≡ get_or homes (group_of case here) v → v ≡ Some bin → bin ≢ here.bin
      → AllPairs (IsFree case GroupInTwoBins) (take i claims) → IsFirst (IsFree case GroupInTwoBins) claims i
  IsFirst-parted groups i here homes v bin within at inside h found is other free =
      let (k, below, of) = h.only (group_of case here) v bin inside (sym found ∙ is) in
      IsFirst-here (IsFree case GroupInTwoBins) claims i k within free below (λ d one_bin.
      let is_here : get_or claims i d ≡ here = get_or_default claims i d here within ∙ sym at in
      other (sym ((of d).1) ∙ one_bin ((of d).0 ∙ sym (ap (group_of case) is_here)) ∙ ap (λ c. c.bin) is_here))

cut_again : {X : Type 0} (xs : List X) (found next : ℕ) → next ≤ found → take next (take found xs) ≡ take next xs
cut_again xs found next less = take-take next found xs less

module _ (P Q : Claim → Claim → Type 0) (claims : List Claim) (found next : ℕ) (h : IsFirst P claims found) (more : IsFirst Q (take found claims) next) where
  less : next ≤ found
  less = omega (arith, more.at_most, length-take-le found claims h.at_most)

  pub free-then : AllPairs Q (take next claims)
  free-then = subst (AllPairs Q) (cut_again claims found next less) more.free

  -- first by one relation, and then by another one
  pub IsFirst-then : IsFirst (λ a b. P a b × Q a b) claims next
  IsFirst-then =
      let long = length-take-le found claims h.at_most in
      record {
        at_most = omega (arith, less, h.at_most);
        free = λ i j d below within.
            let short = length-take-le next claims (omega (arith, less, h.at_most)) in
            let free_p = h.free i j d below (omega (arith, long, short, less)) in
            let at_i : get_or (take next claims) i d ≡ get_or (take found claims) i d =
            get_or-take next claims i d (omega (arith, short)) ∙ sym (get_or-take found claims i d (omega (arith, short, less))) in
            let at_j : get_or (take next claims) j d ≡ get_or (take found claims) j d =
            get_or-take next claims j d (omega (arith, short)) ∙ sym (get_or-take found claims j d (omega (arith, short, less))) in (
              subst (λ a. P a (get_or (take next claims) j d)) (sym at_i) (subst (P (get_or (take found claims) i d)) (sym at_j) free_p),
              free-then i j d below within,
            );
        bad = λ d below all. elim (cases_lt next found) [
          | inl lt ↦
              more.bad d (omega (arith, long, lt))
              (subst (λ b. All (λ a. Q a b) (take next (take found claims))) (sym (get_or-take found claims next d lt))
              (subst (All (λ a. Q a (get_or claims next d))) (sym (cut_again claims found next less)) (All-weaker (λ a. P a (get_or claims next d) × Q a (get_or claims next d)) (λ a. Q a (get_or claims next d)) (λ a both. both.1) (take next claims) all)))
          | inr ge ↦
              let is : next ≡ found = omega (arith, less) in
              h.bad d (omega (arith, below))
              (subst (λ n. All (λ a. P a (get_or claims n d)) (take n claims)) is (All-weaker (λ a. P a (get_or claims next d) × Q a (get_or claims next d)) (λ a. P a (get_or claims next d)) (λ a both. both.0) (take next claims) all))
        ];
      }

pub IsFirst-same : (P Q : Claim → Claim → Type 0) (claims : List Claim) (found : ℕ) → ((a b : Claim) → P a b → Q a b) → ((a b : Claim) → Q a b → P a b)
    → IsFirst P claims found → IsFirst Q claims found
IsFirst-same P Q claims found to from h = record {
  at_most = h.at_most;
  free = λ i j d below within. to (get_or (take found claims) i d) (get_or (take found claims) j d) (h.free i j d below within);
  bad = λ d below all. h.bad d below (All-weaker (λ a. Q a (get_or claims found d)) (λ a. P a (get_or claims found d)) (λ a q. from a (get_or claims found d) q) (take found claims) all);
}

-- two claims go together where they are free by each kind of conflict
pub GoTogether-all : (case : Case) (a b : Claim) → ((IsFree case PlacedTwice a b × IsFree case SharesCell a b) × IsFree case GroupInTwoBins a b) × IsFree case ExcludedTogether a b → GoTogether case a b
GoTogether-all case a b h PlacedTwice = h.0.0.0
GoTogether-all case a b h SharesCell = h.0.0.1
GoTogether-all case a b h GroupInTwoBins = h.0.1
GoTogether-all case a b h ExcludedTogether = h.1

pub GoTogether-each : (case : Case) (a b : Claim) → GoTogether case a b → ((IsFree case PlacedTwice a b × IsFree case SharesCell a b) × IsFree case GroupInTwoBins a b) × IsFree case ExcludedTogether a b
GoTogether-each case a b h = (((h PlacedTwice, h SharesCell), h GroupInTwoBins), h ExcludedTogether)
