-- Packings by volumes, of collections that are alike, make one thing of a session, where memory is not refused.
use Rattle.std.proofs.Common.{◌≡◌, ◌≢◌, ◌+◌, ℕ, List, [], ◌∷◌, ◌++◌, length, map, sum, Some, Bool, true, false, refl, ap, sym, ◌∙◌, arith}
use Rattle.std.specs.List.{AllZip}
use Rattle.std.specs.Cmp.{IsTotalOrder}
use Rattle.std.specs.Map.{lookup, set_value, values_of}
use Rattle.std.specs.BTreeMap.{is_at}
use Rattle.std.specs.declared.cmp.Ordering.{Ordering}
use Rattle.std.specs.declared.cmp.Ordering.TheVariants.{Equal}
use Rattle.std.proofs.lemmas.Map.Lookups.{CmpEqualImpliesEq}
use Rattle.std.proofs.lemmas.List.Elements.{length_all_zip}
use Rattle.rectangle_pack_sections.proofs.Std.{tied_itself}
use Rattle.rectangle_pack.specs.declared.box_size_heuristics.Heuristic.TheVariants.{Volume}
use Rattle.rectangle_pack.specs.declared.grouped_rects_to_place.Group.{Group}
use Rattle.rectangle_pack.specs.declared.pack.Placement.{Placement}
use Rattle.rectangle_pack.specs.declared.session.command.Packed.{Packed as PackedNumbers}
use Rattle.rectangle_pack.specs.declared.session.command.Reply.{Reply}
use Rattle.rectangle_pack.specs.declared.session.command.Reply.TheVariants.{Packed, Refused}
use Rattle.rectangle_pack.specs.declared.session.command.SessionError.TheVariants.{NumbersUsedUp, NotEnoughBinSpace, OutOfMemory}
use Rattle.rectangle_pack.specs.Alike.{AreCollectionsAlike}
use Rattle.rectangle_pack.specs.Best.{named_rules}
use Rattle.rectangle_pack.specs.Bins.{Bin}
use Rattle.rectangle_pack.specs.Boxes.{Size}
use Rattle.rectangle_pack.specs.Groups.{Collection, entries_of, order_of_groups}
use Rattle.rectangle_pack.specs.Heuristics.{rate_of, named_answers}
use Rattle.rectangle_pack.specs.Packing.{Rules, rules_by, Members, Stage, AreAllPlaced, at_start, excludes_by}
use Rattle.rectangle_pack.specs.Results.{AreBinsAlike, ArePlacementsAlike, HaveOneResult}
use Rattle.rectangle_pack.specs.Session.{State, Packs, IsKept, numbered}
use Rattle.rectangle_pack_sections.proofs.lemmas.groups.GroupOrder.{groups_total}
use Rattle.rectangle_pack_packing.proofs.lemmas.determinism.Either.{HaveOneResult-either, rates_decide}
use Rattle.rectangle_pack_packing.proofs.lemmas.determinism.OnePacking.{one_result}

-- what was joined is kept by a write that keeps it
written : {K X A : Type 0} (f : X → A) (test : K → Bool) (es : List (K × X)) (v w : X) → f w ≡ f v → lookup test es ≡ Some v
    → map f (values_of (set_value test es w)) ≡ map f (values_of es)
written f test [] v w same there = refl
written f test (e ∷ es) v w same there = by (test e.0) refl (written f test es v w same)
  where
    by : (b : Bool) → test e.0 ≡ b → (lookup test es ≡ Some v → map f (values_of (set_value test es w)) ≡ map f (values_of es))
        → map f (values_of (set_value test (e ∷ es) w)) ≡ map f (values_of (e ∷ es))
    by true is later = let here : e.1 ≡ v = cc (rw is at there) in rw is (ap (λ y. y ∷ map f (values_of es)) (same ∙ ap f (sym here)))
    by false is later = rw is (ap (λ ys. f e.1 ∷ ys) (later (rw is at there)))

-- whether each bin was coalesced
abbrev pub coalesced_of : {B : Type 0} → List (B × Bin) → List Bool
coalesced_of bins = map (λ (bin : Bin). bin.coalesced) (values_of bins)

coalesced-placed : {Id B K : Type 0} (rules : Rules Id B) (excludes : List (K × B) → K → B → Bool) (order : List B) (groups : List (K × Members Id))
    (old : Stage K B) (placements : List (Placement Id B)) (new : Stage K B) (tests : ℕ) → AreAllPlaced rules excludes order groups old placements new tests
    → coalesced_of new.bins ≡ coalesced_of old.bins
coalesced-placed {Id} {B} {K} rules excludes order [] old placements new tests (none, same, _) = ap (λ (s : Stage K B). coalesced_of s.bins) same
coalesced-placed rules excludes order (g ∷ groups) old placements new tests (first, next, one, later, others, placed, rest, _, _) =
    coalesced-placed rules excludes order groups (record { bins = next; homes = (g.0, placed.here) ∷ old.homes }) later new others rest
    ∙ ap coalesced_of placed.new_is
    ∙ written (λ (bin : Bin). bin.coalesced) (is_at (rules.bin_cmp placed.here)) old.bins placed.bin (record placed.bin { sections = placed.last }) refl placed.found

-- how many entries each group has, in collections that are alike
lengths : {K Id : Type 0} (R : K → K → Type 0) (S : Id → Id → Type 0) (xs ys : List (K × List Id)) → AllZip (λ x y. R x.0 y.0 × AllZip S x.1 y.1) xs ys
    → map length (values_of xs) ≡ map length (values_of ys)
lengths R S [] [] h = refl
lengths R S (x ∷ xs) (y ∷ ys) h =
    let here : length x.1 ≡ length y.1 = length_all_zip S x.1 y.1 h.0.1 in
    let rest = lengths R S xs ys h.1 in
    λ i. here i ∷ rest i
lengths R S xs ys h = absurd h

module _ {Name : Type 0} (cmp : Name → Name → Ordering) (total : IsTotalOrder cmp) (exact : CmpEqualImpliesEq cmp) where
  abbrev pub groups : Group Name Name → Group Name Name → Ordering
  groups = order_of_groups cmp cmp

  abbrev pub volumes : Rules Name Name
  volumes = named_rules cmp cmp Volume

  -- bins that are alike are the same, where the same ones were coalesced
  bins-same : (xs ys : List (Name × Bin)) → AreBinsAlike cmp xs ys → coalesced_of xs ≡ coalesced_of ys → xs ≡ ys
  bins-same [] [] alike same = refl
  bins-same (x ∷ xs) (y ∷ ys) alike same =
      let names : x.0 ≡ y.0 = exact x.0 y.0 alike.0.0 in
      let coalesced : x.1.coalesced ≡ y.1.coalesced = cc same in
      let rest : coalesced_of xs ≡ coalesced_of ys = cc same in
      let others = bins-same xs ys alike.1 rest in
      λ i. (names i, record { size = alike.0.1.size i; sections = alike.0.1.sections i; coalesced = coalesced i }) ∷ others i
  bins-same xs ys alike same = absurd alike

  bins-alike : (xs : List (Name × Bin)) → AreBinsAlike cmp xs xs
  bins-alike [] = tt
  bins-alike (x ∷ xs) = ((tied_itself total x.0, record { size = refl; sections = refl }), bins-alike xs)

  placements-same : (ps qs : List (Placement Name Name)) → ArePlacementsAlike cmp cmp ps qs → ps ≡ qs
  placements-same [] [] alike = refl
  placements-same (p ∷ ps) (q ∷ qs) alike =
      let ids : p.id ≡ q.id = exact p.id q.id alike.0.0 in
      let bins : p.bin ≡ q.bin = exact p.bin q.bin alike.0.1 in
      let others = placements-same ps qs alike.1 in
      λ i. record { id = ids i; bin = bins i; location = alike.0.2 i } ∷ others i
  placements-same ps qs alike = absurd alike

  -- packings by volumes have one result
  volumes_decide : (all others : Collection Name Name) (bins : List (Name × Bin)) → AreCollectionsAlike groups cmp all others
      → HaveOneResult groups volumes volumes all others bins bins
  volumes_decide all others bins alike =
      let may = named_answers Volume in
      let rates : Size → ℕ → Type 0 = λ size rate. rate ≡ rate_of Volume size in
      HaveOneResult-either groups cmp cmp may may all others bins bins
      (one_result groups (rules_by cmp cmp _)
      (groups_total groups cmp cmp total total (λ a b. refl) (λ a b. refl) (λ a b. refl) (λ a b. refl)) total total all others bins bins alike
      (bins-alike bins)
      (rates_decide (rate_of Volume) may may rates rates (λ size rate says. says) (λ size rate says. says) (λ size rate u says. says) (λ size rate u says. says)
      (λ a b r says. (says.0.small, says.1.small)) (λ a b r says. (says.0.small, says.1.small)) (λ a b r says. says.2) (λ a b r says. says.2)
      (values_of all.sizes) (values_of bins)))

  module _ (all others : Collection Name Name) (alike : AreCollectionsAlike groups cmp all others) (old : State Name Name) where
    entries : entries_of all ≡ entries_of others
    entries = ap sum (lengths (λ g h. groups g h ≡ Equal) (λ x y. cmp x y ≡ Equal) all.groups others.groups alike.groups)

    one : HaveOneResult groups volumes volumes all others old.bins old.bins
    one = volumes_decide all others old.bins alike

    coalesced-done : (some : Collection Name Name) (new : State Name Name) (numbers : PackedNumbers) → (kept : IsKept groups volumes some old numbers new)
        → coalesced_of new.bins ≡ coalesced_of old.bins
    coalesced-done some new numbers kept = coalesced-placed volumes (excludes_by groups cmp some.partners) _ kept.done.groups (at_start old.bins)
        kept.placements _ kept.done.tests kept.done.placed

    done-one : (numbers other_numbers : PackedNumbers) (new other : State Name Name) → IsKept groups volumes all old numbers new
        → IsKept groups volumes others old other_numbers other → (numbers ≡ other_numbers) × (new ≡ other)
    done-one numbers other_numbers new other kept other_kept =
        let result = one.done kept.placements other_kept.placements new.bins other.bins kept.done other_kept.done in
        let bins : new.bins ≡ other.bins = bins-same new.bins other.bins result.0
        (coalesced-done all new numbers kept ∙ sym (coalesced-done others other other_numbers other_kept)) in
        let placements = placements-same kept.placements other_kept.placements result.1 in
        let outstanding : new.outstanding ≡ other.outstanding = kept.outstanding ∙ ap (λ ps. old.outstanding ++ numbered old.next ps) placements ∙ sym other_kept.outstanding in
        let next : new.next ≡ other.next = kept.next ∙ ap (λ n. old.next + n) entries ∙ sym other_kept.next in
        let first : numbers.first ≡ other_numbers.first = kept.first ∙ sym other_kept.first in
        let count : numbers.count ≡ other_numbers.count = kept.count ∙ entries ∙ sym other_kept.count in
        (λ i. record { first = first i; count = count i }, λ i. record { bins = bins i; outstanding = outstanding i; next = next i })

    pub Packs-one : (reply other_reply : Reply) (new other : State Name Name) → Packs groups volumes all old reply new
        → Packs groups volumes others old other_reply other → reply ≢ Refused OutOfMemory → other_reply ≢ Refused OutOfMemory
        → (reply ≡ other_reply) × (new ≡ other)
    Packs-one (Packed numbers) (Packed other_numbers) new other a b m n =
        let same = done-one numbers other_numbers new other a.1 b.1 in (ap (λ k. Packed k) same.0, same.1)
    Packs-one (Packed numbers) (Refused NumbersUsedUp) new other a b m n = let e = entries in absurd (omega (arith, a.0, b.0))
    Packs-one (Packed numbers) (Refused NotEnoughBinSpace) new other a b m n =
        absurd (one.not_done_and_refused a.1.placements new.bins b.1 a.1.done b.2)
    Packs-one (Refused NumbersUsedUp) (Packed other_numbers) new other a b m n = let e = entries in absurd (omega (arith, a.0, b.0))
    Packs-one (Refused NumbersUsedUp) (Refused NumbersUsedUp) new other a b m n = (refl, a.1 ∙ sym b.1)
    Packs-one (Refused NumbersUsedUp) (Refused NotEnoughBinSpace) new other a b m n = let e = entries in absurd (omega (arith, a.0, b.0))
    Packs-one (Refused NotEnoughBinSpace) (Packed other_numbers) new other a b m n =
        absurd (one.not_refused_and_done b.1.placements a.1 other.bins a.2 b.1.done)
    Packs-one (Refused NotEnoughBinSpace) (Refused NumbersUsedUp) new other a b m n = let e = entries in absurd (omega (arith, a.0, b.0))
    Packs-one (Refused NotEnoughBinSpace) (Refused NotEnoughBinSpace) new other a b m n = (refl, a.3 ∙ sym b.3)
    Packs-one (Refused OutOfMemory) r new other a b m n = absurd (m refl)
    Packs-one r (Refused OutOfMemory) new other a b m n = absurd (n refl)
    Packs-one (Packed numbers) r new other a b m n = absurd b
    Packs-one (Refused NumbersUsedUp) r new other a b m n = absurd b
    Packs-one (Refused NotEnoughBinSpace) r new other a b m n = absurd b
    Packs-one s r new other a b m n = absurd a
