-- What is shown of a collection is needed for it.
use Rattle.rectangle_pack_sections.proofs.Std.{◌≡◌, ◌<◌, ℕ, List, length, sym, ◌∙◌, ap, subst, All, All-weaker, map, values_of, keys_of, Option, Result, Ok, Err, IfOk, Ordering, IsTotalOrder, Vec}
use Rattle.rectangle_pack_sections.proofs.Std.{keys_of-map_values}
use Rattle.rectangle_pack_sections.specs.declared.group.Group.{Group}
use Rattle.rectangle_pack_sections.specs.Bins.{Bin}
use Rattle.rectangle_pack_sections.specs.Boxes.{Size}
use Rattle.rectangle_pack_sections.specs.Groups.{Collection, MembersHaveSizes, HaveSizes, lists_of}
use Rattle.rectangle_pack_bounds.specs.declared.turning.Turns.{Turns}
use Rattle.rectangle_pack_bounds.specs.declared.turning.TurningBox.{TurningBox}
use Rattle.rectangle_pack_bounds.specs.Bounds.{IsShown}
use Rattle.rectangle_pack_bounds.proofs.lemmas.ShownBins.{shown_is_met}
use Rattle.rectangle_pack.specs.Needed.{AreGroupsApart, AreNeededFor, IsShownFor, box_of, entries, sizes_of}
use Rattle.rectangle_pack.proofs.lemmas.bound.Apart.{apart_used}

-- what follows of what is answered
pub if_ok : {X E : Type 0} (P Q : X → Type 0) → ((x : X) → P x → Q x) → (result : Result X E) → IfOk result P → IfOk result Q
if_ok P Q f (Ok x) h = f x h
if_ok P Q f (Err e) h = tt

module _ {Id B G : Type 0} (group_cmp : Group G Id → Group G Id → Ordering) (cmp : Id → Id → Ordering) (bin_cmp : B → B → Ordering)
    (all : Collection Id G) (turns : List (Id × Turns)) (bins : List (B × Bin)) where
  pub needed_for : IsTotalOrder group_cmp → IsTotalOrder bin_cmp → MembersHaveSizes cmp all.sizes all.groups → (least : Option ℕ)
      → IsShownFor group_cmp cmp bin_cmp all turns bins least → AreNeededFor group_cmp cmp bin_cmp all turns bins least
  needed_for o bin_o members least shown puts arrangement =
      let Sized : List Id → Type 0 = λ ids. (0 < length ids) × HaveSizes cmp all.sizes ids in
      let some : All (λ (ids : List Id). 0 < length ids) (values_of all.groups) =
      All-weaker Sized (λ (ids : List Id). 0 < length ids) (λ ids h. h.0) (values_of all.groups) members in
      shown_is_met bin_cmp bin_o (λ (entry : Group G Id × Id). box_of cmp all.sizes turns entry.1) (entries all.groups) (sizes_of bins) puts
      (length shown.apart) least shown.shown arrangement.arranged
      (apart_used o bin_o all.partners all.groups puts arrangement.arranged.each_once arrangement.excluded_apart some shown.apart shown.are_apart)

  -- what the parts of a bound show, as the call finds them
  pub shown_for : {A : Type 0} (rects : List (Id × Size)) → rects ≡ all.sizes → (lists : List (Group G Id × Vec Id A)) → lists_of lists ≡ all.groups
      → (partners : List (Group G Id × List (Group G Id))) → partners ≡ all.partners
      → (sizes : List Size) → sizes ≡ values_of (sizes_of bins)
      → (boxes : List TurningBox) → boxes ≡ map (λ (entry : Group G Id × Id). box_of cmp rects turns entry.1) (entries (lists_of lists))
      → (number : ℕ) → (apart : List (Group G Id)) × AreGroupsApart group_cmp partners (keys_of lists) apart × (number ≡ length apart)
      → (least : Option ℕ) → IsShown sizes boxes number least → IsShownFor group_cmp cmp bin_cmp all turns bins least
  shown_for {A} rects rects_are lists lists_are partners partners_are sizes sizes_are boxes boxes_are number (apart, are_apart, long) least shown =
      let Name : Type 0 = Group G Id in
      let names : keys_of lists ≡ keys_of all.groups = sym (keys_of-map_values (λ (v : Vec Id A). v.items) lists) ∙ ap keys_of lists_are in
      let box : List (Id × Size) → Name × Id → TurningBox = λ found entry. box_of cmp found turns entry.1 in
      let boxes_of_all : boxes ≡ map (box all.sizes) (entries all.groups) =
      boxes_are ∙ ap (λ (gs : List (Name × List Id)). map (box rects) (entries gs)) lists_are
      ∙ ap (λ (found : List (Id × Size)). map (box found) (entries all.groups)) rects_are in
      record {
        apart = apart;
        are_apart = subst (λ (ps : List (Name × List Name)). AreGroupsApart group_cmp ps (keys_of all.groups) apart) partners_are
            (subst (λ (ns : List Name). AreGroupsApart group_cmp partners ns apart) names are_apart);
        shown = subst (λ (ss : List Size). IsShown ss (map (box all.sizes) (entries all.groups)) (length apart) least) sizes_are
            (subst (λ (bs : List TurningBox). IsShown sizes bs (length apart) least) boxes_of_all
            (subst (λ (n : ℕ). IsShown sizes boxes n least) long shown));
      }
