-- What the calls of the library say of a session and of boxes, in the words of a store.
use Rattle.std.proofs.Common.{◌≡◌, ℕ, suc, ◌+◌, ◌-◌, ◌≤◌, List, [], ◌∷◌, length, length-append, drop, arith, Option, Some, None, Result, Ok, Err, MatchOption, option_map, refl, ap, sym, ◌∙◌, subst}
use Rattle.std.specs.List.Sorted.{IsStrictlySortedBy}
use Rattle.std.specs.Map.{lookup, keys_of}
use Rattle.std.specs.BTreeMap.{is_at}
use Rattle.std.specs.declared.cmp.Ordering.{Ordering}
use Rattle.std.specs.declared.cmp.Ordering.TheVariants.{Less, Greater}
use Rattle.std.specs.declared.vec.Vec.{Vec}
use Rattle.std.proofs.lemmas.Cmp.{nat_list_cmp_total}
use Rattle.rectangle_pack.specs.declared.grouped_rects_to_place.Group.{Group}
use Rattle.rectangle_pack.specs.declared.grouped_rects_to_place.Group.TheVariants.{Ungrouped, Grouped}
use Rattle.rectangle_pack.specs.declared.pack.Placement.{Placement}
use Rattle.rectangle_pack.specs.declared.box_size_heuristics.Heuristic.TheVariants.{Volume}
use Rattle.rectangle_pack.specs.declared.session.command.Packed.{Packed as PackedNumbers}
use Rattle.rectangle_pack.specs.declared.session.command.Reply.{Reply}
use Rattle.rectangle_pack.specs.declared.session.command.Reply.TheVariants.{Packed, Refused}
use Rattle.rectangle_pack.specs.declared.session.command.SessionError.{SessionError}
use Rattle.rectangle_pack.specs.declared.session.command.SessionError.TheVariants.{NumbersUsedUp, NotEnoughBinSpace, OutOfMemory}
use Rattle.rectangle_pack.specs.Bins.{Bin, Held, bins_of}
use Rattle.rectangle_pack.specs.Boxes.{Size}
use Rattle.rectangle_pack.specs.Closures.{Answers}
use Rattle.rectangle_pack.specs.Groups.{Collection, PushesAlone, PushesInto, Excludes}
use Rattle.rectangle_pack.specs.Heuristics.{named_answers}
use Rattle.rectangle_pack.specs.Packing.{rules_by, excludes_by}
use Rattle.rectangle_pack.specs.Promise.{PacksAsPromised}
use Rattle.rectangle_pack.specs.Session.{State, Packs, numbered, packed_reply}
use Rattle.rectangle_pack.proofs.lemmas.session.Promise.{packs-promised}
use Rattle.rectangle_pack_packing.proofs.lemmas.determinism.Either.{Includes, PackingDone-more, PackingRefused-more}
use Rattle.rectangle_pack_bins.proofs.lemmas.bins.Maps.{lookup-bins_of}
use Rattle.rectangle_pack_sections.proofs.lemmas.groups.GroupOrder.{same_order}
use Rattle.packrun_lines.specs.Store.{Name, name_cmp, Store, no_boxes, group_order, volume_rules, TakesBox, PacksBoxes, placements_made, sections_in}

-- a packing of a session by some answers is one by more
module _ {Id B G : Type 0} (group_cmp : Group G Id → Group G Id → Ordering) (cmp : Id → Id → Ordering) (bin_cmp : B → B → Ordering)
    (may more : Answers) (includes : Includes may more) where
  pub Packs-more : (all : Collection Id G) (old : State Id B) (reply : Reply) (new : State Id B)
      → Packs group_cmp (rules_by cmp bin_cmp may) all old reply new → Packs group_cmp (rules_by cmp bin_cmp more) all old reply new
  Packs-more all old (Packed numbers) new (low, kept) = (
    low,
    record {
      placements = kept.placements;
      done = PackingDone-more cmp bin_cmp may more includes group_cmp (excludes_by group_cmp bin_cmp all.partners) all old.bins kept.placements new.bins kept.done;
      counted = kept.counted;
      first = kept.first;
      count = kept.count;
      outstanding = kept.outstanding;
      next = kept.next;
    },
  )
  Packs-more all old (Refused NumbersUsedUp) new h = h
  Packs-more all old (Refused NotEnoughBinSpace) new (low, left, refused, same) = (
    low,
    left,
    PackingRefused-more cmp bin_cmp may more includes group_cmp (excludes_by group_cmp bin_cmp all.partners) all old.bins left refused,
    same,
  )
  Packs-more all old (Refused OutOfMemory) new h = h
  Packs-more all old reply new h = absurd h

module _ (R : Group Name Name → Group Name Name → Ordering)
    (alone : (a b : Name) → R (Ungrouped a) (Ungrouped b) ≡ name_cmp a b) (before : (a b : Name) → R (Ungrouped a) (Grouped b) ≡ Less)
    (behind : (a b : Name) → R (Grouped a) (Ungrouped b) ≡ Greater) (named : (a b : Name) → R (Grouped a) (Grouped b) ≡ name_cmp a b) where
  same : R ≡ group_order
  same = same_order name_cmp name_cmp R alone before behind named

  -- a box is taken in
  pub TakesBox-pushed : {A : Type 0} (name : Name) (size : Size) (groups : Option (Vec Name A)) (old new : Collection Name Name)
      → MatchOption groups (PushesAlone name_cmp R old new name size) (λ names. PushesInto name_cmp R old new name names.items size)
      → IsStrictlySortedBy R (keys_of new.groups) → TakesBox name size (option_map (λ names. names.items) groups) old new
  TakesBox-pushed name size None old new h sorted = subst (λ S. PushesAlone name_cmp S old new name size) same h
  TakesBox-pushed name size (Some names) old new h sorted =
      subst (λ S. PushesInto name_cmp S old new name names.items size × IsStrictlySortedBy S (keys_of new.groups)) same (h, sorted)

  -- two groups are excluded
  pub Excludes-ordered : (old new : Collection Name Name) (a b : Group Name Name) → Excludes R old new a b → Excludes group_order old new a b
  Excludes-ordered old new a b h = subst (λ S. Excludes S old new a b) same h

  module _ (may : Answers) (old : Store) where
    -- boxes are packed by closures that answer as volumes do
    Packs-volume : Includes may (named_answers Volume) → (reply : Reply) (new : State Name Name)
        → Packs R (rules_by name_cmp name_cmp may) old.boxes old.session reply new → Packs group_order volume_rules old.boxes old.session reply new
    Packs-volume includes reply new h = subst (λ S. Packs S volume_rules old.boxes old.session reply new) same
        (Packs-more R name_cmp name_cmp may (named_answers Volume) includes old.boxes old.session reply new h)

    pub PacksBoxes-done : (numbers : PackedNumbers) (packed : State Name Name) (new : Store)
        → Packs R (rules_by name_cmp name_cmp may) old.boxes old.session (Packed numbers) packed
        → Includes may (named_answers Volume) → new.session ≡ packed → new.boxes ≡ no_boxes → PacksBoxes old (Ok numbers) new
    PacksBoxes-done numbers packed new h includes session boxes = (
      subst (λ s. Packs group_order volume_rules old.boxes old.session (Packed numbers) s) (sym session)
          (Packs-volume includes (Packed numbers) packed h),
      boxes,
    )

    pub PacksBoxes-refused : (error : SessionError) (new : State Name Name) → Packs R (rules_by name_cmp name_cmp may) old.boxes old.session (Refused error) new
        → Includes may (named_answers Volume) → PacksBoxes old (Err error) (record old { session = new })
    PacksBoxes-refused error new h includes = (Packs-volume includes (Refused error) new h, refl)

-- and what the headline says of packings holds of them
pub PacksBoxes-promised : (old : Store) (result : Result PackedNumbers SessionError)
    (new : Store) → PacksBoxes old result new
    → PacksAsPromised group_order volume_rules old.boxes old.session (packed_reply result) new.session
PacksBoxes-promised old (Ok numbers) new h =
    packs-promised group_order volume_rules nat_list_cmp_total old.boxes old.session (Packed numbers) new.session h.0
PacksBoxes-promised old (Err error) new h =
    packs-promised group_order volume_rules nat_list_cmp_total old.boxes old.session (Refused error) new.session h.0

length-numbered : {Id B : Type 0} (n : ℕ) (ps : List (Placement Id B)) → length (numbered n ps) ≡ length ps
length-numbered n [] = refl
length-numbered n (p ∷ ps) = ap suc (length-numbered (n + 1) ps)

-- the placements that a packing made are the last ones, as many as it answers
module _ (old : Store) (numbers : PackedNumbers) (new : Store)
    (packed : PacksBoxes old (Ok numbers) new) where
  made-length : length new.session.outstanding ≡ length old.session.outstanding + numbers.count
  made-length =
      let kept = packed.0.1 in
      ap length kept.outstanding ∙ length-append old.session.outstanding (numbered old.session.next kept.placements)
      ∙ ap (λ n. length old.session.outstanding + n) (length-numbered old.session.next kept.placements ∙ kept.counted ∙ sym kept.count)

  pub made-few : numbers.count ≤ length new.session.outstanding
  made-few = omega (arith, made-length)

  pub made-last : drop (length new.session.outstanding - numbers.count) new.session.outstanding ≡ placements_made old new
  made-last =
      let at : length new.session.outstanding - numbers.count ≡ length old.session.outstanding = omega (arith, made-length) in
      ap (λ n. drop n new.session.outstanding) at

-- the free sections of a bin that a look-up finds
pub sections-found : (name : Name) (entries : List (Name × Held)) (state : State Name Name)
    → bins_of entries ≡ state.bins → (found : Option Held) → found ≡ lookup (is_at (name_cmp name)) entries
    → option_map (λ (h : Held). h.bin.sections) found ≡ sections_in state name
sections-found name entries state same found is =
    by found (ap (lookup (is_at (name_cmp name))) (sym same) ∙ lookup-bins_of (is_at (name_cmp name)) entries ∙ ap (option_map (λ (h : Held). h.bin)) (sym is))
  where
    by : (held : Option Held) → lookup (is_at (name_cmp name)) state.bins ≡ option_map (λ (h : Held). h.bin) held
        → option_map (λ (h : Held). h.bin.sections) held ≡ sections_in state name
    by None there = sym (ap (option_map (λ (b : Bin). b.sections)) there)
    by (Some h) there = sym (ap (option_map (λ (b : Bin). b.sections)) there)
