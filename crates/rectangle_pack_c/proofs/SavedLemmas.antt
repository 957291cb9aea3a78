-- Saved parts: the state that has them, and why no session has wrong ones.
use Rattle.rectangle_pack_c.proofs.Std.{◌≡◌, ◌≢◌, ℕ, zero, suc, ◌+◌, ◌<◌, ◌≤◌, List, [], ◌∷◌, ◌++◌, length, take, drop, refl, ap, sym, ◌∙◌, subst, arith, nat_cmp, Less}
use Rattle.rectangle_pack_c.proofs.Std.{Some, AllZip, map, keys_of, lookup, is_at, IsStrictlySortedBy, length-map, length-take-le, length-append, append_assoc, map-append}
use Rattle.rectangle_pack_c.proofs.Std.{nat_cmp_is}
use Rattle.std.proofs.Common.{Err, length-drop}
use Rattle.std.specs.List.{flat_map, sum_by}
use Rattle.std.proofs.lemmas.Cmp.{nat_cmp_total}
use Rattle.std.proofs.lemmas.List.{get_or-map}
use Rattle.std.proofs.lemmas.List.Sums.{sum_by-cons}
use Rattle.std.proofs.lemmas.Map.Keys.{sorted_from_all_adjacent, sorted_tail, below_from_sorted}
use Rattle.std.proofs.lemmas.Map.Views.{All-after_first}
use Rattle.rectangle_pack_sections.proofs.lemmas.util.Lists.{All-middle}
use Rattle.rectangle_pack.specs.declared.SectionsError.{SectionsError}
use Rattle.rectangle_pack.specs.declared.SectionsError.TheVariants.{Outside as NotInside, SharesCell as Share, OutOfMemory as NoMemory}
use Rattle.rectangle_pack.specs.Covers.{IsSectionsAnswer, in_one_bin}
use Rattle.rectangle_pack_covers.proofs.lemmas.Covers.{outside-no_cover, sharing-no_cover}
use Rattle.rectangle_pack.specs.declared.session.command.Outstanding.{Outstanding}
use Rattle.rectangle_pack.specs.declared.session.restoring.RestoreError.{RestoreError}
use Rattle.rectangle_pack.specs.declared.session.restoring.RestoreError.TheVariants.{NotRising, NotBelowNext, UnknownBin, WrongBin, OutOfMemory}
use Rattle.rectangle_pack.specs.Bins.{Bin}
use Rattle.rectangle_pack.specs.Boxes.{Size, Cuboid}
use Rattle.rectangle_pack.specs.Covering.{CoverBin}
use Rattle.rectangle_pack.specs.Restoring.{IsRestored}
use Rattle.rectangle_pack.specs.Session.{State, IsSession, outstanding_in}
use Rattle.rectangle_pack.proofs.lemmas.session.Restoring.{no_session-record, no_session-bin}
use Rattle.rectangle_pack_c.specs.declared.reading.RpSection.{RpSection}
use Rattle.rectangle_pack_c.specs.declared.standing.RpStanding.{RpStanding}
use Rattle.rectangle_pack_c.specs.declared.restoring.RpSaved.{RpSaved}
use Rattle.rectangle_pack_c.specs.declared.restoring.RpSavedBin.{RpSavedBin}
use Rattle.rectangle_pack_c.specs.declared.restoring.RpWrong.{RpWrong}
use Rattle.rectangle_pack_c.specs.declared.restoring.SavedError.{SavedError}
use Rattle.rectangle_pack_c.specs.declared.restoring.SavedError.TheVariants.{Counts, Ids, Sections, Parts}
use Rattle.rectangle_pack_c.specs.Reading.{cuboid_of, section_of, standing_of}
use Rattle.rectangle_pack_c.specs.Restoring.{IsSavedBin, HasParts, IsSavedSession, AreCounted, IdsRise, IsSavedFault, wrong_in_sections, wrong_written}
use Rattle.rectangle_pack_c.specs.private.Saved.{AreBinsSaved, bin_saved, bins_saved, outstanding_of, state_saved}
use Rattle.rectangle_pack_c.proofs.OrderLemmas.{nat_same, nat_other}

-- what is read of what was written is as before, and the other way round
boxes_again : (boxes : List Cuboid) → map cuboid_of (map section_of boxes) ≡ boxes
boxes_again [] = refl
boxes_again (b ∷ boxes) = ap (λ l. b ∷ l) (boxes_again boxes)

sections_again : (sections : List RpSection) → map section_of (map cuboid_of sections) ≡ sections
sections_again [] = refl
sections_again (s ∷ sections) = ap (λ l. s ∷ l) (sections_again sections)

outstanding_again : (outstanding : List (Outstanding ℕ ℕ)) → map outstanding_of (map standing_of outstanding) ≡ outstanding
outstanding_again [] = refl
outstanding_again (o ∷ outstanding) = ap (λ l. o ∷ l) (outstanding_again outstanding)

standing_again : (placements : List RpStanding) → map standing_of (map outstanding_of placements) ≡ placements
standing_again [] = refl
standing_again (p ∷ placements) = ap (λ l. p ∷ l) (standing_again placements)

-- how many sections a saved bin has, and its id
abbrev pub count_of : RpSavedBin → ℕ
count_of b = b.section_count

abbrev pub id_of : RpSavedBin → ℕ
id_of b = b.id

-- what is written of the free sections of a bin
abbrev told : ℕ × Bin → List RpSection
told e = map section_of e.1.sections

front : {X : Type 0} (n : ℕ) (xs ys : List X) → length xs ≡ n → take n (xs ++ ys) ≡ xs
front n [] ys e = rw (← e) refl
front n (x ∷ xs) ys e = rw (← e) (ap (λ l. x ∷ l) (front (length xs) xs ys refl))

back : {X : Type 0} (n : ℕ) (xs ys : List X) → length xs ≡ n → drop n (xs ++ ys) ≡ ys
back n [] ys e = rw (← e) refl
back n (x ∷ xs) ys e = rw (← e) (back (length xs) xs ys refl)

pub whole_again : {X : Type 0} (n : ℕ) (xs : List X) → take n xs ++ drop n xs ≡ xs
whole_again zero xs = refl
whole_again (suc n) [] = refl
whole_again (suc n) (x ∷ xs) = ap (λ l. x ∷ l) (whole_again n xs)

nothing_left : {X : Type 0} (xs : List X) → length xs ≡ 0 → [] ≡ xs
nothing_left [] e = refl
nothing_left (x ∷ xs) e = absurd (omega (arith, e))

-- the bins of saved parts are saved so
bins_are_saved : (bins : List RpSavedBin) (sections : List RpSection) → sum_by count_of bins ≡ length sections → AllZip IsSavedBin (bins_saved bins sections) bins
bins_are_saved [] sections e = tt
bins_are_saved (b ∷ bins) sections e =
    let n = b.section_count in
    let parts = sum_by-cons count_of b bins in
    let fits : n ≤ length sections = omega (arith, e, parts) in (
      record { id = refl; size = refl; coalesced = refl; count = length-map (take n sections) cuboid_of ∙ length-take-le n sections fits },
      bins_are_saved bins (drop n sections) (omega (arith, e, parts, length-drop n sections)),
    )

-- and have the sections
sections_are_saved : (bins : List RpSavedBin) (sections : List RpSection) → sum_by count_of bins ≡ length sections → flat_map told (bins_saved bins sections) ≡ sections
sections_are_saved [] sections e = nothing_left sections (sym e)
sections_are_saved (b ∷ bins) sections e =
    let n = b.section_count in
    let parts = sum_by-cons count_of b bins in
    let later = sections_are_saved bins (drop n sections) (omega (arith, e, parts, length-drop n sections)) in
    rw (sections_again (take n sections), later) (whole_again n sections)

ids_are_saved : (bins : List RpSavedBin) (sections : List RpSection) → keys_of (bins_saved bins sections) ≡ map id_of bins
ids_are_saved [] sections = refl
ids_are_saved (b ∷ bins) sections = ap (λ l. b.id ∷ l) (ids_are_saved bins (drop b.section_count sections))

rising_ids : (bins : List RpSavedBin) → IdsRise bins → IsStrictlySortedBy nat_cmp (map id_of bins)
rising_ids bins rise = sorted_from_all_adjacent nat_cmp_total (map id_of bins) 0 (λ k within.
    let d : RpSavedBin = record { id = 0; size = record { width = 0; height = 0; depth = 0 }; coalesced = 0; section_count = 0 } in
    let next : k + 1 < length bins = omega (arith, within, length-map bins id_of) in
    let less = rise k (k + 1) d (omega arith) next in
    rw (get_or-map id_of bins k d 0 (omega (arith, next)), get_or-map id_of bins (k + 1) d 0 next) (sym (nat_cmp_is _ _ Less less)))

-- the state of saved parts has them
pub has_parts : (saved : RpSaved) → AreCounted saved → IdsRise saved.bins.now → HasParts saved (state_saved saved)
has_parts saved counted rise = record {
  bins = bins_are_saved saved.bins.now saved.sections.now counted;
  rising = rw (ids_are_saved saved.bins.now saved.sections.now) (rising_ids saved.bins.now rise);
  sections = sections_are_saved saved.bins.now saved.sections.now counted;
  outstanding = standing_again saved.placements.now;
  next = refl;
}

-- bins that are saved so are those of the parts
saved_bins : (es : List (ℕ × Bin)) (bins : List RpSavedBin) (sections : List RpSection) → AllZip IsSavedBin es bins → flat_map told es ≡ sections
    → es ≡ bins_saved bins sections
saved_bins [] [] sections h is = refl
saved_bins [] (b ∷ bins) sections h is = absurd h
saved_bins (e ∷ es) [] sections h is = absurd h
saved_bins (e ∷ es) (b ∷ bins) sections h is =
    let n = b.section_count in
    let many : length (told e) ≡ n = length-map e.1.sections section_of ∙ h.0.count in
    let own : take n sections ≡ told e = rw (← is) (front n (told e) (flat_map told es) many) in
    let rest : flat_map told es ≡ drop n sections = rw (← is) (sym (back n (told e) (flat_map told es) many)) in
    let boxes : e.1.sections ≡ map cuboid_of (take n sections) = rw own (sym (boxes_again e.1.sections)) in
    let bin : e.1 ≡ bin_saved b (take n sections) = same_bin e.1 (bin_saved b (take n sections)) h.0.size boxes h.0.coalesced in
    let entry : e ≡ (b.id, bin_saved b (take n sections)) = same_entry e b.id (bin_saved b (take n sections)) h.0.id bin in
    ap (λ (l : List (ℕ × Bin)). e ∷ l) (saved_bins es bins (drop n sections) h.1 rest)
    ∙ ap (λ (x : ℕ × Bin). x ∷ bins_saved bins (drop n sections)) entry
  where
    same_bin : (a c : Bin) → a.size ≡ c.size → a.sections ≡ c.sections → a.coalesced ≡ c.coalesced → a ≡ c
    same_bin a c size sections coalesced =
        ap (λ s. record a { size = s }) size ∙ ap (λ l. record a { size = c.size; sections = l }) sections
        ∙ ap (λ t. record { size = c.size; sections = c.sections; coalesced = t }) coalesced

    same_entry : (e : ℕ × Bin) (id : ℕ) (bin : Bin) → e.0 ≡ id → e.1 ≡ bin → e ≡ (id, bin)
    same_entry e id bin same are = ap (λ i. (i, e.1)) same ∙ ap (λ b. (id, b)) are

-- there is only one state that has parts
pub only_state : (saved : RpSaved) (state : State ℕ ℕ) → HasParts saved state → state ≡ state_saved saved
only_state saved state h =
    let bins = saved_bins state.bins saved.bins.now saved.sections.now h.bins h.sections in
    let outstanding : state.outstanding ≡ map outstanding_of saved.placements.now = rw (← h.outstanding) (sym (outstanding_again state.outstanding)) in
    ap (λ (bs : List (ℕ × Bin)). record state { bins = bs }) bins
    ∙ ap (λ (os : List (Outstanding ℕ ℕ)). record { bins = bins_saved saved.bins.now saved.sections.now; outstanding = os; next = state.next }) outstanding
    ∙ ap (λ n. record {
      bins = bins_saved saved.bins.now saved.sections.now;
      outstanding = map outstanding_of saved.placements.now;
      next = n;
    }) h.next

-- parts that a state has are counted
counted_parts : (es : List (ℕ × Bin)) (bins : List RpSavedBin) (sections : List RpSection) → AllZip IsSavedBin es bins → flat_map told es ≡ sections
    → sum_by count_of bins ≡ length sections
counted_parts [] [] sections h is = rw (← is) refl
counted_parts [] (b ∷ bins) sections h is = absurd h
counted_parts (e ∷ es) [] sections h is = absurd h
counted_parts (e ∷ es) (b ∷ bins) sections h is =
    let later = counted_parts es bins (flat_map told es) h.1 refl in
    omega (
      arith,
      sum_by-cons count_of b bins,
      later,
      h.0.count,
      length-map e.1.sections section_of,
      length-append (told e) (flat_map told es),
      ap length is,
    )

ids_of_parts : (es : List (ℕ × Bin)) (bins : List RpSavedBin) → AllZip IsSavedBin es bins → keys_of es ≡ map id_of bins
ids_of_parts [] [] h = refl
ids_of_parts [] (b ∷ bins) h = absurd h
ids_of_parts (e ∷ es) [] h = absurd h
ids_of_parts (e ∷ es) (b ∷ bins) h = ap (λ i. i ∷ keys_of es) h.0.id ∙ ap (λ l. b.id ∷ l) (ids_of_parts es bins h.1)

-- of ids that rise the next one is above
rises : (before : List ℕ) (a b : ℕ) (after : List ℕ) → IsStrictlySortedBy nat_cmp (before ++ a ∷ b ∷ after) → a < b
rises [] a b after h = below_from_sorted (a ∷ b ∷ after) 0 1 0 h (omega arith) (omega arith)
rises (k ∷ before) a b after h = rises before a b after (sorted_tail nat_cmp k (before ++ a ∷ b ∷ after) h)

-- a bin of a list whose ids rise is found under its id
found_bin : (before : List (ℕ × Bin)) (one : ℕ × Bin) (after : List (ℕ × Bin)) → IsStrictlySortedBy nat_cmp (keys_of (before ++ one ∷ after))
    → lookup (is_at (nat_cmp one.0)) (before ++ one ∷ after) ≡ Some one.1
found_bin [] one after h = rw (nat_same one.0) refl
found_bin (e ∷ before) one after h =
    let keys : List ℕ = keys_of (before ++ one ∷ after) in
    let below = All-middle (λ q. nat_cmp e.0 q ≡ Less) keys (keys_of before) (keys_of after) one.0 (map-append (λ (x : ℕ × Bin). x.0) before (one ∷ after))
    (All-after_first nat_cmp e.0 keys h) in
    let differ : one.0 ≢ e.0 = λ same. other e.0 one.0 (sym same) below in
    rw (nat_other one.0 e.0 differ) (found_bin before one after (sorted_tail nat_cmp e.0 keys h))
  where
    other : (a b : ℕ) → a ≡ b → nat_cmp a b ≡ Less → ⊥
    other a b same less = let equal = nat_same b in let here = rw same at less in absurd (let no = rw here at equal in cc)

-- free sections of a bin that is covered are such
sound_part : (size : Size) (sections standing : List Cuboid) (error : SectionsError) → error ≢ NoMemory → IsSectionsAnswer size sections (Err error)
    → CoverBin (sections ++ standing) size → ⊥
sound_part size sections standing (NotInside index) known (at, before, outside) cover =
    outside-no_cover size (sections ++ standing) index (
      record {
        before = at.before;
        one = at.one;
        after = at.after ++ standing;
        splits = ap (λ l. l ++ standing) at.splits ∙ append_assoc at.before (at.one ∷ at.after) standing;
        place_is = at.place_is;
      },
      before,
      outside,
    ) cover
sound_part size sections standing (Share first second) known (inside, o) cover =
    let at = o.later in
    sharing-no_cover size (sections ++ standing) first second (
      cover.inside,
      record {
        later = record {
          before = at.before;
          one = at.one;
          after = at.after ++ in_one_bin standing;
          splits = map-append _ sections standing ∙ ap (λ l. l ++ in_one_bin standing) at.splits ∙ append_assoc at.before (at.one ∷ at.after) (in_one_bin standing);
          place_is = at.place_is;
        };
        clear = o.clear;
        earlier = o.earlier;
        clash = o.clash;
        none_before = o.none_before;
      },
    ) cover
sound_part size sections standing NoMemory known h cover = known refl

-- of a session that has the same parts holds what always holds
carried : (saved : RpSaved) (other : State ℕ ℕ) → HasParts saved other → (state : State ℕ ℕ) → IsSavedSession saved state → IsSession nat_cmp other
carried saved other h state s = subst (IsSession nat_cmp) (only_state saved state s.parts ∙ sym (only_state saved other h)) s.always

-- what is written of is no want of memory
known : (bin : ℕ) (error : SectionsError) (wrong : RpWrong) → wrong_in_sections bin error ≡ Some wrong → error ≢ NoMemory
known bin error wrong written none = let nothing = rw none at written in absurd cc

-- no session has parts in which something is wrong
pub no_saved : (saved : RpSaved) (error : SavedError) (wrong : RpWrong) → wrong_written error ≡ Some wrong → IsSavedFault saved error
    → (state : State ℕ ℕ) → ¬ IsSavedSession saved state
no_saved saved Counts wrong written h state = λ s. h (counted_parts state.bins saved.bins.now saved.sections.now s.parts.bins s.parts.sections)
no_saved saved (Ids bin) wrong written h state = λ s.
    let at = h.1 in
    let keys = ids_of_parts state.bins saved.bins.now s.parts.bins ∙ ap (map id_of) at.splits ∙ map-append id_of at.before (at.last ∷ at.one ∷ at.after) in
    omega (arith, at.fallen, rises (map id_of at.before) at.last.id at.one.id (map id_of at.after) (subst (IsStrictlySortedBy nat_cmp) keys s.parts.rising))
no_saved saved (Sections bin error) wrong written h state = λ s.
    let other = h.0 in
    let at = h.2 in
    let always = carried saved other h.1 state s in
    let found : lookup (is_at (nat_cmp at.one.0)) other.bins ≡ Some at.one.1 =
    rw at.splits (found_bin at.before at.one at.after (rw at.splits at h.1.rising)) in
    sound_part at.one.1.size at.one.1.sections (outstanding_in nat_cmp other.outstanding at.one.0) error (known bin error wrong written) h.4
    (always.covered at.one.0 at.one.1 found)
no_saved saved (Parts (NotRising p)) wrong written h state = λ s. no_session-record nat_cmp h.0 (NotRising p) h.3 (carried saved h.0 h.1 state s)
no_saved saved (Parts (NotBelowNext p)) wrong written h state = λ s. no_session-record nat_cmp h.0 (NotBelowNext p) h.3 (carried saved h.0 h.1 state s)
no_saved saved (Parts (UnknownBin p)) wrong written h state = λ s. no_session-record nat_cmp h.0 (UnknownBin p) h.3 (carried saved h.0 h.1 state s)
no_saved saved (Parts (WrongBin b f)) wrong written h state = λ s. no_session-bin nat_cmp h.0 (WrongBin b f) h.3.1 (carried saved h.0 h.1 state s)
no_saved saved (Parts OutOfMemory) wrong written h state = absurd cc

-- of parts that are those of a state the library says what is wrong
pub fault_of_parts : (saved : RpSaved) (bins : List (ℕ × Bin)) → AreBinsSaved saved bins → (error : RestoreError)
    → IsRestored nat_cmp (state_saved saved) (Err error) → IsSavedFault saved (Parts error)
fault_of_parts saved bins h (NotRising p) r = (state_saved saved, has_parts saved h.counted h.rising, rw h.are at h.sound, r)
fault_of_parts saved bins h (NotBelowNext p) r = (state_saved saved, has_parts saved h.counted h.rising, rw h.are at h.sound, r)
fault_of_parts saved bins h (UnknownBin p) r = (state_saved saved, has_parts saved h.counted h.rising, rw h.are at h.sound, r)
fault_of_parts saved bins h (WrongBin p f) r = (state_saved saved, has_parts saved h.counted h.rising, rw h.are at h.sound, r)
fault_of_parts saved bins h OutOfMemory r = tt
