-- Saved bins that are put into a map one after another, and ids that rise.
use Rattle.rectangle_pack_c.proofs.Std.{◌≡◌, ℕ, zero, suc, ◌+◌, ◌<◌, ◌≤◌, List, [], ◌∷◌, ◌++◌, length, get_or, take, drop, refl, ap, sym, ◌∙◌, arith, nat_cmp}
use Rattle.rectangle_pack_c.proofs.Std.{All, map, keys_of, insert_entry, length-map, length-take-le, append_assoc, map-append}
use Rattle.rectangle_pack_c.proofs.Std.{get_or_default, take_more, All-head, All-tail, ◌-◌, below_more}
use Rattle.std.proofs.Common.{add-one, length-drop, drop-cons}
use Rattle.std.specs.List.{sum_by}
use Rattle.std.proofs.lemmas.List.Sums.{sum_by-cons}
use Rattle.rectangle_pack_sections.proofs.Std.{All-map, All-push, all_pairs_push, get_or-take}
use Rattle.rectangle_pack.specs.declared.session.restoring.RestoreError.TheVariants.{NotRising, NotBelowNext, UnknownBin, WrongBin, OutOfMemory}
use Rattle.rectangle_pack.specs.Bins.{Bin}
use Rattle.rectangle_pack_c.specs.declared.reading.RpSection.{RpSection}
use Rattle.rectangle_pack_c.specs.declared.restoring.RpSaved.{RpSaved}
use Rattle.rectangle_pack_c.specs.declared.restoring.RpSavedBin.{RpSavedBin}
use Rattle.rectangle_pack_c.specs.declared.restoring.SavedError.{SavedError}
use Rattle.rectangle_pack_c.specs.declared.restoring.SavedError.TheVariants.{Counts, Ids, Sections, Parts}
use Rattle.rectangle_pack_c.specs.Restoring.{AreCounted, IdsRise, IsFirstFallen, HasSound, IsSavedFault}
use Rattle.rectangle_pack_c.specs.private.Saved.{IsBinPut, IsFaultOfBin, bin_saved, bins_saved, state_saved}
use Rattle.rectangle_pack_c.proofs.OrderLemmas.{nat_greater}
use Rattle.rectangle_pack_c.proofs.SavedLemmas.{count_of, id_of, whole_again, has_parts}

-- a key above all others stands last
insert_end : (es : List (ℕ × Bin)) (k : ℕ) (v : Bin) → All (λ q. q < k) (keys_of es) → insert_entry nat_cmp es k v ≡ es ++ (k, v) ∷ []
insert_end [] k v h = refl
insert_end (e ∷ es) k v h =
    rw (nat_greater k e.0 (All-head (λ q. q < k) e.0 (keys_of es) h)) (ap (λ l. e ∷ l) (insert_end es k v (All-tail (λ q. q < k) e.0 (keys_of es) h)))

-- what is left of a list from a place on
rest_from : {X : Type 0} (xs : List X) (i : ℕ) (x : X) → i < length xs → get_or xs i x ≡ x → drop i xs ≡ x ∷ drop (i + 1) xs
rest_from {X} xs i x within is = rw (add-one, drop-cons xs i x) (ap (λ (y : X). y ∷ drop (suc i) xs) is)

-- what is known where the saved bins before this place are put into a map, and these sections are left
pub record ArePutBefore (saved : RpSaved) (i : ℕ) (es : List (ℕ × Bin)) (rest : List RpSection) : Type 0 where
  pub are : es ++ bins_saved (drop i saved.bins.now) rest ≡ bins_saved saved.bins.now saved.sections.now
  pub left : sum_by count_of (drop i saved.bins.now) ≡ length rest
  pub ids : keys_of es ≡ map id_of (take i saved.bins.now)
  pub sound : All HasSound es

module _ (saved : RpSaved) (i : ℕ) (b : RpSavedBin) (within : i < length saved.bins.now) (is : get_or saved.bins.now i b ≡ b) (es : List (ℕ × Bin))
    (rest : List RpSection) (h : ArePutBefore saved i es rest) (rise : IdsRise saved.bins.now) where
  abbrev bins : List RpSavedBin
  bins = saved.bins.now

  abbrev n : ℕ
  n = b.section_count

  abbrev entry : ℕ × Bin
  entry = (b.id, bin_saved b (take n rest))

  abbrev later : List (ℕ × Bin)
  later = bins_saved (drop (i + 1) bins) (drop n rest)

  from_here : drop i bins ≡ b ∷ drop (i + 1) bins
  from_here = rest_from bins i b within is

  -- the bin has as many sections as it says
  pub enough : n ≤ length rest
  enough = omega (arith, h.left, ap (sum_by count_of) from_here, sum_by-cons count_of b (drop (i + 1) bins))

  splits : es ++ entry ∷ later ≡ bins_saved bins saved.sections.now
  splits = sym (ap (λ (l : List RpSavedBin). es ++ bins_saved l rest) from_here) ∙ h.are

  below : All (λ q. q < b.id) (keys_of es)
  below = rw h.ids (All-map (λ q. q < b.id) id_of (take i bins) (λ k d less.
      let short : k < i = omega (arith, less, length-take-le i bins (omega (arith, within))) in
      let here : get_or bins i d ≡ b = sym (get_or_default bins i b d within) ∙ is in
      let lower = rise k i d short within in
      rw (get_or-take i bins k d short, ← here) lower))

  pub put_more : (new : List (ℕ × Bin)) → IsBinPut b (take n rest) es new → ArePutBefore saved (i + 1) new (drop n rest)
  put_more new p =
      let last : new ≡ es ++ entry ∷ [] = p.put ∙ insert_end es b.id (bin_saved b (take n rest)) below in
      let taken : take (i + 1) bins ≡ take i bins ++ b ∷ [] = take_more bins i b within ∙ ap (λ (x : RpSavedBin). take i bins ++ x ∷ []) is in
      rw last (record {
        are = append_assoc es (entry ∷ []) later ∙ splits;
        left = omega (
          arith,
          h.left,
          ap (sum_by count_of) from_here,
          sum_by-cons count_of b (drop (i + 1) bins),
          length-drop n rest,
        );
        ids = map-append (λ (e : ℕ × Bin). e.0) es (entry ∷ []) ∙ ap (λ ks. ks ++ b.id ∷ []) h.ids ∙ sym (ap (map id_of) taken ∙ map-append id_of (take i bins) (b ∷ []));
        sound = All-push HasSound es entry h.sound p.sound;
      })

  -- a bin that is not put into the map is wrong in the parts
  pub bin_fault : AreCounted saved → (error : SavedError) → IsFaultOfBin i b (take n rest) error → IsSavedFault saved error
  bin_fault counted Counts f = absurd f
  bin_fault counted (Ids bin) f = absurd f
  bin_fault counted (Sections bin error) f = (
    state_saved saved,
    has_parts saved counted rise,
    record {
      before = es;
      one = entry;
      after = later;
      splits = sym splits;
      place_is = omega (
        arith,
        f.0,
        length-map es (λ (e : ℕ × Bin). e.0),
        ap length h.ids,
        length-map (take i bins) id_of,
        length-take-le i bins (omega (arith, within)),
      );
    },
    h.sound,
    f.1,
  )
  bin_fault counted (Parts (NotRising p)) f = absurd f
  bin_fault counted (Parts (NotBelowNext p)) f = absurd f
  bin_fault counted (Parts (UnknownBin p)) f = absurd f
  bin_fault counted (Parts (WrongBin p q)) f = absurd f
  bin_fault counted (Parts OutOfMemory) f = tt

-- the first id that does not rise
pub first_fall : (bins : List RpSavedBin) (i : ℕ) (last one : RpSavedBin) → 0 < i → i < length bins → last ≡ get_or bins (i - 1) last → one ≡ get_or bins i one
    → IdsRise (take i bins) → one.id ≤ last.id → IsFirstFallen bins i
first_fall bins zero last one above within there here rise fallen = absurd (omega (arith, above))
first_fall bins (suc k) last one above within there here rise fallen =
    let back : suc k - 1 ≡ k = omega arith in
    let was : last ≡ get_or bins k last = rw back at there in
    let first : bins ≡ take k bins ++ last ∷ drop (k + 1) bins =
    sym (whole_again k bins) ∙ ap (λ (l : List RpSavedBin). take k bins ++ l) (rest_from bins k last (omega (arith, within)) (sym was)) in
    let next : drop (k + 1) bins ≡ one ∷ drop (suc k + 1) bins = rw add-one (rest_from bins (suc k) one within (sym here)) in
    let taken : take (suc k) bins ≡ take k bins ++ last ∷ [] =
    rw (sym (add-one k)) (take_more bins k last (omega (arith, within)) ∙ ap (λ (x : RpSavedBin). take k bins ++ x ∷ []) (sym was)) in
    record {
      before = take k bins;
      last = last;
      one = one;
      after = drop (suc k + 1) bins;
      splits = first ∙ ap (λ (l : List RpSavedBin). take k bins ++ last ∷ l) next;
      place_is = omega (arith, length-take-le k bins (omega (arith, within)));
      rising = rw taken at rise;
      fallen = fallen;
    }

-- one id more that rises
pub rise_more : (bins : List RpSavedBin) (i : ℕ) (last one : RpSavedBin) → 0 < i → i < length bins → last ≡ get_or bins (i - 1) last → one ≡ get_or bins i one
    → IdsRise (take i bins) → last.id < one.id → IdsRise (take (i + 1) bins)
rise_more bins zero last one above within there here rise less = absurd (omega (arith, above))
rise_more bins (suc k) last one above within there here rise less =
    let back : suc k - 1 ≡ k = omega arith in
    let was : last ≡ get_or bins k last = rw back at there in
    let taken : take (suc k + 1) bins ≡ take (suc k) bins ++ one ∷ [] =
    take_more bins (suc k) one within ∙ ap (λ (x : RpSavedBin). take (suc k) bins ++ x ∷ []) (sym here) in
    let long : length (take (suc k) bins) ≡ suc k = length-take-le (suc k) bins (omega (arith, within)) in
    let at_last : (d : RpSavedBin) → get_or (take (suc k) bins) k d ≡ last = λ d.
    get_or-take (suc k) bins k d (omega arith) ∙ get_or_default bins k d last (omega (arith, within)) ∙ sym was in
    rw taken (all_pairs_push (λ a b. a.id < b.id) (take (suc k) bins) one rise (λ j d short.
    below_more (λ (m : ℕ). (e : RpSavedBin) → (get_or (take (suc k) bins) m e).id < one.id) k (λ m lower e.
    let before = rise m k e lower (omega (arith, long)) in
    omega (arith, rw (at_last e) at before, less))
    (λ e. rw (at_last e) less) j (omega (arith, short, long)) d))
