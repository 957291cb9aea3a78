use Rattle.rectangle_pack_sections.proofs.Std.{ℕ, ◌≡◌, ◌≤◌, ◌<◌, ◌+◌, ◌∙◌, sym, ap, arith, List, [], ◌∷◌, ◌++◌, length, take, drop, set, get_or, Bool, true, false, None, Some}
use Rattle.rectangle_pack_sections.proofs.Std.{append-nil, drop-drop, drop-cons, drop-set-lt, length-set, take_all}
use Rattle.std.proofs.lemmas.List.{take_more_set}
use Rattle.rectangle_pack_sections.specs.Boxes.{Cuboid}
use Rattle.rectangle_pack_lists.specs.private.GapBits.{flags_of}
use Rattle.rectangle_pack_lists.specs.private.Places.{places_of, sections_of}
use Rattle.rectangle_pack_lists.proofs.lemmas.trial.GapBits.{fits-flags_of, get_or-flags_of}
use Rattle.rectangle_pack_lists.proofs.lemmas.trial.Places.{length-places_of, place-section, place-gap, sections_of-more}
use Rattle.rectangle_pack_lists.proofs.gap_list.close_up.Goals as goal
use Rattle.rectangle_pack_lists.proofs.gap_list.close_up.Goals.{then-not-has_gap, else-not-has_gap}

-- what stands from a place on stands where it stood: the section there, and those behind it
there : (old now : List Cuboid) (i : ℕ) (x : Cuboid) → length now ≡ length old → i < length old → drop i now ≡ drop i old → x ≡ get_or now i x
    → x ≡ get_or old i x
there old now i x long within rest read =
    let inside : i < length now = omega arith in
    read ∙ ap (λ l. get_or l 0 x) (sym (drop-cons now i x inside) ∙ rest ∙ drop-cons old i x within)

behind : (old now : List Cuboid) (i : ℕ) → drop i now ≡ drop i old → drop (i + 1) now ≡ drop (i + 1) old
behind old now i rest = sym (drop-drop 1 i now) ∙ ap (drop 1) rest ∙ drop-drop 1 i old

module _ (old now : List Cuboid) (g : List Bool) (kept i : ℕ) (flags : length old ≤ length g) (long : length now ≡ length old) (few : kept ≤ i)
    (within : i < length old) (done : take kept now ≡ sections_of (take i (places_of old g))) (rest : drop i now ≡ drop i old) where
  -- a section is moved
  moved_done : (x : Cuboid) → get_or g i false ≡ false → x ≡ get_or now i x → take (kept + 1) (set now kept x) ≡ sections_of (take (i + 1) (places_of old g))
  moved_done x full read =
      let section = place-section old g i x false None flags within full (there old now i x long within rest read) in
      let more = sections_of-more (places_of old g) i (Some x) None (omega (arith, length-places_of old g)) section in
      take_more_set now kept x (omega arith) ∙ ap (λ l. l ++ x ∷ []) done ∙ sym more

  moved_rest : (x : Cuboid) → drop (i + 1) (set now kept x) ≡ drop (i + 1) old
  moved_rest x = drop-set-lt (i + 1) now kept x (omega arith) ∙ behind old now i rest

  -- a gap is passed over
  passed_done : get_or g i false ≡ true → take kept now ≡ sections_of (take (i + 1) (places_of old g))
  passed_done empty =
      let gap = place-gap old g i false None flags within empty in
      let more = sections_of-more (places_of old g) i None None (omega (arith, length-places_of old g)) gap in
      done ∙ sym (more ∙ append-nil _)

no_fewer : (n i : ℕ) → n ≤ i → n ≤ i + 1
no_fewer n i le = omega arith

more_few : (n i : ℕ) → n ≤ i → n + 1 ≤ i + 1
more_few n i le = omega arith

pub loop-place-preserved : goal.loop-place-preserved
loop-place-preserved g c =
    let old = c.args.sections.now.items in
    let now = c.loop-place.sections.items in
    let gaps = flags_of c.args.gaps.now in
    let fits = fits-flags_of old c.args.gaps.now c.requires in
    let kept = c.loop-place.kept in
    let i = c.loop-place.place in
    let before = c.loop-place.invariant in
    let within : i < length old = omega arith in
    let read = get_or-flags_of c.args.gaps.now i 0 false (omega arith) ∙ sym c.has_gap.ensures in
    elim c.if-not-has_gap.branch [
      | then-not-has_gap w ↦
          let x = w.index.result.now in
          rw (w.sections-is, w.kept-is) (record {
            long = length-set now kept x ∙ before.long;
            few = more_few _ _ before.few;
            done = moved_done old now gaps kept i fits before.long before.few within before.done before.rest x (read ∙ w.if-not-has_gap.true) w.index.ensures;
            rest = moved_rest old now gaps kept i fits before.long before.few within before.done before.rest x;
            capacity = before.capacity;
          })
      | else-not-has_gap w ↦
          rw (w.sections-is, w.kept-is) (record {
            long = before.long;
            few = no_fewer _ _ before.few;
            done = passed_done old now gaps kept i fits before.long before.few within before.done before.rest (read ∙ w.if-not-has_gap.false);
            rest = behind old now i before.rest;
            capacity = before.capacity;
          })
    ]

pub returns-clause-items : goal.returns-clause-items
returns-clause-items g c =
    let old = c.args.sections.now.items in
    let all : length (places_of old (flags_of c.args.gaps.now)) ≤ c.loop-place.place = omega (arith, length-places_of old (flags_of c.args.gaps.now)) in
    rw (c.truncate.ensures.items, c.loop-place.invariant.done) (ap sections_of (take_all c.loop-place.place (places_of old (flags_of c.args.gaps.now)) all))
