-- Noted steps, and the undoing of them.
use Rattle.std.specs.List.{SameBelow}
use Rattle.std.specs.Option.{option_to_list, option_zip}
use Rattle.std.proofs.Common.{le_refl}
use Rattle.rectangle_pack_sections.proofs.Std.{◌≡◌, ◌↔◌, ℕ, ◌+◌, ◌-◌, ◌<◌, ◌≤◌, List, [], ◌∷◌, ◌++◌, refl, ap, arith, sym, ◌∙◌, zip, map, map-append}
use Rattle.rectangle_pack_sections.proofs.Std.{Option, Some, None, Bool, true, false, MatchBool, MatchOption, length, take, drop}
use Rattle.rectangle_pack_sections.proofs.Std.{append-nil, append_assoc, length-append, length-set, length-take, take-append_seam, drop-append_seam}
use Rattle.rectangle_pack_sections.specs.Boxes.{Cuboid}
use Rattle.rectangle_pack_lists.specs.declared.free_list.plain.Taken.{Taken}
use Rattle.rectangle_pack_lists.specs.private.FreeLists.{AtWork, start_of}
use Rattle.rectangle_pack_lists.specs.private.Notes.{Note, plain_note, gap_note, before_note, before_notes, CanUndo, CanUndoOne, IsNoted}
use Rattle.rectangle_pack_lists.specs.private.Places.{sections_of}

-- the notes behind are undone first
pub before_notes-append : (notes more : List Note) (places : List (Option Cuboid))
    → before_notes (notes ++ more) places ≡ before_notes notes (before_notes more places)
before_notes-append [] more places = refl
before_notes-append (note ∷ notes) more places = ap (before_note note) (before_notes-append notes more places)

pub CanUndo-append : (room : ℕ) (notes more : List Note) (places : List (Option Cuboid))
    → CanUndo room (notes ++ more) places ↔ (CanUndo room more places × CanUndo room notes (before_notes more places))
CanUndo-append room [] more places = (λ h. (h, tt), λ h. h.0)
CanUndo-append room (n ∷ notes) more places =
    let (split, join) = CanUndo-append room notes more places in
    let e = before_notes-append notes more places in
    (λ h. ((split h.1).0, (rw e at h.0, (split h.1).1)), λ h. (rw e h.1.0, join (h.0, h.1.1)))

-- with more room a step that can be undone still can
more-back : (room more : ℕ) (gap : Bool) (place pushed long : ℕ) (full : Type 0) → room ≤ more
    → MatchBool gap (place + pushed < long) ((place + pushed ≤ long) × (long < room + pushed) × full)
    → MatchBool gap (place + pushed < long) ((place + pushed ≤ long) × (long < more + pushed) × full)
more-back room more true place pushed long full le back = back
more-back room more false place pushed long full le (within, fits, all) = (within, omega arith, all)

pub CanUndo-more : (room more : ℕ) (notes : List Note) (places : List (Option Cuboid)) → room ≤ more → CanUndo room notes places → CanUndo more notes places
CanUndo-more room more [] places le can = tt
CanUndo-more room more (note ∷ notes) places le can =
    (more-back room more note.leaves_gap note.place note.pushed _ _ le can.0, CanUndo-more room more notes places le can.1)

-- a step more is noted
pub CanUndo-noted : (room more : ℕ) (notes next : List Note) (places now : List (Option Cuboid)) → IsNoted more notes next places now → room ≤ more
    → CanUndo room notes places → CanUndo more next now
CanUndo-noted room more notes next places now noted le can =
    rw noted.more ((CanUndo-append more notes (noted.note ∷ []) now).1 ((noted.can, tt), rw noted.back (CanUndo-more room more notes places le can)))

-- the last noted step is undone
pub CanUndo-undone : (room more : ℕ) (notes next : List Note) (places now : List (Option Cuboid)) → IsNoted room notes next places now → room ≤ more
    → CanUndo room next now → CanUndo more notes places
CanUndo-undone room more notes next places now noted le can =
    let all = (CanUndo-append room notes (noted.note ∷ []) now).0 (rw noted.more at can) in
    CanUndo-more room more notes places le (rw noted.back at all.1)

-- so the last of all can be undone, and then the others
CanUndo-last : (room : ℕ) (notes next : List Note) (note : Note) (places : List (Option Cuboid)) → next ≡ notes ++ note ∷ []
    → CanUndo room next places → CanUndoOne room note places × CanUndo room notes (before_note note places)
CanUndo-last room notes next note places is can =
    let all = (CanUndo-append room notes (note ∷ []) places).0 (rw is at can) in
    (all.0.0, all.1)

-- no step that leaves a gap takes a place away
length-before : (under : List Cuboid) (steps : List (ℕ × ℕ)) (places : List (Option Cuboid))
    → length (before_notes (map (gap_note under) steps) places) ≤ length places
length-before under [] places = le_refl _
length-before under (s ∷ steps) places =
    let now = before_notes (map (gap_note under) steps) places in
    let kept = take (length now - s.1) now in
    omega (arith, length-set kept s.0 (Some (gap_note under s).section), length-take (length now - s.1) now, length-before under steps places)

-- the notes of gaps stay, where the sections under the places stay
stay : (room : ℕ) (under next : List Cuboid) (steps : List (ℕ × ℕ)) (places : List (Option Cuboid)) → SameBelow under next (length places)
    → CanUndo room (map (gap_note under) steps) places → map (gap_note next) steps ≡ map (gap_note under) steps
stay room under next [] places same can = refl
stay room under next (s ∷ steps) places same can =
    let within : s.0 < length places = omega (arith, can.0, length-before under steps places) in
    rw (same s.0 _ within, stay room under next steps places same can.1) refl

pub gaps-same : (room : ℕ) (taken : List Note) (under next : List Cuboid) (steps : List (ℕ × ℕ)) (places : List (Option Cuboid))
    → SameBelow under next (length places) → CanUndo room (taken ++ map (gap_note under) steps) places
    → map (gap_note next) steps ≡ map (gap_note under) steps
gaps-same room taken under next steps places same can =
    stay room under next steps places same ((CanUndo-append room taken (map (gap_note under) steps) places).0 can).0

-- one step more in a list with an index
gaps-more : (taken : List Note) (under next : List Cuboid) (steps more : List (ℕ × ℕ)) (step : ℕ × ℕ) → more ≡ steps ++ step ∷ []
    → map (gap_note next) steps ≡ map (gap_note under) steps
    → taken ++ map (gap_note next) more ≡ (taken ++ map (gap_note under) steps) ++ gap_note next step ∷ []
gaps-more taken under next steps more step is same =
    rw (is, map-append (gap_note next) steps (step ∷ []), same) (sym (append_assoc taken (map (gap_note under) steps) (gap_note next step ∷ [])))

pub IsNoted-gap : (room : ℕ) (taken : List Note) (under next : List Cuboid) (steps more : List (ℕ × ℕ)) (step : ℕ × ℕ) (places now : List (Option Cuboid))
    → more ≡ steps ++ step ∷ [] → map (gap_note next) steps ≡ map (gap_note under) steps → before_note (gap_note next step) now ≡ places
    → step.0 + step.1 < length now → IsNoted room (taken ++ map (gap_note under) steps) (taken ++ map (gap_note next) more) places now
IsNoted-gap room taken under next steps more step places now is same back within =
    record { note = gap_note next step; more = gaps-more taken under next steps more step is same; back = back; can = within }

-- the last one can be undone, and then the others
pub gap-last : (room : ℕ) (taken : List Note) (under : List Cuboid) (steps more : List (ℕ × ℕ)) (step : ℕ × ℕ) (places : List (Option Cuboid))
    → more ≡ steps ++ step ∷ [] → CanUndo room (taken ++ map (gap_note under) more) places
    → (step.0 + step.1 < length places) × CanUndo room (taken ++ map (gap_note under) steps) (before_note (gap_note under step) places)
gap-last room taken under steps more step places is can =
    CanUndo-last room (taken ++ map (gap_note under) steps) _ (gap_note under step) places (gaps-more taken under under steps more step is refl) can

-- one step more in a plain list
plain-more : (taken next : List Taken) (step : Taken) → next ≡ taken ++ step ∷ []
    → map plain_note next ++ [] ≡ (map plain_note taken ++ []) ++ plain_note step ∷ []
plain-more taken next step is =
    append-nil (map plain_note next) ∙ ap (map plain_note) is ∙ map-append plain_note taken (step ∷ [])
    ∙ ap (λ notes. notes ++ plain_note step ∷ []) (sym (append-nil (map plain_note taken)))

pub IsNoted-plain : (room : ℕ) (taken next : List Taken) (step : Taken) (places now : List (Option Cuboid)) → next ≡ taken ++ step ∷ []
    → before_note (plain_note step) now ≡ places → CanUndoOne room (plain_note step) now
    → IsNoted room (map plain_note taken ++ []) (map plain_note next ++ []) places now
IsNoted-plain room taken next step places now is back can =
    record { note = plain_note step; more = plain-more taken next step is; back = back; can = can }

pub plain-last : (room : ℕ) (taken next : List Taken) (step : Taken) (places : List (Option Cuboid)) → next ≡ taken ++ step ∷ []
    → CanUndo room (map plain_note next ++ []) places → CanUndoOne room (plain_note step) places
plain-last room taken next step places is can = (CanUndo-last room _ _ (plain_note step) places (plain-more taken next step is) can).0

-- two lists grow together
pub zip-more : (ps qs : List ℕ) (p q : ℕ) → length qs ≡ length ps → zip (ps ++ p ∷ []) (qs ++ q ∷ []) ≡ zip ps qs ++ (p, q) ∷ []
zip-more [] [] p q long = refl
zip-more [] (y ∷ qs) p q long = absurd (omega arith)
zip-more (x ∷ ps) [] p q long = absurd (omega arith)
zip-more (x ∷ ps) (y ∷ qs) p q long = ap (λ l. (x, y) ∷ l) (zip-more ps qs p q (omega arith))

-- and shrink together
pub zip-popped : (ps qs ps' qs' : List ℕ) (p q : Option ℕ) (m m' : ℕ) → length qs ≡ length ps → m ≡ length qs
    → MatchOption p ((ps ≡ []) × (ps' ≡ [])) (λ x. ps ≡ ps' ++ x ∷ [])
    → qs ≡ qs' ++ option_to_list q → MatchOption q ((m ≡ 0) × (m' ≡ 0)) (λ _. m' + 1 ≡ m)
    → MatchOption (option_zip p q) ((zip ps qs ≡ []) × (zip ps' qs' ≡ [])) (λ s. zip ps qs ≡ zip ps' qs' ++ s ∷ [])
zip-popped ps qs ps' qs' None q m m' long counted none b others = rw (none.0, none.1) (refl, refl)
zip-popped ps qs ps' qs' (Some p) None m m' long counted one b none =
    absurd (omega (arith, none.0, ap length one, length-append ps' (p ∷ [])))
zip-popped ps qs ps' qs' (Some p) (Some q) m m' long counted one b other =
    rw (one, b) (zip-more ps' qs' p q (omega (arith, ap length one, ap length b, length-append ps' (p ∷ []), length-append qs' (q ∷ []))))

-- each step since then is noted, and these steps undone leave the places of then
pub record IsSince (then now : AtWork) : Type 0 where
  pub made : List Note
  pub noted : now.notes ≡ then.notes ++ made
  pub back : before_notes made now.places ≡ then.places

pub IsSince-none : (list : AtWork) → IsSince list list
IsSince-none list = record { made = []; noted = sym (append-nil list.notes); back = refl }

-- whatever room is made
pub IsSince-same : (then now next : AtWork) → IsSince then now → next.places ≡ now.places → next.notes ≡ now.notes → IsSince then next
IsSince-same then now next since places notes = record {
  made = since.made;
  noted = notes ∙ since.noted;
  back = ap (before_notes since.made) places ∙ since.back;
}

-- and one step more
pub IsSince-more : (then now next : AtWork) (room : ℕ) → IsSince then now → IsNoted room now.notes next.notes now.places next.places → IsSince then next
IsSince-more then now next room since step = record {
  made = since.made ++ step.note ∷ [];
  noted = step.more ∙ ap (λ (notes : List Note). notes ++ step.note ∷ []) since.noted ∙ append_assoc then.notes since.made (step.note ∷ []);
  back = before_notes-append since.made (step.note ∷ []) next.places ∙ ap (before_notes since.made) step.back ∙ since.back;
}

-- or since one step before
pub IsSince-earlier : (before then now : AtWork) (room : ℕ) → IsSince then now → IsNoted room before.notes then.notes before.places then.places
    → IsSince before now
IsSince-earlier before then now room since step = record {
  made = step.note ∷ since.made;
  noted = since.noted ∙ ap (λ (notes : List Note). notes ++ since.made) step.more ∙ append_assoc before.notes (step.note ∷ []) since.made;
  back = ap (before_note step.note) since.back ∙ step.back;
}

-- so the sections before all noted steps stay
pub IsSince-start : (then now : AtWork) → IsSince then now → start_of now ≡ start_of then
IsSince-start then now since =
    ap sections_of (
    ap (λ (notes : List Note). before_notes notes now.places) since.noted ∙ before_notes-append then.notes since.made now.places
    ∙ ap (before_notes then.notes) since.back
    )

-- the list of then, by how many steps were noted
pub IsSince-kept : (then now : AtWork) (kept : ℕ) → IsSince then now → kept ≡ length then.notes
    → (before_notes (drop kept now.notes) now.places ≡ then.places) × (take kept now.notes ≡ then.notes)
IsSince-kept then now kept since count = (
  rw (count, since.noted, drop-append_seam then.notes since.made) since.back,
  rw (count, since.noted) (take-append_seam then.notes since.made),
)
