use Rattle.rectangle_pack_sections.proofs.Std.{◌≡◌, refl, min, map, ◌≤◌, ◌+◌, ◌-◌, ◌/◌, ◌∙◌, ℕ, arith, ap, subst, All}
use Rattle.rectangle_pack_sections.specs.Boxes.{FitsU32}
use Rattle.rectangle_pack_lists.specs.private.FreeLists.{places_in}
use Rattle.rectangle_pack_lists.specs.private.Notes.{plain_note}
use Rattle.rectangle_pack_lists.specs.private.Places.{sections_of}
use Rattle.rectangle_pack_lists.proofs.lemmas.trial.Steps.{length-step}
use Rattle.rectangle_pack_lists.proofs.lemmas.trial.Notes.{IsNoted-plain, IsNoted-gap, gaps-same}
use Rattle.rectangle_pack_lists.proofs.lemmas.trial.Rooms.{counted-more}
use Rattle.rectangle_pack_lists.proofs.lemmas.trial.PlaceSteps.{sections_of-full}
use Rattle.rectangle_pack_lists.proofs.lemmas.trial.Plain.{plain-holds, plain-newest, IsStep-plain, before_note-plain, CanUndoOne-plain}
use Rattle.rectangle_pack_lists.proofs.free_list.Sections.place.Goals as goal

pub place_at-location-requires-clause-holds : goal.place_at-location-requires-clause-holds
place_at-location-requires-clause-holds g c =
    let (tests, at) = rw c.in-Plain.is at c.requires.newest in plain-holds c.in-Plain.sections.items _ _ tests at

pub place_at-location-requires-clause-newest : goal.place_at-location-requires-clause-newest
place_at-location-requires-clause-newest g c =
    let (tests, at) = rw c.in-Plain.is at c.requires.newest in plain-newest c.in-Plain.sections.items _ _ tests at

pub place_at-location-requires-clause-fits : goal.place_at-location-requires-clause-fits
place_at-location-requires-clause-fits g c =
    subst (All FitsU32) (ap (λ l. sections_of (places_in l)) c.in-Plain.is ∙ sections_of-full c.in-Plain.sections.items) c.requires.fits

pub returns-in-Plain-clause-step : goal.returns-in-Plain-clause-step
returns-in-Plain-clause-step g c tests at =
    rw c.in-Plain.is (IsStep-plain c.in-Plain.sections.items c.args.member.now c.args.place tests (rw c.in-Plain.is at at) _ _ _ c.place_at-location.ensures.step)

pub returns-in-Plain-clause-noted : goal.returns-in-Plain-clause-noted
returns-in-Plain-clause-noted g c =
    let made = c.place_at-location.ensures in
    rw c.in-Plain.is (IsNoted-plain _ c.args.taken.now.items _ _ _ _ c.push_reserved.ensures.items
    (before_note-plain c.place_at-location.result.1 c.place_at-location.new.sections.items _ made.before)
    (CanUndoOne-plain _ c.place_at-location.result.1 c.place_at-location.new.sections.items made.place made.room))

pub returns-in-Gapped-clause-noted : goal.returns-in-Gapped-clause-noted
returns-in-Gapped-clause-noted g c =
    let made = c.place_at-location-in-Gapped.ensures in
    let list = c.deref_mut-indexed.result.now.list in
    rw (c.in-Gapped.is, ← c.deref_mut-indexed.ensures.value) (IsNoted-gap _ _ _ _ _ _ (c.args.place, c.place_at-location-in-Gapped.result.1) _ _ c.push_reserved-in-Gapped.ensures.all
    (gaps-same list.capacity (map plain_note c.args.taken.now.items) list.under _ c.deref_mut-indexed.result.now.steps.all list.all made.under
    (rw (c.in-Gapped.is, ← c.deref_mut-indexed.ensures.value) at c.requires.can_undo)) made.before made.place)

one_fewer : (room long more next cap notes left : ℕ) → room ≤ more → next ≤ long + 2 → left ≡ notes + 1
    → min ((room - long) / 2) (cap - notes) ≤ min ((more - next) / 2) (cap - left) + 1
one_fewer room long more next cap notes left le grown one = omega arith

pub returns-in-Plain-clause-steps : goal.returns-in-Plain-clause-steps
returns-in-Plain-clause-steps g c =
    rw (c.in-Plain.is, c.push_reserved.ensures.capacity) (one_fewer _ _ _ _ _ _ _ c.place_at-location.ensures.capacity
    (length-step _ c.in-Plain.sections.items _ _ _ _ c.place_at-location.ensures.step)
    (counted-more c.args.taken.now.items _ _ _ refl c.push_reserved.ensures.items))
