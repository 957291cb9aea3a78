use Rattle.rectangle_pack_sections.proofs.Std.{◌∙◌}
use Rattle.rectangle_pack_lists.proofs.lemmas.trial.PlaceSteps.{before-taken, last-place, last-fits, taken-within, under-same, IsStep-in_places}
use Rattle.rectangle_pack_lists.proofs.gap_list.GapList.place_at.Goals as goal

pub place_in-location-requires-clause-ends : goal.place_in-location-requires-clause-ends
place_in-location-requires-clause-ends g c =
    let (tests, at) = c.requires.newest in
    last-fits c.args.self.now.all c.args.member.now c.args.place tests at c.take-section.result c.take-section.ensures.section c.requires.fits

pub returns-clause-step : goal.returns-clause-step
returns-clause-step g c tests at =
    let (cut, allowed, left) = c.place_in-location.ensures.pieces in
    rw (c.place_in-location.ensures.location, c.push_pieces.ensures.all, c.take-section.ensures.all)
    (IsStep-in_places _ c.args.self.now.all c.args.member.now c.args.place tests c.take-section.result cut _ at c.take-section.ensures.section allowed left)

pub returns-clause-before : goal.returns-clause-before
returns-clause-before g c =
    let (tests, at) = c.requires.newest in
    let same = under-same c.args.self.now.under _ _ _ _ _ c.take-section.ensures.under c.push_pieces.ensures.under c.places-kept.ensures.all c.places-kept.ensures.under in
    before-taken c.args.self.now.all c.push_pieces.new.self.all _ c.args.place _ _
    (rw c.take-section.ensures.all at c.push_pieces.ensures.all) c.places.ensures.all c.places-kept.ensures.all c.take-section.result _
    c.take-section.ensures.section (same c.args.place _ (last-place _ _ _ tests at) ∙ c.take-section.ensures.entry)

pub returns-clause-place : goal.returns-clause-place
returns-clause-place g c =
    let (tests, at) = c.requires.newest in
    taken-within c.args.self.now.all c.push_pieces.new.self.all _ c.args.place _ _ (rw c.take-section.ensures.all at c.push_pieces.ensures.all)
    c.places.ensures.all c.places-kept.ensures.all (last-place _ _ _ tests at)
