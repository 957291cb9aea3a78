use Rattle.rectangle_pack_sections.proofs.Std.{◌∙◌, ap, sym, map}
use Rattle.rectangle_pack_lists.specs.private.Notes.{plain_note, before_note}
use Rattle.rectangle_pack_lists.proofs.lemmas.trial.Notes.{IsNoted-plain, IsNoted-gap, gaps-same, gap-last, plain-last}
use Rattle.rectangle_pack_lists.proofs.lemmas.trial.PlaceSteps.{sections_of-full}
use Rattle.rectangle_pack_lists.proofs.lemmas.trial.Plain.{plain-undone, before_note-plain}
use Rattle.rectangle_pack_lists.proofs.free_list.Sections.undo.Goals as goal

pub undo_one-requires : goal.undo_one-requires
undo_one-requires g c =
    let one = plain-last _ c.pop.new.self.items _ c.in-Some.note _ c.in-Some.ensures.items (rw c.in-Plain.is at c.requires.can_undo) in
    let (same, place, room) = plain-undone _ _ c.in-Plain.sections.items c.in-Some.note (sym (sections_of-full c.in-Plain.sections.items)) one in
    record { place = place; room = room }

pub returns-in-Some-clause-undone : goal.returns-in-Some-clause-undone
returns-in-Some-clause-undone g c =
    rw c.in-Plain.is (IsNoted-plain _ c.pop.new.self.items _ c.in-Some.note _ _ c.in-Some.ensures.items (before_note-plain c.in-Some.note c.in-Plain.sections.items _ (sym c.undo_one.ensures.items))
    (plain-last _ c.pop.new.self.items _ c.in-Some.note _ c.in-Some.ensures.items (rw c.in-Plain.is at c.requires.can_undo)))

pub undo_one-requires-in-Some-pop : goal.undo_one-requires-in-Some-pop
undo_one-requires-in-Some-pop g c =
    (gap-last _ (map plain_note c.args.taken.now.items) c.deref_mut-indexed.result.now.list.under _ _ _ c.deref_mut-indexed.result.now.list.all c.in-Some-pop.ensures
    (rw (c.in-Gapped.is, ← c.deref_mut-indexed.ensures.value) at c.requires.can_undo)).0

pub returns-in-Some-pop-clause-undone : goal.returns-in-Some-pop-clause-undone
returns-in-Some-pop-clause-undone g c =
    let taken = map plain_note c.args.taken.now.items in
    let list = c.deref_mut-indexed.result.now.list in
    let now = c.undo_one-in-Some-pop.new.self in
    let (within, others) = gap-last _ taken list.under _ _ _ list.all c.in-Some-pop.ensures (rw (c.in-Gapped.is, ← c.deref_mut-indexed.ensures.value) at c.requires.can_undo) in
    let same = gaps-same list.capacity taken list.under now.under c.pop-in-Gapped.new.self.all now.all c.undo_one-in-Some-pop.ensures.under (rw c.undo_one-in-Some-pop.ensures.all others) in
    rw (c.in-Gapped.is, ← c.deref_mut-indexed.ensures.value) (IsNoted-gap _ taken now.under list.under _ _ _ now.all list.all c.in-Some-pop.ensures (sym same) (sym c.undo_one-in-Some-pop.ensures.all) within)

pub undo_one-requires-in-Some-pop-2 : goal.undo_one-requires-in-Some-pop-2
undo_one-requires-in-Some-pop-2 g c =
    let one = plain-last _ c.pop-in_default-pop.new.self.items _ c.in-Some-pop-2.note _ c.in-Some-pop-2.ensures.items
    (rw (c.in-Gapped.is, ← c.deref_mut-indexed.ensures.value, c.in_default-pop.ensures.0) at c.requires.can_undo) in
    let (same, place, room) = plain-undone _ c.deref_mut-indexed.result.now.list.all _ c.in-Some-pop-2.note c.take_sections-sections.ensures.items one in
    record { place = place; room = rw c.take_sections-sections.ensures.capacity room }

pub returns-in-Some-pop-2-clause-undone : goal.returns-in-Some-pop-2-clause-undone
returns-in-Some-pop-2-clause-undone g c =
    let one = plain-last _ c.pop-in_default-pop.new.self.items _ c.in-Some-pop-2.note _ c.in-Some-pop-2.ensures.items
    (rw (c.in-Gapped.is, ← c.deref_mut-indexed.ensures.value, c.in_default-pop.ensures.0) at c.requires.can_undo) in
    let (same, place, room) = plain-undone _ c.deref_mut-indexed.result.now.list.all _ c.in-Some-pop-2.note c.take_sections-sections.ensures.items one in
    rw (c.in-Gapped.is, ← c.deref_mut-indexed.ensures.value, c.in_default-pop.ensures.0) (IsNoted-plain _ c.pop-in_default-pop.new.self.items _ c.in-Some-pop-2.note _ _ c.in-Some-pop-2.ensures.items
    (ap (before_note (plain_note c.in-Some-pop-2.note)) (sym same) ∙ before_note-plain c.in-Some-pop-2.note c.take_sections-sections.result.items _ (sym c.undo_one-in-Some-pop-2.ensures.items)) one)
