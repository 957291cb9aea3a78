use Rattle.rectangle_pack_sections.proofs.Std.{ap}
use Rattle.rectangle_pack_lists.specs.private.GapBits.{flags_of}
use Rattle.rectangle_pack_lists.specs.private.Places.{Places, places_of}
use Rattle.rectangle_pack_lists.proofs.lemmas.trial.Places.{NoneHolds-stretch}
use Rattle.rectangle_pack_lists.proofs.gap_list.GapList.too_small_before.Goals as goal

pub returns-in-Some-clause-none : goal.returns-in-Some-clause-none
returns-in-Some-clause-none g c =
    NoneHolds-stretch 64 c.args.end c.in-Some.count (places_of c.self.inside.sections.items (flags_of c.self.inside.gaps.items)) _ c.args.size.now c.in-Some.ensures.within
    (ap (λ (v : Places). v.all) c.self.view_is)
    (c.in-Some.ensures.none (places_of c.self.inside.sections.items (flags_of c.self.inside.gaps.items)) (rw c.as_slice.ensures.value c.self.invariant.1.in_rows))

pub returns-in-Some-count_if_too_small-clause-none : goal.returns-in-Some-count_if_too_small-clause-none
returns-in-Some-count_if_too_small-clause-none g c =
    let found = c.in-Some-count_if_too_small in
    NoneHolds-stretch 8 c.args.end found.count (places_of c.self.inside.sections.items (flags_of c.self.inside.gaps.items)) _ c.args.size.now found.ensures.within
    (ap (λ (v : Places). v.all) c.self.view_is)
    (found.ensures.none (places_of c.self.inside.sections.items (flags_of c.self.inside.gaps.items)) (rw c.as_slice-2.ensures.value c.self.invariant.1.in_blocks))
