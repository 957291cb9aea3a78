use Rattle.rectangle_pack_sections.proofs.Std.{arith, ◌+◌, ◌/◌, ◌≤◌, length, take, sym, ap, length-take, ◌∙◌}
use Rattle.rectangle_pack_lists.specs.private.GapBits.{flags_of}
use Rattle.rectangle_pack_lists.specs.private.Places.{Places, places_of}
use Rattle.rectangle_pack_lists.proofs.lemmas.trial.Places.{cut-places_of}
use Rattle.rectangle_pack_lists.proofs.lemmas.trial.Rooms.{bytes-enough}
use Rattle.rectangle_pack_lists.proofs.lemmas.trial.Summaries.{SumAll-take}
use Rattle.rectangle_pack_lists.proofs.gap_list.GapList.truncate.Goals as goal

pub invariant_of-self : goal.invariant_of-self
invariant_of-self g c =
    let sections = c.self.inside.sections.items in
    let bytes = c.self.inside.gaps.items in
    let n = c.args.places in
    let cut = bytes-enough n c.div_ceil.result c.div_ceil.ensures in
    let short : n ≤ length (places_of sections (flags_of bytes)) = rw (ap (λ (v : Places). v.all) c.self.view_is) c.requires in
    rw (c.truncate.ensures.items, c.truncate-2.ensures.items, c.truncate-3.ensures.items, c.truncate-4.ensures.items, cut, ← cut-places_of n sections bytes) (
      omega (arith, c.self.invariant.0, length-take n sections, length-take ((n + 7) / 8) bytes),
      record {
        in_blocks = SumAll-take 8 _ _ n (n / 8) (omega arith) (omega arith) short c.self.invariant.1.in_blocks;
        in_rows = SumAll-take 64 _ _ n (n / 64) (omega arith) (omega arith) short c.self.invariant.1.in_rows;
      },
    )

pub returns-clause-all : goal.returns-clause-all
returns-clause-all g c =
    let cut = bytes-enough c.args.places c.div_ceil.result c.div_ceil.ensures in
    rw (c.truncate.ensures.items, c.truncate-2.ensures.items, cut)
    (sym (cut-places_of c.args.places c.self.inside.sections.items c.self.inside.gaps.items) ∙ ap (λ (v : Places). take c.args.places v.all) c.self.view_is)
