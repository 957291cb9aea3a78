use Rattle.rectangle_pack_covers.proofs.lemmas.Covers.{IsFirstOutside-at, in_one_bin-known, in_one_bin-apart}
use Rattle.rectangle_pack_covers.proofs.sections.check_sections.Goals as goal

pub returns-in-Some : goal.returns-in-Some
returns-in-Some g c =
    let found = c.in-Some.ensures in
    IsFirstOutside-at c.args.size c.args.boxes.now c.in-Some.index found.0 found.1 found.2

pub first_overlap-requires : goal.first_overlap-requires
first_overlap-requires g c = rw (c.as_slice.ensures.value, c.in_ok-standing.ensures) (in_one_bin-known c.args.boxes.now)

pub returns-in-None : goal.returns-in-None
returns-in-None g c = record {
  inside = c.in_default.ensures;
  apart = in_one_bin-apart c.args.boxes.now (rw (c.in-None.is, c.as_slice.ensures.value, c.in_ok-standing.ensures) at c.in_ok-first_overlap.ensures.answer);
}

pub returns : goal.returns
returns g c = (
  c.in_default.ensures,
  rw (c.in-Some-2.is, c.as_slice.ensures.value, c.in_ok-standing.ensures) at c.in_ok-first_overlap.ensures.answer,
)
