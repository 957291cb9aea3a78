use Rattle.rectangle_pack_sections.proofs.Std.{refl}
use Rattle.rectangle_pack_judge.proofs.lemmas.Numbers.{HaveGroups-renumbered, AreAlike-numbered}
use Rattle.rectangle_pack_judge.proofs.lemmas.Alike.{verdict-to}
use Rattle.rectangle_pack_judge.proofs.judging.first_fault.Goals as goal

pub first_fault_among-requires : goal.first_fault_among-requires
first_fault_among-requires g c = record {
  groups = rw (c.as_slice.ensures.value, c.in_ok-entries.ensures, c.len.ensures.len)
      (HaveGroups-renumbered c.args.case.now.entries.now c.in_ok-numbers.numbers.entries c.in_ok-numbers.ensures);
}

pub returns : goal.returns
returns g c = record {
  verdict = verdict-to _ c.args.case.now
      (AreAlike-numbered _ c.args.case.now c.in_ok-numbers.numbers.entries c.in_ok-numbers.ensures refl
      (rw c.as_slice.ensures.value c.in_ok-entries.ensures) (rw c.as_slice-2.ensures.value c.in_ok-excluded.ensures))
      c.args.claims.now c.in_ok-fault.fault c.in_ok-fault.ensures.verdict;
}
