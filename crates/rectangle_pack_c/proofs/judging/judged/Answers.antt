use Rattle.rectangle_pack_sections.proofs.Std.{◌∙◌}
use Rattle.rectangle_pack.specs.declared.judge.Case.{Case}
use Rattle.rectangle_pack_c.proofs.judging.judged.Goals as goal

pub returns : goal.returns
returns c =
    let case : Case = record { bins = c.as_slice.result; entries = c.as_slice-2.result; excluded = c.as_slice-3.result } in (
      case,
      record {
        bins_are = c.as_slice.ensures.value ∙ c.in_ok-sizes.ensures;
        entries_are = c.as_slice-2.ensures.value ∙ c.in_ok-all.ensures;
        excluded_are = c.as_slice-3.ensures.value ∙ c.in_ok-pairs.ensures;
      },
      rw (c.as_slice-4.ensures.value, c.in_ok-told.ensures) at c.in_ok-fault.ensures.verdict,
    )
