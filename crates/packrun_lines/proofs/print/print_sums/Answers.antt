use Rattle.std.proofs.Common.{append_assoc, ◌∙◌}
use Rattle.packrun_lines.proofs.print.print_sums.Goals as goal

pub returns : goal.returns
returns g c = simp append_assoc
    (rw (
      c.as_bytes.ensures ∙ c.new-free.ensures,
      c.as_bytes-2.ensures ∙ c.new-sections.ensures,
      c.as_bytes-3.ensures ∙ c.new-placed.ensures,
      c.as_bytes-4.ensures ∙ c.new-placements.ensures,
      c.as_bytes-5.ensures ∙ c.new-bin.ensures,
    ) at c.print_parts.ensures)
