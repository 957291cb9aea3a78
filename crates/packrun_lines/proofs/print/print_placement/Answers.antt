use Rattle.std.proofs.Common.{List, ℕ, [], ap, subst, ◌∙◌, ◌≡◌}
use Rattle.std.specs.Fmt.{decimal}
use Rattle.std.specs.Io.KnownBytes.{Appends}
use Rattle.std.proofs.KnownBytes.{Appends-nil}
use Rattle.rectangle_pack_sections.specs.Boxes.{Cuboid}
use Rattle.packrun_lines.specs.Lines.{cuboid_text}
use Rattle.packrun_lines.specs.declared.stop.Stop.TheVariants.{IoFailed}
use Rattle.packrun_lines.specs.Printing.{AppendsStart}
use Rattle.packrun_lines.specs.private.Printing.{Prints}
use Rattle.packrun_lines.proofs.lemmas.Printing.{Prints-behind, Prints-stopped}
use Rattle.packrun_lines.proofs.lemmas.Lines.{names_part, names_part-same, names_part-box}
use Rattle.packrun_lines.proofs.print.print_placement.Goals as goal

pub returns-in_err-print_parts : goal.returns-in_err-print_parts
returns-in_err-print_parts g c =
    let at = g.W.Write.contents c.args.out.now in
    let mid = g.W.Write.contents c.print_parts.new.out in
    let placement = c.args.placement.now in
    let why = c.in_err-print_parts.field-0.0 in
    let box = cuboid_text placement.location in
    let names = names_part-same _ (decimal placement.number) _ placement.id _ placement.bin
    (c.as_bytes-number.ensures ∙ c.new-number.ensures ∙ ap decimal c.from.ensures)
    c.as_bytes-id.ensures c.as_bytes-bin.ensures in
    let written = subst (λ (text : List ℕ). (why ≡ IoFailed) × AppendsStart at mid text) names c.in_err-print_parts.ensures in
    subst (λ (text : List ℕ). Prints at mid c.from_residual.result text)
    (names_part-box (decimal placement.number) placement.id placement.bin box)
    (Prints-stopped at at mid c.from_residual.result why []
    (names_part (decimal placement.number) placement.id placement.bin) box (Appends-nil at) written
    c.from_residual.ensures.1)

pub returns : goal.returns
returns g c =
    let at = g.W.Write.contents c.args.out.now in
    let mid = g.W.Write.contents c.print_parts.new.out in
    let end = g.W.Write.contents c.print_section.new.out in
    let placement = c.args.placement.now in
    let box = cuboid_text placement.location in
    let names = names_part-same _ (decimal placement.number) _ placement.id _ placement.bin
    (c.as_bytes-number.ensures ∙ c.new-number.ensures ∙ ap decimal c.from.ensures)
    c.as_bytes-id.ensures c.as_bytes-bin.ensures in
    let front = subst (λ (text : List ℕ). Appends at mid text) names c.in_ok-print_parts.ensures in
    let written = subst (λ (here : Cuboid). Prints mid end c.print_section.result (cuboid_text here)) c.section_at.ensures c.print_section.ensures in
    subst (λ (text : List ℕ). Prints at end c.print_section.result text)
    (names_part-box (decimal placement.number) placement.id placement.bin box)
    (Prints-behind at mid end c.print_section.result
    (names_part (decimal placement.number) placement.id placement.bin) box front written)
