use Rattle.std.proofs.Common.{◌≡◌, ◌++◌, ℕ, List, subst, ◌∙◌}
use Rattle.packrun_lines.specs.Lines.{cuboid_text}
use Rattle.packrun_lines.specs.Numbers.{three_text}
use Rattle.packrun_lines.specs.private.Printing.{Prints}
use Rattle.packrun_lines.proofs.lemmas.Printing.{put-twice}
use Rattle.packrun_lines.proofs.print.print_section.Goals as goal

pub returns : goal.returns
returns g c =
    let at = g.W.Write.contents c.args.out.now in
    let end = g.W.Write.contents c.print_bytes.new.out in
    let spelt = put-twice (three_text c.x-x.result c.y-y.result c.z-z.result 32) (three_text c.width-width.result c.height-height.result c.depth-depth.result 10)
    c.put_three-middle.new.line c.put_three-start.new.line c.put_three-middle.result c.put_three-start.result
    (c.put_three-start.auto.line ∙ c.put_three-middle.auto.line) c.put_three-middle.ensures.written c.put_three-start.ensures.written in
    let same : three_text c.x-x.result c.y-y.result c.z-z.result 32 ++ three_text c.width-width.result c.height-height.result c.depth-depth.result 10 ≡ cuboid_text c.args.section.now = cc in
    subst (λ (bytes : List ℕ). Prints at end c.print_bytes.result bytes) (spelt ∙ same) c.print_bytes.ensures
