use Rattle.rectangle_pack_sections.proofs.Std.{◌≡◌, ◌<◌, ◌≤◌, ◌⊎◌, ap, arith, nat_tests}
use Rattle.rectangle_pack_sections.specs.declared.span.Span.{Span}
use Rattle.rectangle_pack_sections.specs.Boxes.{start}
use Rattle.rectangle_pack_plans.proofs.lemmas.cut_plan.FirstOpen.{IsClosedBelow-more}
use Rattle.rectangle_pack_plans.proofs.cut_plan.order.go_on.Goals as goal

pub returns-then-span-of : goal.returns-then-span-of
returns-then-span-of c boxes there closed =
    let a = c.args.axis in
    let whole = c.args.whole.now in
    let e = c.args.next.now in
    let span = c.of-span.result in
    let begin : span.start ≡ start a e = ap (λ (s : Span). s.start) c.of-span.ensures.is in
    let first : c.of.result.start ≡ start a whole = ap (λ (s : Span). s.start) c.of.ensures.is in
    let early : (start a e ≤ start a whole) ⊎ (start a e < c.args.place) = grind (arith, nat_tests, begin, first, c.if-span-of.true) in
    rw (c.max.ensures, c.end.ensures, c.of-span.ensures.ends) (IsClosedBelow-more a whole boxes c.args.place e there c.requires.cells early closed)
