use Rattle.std.proofs.Common.{sym, ◌∙◌, nat_cmp}
use Rattle.std.specs.Ordering.{ordering_then}
use Rattle.packrun_lines.proofs.lemmas.Names.{by_first, by_last}
use Rattle.packrun_lines.proofs.word.order_short.Goals as goal

pub returns-then-first-other : goal.returns-then-first-other
returns-then-first-other c =
    let x = c.first_eight-first.ensures in
    let y = c.first_eight-other.ensures in
    c.cmp.ensures
    ∙ (λ i. nat_cmp (x i) (y i))
    ∙ by_first c.args.bytes.now c.args.others.now c.fits-bytes c.fits-others c.told-bytes c.told-others
    (λ e. c.if-first-other.true (x ∙ e ∙ sym y)) (nat_cmp c.args.length c.args.other_length)

pub returns : goal.returns
returns c =
    let same = sym c.first_eight-first.ensures ∙ c.if-first-other.false ∙ c.first_eight-other.ensures in
    let last = by_last c.args.bytes.now c.args.others.now c.fits-bytes c.fits-others c.told-bytes c.told-others same in
    c.then.ensures ∙ (λ i. ordering_then ((c.order_last.ensures ∙ last) i) (c.cmp-2.ensures i))
