use Rattle.std.proofs.Common.{sym, ap, ◌∙◌, nat_cmp}
use Rattle.std.specs.Cmp.Lexicographic.{slice_cmp}
use Rattle.packrun_lines.specs.private.Names.{bytes_of}
use Rattle.packrun_lines.proofs.lemmas.Names.{slice_cmp-held}
use Rattle.packrun_lines.proofs.word.WordOrd.cmp.Goals as goal

pub returns-in-Short-Short : goal.returns-in-Short-Short
returns-in-Short-Short g c =
    let s = c.in-Short-Short in
    let one = ap bytes_of (sym s.is-0) ∙ c.self.view_is in
    let other = ap bytes_of (sym s.is-1) ∙ c.other.view_is in
    c.order_short.ensures
    ∙ slice_cmp-held s.length s.other_length s.bytes s.others (rw s.is-0 at c.self.invariant) (rw s.is-1 at c.other.invariant)
    ∙ (λ i. slice_cmp nat_cmp (one i) (other i))
