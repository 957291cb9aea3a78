use Rattle.std.proofs.lemmas.Slice.Zip.{length-zip}
use Rattle.rectangle_pack_sections.proofs.Std.{◌∙◌, ℕ, ◌≡◌, arith, ap, length, zip, List}
use Rattle.rectangle_pack_lists.specs.private.Notes.{GapSteps}
use Rattle.rectangle_pack_lists.proofs.free_list.steps.Steps.len.Goals as goal

counted : (ps qs : List ℕ) (n : ℕ) → n ≡ length qs → length qs ≡ length ps → n ≡ length (zip ps qs)
counted ps qs n is same = omega (arith, length-zip ps qs)

pub returns-clause-counted : goal.returns-clause-counted
returns-clause-counted g c =
    counted _ _ _ (c.len.ensures ∙ c.self.inside.pushed.ok.0) c.self.invariant ∙ ap (λ (s : GapSteps). length s.all) c.self.view_is
