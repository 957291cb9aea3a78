use Rattle.std.proofs.Common.{◌≡◌, ◌^◌, List, ◌∷◌, ℕ, Option, None, drop, sym, ap, subst, ◌∙◌}
use Rattle.packrun_lines.specs.declared.command.Size.{Size}
use Rattle.packrun_lines.specs.private.Commands.{IsNextSize, IsNumberBelow}
use Rattle.packrun_lines.proofs.lemmas.Requests.{IsNumberBelow-written}
use Rattle.packrun_lines.proofs.command.next_size.Goals as goal

none : (r : Option Size) → r ≡ None → (old new : List (List ℕ))
    → ((w h d : List ℕ) (rest : List (List ℕ)) → old ≡ w ∷ h ∷ d ∷ rest
    → IsNumberBelow (2 ^ 32) w → IsNumberBelow (2 ^ 32) h → IsNumberBelow (2 ^ 32) d → ⊥)
    → IsNextSize old r new
none r is old new never =
    subst (λ r. IsNextSize old r new) (sym is) λ w h d rest size e writes.
    never w h d rest e (IsNumberBelow-written (2 ^ 32) w size.width writes.width_is) (IsNumberBelow-written (2 ^ 32) h size.height writes.height_is)
    (IsNumberBelow-written (2 ^ 32) d size.depth writes.depth_is)

pub returns-in_err-width : goal.returns-in_err-width
returns-in_err-width c =
    none _ c.from_residual.ensures _ _ λ w h d rest e x y z.
    c.in_err-width.ensures w (h ∷ d ∷ rest) e x

pub returns-in_err-height : goal.returns-in_err-height
returns-in_err-height c =
    none _ c.from_residual-in_err-height.ensures _ _ λ w h d rest e x y z.
    c.in_err-height.ensures h (d ∷ rest) (ap (drop 1) (sym c.in_ok-width.ensures.1 ∙ e)) y

pub returns-in_err-depth : goal.returns-in_err-depth
returns-in_err-depth c =
    none _ c.from_residual-in_err-depth.ensures _ _ λ w h d rest e x y z.
    let later = ap (drop 1) (sym c.in_ok-width.ensures.1 ∙ e) in
    c.in_err-depth.ensures d rest (ap (drop 1) (sym c.in_ok-height.ensures.1 ∙ later)) z

pub returns : goal.returns
returns c =
    let (w, e, x) = c.in_ok-width.ensures in
    let (h, f, y) = c.in_ok-height.ensures in
    let (d, g, z) = c.in_ok-depth.ensures in (
      w,
      h,
      d,
      e ∙ ap (λ ws. w ∷ ws) (f ∙ ap (λ ws. h ∷ ws) g),
      record { width_is = x; height_is = y; depth_is = z },
    )
