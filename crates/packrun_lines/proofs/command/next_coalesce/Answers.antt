use Rattle.std.proofs.Common.{◌≡◌, ◌==◌, ◌^◌, true, List, ◌∷◌, ℕ, Option, None, refl, sym, ap, subst, codes, get_or, drop, ◌∙◌}
use Rattle.packrun_lines.specs.Requests.{Request}
use Rattle.packrun_lines.specs.Requests.Request.{Nothing, Coalesce}
use Rattle.packrun_lines.specs.declared.command.Command.{Command}
use Rattle.packrun_lines.specs.private.Verbs.{verb_of, Take}
use Rattle.packrun_lines.specs.private.Commands.{IsNextRequest, IsNumberBelow}
use Rattle.packrun_lines.proofs.lemmas.Requests.{IsNumberBelow-written}
use Rattle.packrun_lines.proofs.command.next_coalesce.Goals as goal

-- where there are no such words, there is no request; of all verbs only this one begins with a `c`
none : (r : Option Command) → r ≡ None → (old new : List (List ℕ))
    → ((name i lo hi : List ℕ) (rest : List (List ℕ)) → old ≡ name ∷ i ∷ lo ∷ hi ∷ rest
    → IsNumberBelow (2 ^ 64) i → IsNumberBelow (2 ^ 64) lo → IsNumberBelow (2 ^ 64) hi → ⊥)
    → IsNextRequest (codes "coalesce") old r new
none r is old new never =
    subst (λ r. IsNextRequest (codes "coalesce") old r new) (sym is)
    λ request rest verb. says request rest (ap (λ v. get_or v 0 0 == 99) (sym verb))
  where
    says : (request : Request) (rest : List (List ℕ)) → (get_or (verb_of request) 0 0 == 99) ≡ true
        → ¬ Take old request rest
    says Nothing rest verb t = t
    says (Coalesce name idx start end) rest verb (i, lo, hi, e, a, b, d) =
        never name i lo hi rest e (IsNumberBelow-written (2 ^ 64) i idx a) (IsNumberBelow-written (2 ^ 64) lo start b)
        (IsNumberBelow-written (2 ^ 64) hi end d)
    says request rest verb t = absurd (cc verb)

pub returns-in_err-idx : goal.returns-in_err-idx
returns-in_err-idx c =
    none _ c.from_residual-in_err-idx.ensures _ _ λ name i lo hi rest e a b d.
    c.in_err-idx.ensures i (lo ∷ hi ∷ rest) (ap (drop 1) (sym c.in_ok-name.ensures ∙ e)) a

pub returns-in_err-start : goal.returns-in_err-start
returns-in_err-start c =
    none _ c.from_residual-in_err-start.ensures _ _ λ name i lo hi rest e a b d.
    let f = ap (drop 1) (sym c.in_ok-name.ensures ∙ e) in
    c.in_err-start.ensures lo (hi ∷ rest) (ap (drop 1) (sym c.in_ok-idx.ensures.1 ∙ f)) b

pub returns-in_err-end : goal.returns-in_err-end
returns-in_err-end c =
    none _ c.from_residual-in_err-end.ensures _ _ λ name i lo hi rest e a b d.
    let f = ap (drop 1) (sym c.in_ok-name.ensures ∙ e) in
    let g = ap (drop 1) (sym c.in_ok-idx.ensures.1 ∙ f) in
    c.in_err-end.ensures hi rest (ap (drop 1) (sym c.in_ok-start.ensures.1 ∙ g)) d

pub returns : goal.returns
returns c =
    let (i, e, a) = c.in_ok-idx.ensures in
    let (lo, f, b) = c.in_ok-start.ensures in
    let (hi, g, d) = c.in_ok-end.ensures in
    let later = e ∙ ap (λ ws. i ∷ ws) (f ∙ ap (λ ws. lo ∷ ws) g) in
    let is = c.in_ok-name.ensures ∙ ap (λ ws. c.in_ok-name.name.now ∷ ws) later in
    (refl, (i, lo, hi, is, a, b, d))
