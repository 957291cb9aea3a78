use Rattle.rectangle_pack_sections.proofs.Std.{rules, arith, ◌≡◌, List, [], ◌∷◌, length, get_or, AllZip}
use Rattle.rectangle_pack_sections.proofs.bin_section.two_smallest.Goals as goal

-- a fact of each of three elements
zip_three : {A B : Type 0} (R : A → B → Type 0) (xs : List A) (d e f : A) (u v w : B) → length xs ≡ 3 → R (get_or xs 0 d) u → R (get_or xs 1 e) v
    → R (get_or xs 2 f) w → AllZip R xs (u ∷ v ∷ w ∷ [])
zip_three R [] d e f u v w h a b c = absurd (omega arith)
zip_three R (x ∷ []) d e f u v w h a b c = absurd (omega arith)
zip_three R (x ∷ y ∷ []) d e f u v w h a b c = absurd (omega arith)
zip_three R (x ∷ y ∷ z ∷ []) d e f u v w h a b c = (a, (b, (c, tt)))
zip_three R (x ∷ y ∷ z ∷ t ∷ xs) d e f u v w h a b c = absurd (omega arith)

pub returns : goal.returns
returns g c = (
  record { right = c.rate-a.result; above = c.rate-b.result; behind = c.rate-c.result },
  zip_three _ c.args.container _ _ _ _ _ _ (omega arith) c.rate-a.ensures c.rate-b.ensures c.rate-c.ensures,
  search rules,
  search rules,
)
