-- Tests of lists that have the same sizes.
use Rattle.std.proofs.Common.{◌≡◌, ◌↔◌, Bool, true, false, List, Contains, sym, refl, ap, arith}
use Rattle.std.specs.Cmp.{IsEquivalence}
use Rattle.std.specs.List.{list_any, list_all}
use Rattle.std.proofs.Math.Path.{fun_ext}
use Rattle.std.proofs.lemmas.Cmp.{nat_eq_equiv, on_equiv, and_equiv}
use Rattle.std.proofs.lemmas.Grind.{common_steps}
use Rattle.std.proofs.lemmas.List.Folds.{Any-from_list_any, list_any-from_Any}
use Rattle.rectangle_pack_sections.specs.Boxes.{Size}
use Rattle.rectangle_pack_sections.specs.contracts.width_height_depth.WidthHeightDepthPartialEq.TheImpl.{ghosts}
use Rattle.rectangle_pack_bounds.specs.declared.turning.TurningBox.{TurningBox}
use Rattle.rectangle_pack_bounds.specs.Bounds.{has_bin}

-- sizes that `==` calls equal are the same
pub sizes-same : (x y : Size) → ghosts.eq x y ≡ true → x ≡ y
sizes-same x y e = grind (arith, common_steps)

-- and `==` of sizes is an equivalence
pub sizes-equivalent : IsEquivalence ghosts.eq
sizes-equivalent =
    let of_height = on_equiv (λ (s : Size). s.height) nat_eq_equiv in
    let of_depth = on_equiv (λ (s : Size). s.depth) nat_eq_equiv in
    and_equiv (on_equiv (λ (s : Size). s.width) nat_eq_equiv) (and_equiv of_height of_depth)

-- what one list has that passes, so has one that has all of its elements
any-kept : {X : Type 0} (p : X → Bool) (xs ys : List X) → ((x : X) → Contains xs x → Contains ys x)
    → list_any p xs ≡ true → list_any p ys ≡ true
any-kept p xs ys in_ys passes =
    let found = Any-from_list_any p xs passes in
    let here = in_ys found.1 (found.0, found.2, found.3) in
    list_any-from_Any p ys (here.0, found.1, here.1, here.2, found.4)

-- two tests are the same where each passes with the other
both-pass : (a b : Bool) → (a ≡ true → b ≡ true) → (b ≡ true → a ≡ true) → a ≡ b
both-pass true b to from = sym (to refl)
both-pass false true to from = from refl
both-pass false false to from = refl

-- whether some element passes is the same of lists that have the same elements
pub any-alike : {X : Type 0} (p : X → Bool) (xs ys : List X) → ((x : X) → Contains xs x ↔ Contains ys x)
    → list_any p xs ≡ list_any p ys
any-alike p xs ys same =
    let there = any-kept p xs ys (λ x. (same x).0) in
    let back = any-kept p ys xs (λ x. (same x).1) in
    both-pass (list_any p xs) (list_any p ys) there back

-- so each box has a bin in one of them as it has in the other
pub bins-alike : (xs ys : List Size) (boxes : List TurningBox) → ((s : Size) → Contains xs s ↔ Contains ys s)
    → list_all (has_bin xs) boxes ≡ list_all (has_bin ys) boxes
bins-alike xs ys boxes same = ap (λ has. list_all has boxes) (fun_ext (λ b. any-alike _ xs ys same))
