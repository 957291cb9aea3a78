use Rattle.rectangle_pack_sections.proofs.Std.{◌≡◌, ℕ, ◌+◌, ◌<◌, [], List, length, get_or, take, take_more, min, sym, ap, ◌∙◌, arith, lookup, is_at, unwrap_or, option_copied, option_map, sum_by, sum_by_push}
use Rattle.rectangle_pack_sections.proofs.lemmas.groups.Lists.{list-found, lookup-lists}
use Rattle.rectangle_pack_packing.proofs.pack.told.entries_named.Invariants.{group_cmp}
use Rattle.rectangle_pack_packing.proofs.pack.told.entries_named.Goals as goal
use Rattle.rectangle_pack_packing.proofs.pack.told.entries_named.Goals.{in-Some, in_default}

-- a sum that stays at the greatest number, with one more element
sum-more : {X : Type 0} (f : X → ℕ) (most : ℕ) (xs : List X) (i : ℕ) (x : X) (before after : ℕ) → i < length xs → x ≡ get_or xs i x
    → before ≡ min (sum_by f (take i xs)) most → after ≡ min (before + f x) most → after ≡ min (sum_by f (take (i + 1) xs)) most
sum-more f most xs i x before after within is was more =
    let sums : sum_by f (take (i + 1) xs) ≡ sum_by f (take i xs) + f x = ap (sum_by f) (take_more xs i x within)
    ∙ sum_by_push f (take i xs) (get_or xs i x) ∙ ap (λ y. sum_by f (take i xs) + f y) (sym is) in
    omega (arith, sums, was, more)

pub loop-step-preserved : goal.loop-step-preserved
loop-step-preserved g c =
    let step = c.step-item.result in
    let test = is_at (group_cmp g step.group) in
    let counted = sum-more (λ s. length (unwrap_or (lookup (is_at (group_cmp g s.group)) c.args.groups.now.groups) [])) 18446744073709551615 c.args.steps.now
    c.loop-step.step-index step c.loop-step.entries c.match-get.entries c.loop-step-test.true c.step-item.is c.loop-step.invariant in
    elim c.match-get.branch [
      | in-Some w ↦
          let found = rw c.groups.ensures.entries at (list-found test c.groups.result.now.entries w.in-Some.ids.now
          (sym c.get.ensures.value ∙ ap option_copied w.in-Some.is)) in
          let count : length (unwrap_or (lookup test c.args.groups.now.groups) []) ≡ w.len.result =
          ap (λ ids. length (unwrap_or ids [])) found ∙ sym w.in-Some.ids.now.ok.0 ∙ sym w.len.ensures in
          counted (omega (arith, count, w.entries-is, w.saturating_add-entries.ensures))
      | in_default w ↦
          let none = rw c.groups.ensures.entries at (lookup-lists test c.groups.result.now.entries
          ∙ ap (option_map (λ v. v.items)) (sym c.get.ensures.value ∙ ap option_copied w.in_default.is)) in
          let count : length (unwrap_or (lookup test c.args.groups.now.groups) []) ≡ 0 = ap (λ ids. length (unwrap_or ids [])) none in
          counted (omega (arith, count, w.entries-is, c.loop-step.invariant))
    ]
