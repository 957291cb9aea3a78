use Rattle.rectangle_pack_sections.proofs.Std.{◌≡◌, ℕ, ◌+◌, ◌<◌, [], List, length, get_or, take, take_more, sym, ap, ◌∙◌, arith, lookup, is_at, unwrap_or, option_copied}
use Rattle.rectangle_pack_sections.proofs.Std.{option_map, sum_by, sum_by_push, sum_by-take-le}
use Rattle.rectangle_pack_sections.proofs.lemmas.groups.Lists.{list-found, lookup-lists}
use Rattle.rectangle_pack_packing.specs.declared.pack.told.Step.{Step}
use Rattle.rectangle_pack.proofs.session.told.number_after_steps.Invariants.{group_cmp}
use Rattle.rectangle_pack.proofs.session.told.number_after_steps.Goals.{in-Some+in_ok-number, in_default}
use Rattle.rectangle_pack.proofs.session.told.number_after_steps.Goals as goal

-- a sum with one more element
sum-more : {X : Type 0} (f : X → ℕ) (xs : List X) (i : ℕ) (x : X) → i < length xs → x ≡ get_or xs i x → sum_by f (take (i + 1) xs) ≡ sum_by f (take i xs) + f x
sum-more f xs i x within is =
    ap (sum_by f) (take_more xs i x within) ∙ sum_by_push f (take i xs) (get_or xs i x) ∙ ap (λ y. sum_by f (take i xs) + f y) (sym is)

pub loop-step-preserved : goal.loop-step-preserved
loop-step-preserved g c =
    let step = c.step-item.result in
    let test = is_at (group_cmp g step.group) in
    let groups = c.args.groups.now.groups in
    let more = sum-more (λ s. length (unwrap_or (lookup (is_at (group_cmp g s.group)) groups) [])) c.args.steps.now c.loop-step.step-index step
    c.loop-step-test.true c.step-item.is in
    elim c.match-get.branch [
      | in-Some+in_ok-number w ↦
          let found = rw c.groups.ensures.entries at (list-found test c.groups.result.now.entries w.in-Some.ids.now
          (sym c.get.ensures.value ∙ ap option_copied w.in-Some.is)) in
          let count : length (unwrap_or (lookup test groups) []) ≡ w.len.result =
          ap (λ ids. length (unwrap_or ids [])) found ∙ sym w.in-Some.ids.now.ok.0 ∙ sym w.len.ensures in
          omega (arith, more, count, w.number-is, w.in_ok-number.ensures, c.loop-step.invariant)
      | in_default w ↦
          let none = rw c.groups.ensures.entries at (lookup-lists test c.groups.result.now.entries
          ∙ ap (option_map (λ v. v.items)) (sym c.get.ensures.value ∙ ap option_copied w.in_default.is)) in
          let count : length (unwrap_or (lookup test groups) []) ≡ 0 = ap (λ ids. length (unwrap_or ids [])) none in
          omega (arith, more, count, w.number-is, c.loop-step.invariant)
    ]

pub returns-in_err-number : goal.returns-in_err-number
returns-in_err-number g c =
    let step = c.step-item.result in
    let test = is_at (group_cmp g step.group) in
    let groups = c.args.groups.now.groups in
    let steps = c.args.steps.now in
    let entries = λ (s : Step g.row.Id.Denot g.row.GroupId.Denot g.row.BinId.Denot). length (unwrap_or (lookup (is_at (group_cmp g s.group)) groups) []) in
    let more = sum-more entries steps c.loop-step.step-index step c.loop-step-test.true c.step-item.is in
    let found = rw c.groups.ensures.entries at (list-found test c.groups.result.now.entries c.in-Some.ids.now
    (sym c.get.ensures.value ∙ ap option_copied c.in-Some.is)) in
    let count : length (unwrap_or (lookup test groups) []) ≡ c.len.result =
    ap (λ ids. length (unwrap_or ids [])) found ∙ sym c.in-Some.ids.now.ok.0 ∙ sym c.len.ensures in
    rw c.from_residual.ensures
    (omega (arith, more, count, sum_by-take-le entries steps (c.loop-step.step-index + 1), c.in_err-number.ensures, c.loop-step.invariant))
