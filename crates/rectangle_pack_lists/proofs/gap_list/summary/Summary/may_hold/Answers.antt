use Rattle.std.proofs.Common.{bit_or, mul-le-mul, true≢false}
use Rattle.std.proofs.lemmas.Bool.{OnFalse_from}
use Rattle.std.specs.Bool.{OnFalse}
use Rattle.rectangle_pack_sections.proofs.Std.{arith, ℕ, ◌≡◌, ◌≤◌, ◌-◌, ◌∙◌, ap, eqb, min}
use Rattle.rectangle_pack_sections.specs.Boxes.{Size, volume_of, middle_side}
use Rattle.rectangle_pack_lists.specs.declared.gap_list.summary.Summary.{Summary}
use Rattle.rectangle_pack_lists.specs.private.Summaries.{RulesOut, bounded_volume_of}
use Rattle.rectangle_pack_lists.proofs.gap_list.summary.Summary.may_hold.Goals as goal

-- what is no more than something within a bound is nothing beyond it
none_beyond : (n a b c : ℕ) → n ≡ a - c → a ≤ b → b ≤ c → n ≡ 0
none_beyond n a b c is less within = omega arith

bounded : (a b most : ℕ) → a ≤ b → min a most ≤ min b most
bounded a b most less = omega arith

middle : (s t : Size) → s.width ≤ t.width → s.height ≤ t.height → s.depth ≤ t.depth
    → middle_side s ≤ middle_side t
middle s t wide high deep = omega arith

-- where the size has something beyond the summary, that rules it out
beyond : (s : Summary) (size : Size) (w h d m v sides : ℕ) → w ≡ size.width - s.width
    → h ≡ size.height - s.height → d ≡ size.depth - s.depth → m ≡ middle_side size - s.middle
    → v ≡ bounded_volume_of size - s.volume → sides ≡ bit_or (bit_or (bit_or w h) d) m
    → OnFalse (eqb (bit_or sides v) 0) (RulesOut s size)
beyond s size w h d m v sides is_w is_h is_d is_m is_v is =
    OnFalse_from (eqb (bit_or sides v) 0) (RulesOut s size) (λ some x within held.
    let no_w = none_beyond w _ _ _ is_w held.wide within.wide in
    let no_h = none_beyond h _ _ _ is_h held.high within.high in
    let no_d = none_beyond d _ _ _ is_d held.deep within.deep in
    let no_m = none_beyond m _ _ _ is_m (middle size x.whd held.wide held.high held.deep)
    within.middle in
    let volume : volume_of size ≤ volume_of x.whd = mul-le-mul (mul-le-mul held.wide held.high)
    held.deep in
    let no_v = none_beyond v _ _ _ is_v (bounded _ _ _ volume) within.volume in
    true≢false (rw (is, no_w, no_h, no_d, no_m, no_v) at some))

pub returns : goal.returns
returns c =
    beyond c.args.self.now c.args.size.now _ _ _ _ _ _
    (c.saturating_sub.ensures ∙ ap (λ n. n - c.args.self.now.width) c.width.ensures)
    (c.saturating_sub-2.ensures ∙ ap (λ n. n - c.args.self.now.height) c.height.ensures)
    (c.saturating_sub-3.ensures ∙ ap (λ n. n - c.args.self.now.depth) c.depth.ensures)
    (c.saturating_sub-4.ensures ∙ ap (λ n. n - c.args.self.now.middle) c.middle_side.ensures)
    (c.saturating_sub-volume.ensures ∙ ap (λ n. n - c.args.self.now.volume)
    c.bounded_volume.ensures)
    c.from.ensures
