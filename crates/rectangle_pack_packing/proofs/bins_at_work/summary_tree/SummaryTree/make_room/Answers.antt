use Rattle.rectangle_pack_sections.proofs.Std.{◌≡◌, ◌+◌, ◌/◌, ◌∙◌, List, [], length, All, get_or-drop}
use Rattle.rectangle_pack_sections.proofs.Std.{Option, None, true, refl, arith}
use Rattle.rectangle_pack_packing.proofs.lemmas.bins.SummaryTrees.{unknown-at}
use Rattle.rectangle_pack_lists.specs.declared.gap_list.summary.Summary.{Summary}
use Rattle.rectangle_pack_packing.specs.private.SummaryTrees.{IsTree}
use Rattle.rectangle_pack_packing.proofs.bins_at_work.summary_tree.SummaryTree.make_room.Goals as goal

-- where nothing is known, no summary is wrong
IsTree-unknown : (nodes : List (Option Summary))
    → length nodes ≡ length nodes / 2 + length nodes / 2 → All (λ s. s ≡ None) nodes → IsTree nodes
IsTree-unknown nodes even none = record {
  even = even;
  above = λ n some inside apart. rw (none n None (omega (arith, inside))) tt;
}

IsTree-none : IsTree []
IsTree-none = IsTree-unknown [] refl (λ k d low. absurd (omega (arith, low)))

pub invariant_of-self : goal.invariant_of-self
invariant_of-self g c = rw c.clear.ensures.items IsTree-none

pub invariant_of-self-in_err-resize : goal.invariant_of-self-in_err-resize
invariant_of-self-in_err-resize g c =
    rw (c.in_err-resize.ensures.items, c.clear.ensures.items) IsTree-none

pub returns-in_err-resize : goal.returns-in_err-resize
returns-in_err-resize g c = λ i. rw (c.in_err-resize.ensures.items, c.clear.ensures.items) refl

pub returns-in_err-nodes : goal.returns-in_err-nodes
returns-in_err-nodes g c = λ i. rw c.clear.ensures.items refl

pub returns : goal.returns
returns g c =
    let nodes = c.resize.new.self.items in
    let all : All (λ s. s ≡ None) nodes =
    λ k d low. c.in_ok-resize.ensures.by_index.1 k d refl (omega (arith, c.clear.ensures.len)) (omega (arith, low, c.in_ok-resize.ensures.len, c.resize.new.self.ok.0)) in
    λ i. get_or-drop (length nodes / 2) nodes i None ∙ unknown-at nodes all (length nodes / 2 + i)

pub invariant_of-self-2 : goal.invariant_of-self-2
invariant_of-self-2 g c =
    let twice = rw c.in_ok-nodes.ensures.ok_part at c.checked_mul.ensures in
    let long = c.resize.new.self.ok.0 in
    let now = c.in_ok-resize.ensures in
    IsTree-unknown c.resize.new.self.items (omega (arith, twice.1, now.len, long))
    (λ k d low. now.by_index.1 k d (refl {a = true}) (omega (arith, c.clear.ensures.len))
    (omega (arith, low, now.len, long)))
