use Rattle.rectangle_pack_sections.proofs.Std.{List, length, suc, ◌-◌, ◌≡◌, ◌∙◌, arith, subst}
use Rattle.rectangle_pack_sections.specs.Boxes.{Cuboid}
use Rattle.rectangle_pack_lists.specs.Joining.{IsJoined, IsSweptBelow}
use Rattle.rectangle_pack_lists.proofs.coalesce.join_all.Goals as goal

pub loop-idx-preserved : goal.loop-idx-preserved
loop-idx-preserved g c =
    let now : List Cuboid = c.loop-idx.sections.items in
    let next : List Cuboid = c.join_at.new.sections.items in
    let idx = c.loop-idx.idx - 1 in
    let until : c.len.result ≡ length now = c.len.ensures ∙ c.loop-idx.sections.ok.0 in
    let joined : IsJoined idx 0 (length now) now next = subst (λ hi. IsJoined idx 0 hi now next) until c.join_at.ensures.joined in
    let one : suc idx ≡ c.loop-idx.idx = omega arith in
    record {
      fit = c.join_at.ensures.fit;
      rest = λ new left. c.loop-idx.invariant.rest new (subst (λ n. IsSweptBelow n now new) one (next, joined, left));
    }
