use Rattle.rectangle_pack_sections.proofs.Std.{◌≡◌, ◌≤◌, ◌∙◌, length, drop, remove, arith, ap}
use Rattle.rectangle_pack.proofs.lemmas.session.Records.{remove-behind, remove-turned_behind}
use Rattle.rectangle_pack.proofs.session.records.Records.remove.Goals as goal
use Rattle.rectangle_pack.proofs.session.records.Records.remove.Goals.{then-index-left, else-index-left}

pub returns-else-self-left : goal.returns-else-self-left
returns-else-self-left g c =
    let all = c.self.inside.all in
    let within : c.self.inside.gone ≤ length all.items = omega (arith, c.self.invariant, all.ok.0) in
    let taken : drop c.if-index-left.self-inside.gone c.if-index-left.self-inside.all.items ≡ remove (drop c.self.inside.gone all.items) c.args.index =
    elim c.if-index-left.branch [
      | then-index-left w ↦ rw w.self-inside-is (remove-turned_behind all w.as_mut_slice.result.now w.move_to_front.new.items c.self.inside.gone
          c.args.index w.as_mut_slice.ensures.value within w.move_to_front.ensures.len w.move_to_front.ensures.rest)
      | else-index-left w ↦ rw (w.self-inside-is, w.remove.ensures.items) (remove-behind all.items c.self.inside.gone c.args.index within)
    ] in
    record { items = taken ∙ ap (λ s. remove s.items c.args.index) c.self.view_is }

pub returns-then-self-left : goal.returns-then-self-left
returns-then-self-left g c =
    let all = c.self.inside.all in
    let within : c.self.inside.gone ≤ length all.items = omega (arith, c.self.invariant, all.ok.0) in
    let taken : drop c.if-index-left.self-inside.gone c.if-index-left.self-inside.all.items ≡ remove (drop c.self.inside.gone all.items) c.args.index =
    elim c.if-index-left.branch [
      | then-index-left w ↦ rw w.self-inside-is (remove-turned_behind all w.as_mut_slice.result.now w.move_to_front.new.items c.self.inside.gone
          c.args.index w.as_mut_slice.ensures.value within w.move_to_front.ensures.len w.move_to_front.ensures.rest)
      | else-index-left w ↦ rw (w.self-inside-is, w.remove.ensures.items) (remove-behind all.items c.self.inside.gone c.args.index within)
    ] in
    record { items = c.drop-drain.ensures.items ∙ c.drain.ensures.kept ∙ taken ∙ ap (λ s. remove s.items c.args.index) c.self.view_is }
