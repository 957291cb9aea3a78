use Rattle.rectangle_pack_sections.proofs.Std.{◌≤◌, ◌+◌, ◌∙◌, ap, sym, length, vec_capacity}
use Rattle.rectangle_pack_lists.specs.private.Places.{Places}
use Rattle.rectangle_pack_lists.proofs.lemmas.trial.Places.{counted, length-places_of}
use Rattle.rectangle_pack_lists.proofs.lemmas.trial.Rooms.{few-bytes, few-blocks, few-rows, room-made}
use Rattle.rectangle_pack_lists.proofs.gap_list.GapList.reserve.Goals as goal

pub overflow_sub-most : goal.overflow_sub-most
overflow_sub-most g c =
    few-blocks _ _ _ _ _ (c.len-3.ensures ∙ c.self.inside.blocks.ok.0)
    (c.len.ensures ∙ c.reserve.new.self.ok.0 ∙ ap length c.reserve.ensures.items ∙ sym (length-places_of _ _))
    c.self.invariant.1.in_blocks.whole

pub overflow_sub-most-2 : goal.overflow_sub-most-2
overflow_sub-most-2 g c =
    few-rows _ _ _ _ _ (c.len-4.ensures ∙ c.self.inside.rows.ok.0)
    (c.len.ensures ∙ c.reserve.new.self.ok.0 ∙ ap length c.reserve.ensures.items ∙ sym (length-places_of _ _))
    c.self.invariant.1.in_rows.whole

pub returns-clause-ok : goal.returns-clause-ok
returns-clause-ok g c =
    let long = c.len.ensures ∙ c.reserve.new.self.ok.0 ∙ ap length c.reserve.ensures.items in
    let all = counted _ _ _ (ap (λ (v : Places). v.all) c.self.view_is) in
    let places = long ∙ sym (length-places_of _ _) in
    let blocks = few-blocks c.len-3.result _ c.len.result _ c.args.extra (c.len-3.ensures ∙ c.self.inside.blocks.ok.0) places c.self.invariant.1.in_blocks.whole in
    let rows = few-rows c.len-4.result _ c.len.result _ c.args.extra (c.len-4.ensures ∙ c.self.inside.rows.ok.0) places c.self.invariant.1.in_rows.whole in
    let bytes = few-bytes c.len-2.result _ c.len.result _ c.args.extra c.div_ceil.result (c.len-2.ensures ∙ c.self.inside.gaps.ok.0) c.self.invariant.0 long c.div_ceil.ensures in
    let made : c.len.result + c.args.extra ≤ vec_capacity c.reserve.new.self = rw c.len.ensures c.in_ok-reserve.ensures.ok in
    room-made _ _ _ _ _ _ _ _ _ _ _ _ _ _ (long ∙ all) made
    c.div_ceil.ensures bytes (c.reserve-2.ensures.len ∙ sym c.len-2.ensures) c.in_ok-reserve-2.ensures.ok
    blocks (c.reserve-3.ensures.len ∙ sym c.len-3.ensures) c.in_ok-reserve-3.ensures.ok rows (c.reserve-4.ensures.len ∙ sym c.len-4.ensures) c.in_ok-reserve-4.ensures.ok
