use Rattle.rectangle_pack_sections.proofs.Std.{get_or, ℕ, ◌≡◌, ◌≤◌, ◌<◌, ◌+◌, arith}
use Rattle.rectangle_pack_lists.proofs.lemmas.trial.Rooms.{one-section-more}
use Rattle.rectangle_pack_lists.proofs.free_list.plain.push_pieces.Goals as goal

after_two : (n s t u m room left last : ℕ) → n ≡ s → n + 3 ≤ room → t ≤ s + 1 → u ≤ t + 1 → m ≡ u → room ≤ left → left ≤ last → m < last
after_two n s t u m room left last long three one two longer more most = omega arith

pub push_piece-requires-3 : goal.push_piece-requires-3
push_piece-requires-3 g c =
    after_two _ _ _ _ _ _ _ _ c.args.sections.now.ok.0 c.requires (one-section-more _ _ (get_or c.args.pieces 0 c.index-pieces-0.result) c.push_piece.ensures.items)
    (one-section-more _ _ (get_or c.args.pieces 1 c.index-pieces-1.result) c.push_piece-2.ensures.items) c.push_piece-2.new.sections.ok.0 c.push_piece.ensures.capacity
    c.push_piece-2.ensures.capacity
