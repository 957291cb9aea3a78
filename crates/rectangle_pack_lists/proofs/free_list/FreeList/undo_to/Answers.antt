use Rattle.std.proofs.Common.{le_trans}
use Rattle.rectangle_pack_sections.proofs.Std.{◌≡◌, ◌≤◌, ◌<◌, ◌+◌, ◌∷◌, [], ℕ, List, Option, length, length-append, arith, ap}
use Rattle.rectangle_pack_sections.specs.Boxes.{Cuboid}
use Rattle.rectangle_pack_lists.specs.private.Notes.{Note, IsNoted}
use Rattle.rectangle_pack_lists.proofs.lemmas.trial.Notes.{IsSince-earlier}
use Rattle.rectangle_pack_lists.proofs.free_list.FreeList.undo_to.Goals as goal

one_fewer : (room : ℕ) (left notes : List Note) (places now : List (Option Cuboid)) → IsNoted room left notes places now
    → length notes ≡ length left + 1
one_fewer room left notes places now noted = omega (arith, ap length noted.more, length-append left (noted.note ∷ []))

fewer_left : (kept long notes left : ℕ) → kept < long → long ≡ notes → notes ≡ left + 1 → kept ≤ left
fewer_left kept long notes left more counted fewer = omega arith

pub loop-self-preserved : goal.loop-self-preserved
loop-self-preserved g c = record {
  since = IsSince-earlier c.undo.new.self c.loop-self.self _ _ c.loop-self.invariant.since c.undo.ensures.undone;
  kept = fewer_left _ _ _ _ c.loop-self-test.true c.steps.ensures (one_fewer _ _ _ _ _ c.undo.ensures.undone);
  room = le_trans c.loop-self.invariant.room c.undo.ensures.room;
}
