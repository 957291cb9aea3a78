use Rattle.rectangle_pack_sections.proofs.Std.{◌∙◌, ap, Err}
use Rattle.rectangle_pack_sections.specs.Bins.{bins_of}
use Rattle.rectangle_pack_packing.specs.declared.answer.RectanglePackError.{RectanglePackError}
use Rattle.rectangle_pack_packing.specs.Packing.{rules_by}
use Rattle.rectangle_pack_packing.proofs.lemmas.packing.Ends.{undone-end}
use Rattle.rectangle_pack_packing.proofs.pack.pack_in_order.Goals.{in-Err-OutOfMemory, in-Err-NotEnoughBinSpace, in-Ok}
use Rattle.rectangle_pack_packing.proofs.pack.pack_in_order.Goals as goal

pub returns : goal.returns
returns g c = record {
  answer =
      undone-end _ (rules_by g.Id.Ord.cmp g.BinId.Ord.cmp (g.R.Policy.may c.args.policy.now)) c.args.rects_to_place.now
      (bins_of c.args.target_bins.now.entries) c.place_all-packed.new.self c.place_all-packed.result _ _ _ c.args.tests.now _ c.args.refused
      (rw (c.new-packing.ensures.now, c.new-packing.ensures.policy, c.replace-bins.ensures.value) at c.place_all-packed.ensures.packed)
      (c.place_all-packed.ensures.start ∙ rw c.replace-bins.ensures.value at c.new-packing.ensures.start) (elim c.match-answer.branch [
        | in-Err-OutOfMemory w ↦ let error = rw w.in-Err-OutOfMemory.is at w.in-Err-OutOfMemory.field-0-is in
            rw (w.in-Err-OutOfMemory.is ∙ ap (λ (e : RectanglePackError). Err e) error) w.made-is
        | in-Err-NotEnoughBinSpace w ↦ let error = rw w.in-Err-NotEnoughBinSpace.is at w.in-Err-NotEnoughBinSpace.field-0-is in
            rw (w.in-Err-NotEnoughBinSpace.is ∙ ap (λ (e : RectanglePackError). Err e) error) (w.made-is ∙ c.count-counted.ensures)
        | in-Ok w ↦ rw w.in-Ok.is (w.made-is ∙ c.count-counted.ensures)
      ]) c.add.ensures c.end_packing-bins.ensures;
}

pub place_all-packed-requires-clause-order : goal.place_all-packed-requires-clause-order
place_all-packed-requires-clause-order g c =
    rw (c.new-packing.ensures.now, c.new-packing.ensures.order, c.new-packing.ensures.policy, c.replace-bins.ensures.value) c.requires.order
