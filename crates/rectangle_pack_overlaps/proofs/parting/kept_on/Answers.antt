use Rattle.rectangle_pack_sections.proofs.Std.{arith, ◌∙◌, ◌≡◌, ◌<◌, length, sym, true, false}
use Rattle.rectangle_pack_overlaps.specs.private.Parting.{is_kept}
use Rattle.rectangle_pack_overlaps.proofs.lemmas.Parting.{is_kept-from, not_kept-beyond, not_kept-beside, kept-yes, kept-no}
use Rattle.rectangle_pack_overlaps.proofs.parting.kept_on.Goals as goal
use Rattle.rectangle_pack_overlaps.proofs.parting.kept_on.Goals.{then-part-limit+then-is_on+in_ok-push, else-part-limit, else-part-limit-via-then-part-limit+else-is_on, else-part-limit-via-else-part-limit}

pub loop-part-preserved : goal.loop-part-preserved
loop-part-preserved g c =
    let parts = c.args.parts.now in
    let part = c.part-item.result in
    let test = is_kept c.args.plane c.args.side c.args.limit in
    let within : c.loop-part.part-index < length parts = omega (arith, c.loop-part-test.true, c.loop-part.auto.part-index-end) in
    elim c.if-part-limit.branch [
      | then-part-limit+then-is_on+in_ok-push w ↦
          let on : test part ≡ true = is_kept-from c.args.plane c.args.side c.args.limit part w.if-part-limit.true (sym w.is_on.ensures ∙ w.if-is_on.true) in
          rw (w.kept-is, w.in_ok-push.ensures.items, c.loop-part.invariant) (kept-yes test parts c.loop-part.part-index part within c.part-item.is on)
      | else-part-limit w ↦
          let off : test part ≡ false = elim w.else-part-limit.branch [
            | else-part-limit-via-then-part-limit+else-is_on v ↦ not_kept-beside c.args.plane c.args.side c.args.limit part (sym v.is_on.ensures ∙ v.if-is_on.false)
            | else-part-limit-via-else-part-limit v ↦ not_kept-beyond c.args.plane c.args.side c.args.limit part v.if-part-limit.false
          ] in
          rw (w.kept-is, c.loop-part.invariant) (kept-no test parts c.loop-part.part-index part within c.part-item.is off)
    ]
