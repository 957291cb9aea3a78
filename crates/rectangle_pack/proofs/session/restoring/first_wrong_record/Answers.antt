use Rattle.rectangle_pack_sections.proofs.Std.{rules, sym, ◌∙◌, is_at}
use Rattle.rectangle_pack_sections.specs.Bins.{bins_of}
use Rattle.rectangle_pack_bins.proofs.lemmas.bins.Maps.{is_some-bins_of}
use Rattle.rectangle_pack_sections.proofs.lemmas.util.Maps.{none_of}
use Rattle.rectangle_pack_overlaps.proofs.lemmas.Places.{at_here}
use Rattle.rectangle_pack.proofs.lemmas.session.Restoring.{not_above, above_all, AreRecorded-more, IsGreatest-more}
use Rattle.rectangle_pack.proofs.session.restoring.first_wrong_record.Goals as goal

pub returns-then-not-is_above : goal.returns-then-not-is_above
returns-then-not-is_above g c =
    let loop = c.loop-placement.invariant in
    let one = c.index-outstanding-placement.result in (
      at_here c.args.outstanding.now c.loop-placement.placement one c.loop-placement-test.true c.index-outstanding-placement.is,
      loop.0,
      not_above c.loop-placement.last one.number _ c.is_above.result c.is_above.ensures (search rules) loop.1,
    )

pub returns-then-one-next : goal.returns-then-one-next
returns-then-one-next g c =
    let loop = c.loop-placement.invariant in
    let one = c.index-outstanding-placement.result in (
      at_here c.args.outstanding.now c.loop-placement.placement one c.loop-placement-test.true c.index-outstanding-placement.is,
      loop.0,
      above_all c.loop-placement.last one.number _ c.is_above.result c.is_above.ensures (search rules) loop.1,
      c.if-one-next.true,
    )

pub returns-then-not-contains_key : goal.returns-then-not-contains_key
returns-then-not-contains_key g c =
    let loop = c.loop-placement.invariant in
    let one = c.index-outstanding-placement.result in
    let test = is_at (g.B.Ord.cmp one.bin) in (
      at_here c.args.outstanding.now c.loop-placement.placement one c.loop-placement-test.true c.index-outstanding-placement.is,
      loop.0,
      above_all c.loop-placement.last one.number _ c.is_above.result c.is_above.ensures (search rules) loop.1,
      search rules,
      none_of _ (is_some-bins_of test c.args.bins.now.entries ∙ sym c.contains_key.ensures ∙ search rules),
    )

pub loop-placement-preserved : goal.loop-placement-preserved
loop-placement-preserved g c =
    let loop = c.loop-placement.invariant in
    let one = c.index-outstanding-placement.result in
    let i = c.loop-placement.placement in
    let outstanding = c.args.outstanding.now in
    let test = is_at (g.B.Ord.cmp one.bin) in
    let above = above_all c.loop-placement.last one.number _ c.is_above.result c.is_above.ensures (search rules) loop.1 in (
      AreRecorded-more g.B.Ord.cmp (bins_of c.args.bins.now.entries) c.args.next outstanding i one c.loop-placement-test.true c.index-outstanding-placement.is above (search rules)
          (is_some-bins_of test c.args.bins.now.entries ∙ sym c.contains_key.ensures ∙ search rules) loop.0,
      IsGreatest-more g.B.Ord.cmp (bins_of c.args.bins.now.entries) c.args.next outstanding i one c.loop-placement-test.true c.index-outstanding-placement.is above,
    )
