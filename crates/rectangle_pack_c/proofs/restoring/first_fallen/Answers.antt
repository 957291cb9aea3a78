use Rattle.rectangle_pack_c.proofs.Std.{arith, get_or, get_or_default, take_all, ◌-◌}
use Rattle.rectangle_pack_c.specs.declared.restoring.RpSavedBin.{RpSavedBin}
use Rattle.rectangle_pack_c.proofs.PutLemmas.{first_fall, rise_more}
use Rattle.rectangle_pack_c.proofs.restoring.first_fallen.Goals as goal

abbrev none : RpSavedBin
none = record { id = 0; size = record { width = 0; height = 0; depth = 0 }; coalesced = 0; section_count = 0 }

pub returns-then-bins-i : goal.returns-then-bins-i
returns-then-bins-i c =
    let bins = c.args.bins.now in
    let i = c.loop-i.i in
    first_fall bins i (get_or bins (i - 1) none) (get_or bins i none) c.loop-i.auto.i c.loop-i-test.true
    (get_or_default bins (i - 1) none (get_or bins (i - 1) none) (omega (arith, c.loop-i-test.true)))
    (get_or_default bins i none (get_or bins i none) c.loop-i-test.true) c.loop-i.invariant c.if-bins-i.true

pub loop-i-preserved : goal.loop-i-preserved
loop-i-preserved c =
    let bins = c.args.bins.now in
    let i = c.loop-i.i in
    rise_more bins i (get_or bins (i - 1) none) (get_or bins i none) c.loop-i.auto.i c.loop-i-test.true
    (get_or_default bins (i - 1) none (get_or bins (i - 1) none) (omega (arith, c.loop-i-test.true)))
    (get_or_default bins i none (get_or bins i none) c.loop-i-test.true) c.loop-i.invariant c.if-bins-i.false

pub returns : goal.returns
returns c = rw (take_all c.loop-i.i c.args.bins.now (omega (arith, c.loop-i-test.false))) at c.loop-i.invariant
