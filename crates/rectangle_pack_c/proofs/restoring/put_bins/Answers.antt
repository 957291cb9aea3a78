use Rattle.rectangle_pack_c.proofs.Std.{get_or, get_or_default, err_from_is_err_and}
use Rattle.rectangle_pack.specs.Bins.{bins_of}
use Rattle.rectangle_pack_c.specs.declared.restoring.RpSavedBin.{RpSavedBin}
use Rattle.rectangle_pack_c.proofs.PutLemmas.{put_more, bin_fault}
use Rattle.rectangle_pack_c.proofs.restoring.put_bins.Goals as goal

abbrev none : RpSavedBin
none = record { id = 0; size = record { width = 0; height = 0; depth = 0 }; coalesced = 0; section_count = 0 }

pub loop-i-preserved : goal.loop-i-preserved
loop-i-preserved c =
    let bins = c.args.saved.now.bins.now in
    let i = c.loop-i.i in
    let b : RpSavedBin = get_or bins i none in
    rw c.split_at.ensures.back (put_more c.args.saved.now i b c.loop-i-test.true (get_or_default bins i b none c.loop-i-test.true)
    (bins_of c.loop-i.bins.entries) c.loop-i.rest.now c.loop-i.invariant c.requires.rising (bins_of c.put_bin.new.bins.entries)
    (rw c.split_at.ensures.front at c.in_ok-put_bin.ensures.put))

pub returns-in_err-put_bin-clause-refused : goal.returns-in_err-put_bin-clause-refused
returns-in_err-put_bin-clause-refused c =
    let bins = c.args.saved.now.bins.now in
    let i = c.loop-i.i in
    let b : RpSavedBin = get_or bins i none in
    let failed = err_from_is_err_and c.from_residual.result c.from_residual.ensures.1 in
    let fault = bin_fault c.args.saved.now i b c.loop-i-test.true (get_or_default bins i b none c.loop-i-test.true) (bins_of c.loop-i.bins.entries) c.loop-i.rest.now
    c.loop-i.invariant c.requires.rising c.requires.counted _ (rw c.split_at.ensures.front at c.in_err-put_bin.ensures.refused) in
    rw (failed.1, failed.2) fault
