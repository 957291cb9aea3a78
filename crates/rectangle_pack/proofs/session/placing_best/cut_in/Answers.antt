use Rattle.std.proofs.lemmas.Result.{IfOk-weaker}
use Rattle.rectangle_pack_sections.proofs.Std.{◌≡◌, sym, ◌∙◌, refl, is_at, on_err_weaker, set_value_same}
use Rattle.rectangle_pack_sections.specs.Bins.{bins_of}
use Rattle.rectangle_pack_bins.proofs.lemmas.bins.Maps.{bins_of-written}
use Rattle.rectangle_pack.proofs.lemmas.session.Keeps.{Some-bins_of}
use Rattle.rectangle_pack.proofs.session.placing_best.cut_in.Goals as goal

pub returns-clause-ok : goal.returns-clause-ok
returns-clause-ok g c =
    let test = is_at (g.B.Ord.cmp c.args.id.now) in
    let old = c.args.bins.now.entries in
    let v = c.in-Some.bin.now in
    let w = c.cut_best.new.bin in
    let written = (c.get_mut.follows.holds w).0 in
    let found = Some-bins_of test old v (sym c.in-Some.ensures.value) in
    IfOk-weaker c.cut_best.result _ _ (λ location placed. (v.bin, found, w.bin, placed, bins_of-written test old _ w w.bin written refl)) c.cut_best.ensures.ok

pub returns-clause-err : goal.returns-clause-err
returns-clause-err g c =
    let test = is_at (g.B.Ord.cmp c.args.id.now) in
    let old = c.args.bins.now.entries in
    let v = c.in-Some.bin.now in
    let w = c.cut_best.new.bin in
    let written = (c.get_mut.follows.holds w).0 in
    let found = Some-bins_of test old v (sym c.in-Some.ensures.value) in
    on_err_weaker {Q = bins_of (c.get_mut.follows.lender w).entries ≡ bins_of old} _
    (λ same. bins_of-written test old _ w _ written same ∙ set_value_same test (bins_of old) v.bin found) c.cut_best.ensures.err
