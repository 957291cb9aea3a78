use Rattle.rectangle_pack_sections.proofs.Std.{◌≡◌, sym, ◌∙◌, refl, is_at, on_ok_weaker, on_err_weaker, set_value_same}
use Rattle.rectangle_pack_sections.specs.Bins.{bins_of}
use Rattle.rectangle_pack.specs.PlacingAt.{PlacesIn}
use Rattle.rectangle_pack_bins.proofs.lemmas.bins.Maps.{bins_of-written}
use Rattle.rectangle_pack.proofs.lemmas.session.Keeps.{Some-bins_of}
use Rattle.rectangle_pack.proofs.session.placing_at.cut_in.Goals as goal

pub returns : goal.returns
returns g c =
    let test = is_at (g.B.Ord.cmp c.args.id.now) in
    let old = c.args.bins.now.entries in
    let v = c.in-Some.bin.now in
    let w = c.cut_round.new.bin in
    let written = (c.get_mut.follows.holds w).0 in
    let found = Some-bins_of test old v (sym c.in-Some.ensures.value) in
    record {
      ok = on_ok_weaker {Q = PlacesIn g.B.Ord.cmp c.args.id.now c.args.location.now (bins_of old) (bins_of (c.get_mut.follows.lender w).entries)} _
          (λ placed. (v.bin, found, w.bin, placed, bins_of-written test old _ w w.bin written refl)) c.cut_round.ensures.ok;
      err = on_err_weaker {Q = bins_of (c.get_mut.follows.lender w).entries ≡ bins_of old} _
          (λ same. bins_of-written test old _ w _ written same ∙ set_value_same test (bins_of old) v.bin found) c.cut_round.ensures.err;
    }
