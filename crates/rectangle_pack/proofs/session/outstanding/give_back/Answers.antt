use Rattle.rectangle_pack_sections.proofs.Std.{◌≡◌, sym, ◌∙◌, rules, refl, true, ◌++◌, ◌∷◌, [], is_at, on_ok_weaker, on_err_weaker, set_value_same}
use Rattle.rectangle_pack_sections.specs.Boxes.{has_cells}
use Rattle.rectangle_pack_sections.specs.Bins.{bins_of}
use Rattle.rectangle_pack.specs.Session.{GivesBack}
use Rattle.rectangle_pack_sections.proofs.lemmas.util.Results.{OnErr-given}
use Rattle.rectangle_pack_bins.proofs.lemmas.bins.Maps.{bins_of-written}
use Rattle.rectangle_pack.proofs.lemmas.session.Keeps.{Some-bins_of}
use Rattle.rectangle_pack.proofs.session.outstanding.give_back.Goals as goal

pub returns : goal.returns
returns g c =
    let test = is_at (g.B.Ord.cmp c.args.id.now) in
    let old = c.args.bins.now.entries in
    let v = c.in-Some.bin.now in
    let w = c.push_available_bin_section_unchecked.new.self in
    let written = (c.get_mut.follows.holds w).0 in
    let pushed = c.push_available_bin_section_unchecked.ensures in
    let found = Some-bins_of test old v (sym c.in-Some.ensures.value) in
    let section : c.section_at-section.result ≡ c.args.location = c.section_at-section.ensures in
    let full : has_cells c.args.location ≡ true = search rules in
    record {
      ok = on_ok_weaker {Q = GivesBack g.B.Ord.cmp (bins_of old) c.args.id.now c.args.location (bins_of (c.get_mut.follows.lender w).entries)} _
          (λ (more : w.bin ≡ record v.bin { sections = v.bin.sections ++ c.args.location ∷ [] }). rw full
          (v.bin, found, bins_of-written test old _ w _ written more)) (rw section at pushed.ok);
      err = on_err_weaker {Q = (has_cells c.args.location ≡ true) × (bins_of (c.get_mut.follows.lender w).entries ≡ bins_of old)} _
          (λ same. (full, bins_of-written test old _ w _ written same ∙ set_value_same test (bins_of old) v.bin found)) pushed.err;
    }

pub returns-then-not-has_cells : goal.returns-then-not-has_cells
returns-then-not-has_cells g c =
    let empty = rw c.section_at-section.ensures at (sym c.has_cells.ensures ∙ c.if-not-has_cells.true) in
    record { ok = rw empty refl; err = tt }

pub returns-in_err-reserve-in-Some-clause-err : goal.returns-in_err-reserve-in-Some-clause-err
returns-in_err-reserve-in-Some-clause-err g c =
    let test = is_at (g.B.Ord.cmp c.args.id.now) in
    let old = c.args.bins.now.entries in
    let v = c.in-Some.bin.now in
    let found = Some-bins_of test old v (sym c.in-Some.ensures.value) in
    let section : c.section_at-section.result ≡ c.args.location = c.section_at-section.ensures in
    let full : has_cells c.args.location ≡ true = search rules in
    OnErr-given c.from_residual.result
    (full, bins_of-written test old _ v _ (c.get_mut.follows.holds v).0 refl ∙ set_value_same test (bins_of old) v.bin found)
