use Rattle.rectangle_pack_sections.proofs.Std.{◌∙◌, sym, subst, Contains}
use Rattle.rectangle_pack_sections.specs.contracts.width_height_depth.WidthHeightDepthPartialEq.TheImpl.{ghosts}
use Rattle.rectangle_pack_sections.specs.Boxes.{IsInside}
use Rattle.rectangle_pack_bounds.specs.Turning.{ways}
use Rattle.rectangle_pack_bounds.proofs.lemmas.SameSizes.{sizes-same}
use Rattle.rectangle_pack_judge.proofs.lemmas.Firsts.{Contains-size, not-from-IsTrue, IsTrue-from}
use Rattle.rectangle_pack_judge.proofs.case.alone_fault.Goals as goal

pub returns-then-not-is_inside : goal.returns-then-not-is_inside
returns-then-not-is_inside c =
    let bin = c.in-Some.ensures.lookup in
    let entry = c.in-Some-get.ensures.lookup in
    let size = c.args.claim.now.section.whd in
    let section = c.args.claim.now.section in
    let way : Contains (ways c.in-Some-get.entry.now.turning) size =
    Contains-size size ghosts.eq (ways c.in-Some-get.entry.now.turning) (rw c.whd.ensures at (sym c.may_stand_in.ensures ∙ c.if-not-may_stand_in.false)) sizes-same in
    let out : ¬ IsInside c.in-Some.bin.now section = not-from-IsTrue c.is_inside.result _ c.is_inside.ensures.1 c.if-not-is_inside.true in
    (bin.3.0, entry.3.0, λ d. subst (λ e. Contains (ways e.turning) size) (entry.3.1 d) way, λ d. subst (λ s. ¬ IsInside s section) (bin.3.1 d) out)

pub returns : goal.returns
returns c =
    let bin = c.in-Some.ensures.lookup in
    let entry = c.in-Some-get.ensures.lookup in
    let size = c.args.claim.now.section.whd in
    let section = c.args.claim.now.section in
    let way : Contains (ways c.in-Some-get.entry.now.turning) size =
    Contains-size size ghosts.eq (ways c.in-Some-get.entry.now.turning) (rw c.whd.ensures at (sym c.may_stand_in.ensures ∙ c.if-not-may_stand_in.false)) sizes-same in
    let inside : IsInside c.in-Some.bin.now section = c.is_inside.ensures.0 (IsTrue-from c.is_inside.result c.if-not-is_inside.false) in
    record {
      bin = bin.3.0;
      entry = entry.3.0;
      in_a_way = λ d. subst (λ e. Contains (ways e.turning) size) (entry.3.1 d) way;
      inside = λ d. subst (λ s. IsInside s section) (bin.3.1 d) inside;
    }
