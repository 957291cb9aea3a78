use Rattle.rectangle_pack_sections.proofs.Std.{◌≡◌, sym, ◌∙◌, take, Equal-is, Equal, take_more, take_all, IfOk-from_err}
use borrow.Author.Count.{falls}
use Rattle.rectangle_pack_packing.proofs.lemmas.packing.Groups.{AreLastPlacements-more}
use Rattle.rectangle_pack_packing.proofs.lemmas.packing.Placed.{AreLastPlacements-none}
use Rattle.rectangle_pack_packing.proofs.answer.last_placements.Goals as goal

pub loop-placement-preserved : goal.loop-placement-preserved
loop-placement-preserved g c =
    let p = c.placement-item.result in
    let i = c.loop-placement.placement-index in
    let same : g.Id.Ord.cmp p.id c.in_ok-clone.field-0 ≡ Equal = (Equal-is _).0
    (sym (g.met.Id.Ord.matches_eq _ _) ∙ c.requires.ids _ _ c.in_ok-clone.ensures.cases) in
    let same_bin : g.BinId.Ord.cmp p.bin c.in_ok-clone-2.field-0
    ≡ Equal = (Equal-is _).0 (sym (g.met.BinId.Ord.matches_eq _ _) ∙ c.requires.bin_ids _ _ c.in_ok-clone-2.ensures.cases) in
    rw (take_more c.args.placements.now i p c.loop-placement-test.true, ← c.placement-item.is)
    (AreLastPlacements-more g.BinId.Ord.cmp g.met.Id.Ord.total (take i c.args.placements.now) p c.in_ok-clone.field-0 c.in_ok-clone-2.field-0
    c.loop-placement.last.entries c.insert.new.self.entries c.in_ok-insert.ensures.ordered
    same same_bin c.in_ok-insert.ensures.updates.0 c.loop-placement.invariant)

pub loop-placement-init : goal.loop-placement-init
loop-placement-init g c = AreLastPlacements-none g.Id.Ord.cmp g.BinId.Ord.cmp c.new-last.result.entries c.new-last.ensures.ordered c.new-last.ensures.empty

pub returns-in_err-clone : goal.returns-in_err-clone
returns-in_err-clone g c = IfOk-from_err _ _ c.from_residual.ensures.0

pub returns-in_err-clone-2 : goal.returns-in_err-clone-2
returns-in_err-clone-2 g c = IfOk-from_err _ _ c.from_residual-in_err-clone-2.ensures.0

pub returns-in_err-insert : goal.returns-in_err-insert
returns-in_err-insert g c = IfOk-from_err _ _ c.from_residual-in_err-insert.ensures.0

pub loop-placement-smaller : goal.loop-placement-smaller
loop-placement-smaller g c = falls _ c.loop-placement.placement-index c.loop-placement-test.true

pub returns : goal.returns
returns g c = rw (take_all c.loop-placement.placement-index c.args.placements.now c.loop-placement-test.false) at c.loop-placement.invariant
