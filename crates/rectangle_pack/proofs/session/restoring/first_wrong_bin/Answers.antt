use Rattle.rectangle_pack_sections.proofs.Std.{arith, ◌≡◌, ◌∷◌, [], map, sym, ap, ◌∙◌, subst, deref_pair, iter_end, rest_so_far, rest_more, length, length-append, length-map, ◌-◌, ◌<◌, ◌++◌, not, Some, is_at, get, All-push}
use Rattle.rectangle_pack_sections.specs.Bins.{Bin, bins_of}
use Rattle.rectangle_pack_sections.proofs.lemmas.util.Lists.{All-middle}
use Rattle.rectangle_pack.proofs.lemmas.session.Keeps.{Some-bins_of}
use Rattle.rectangle_pack_overlaps.specs.Places.{At}
use Rattle.rectangle_pack_covers.specs.Covers.{IsBinAnswer}
use Rattle.rectangle_pack.specs.Restoring.{IsWholeBin}
use Rattle.rectangle_pack.proofs.lemmas.session.PlacingBest.{bins_of-yielded, bins_of-split}
use Rattle.rectangle_pack.proofs.lemmas.session.Restoring.{shorter}
use Rattle.rectangle_pack.proofs.session.restoring.first_wrong_bin.Goals as goal

pub returns-in-Some-2 : goal.returns-in-Some-2
returns-in-Some-2 g c =
    let all = c.args.bins.now.entries in
    let before = map deref_pair c.loop-id.yielded in
    let so_far = sym c.into_iter-id-iterator.ensures.into_iter_gives.0 ∙ rest_so_far deref_pair c.loop-id.yielded _ _ c.loop-id.yielded_by in
    let rest = rest_more deref_pair _ _ _ (c.in-Some.id, c.in-Some.bin) c.in-Some.is c.next.ensures.steps in
    let splits = bins_of-split all before _ c.in-Some.id.now c.in-Some.bin.now _ so_far rest in
    let found = Some-bins_of (is_at (g.B.Ord.cmp c.in-Some.id.now)) all c.in-Some.bin.now
    (All-middle (λ e. get g.B.Ord.cmp c.args.bins.now e.0 ≡ Some e.1) all before _ (c.in-Some.id.now, c.in-Some.bin.now) (so_far ∙ ap (λ l. before ++ l) rest)
    c.into_iter-id-iterator.ensures.into_iter_gives.6) in
    let many : length (bins_of all) ≡ length all = length-map all (λ e. (e.0, e.1.bin)) in
    let place : c.len.result - c.loop-id.left ≡ length (bins_of before) = omega (arith, many, c.len.ensures, c.loop-id.invariant.1) in
    let one : g.row.B.Denot × Bin = (c.in-Some.id.now, c.in-Some.bin.now.bin) in
    let at : At (bins_of all) (c.len.result - c.loop-id.left) = record { before = bins_of before; one = one; after = _; splits = splits; place_is = place } in
    let bin = c.in-Some.bin.now.bin in
    let answer : IsBinAnswer bin.size (not bin.coalesced) (bin.sections ++ c.standing_at.result.now) (Some c.in-Some-2.fault) =
    rw c.in-Some-2.is at c.in_ok-fault.ensures in
    let standing = c.standing_at.ensures ∙ c.in_ok-piles.ensures c.in-Some.id.now in
    (at, c.loop-id.invariant.0, found, subst (λ bs. IsBinAnswer bin.size (not bin.coalesced) (bin.sections ++ bs) (Some c.in-Some-2.fault)) standing answer)

pub loop-id-preserved : goal.loop-id-preserved
loop-id-preserved g c =
    let all = c.args.bins.now.entries in
    let before = map deref_pair c.loop-id.yielded in
    let one : g.row.B.Denot × Bin = (c.in-Some.id.now, c.in-Some.bin.now.bin) in
    let splits = bins_of-split all before _ c.in-Some.id.now c.in-Some.bin.now _
    (sym c.into_iter-id-iterator.ensures.into_iter_gives.0 ∙ rest_so_far deref_pair c.loop-id.yielded _ _ c.loop-id.yielded_by)
    (rest_more deref_pair _ _ _ (c.in-Some.id, c.in-Some.bin) c.in-Some.is c.next.ensures.steps) in
    let longer : length (bins_of before) < length (bins_of all) = shorter (bins_of all) (bins_of before) one _ splits in
    let here = rw (c.in_default.is, c.standing_at.ensures, c.in_ok-piles.ensures c.in-Some.id.now) at c.in_ok-fault.ensures in
    rw (bins_of-yielded c.loop-id.yielded (c.in-Some.id, c.in-Some.bin)) (
      All-push (IsWholeBin g.B.Ord.cmp (bins_of all) c.args.outstanding.now) (bins_of before) one c.loop-id.invariant.0 here,
      omega (arith, length-append (bins_of before) (one ∷ []), c.loop-id.invariant.1, longer),
    )

pub returns : goal.returns
returns g c =
    let all = iter_end deref_pair _ _ _ _ _ _ c.into_iter-id-iterator.ensures.into_iter_gives.0 c.loop-id.yielded_by c.in-None.is c.next.ensures.steps in
    (rw all.0 at c.loop-id.invariant).0
