use Rattle.rectangle_pack_sections.proofs.Std.{◌≡◌, [], ◌++◌, ◌∷◌, refl, sym, ◌∙◌, true, rules, Equal-is, Equal, All-nil, IfOk-from_err, take_all}
use borrow.Author.Count.{falls}
use Rattle.rectangle_pack_packing.specs.declared.answer.Placement.{Placement}
use Rattle.rectangle_pack_packing.proofs.lemmas.packing.Groups.{AreNamed-more}
use Rattle.rectangle_pack_packing.proofs.lemmas.packing.Placed.{added-more}
use Rattle.rectangle_pack_packing.proofs.answer.name_all.Goals as goal

pub loop-i-init : goal.loop-i-init
loop-i-init g c = ([], record { named = tt; together = All-nil _; at = refl }, search rules)

pub loop-i-preserved : goal.loop-i-preserved
loop-i-preserved g c =
    let inv = c.loop-i.invariant in
    let same : g.Id.PartialEq.eq c.index-ids-i.result c.in_ok-clone.field-0 ≡ true = c.requires.ids _ _ c.in_ok-clone.ensures.cases in
    let equal : g.Id.Ord.cmp c.index-ids-i.result c.in_ok-clone.field-0 ≡ Equal = (Equal-is _).0 (sym (g.met.Id.Ord.matches_eq _ _) ∙ same) in
    let same_bin : g.B.PartialEq.eq c.args.bin.now c.in_ok-clone-2.field-0 ≡ true = c.requires.bin_ids _ _ c.in_ok-clone-2.ensures.cases in
    let equal_bin : g.B.Ord.cmp c.args.bin.now c.in_ok-clone-2.field-0 ≡ Equal = (Equal-is _).0 (sym (g.met.B.Ord.matches_eq _ _) ∙ same_bin) in
    let i = c.loop-i.i in
    let p : Placement g.row.Id.Denot g.row.B.Denot = record {
      id = c.in_ok-clone.field-0;
      bin = c.in_ok-clone-2.field-0;
      location = c.index-locations-i.result;
    } in (
      inv.0 ++ p ∷ [],
      AreNamed-more g.Id.Ord.cmp g.B.Ord.cmp c.args.ids.now c.args.bin.now c.args.locations.now i c.index-ids-i.result c.in_ok-clone.field-0
          c.in_ok-clone-2.field-0 c.index-locations-i.result inv.0
          c.loop-i-test.true (rw (← c.requires.lengths) c.loop-i-test.true) c.index-ids-i.is c.index-locations-i.is equal equal_bin inv.1,
      added-more c.args.placements.now.items inv.0 c.loop-i.placements.items c.push.new.self.items p inv.2 c.in_ok-push.ensures.items,
    )

pub bounds-locations-i : goal.bounds-locations-i
bounds-locations-i g c = rw (← c.requires.lengths) c.loop-i-test.true

pub returns-in_err-clone : goal.returns-in_err-clone
returns-in_err-clone g c = IfOk-from_err _ _ c.from_residual.ensures.0

pub returns-in_err-clone-2 : goal.returns-in_err-clone-2
returns-in_err-clone-2 g c = IfOk-from_err _ _ c.from_residual-in_err-clone-2.ensures.0

pub returns-in_err-push : goal.returns-in_err-push
returns-in_err-push g c = IfOk-from_err _ _ c.from_residual-in_err-push.ensures.0

pub loop-i-smaller : goal.loop-i-smaller
loop-i-smaller g c = falls _ c.loop-i.i c.loop-i-test.true

pub returns : goal.returns
returns g c =
    let (added, named, items) = c.loop-i.invariant in
    let i = c.loop-i.i in
    let past = c.loop-i-test.false in
    (added, rw (take_all i c.args.ids.now past, take_all i c.args.locations.now (rw (← c.requires.lengths) past)) at named, items)
