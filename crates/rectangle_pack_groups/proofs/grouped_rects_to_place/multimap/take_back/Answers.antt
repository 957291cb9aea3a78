use Rattle.rectangle_pack_sections.proofs.Std.{◌≡◌, arith, take-length, sym, ◌∙◌, ap, is_some, lookup, is_at}
use Rattle.rectangle_pack_sections.specs.Groups.{lists_of}
use Rattle.rectangle_pack_sections.proofs.lemmas.groups.Lists.{lookup-lists}
use Rattle.rectangle_pack_sections.proofs.lemmas.util.Maps.{is_some-option_map}
use Rattle.rectangle_pack_groups.proofs.lemmas.multimap.TakeBack.{reverse-take_last, TakesBack-known}
use Rattle.rectangle_pack_groups.proofs.grouped_rects_to_place.multimap.take_back.Goals as goal

pub take_last-requires : goal.take_last-requires
take_last-requires g c =
    let keys = c.args.keys.now in
    let k = c.index-keys-i.result in
    let test = is_at (g.K.Ord.cmp k) in
    let es = c.loop-i.map.entries in
    let (start, back) = c.loop-i.invariant.some in
    sym (ap is_some (lookup-lists test es) ∙ is_some-option_map (λ v. v.items) (lookup test es))
    ∙ TakesBack-known g.K.Ord.cmp k _ (lists_of es) start
    (rw (reverse-take_last keys c.loop-i.i k c.loop-i-test.true c.loop-i.auto.i c.index-keys-i.is) at back)

pub loop-i-init : goal.loop-i-init
loop-i-init g c = record { some = rw take-length c.requires; each = rw take-length (λ start back. back) }

pub loop-i-preserved : goal.loop-i-preserved
loop-i-preserved g c =
    let last = reverse-take_last c.args.keys.now c.loop-i.i c.index-keys-i.result c.loop-i-test.true c.loop-i.auto.i c.index-keys-i.is in
    let (first, known) = c.loop-i.invariant.some in
    let taken = rw last at known in
    record {
      some = (first, rw (c.take_last.ensures taken.0 taken.1 taken.2) taken.3);
      each = λ start back.
          let rest = rw last at (c.loop-i.invariant.each start back) in
          rw (c.take_last.ensures rest.0 rest.1 rest.2) rest.3;
    }

pub returns : goal.returns
returns g c = λ start back.
    let none : c.loop-i.i ≡ 0 = omega (arith, c.loop-i-test.false) in
    rw none at (c.loop-i.invariant.each start back)
