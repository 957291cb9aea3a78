use Rattle.rectangle_pack_sections.proofs.Std.{◌≡◌, ap, ◌∙◌, arith, take, take-length, IfOk-from_err}
use Rattle.rectangle_pack_groups.specs.private.Multimaps.{times}
use Rattle.rectangle_pack_groups.proofs.lemmas.multimap.Append.{times-more_le, times-more_none, known-more}
use Rattle.rectangle_pack_groups.proofs.grouped_rects_to_place.multimap.ensure_keys.Goals as goal

pub returns-in_err-ensure_key : goal.returns-in_err-ensure_key
returns-in_err-ensure_key g c =
    let o = g.met.K.Ord.total in
    let i = c.loop-key.key-index in
    let at = c.key-item.is in
    let before = c.loop-key.invariant in
    let now = c.ensure_key.ensures in
    record {
      kept = now.kept ∙ before.kept;
      items = λ q. now.items q ∙ before.items q;
      others = λ q none.
          let le = times-more_le o c.args.keys.now i c.key-item.result q c.loop-key-test.true at in
          let none_yet = times-more_none o c.args.keys.now i c.key-item.result q c.loop-key-test.true at (omega (arith, le, none)) in
          now.others q none_yet.1 ∙ before.others q none_yet.0;
      has = IfOk-from_err _ _ c.from_residual.ensures.0;
    }

pub loop-key-preserved : goal.loop-key-preserved
loop-key-preserved g c =
    let o = g.met.K.Ord.total in
    let keys = c.args.keys.now in
    let i = c.loop-key.key-index in
    let k = c.key-item.result in
    let before = c.loop-key.invariant in
    let now = c.ensure_key.ensures in
    record {
      kept = now.kept ∙ before.kept;
      items = λ q. now.items q ∙ before.items q;
      others = λ q none.
          let none_yet = times-more_none o keys i k q c.loop-key-test.true c.key-item.is none in
          now.others q none_yet.1 ∙ before.others q none_yet.0;
      has = λ q. known-more o keys i k q c.loop-key-test.true c.key-item.is c.loop-key.map.entries c.ensure_key.new.map.entries
          c.in_ok-ensure_key.ensures.has (now.others q) (before.has q);
    }

pub returns : goal.returns
returns g c =
    let keys = c.args.keys.now in
    let before = c.loop-key.invariant in
    let all : take c.loop-key.key-index keys ≡ keys =
    ap (λ n. take n keys) (omega (arith, c.loop-key.auto.key-index-end, c.loop-key-test.false)) ∙ take-length keys in
    record {
      kept = before.kept;
      items = before.items;
      others = λ q none. before.others q (ap (λ ks. times g.K.Ord.cmp ks q) all ∙ none);
      has = λ q some. before.has q (omega (arith, ap (λ ks. times g.K.Ord.cmp ks q) all, some));
    }
