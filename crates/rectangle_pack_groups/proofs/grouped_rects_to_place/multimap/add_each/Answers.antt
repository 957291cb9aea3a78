use Rattle.rectangle_pack_sections.proofs.Std.{◌∙◌, ap, sym, get, is_at, IfOk-from_err, on_ok_weaker, on_err_weaker}
use Rattle.rectangle_pack_sections.specs.Groups.{lists_of}
use Rattle.rectangle_pack_groups.specs.private.Multimaps.{times, filled}
use Rattle.rectangle_pack_sections.proofs.lemmas.groups.Lists.{lookup-lists}
use Rattle.rectangle_pack_groups.proofs.lemmas.multimap.Append.{appended-named, appended-other}
use Rattle.rectangle_pack_sections.proofs.lemmas.util.Results.{OnErr-given}
use Rattle.rectangle_pack_groups.proofs.grouped_rects_to_place.multimap.add_each.Goals as goal

pub returns-clause-named : goal.returns-clause-named
returns-clause-named g c = on_ok_weaker c.append_each.result
    (λ appended q some.
    let cmp = g.K.Ord.cmp in
    rw (lookup-lists (is_at (cmp q)) c.args.map.now.entries, lookup-lists (is_at (cmp q)) c.append_each.new.map.entries)
    (appended-named c.args.items.items (times cmp c.args.keys.now q) (get cmp c.args.map.now q) (get cmp c.ensure_keys.new.map q)
    (get cmp c.append_each.new.map q)
    (c.in_ok-ensure_keys.ensures.items q) (c.in_ok-ensure_keys.ensures.has q some) (appended q)))
    c.append_each.ensures.appended

pub returns-clause-others : goal.returns-clause-others
returns-clause-others g c = on_ok_weaker c.append_each.result
    (λ appended q none.
    let cmp = g.K.Ord.cmp in
    lookup-lists (is_at (cmp q)) c.append_each.new.map.entries
    ∙ appended-other c.args.items.items (get cmp c.args.map.now q) (get cmp c.ensure_keys.new.map q) (get cmp c.append_each.new.map q)
    (c.in_ok-ensure_keys.ensures.others q none)
    (rw none at (appended q))
    ∙ sym (lookup-lists (is_at (cmp q)) c.args.map.now.entries))
    c.append_each.ensures.appended

pub append_each-requires : goal.append_each-requires
append_each-requires g c = record { known = c.in_ok-ensure_keys.ensures.has; enough = c.requires.enough }

pub returns-in_err-ensure_keys : goal.returns-in_err-ensure_keys
returns-in_err-ensure_keys g c =
    let failed = c.from_residual.ensures.0 in
    record {
      named = IfOk-from_err _ _ failed;
      others = IfOk-from_err _ _ failed;
      back = IfOk-from_err _ _ failed;
      kept = OnErr-given _ c.ensure_keys.ensures.kept;
      ordered = IfOk-from_err _ _ failed;
      lawful = g.met.K.Ord.total;
    }

pub returns-clause-back : goal.returns-clause-back
returns-clause-back g c = on_ok_weaker c.append_each.result
    (λ back. record { start = lists_of c.ensure_keys.new.map.entries; back = back; same = c.ensure_keys.ensures.kept })
    c.append_each.ensures.back

pub returns-clause-kept : goal.returns-clause-kept
returns-clause-kept g c = on_err_weaker c.append_each.result (λ kept. ap filled kept ∙ c.ensure_keys.ensures.kept) c.append_each.ensures.kept

pub returns-clause-ordered : goal.returns-clause-ordered
returns-clause-ordered g c = c.append_each.ensures.ordered

pub returns-clause-lawful : goal.returns-clause-lawful
returns-clause-lawful g c = g.met.K.Ord.total
