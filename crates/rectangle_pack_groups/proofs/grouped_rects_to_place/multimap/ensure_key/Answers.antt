use Rattle.rectangle_pack_sections.proofs.Std.{◌≡◌, List, Vec, lookup, is_at, insert_entry, sym, ◌∙◌, ap, Equal-is, Equal, IfOk-from_err}
use Rattle.rectangle_pack_sections.specs.Groups.{lists_of}
use Rattle.rectangle_pack_groups.specs.private.Multimaps.{filled, items_of}
use Rattle.rectangle_pack_groups.proofs.lemmas.multimap.Vectors.{filled-new_key, items-new_key, others-new_key, has-new_key}
use Rattle.rectangle_pack_groups.proofs.grouped_rects_to_place.multimap.ensure_key.Goals as goal

pub returns-in_err-insert : goal.returns-in_err-insert
returns-in_err-insert g c =
    let found = λ (q : g.row.K.Denot) (es : List (g.row.K.Denot × Vec g.row.T.Denot g.row.A.Denot)). lookup (is_at (g.K.Ord.cmp q)) es in
    let same : c.insert.new.self.entries ≡ c.args.map.now.entries = c.in_err-insert.ensures.err in
    record {
      kept = ap (λ es. filled (lists_of es)) same;
      items = λ q. ap (λ es. items_of (found q es)) same;
      others = λ q other. ap (found q) same;
      has = IfOk-from_err _ _ c.from_residual-in_err-insert.ensures.0;
    }

pub returns : goal.returns
returns g c =
    let o = g.met.K.Ord.total in
    let k = c.args.key.now in
    let n = c.in_ok-clone.field-0 in
    let old = c.args.map.now.entries in
    let new = c.insert.new.self.entries in
    let v = c.new.result in
    let put : new ≡ insert_entry g.K.Ord.cmp old n v = c.in_ok-insert.ensures.entries in
    let same : g.K.Ord.cmp k n ≡ Equal = (Equal-is _).0 (sym (g.met.K.Ord.matches_eq k n) ∙ c.requires.clones_equal k n c.in_ok-clone.ensures.cases) in
    let absent = sym c.contains_key.ensures ∙ c.if-contains_key.false in
    let seen = c.in_ok-insert.ensures.updates.0 in
    record {
      kept = ap (λ es. filled (lists_of es)) put ∙ filled-new_key o k n old old v same absent c.new.ensures.items;
      items = items-new_key o k n old new v same absent c.new.ensures.items seen;
      others = others-new_key o k n old new v same absent c.new.ensures.items seen;
      has = has-new_key o k n old new v same absent c.new.ensures.items seen;
    }
