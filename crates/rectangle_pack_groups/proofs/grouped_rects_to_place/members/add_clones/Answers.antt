use Rattle.rectangle_pack_sections.proofs.Std.{refl, sym, ◌∙◌, lookup, is_at, IfOk-from_err}
use Rattle.rectangle_pack_sections.specs.Groups.{lists_of}
use Rattle.rectangle_pack_groups.specs.private.Multimaps.{times}
use Rattle.rectangle_pack_sections.proofs.lemmas.util.Results.{OnErr-given}
use Rattle.rectangle_pack_groups.proofs.lemmas.multimap.Sized.{filled-all, Appends-from_added, CanTakeBack-whole, on_ok, on_err}
use Rattle.rectangle_pack_groups.proofs.grouped_rects_to_place.members.add_clones.Goals as goal

pub clones-requires : goal.clones-requires
clones-requires g c = record { ids = c.requires.ids }

pub add_each-requires-clause-clones_equal : goal.add_each-requires-clause-clones_equal
add_each-requires-clause-clones_equal g c = c.requires.clones_equal

pub add_each-requires-clause-enough : goal.add_each-requires-clause-enough
add_each-requires-clause-enough g c = c.in_ok-members.ensures.count

pub returns-in_err-members : goal.returns-in_err-members
returns-in_err-members g c =
    let failed = c.from_residual.ensures.0 in
    record {
      appended = IfOk-from_err _ _ failed;
      back = IfOk-from_err _ _ failed;
      kept = OnErr-given _ refl;
      ordered = IfOk-from_err _ _ failed;
      lawful = g.met.K.Ord.total;
    }

pub returns-then-is_err : goal.returns-then-is_err
returns-then-is_err g c =
    let kept = on_err _ c.add_each.result (sym c.is_err.ensures.value ∙ c.if-is_err.true) c.add_each.ensures.kept in
    record {
      appended = tt;
      back = tt;
      kept = c.forget_empty.ensures ∙ kept ∙ filled-all (lists_of c.args.groups.now.entries) c.requires.some;
      ordered = tt;
      lawful = g.met.K.Ord.total;
    }

pub returns : goal.returns
returns g c =
    let cmp = g.K.Ord.cmp in
    let keys = c.args.keys.now in
    let old = lists_of c.args.groups.now.entries in
    let new = lists_of c.add_each.new.map.entries in
    let fine = sym c.is_err.ensures.value ∙ c.if-is_err.false in
    let added = on_ok _ c.add_each.result fine c.add_each.ensures.named in
    record {
      appended = record {
        named = λ q some. Appends-from_added g.Id.Ord.cmp c.args.id.now c.in_ok-members.members.items c.in_ok-members.ensures.clones (times cmp keys q)
            (lookup (is_at (cmp q)) old) (lookup (is_at (cmp q)) new) (added q some);
        others = on_ok _ c.add_each.result fine c.add_each.ensures.others;
      };
      back = CanTakeBack-whole cmp keys new old c.requires.some (on_ok _ c.add_each.result fine c.add_each.ensures.back);
      kept = tt;
      ordered = on_ok _ c.add_each.result fine c.add_each.ensures.ordered;
      lawful = g.met.K.Ord.total;
    }
