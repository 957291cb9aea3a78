use Rattle.rectangle_pack_sections.proofs.Std.{◌≡◌, refl, Equal, IfOk-from_err, tied_back}
use Rattle.rectangle_pack_groups.proofs.lemmas.multimap.Vectors.{one_item}
use Rattle.rectangle_pack_sections.proofs.lemmas.util.Results.{OnErr-given}
use Rattle.rectangle_pack_groups.proofs.grouped_rects_to_place.members.put_alone.Goals as goal

pub clones-requires : goal.clones-requires
clones-requires g c = record { ids = c.requires.ids }

pub returns-in_err-list : goal.returns-in_err-list
returns-in_err-list g c =
    let failed = c.from_residual.ensures.0 in
    record { put = IfOk-from_err _ _ failed; found = IfOk-from_err _ _ failed; before = IfOk-from_err _ _ failed; kept = OnErr-given _ refl; ordered = IfOk-from_err _ _ failed }

pub returns-in_err-insert : goal.returns-in_err-insert
returns-in_err-insert g c =
    let failed = c.from_residual-in_err-insert.ensures.0 in
    record {
      put = IfOk-from_err _ _ failed;
      found = IfOk-from_err _ _ failed;
      before = IfOk-from_err _ _ failed;
      kept = OnErr-given _ c.in_err-insert.ensures.err;
      ordered = IfOk-from_err _ _ failed;
    }

pub returns : goal.returns
returns g c =
    let list = c.in_ok-list.list in
    let one = one_item (λ x. g.Id.Ord.cmp c.args.id.now x ≡ Equal) list.items c.in_ok-list.ensures.count c.in_ok-list.ensures.clones in
    record {
      put = record { list = list; member = one.0; equal = one.1; alone = one.2; put = c.in_ok-insert.ensures.entries };
      found = λ q same. rw (c.in_ok-insert.ensures.updates.0 q, tied_back g.met.K.Ord.total q c.args.key same) refl;
      before = c.in_ok-insert.ensures.old;
      kept = tt;
      ordered = c.in_ok-insert.ensures.was_ordered;
    }
