use Rattle.rectangle_pack_sections.proofs.Std.{◌∙◌, ap, IfOk-from_err}
use Rattle.rectangle_pack_groups.specs.private.Multimaps.{filled}
use Rattle.rectangle_pack_groups.proofs.grouped_rects_to_place.multimap.make_room.Goals as goal

pub reserve_at-requires : goal.reserve_at-requires
reserve_at-requires g c = record { has = c.in_ok-ensure_key.ensures.has }

pub returns-in_err-ensure_key : goal.returns-in_err-ensure_key
returns-in_err-ensure_key g c = record {
  kept = c.ensure_key.ensures.kept;
  items = c.ensure_key.ensures.items;
  others = c.ensure_key.ensures.others;
  room = IfOk-from_err _ _ c.from_residual.ensures.0;
}

pub returns : goal.returns
returns g c =
    let known = c.ensure_key.ensures in
    let roomier = c.reserve_at.ensures in
    record {
      kept = ap filled roomier.kept ∙ known.kept;
      items = λ q. roomier.items q ∙ known.items q;
      others = λ q other. roomier.others q other ∙ known.others q other;
      room = roomier.room;
    }
