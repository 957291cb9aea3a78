use Rattle.rectangle_pack_sections.proofs.Std.{refl, subst, IfOk-from_err, ◌≡◌, sym, ◌∙◌, Equal-is, Equal}
use Rattle.rectangle_pack_groups.specs.private.Multimaps.{HasRoom}
use Rattle.rectangle_pack_sections.proofs.lemmas.util.Maps.{is_at-back}
use Rattle.rectangle_pack_sections.proofs.lemmas.util.Results.{OnErr-given}
use Rattle.rectangle_pack_groups.proofs.lemmas.multimap.Mutual.{listed-both, some-appended}
use Rattle.rectangle_pack_groups.proofs.grouped_rects_to_place.exclusions.list_both.Goals as goal

pub returns-clause-added : goal.returns-clause-added
returns-clause-added g c =
    let same : g.K.Ord.cmp c.args.b c.in_ok-partner.partner ≡ Equal =
    (Equal-is _).0 (sym (g.met.K.Ord.matches_eq _ _) ∙ c.requires.clones_equal _ _ c.in_ok-partner.ensures.cases) in
    listed-both g.met.K.Ord.total c.args.a c.args.b c.in_ok-partner.partner c.args.map.now.entries c.make_room-2.new.map.entries c.append_at.new.map.entries
    c.append_at-2.new.map.entries same (λ q. c.make_room-2.ensures.items q ∙ c.make_room.ensures.items q)
    c.append_at.ensures.here c.append_at.ensures.others c.append_at-2.ensures.here c.append_at-2.ensures.others

pub returns-clause-some : goal.returns-clause-some
returns-clause-some g c =
    some-appended g.met.K.Ord.total c.args.a c.args.b c.in_ok-partner.partner c.args.map.now.entries c.make_room.new.map.entries c.make_room-2.new.map.entries
    c.append_at.new.map.entries c.append_at-2.new.map.entries c.make_room.ensures.others c.make_room-2.ensures.others c.append_at.ensures.here
    c.append_at.ensures.others c.append_at-2.ensures.here c.append_at-2.ensures.others c.append_at-2.ensures.ordered c.requires.some

pub returns-in_err-partner : goal.returns-in_err-partner
returns-in_err-partner g c =
    let failed = c.from_residual.ensures.0 in
    record { added = IfOk-from_err _ _ failed; some = IfOk-from_err _ _ failed; kept = OnErr-given _ refl }

pub returns-in_err-make_room : goal.returns-in_err-make_room
returns-in_err-make_room g c =
    let failed = c.from_residual-in_err-make_room.ensures.0 in
    record { added = IfOk-from_err _ _ failed; some = IfOk-from_err _ _ failed; kept = OnErr-given _ c.make_room.ensures.kept }

pub returns-in_err-make_room-2 : goal.returns-in_err-make_room-2
returns-in_err-make_room-2 g c =
    let failed = c.from_residual-in_err-make_room-2.ensures.0 in
    let kept = c.make_room-2.ensures.kept ∙ c.make_room.ensures.kept in
    record { added = IfOk-from_err _ _ failed; some = IfOk-from_err _ _ failed; kept = OnErr-given _ kept }

pub make_room-requires : goal.make_room-requires
make_room-requires g c = record { clones_equal = c.requires.clones_equal }

pub make_room-requires-2 : goal.make_room-requires-2
make_room-requires-2 g c = record { clones_equal = c.requires.clones_equal }

pub append_at-requires : goal.append_at-requires
append_at-requires g c =
    let other = is_at-back g.met.K.Ord.total c.args.b c.args.a ∙ c.requires.different in
    record { room = subst (λ found. HasRoom found 1) (sym (c.make_room-2.ensures.others c.args.a other)) c.in_ok-make_room.ensures.room }

pub append_at-requires-2 : goal.append_at-requires-2
append_at-requires-2 g c = record {
  room = subst (λ found. HasRoom found 1) (sym (c.append_at.ensures.others c.args.b c.requires.different)) c.in_ok-make_room-2.ensures.room;
}
