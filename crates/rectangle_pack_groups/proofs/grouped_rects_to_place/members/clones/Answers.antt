use Rattle.rectangle_pack_sections.proofs.Std.{◌≡◌, [], ◌∷◌, length-append, refl, sym, ◌∙◌, arith, Equal-is, Equal, All-push}
use Rattle.rectangle_pack_groups.proofs.grouped_rects_to_place.members.clones.Goals as goal

pub loop-preserved : goal.loop-preserved
loop-preserved g c =
    let id = c.args.id.now in
    let x = c.in_ok-clone.field-0 in
    let old = c.loop.all.items in
    let items = c.push_reserved.ensures.items in
    let same : g.Id.Ord.cmp id x ≡ Equal = (Equal-is _).0 (sym (g.met.Id.Ord.matches_eq _ _) ∙ c.requires.ids _ _ c.in_ok-clone.ensures.cases) in
    record {
      count = rw (items, length-append old (x ∷ []), c.loop.invariant.count) refl;
      room = omega (arith, c.loop.invariant.room, c.push_reserved.ensures.capacity);
      clones = rw items (All-push (λ y. g.Id.Ord.cmp id y ≡ Equal) old x c.loop.invariant.clones same);
    }
