use Rattle.rectangle_pack_sections.proofs.Std.{◌<◌, ◌≡◌, [], ◌∷◌, ◌++◌, sym, ap, ◌∙◌, subst, rules, append-nil, append_assoc, map-append}
use Rattle.rectangle_pack_sections.specs.Boxes.{IsPartOf}
use Rattle.rectangle_pack_sections.proofs.lemmas.cuts.Axes.{IsPartOf-refl, IsPartOf-trans}
use Rattle.rectangle_pack_plans.specs.CuttingAnew.{AreStripsRound, cut_from}
use Rattle.rectangle_pack_plans.proofs.lemmas.cut_plan.Filling.{FitsU32-part}
use Rattle.rectangle_pack_plans.proofs.lemmas.cut_anew.Strips.{rest-within, rest-holds, rest-less, AreStripsRound-strips, girth}
use Rattle.rectangle_pack_plans.proofs.cut_anew.strips.cut_strips.Goals as goal

pub loop-rest-init : goal.loop-rest-init
loop-rest-init g c = record {
  strips = [];
  free = sym (append-nil c.args.free.now.items);
  within = IsPartOf-refl c.args.room.now;
  holds = c.requires.inside;
  round = λ more h. h;
}

pub thickest_side-side-requires-clause-fits : goal.thickest_side-side-requires-clause-fits
thickest_side-side-requires-clause-fits g c = FitsU32-part c.loop-rest.rest c.args.room.now c.loop-rest.invariant.within c.requires.fits

pub thickest_side-side-requires-clause-inside : goal.thickest_side-side-requires-clause-inside
thickest_side-side-requires-clause-inside g c = c.loop-rest.invariant.holds

pub loop-rest-smaller : goal.loop-rest-smaller
loop-rest-smaller g c = subst (λ b. girth b < girth c.loop-rest.rest) (sym c.cut_off-strip.ensures.rest)
    (rest-less c.loop-rest.rest c.args.bounds.now c.loop-rest.invariant.holds c.thickest_side-side.result c.thickest_side-side.ensures.some)

pub loop-rest-preserved : goal.loop-rest-preserved
loop-rest-preserved g c =
    let bounds = c.args.bounds.now in
    let room = c.args.room.now in
    let was = c.loop-rest.rest in
    let side = c.thickest_side-side.result in
    let strip = c.cut_off-strip.result.0 in
    let strips = c.loop-rest.invariant.strips in
    let rest = sym c.cut_off-strip.ensures.rest in
    record {
      strips = strips ++ strip ∷ [];
      free = (c.in_ok-push.ensures {u = tt}).items ∙ ap (λ l. l ++ cut_from room (strip ∷ [])) c.loop-rest.invariant.free
          ∙ append_assoc c.args.free.now.items (cut_from room strips) (cut_from room (strip ∷ []))
          ∙ ap (λ l. c.args.free.now.items ++ l) (sym (map-append (λ s. record { section = s; room = room }) strips (strip ∷ [])));
      within = subst (λ b. IsPartOf b c.args.room.now) rest
          (IsPartOf-trans _ was c.args.room.now (rest-within was bounds c.loop-rest.invariant.holds side) c.loop-rest.invariant.within);
      holds = subst (IsPartOf bounds) rest (rest-holds was bounds c.loop-rest.invariant.holds side);
      round = λ more h. subst (AreStripsRound bounds c.args.room.now) (sym (append_assoc strips (strip ∷ []) more))
          (c.loop-rest.invariant.round (strip ∷ more)
          (side, c.thickest_side-side.ensures, c.cut_off-strip.ensures.strip, subst (λ b. AreStripsRound bounds b more) c.cut_off-strip.ensures.rest h));
    }

pub returns : goal.returns
returns g c =
    let same : c.loop-rest.rest ≡ c.args.bounds.now = search rules in
    let strips = c.loop-rest.invariant.strips in
    let round : AreStripsRound c.args.bounds.now c.args.room.now strips =
    subst (AreStripsRound c.args.bounds.now c.args.room.now) (append-nil strips) (c.loop-rest.invariant.round [] same) in
    (strips, c.loop-rest.invariant.free, round, AreStripsRound-strips c.args.bounds.now c.args.room.now strips c.requires.inside c.requires.cells round)
