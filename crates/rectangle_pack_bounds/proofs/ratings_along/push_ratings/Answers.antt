use Rattle.std.proofs.Common.{rules, map}
use Rattle.std.proofs.lemmas.Iterator.{YieldsList-from_slice, YieldsList-from_map}
use Rattle.std.proofs.lemmas.Iterator.Adapters.{items_from_extend}
use Rattle.std.proofs.lemmas.Iterator.Consumers.{YieldsList-at}
use Rattle.rectangle_pack_bounds.specs.declared.rating.Rating.TheVariants.{Rounded, InParts, InPieces}
use Rattle.rectangle_pack_bounds.proofs.lemmas.Items.{appended}
use Rattle.std.proofs.lemmas.Result.{on_ok_weaker}
use Rattle.rectangle_pack_bounds.proofs.ratings_along.push_ratings.Goals as goal

pub returns : goal.returns
returns g c =
    let first = items_from_extend c.extend.result c.extend.ensures.ran
    (YieldsList-from_map _ InParts (YieldsList-at c.map.ensures.source (YieldsList-from_slice c.args.effort.parts.now cc)) c.map.ensures.closure (λ x r q k. search rules)) in
    let second = items_from_extend c.extend-2.result c.extend-2.ensures.ran
    (YieldsList-from_map _ Rounded (YieldsList-at c.map-2.ensures.source (YieldsList-from_slice c.last-rounded.result.now cc)) c.map-2.ensures.closure (λ x r q k. search rules)) in
    let third = items_from_extend c.extend-3.result c.extend-3.ensures.ran
    (YieldsList-from_map _ InPieces (YieldsList-at c.map-3.ensures.source (YieldsList-from_slice c.last-pieces.result.now cc)) c.map-3.ensures.closure (λ x r q k. search rules)) in
    let one = rw c.in_ok-extend.was at first in
    let two = rw c.in_ok-extend-2.was at second in
    on_ok_weaker c.extend-3.result
    (λ h. rw (← c.last-rounded.ensures, ← c.last-pieces.ensures)
    (appended c.args.ratings.now.items (map InParts c.args.effort.parts.now) (map Rounded c.last-rounded.result.now) (map InPieces c.last-pieces.result.now) _ _ _ one.0 two.0 h.0)) third
