use Rattle.std.proofs.Common.{rules}
use Rattle.std.proofs.lemmas.Iterator.{YieldsList-from_slice, YieldsList-from_map, items_from_collect}
use Rattle.std.proofs.lemmas.Iterator.Consumers.{YieldsList-at}
use Rattle.rectangle_pack_sections.specs.Boxes.{Size, extent}
use Rattle.rectangle_pack_bounds.specs.Ratings.{rate_by}
use Rattle.rectangle_pack_bounds.proofs.rows.rated_row.Goals as goal

pub returns-clause-rated : goal.returns-clause-rated
returns-clause-rated g c =
    let rates = items_from_collect c.collect.result c.collect.ensures.ran
    (YieldsList-from_map _ (λ (s : Size). rate_by c.args.rating (extent c.args.axis c.args.fitting.now.bin) (extent c.args.axis s))
    (YieldsList-at c.map.ensures.source (YieldsList-from_slice c.args.fitting.now.sizes.items cc)) c.map.ensures.closure (λ x r q k. search rules)) in
    record {
      scale_is = rw c.extent-along.ensures at c.scale.ensures;
      rates_are = rw c.in_ok-rates.was at rates;
    }
