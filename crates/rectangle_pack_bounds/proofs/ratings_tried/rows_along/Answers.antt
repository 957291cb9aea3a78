use Rattle.rectangle_pack_bounds.proofs.lemmas.Usable.{tried_usable}
use Rattle.rectangle_pack_bounds.proofs.ratings_tried.rows_along.Goals as goal

pub rows-requires : goal.rows-requires
rows-requires g c = rw (c.deref.ensures.value) (tried_usable _ c.in_ok-ratings.ratings.items c.in_ok-ratings.ensures)
