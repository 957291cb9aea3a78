use Rattle.std.proofs.lemmas.List.Filters.{dedup_is}
use Rattle.std.proofs.lemmas.List.Kept.{Contains-dedup, Contains-from_dedup}
use Rattle.std.proofs.lemmas.List.Sorted.{Contains-permutation, IsPermutation-sym}
use Rattle.rectangle_pack_bounds.proofs.lemmas.SameSizes.{sizes-equivalent, sizes-same}
use Rattle.rectangle_pack_bounds.proofs.least_bins.different.Goals as goal

pub returns : goal.returns
returns g c =
    let is = dedup_is _ _ _ c.dedup.ensures.filtered in
    let moved = rw c.in_ok-once.ensures.items at c.sort_unstable.ensures.permutation in
    λ s. (
      λ here. Contains-permutation _ _ s (IsPermutation-sym _ _ moved) (Contains-from_dedup _ _ s (rw is at here)),
      λ there. rw is (Contains-dedup sizes-equivalent sizes-same _ s (Contains-permutation _ _ s moved there)),
    )
