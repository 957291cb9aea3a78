use Rattle.rectangle_pack_sections.proofs.Std.{◌≡◌, [], map, deref_pair, keys_of, MatchOption}
use Rattle.rectangle_pack.specs.Needed.{HasMostListed}
use Rattle.rectangle_pack.proofs.bound.apart.most_listed.Given as goal

abbrev pub invariant-loop-name : goal.invariant-loop-name
invariant-loop-name g l =
    MatchOption l.most (map deref_pair l.yielded ≡ []) (λ name. HasMostListed g.K.Ord.cmp l.exclusions (keys_of (map deref_pair l.yielded)) name.now)
