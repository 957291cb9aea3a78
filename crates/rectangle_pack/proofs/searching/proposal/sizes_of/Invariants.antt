use Rattle.rectangle_pack_sections.proofs.Std.{All, IsSome, lookup, is_at, map, deref_pair}
use Rattle.rectangle_pack.specs.NeededLaws.{AreWaysOf}
use Rattle.rectangle_pack.proofs.searching.proposal.sizes_of.Given as goal

abbrev pub invariant-loop-id : goal.invariant-loop-id
invariant-loop-id g l =
    AreWaysOf g.Id.Ord.cmp l.groups l.turns.entries l.sizes.entries
    × All (λ e. IsSome (lookup (is_at (g.Id.Ord.cmp e.0)) l.sizes.entries)) (map deref_pair l.yielded)
