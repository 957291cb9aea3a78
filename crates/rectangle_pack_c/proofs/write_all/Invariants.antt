use Rattle.rectangle_pack_c.proofs.Std.{◌≡◌, ◌≢◌, ℕ, ◌<◌, All, get_or, Some, slice_get}
use Rattle.rectangle_pack.specs.declared.session.command.Outstanding.{Outstanding}
use Rattle.rectangle_pack_c.proofs.write_all.Given as goal

abbrev pub invariant-loop-placement : goal.invariant-loop-placement
invariant-loop-placement g l = record {
  written : (k : ℕ) → k < l.placement-index → (d : Outstanding ℕ ℕ)
      → slice_get l.placements (get_or l.outstanding k d).id ≡ Some (g.T.Written.written (get_or l.outstanding k d));
  others : (k : ℕ) → All (λ (o : Outstanding ℕ ℕ). o.id ≢ k) l.outstanding → slice_get l.placements k ≡ slice_get l.fn.placements k;
}
