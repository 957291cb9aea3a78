use Rattle.rectangle_pack_sections.proofs.Std.{rules, All-nil}
use Rattle.rectangle_pack.proofs.session.Session.new.Goals as goal

pub invariant_of-result : goal.invariant_of-result
invariant_of-result g c = rw (c.new.ensures.empty, c.new-2.ensures.items) record {
  covered = λ id bin found. absurd cc;
  from_cuts = λ id bin found fresh. absurd cc;
  known = All-nil _;
  rising = search rules;
  below = All-nil _;
}
