use Rattle.rectangle_pack_sections.proofs.Std.{sym, ◌∙◌}
use Rattle.rectangle_pack_sections.specs.Groups.{lists_of}
use Rattle.rectangle_pack_groups.proofs.lemmas.multimap.Sized.{filled-all}
use Rattle.rectangle_pack_groups.proofs.lemmas.multimap.Mutual.{excluded-again, excluded-added, these-back}
use Rattle.rectangle_pack_sections.proofs.lemmas.groups.Excluded.{not-both}
use Rattle.rectangle_pack_groups.proofs.grouped_rects_to_place.exclusions.Exclusions.add.Goals as goal

pub returns-then-has-clause-ok : goal.returns-then-has-clause-ok
returns-then-has-clause-ok g c = excluded-again g.met.K.Ord.total c.args.self.now c.args.a c.args.b (sym c.has.ensures ∙ c.if-has.true)

pub invariant_of-self : goal.invariant_of-self
invariant_of-self g c =
    let added = c.in-Ok.ensures.added in
    (λ x y. added x y ∙ rw (c.self.invariant.0 x y, these-back g.met.K.Ord.total c.args.a c.args.b x y) (sym (added y x)), c.in-Ok.ensures.some)

pub invariant_of-self-in-Err : goal.invariant_of-self-in-Err
invariant_of-self-in-Err g c =
    rw (c.forget_empty.ensures ∙ c.in-Err.ensures.kept ∙ filled-all (lists_of c.self.inside.partners.entries) c.self.invariant.1) c.self.invariant

pub returns-in-Ok-clause-ok : goal.returns-in-Ok-clause-ok
returns-in-Ok-clause-ok g c = rw (← c.self.view_is)
    (excluded-added g.met.K.Ord.total (lists_of c.self.inside.partners.entries) (lists_of c.list_both.new.map.entries) c.args.a c.args.b c.in-Ok.ensures.added)

pub returns-in-Err-clause-err : goal.returns-in-Err-clause-err
returns-in-Err-clause-err g c =
    rw (c.forget_empty.ensures ∙ c.in-Err.ensures.kept ∙ filled-all (lists_of c.self.inside.partners.entries) c.self.invariant.1) c.self.view_is

pub list_both-requires : goal.list_both-requires
list_both-requires g c = record {
  clones_equal = c.requires.clones_equal;
  different = sym (g.met.K.Ord.matches_eq _ _) ∙ c.requires.different;
  some = c.self.invariant.1;
}

pub returns-in-Ok-clause-again : goal.returns-in-Ok-clause-again
returns-in-Ok-clause-again g c = λ there. not-both _ (sym c.has.ensures ∙ c.if-has.false) there

pub returns-in-Ok-clause-err : goal.returns-in-Ok-clause-err
returns-in-Ok-clause-err g c = tt

pub returns-in-Err-clause-ok : goal.returns-in-Err-clause-ok
returns-in-Err-clause-ok g c = tt

pub returns-in-Err-clause-again : goal.returns-in-Err-clause-again
returns-in-Err-clause-again g c = λ there. not-both _ (sym c.has.ensures ∙ c.if-has.false) there
