use Rattle.rectangle_pack_c.proofs.Std.{rules}
use Rattle.rectangle_pack_c.proofs.SearchedLemmas.{refused_search}
use Rattle.rectangle_pack_c.proofs.finding.find_in.Goals as goal

pub returns-in_err-found-clause-refused : goal.returns-in_err-found-clause-refused
returns-in_err-found-clause-refused c =
    let options = c.options_of-options in
    let h = refused_search c.args.wanted.now.collection.now c.args.wanted.now.options.now c.in_ok-rects.rects c.in_ok-rects.ensures.collected
    options.result.turns.now.entries options.result.costs.now.entries options.result.may_leave options.ensures.may_leave c.in_err-found.field-0.0
    c.args.session.now c.find.new.session c.in_err-found.ensures.packed c.in_err-found.ensures.promise in
    search rules

pub returns-clause-found : goal.returns-clause-found
returns-clause-found c = record {
  all = c.in_ok-rects.rects;
  collected = c.in_ok-rects.ensures.collected;
  turns = c.in_ok-turns.turns.entries;
  turns_are = c.in_ok-turns.ensures;
  costs = c.in_ok-costs.costs.entries;
  costs_are = c.in_ok-costs.ensures;
  found = c.in_ok-found.found;
  packed = rw (c.options_of-options.ensures.may_leave, c.options_of-options.ensures.turns, c.options_of-options.ensures.costs) at
      c.in_ok-found.ensures.packed;
  promised = rw (c.options_of-options.ensures.may_leave, c.options_of-options.ensures.turns, c.options_of-options.ensures.costs) at
      c.in_ok-found.ensures.promise;
  used = c.told_of.ensures.used;
  least = c.told_of.ensures.least;
  optimal = c.told_of.ensures.optimal;
}
