use Rattle.std.proofs.lemmas.Result.{err_from_is_err_and}
use Rattle.rectangle_pack_sections.proofs.Std.{◌≡◌, ℕ, ◌+◌, ◌-◌, ◌<◌, ◌≤◌, arith, refl, subst}
use Rattle.rectangle_pack_sections.specs.Closures.{answers}
use Rattle.rectangle_pack_packing.specs.Packing.{rules_by}
use Rattle.rectangle_pack.proofs.lemmas.session.Promise.{KeepsPromise-transition}
use Rattle.rectangle_pack.proofs.lemmas.session.Transitions.{IsRun-more, IsRun-all}
use Rattle.rectangle_pack.specs.Session.{IsSession}
use Rattle.rectangle_pack.proofs.session.Session.run.Goals as goal

-- all replies have room where none is there yet
has_all : (len capacity count : ℕ) → len ≡ 0 → count ≤ capacity → len + (count - 0) ≤ capacity
has_all len capacity count none room = omega arith

-- a reply has room where more commands wait
has_room : (len capacity count index : ℕ) → len + (count - index) ≤ capacity → index < count → len < capacity
has_room len capacity count index room more = omega arith

-- and those after it have room behind it
has_more : (len len' capacity capacity' count index : ℕ) → len + (count - index) ≤ capacity → index < count → len' ≡ len + 1 → capacity' ≡ capacity
    → len' + (count - (index + 1)) ≤ capacity'
has_more len len' capacity capacity' count index room more pushed same = omega arith

pub returns-in_err-replies : goal.returns-in_err-replies
returns-in_err-replies g c =
    let failed = err_from_is_err_and c.from_residual.result c.from_residual.ensures.1 in
    record { promise = rw failed.1 refl; always = subst (λ s. IsSession g.BinId.Ord.cmp s) c.self.view_is c.self.invariant }

pub loop-command-init : goal.loop-command-init
loop-command-init g c =
    let replies = c.in_ok-replies.ensures in
    record { ran = rw replies.items refl; always = subst (λ s. IsSession g.BinId.Ord.cmp s) c.self.view_is c.self.invariant; room = has_all _ _ _ replies.len replies.capacity }

pub loop-command-preserved : goal.loop-command-preserved
loop-command-preserved g c =
    let before = c.loop-command.invariant in
    let step = KeepsPromise-transition _ (rules_by g.Id.Ord.cmp g.BinId.Ord.cmp (answers g.H.Fn g.C.Fn c.args.heuristic.now c.args.comparison.now))
    g.met.BinId.Ord.total c.command-item.result c.loop-command.self c.obey.result c.obey.new.self before.always c.obey.ensures in
    record {
      ran = IsRun-more _ c.args.commands.now c.loop-command.command-index c.command-item.result c.args.self.now c.loop-command.self c.obey.new.self
          c.loop-command.replies.items c.push_reserved.new.self.items c.obey.result c.loop-command-test.true c.command-item.is before.ran step
          c.push_reserved.ensures.items;
      always = step.always;
      room = has_more _ _ _ _ _ _ before.room c.loop-command-test.true c.push_reserved.ensures.len c.push_reserved.ensures.capacity;
    }

pub returns-clause-promise : goal.returns-clause-promise
returns-clause-promise g c =
    IsRun-all _ c.args.commands.now c.loop-command.command-index c.args.self.now c.loop-command.self c.loop-command.replies.items
    c.loop-command-test.false c.loop-command.invariant.ran
