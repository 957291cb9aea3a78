use Rattle.rectangle_pack_sections.proofs.Std.{sym}
use Rattle.rectangle_pack.proofs.lemmas.session.Restoring.{boxes-written, boxes-inserted}
use Rattle.rectangle_pack.proofs.session.restoring.put_at.Goals as goal

pub returns-in_ok-push-in-Some : goal.returns-in_ok-push-in-Some
returns-in_ok-push-in-Some g c = λ q.
    let v = c.in-Some.pile.now in
    let w = c.push.new.self in
    let written = (c.get_mut.follows.holds w).0 in
    rw written (boxes-written g.met.B.Ord.total c.args.id c.args.piles.now.entries v w c.args.section (sym c.in-Some.ensures.value) c.in_ok-push-in-Some.ensures.items q)

pub returns-in_ok-insert-in-None : goal.returns-in_ok-insert-in-None
returns-in_ok-insert-in-None g c = λ q.
    let w = c.push-in-None.new.self in
    rw (c.in_ok-insert-in-None.ensures.entries, c.get_mut.follows.holds-at-none)
    (boxes-inserted g.met.B.Ord.total c.args.id c.args.piles.now.entries w c.args.section (sym c.in-None.ensures.value)
    (rw c.new-pile.ensures.items at c.in_ok-push-in-None.ensures.items) q)
