use Rattle.rectangle_pack_c.proofs.Std.{◌≡◌, List, map, arith, sym, ap, ◌∙◌, length-map, length-append, keys_of, [], ◌∷◌, ℕ, refl}
use Rattle.std.proofs.Common.{Bor}
use Rattle.std.specs.Map.Iter.{deref_pair}
use Rattle.std.proofs.lemmas.Map.Iter.{iter_turn, iter_end}
use Rattle.rectangle_pack_bins.proofs.lemmas.bins.Maps.{keys-bins}
use Rattle.rectangle_pack_c.proofs.LoopLemmas.{told_next}
use Rattle.rectangle_pack_c.proofs.reading.tell_bins.Goals as goal

pub loop-i-preserved : goal.loop-i-preserved
loop-i-preserved c =
    let turn = iter_turn deref_pair c.bins-bins.result.now.entries c.loop-i.yielded _ _ _ _ c.iter-id-items.ensures.rest c.loop-i.yielded_by _ c.in-Some.is
    c.next.ensures.steps in
    record {
      counted = omega (arith, c.loop-i.invariant.counted, length-append c.loop-i.yielded ((c.in-Some.id, c.in-Some.field-0-1) ∷ []));
      told = rw (c.loop-i.invariant.counted, c.loop-i.invariant.told)
          (told_next (λ e. e.0.now) c.loop-i.yielded (c.in-Some.id, c.in-Some.field-0-1) c.args.ids.now
          (omega (arith, turn.0, c.len.ensures.len, c.if-ids-len.false)));
    }

pub bounds-ids-i : goal.bounds-ids-i
bounds-ids-i c =
    let turn = iter_turn deref_pair c.bins-bins.result.now.entries c.loop-i.yielded _ _ _ _ c.iter-id-items.ensures.rest c.loop-i.yielded_by _ c.in-Some.is
    c.next.ensures.steps in
    omega (arith, turn.0, c.loop-i.invariant.counted, c.len.ensures.len, c.if-ids-len.false, c.loop-i.auto.ids)

-- the keys that a loop over a map has seen
seen_keys : {X : Type 0} (seen : List (Bor ℕ × Bor X)) → map (λ e. e.0.now) seen ≡ keys_of (map deref_pair seen)
seen_keys [] = refl
seen_keys (e ∷ seen) = ap (λ ks. e.0.now ∷ ks) (seen_keys seen)

pub returns-clause-told : goal.returns-clause-told
returns-clause-told c =
    let end = iter_end deref_pair _ _ _ _ _ _ c.iter-id-items.ensures.rest c.loop-i.yielded_by c.in-None.is c.next.ensures.steps in
    let entries = c.bins-bins.result.now.entries in
    let keys : keys_of c.args.session.now.bins ≡ map (λ e. e.0.now) c.loop-i.yielded =
    ap keys_of (sym c.bins-bins.ensures.bins) ∙ keys-bins entries ∙ sym (seen_keys c.loop-i.yielded ∙ ap keys_of end.0) in
    let as_many = length-map c.loop-i.yielded (λ e. e.0.now) in
    let many = as_many ∙ end.1 ∙ sym c.len.ensures.len in
    rw keys (record {
      counted = sym many;
      enough = λ _. (refl, rw as_many c.loop-i.invariant.told);
      short = λ less. absurd (omega (arith, less, many, c.if-ids-len.false));
    })

pub returns-then-ids-len-clause-told : goal.returns-then-ids-len-clause-told
returns-then-ids-len-clause-told c =
    let entries = c.bins-bins.result.now.entries in
    let keys : keys_of c.args.session.now.bins ≡ keys_of entries = ap keys_of (sym c.bins-bins.ensures.bins) ∙ keys-bins entries in
    let many = length-map entries (λ e. e.0) in
    rw keys (record {
      counted = c.len.ensures.len ∙ sym many;
      enough = λ fits. absurd (omega (arith, fits, many, c.len.ensures.len, c.if-ids-len.true));
      short = λ _. (refl, refl);
    })
