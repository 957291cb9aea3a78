use Rattle.rectangle_pack_c.proofs.Std.{ℕ, ◌≡◌, ◌+◌, ◌==◌, ◌∙◌, Bool, true, false, ap, arith, nat_tests, sym}
use Rattle.rectangle_pack.specs.declared.session.command.Outstanding.{Outstanding}
use Rattle.rectangle_pack_c.specs.Reading.{standing_of}
use Rattle.rectangle_pack_c.proofs.LoopLemmas.{kept_count, kept_more, kept_room, kept_same}
use Rattle.rectangle_pack_c.proofs.standing.write_standing.Goals as goal
use Rattle.rectangle_pack_c.proofs.standing.write_standing.Goals.{then-placement-bin, else-placement-bin}

-- whether a placement stands in the bin
abbrev is_in : (bin : ℕ) → Outstanding ℕ ℕ → Bool
is_in bin o = o.bin == bin

yes_in : (a b : ℕ) → a ≡ b → (a == b) ≡ true
yes_in a b same = grind (arith, nat_tests)

not_in : (a b : ℕ) → ¬ (a ≡ b) → (a == b) ≡ false
not_in a b other = grind (arith, nat_tests)

pub bounds-placements-written : goal.bounds-placements-written
bounds-placements-written c =
    let r = c.placement-item.result in
    omega (
      arith,
      c.loop-placement.invariant.many,
      kept_room standing_of (is_in c.args.bin) c.args.outstanding.now c.args.placements.now c.loop-placement.placement-index r c.loop-placement-test.true
          c.placement-item.is (yes_in r.bin c.args.bin c.if-placement-bin.true),
      c.requires.room,
      c.loop-placement.auto.placements,
    )

pub loop-placement-preserved : goal.loop-placement-preserved
loop-placement-preserved c =
    let r = c.placement-item.result in
    let i = c.loop-placement.placement-index in
    let outs = c.args.outstanding.now in
    let within = c.loop-placement-test.true in
    let p = is_in c.args.bin in
    elim c.if-placement-bin.branch [
      | then-placement-bin w ↦
          let passes = yes_in r.bin c.args.bin w.if-placement-bin.true in
          let more = kept_more standing_of p outs c.args.placements.now i r within c.placement-item.is passes c.requires.room in
          record {
            many = w.written-is ∙ ap (λ n. n + 1) c.loop-placement.invariant.many
                ∙ sym (kept_count standing_of p outs c.args.placements.now i r within c.placement-item.is passes);
            told = rw (w.placements-is, w.of.ensures, c.loop-placement.invariant.told, c.loop-placement.invariant.many) more;
          }
      | else-placement-bin w ↦
          let same = kept_same standing_of p outs c.args.placements.now i r within c.placement-item.is (not_in r.bin c.args.bin w.if-placement-bin.false) in
          rw (w.written-is, w.placements-is, same) c.loop-placement.invariant
    ]
