use Rattle.rectangle_pack_c.proofs.Std.{◌≡◌, ◌==◌, ◌<◌, ◌∙◌, ℕ, true, false, List, length, map, AllPairs, Option, None, Some, arith, ap, refl, sym, nat_cmp, is_at, lookup, length-map}
use Rattle.std.specs.Option.{is_some}
use Rattle.std.proofs.lemmas.List.Kept.{AllPairs-filter}
use Rattle.rectangle_pack.specs.declared.session.command.Outstanding.{Outstanding}
use Rattle.rectangle_pack.proofs.lemmas.session.Keeps.{Some-bins_of, None-bins_of}
use Rattle.rectangle_pack_c.specs.Reading.{standing_in, standing_of}
use Rattle.rectangle_pack_c.proofs.standing.tell_standing.Goals as goal

absent : {X : Type 0} (o : Option X) → is_some o ≡ false → o ≡ None
absent None e = refl
absent (Some x) e = absurd cc

present : {X : Type 0} (o : Option X) → is_some o ≡ true → (x : X) × (o ≡ Some x)
present None e = absurd cc
present (Some x) e = (x, refl)

-- the numbers of those in a bin rise, as those of all do
rising_in : (bin : ℕ) (all : List (Outstanding ℕ ℕ)) → AllPairs (λ a b. a.number < b.number) all → AllPairs (λ a b. a.number < b.number) (standing_in bin all)
rising_in bin all rise = AllPairs-filter (λ (a b : Outstanding ℕ ℕ). a.number < b.number) (λ o. o.bin == bin) all rise

pub returns-then-not-contains_key-clause-told : goal.returns-then-not-contains_key-clause-told
returns-then-not-contains_key-clause-told c =
    let entries = c.bins.result.now.entries in
    let none = absent (lookup (is_at (nat_cmp c.args.bin)) entries) (sym c.contains_key.ensures ∙ c.if-not-contains_key.true) in
    rw (← c.bins.ensures.bins, None-bins_of (is_at (nat_cmp c.args.bin)) entries none) (refl, refl, refl)

pub returns-then-not-contains_key-clause-rising : goal.returns-then-not-contains_key-clause-rising
returns-then-not-contains_key-clause-rising c = rising_in c.args.bin c.args.session.now.outstanding c.bins.ensures.always.rising

pub returns-then-placements-there-clause-told : goal.returns-then-placements-there-clause-told
returns-then-placements-there-clause-told c =
    let entries = c.bins.result.now.entries in
    let (bin, found) = present (lookup (is_at (nat_cmp c.args.bin)) entries) (sym c.contains_key.ensures ∙ c.if-not-contains_key.false) in
    let there = standing_in c.args.bin c.args.session.now.outstanding in
    let many : c.standing_count-there.result ≡ length (map standing_of there) =
    c.standing_count-there.ensures ∙ ap (λ os. length (standing_in c.args.bin os)) c.outstanding-outstanding.ensures.outstanding
    ∙ sym (length-map there standing_of) in
    rw (← c.bins.ensures.bins, Some-bins_of (is_at (nat_cmp c.args.bin)) entries bin found) (record {
      counted = many;
      enough = λ fits. absurd (omega (arith, fits, many, c.if-placements-there.true));
      short = λ _. (refl, refl);
    })

pub returns-then-placements-there-clause-rising : goal.returns-then-placements-there-clause-rising
returns-then-placements-there-clause-rising c = rising_in c.args.bin c.args.session.now.outstanding c.bins.ensures.always.rising

pub returns-clause-told : goal.returns-clause-told
returns-clause-told c =
    let entries = c.bins.result.now.entries in
    let (bin, found) = present (lookup (is_at (nat_cmp c.args.bin)) entries) (sym c.contains_key.ensures ∙ c.if-not-contains_key.false) in
    let there = standing_in c.args.bin c.args.session.now.outstanding in
    let long = length-map there standing_of in
    let many : c.standing_count-there.result ≡ length (map standing_of there) =
    c.standing_count-there.ensures ∙ ap (λ os. length (standing_in c.args.bin os)) c.outstanding-outstanding.ensures.outstanding ∙ sym long in
    let told = rw c.outstanding-outstanding.ensures.outstanding at c.write_standing.ensures in
    rw (← c.bins.ensures.bins, Some-bins_of (is_at (nat_cmp c.args.bin)) entries bin found) (record {
      counted = many;
      enough = λ _. (refl, rw long told);
      short = λ less. absurd (omega (arith, less, many, c.if-placements-there.false));
    })

pub returns-clause-rising : goal.returns-clause-rising
returns-clause-rising c = rising_in c.args.bin c.args.session.now.outstanding c.bins.ensures.always.rising
