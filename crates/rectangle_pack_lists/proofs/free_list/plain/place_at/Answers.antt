use Rattle.std.proofs.Common.{le_of_lt, insert}
use Rattle.rectangle_pack_sections.proofs.Std.{◌-◌, length-remove, ℕ, suc, ◌≡◌, ◌≤◌, ◌<◌, ◌+◌, ◌∙◌, ◌++◌, ◌∷◌, arith}
use Rattle.rectangle_pack_sections.proofs.Std.{ap, sym, subst, refl}
use Rattle.rectangle_pack_sections.proofs.Std.{List, length, take, drop, remove, get_or, split_at}
use Rattle.rectangle_pack_sections.proofs.Std.{take-append_seam, drop-append_seam}
use Rattle.rectangle_pack_sections.proofs.Std.{length-take-le, length-append}
use Rattle.rectangle_pack_lists.proofs.lemmas.trial.StepsByIndex.{IsStep-at}
use Rattle.rectangle_pack_lists.proofs.free_list.plain.place_at.Goals as goal

module _ {X : Type 0} where
  -- what is behind a list that is another
  appended : (removed kept more next : List X) → kept ≡ removed → next ≡ kept ++ more
      → next ≡ removed ++ more
  appended removed kept more next same is = is ∙ ap (λ xs. xs ++ more) same

  put_between : (before after : List X) (i : ℕ) (x : X) → length before ≡ i
      → insert (before ++ after) i x ≡ before ++ x ∷ after
  put_between before after i x long =
      rw (← long, take-append_seam before after, drop-append_seam before after) refl

  -- what is taken out, put back where it stood
  module _ (xs kept more next : List X) (i n m : ℕ) (x : X) (within : i < length xs) (read : x ≡ get_or xs i x) (same : kept ≡ remove xs i)
      (counted : n ≡ length kept) (all : m ≡ length next) (is : next ≡ kept ++ more) where
    put_back : insert (take (length next - (m - n)) next) i x ≡ xs
    put_back =
        let few : length next - (m - n) ≡ length kept = omega (arith, ap length is, length-append kept more) in
        rw (few, is, take-append_seam kept more, same)
        (put_between (take i xs) (drop (suc i) xs) i x (length-take-le i xs (le_of_lt within))
        ∙ sym (subst (λ t. xs ≡ take i xs ++ t ∷ drop (suc i) xs) (sym read) (split_at xs i x within)))

    stays_within : i + (m - n) ≤ length next
    stays_within = omega (arith, ap length is, length-append kept more, ap length same, length-remove xs i within)

pub returns-clause-step : goal.returns-clause-step
returns-clause-step g c =
    let s = c.remove-section.result in
    let m = c.args.member.now in
    let (cut, allowed, left) = c.place_in-location.ensures.pieces in
    rw c.place_in-location.ensures.location (IsStep-at _ c.args.sections.now.items m c.args.place s cut _ c.push_pieces.new.sections.items
    c.requires.place c.remove-section.ensures.value c.requires.holds c.requires.newest allowed left
    (appended _ _ _ _ c.remove-section.ensures.items c.push_pieces.ensures.items))
