-- A request is obeyed where what its call answered is printed.
use Rattle.std.proofs.Common.{◌≡◌, List, [], ℕ, ◌-◌, length, drop, Option, Some, None, Result, Ok, Err, refl, sym, ◌∙◌, subst}
use Rattle.std.proofs.lemmas.Option.{none-some}
use Rattle.rectangle_pack.specs.declared.session.command.Outstanding.{Outstanding}
use Rattle.rectangle_pack.specs.declared.session.command.Packed.{Packed}
use Rattle.rectangle_pack.specs.declared.session.command.SessionError.{SessionError}
use Rattle.rectangle_pack.specs.declared.session.command.SessionError.TheVariants.{OutOfMemory}
use Rattle.packrun_lines.specs.Answers.{Answers, Replies, pack_text, found_text}
use Rattle.packrun_lines.specs.Ends.{Ended}
use Rattle.packrun_lines.specs.Lines.{packed_text, refusal_text, reply_text}
use Rattle.packrun_lines.specs.Requests.{Request}
use Rattle.packrun_lines.specs.Requests as asks
use Rattle.packrun_lines.specs.Store.{Name, Store, PacksBoxes}
use Rattle.packrun_lines.specs.private.Calls.{UnlessNoMemory}
use Rattle.packrun_lines.specs.private.Obeying.{IsObeyed, IsPackObeyed}
use Rattle.packrun_lines.specs.private.Printing.{Prints, PrintsAnswer}
use Rattle.packrun_lines.specs.declared.stop.Stop.{Stop}
use Rattle.packrun_lines.proofs.lemmas.Stores.{PacksBoxes-promised, made-last}

-- what a call makes unless memory is refused, it makes where a text answers
pub replied : (Changes : Store → Result (Unit {0}) SessionError → Store → Type 0) (r : Result (Unit {0}) SessionError) (old new : Store) (named text : List ℕ)
    → UnlessNoMemory Changes old r new → reply_text r named ≡ Some text → Changes old r new
replied Changes (Err OutOfMemory) old new named text p is = absurd (none-some text is)
replied Changes r old new named text p is = p

module _ (request : Request) (old new : Store) (before after : Option (List ℕ)) (r : Ended) where
  -- the text of the answer is printed, or there is none
  pub IsObeyed-printed : (answer : Option (List ℕ)) → ((text : List ℕ) → answer ≡ Some text → Answers request old text new)
      → PrintsAnswer before after r answer → IsObeyed request old before r new after
  IsObeyed-printed answer says p = by r answer says p
    where
      by : (r : Ended) (answer : Option (List ℕ)) → ((text : List ℕ) → answer ≡ Some text → Answers request old text new)
          → PrintsAnswer before after r answer → IsObeyed request old before r new after
      by (Ok done) (Some text) says p = (text, says text refl, p)
      by (Err stop) (Some text) says p = subst (λ (s : Stop). IsObeyed request old before (Err s) new after) (sym p.0) (text, says text refl, (refl, p.1))
      by r None says (is, kept) = subst (λ (s : Ended). IsObeyed request old before s new after) (sym is) kept

  -- what a call answers is told, and where it has a text, the call changes the store as the request asks
  pub IsObeyed-replied : (Changes : Store → Result (Unit {0}) SessionError → Store → Type 0) (answer : Result (Unit {0}) SessionError) (named told : List ℕ) → told ≡ named
      → ((text : List ℕ) → Replies Changes named old text new → Answers request old text new)
      → ((text : List ℕ) → reply_text answer named ≡ Some text → Changes old answer new)
      → PrintsAnswer before after r (reply_text answer told) → IsObeyed request old before r new after
  IsObeyed-replied Changes answer named told same says changes p =
      IsObeyed-printed (reply_text answer named) (λ text is. says text (answer, changes text is, is))
      (subst (λ n. PrintsAnswer before after r (reply_text answer n)) same p)

  -- what is found of a bin is told, or that there is none of this name
  pub IsObeyed-found : {X : Type 0} (show : X → List ℕ) (found there : Option X) (name : Name) → found ≡ there
      → ((text : List ℕ) → found_text show there name ≡ Some text → Answers request old text new)
      → PrintsAnswer before after r (found_text show found name) → IsObeyed request old before r new after
  IsObeyed-found show found there name same says p =
      IsObeyed-printed (found_text show there name) says (subst (λ o. PrintsAnswer before after r (found_text show o name)) same p)

module _ (old new : Store) (before after : Option (List ℕ)) (r : Ended) where
  -- boxes are packed, and the answer is printed
  IsPackObeyed-of : (answer : Result Packed SessionError) → PacksBoxes old answer new → PrintsAnswer before after r (pack_text old answer new)
      → IsPackObeyed old before r new after
  IsPackObeyed-of answer packs prints = record { answer = answer; packs = packs; promised = PacksBoxes-promised old answer new packs; prints = prints }

  -- the placements that a packing made, which are the last ones, are printed
  pub IsPackObeyed-done : (numbers : Packed) → PacksBoxes old (Ok numbers) new → (placements : List (Outstanding Name Name))
      → placements ≡ drop (length new.session.outstanding - numbers.count) new.session.outstanding
      → Prints before after r (packed_text placements) → IsPackObeyed old before r new after
  IsPackObeyed-done numbers packs placements last p =
      IsPackObeyed-of (Ok numbers) packs (subst (λ ps. Prints before after r (packed_text ps)) (last ∙ made-last old numbers new packs) p)

  -- or why it was refused
  pub IsPackObeyed-refused : (error : SessionError) → PacksBoxes old (Err error) new → PrintsAnswer before after r (refusal_text error [])
      → IsPackObeyed old before r new after
  IsPackObeyed-refused error packs p = IsPackObeyed-of (Err error) packs p

  -- so a request for a packing is obeyed
  pub IsObeyed-packed : IsPackObeyed old before r new after → IsObeyed asks.Pack old before r new after
  IsObeyed-packed p = IsObeyed-printed asks.Pack old new before after r (pack_text old p.answer new) (λ text is. (p.answer, p.packs, is)) p.prints
