-- What is asked of the judge, and what it answers.
use Rattle.rectangle_pack_sections.proofs.Std.{◌≡◌, ℕ, ◌+◌, ◌<◌, ◌^◌, ◌++◌, ◌∙◌, List, [], ◌∷◌, arith, ap, map, length, take, get_or, take_more, length-take-le, map_push, length-map, Option, Some, None}
use Rattle.std.specs.List.{enumerate_from}
use Rattle.std.proofs.lemmas.List.FromFn.{length-enumerate_from}
use Rattle.rectangle_pack.specs.declared.judge.Fault.{Fault}
use Rattle.rectangle_pack.specs.declared.judge.Fault.TheVariants.{Alone, Together, NotPlaced}
use Rattle.rectangle_pack_c.specs.declared.RpBin.{RpBin}
use Rattle.rectangle_pack_c.specs.declared.collection.RpExclusion.{RpExclusion}
use Rattle.rectangle_pack_c.specs.declared.judging.RpEntry.{RpEntry}
use Rattle.rectangle_pack_c.specs.declared.judging.RpClaim.{RpClaim}
use Rattle.rectangle_pack_overlaps.proofs.lemmas.Places.{place_within}
use Rattle.rectangle_pack_c.proofs.CollectedLemmas.{enumerate_last}
use Rattle.rectangle_pack_c.specs.Judging.{IsVerdictOf, claim_of, entries_of, entry_of}
use Rattle.rectangle_pack_c.specs.private.Short.{AreShort}

pub entries_of-more : (entries : List RpEntry) (i : ℕ) (d : RpEntry) → i < length entries
    → entries_of (take (i + 1) entries) ≡ entries_of (take i entries) ++ entry_of i (get_or entries i d) ∷ []
entries_of-more entries i d within =
    let long : i ≡ 0 + length (take i entries) = omega (arith, length-take-le i entries (omega arith)) in
    ap entries_of (take_more entries i d within) ∙ ap (map (λ e. entry_of e.0 e.1)) (enumerate_last 0 (take i entries) (get_or entries i d) i long)
    ∙ map_push (λ e. entry_of e.0 e.1) (enumerate_from 0 (take i entries)) (i, get_or entries i d)

pub AreShort-verdict : (bins : List RpBin) (entries : List RpEntry) (exclusions : List RpExclusion) (claims : List RpClaim) (found : Option Fault)
    → length entries < 2 ^ 32 → length claims < 2 ^ 32 → IsVerdictOf bins entries exclusions claims found → AreShort found
AreShort-verdict bins entries exclusions claims None few_entries few_claims h = tt
AreShort-verdict bins entries exclusions claims (Some (Alone claim fault)) few_entries few_claims h =
    let at = h.2.0 in
    omega (arith, place_within (map claim_of claims) claim at, length-map claims claim_of)
AreShort-verdict bins entries exclusions claims (Some (Together first second kind)) few_entries few_claims h =
    let at = h.2.0 in
    let clash = h.2.3 in
    let last : second < 2 ^ 32 = omega (arith, place_within (map claim_of claims) second at, length-map claims claim_of) in
    (omega (arith, last, at.place_is, place_within at.before first clash.at), last)
AreShort-verdict bins entries exclusions claims (Some (NotPlaced entry)) few_entries few_claims h =
    omega (arith, h.2.1, ap (λ l. length l) h.1.entries_are, length-map (enumerate_from 0 entries) (λ e. entry_of e.0 e.1), length-enumerate_from 0 entries)
