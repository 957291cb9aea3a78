-- Each rating that is tried can be used.
use Rattle.std.proofs.Common.{◌≡◌, ℕ, zero, suc, ◌*◌, ◌<◌, ◌≤◌, Bool, true, false, nat_le, List, [], ◌∷◌, ◌++◌, All, Contains, map, refl, arith}
use Rattle.std.proofs.lemmas.Bool.{both_ways}
use Rattle.std.proofs.lemmas.Bool.Decides.{nat_tests}
use Rattle.std.proofs.lemmas.List.Elements.{All-nil, All-cons, All-append, All-map, All-drop, All-weaker, All-contains_itself, All-same}
use Rattle.rectangle_pack_bounds.specs.declared.rating.Rating.{Rating}
use Rattle.rectangle_pack_bounds.specs.declared.rating.Rating.TheVariants.{Rounded, InParts, InPieces}
use Rattle.rectangle_pack_bounds.specs.Ratings.{IsUsable, AreTried, Effort, are_full, last_of}

-- an axis of length 0 is as short as each length
full_nowhere : (lengths : List ℕ) → are_full 0 lengths ≡ true
full_nowhere [] = refl
full_nowhere (l ∷ lengths) =
    let first : nat_le 0 l ≡ true = grind (arith, nat_tests) in
    rw first (full_nowhere lengths)

-- so one that is not full is not empty
pub not_full : (along : ℕ) (lengths : List ℕ) → are_full along lengths ≡ false → 0 < along
not_full zero lengths e = absurd (both_ways (are_full 0 lengths) e (full_nowhere lengths))
not_full (suc along) lengths e = omega arith

-- beside lengths as they are
beside_usable : (along : ℕ) (effort : Effort) (lengths rising : List ℕ) → are_full along lengths ≡ false
    → ((l : ℕ) → Contains rising l → (0 < l) × (2 * l ≤ along))
    → All (λ r. IsUsable r along) (Rounded 0 ∷ map InParts effort.parts ++ map Rounded (last_of effort.rounded rising) ++ map InPieces (last_of effort.pieces rising))
beside_usable along effort lengths rising e h =
    let usable = λ (r : Rating). IsUsable r along in
    let pos = not_full along lengths e in
    let low : All (λ l. (0 < l) × (2 * l ≤ along)) rising = All-weaker (Contains rising) (λ l. (0 < l) × (2 * l ≤ along)) h rising (All-contains_itself rising) in
    let halves : All (λ l. 2 * l ≤ along) rising = All-weaker (λ l. (0 < l) × (2 * l ≤ along)) (λ l. 2 * l ≤ along) (λ l q. q.1) rising low in
    let above : All (λ l. 0 < l) rising = All-weaker (λ l. (0 < l) × (2 * l ≤ along)) (λ l. 0 < l) (λ l q. q.0) rising low in
    let parts : All usable (map InParts effort.parts) = All-map usable InParts effort.parts (λ k d lt. pos) in
    let rounded : All usable (map Rounded (last_of effort.rounded rising)) = All-map usable Rounded (last_of effort.rounded rising) (All-drop (λ l. 2 * l ≤ along) _ rising halves) in
    let pieces : All usable (map InPieces (last_of effort.pieces rising)) = All-map usable InPieces (last_of effort.pieces rising) (All-drop (λ l. 0 < l) _ rising above) in
    All-cons usable (Rounded 0) _ (omega arith) (All-append usable _ _ (All-append usable _ _ parts rounded) pieces)

usable_if : (along : ℕ) (effort : Effort) (lengths : List ℕ) (ratings : List Rating) (t : AreTried effort along lengths ratings) (b : Bool)
    → are_full along lengths ≡ b → All (λ r. IsUsable r along) ratings
usable_if along effort lengths ratings t true e =
    All-same (λ r. IsUsable r along) ratings (Rounded 0 ∷ []) (rw e at t.are)
    (All-cons (λ r. IsUsable r along) (Rounded 0) [] (omega arith) (All-nil (λ r. IsUsable r along)))
usable_if along effort lengths ratings t false e =
    All-same (λ r. IsUsable r along) ratings _ (rw e at t.are) (beside_usable along effort lengths t.rising e (λ l h. let q = (t.listed l).0 h in (q.1, q.2)))

pub tried_usable : {effort : Effort} {lengths : List ℕ} (along : ℕ) (ratings : List Rating) → AreTried effort along lengths ratings → All (λ r. IsUsable r along) ratings
tried_usable {effort} {lengths} along ratings t = usable_if along effort lengths ratings t (are_full along lengths) refl
