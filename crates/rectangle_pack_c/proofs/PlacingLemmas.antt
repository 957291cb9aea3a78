-- A box that is placed where it fits best: by closures that answer as a heuristic does, and what is written of it.
use Rattle.rectangle_pack_c.proofs.Std.{◌≡◌, ℕ, ◌-◌, List, [], ◌∷◌, ◌++◌, length, length-append, get_or, arith, refl, ap, sym, ◌∙◌, Option, Result}
use Rattle.std.proofs.Common.{Ok, Err}
use Rattle.std.specs.Ordering.{nat_cmp}
use Rattle.rectangle_pack_sections.specs.declared.box_size_heuristics.named.Heuristic.{Heuristic}
use Rattle.rectangle_pack.specs.declared.session.command.Outstanding.{Outstanding}
use Rattle.rectangle_pack.specs.declared.session.command.SessionError.{SessionError}
use Rattle.rectangle_pack.specs.declared.session.command.SessionError.TheVariants.{UnknownBin, NumbersUsedUp, NotEnoughBinSpace, OutOfMemory}
use Rattle.rectangle_pack.specs.Boxes.{Size, Cuboid}
use Rattle.rectangle_pack.specs.Closures.{Answers}
use Rattle.rectangle_pack.specs.Heuristics.{named_answers}
use Rattle.rectangle_pack.specs.Session.{State}
use Rattle.rectangle_pack.specs.PlacingBest.{PlacesBest}
use Rattle.rectangle_pack_sections.specs.Cuts.{placed}
use Rattle.rectangle_pack_packing.proofs.lemmas.determinism.Either.{Includes, step_more}
use Rattle.rectangle_pack_c.specs.declared.RpBox.{RpBox}
use Rattle.rectangle_pack_c.specs.Arguments.{box_size}
use Rattle.rectangle_pack_c.specs.Placing.{IsPlacedBest}
use Rattle.rectangle_pack_c.specs.Sessions.{record_of}
use Rattle.rectangle_pack_c.specs.private.Written.{as_outstanding}

module _ (may more : Answers) (includes : Includes may more) where
  -- a placing by some answers is one by more
  PlacesBest-more : (named : Option ℕ) (size : Size) (old new : State ℕ ℕ) (result : Result ℕ SessionError)
      → PlacesBest nat_cmp may named 0 size old result new → PlacesBest nat_cmp more named 0 size old result new
  PlacesBest-more named size old new (Ok number)
      (low, is, id, location, (bin, best, chosen, after, (fits, at, left, step, left_is), bins), outstanding, next) = (
        low,
        is,
        id,
        location,
        (bin, best, chosen, after, (fits, at, left, step_more may more includes (at.before ++ at.after ++ fits ∷ []) size location left 1 step, left_is), bins),
        outstanding,
        next,
      )
  PlacesBest-more named size old new (Err UnknownBin) h = h
  PlacesBest-more named size old new (Err NumbersUsedUp) h = h
  PlacesBest-more named size old new (Err NotEnoughBinSpace) h = h
  PlacesBest-more named size old new (Err OutOfMemory) h = h
  PlacesBest-more named size old new (Err error) h = absurd h

-- the same of the answers of a heuristic
pub PlacesBest-named : (may : Answers) (h : Heuristic) (named : Option ℕ) (size : Size) (old new : State ℕ ℕ) (result : Result ℕ SessionError)
    → PlacesBest nat_cmp may named 0 size old result new → Includes may (named_answers h)
    → PlacesBest nat_cmp (named_answers h) named 0 size old result new
PlacesBest-named may h named size old new result placed includes = PlacesBest-more may (named_answers h) includes named size old new result placed

-- what is written of a placement of a box of its size is its record
is_record : (b : RpBox) (r : Outstanding ℕ ℕ) → r.id ≡ 0 → r.location.whd ≡ box_size b → record_of 0 b (as_outstanding r) ≡ r
is_record b r id whd =
    ap (λ n. record { number = r.number; id = n; bin = r.bin; location = record r.location { whd = box_size b } }) (sym id)
    ∙ ap (λ s. record { number = r.number; id = r.id; bin = r.bin; location = record r.location { whd = s } }) (sym whd)

-- the last of a list
pub last_is : {X : Type 0} (ys xs : List X) (r d : X) → ys ≡ xs ++ r ∷ [] → get_or ys (length ys - 1) d ≡ r
last_is {X} ys xs r d e =
    let end : length ys - 1 ≡ length xs = omega (arith, ap length e, length-append xs (r ∷ [])) in
    rw (end, e) (at_end xs)
  where
    at_end : (xs : List X) → get_or (xs ++ r ∷ []) (length xs) d ≡ r
    at_end [] = refl
    at_end (x ∷ xs) = at_end xs

-- the last placement is that of the box
pub is_placed : (named : Option ℕ) (b : RpBox) (h : Heuristic) (old new : State ℕ ℕ) (number : ℕ) (last : Outstanding ℕ ℕ)
    → PlacesBest nat_cmp (named_answers h) named 0 (box_size b) old (Ok number) new
    → ((r : Outstanding ℕ ℕ) → new.outstanding ≡ old.outstanding ++ r ∷ [] → last ≡ r) → IsPlacedBest named b h (as_outstanding last) old new
is_placed named b h old new number last placed is_last =
    let (low, is, id, location, (bin, best, chosen, after, (fits, at, left, step, left_is), bins), outstanding, next) = placed in
    let r : Outstanding ℕ ℕ = record { number = number; id = 0; bin = id; location = location } in
    let same : last ≡ r = is_last r outstanding in
    rw same (record {
      placed = placed;
      written = rw (is_record b r refl (ap (λ (l : Cuboid). l.whd) step.location_is)) outstanding;
    })
