-- Lines that are read part by part.
use Rattle.std.proofs.Common.{◌≡◌, ◌≢◌, ℕ, ◌+◌, ◌-◌, ◌<◌, ◌≤◌, ◌⊎◌, inl, inr, nat_lt, ◌||◌, Bool, true, false, Option, Some, None, OnSome, List, ◌++◌, length, take, get_or, All, refl, sym, ap, ◌∙◌, subst, arith, length-take-le, length-append}
use Rattle.std.specs.Io.{StartsWith, StopsAt, IsEmptyOrEndsWith, appended_bytes}
use Rattle.std.specs.Io.KnownBytes.{Consumes, IsAtEnd}
use Rattle.std.specs.Io.BufRead.{ends_with_byte}
use Rattle.std.proofs.Transfers.{drop-appended, StopsAt-take, StopsAt-append, All-of_StopsAt}
use Rattle.std.proofs.BufReadLemmas.{zero_unless_positive}
use Rattle.std.proofs.KnownBytes.{starts_with_rest, Consumes-trans}
use Rattle.std.proofs.lemmas.List.Elements.{All-append}
use Rattle.std.proofs.lemmas.Bool.{cases_eq}
use Rattle.std.proofs.lemmas.List.{get_or_default, get_or-append-add}
use Rattle.packrun_lines.specs.private.Reading.{IsLineRead, IsPartRead, has_ended}

-- a part that ends no line has no line feed
pub no_line_feed : (part : List ℕ) → StopsAt part 10 → has_ended part ≡ false → All (λ b. b ≢ 10) part
no_line_feed part stops h =
    let some : length part ≢ 0 = grind arith in
    let last : get_or part (length part - 1) 0 ≢ 10 = grind arith in
    All-of_StopsAt part 10 (length part) (get_or part (length part - 1) 0) refl some (get_or_default part (length part - 1) 0 (get_or part (length part - 1) 0) (omega arith)) last stops

ends_line : (part : List ℕ) → has_ended part ≡ true → IsEmptyOrEndsWith part 10
ends_line part h some = grind arith

neither : (ended : Bool) (n : ℕ) → (ended || nat_lt 4096 n) ≡ false → (ended ≡ false) × (n ≤ 4096)
neither true n h = absurd (cc h)
neither false n h = (refl, grind arith)

one_of : (ended : Bool) (n : ℕ) → (ended || nat_lt 4096 n) ≡ true → n ≤ 4096 → ended ≡ true
one_of true n h fits = refl
one_of false n h fits = absurd (grind arith)

module _ (a b : Option (List ℕ)) (shown before after : List ℕ) (count : ℕ) (done : Bool) where
  pub IsPartRead-of : after ≡ before ++ take count shown → length before ≤ 4096 → count ≤ length shown → count ≤ 4097 - length before
      → (0 < 4097 - length before → 0 < length shown → 0 < count) → All (λ x. x ≢ 10) (take (count - 1) shown)
      → done ≡ (has_ended (take count shown) || nat_lt 4096 (length after))
      → Consumes a b (take count shown) × (length shown ≡ 0 → OnSome a (IsAtEnd b)) → IsPartRead a before after b done
  IsPartRead-of after_is short within limit some clean done_is (consumed, at_end) =
      let part_is : appended_bytes before after ≡ take count shown = drop-appended before after (take count shown) after_is in
      let stops : StopsAt (take count shown) 10 = StopsAt-take shown 10 count within clean in
      let count_is : length (take count shown) ≡ count = length-take-le count shown within in
      let long : length after ≡ length before + count = ap length after_is ∙ length-append before (take count shown) ∙ ap (λ n. length before + n) count_is in
      let none_of_two : done ≡ false → (has_ended (take count shown) ≡ false) × (length after ≤ 4096) = λ no. neither (has_ended (take count shown)) (length after) (sym done_is ∙ no) in
      let first_of_two : done ≡ true → length after ≤ 4096 → has_ended (take count shown) ≡ true = λ yes fits. one_of (has_ended (take count shown)) (length after) (sym done_is ∙ yes) fits in
      let no_more : length (appended_bytes before after) ≡ 0 → length shown ≡ 0 = λ none. zero_unless_positive (length shown) count (some (omega arith)) (omega (arith, count_is, ap length part_is)) in
      record {
        consumed = subst (Consumes a b) (sym part_is) consumed;
        stops = subst (λ p. StopsAt p 10) (sym part_is) stops;
        within = omega (arith, long, limit, short);
        goes_on = λ no. (subst (All (λ x. x ≢ 10)) (sym part_is) (no_line_feed (take count shown) stops (none_of_two no).0), (none_of_two no).1);
        ends = λ yes fits. subst (λ p. IsEmptyOrEndsWith p 10) (sym part_is) (ends_line (take count shown) (first_of_two yes fits));
        at_end = λ yes fits none. at_end (no_more none);
      }

-- a line whose last part ends with a line feed ends with it
ends_with-last : (got part : List ℕ) → length part ≢ 0 → get_or part (length part - 1) 0 ≡ 10 → ends_with_byte 10 (got ++ part) ≡ true
ends_with-last got part some last =
    let long = length-append got part in
    let here : get_or (got ++ part) (length (got ++ part) - 1) 0 ≡ 10 =
    ap (λ n. get_or (got ++ part) n 0) {y = length got + (length part - 1)} (omega (arith, long)) ∙ get_or-append-add got part (length part - 1) 0 ∙ last in
    grind (arith, long)

module _ (a b c : Option (List ℕ)) (got after : List ℕ) where
  whole_is : StartsWith after got → after ≡ got ++ appended_bytes got after
  whole_is begins = starts_with_rest after got begins

  pub consumed-more : Consumes a b got → StartsWith after got → (done : Bool) → IsPartRead b got after c done → Consumes a c after
  consumed-more before begins done part =
      subst (Consumes a c) (sym (whole_is begins)) (Consumes-trans a b c got (appended_bytes got after) before part.consumed)

  -- a line goes on
  pub goes_on-more : All (λ x. x ≢ 10) got → StartsWith after got → IsPartRead b got after c false → All (λ x. x ≢ 10) after
  goes_on-more clean begins part =
      subst (All (λ x. x ≢ 10)) (sym (whole_is begins)) (All-append (λ x. x ≢ 10) got (appended_bytes got after) clean (part.goes_on refl).0)

  -- a line is read
  pub IsLineRead-of : All (λ x. x ≢ 10) got → Consumes a b got → StartsWith after got → IsPartRead b got after c true → IsLineRead a after c
  IsLineRead-of clean before begins part = record {
    consumed = consumed-more before begins true part;
    stops = subst (λ l. StopsAt l 10) (sym (whole_is begins)) (StopsAt-append got (appended_bytes got after) 10 clean part.stops);
    within = part.within;
    whole = λ unended fits. at_end unended fits (cases_eq (length (appended_bytes got after)) 0);
  }
    where
      known : (x y : Option (List ℕ)) → Consumes x y got → OnSome y (IsAtEnd c) → OnSome x (IsAtEnd c)
      known None y before h = tt
      known (Some xs) None before h = absurd before
      known (Some xs) (Some ys) before h = h

      at_end : ends_with_byte 10 after ≡ false → length after ≤ 4096 → (length (appended_bytes got after) ≡ 0) ⊎ (length (appended_bytes got after) ≢ 0)
          → OnSome a (IsAtEnd c)
      at_end unended fits (inl none) = known a b before (part.at_end refl fits none)
      at_end unended fits (inr some) =
          let last : ends_with_byte 10 (got ++ appended_bytes got after) ≡ true = ends_with-last got (appended_bytes got after) some (part.ends refl fits (omega arith)) in
          absurd (cc (unended, ap (ends_with_byte 10) (whole_is begins), last))
