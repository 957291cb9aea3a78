-- Summaries of stretches of places.
use Rattle.rectangle_pack_sections.proofs.Std.{◌≡◌, ◌≤◌, ◌<◌, ◌+◌, ◌*◌, ◌^◌, ◌≢◌, ℕ, List, [], ◌∷◌, ◌++◌, length, take, drop, set, get_or, refl, arith, inl}
use Rattle.rectangle_pack_sections.proofs.Std.{inr, length-append, length-drop, append-nil, Option, Some, None, lt_of_mul-lt-mul_right, length-set}
use Rattle.rectangle_pack_sections.proofs.Std.{get_or-append_seam, take-add, cases_order, drop-drop, get_or-drop, get_or_append_left, get_or-set_same}
use Rattle.rectangle_pack_sections.proofs.Std.{get_or-set_other, get_or-take, take_all, length-take-le, All, All-append, All-cons, All-nil, All-weaker, ◌⊎◌}
use Rattle.rectangle_pack_sections.specs.Boxes.{Cuboid, Size, Holds}
use Rattle.rectangle_pack_lists.specs.private.Places.{sections_of, NoneHolds}
use Rattle.rectangle_pack_lists.specs.private.Summaries.{IsWithin, Bounds, Sums, RulesOut, SumAll, HavePlaces, of_section, joined}
use Rattle.rectangle_pack_lists.specs.declared.gap_list.summary.Summary.{Summary}
use Rattle.rectangle_pack_lists.proofs.lemmas.trial.Places.{sections_of-append, length-sections_of}
use Rattle.rectangle_pack_lists.proofs.lemmas.util.Stretches.{stretch-ends, stretch-append, stretch-set, stretch-take}

-- a section within one of two summaries is within both joined
within-joined : (s t : Summary) (x : Cuboid) → IsWithin s x ⊎ IsWithin t x → IsWithin (joined s t) x
within-joined s t x p = record { wide = omega arith; high = omega arith; deep = omega arith; middle = omega arith; volume = omega arith }

-- the sections of two lists
Bounds-join : (a b : Summary) (s t : List Cuboid) → Bounds a s → Bounds b t → Bounds (joined a b) (s ++ t)
Bounds-join a b s t p q = record {
  count = omega (arith, p.count, q.count, length-append s t);
  within = All-append (IsWithin (joined a b)) _ _
      (All-weaker (IsWithin a) _ (λ x h. within-joined a b x (inl h)) _ p.within)
      (All-weaker (IsWithin b) _ (λ x h. within-joined a b x (inr h)) _ q.within);
}

-- one section more
pub Bounds-more : (s : Summary) (sections : List Cuboid) (x : Cuboid) → Bounds s sections → Bounds (joined s (of_section x.whd)) (sections ++ x ∷ [])
Bounds-more s sections x p =
    let whd = of_section x.whd in
    let within : IsWithin whd x = record { wide = omega arith; high = omega arith; deep = omega arith; middle = omega arith; volume = omega arith } in
    Bounds-join s whd sections (x ∷ []) p (record { count = refl; within = All-cons (IsWithin whd) x [] within (All-nil _) })

-- the places of two stretches
Sums-join : (a b : Summary) (s t : List (Option Cuboid)) → Sums a s → Sums b t → Sums (joined a b) (s ++ t)
Sums-join a b s t p q = rw (sections_of-append s t) (Bounds-join a b (sections_of s) (sections_of t) p q)

-- one place more, with a section
pub Sums-more : (s : Summary) (places : List (Option Cuboid)) (x : Cuboid) → Sums s places → Sums (joined s (of_section x.whd)) (places ++ Some x ∷ [])
Sums-more s places x p = rw (sections_of-append places (Some x ∷ [])) (Bounds-more s (sections_of places) x p)

-- a size that both rule out together, each rules out
pub RulesOut-joined : (a b : Summary) (size : Size) → RulesOut (joined a b) size → RulesOut a size × RulesOut b size
RulesOut-joined a b size out = (λ x within. out x (within-joined a b x (inl within)), λ x within. out x (within-joined a b x (inr within)))

-- no section that a summary bounds holds a size that it rules out
pub none-bounded : (s : Summary) (sections : List Cuboid) (size : Size) → Bounds s sections → RulesOut s size → All (λ x. ¬ Holds x size) sections
none-bounded s sections size p out = All-weaker (IsWithin s) (λ x. ¬ Holds x size) out sections p.within

-- one place more, a gap
pub Sums-empty : (s : Summary) (places : List (Option Cuboid)) → Sums s places → Sums s (places ++ None ∷ [])
Sums-empty s places p =
    let e = sections_of-append places (None ∷ []) in
    record {
      count = rw e (omega (arith, p.count, length-append (sections_of places) []));
      within = rw e (simp append-nil p.within);
    }

-- no section of a stretch holds a size that no section within its summary does
pub none-held : (s : Summary) (places : List (Option Cuboid)) (size : Size)
    → Sums s places → RulesOut s size → NoneHolds places size s.count
none-held s places size p out = record { none = none-bounded s (sections_of places) size p out; tests_are = p.count }

-- a place more, which completes no stretch
pub SumAll-same : (w : ℕ) (s : List (Option Cuboid)) (ss : List Summary) (x : Option Cuboid)
    → length s + 1 < length ss * w + w → SumAll w s ss → SumAll w (s ++ x ∷ []) ss
SumAll-same w s ss x h p = record {
  whole = omega (arith, p.whole, length-append s (x ∷ []));
  rest = omega (arith, length-append s (x ∷ []));
  each = λ k d lt. rw (stretch-append w (k * w) s (x ∷ []) (omega (arith, stretch-ends w k (length ss) lt, p.whole))) (p.each k d lt);
}

-- a place more, which completes a stretch
pub SumAll-more : (w : ℕ) (s : List (Option Cuboid)) (ss : List Summary) (x : Option Cuboid) (new : Summary)
    → length s + 1 ≡ length ss * w + w → Sums new (drop (length ss * w) (s ++ x ∷ [])) → SumAll w s ss → SumAll w (s ++ x ∷ []) (ss ++ new ∷ [])
SumAll-more w s ss x new h n p =
    let one : length (ss ++ new ∷ []) ≡ length ss + 1 = omega (arith, length-append ss (new ∷ [])) in
    let long : length (s ++ x ∷ []) ≡ length ss * w + w = omega (arith, length-append s (x ∷ [])) in
    let last : length (drop (length ss * w) (s ++ x ∷ [])) ≤ w = omega (arith, length-drop (length ss * w) (s ++ x ∷ [])) in
    record {
      whole = rw (one, long) (omega arith);
      rest = rw (one, long) (omega (arith, p.rest));
      each = λ k d lt. elim (cases_order k (length ss)) [
        | inl e ↦ rw (e, get_or-append_seam ss new [] d, take_all w (drop (length ss * w) (s ++ x ∷ [])) last) n
        | inr (inl below) ↦
            let before = stretch-append w (k * w) s (x ∷ []) (omega (arith, stretch-ends w k (length ss) below, p.whole)) in
            rw (get_or_append_left ss (new ∷ []) d k below, before) (p.each k d below)
        | inr (inr above) ↦ absurd (omega (arith, one))
      ];
    }

-- a place that is written, in no whole stretch
pub SumAll-out : (w : ℕ) (s : List (Option Cuboid)) (ss : List Summary) (i : ℕ) (v : Option Cuboid)
    → length ss * w ≤ i → SumAll w s ss → SumAll w (set s i v) ss
SumAll-out w s ss i v h p = record {
  whole = omega (arith, p.whole, length-set s i v);
  rest = omega (arith, p.rest, length-set s i v);
  each = λ k d lt. rw (stretch-set w (k * w) i s v (inr (omega (arith, stretch-ends w k (length ss) lt)))) (p.each k d lt);
}

-- a place that is written, with its stretch summed anew
pub SumAll-in : (w : ℕ) (s : List (Option Cuboid)) (ss : List Summary) (i q : ℕ) (v : Option Cuboid) (new : Summary)
    → q * w ≤ i → i < q * w + w → q < length ss → Sums new (take w (drop (q * w) (set s i v))) → SumAll w s ss → SumAll w (set s i v) (set ss q new)
SumAll-in w s ss i q v new from to in' n p = record {
  whole = rw (length-set ss q new, length-set s i v) p.whole;
  rest = rw (length-set ss q new, length-set s i v) p.rest;
  each = λ k d lt. elim (cases_order k q) [
    | inl e ↦ rw (e, get_or-set_same ss q new d in') n
    | inr (inl below) ↦
        let other : k ≢ q = omega arith in
        let before = stretch-set w (k * w) i s v (inr (omega (arith, stretch-ends w k q below))) in
        rw (get_or-set_other ss q k new d other, before) (p.each k d (omega arith))
    | inr (inr above) ↦
        let other : k ≢ q = omega arith in
        let beyond = stretch-set w (k * w) i s v (inl (omega (arith, stretch-ends w q k above))) in
        rw (get_or-set_other ss q k new d other, beyond) (p.each k d (omega (arith, length-set ss q new)))
  ];
}

-- the first places, with the summaries of their stretches
pub SumAll-take : (w : ℕ) (s : List (Option Cuboid)) (ss : List Summary) (m q : ℕ)
    → q * w ≤ m → m < q * w + w → m ≤ length s → SumAll w s ss → SumAll w (take m s) (take q ss)
SumAll-take w s ss m q from to in' p =
    let less : q * w < (length ss + 1) * w = omega (arith, p.rest) in
    let short = length-take-le q ss (omega (arith, lt_of_mul-lt-mul_right w less)) in
    let kept = length-take-le m s in' in
    record {
      whole = rw (short, kept) from;
      rest = rw (short, kept) to;
      each = λ k d lt.
          let below : k < q = omega (arith, short) in
          let first = stretch-take w (k * w) m s (omega (arith, stretch-ends w k q below)) in
          rw (get_or-take q ss k d below, first) (p.each k d (omega (arith, lt_of_mul-lt-mul_right w less)));
    }

-- the places of a block more
pub Sums-block : (summary : Summary) (places : List (Option Cuboid)) (blocks : List Summary) (i : ℕ) (d : Summary)
    → i < length blocks → SumAll 8 places blocks → Sums summary (take (i * 8) places) → Sums (joined summary (get_or blocks i d)) (take ((i + 1) * 8) places)
Sums-block summary places blocks i d h p so_far =
    let more : (i + 1) * 8 ≡ i * 8 + 8 = omega arith in
    rw (more, take-add (i * 8) 8 places) (Sums-join summary (get_or blocks i d) (take (i * 8) places) (take 8 (drop (i * 8) places)) so_far (p.each i d h))

-- and their number is below that of all places
pub count-block : (summary : Summary) (blocks : List Summary) (i : ℕ) (d : Summary) → i < length blocks → HavePlaces blocks
    → ((places : List (Option Cuboid)) → SumAll 8 places blocks → Sums summary (take (i * 8) places)) → summary.count + (get_or blocks i d).count < 2 ^ 64
count-block summary blocks i d h (places, few, p) so_far =
    let more = Sums-block summary places blocks i d h p (so_far places p) in
    let short = length-take-le ((i + 1) * 8) places (omega (arith, p.whole)) in
    omega (arith, more.count, length-sections_of (take ((i + 1) * 8) places), short, few, p.whole)

-- the places without those of the first blocks
SumAll-drop : (s : List (Option Cuboid)) (ss : List Summary) (q : ℕ) → q ≤ length ss → SumAll 8 s ss → SumAll 8 (drop (q * 8) s) (drop q ss)
SumAll-drop s ss q h p =
    let short = length-drop q ss in
    let left = length-drop (q * 8) s in
    record {
      whole = omega (arith, p.whole, short, left);
      rest = omega (arith, p.whole, p.rest, short, left);
      each = λ k d lt.
          let place : q * 8 + k * 8 ≡ (q + k) * 8 = omega arith in
          rw (get_or-drop q ss k d, drop-drop (k * 8) (q * 8) s, place) (p.each (q + k) d (omega (arith, short)));
    }

-- the places of so many blocks from a block on
SumAll-stretch : (s : List (Option Cuboid)) (ss : List Summary) (q n : ℕ)
    → q + n ≤ length ss → SumAll 8 s ss → SumAll 8 (take (n * 8) (drop (q * 8) s)) (take n (drop q ss))
SumAll-stretch s ss q n h p =
    let short : n * 8 ≤ length (drop (q * 8) s) = omega (arith, p.whole, length-drop (q * 8) s) in
    SumAll-take 8 (drop (q * 8) s) (drop q ss) (n * 8) n (omega arith) (omega arith) short (SumAll-drop s ss q (omega arith) p)

pub HavePlaces-stretch : (ss : List Summary) (q n : ℕ) → q + n ≤ length ss → HavePlaces ss → HavePlaces (take n (drop q ss))
HavePlaces-stretch ss q n h (s, few, p) =
    let fewer = length-take-le (n * 8) (drop (q * 8) s) (omega (arith, p.whole, length-drop (q * 8) s)) in
    (take (n * 8) (drop (q * 8) s), omega (arith, fewer, p.whole), SumAll-stretch s ss q n h p)

-- what sums the places of the eight blocks of a row sums the row
pub Sums-row : (s : List (Option Cuboid)) (blocks : List Summary) (r : ℕ) (new : Summary) → r * 8 + 8 ≤ length blocks → SumAll 8 s blocks
    → ((places : List (Option Cuboid)) → length places ≡ length (take 8 (drop (r * 8) blocks)) * 8
    → SumAll 8 places (take 8 (drop (r * 8) blocks)) → Sums new places)
    → Sums new (take 64 (drop (r * 64) s))
Sums-row s blocks r new h p sums =
    let place : r * 8 * 8 ≡ r * 64 = omega arith in
    let eight = length-take-le 8 (drop (r * 8) blocks) (omega (arith, length-drop (r * 8) blocks)) in
    let long = length-take-le 64 (drop (r * 64) s) (omega (arith, p.whole, length-drop (r * 64) s)) in
    sums (take 64 (drop (r * 64) s)) (omega (arith, eight, long)) (rw place at (SumAll-stretch s blocks (r * 8) 8 h p))

-- of the stretches that are summed so far, one more
pub summed-more : (w : ℕ) (s : List (Option Cuboid)) (ss : List Summary) (n : ℕ) (new : Summary)
    → length ss ≡ n → Sums new (take w (drop (n * w) s))
    → ((k : ℕ) (d : Summary) → k < n → Sums (get_or ss k d) (take w (drop (k * w) s)))
    → (k : ℕ) (d : Summary) → k < n + 1 → Sums (get_or (ss ++ new ∷ []) k d) (take w (drop (k * w) s))
summed-more w s ss n new count here each k d lt = elim (cases_order k n) [
  | inl e ↦ rw (e, ← count) (rw (get_or-append_seam ss new [] d, count) here)
  | inr (inl below) ↦
      let within : k < length ss = omega arith in
      rw (get_or_append_left ss (new ∷ []) d k within) (each k d below)
  | inr (inr above) ↦ absurd (omega arith)
]
