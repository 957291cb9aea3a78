-- What the outstanding boxes of a bin become with one more, and what they add up to with the free sections.
use Rattle.rectangle_pack_sections.proofs.Std.{◌≡◌, ℕ, suc, ◌+◌, ◌<◌, ◌≤◌, ◌^◌, List, [], ◌∷◌, ◌++◌, Bool, true, cond, length, take, drop, refl, ap, sym, subst, ◌∙◌}
use Rattle.rectangle_pack_sections.proofs.Std.{arith, get_or, append_assoc, Some, option_map, filter, Ordering, is_eq, lookup, is_at, split_at, length-append, length-take}
use Rattle.rectangle_pack_sections.proofs.Std.{length-map, take_more, filter-append, sum_by-cons, sum_by-append, length-filter, count_by-le-length}
use Rattle.rectangle_pack.specs.declared.session.command.Outstanding.{Outstanding}
use Rattle.rectangle_pack_sections.specs.Boxes.{Cuboid, has_cells, volume_of}
use Rattle.rectangle_pack_sections.specs.Bins.{Held, bins_of}
use Rattle.rectangle_pack_sections.specs.Counting.{total_volume}
use Rattle.rectangle_pack.specs.Session.{State, IsSession, outstanding_in}
use Rattle.rectangle_pack.specs.Stats.{stats_of}
use Rattle.rectangle_pack_sections.proofs.lemmas.cuts.CoverVolumes.{CoverBin-volume}
use Rattle.rectangle_pack.proofs.lemmas.session.Keeps.{Some-bins_of, outstanding_in-record}

total_volume-append : (xs ys : List Cuboid) → total_volume (xs ++ ys) ≡ total_volume xs + total_volume ys
total_volume-append xs ys = sum_by-append (λ (b : Cuboid). volume_of b.whd) xs ys

-- the volumes of a bin's free sections and of what stands in it add up to the bin's
pub IsSession-volumes : {Id B : Type 0} (bin_cmp : B → B → Ordering) (bins : List (B × Held)) (outstanding : List (Outstanding Id B))
    (next : ℕ) (id : B) (held : Held)
    → IsSession bin_cmp (record { bins = bins_of bins; outstanding = outstanding; next = next }) → Some held ≡ lookup (is_at (bin_cmp id)) bins
    → total_volume held.bin.sections + total_volume (outstanding_in bin_cmp outstanding id) ≡ volume_of held.bin.size
IsSession-volumes bin_cmp bins outstanding next id held h found =
    let boxes = outstanding_in bin_cmp outstanding id in
    omega (
      arith,
      total_volume-append held.bin.sections boxes,
      CoverBin-volume (held.bin.sections ++ boxes) held.bin.size (h.covered id held.bin (Some-bins_of (is_at (bin_cmp id)) bins held (sym found))),
    )

-- what is outstanding in the bin before a placement there leaves room for it, in volume and in number
pub outstanding-before : {Id B : Type 0} (bin_cmp : B → B → Ordering) (outstanding : List (Outstanding Id B)) (i : ℕ) (r : Outstanding Id B) (q : B)
    → i < length outstanding → r ≡ get_or outstanding i r → is_eq (bin_cmp r.bin q) ≡ true
    → (total_volume (outstanding_in bin_cmp (take i outstanding) q) + volume_of r.location.whd ≤ total_volume (outstanding_in bin_cmp outstanding q))
    × (length (outstanding_in bin_cmp (take i outstanding) q) < length outstanding)
outstanding-before {Id} {B} bin_cmp outstanding i r q within is here =
    let first = take i outstanding in
    let later = drop (suc i) outstanding in
    let before = outstanding_in bin_cmp first q in
    let after = outstanding_in bin_cmp later q in
    let split : outstanding ≡ first ++ r ∷ later = subst (λ (x : Outstanding Id B). outstanding ≡ first ++ x ∷ later) (sym is)
    (split_at outstanding i r within) in
    let parts = ap (λ rs. outstanding_in bin_cmp rs q) split ∙ outstanding_in-record bin_cmp first r later q true here in
    let Here : Outstanding Id B → Bool = λ x. is_at (bin_cmp x.bin) q in (
      omega (arith, ap total_volume parts, total_volume-append before (r.location ∷ after), sum_by-cons (λ (b : Cuboid). volume_of b.whd) r.location after),
      omega (
        arith,
        length-map (filter Here first) (λ (x : Outstanding Id B). x.location),
        length-filter Here first,
        count_by-le-length Here
            first,
        length-take i outstanding,
      ),
    )

-- one placement more, which is in the bin or is not
module _ {Id B : Type 0} (bin_cmp : B → B → Ordering) (outstanding : List (Outstanding Id B)) (i : ℕ) (r : Outstanding Id B) (q : B) (b : Bool)
    (within : i < length outstanding) (is : r ≡ get_or outstanding i r) (here : is_eq (bin_cmp r.bin q) ≡ b) where
  abbrev first : List Cuboid
  first = outstanding_in bin_cmp (take i outstanding) q

  abbrev box : List Cuboid
  box = cond b (r.location ∷ []) []

  outstanding_in-more : outstanding_in bin_cmp (take (i + 1) outstanding) q ≡ first ++ box
  outstanding_in-more =
      ap (λ rs. outstanding_in bin_cmp rs q) (take_more outstanding i r within ∙ ap (λ (x : Outstanding Id B). take i outstanding ++ x ∷ []) (sym is))
      ∙ outstanding_in-record bin_cmp (take i outstanding) r [] q b here

  -- its box is gathered after those before, if it has cells
  pub gathered-more : (start boxes new : List Cuboid) → boxes ≡ start ++ filter has_cells first → new ≡ boxes ++ filter has_cells box
      → new ≡ start ++ filter has_cells (outstanding_in bin_cmp (take (i + 1) outstanding) q)
  gathered-more start boxes new before now =
      now ∙ ap (λ l. l ++ filter has_cells box) before ∙ append_assoc start (filter has_cells first) (filter has_cells box)
      ∙ ap (λ l. start ++ l) (sym (filter-append has_cells first box) ∙ ap (filter has_cells) (sym outstanding_in-more))

  -- it adds its volume, and one placement
  pub added-more : (total_volume (outstanding_in bin_cmp (take (i + 1) outstanding) q) ≡ total_volume first + total_volume box)
      × (length (outstanding_in bin_cmp (take (i + 1) outstanding) q) ≡ length first + length box)
  added-more = (ap total_volume outstanding_in-more ∙ total_volume-append first box, ap length outstanding_in-more ∙ length-append first box)

-- each of two parts of a volume that fits has one that fits: the free sections, and what stands in the bin
pub free-fits : (now sections : List Cuboid) (placed whole volume : ℕ) → now ≡ sections → total_volume sections + placed ≡ whole → volume ≡ whole
    → volume < 2 ^ 128 → total_volume now < 2 ^ 128
free-fits now sections placed whole volume same parts is fits = rw same (omega (arith, parts, is, fits))

pub placed-fits : {Id B : Type 0} (bin_cmp : B → B → Ordering) (id : B) (now outstanding : List (Outstanding Id B)) (free whole volume : ℕ)
    → now ≡ outstanding → free + total_volume (outstanding_in bin_cmp outstanding id) ≡ whole → volume ≡ whole → volume < 2 ^ 128
    → total_volume (outstanding_in bin_cmp now id) < 2 ^ 128
placed-fits bin_cmp id now outstanding free whole volume same parts is fits = rw same (omega (arith, parts, is, fits))

-- and they add up to it
pub parts-whole : (free placed volume sections boxes whole : ℕ) → free ≡ sections → placed ≡ boxes → volume ≡ whole → sections + boxes ≡ whole
    → free + placed ≡ volume
parts-whole free placed volume sections boxes whole free_is placed_is is parts = omega arith

module _ {Id B : Type 0} (bin_cmp : B → B → Ordering) (bins : List (B × Held)) (was : List (Outstanding Id B)) (next : ℕ)
    (state : State Id B) (is : record { bins = bins_of bins; outstanding = was; next = next } ≡ state) (id : B) (held : Held)
    (found : Some held ≡ lookup (is_at (bin_cmp id)) bins) where
  -- the statistics of a bin that is there, from its parts
  pub stats-found : (volume : ℕ) (sections : List Cuboid) (free : ℕ) (outstanding : List (Outstanding Id B)) (placed count : ℕ)
      → volume ≡ volume_of held.bin.size → sections ≡ held.bin.sections → free ≡ total_volume sections → outstanding ≡ was
      → placed ≡ total_volume (outstanding_in bin_cmp outstanding id) → count ≡ length (outstanding_in bin_cmp outstanding id)
      → Some (record { bin_volume = volume; free_volume = free; placed_volume = placed; free_sections = length sections; placements = count })
      ≡ option_map (λ b. stats_of b (outstanding_in bin_cmp state.outstanding id)) (lookup (is_at (bin_cmp id)) state.bins)
  stats-found volume sections free outstanding placed count volume_is sections_are free_is outstanding_is placed_is count_is =
      rw (← is, Some-bins_of (is_at (bin_cmp id)) bins held (sym found), volume_is, free_is, placed_is, count_is, sections_are, outstanding_is) refl
