-- What a session answers to a packing, by what the packing on its bins did.
use Rattle.rectangle_pack_sections.proofs.Std.{◌≡◌, ℕ, ◌+◌, ◌-◌, ◌<◌, ◌^◌, List, [], ◌++◌, refl, ap, sym, ◌∙◌, subst, arith, true, length, append-nil}
use Rattle.rectangle_pack_sections.proofs.Std.{map, sum, values_of, Option, Some, MatchOption, Vec}
use Rattle.rectangle_pack_sections.proofs.Std.{Ordering, IsTotalOrder}
use Rattle.rectangle_pack_sections.specs.declared.group.Group.{Group}
use Rattle.rectangle_pack_sections.specs.Groups.{Collection, entries_of}
use Rattle.rectangle_pack_sections.specs.Bins.{Bin}
use Rattle.rectangle_pack_packing.specs.declared.answer.Placement.{Placement}
use Rattle.rectangle_pack_packing.specs.Packing.{Rules, PackingDone, PackingRefused}
use Rattle.rectangle_pack.specs.declared.session.command.Outstanding.{Outstanding}
use Rattle.rectangle_pack.specs.declared.session.command.Reply.TheVariants.{Packed}
use Rattle.rectangle_pack.specs.Session.{State, IsSession, numbered, Packs}
use Rattle.rectangle_pack_packing.proofs.lemmas.packing.Groups.{PackingDone-none}
use Rattle.rectangle_pack.proofs.lemmas.session.Keeps.{IsSession-done}

-- the number after those of the entries
module _ {Id G : Type 0} (all : Collection Id G) (lists : List (Group G Id × List Id)) (same : lists ≡ all.groups) (first next : ℕ)
    (is : next ≡ first + sum (map length (values_of lists))) where
  pub next-entries : next ≡ first + entries_of all
  next-entries = subst (λ (gs : List (Group G Id × List Id)). next ≡ first + sum (map length (values_of gs))) same is

  pub next-fits : next < 2 ^ 64 → first + entries_of all < 2 ^ 64
  next-fits fits = omega (arith, next-entries, fits)

-- the state of these bins, placements and next number
abbrev pub state : {Id B : Type 0} → List (B × Bin) → List (Outstanding Id B) → ℕ → State Id B
state bins outstanding next = record { bins = bins; outstanding = outstanding; next = next }

-- what is left as it was
pub unchanged : {Id B : Type 0} (bins now : List (B × Bin)) (outstanding later : List (Outstanding Id B)) (next : ℕ) → now ≡ bins → later ≡ outstanding
    → (old : State Id B) → state bins outstanding next ≡ old → state now later next ≡ old
unchanged bins now outstanding later next same_bins same_outstanding old is = rw (same_bins, same_outstanding) is

module _ {Id B G : Type 0} (group_cmp : Group G Id → Group G Id → Ordering) (rules : Rules Id B) (all : Collection Id G)
    (bins : List (B × Bin)) (outstanding : List (Outstanding Id B)) (first next : ℕ) (after : next ≡ first + entries_of all) where
  -- without groups a packing is done, and nothing is changed
  pub Packs-nothing : (old : State Id B) → state bins outstanding first ≡ old → next < 2 ^ 64 → all.groups ≡ []
      → Packs group_cmp rules all old (Packed (record { first = first; count = next - first })) old
  Packs-nothing old is fits none =
      let nothing : entries_of all ≡ 0 = ap (λ gs. sum (map length (values_of gs))) none in
      rw (← is) (
        subst (λ n. n < 2 ^ 64) after fits,
        record {
          placements = [];
          done = (PackingDone-none group_cmp rules all bins [] none refl).0;
          counted = sym nothing;
          first = refl;
          count = omega (arith, after);
          outstanding = sym (append-nil outstanding);
          next = omega (arith, nothing);
        },
      )

  -- a session stays one where a packing was tried and is done, and its placements stand behind the outstanding ones
  pub IsSession-tried : {A : Type 0} (now : List (B × Bin)) (later : List (Outstanding Id B)) (placed : Option (Vec (Placement Id B) A))
      → MatchOption placed ((left : List (B × Bin)) × PackingRefused group_cmp rules all bins left × (now ≡ bins))
      (λ made. (packed : List (B × Bin)) × PackingDone group_cmp rules all bins made.items packed × (length made.items ≡ entries_of all)
      × (true ≡ true → now ≡ packed))
      → (made : Vec (Placement Id B) A) → placed ≡ Some made → later ≡ outstanding ++ numbered first made.items → IsTotalOrder rules.bin_cmp
      → IsSession rules.bin_cmp (state bins outstanding first) → IsSession rules.bin_cmp (state now later next)
  IsSession-tried now later placed says made some added total h =
      let (packed, done, counted, same) = rw some at says in
      IsSession-done group_cmp rules total all bins now made.items outstanding later first next (rw (same refl) done) added
      (after ∙ ap (λ n. first + n) (sym counted)) h
