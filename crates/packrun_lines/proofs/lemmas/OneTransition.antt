-- The transitions of a session but packings have one result, where memory is not refused.
use Rattle.std.proofs.Common.{◌≡◌, ◌≢◌, ◌<◌, ℕ, suc, List, [], ◌∷◌, ◌++◌, Some, All, true, false, Bool, MatchBool, refl, ap, sym, ◌∙◌, subst, arith}
use Rattle.std.specs.List.{AllPairs}
use Rattle.std.specs.Map.{lookup, set_value}
use Rattle.std.specs.BTreeMap.{is_at, insert_entry}
use Rattle.std.specs.declared.cmp.Ordering.{Ordering}
use Rattle.std.proofs.lemmas.Map.Lookups.{CmpEqualImpliesEq}
use Rattle.rectangle_pack.specs.declared.session.command.Outstanding.{Outstanding}
use Rattle.rectangle_pack.specs.declared.session.command.Reply.{Reply}
use Rattle.rectangle_pack.specs.declared.session.command.Reply.TheVariants.{Done, Refused}
use Rattle.rectangle_pack.specs.declared.session.command.SessionError.TheVariants.{DuplicateBin, UnknownBin, UnknownPlacement}
use Rattle.rectangle_pack.specs.declared.session.command.SessionError.TheVariants.{OutOfMemory}
use Rattle.rectangle_pack.specs.Bins.{Bin, new_bin}
use Rattle.rectangle_pack.specs.Boxes.{Size, Cuboid, has_cells}
use Rattle.rectangle_pack.specs.Session.{State, IsSession, IsOutstanding, GivesBack, AddsBin, Releases, Coalesces}
use Rattle.rectangle_pack_sections.proofs.lemmas.util.Lists.{All-middle}

-- what a step makes of a state is one thing, where neither reply is want of memory
abbrev pub HasOneResult : {Id B : Type 0} → (State Id B → Reply → State Id B → Type 0) → State Id B → Type 0
HasOneResult {Id} {B} Step old = (reply other_reply : Reply) (new other : State Id B) → Step old reply new → Step old other_reply other
    → reply ≢ Refused OutOfMemory → other_reply ≢ Refused OutOfMemory → (reply ≡ other_reply) × (new ≡ other)

-- where numbers rise, a list is split in one way at a number
abbrev Rise : {Id B : Type 0} → List (Outstanding Id B) → Type 0
Rise rs = AllPairs (λ a b. a.number < b.number) rs

one_split : {Id B : Type 0} (before : List (Outstanding Id B)) (found : Outstanding Id B) (after others : List (Outstanding Id B)) (other : Outstanding Id B)
    (behind : List (Outstanding Id B)) → before ++ found ∷ after ≡ others ++ other ∷ behind → found.number ≡ other.number → Rise (before ++ found ∷ after)
    → (before ≡ others) × (found ≡ other) × (after ≡ behind)
one_split [] found after [] other behind same number rise = (refl, cc, cc)
one_split {Id} {B} [] found after (x ∷ others) other behind same number rise =
    let is : found ≡ x = cc in
    let rest : after ≡ others ++ other ∷ behind = cc in
    let above : All (λ (r : Outstanding Id B). found.number < r.number) after = λ k d lt. rise 0 (suc k) d (omega arith) (omega arith) in
    let later = All-middle (λ (r : Outstanding Id B). found.number < r.number) after others behind other rest above in
    absurd (omega arith)
one_split {Id} {B} (x ∷ before) found after [] other behind same number rise =
    let is : x ≡ other = cc in
    let above : All (λ (r : Outstanding Id B). x.number < r.number) (before ++ found ∷ after) = λ k d lt. rise 0 (suc k) d (omega arith) (omega arith) in
    let later = All-middle (λ (r : Outstanding Id B). x.number < r.number) (before ++ found ∷ after) before after found refl above in
    let same_number : x.number ≡ other.number = ap (λ (r : Outstanding Id B). r.number) is in
    absurd (omega arith)
one_split (x ∷ before) found after (y ∷ others) other behind same number rise =
    let (front, at, back) = one_split before found after others other behind (cc) number (λ i j d lt within. rise (suc i) (suc j) d (omega arith) (omega arith)) in
    let heads : x ≡ y = cc in
    (cc, at, back)

-- a box is given back in one way
GivesBack-one : {B : Type 0} (bin_cmp : B → B → Ordering) (old : List (B × Bin)) (id : B) (box : Cuboid) (new other : List (B × Bin)) → GivesBack bin_cmp old id box new
    → GivesBack bin_cmp old id box other → new ≡ other
GivesBack-one {B} bin_cmp old id box new other = by (has_cells box)
  where
    Gives : Bool → List (B × Bin) → Type 0
    Gives some bins = MatchBool some
        ((bin : Bin) × (lookup (is_at (bin_cmp id)) old ≡ Some bin)
        × (bins ≡ set_value (is_at (bin_cmp id)) old (record bin { sections = bin.sections ++ box ∷ [] })))
        (bins ≡ old)

    by : (some : Bool) → Gives some new → Gives some other → new ≡ other
    by true (bin, there, is) (other_bin, other_there, other_is) =
        let same : bin ≡ other_bin = cc in
        is ∙ ap (λ (b : Bin). set_value (is_at (bin_cmp id)) old (record b { sections = b.sections ++ box ∷ [] })) same ∙ sym other_is
    by false is other_is = is ∙ sym other_is

-- a number is outstanding, or none has it
not_outstanding : {Id B : Type 0} (number : ℕ) (outstanding : List (Outstanding Id B)) → IsOutstanding outstanding number → ¬ All (λ r. r.number ≢ number) outstanding
not_outstanding {Id} {B} number outstanding at none =
    All-middle (λ (r : Outstanding Id B). r.number ≢ number) outstanding at.before at.after at.found at.splits none at.number_is

module _ {Id B : Type 0} {bin_cmp : B → B → Ordering} (exact : CmpEqualImpliesEq bin_cmp) where
  pub AddsBin-one : (id : B) (size : Size) (old : State Id B) → HasOneResult (AddsBin bin_cmp id size) old
  AddsBin-one id size old Done Done new other (absent, key, equal, are) (_, other_key, other_equal, other_are) m n =
      let same : key ≡ other_key = sym (exact id key equal) ∙ exact id other_key other_equal in
      (refl, are ∙ ap (λ k. record old { bins = insert_entry bin_cmp old.bins k (new_bin size) }) same ∙ sym other_are)
  AddsBin-one id size old Done (Refused DuplicateBin) new other a b m n = absurd (cc (rw a.0 at b.0))
  AddsBin-one id size old (Refused DuplicateBin) Done new other a b m n = absurd (cc (rw b.0 at a.0))
  AddsBin-one id size old (Refused DuplicateBin) (Refused DuplicateBin) new other a b m n = (refl, a.1 ∙ sym b.1)
  AddsBin-one id size old r (Refused OutOfMemory) new other a b m n = absurd (n refl)
  AddsBin-one id size old Done r new other a b m n = absurd b
  AddsBin-one id size old (Refused DuplicateBin) r new other a b m n = absurd b
  AddsBin-one id size old (Refused OutOfMemory) r new other a b m n = absurd (m refl)
  AddsBin-one id size old s r new other a b m n = absurd a

  pub Releases-one : (number : ℕ) (old : State Id B) → IsSession bin_cmp old → HasOneResult (Releases bin_cmp number) old
  Releases-one number old h Done Done new other (at, gives, outstanding, next) (other_at, other_gives, other_outstanding, other_next) m n =
      let (front, found, back) = one_split at.before at.found at.after other_at.before other_at.found other_at.after (sym at.splits ∙ other_at.splits)
      (at.number_is ∙ sym other_at.number_is) (subst Rise at.splits h.rising) in
      let others : GivesBack bin_cmp old.bins at.found.bin at.found.location other.bins =
      subst (λ (r : Outstanding Id B). GivesBack bin_cmp old.bins r.bin r.location other.bins) (sym found) other_gives in
      let bins : new.bins ≡ other.bins = GivesBack-one bin_cmp old.bins at.found.bin at.found.location new.bins other.bins gives others in
      let left : new.outstanding ≡ other.outstanding = outstanding ∙ ap (λ rs. rs ++ at.after) front ∙ ap (λ rs. other_at.before ++ rs) back ∙ sym other_outstanding in
      let nexts : new.next ≡ other.next = next ∙ sym other_next in
      (refl, λ i. record { bins = bins i; outstanding = left i; next = nexts i })
  Releases-one number old h Done (Refused UnknownPlacement) new other a b m n = absurd (not_outstanding number old.outstanding a.0 b.0)
  Releases-one number old h (Refused UnknownPlacement) Done new other a b m n = absurd (not_outstanding number old.outstanding b.0 a.0)
  Releases-one number old h (Refused UnknownPlacement) (Refused UnknownPlacement) new other a b m n = (refl, a.1 ∙ sym b.1)
  Releases-one number old h r (Refused OutOfMemory) new other a b m n = absurd (n refl)
  Releases-one number old h Done r new other a b m n = absurd b
  Releases-one number old h (Refused UnknownPlacement) r new other a b m n = absurd b
  Releases-one number old h (Refused OutOfMemory) r new other a b m n = absurd (m refl)
  Releases-one number old h s r new other a b m n = absurd a

  pub Coalesces-one : (MayLeave : List Cuboid → List Cuboid → Type 0) → ((a b c : List Cuboid) → MayLeave a b → MayLeave a c → b ≡ c)
      → (id : B) (old : State Id B) → HasOneResult (Coalesces bin_cmp MayLeave id) old
  Coalesces-one MayLeave one id old Done Done new other (bin, there, joined, joins, is) (other_bin, other_there, other_joined, other_joins, other_is) m n =
      let same : bin ≡ other_bin = cc in
      let lists : joined ≡ other_joined = one bin.sections joined other_joined joins (subst (λ (b : Bin). MayLeave b.sections other_joined) (sym same) other_joins) in (
        refl,
        is ∙ ap (λ (b : Bin). record old { bins = set_value (is_at (bin_cmp id)) old.bins (record b { sections = joined; coalesced = true }) }) same
            ∙ ap (λ s. record old { bins = set_value (is_at (bin_cmp id)) old.bins (record other_bin { sections = s; coalesced = true }) }) lists ∙ sym other_is,
      )
  Coalesces-one MayLeave one id old Done (Refused UnknownBin) new other a b m n = absurd (cc (a.1, b.0))
  Coalesces-one MayLeave one id old (Refused UnknownBin) Done new other a b m n = absurd (cc (b.1, a.0))
  Coalesces-one MayLeave one id old (Refused UnknownBin) (Refused UnknownBin) new other a b m n = (refl, a.1 ∙ sym b.1)
  Coalesces-one MayLeave one id old Done r new other a b m n = absurd b
  Coalesces-one MayLeave one id old (Refused UnknownBin) r new other a b m n = absurd b
  Coalesces-one MayLeave one id old s r new other a b m n = absurd a
