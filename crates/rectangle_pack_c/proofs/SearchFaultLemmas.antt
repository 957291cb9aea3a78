-- Faults of the arguments of a search.
use Rattle.rectangle_pack_c.proofs.Std.{◌≡◌, ◌≢◌, ℕ, ◌==◌, Bool, true, false, cond, List, length, ap, ◌∙◌, ◌<◌, ◌^◌, nat_lt, nat_tests, subst, arith}
use Rattle.rectangle_pack_c.specs.declared.RpBin.{RpBin}
use Rattle.rectangle_pack_c.specs.declared.collection.RpCollection.{RpCollection}
use Rattle.rectangle_pack_c.specs.declared.searching.RpSearchOptions.{RpSearchOptions}
use Rattle.rectangle_pack_c.specs.Collections.{fault_in, fault_of}
use Rattle.rectangle_pack_c.specs.Searching.{fault_alone, fault_searching}
use Rattle.rectangle_pack_c.proofs.FaultLemmas.{sound}
use Rattle.rectangle_pack_c.proofs.FittedLemmas.{no_space_fault as no_fault}

-- arguments without a fault are a collection without one
pub alone_sound : (c : RpCollection) (places : ℕ) → fault_of c 0 places ≡ 0 → fault_alone c ≡ 0
alone_sound c places none = subst (λ n. fault_of c 0 n ≡ 0) (sound c 0 places none).as_many none

-- a search without a fault has options of the right size, and no other fault
pub right_size : (o : RpSearchOptions) (fault : ℕ) → fault_searching o fault ≡ 0 → fault ≡ 0
right_size o fault none = by (o.size == 64) none
  where
    by : (t : Bool) → cond t fault 21 ≡ 0 → fault ≡ 0
    by true e = e
    by false e = absurd (omega (arith, e))

-- where the lengths are wrong the status says so, or that the size of the options is
pub not_done : (o : RpSearchOptions) → fault_searching o 3 ≢ 0
not_done o = by (o.size == 64)
  where
    by : (t : Bool) → let status : ℕ = cond t 3 21 in status ≢ 0
    by true e = omega (arith, e)
    by false e = omega (arith, e)

-- want of space is no fault of arguments
pub no_space_fault : (o : RpSearchOptions) (c : RpCollection) (places : ℕ) → fault_searching o (fault_of c 0 places) ≢ 1
no_space_fault o c places = by (o.size == 64) (fault_of c 0 places) (no_fault c 0 places)
  where
    by : (t : Bool) (fault : ℕ) → fault ≢ 1 → cond t fault 21 ≢ 1
    by true fault no_one e = no_one e
    by false fault no_one e = omega (arith, e)

-- the first fault, where there are not too many bins
pub search_fault : (o : RpSearchOptions) (c : RpCollection) (bins : List RpBin) (places : ℕ) → length bins < 2 ^ 32
    → fault_searching o (fault_of c 0 places) ≡ 0 → fault_searching o (fault_in bins c 0 places) ≡ 0
search_fault o c bins places few none =
    let below : nat_lt (length bins) (2 ^ 32) ≡ true = grind (arith, nat_tests) in
    ap (λ t. fault_searching o (cond t (fault_of c 0 places) 3)) below ∙ none
