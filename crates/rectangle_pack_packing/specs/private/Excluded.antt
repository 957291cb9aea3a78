-- The bins that are excluded for a group, as a packing finds them.
use Rattle.std.specs.Prelude.{◌≡◌, Bool, false, ◌&&◌, ◌||◌, List, unwrap_or}
use Rattle.std.specs.declared.cmp.Ordering.{Ordering}
use Rattle.std.specs.Borrow.{Bor}
use Rattle.std.specs.Option.{option_map}
use Rattle.std.specs.List.{list_any}
use Rattle.std.specs.Map.{lookup}
use Rattle.std.specs.BTreeMap.{is_at}
use Rattle.rectangle_pack_sections.specs.Exclusions.{listed_at, are_excluded}

-- the id is among those that the references point to
abbrev pub are_in : {B : Type 0} → (B → B → Ordering) → List (Bor B) → B → Bool
are_in bin_cmp excluded id = list_any (λ b. is_at (bin_cmp id) b.now) excluded

-- the bin of this id is the one that is kept as the home of the group
abbrev pub went_to : {K B : Type 0} → (K → K → Ordering) → (B → B → Ordering) → List (Bor K × Bor B) → K → B → Bool
went_to group_cmp bin_cmp homes group id = unwrap_or (option_map (λ b. is_at (bin_cmp id) b.now) (lookup (λ k. is_at (group_cmp group) k.now) homes)) false

-- what is seen of the homes of groups: which pairs are excluded, and which bins are kept as homes
pub record KeptHomes (K B : Type 0) : Type 0 where
  pub partners : List (K × List K)
  pub bins : List (Bor K × Bor B)

module _ {K B : Type 0} (group_cmp : K → K → Ordering) (bin_cmp : B → B → Ordering) where
  -- the bin of this id is kept as the home of a group that is excluded with this one
  abbrev pub bars : KeptHomes K B → K → B → Bool
  bars homes group id = list_any (λ p. went_to group_cmp bin_cmp homes.bins p id) (listed_at group_cmp homes.partners group)

  -- the bin `here` becomes the home of the group: it is barred for the groups that are excluded with that one, as are
  -- the bins that were. The homes of other groups stay
  pub record IsHomeKept (old : KeptHomes K B) (group : K) (here : B) (new : KeptHomes K B) : Type 0 where
    pub partners : new.partners ≡ old.partners
    pub barred : (other : K) (id : B)
        → bars new other id ≡ ((are_excluded group_cmp old.partners other group && is_at (bin_cmp id) here) || bars old other id)
    pub others : (other : K) → is_at (group_cmp group) other ≡ false → (id : B)
        → went_to group_cmp bin_cmp new.bins other id ≡ went_to group_cmp bin_cmp old.bins other id
