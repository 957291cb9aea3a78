use Rattle.rectangle_pack_sections.proofs.Std.{arith, ℕ, All, AllPairs, [], ◌∷◌, length-append, ◌≡◌, ◌<◌, ◌++◌, drop, length, refl, ap, ◌∙◌, drop-append_seam, map, Some, map_push}
use Rattle.rectangle_pack_sections.proofs.Std.{take_rest, deref_pair, All-weaker, All-push, iter_end, AllZip, slice_range, all_pairs_push, lookup, is_at}
use Rattle.rectangle_pack_sections.proofs.Std.{All-permutation, sum_by-IsPermutation, sym, subst, List, eq_by_cmp, IsDistinct, keys_of, IsPermutation-map}
use Rattle.rectangle_pack_sections.proofs.Std.{IsDistinct-from_sorted, IsDistinct-IsPermutation, All-nil, rest_more, ◌≤◌}
use Rattle.rectangle_pack_sections.specs.Groups.{lists_of, HaveSizes}
use Rattle.rectangle_pack_packing.specs.declared.order.OrderedGroup.{OrderedGroup}
use Rattle.rectangle_pack_packing.specs.private.Orders.{keys_of_order, entries_at, SizesStandAt}
use Rattle.rectangle_pack_packing.proofs.lemmas.packing.Orders.{AllZip-more, items-turn, listed-zip, counted-zip, rise-names, SizesStandAt-more, SizesStandAt-last}
use Rattle.rectangle_pack_packing.proofs.lemmas.packing.Orders.{AllZip-rated}
use Rattle.rectangle_pack_sections.proofs.lemmas.util.Zips.{AllZip-equal}
use Rattle.rectangle_pack_sections.proofs.lemmas.groups.Lists.{list-found}
use Rattle.rectangle_pack_sections.proofs.lemmas.util.Zips.{AllZip-mapped, length-zip}
use Rattle.rectangle_pack_sections.proofs.lemmas.util.Maps.{is_at-back}
use Rattle.rectangle_pack_packing.proofs.order.group_order.Given.{Over}
use Rattle.rectangle_pack_packing.proofs.order.group_order.Goals as goal

abbrev Ordered : Over → Type 0
Ordered g = OrderedGroup g.row.K.Denot g.row.Id.Denot g.row.A.Denot

-- one more of each, at the ends of two lists
AllZip-pushed : {X Y Z : Type 0} (R : Y → Z → Type 0) (f : X → Y) (xs : List X) (x : X) (zs new : List Z) (z : Z) → new ≡ zs ++ z ∷ []
    → AllZip R (map f xs) zs → R (f x) z → AllZip R (map f (xs ++ x ∷ [])) new
AllZip-pushed R f xs x zs new z pushed h r = rw (map_push f xs x, pushed) (AllZip-more R (map f xs) zs (f x) z h r)

-- what the last one and those before it have, where it may be weaker than what they had
All-pushed : {X : Type 0} (P Q : X → Type 0) (xs new : List X) (x : X) → new ≡ xs ++ x ∷ [] → ((y : X) → P y → Q y) → All P xs → Q x → All Q new
All-pushed P Q xs new x pushed weaker h q = rw pushed (All-push Q xs x (All-weaker P Q weaker xs h) q)

-- numbers still rise, where the last is more than those before it
rise-pushed : {X : Type 0} (number : X → ℕ) (xs new : List X) (x : X) → new ≡ xs ++ x ∷ [] → AllPairs (λ a b. number a < number b) xs
    → All (λ a. number a < number x) xs → AllPairs (λ a b. number a < number b) new
rise-pushed number xs new x pushed rising h = rw pushed (all_pairs_push (λ a b. number a < number b) xs x rising h)

-- a list to which something for each of some ids was added is longer
longer : {X Y : Type 0} (R : X → Y → Type 0) (ids : List X) (old added new : List Y) → new ≡ old ++ added → AllZip R ids added → 0 < length ids
    → length old < length new
longer R ids old added new more each some = omega (arith, ap length more, length-append old added, length-zip R ids added each, some)

less-less : (a b c : ℕ) → a < b → b < c → a < c
less-less a b c h k = omega (arith, h, k)

pub add_sizes-requires : goal.add_sizes-requires
add_sizes-requires g c =
    let turn = items-turn (λ ids. (0 < length ids) × HaveSizes g.Id.Ord.cmp c.args.rects.now.entries ids) c.args.lists.now.entries _ _ _ _ _ _
    c.requires.sized c.into_iter-group-iterator.ensures.into_iter_gives.0 c.loop-group.yielded_by c.in-Some.is c.next.ensures.steps in
    rw c.as_slice.ensures.value turn.1

pub loop-group-preserved : goal.loop-group-preserved
loop-group-preserved g c =
    let cmp = g.Id.Ord.cmp in
    let rects = c.args.rects.now.entries in
    let ids = c.in-Some.ids.now.items in
    let old = c.loop-group.sizes.items in
    let start = c.len-start.result in
    let added = c.in_ok-add_sizes.ensures.0 in
    let more = c.in_ok-add_sizes.ensures.2 in
    let each : AllZip (λ id size. lookup (is_at (cmp id)) rects ≡ Some size) ids added = rw (← c.as_slice.ensures.value) c.in_ok-add_sizes.ensures.1 in
    let starts : start ≡ length old = c.len-start.ensures ∙ c.loop-group.sizes.ok.0 in
    let tail : slice_range c.deref.result.now start (length c.deref.result.now) ≡ added = take_rest c.deref.result.now start
    ∙ ap (drop start) (c.deref.ensures.value ∙ more) ∙ ap (λ n. drop n (old ++ added)) starts ∙ drop-append_seam old added in
    let new = c.add_sizes.new.sizes.items in
    let some = items-turn (λ ids. (0 < length ids) × HaveSizes cmp rects ids) c.args.lists.now.entries _ _ _ _ _ _ c.requires.sized
    c.into_iter-group-iterator.ensures.into_iter_gives.0 c.loop-group.yielded_by c.in-Some.is c.next.ensures.steps in
    let grown = longer _ ids old added new more each some.0 in
    let rated = c.group_key-key.ensures in
    let rates : AllZip (g.R.Policy.may c.args.policy.now).rate added rated.0 = rw (← tail) rated.1 in
    record {
      listed = AllZip-pushed _ deref_pair c.loop-group.yielded (c.in-Some.group, c.in-Some.ids) c.loop-group.order.items _ _ c.in_ok-push.ensures.items
          c.loop-group.invariant.listed (
            refl,
            (
              rated.0,
              AllZip-rated (λ id. lookup (is_at (cmp id)) rects) (g.R.Policy.may c.args.policy.now).rate ids added rated.0 each rates,
              rated.2,
            ),
            refl,
          );
      sized = All-pushed (λ (o : Ordered g). SizesStandAt cmp rects old o.ids.now.items o.start)
          (λ (o : Ordered g). SizesStandAt cmp rects new o.ids.now.items o.start) c.loop-group.order.items _ _ c.in_ok-push.ensures.items
          (λ o h. SizesStandAt-more cmp rects old added new o.ids.now.items o.start more h) c.loop-group.invariant.sized
          (SizesStandAt-last cmp rects old added new ids start more starts each);
      rising = rise-pushed (λ (o : Ordered g). o.start) c.loop-group.order.items _ _ c.in_ok-push.ensures.items c.loop-group.invariant.rising
          (λ k d within. rw starts (c.loop-group.invariant.begun k d within));
      begun = All-pushed (λ (o : Ordered g). o.start < length old) (λ (o : Ordered g). o.start < length new) c.loop-group.order.items _ _
          c.in_ok-push.ensures.items (λ o h. less-less o.start (length old) (length new) h grown) c.loop-group.invariant.begun (rw starts grown);
    }

pub sort_falling-requires : goal.sort_falling-requires
sort_falling-requires g c =
    let entries = c.args.lists.now.entries in
    let order = c.loop-group.order.items in
    let e : map deref_pair c.loop-group.yielded ≡ entries =
    (iter_end deref_pair _ _ _ _ _ _ c.into_iter-group-iterator.ensures.into_iter_gives.0 c.loop-group.yielded_by c.in-None.is c.next.ensures.steps).0 in
    let name : Ordered g → g.row.K.Denot = λ o. o.name.now in
    let names : map name order ≡ keys_of entries = AllZip-equal _ (λ e. e.0) name (λ e o r. r.0) entries order (rw e at c.loop-group.invariant.listed) in
    record {
      rising = λ i j d less within.
          (rise-names g.K.Ord.cmp name order (keys_of entries) names c.len.ensures.ordered i j d less within, c.loop-group.invariant.rising i j d less within);
    }

pub returns : goal.returns
returns g c =
    let cmp = g.K.Ord.cmp in
    let entries = c.args.lists.now.entries in
    let lists = lists_of entries in
    let order = c.loop-group.order.items in
    let unsorted = keys_of_order order in
    let e : map deref_pair c.loop-group.yielded ≡ entries =
    (iter_end deref_pair _ _ _ _ _ _ c.into_iter-group-iterator.ensures.into_iter_gives.0 c.loop-group.yielded_by c.in-None.is c.next.ensures.steps).0 in
    let zipped = rw e at c.loop-group.invariant.listed in
    let name : Ordered g → g.row.K.Denot = λ o. o.name.now in
    let names : map name order ≡ keys_of entries = AllZip-equal _ (λ e. e.0) name (λ e o r. r.0) entries order zipped in
    let listed = listed-zip g.met.K.Ord.total c.args.lists.now c.len.ensures.ordered _ order zipped in
    record {
      order = record {
        unsorted = unsorted;
        each = AllZip-mapped _ _ (λ e. (e.0, e.1.items)) (λ o. (o.key.0, o.name.now)) (λ e o r. (r.0, r.1)) entries order zipped;
        permutation = c.sort_falling.ensures.permutation;
        falling = c.sort_falling.ensures.falling;
      };
      listed = All-permutation (λ (o : Ordered g). lookup (is_at (cmp o.name.now)) entries
          ≡ Some o.ids.now) order _ c.sort_falling.ensures.same listed;
      sizes = All-permutation (λ (o : Ordered g). SizesStandAt g.Id.Ord.cmp
          c.args.rects.now.entries c.loop-group.sizes.items o.ids.now.items o.start) order _ c.sort_falling.ensures.same c.loop-group.invariant.sized;
      distinct = IsDistinct-IsPermutation (eq_by_cmp cmp) (λ x y. is_at-back g.met.K.Ord.total x y) (map name order) _
          (IsPermutation-map name _ _ c.sort_falling.ensures.same)
          (subst (λ (ks : List g.row.K.Denot). IsDistinct (eq_by_cmp cmp) ks) (sym names) (IsDistinct-from_sorted cmp (keys_of entries) c.len.ensures.ordered));
      counted = sum_by-IsPermutation (entries_at cmp lists) _ _ c.sort_falling.ensures.permutation
          ∙ counted-zip cmp lists _ entries order zipped (λ k d within. list-found _ entries _ (listed k d within));
    }

pub slice_bounds-group_key-count : goal.slice_bounds-group_key-count
slice_bounds-group_key-count g c =
    let old = c.loop-group.sizes.items in
    let added = c.in_ok-add_sizes.ensures.0 in
    omega (arith, ap length (c.deref.ensures.value ∙ c.in_ok-add_sizes.ensures.2), length-append old added, c.len-start.ensures, c.loop-group.sizes.ok.0)

pub offset_bounds-deref-start : goal.offset_bounds-deref-start
offset_bounds-deref-start g c = omega (arith, c.deref.type_inv.1, slice_bounds-group_key-count g c)

pub slice_bounds-group_key-start : goal.slice_bounds-group_key-start
slice_bounds-group_key-start g c = slice_bounds-group_key-count g c

pub slice_bounds-group_key-end : goal.slice_bounds-group_key-end
slice_bounds-group_key-end g c = let all : length c.deref.result.now ≤ length c.deref.result.now = omega arith in all

pub loop-group-smaller : goal.loop-group-smaller
loop-group-smaller g c = omega (arith, ap length (rest_more deref_pair _ _ _ _ c.in-Some.is c.next.ensures.steps))

pub loop-group-init : goal.loop-group-init
loop-group-init g c =
    let none = c.in_ok-order.ensures.items in
    record { listed = rw none tt; sized = rw none (All-nil _); rising = rw none (λ i j d less within. absurd (omega arith)); begun = rw none (All-nil _) }
