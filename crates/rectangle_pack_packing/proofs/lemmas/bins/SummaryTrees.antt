-- The tree of the summaries of bins: what a summary above a stretch of it says of each bin there.
use Rattle.std.proofs.Math.Nat.{pow-suc}
use Rattle.std.proofs.lemmas.List.{get_or_past}
use Rattle.rectangle_pack_sections.proofs.Std.{◌≡◌, ◌≤◌, ◌<◌, ◌+◌, ◌*◌, ◌-◌, ◌/◌, ◌^◌, ℕ, zero, suc, List, [], ◌∷◌, ◌++◌, length, take, drop, set, get_or, refl, sym, ap, ◌∙◌, arith}
use Rattle.rectangle_pack_sections.proofs.Std.{Option, Some, None, length-set, length-drop, take-add, drop-drop, drop-cons, get_or-set_other}
use Rattle.rectangle_pack_sections.proofs.Std.{mul-le-mul_left, All, drop-set-add, get_or_default, get_or-set_same, cases_eq, cases_order, inl, inr}
use Rattle.rectangle_pack_sections.specs.Boxes.{Size}
use Rattle.rectangle_pack_lists.specs.declared.gap_list.summary.Summary.{Summary}
use Rattle.rectangle_pack_lists.specs.private.Summaries.{RulesOut, joined}
use Rattle.rectangle_pack_lists.proofs.lemmas.trial.Summaries.{RulesOut-joined}
use Rattle.rectangle_pack_packing.specs.private.SummaryTrees.{IsAbove, node_at, IsTreeBut, IsTree, IsStretch, RuleOut}

-- a known summary is above two that are known
known-below : (above one other : Option Summary) (s : Summary) → above ≡ Some s → IsAbove above one other
    → (x : Summary) × (y : Summary) × (one ≡ Some x) × (other ≡ Some y) × (s ≡ joined x y)
known-below None one other s e h = absurd cc
known-below (Some t) (Some x) (Some y) s e h = (x, y, refl, refl, cc)
known-below (Some t) None other s e h = absurd h
known-below (Some t) (Some x) None s e h = absurd h

-- summaries of two stretches, one after the other
pub RuleOut-append : (a b : List (Option Summary)) (size : Size) (m n : ℕ) → RuleOut a size m → RuleOut b size n → RuleOut (a ++ b) size (m + n)
RuleOut-append [] b size m n p q =
    let none : m + n ≡ n = omega (arith, p) in
    rw none q
RuleOut-append (None ∷ a) b size m n p q = absurd p
RuleOut-append (Some s ∷ a) b size m n p q = (p.0, p.1 + n, RuleOut-append a b size p.1 n p.2 q, omega (arith, p.3))

some-width : (h : ℕ) → 0 < 2 ^ h
some-width zero = omega arith
some-width (suc h) = rw (pow-suc 2 h) (omega (arith, some-width h))

-- a node whose stretch is of two and more and within the array stands in its first half
is-inner : (k w long : ℕ) → 0 < w → k * (w * 2) + w * 2 ≤ long → long ≡ long / 2 + long / 2 → k < long / 2
is-inner k w long some within even =
    let less : (k + 1) * 1 ≤ (k + 1) * w = mul-le-mul_left (k + 1) some in
    omega (arith, less)

-- a known summary that rules a size out is above summaries that all do, and counts their sections
pub RuleOut-below : (nodes : List (Option Summary)) (size : Size) (h k : ℕ) (s : Summary) → IsTree nodes → 0 < k → k * 2 ^ h + 2 ^ h ≤ length nodes
    → node_at nodes k ≡ Some s → RulesOut s size → RuleOut (take (2 ^ h) (drop (k * 2 ^ h) nodes)) size s.count
RuleOut-below nodes size zero k s tree some within is out =
    let one : k * 1 ≡ k = omega arith in
    let head : drop k nodes ≡ Some s ∷ drop (suc k) nodes = drop-cons nodes k None (omega (arith, within)) ∙ ap (λ x. x ∷ drop (suc k) nodes) is in
    rw (one, head) (out, 0, refl, omega arith)
RuleOut-below nodes size (suc h) k s tree some within is out =
    let w = 2 ^ h in
    let double : 2 ^ suc h ≡ w * 2 = pow-suc 2 h in
    let room : k * (w * 2) + w * 2 ≤ length nodes = rw double at within in
    let inner : k < length nodes / 2 = is-inner k w (length nodes) (some-width h) room tree.even in
    let below = known-below _ _ _ s is (tree.above k some inner (omega arith)) in
    let outs = RulesOut-joined below.0 below.1 size (rw below.4 at out) in
    let left = RuleOut-below nodes size h (2 * k) below.0 tree (omega arith) (omega (arith, room)) below.2 outs.0 in
    let right = RuleOut-below nodes size h (2 * k + 1) below.1 tree (omega arith) (omega (arith, room)) below.3 outs.1 in
    let first : 2 * k * w ≡ k * (w * 2) = omega arith in
    let second : (2 * k + 1) * w ≡ k * (w * 2) + w = omega arith in
    let two : w * 2 ≡ w + w = omega arith in
    let count : s.count ≡ below.0.count + below.1.count = ap (λ (x : Summary). x.count) below.4 in
    let begin = k * (w * 2) in
    let parts : take (w * 2) (drop begin nodes) ≡ take w (drop (2 * k * w) nodes) ++ take w (drop ((2 * k + 1) * w) nodes) =
    ap (λ n. take n (drop begin nodes)) two ∙ take-add w w (drop begin nodes)
    ∙ ap (λ l. take w (drop begin nodes) ++ take w l) (drop-drop w begin nodes)
    ∙ ap (λ n. take w (drop n nodes) ++ take w (drop (begin + w) nodes)) (sym first)
    ∙ ap (λ n. take w (drop (2 * k * w) nodes) ++ take w (drop n nodes)) (sym second) in
    rw (double, count) (rw (← parts) at (RuleOut-append _ _ size below.0.count below.1.count left right))

-- the stretch after one, of the same width
pub IsStretch-next : (place node width : ℕ) → IsStretch place node width → IsStretch (place + width) (node + 1) width
IsStretch-next place node width at = record { height = at.height; width_is = at.width_is; place_is = omega (arith, at.place_is) }

twice : (m width : ℕ) → (m + m) * width ≡ m * (width * 2)
twice m width = omega arith

-- and one of twice the width
pub IsStretch-twice : (place node width : ℕ) → node / 2 + node / 2 ≡ node → IsStretch place node width → IsStretch place (node / 2) (width * 2)
IsStretch-twice place node width even at = record {
  height = suc at.height;
  width_is = rw (pow-suc 2 at.height) (ap (λ w. w * 2) at.width_is);
  place_is = at.place_is ∙ ap (λ n. n * width) (sym even) ∙ twice (node / 2) width;
}

-- its first half
pub IsStretch-half : (place node width : ℕ) → 1 < width → IsStretch place node width → IsStretch place (node * 2) (width / 2)
IsStretch-half place node width wide at = from at.height at.width_is
  where
    from : (height : ℕ) → width ≡ 2 ^ height → IsStretch place (node * 2) (width / 2)
    from zero e = absurd (omega (arith, e))
    from (suc h) e =
        let double : width ≡ 2 ^ h * 2 = e ∙ pow-suc 2 h in
        let half : width / 2 ≡ 2 ^ h = omega (arith, double) in
        let split : node * (2 ^ h * 2) ≡ node * 2 * 2 ^ h = omega arith in
        record { height = h; width_is = half; place_is = rw half (at.place_is ∙ rw double split) }

-- a summary is written, and those above it are still to be
pub IsTreeBut-leaf : (nodes : List (Option Summary)) (leaf : ℕ) (new : Option Summary) → IsTree nodes → length nodes / 2 ≤ leaf → leaf < length nodes
    → IsTreeBut (leaf / 2) (set nodes leaf new)
IsTreeBut-leaf nodes leaf new tree low high = record {
  even = rw (length-set nodes leaf new) tree.even;
  above = λ n some inner apart.
      let inside : n < length nodes / 2 = rw (length-set nodes leaf new) at inner in
      rw (
        get_or-set_other nodes leaf n new None (omega arith),
        get_or-set_other nodes leaf (2 * n) new None (omega arith),
        get_or-set_other nodes leaf (2 * n + 1) new None (omega arith),
      ) (tree.above n some inside (omega arith));
}

-- where no node is known, none is at any index
pub unknown-at : (nodes : List (Option Summary)) → All (λ s. s ≡ None) nodes → (i : ℕ) → node_at nodes i ≡ None
unknown-at nodes none i = elim (cases_order i (length nodes)) [
  | inl e ↦ get_or_past nodes i None (omega (arith, e))
  | inr (inl below) ↦ none i None below
  | inr (inr above) ↦ get_or_past nodes i None (omega arith)
]

positive : (n w p : ℕ) → p ≡ n * w → 0 < p → 0 < n
positive zero w p is some = absurd (omega (arith, is))
positive (suc n) w p is some = omega arith

-- a stretch more is passed over
pub RuleOut-pass : (nodes leaves : List (Option Summary)) (size : Size) (from index node width tests all : ℕ) (s : Summary)
    (d : Option Summary) → IsTree nodes
    → leaves ≡ drop (length nodes / 2) nodes → from ≤ index → index + width ≤ length leaves → IsStretch (length leaves + index) node width
    → get_or nodes node d ≡ Some s → RulesOut s size → all ≡ tests + s.count → RuleOut (take (index - from) (drop from leaves)) size tests
    → RuleOut (take (index + width - from) (drop from leaves)) size all
RuleOut-pass nodes leaves size from index node width tests all s d tree whole le within at is out added before =
    let half = length nodes / 2 in
    let long : length leaves ≡ half = ap length whole ∙ omega (arith, length-drop half nodes, tree.even) in
    let w = 2 ^ at.height in
    let place : node * w ≡ half + index = rw (← at.width_is, ← at.place_is, long) refl in
    let wide : 0 < w = some-width at.height in
    let some : 0 < node = positive node w (half + index) (sym place) (omega (arith, within, at.width_is, long)) in
    let inside : node * w + w ≤ length nodes = omega (arith, place, within, at.width_is, long, tree.even) in
    let long_enough : node * 1 ≤ node * w = mul-le-mul_left node wide in
    let read : node_at nodes node ≡ Some s = get_or_default nodes node None d (omega (arith, long_enough, inside, wide)) ∙ is in
    let below = RuleOut-below nodes size at.height node s tree some inside read out in
    let there : drop (node * w) nodes ≡ drop index leaves = rw (place, whole) (sym (drop-drop index half nodes)) in
    let first : from + (index - from) ≡ index = omega arith in
    let rest : drop (index - from) (drop from leaves) ≡ drop index leaves = drop-drop (index - from) from leaves ∙ ap (λ n. drop n leaves) first in
    let sum : index + width - from ≡ index - from + w = omega (arith, at.width_is) in
    let parts : take (index + width - from) (drop from leaves) ≡ take (index - from) (drop from leaves) ++ take w (drop (node * w) nodes) =
    ap (λ n. take n (drop from leaves)) sum ∙ take-add (index - from) w (drop from leaves)
    ∙ ap (λ l. take (index - from) (drop from leaves) ++ take w l) (rest ∙ sym there) in
    rw (parts, added) (RuleOut-append (take (index - from) (drop from leaves)) (take w (drop (node * w) nodes)) size tests s.count before below)

-- a summary of a bin is written
pub drop-leaf : (nodes : List (Option Summary)) (leaf : ℕ) (new : Option Summary) → length nodes / 2 ≤ leaf
    → drop (length nodes / 2) (set nodes leaf new) ≡ set (drop (length nodes / 2) nodes) (leaf - length nodes / 2) new
drop-leaf nodes leaf new low =
    let half = length nodes / 2 in
    let there : half + (leaf - half) ≡ leaf = omega arith in
    ap (λ i. drop half (set nodes i new)) (sym there) ∙ drop-set-add half nodes (leaf - half) new

-- the summaries of the bins are half of the array
pub half_of : (nodes leaves : List (Option Summary)) → drop (length nodes / 2) nodes ≡ leaves
    → IsTree nodes → length leaves ≡ length nodes / 2
half_of nodes leaves is tree =
    omega (arith, ap length is, length-drop (length nodes / 2) nodes, tree.even)

-- the summary of a node is written, and the one above it is still to be
pub IsTreeBut-above : (nodes : List (Option Summary)) (node : ℕ) (new one other : Option Summary)
    → IsTreeBut node nodes → node < length nodes / 2
    → one ≡ get_or nodes (2 * node) one → other ≡ get_or nodes (2 * node + 1) other
    → IsAbove new one other → IsTreeBut (node / 2) (set nodes node new)
IsTreeBut-above nodes node new one other tree inner left right is = record {
  even = rw (length-set nodes node new) tree.even;
  above = λ n some within apart.
      let low : n < length nodes / 2 = rw (length-set nodes node new) at within in
      rw (
        get_or-set_other nodes node (2 * n) new None (omega arith),
        get_or-set_other nodes node (2 * n + 1) new None (omega arith),
      ) (elim (cases_eq n node) [
        | inl same ↦ rw (
          same,
          get_or-set_same nodes node new None (omega arith),
          get_or_default nodes (2 * node) None one (omega arith) ∙ sym left,
          get_or_default nodes (2 * node + 1) None other (omega arith) ∙ sym right,
        ) is
        | inr other ↦ rw (get_or-set_other nodes node n new None other) (tree.above n some low other)
      ]);
}
