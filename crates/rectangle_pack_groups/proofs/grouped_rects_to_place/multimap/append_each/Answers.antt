use Rattle.rectangle_pack_sections.proofs.Std.{rules, ◌≡◌, [], ◌∷◌, ◌++◌, length, length-append, take, refl, ◌∙◌, ap, arith, Contains, All, reverse, get, is_eq}
use Rattle.rectangle_pack_sections.proofs.Std.{tied_itself, All-contains_itself, subst, List, sym, take-length}
use Rattle.rectangle_pack_sections.specs.Groups.{lists_of}
use Rattle.rectangle_pack_groups.specs.private.Multimaps.{times, AreAppended, TakesBack}
use Rattle.rectangle_pack_groups.proofs.lemmas.multimap.Sized.{on_ok}
use Rattle.rectangle_pack_groups.proofs.lemmas.multimap.Append.{AreAppended-none, AreAppended-step, AreAppended-known, AreAppended-roomier, times-more_same}
use Rattle.rectangle_pack_groups.proofs.lemmas.multimap.Append.{times-more_le}
use Rattle.rectangle_pack_sections.proofs.lemmas.util.Lists.{All-front, All-middle}
use Rattle.rectangle_pack_groups.proofs.lemmas.multimap.TakeBack.{reverse-take_more}
use Rattle.rectangle_pack_groups.proofs.grouped_rects_to_place.multimap.append_each.Goals as goal

pub loop-i-init : goal.loop-i-init
loop-i-init g c = record {
  left = search rules;
  given = All-contains_itself c.args.items.items;
  added = λ q. AreAppended-none c.args.items.items (get g.K.Ord.cmp c.args.map.now q);
  back = refl;
  ordered = λ none. absurd (omega arith);
}

pub reserve_at-requires : goal.reserve_at-requires
reserve_at-requires g c =
    let cmp = g.K.Ord.cmp in
    let o = g.met.K.Ord.total in
    let keys = c.args.keys.now in
    let i = c.loop-i.i in
    let k = c.index-keys-i.result in
    let next = times-more_same o keys i k k c.loop-i-test.true c.index-keys-i.is (ap is_eq (tied_itself o k)) in
    let known = c.requires.known k (omega (arith, next, times-more_le o keys i k k c.loop-i-test.true c.index-keys-i.is)) in
    record { has = AreAppended-known _ _ (get cmp c.args.map.now k) (get cmp c.loop-i.map k) (c.loop-i.invariant.added k) ∙ known }

pub loop-i-preserved : goal.loop-i-preserved
loop-i-preserved g c =
    let cmp = g.K.Ord.cmp in
    let keys = c.args.keys.now in
    let all = c.args.items.items in
    let i = c.loop-i.i in
    let k = c.index-keys-i.result in
    let x = c.in-Some.item in
    let left = c.pop.new.self.items in
    let popped : c.loop-i.items.items ≡ left ++ x ∷ [] = search rules in
    let given : All (Contains all) (left ++ x ∷ []) = rw popped at c.loop-i.invariant.given in
    let back : TakesBack cmp (reverse (take i keys)) (lists_of c.reserve_at.new.map.entries) (lists_of c.args.map.now.entries) =
    rw c.reserve_at.ensures.kept c.loop-i.invariant.back in
    record {
      left = omega (arith, ap length popped, length-append left (x ∷ []), c.loop-i.invariant.left);
      given = All-front (Contains all) left (x ∷ []) given;
      added = λ q. AreAppended-step g.met.K.Ord.total keys i k q c.loop-i-test.true c.index-keys-i.is all x (get cmp c.args.map.now q)
          (get cmp c.reserve_at.new.map q) (get cmp c.append_at.new.map q) (All-middle (Contains all) (left ++ x ∷ []) left [] x refl given)
          (AreAppended-roomier all (times cmp (take i keys) q) (get cmp c.args.map.now q) (get cmp c.loop-i.map q) (get cmp c.reserve_at.new.map q)
          (c.reserve_at.ensures.items q) (c.reserve_at.ensures.known q) (c.loop-i.invariant.added q))
          (c.append_at.ensures.here q) (c.append_at.ensures.others q);
      back = rw (reverse-take_more keys i k c.loop-i-test.true c.index-keys-i.is)
          (c.append_at.ensures.back (reverse (take i keys)) (lists_of c.args.map.now.entries) back);
      ordered = λ _. c.append_at.ensures.ordered;
    }

pub take_back-requires : goal.take_back-requires
take_back-requires g c = (lists_of c.args.map.now.entries, rw c.reserve_at.ensures.kept c.loop-i.invariant.back)

pub append_at-requires : goal.append_at-requires
append_at-requires g c = record { room = on_ok _ c.reserve_at.result (sym c.is_err.ensures.value ∙ c.if-is_err.false) c.reserve_at.ensures.room }

pub returns-then-is_err-clause-kept : goal.returns-then-is_err-clause-kept
returns-then-is_err-clause-kept g c = c.take_back.ensures (lists_of c.args.map.now.entries) (rw c.reserve_at.ensures.kept c.loop-i.invariant.back)

pub returns : goal.returns
returns g c =
    let cmp = g.K.Ord.cmp in
    let keys = c.args.keys.now in
    let end : c.loop-i.i ≡ length keys = omega arith in
    let whole : take c.loop-i.i keys ≡ keys = ap (λ n. take n keys) end ∙ take-length keys in
    record {
      appended = λ q. subst (λ (ks : List _). AreAppended c.args.items.items (times cmp ks q) (get cmp c.args.map.now q) (get cmp c.loop-i.map q)) whole
          (c.loop-i.invariant.added q);
      back = subst (λ (ks : List _). TakesBack cmp (reverse ks) (lists_of c.loop-i.map.entries) (lists_of c.args.map.now.entries)) whole
          c.loop-i.invariant.back;
      kept = tt;
      ordered = λ some. c.loop-i.invariant.ordered (omega arith);
    }
