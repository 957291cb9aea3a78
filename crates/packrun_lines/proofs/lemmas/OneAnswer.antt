-- A request has one answer on stores that are alike.
use Rattle.std.proofs.Common.{◌≡◌, ◌≢◌, ℕ, List, [], ◌∷◌, ◌||◌, length, drop, Option, Some, None, Result, Ok, Err, refl, ap, sym, ◌∙◌, subst}
use Rattle.std.specs.Cmp.{IsTotalOrder}
use Rattle.std.specs.List.{AllZip}
use Rattle.std.specs.Fmt.{decimal}
use Rattle.std.specs.declared.cmp.Ordering.TheVariants.{Equal}
use Rattle.std.proofs.lemmas.Cmp.{nat_list_cmp_total}
use Rattle.std.proofs.lemmas.Map.Lookups.{exact_bytes}
use Rattle.rectangle_pack_sections.proofs.Std.{tied_itself}
use Rattle.rectangle_pack.specs.declared.grouped_rects_to_place.Group.{Group}
use Rattle.rectangle_pack.specs.declared.grouped_rects_to_place.Group.TheVariants.{Grouped}
use Rattle.rectangle_pack.specs.declared.session.command.Packed.{Packed as PackedNumbers}
use Rattle.rectangle_pack.specs.declared.session.command.Reply.{Reply}
use Rattle.rectangle_pack.specs.declared.session.command.Reply.TheVariants.{Packed, Refused}
use Rattle.rectangle_pack.specs.declared.session.command.SessionError.{SessionError}
use Rattle.rectangle_pack.specs.declared.session.command.SessionError.TheVariants.{OutOfMemory}
use Rattle.rectangle_pack.specs.Alike.{AreCollectionsAlike}
use Rattle.rectangle_pack.specs.Boxes.{Size}
use Rattle.rectangle_pack.specs.Groups.{Collection, Excludes}
use Rattle.rectangle_pack.specs.Exclusions.{are_these}
use Rattle.rectangle_pack.specs.Joining.{IsJoined, IsSwept}
use Rattle.rectangle_pack.specs.Session.{State, IsSession, AddsBin, Releases, Coalesces, Packs, reply_of}
use Rattle.rectangle_pack_sections.proofs.lemmas.groups.GroupOrder.{groups_total}
use Rattle.rectangle_pack_groups.proofs.lemmas.groups.OnePush.{alone_alike, into_alike}
use Rattle.rectangle_pack_lists.proofs.lemmas.joining.Sweeps.{IsJoined-one, IsSwept-one}
use Rattle.packrun_lines.specs.Requests.{Request}
use Rattle.packrun_lines.specs.Requests as asks
use Rattle.packrun_lines.specs.Answers.{Answers, Replies, size_of, groups_of, pack_text, found_text}
use Rattle.rectangle_pack.specs.Stats.{stats_in}
use Rattle.packrun_lines.specs.Store.{Name, name_cmp, Store, ChangesSession, ChangesBoxes, TakesBox, PacksBoxes, group_order, volume_rules, no_boxes, placements_made, sections_in}
use Rattle.packrun_lines.specs.Lines.{reply_text, refusal_text, packed_text, sections_text, sums_text}
use Rattle.packrun_lines.proofs.lemmas.OneTransition.{HasOneResult, AddsBin-one, Releases-one, Coalesces-one}
use Rattle.packrun_lines.proofs.lemmas.OnePacking.{Packs-one}

-- boxes that are alike: the partners of a group may be listed in other ways, where the same pairs are excluded
abbrev pub Boxes : Type 0
Boxes = Collection Name Name

abbrev pub AreBoxesAlike : Boxes → Boxes → Type 0
AreBoxesAlike one other = AreCollectionsAlike group_order name_cmp one other

-- one session, and boxes that are alike
pub record AreStoresAlike (one other : Store) : Type 0 where
  pub session : one.session ≡ other.session
  pub boxes : AreBoxesAlike one.boxes other.boxes

-- the order of groups is total
by_groups : IsTotalOrder group_order
by_groups = groups_total group_order name_cmp name_cmp nat_list_cmp_total nat_list_cmp_total (λ a b. refl) (λ a b. refl) (λ a b. refl) (λ a b. refl)

-- one reply is one answer
one_reply : (a b : Result (Unit {0}) SessionError) → reply_of a ≡ reply_of b → a ≡ b
one_reply (Ok x) (Ok y) same = refl
one_reply (Ok x) (Err e) same = absurd (cc same)
one_reply (Err e) (Ok y) same = absurd (cc same)
one_reply (Err e) (Err f) same = let errors : e ≡ f = cc same in ap (λ e. Err e) errors

-- an answer with a text is not that memory is refused
has_memory : (error : SessionError) (named text : List ℕ) → refusal_text error named ≡ Some text → Refused error ≢ Refused OutOfMemory
has_memory error named text is same =
    let refused : error ≡ OutOfMemory = cc same in
    let none : refusal_text OutOfMemory named ≡ Some text = subst (λ e. refusal_text e named ≡ Some text) refused is in
    absurd (cc none)

reply-has_memory : (a : Result (Unit {0}) SessionError) (named text : List ℕ) → reply_text a named ≡ Some text → reply_of a ≢ Refused OutOfMemory
reply-has_memory (Ok x) named text is same = cc same
reply-has_memory (Err e) named text is same = has_memory e named text is same

one_text : (a b : Option (List ℕ)) (text other : List ℕ) → a ≡ b → a ≡ Some text → b ≡ Some other → text ≡ other
one_text a b text other same is other_is = cc

module _ (old other : Store) (alike : AreStoresAlike old other) (text other_text : List ℕ) (new other_new : Store) where
  -- a text, and a store behind it
  abbrev Same : Type 0
  Same = (text ≡ other_text) × AreStoresAlike new other_new

  unchanged : text ≡ other_text → new ≡ old → other_new ≡ other → Same
  unchanged texts a b = (texts, subst (λ d. AreStoresAlike d other_new) (sym a) (subst (λ d. AreStoresAlike old d) (sym b) alike))

  changed-session : (Step : State Name Name → Reply → State Name Name → Type 0) (named : List ℕ) → HasOneResult Step old.session
      → Replies (ChangesSession Step) named old text new → Replies (ChangesSession Step) named other other_text other_new → Same
  changed-session Step named one (answer, (step, boxes), is) (other_answer, (other_step, other_boxes), other_is) =
      let (replies, sessions) = one (reply_of answer) (reply_of other_answer) new.session other_new.session step
      (subst (λ s. Step s (reply_of other_answer) other_new.session) (sym alike.session) other_step)
      (reply-has_memory answer named text is) (reply-has_memory other_answer named other_text other_is) in (
        one_text (reply_text answer named) (reply_text other_answer named) text other_text
            (ap (λ a. reply_text a named) (one_reply answer other_answer replies)) is other_is,
        record { session = sessions; boxes = rw (boxes, other_boxes) alike.boxes },
      )

  changed-boxes : (Change : Boxes → Boxes → Type 0) (named : List ℕ)
      → (Change old.boxes new.boxes → Change other.boxes other_new.boxes → AreBoxesAlike new.boxes other_new.boxes)
      → Replies (ChangesBoxes Change) named old text new → Replies (ChangesBoxes Change) named other other_text other_new → Same
  changed-boxes Change named one (Ok _, change, is) (Ok _, other_change, other_is) =
      (cc (is, other_is), record { session = change.1 ∙ alike.session ∙ sym other_change.1; boxes = one change.0 other_change.0 })
  changed-boxes Change named one (Err e, change, is) other_answer =
      absurd (has_memory e named text is (ap (λ e. Refused e) change.0))
  changed-boxes Change named one (Ok _, change, is) (Err e, other_change, other_is) =
      absurd (has_memory e named other_text other_is (ap (λ e. Refused e) other_change.0))

  taken : (id : Name) (size : Size) (groups : Option (List Name)) → TakesBox id size groups old.boxes new.boxes
      → TakesBox id size groups other.boxes other_new.boxes → AreBoxesAlike new.boxes other_new.boxes
  taken id size None a b = alone_alike group_order name_cmp name_cmp by_groups nat_list_cmp_total (λ a b. refl) (λ a b. refl)
      old.boxes new.boxes other.boxes other_new.boxes id id size alike.boxes (tied_itself nat_list_cmp_total id) a b
  taken id size (Some groups) a b = into_alike group_order name_cmp name_cmp by_groups nat_list_cmp_total (λ a b. refl) (λ a b. refl)
      old.boxes new.boxes other.boxes other_new.boxes id id groups groups size alike.boxes (tied_itself nat_list_cmp_total id) (each groups) a.1 b.1 a.0 b.0
    where
      each : (names : List Name) → AllZip (λ a b. name_cmp a b ≡ Equal) names names
      each [] = tt
      each (name ∷ names) = (tied_itself nat_list_cmp_total name, each names)

  excluded : (a b : Group Name Name) → Excludes group_order old.boxes new.boxes a b → Excludes group_order other.boxes other_new.boxes a b
      → AreBoxesAlike new.boxes other_new.boxes
  excluded a b is other_is = record {
    sizes = rw (is.sizes, other_is.sizes) alike.boxes.sizes;
    groups = rw (is.groups, other_is.groups) alike.boxes.groups;
    excluded = λ x y. is.pairs x y ∙ ap (λ e. e || are_these group_order a b x y) (alike.boxes.excluded x y) ∙ sym (other_is.pairs x y);
  }

  no_boxes-alike : AreBoxesAlike no_boxes no_boxes
  no_boxes-alike = record { sizes = tt; groups = tt; excluded = λ a b. refl }

  packs-one : (reply other_reply : Reply) → Packs group_order volume_rules old.boxes old.session reply new.session
      → Packs group_order volume_rules other.boxes other.session other_reply other_new.session
      → reply ≢ Refused OutOfMemory → other_reply ≢ Refused OutOfMemory → (reply ≡ other_reply) × (new.session ≡ other_new.session)
  packs-one reply other_reply a b = Packs-one name_cmp nat_list_cmp_total exact_bytes old.boxes other.boxes alike.boxes old.session reply other_reply
      new.session other_new.session a
      (subst (λ s. Packs group_order volume_rules other.boxes s other_reply other_new.session) (sym alike.session) b)

  packed : (answer other_answer : Result PackedNumbers SessionError) → PacksBoxes old answer new → PacksBoxes other other_answer other_new
      → pack_text old answer new ≡ Some text → pack_text other other_answer other_new ≡ Some other_text → Same
  packed (Ok numbers) (Ok other_numbers) (step, boxes) (other_step, other_boxes) is other_is =
      let (replies, sessions) = packs-one (Packed numbers) (Packed other_numbers) step other_step (λ e. cc e) (λ e. cc e) in
      let made : placements_made old new ≡ placements_made other other_new =
      ap (λ (s : State Name Name). drop (length s.outstanding) new.session.outstanding) alike.session
      ∙ ap (λ (s : State Name Name). drop (length other.session.outstanding) s.outstanding) sessions in (
        one_text (Some (packed_text (placements_made old new))) (Some (packed_text (placements_made other other_new))) text other_text
            (ap (λ ps. Some (packed_text ps)) made) is other_is,
        record { session = sessions; boxes = rw (boxes, other_boxes) no_boxes-alike },
      )
  packed (Ok numbers) (Err error) (step, boxes) (other_step, other_boxes) is other_is =
      absurd (let same = packs-one (Packed numbers) (Refused error) step other_step (λ e. cc e) (has_memory error [] other_text other_is) in cc same.0)
  packed (Err error) (Ok numbers) (step, boxes) (other_step, other_boxes) is other_is =
      absurd (let same = packs-one (Refused error) (Packed numbers) step other_step (has_memory error [] text is) (λ e. cc e) in cc same.0)
  packed (Err error) (Err other_error) (step, boxes) (other_step, other_boxes) is other_is =
      let (replies, sessions) = packs-one (Refused error) (Refused other_error) step other_step (has_memory error [] text is) (has_memory other_error [] other_text other_is) in
      let errors : error ≡ other_error = cc replies in (
        one_text (refusal_text error []) (refusal_text other_error []) text other_text (ap (λ e. refusal_text e []) errors) is other_is,
        record { session = sessions; boxes = rw (boxes, other_boxes) alike.boxes },
      )

  pub Answers-one : (request : Request) → IsSession name_cmp old.session → Answers request old text new → Answers request other other_text other_new → Same
  Answers-one asks.Nothing h a b = unchanged (a.0 ∙ sym b.0) a.1 b.1
  Answers-one (asks.Bin name size) h a b = changed-session (AddsBin name_cmp name (size_of size)) name (AddsBin-one exact_bytes name (size_of size) old.session) a b
  Answers-one (asks.Rect id size groups) h a b =
      changed-boxes (TakesBox id (size_of size) (groups_of groups)) id (taken id (size_of size) (groups_of groups)) a b
  Answers-one (asks.Exclude one other_one) h a b =
      changed-boxes (λ before after. Excludes group_order before after (Grouped one) (Grouped other_one)) one
      (excluded (Grouped one) (Grouped other_one)) a b
  Answers-one asks.Pack h (answer, packs, is) (other_answer, other_packs, other_is) = packed answer other_answer packs other_packs is other_is
  Answers-one (asks.Release number) h a b = changed-session (Releases name_cmp number) (decimal number) (Releases-one exact_bytes number old.session h) a b
  Answers-one (asks.Sections name) h a b =
      unchanged (one_text (found_text sections_text (sections_in old.session name) name) _ text other_text
      (ap (λ s. found_text sections_text (sections_in s name) name) alike.session) a.0 b.0) a.1 b.1
  Answers-one (asks.Coalesce name idx start end) h a b =
      changed-session (Coalesces name_cmp (IsJoined idx start end) name) name
      (Coalesces-one exact_bytes (IsJoined idx start end) (λ x y z p q. IsJoined-one p q) name old.session) a b
  Answers-one (asks.Sweep name) h a b =
      changed-session (Coalesces name_cmp IsSwept name) name (Coalesces-one exact_bytes IsSwept (λ x. IsSwept-one (length x) x) name old.session) a b
  Answers-one (asks.Stats name) h a b =
      unchanged (one_text (found_text sums_text (stats_in name_cmp old.session name) name) _ text other_text
      (ap (λ s. found_text sums_text (stats_in name_cmp s name) name) alike.session) a.0 b.0) a.1 b.1
