-- What is answered keeps what holds of a session always.
use Rattle.std.proofs.lemmas.List.Elements.{All-nil}
use Rattle.std.proofs.Common.{rules, ◌≡◌, ℕ, List, [], ◌∷◌, ◌++◌, Result, Ok, Err, refl, ap, sym, ◌∙◌, subst, append_assoc}
use Rattle.std.proofs.lemmas.Cmp.{nat_list_cmp_total}
use Rattle.rectangle_pack.specs.declared.session.command.Command.{Command}
use Rattle.rectangle_pack.specs.declared.session.command.Command.TheVariants.{AddBin, Pack, Release, Coalesce, CoalesceAll}
use Rattle.rectangle_pack.specs.declared.session.command.Reply.{Reply}
use Rattle.rectangle_pack.specs.declared.session.command.SessionError.{SessionError}
use Rattle.rectangle_pack.specs.declared.grouped_rects_to_place.Group.TheVariants.{Grouped}
use Rattle.rectangle_pack.specs.declared.session.command.Packed.{Packed}
use Rattle.rectangle_pack.specs.Groups.{Collection, Excludes}
use Rattle.rectangle_pack.specs.Session.{State, IsSession, IsTransition, reply_of, packed_reply}
use Rattle.rectangle_pack.proofs.lemmas.session.Transitions.{kept-transition}
use Rattle.packrun_lines.specs.Requests.{Request}
use Rattle.packrun_lines.specs.Requests as asks
use Rattle.packrun_lines.specs.Answers.{Answers, size_of, groups_of}
use Rattle.packrun_lines.specs.Store.{Name, name_cmp, Store, ChangesBoxes, TakesBox, PacksBoxes, group_order, volume_rules}
use Rattle.packrun_lines.specs.Transcripts.{AreAnswered}

-- a transition of the session of a store
kept : (command : Command Name Name Name ℕ) (old new : State Name Name) (reply : Reply)
    → IsTransition group_order volume_rules command old reply new
    → IsSession name_cmp old → IsSession name_cmp new
kept command old new reply t h = (kept-transition group_order volume_rules nat_list_cmp_total command old reply new t h).0

-- a session that stays
stays : (old new : State Name Name) → new ≡ old → IsSession name_cmp old → IsSession name_cmp new
stays old new same h = subst (λ s. IsSession name_cmp s) (sym same) h

-- what changes the boxes alone
boxes-kept : (MayChange : Collection Name Name → Collection Name Name → Type 0) (old new : Store) (answer : Result (Unit {0}) SessionError) → ChangesBoxes MayChange old answer new
    → IsSession name_cmp old.session → IsSession name_cmp new.session
boxes-kept MayChange old new (Ok done) c h = stays old.session new.session c.1 h
boxes-kept MayChange old new (Err error) c h = stays old.session new.session (ap (λ (d : Store). d.session) c.1) h

packs-kept : (old new : Store) (answer : Result Packed SessionError) → PacksBoxes old answer new → IsSession name_cmp old.session → IsSession name_cmp new.session
packs-kept old new (Ok numbers) p h = kept (Pack old.boxes) old.session new.session (packed_reply (Ok numbers)) p.0 h
packs-kept old new (Err error) p h = kept (Pack old.boxes) old.session new.session (packed_reply (Err error)) p.0 h

-- a request
pub Answers-kept : (request : Request) (old new : Store) (text : List ℕ) → Answers request old text new
    → IsSession name_cmp old.session → IsSession name_cmp new.session
Answers-kept asks.Nothing old new text a h = stays old.session new.session (ap (λ (d : Store). d.session) a.1) h
Answers-kept (asks.Bin name size) old new text (answer, change, is) h =
    kept (AddBin name size.width size.height size.depth) old.session new.session (reply_of answer) change.0 h
Answers-kept (asks.Rect id size groups) old new text (answer, change, is) h =
    boxes-kept (TakesBox id (size_of size) (groups_of groups)) old new answer change h
Answers-kept (asks.Exclude one other) old new text (answer, change, is) h =
    boxes-kept (λ before after. Excludes group_order before after (Grouped one) (Grouped other)) old new answer change h
Answers-kept asks.Pack old new text (answer, packs, is) h = packs-kept old new answer packs h
Answers-kept (asks.Release number) old new text (answer, change, is) h = kept (Release number) old.session new.session (reply_of answer) change.0 h
Answers-kept (asks.Sections name) old new text a h = stays old.session new.session (ap (λ (d : Store). d.session) a.1) h
Answers-kept (asks.Coalesce name idx start end) old new text (answer, change, is) h =
    kept (Coalesce name idx start end) old.session new.session (reply_of answer) change.0 h
Answers-kept (asks.Sweep name) old new text (answer, change, is) h = kept (CoalesceAll name) old.session new.session (reply_of answer) change.0 h
Answers-kept (asks.Stats name) old new text a h = stays old.session new.session (ap (λ (d : Store). d.session) a.1) h

-- and lines
pub AreAnswered-kept : (lines : List (List ℕ)) (old new : Store) (text : List ℕ) → AreAnswered old lines text new
    → IsSession name_cmp old.session → IsSession name_cmp new.session
AreAnswered-kept [] old new text (none, same) h = stays old.session new.session (ap (λ (d : Store). d.session) same) h
AreAnswered-kept (line ∷ lines) old new text (request, asks, first, next, answers, later, others, is) h =
    AreAnswered-kept lines next new later others (Answers-kept request old next first answers h)

-- lines are answered up to any of them, and then the others
pub AreAnswered-split : (before behind : List (List ℕ)) (old new : Store) (text : List ℕ) → AreAnswered old (before ++ behind) text new
    → (first later : List ℕ) × (between : Store) × AreAnswered old before first between × AreAnswered between behind later new × (text ≡ first ++ later)
AreAnswered-split [] behind old new text answers = ([], text, old, (refl, refl), answers, refl)
AreAnswered-split (line ∷ before) behind old new text (request, asks, one, next, answers, more, others, is) =
    let (first, later, between, front, back, splits) = AreAnswered-split before behind next new more others in (
      one ++ first,
      later,
      between,
      (request, asks, one, next, answers, first, front, refl),
      back,
      is ∙ ap (λ t. one ++ t) splits ∙ sym (append_assoc one first later),
    )

-- a session without bins
pub IsSession-empty : (first : ℕ) → IsSession {Id = Name} name_cmp (record { bins = []; outstanding = []; next = first })
IsSession-empty first = record {
  covered = λ id bin there. absurd (cc there);
  from_cuts = λ id bin there. absurd (cc there);
  known = All-nil _;
  rising = search rules;
  below = All-nil _;
}
