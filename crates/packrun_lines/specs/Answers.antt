-- What a request makes of a store, and the text that answers it.
use Rattle.std.specs.Prelude.{◌≡◌, ℕ, List, [], ◌∷◌, Option, Some, None, Result, Ok, Err}
use Rattle.std.specs.Fmt.{decimal}
use Rattle.rectangle_pack.specs.declared.grouped_rects_to_place.Group.TheVariants.{Grouped}
use Rattle.rectangle_pack.specs.declared.session.command.Packed.{Packed}
use Rattle.rectangle_pack.specs.declared.session.command.SessionError.{SessionError}
use Rattle.rectangle_pack.specs.declared.session.command.SessionError.TheVariants.{UnknownBin}
use Rattle.rectangle_pack.specs.Boxes.{Size}
use Rattle.rectangle_pack.specs.Groups.{Excludes}
use Rattle.rectangle_pack.specs.Joining.{IsJoined, IsSwept}
use Rattle.rectangle_pack.specs.Session.{AddsBin, Releases, Coalesces}
use Rattle.packrun_lines.specs.Requests.{Request}
use Rattle.packrun_lines.specs.Requests.Request.{Nothing, Bin, Rect, Exclude, Pack, Release, Sections, Coalesce, Sweep, Stats}
use Rattle.packrun_lines.specs.declared.command.Size.{Size as Sides}
use Rattle.rectangle_pack.specs.Stats.{stats_in}
use Rattle.packrun_lines.specs.Store.{Name, name_cmp, Store, ChangesSession, ChangesBoxes, TakesBox, PacksBoxes, group_order, placements_made, sections_in}
use Rattle.packrun_lines.specs.Lines.{packed_text, sections_text, sums_text, refusal_text, reply_text}

-- the size with these sides
abbrev pub size_of : Sides → Size
size_of s = record { width = s.width; height = s.height; depth = s.depth }

-- the groups that a box is in, where there are any
abbrev pub groups_of : List Name → Option (List Name)
groups_of [] = None
groups_of (group ∷ groups) = Some (group ∷ groups)

-- a call changes the store so, and what it answers has this text. What is named counts only in a refusal: the bin, or the
-- placement. Want of memory has no text, so it answers no line
abbrev pub Replies : (Store → Result (Unit {0}) SessionError → Store → Type 0) → (named : List ℕ) → Store → List ℕ → Store → Type 0
Replies Changes named old text new = (answer : Result (Unit {0}) SessionError) × Changes old answer new × (reply_text answer named ≡ Some text)

-- the text that answers a packing: of each placement that it made, or why it was refused
abbrev pub pack_text : Store → Result Packed SessionError → Store → Option (List ℕ)
pack_text old (Ok numbers) new = Some (packed_text (placements_made old new))
pack_text old (Err error) new = refusal_text error []

-- the text that answers a question: `text` of what is found of the bin of this name, or that there is no such bin
abbrev pub found_text : {X : Type 0} → (X → List ℕ) → Option X → Name → Option (List ℕ)
found_text text (Some found) name = Some (text found)
found_text text None name = refusal_text UnknownBin name

-- what a request makes of a store, by the library's transitions, and the text that answers it
-- Example: a release of placement 3 that is outstanding: the session without it (`Releases`), the same boxes, `ok`
abbrev pub Answers : Request → Store → List ℕ → Store → Type 0
Answers Nothing old text new = (text ≡ []) × (new ≡ old)
Answers (Bin name size) old text new = Replies (ChangesSession (AddsBin name_cmp name (size_of size))) name old text new
Answers (Rect id size groups) old text new = Replies (ChangesBoxes (TakesBox id (size_of size) (groups_of groups))) id old text new
Answers (Exclude one other) old text new =
    Replies (ChangesBoxes (λ before after. Excludes group_order before after (Grouped one) (Grouped other))) one old text new
Answers Pack old text new =
    (answer : Result Packed SessionError) × PacksBoxes old answer new × (pack_text old answer new ≡ Some text)
Answers (Release number) old text new = Replies (ChangesSession (Releases name_cmp number)) (decimal number) old text new
Answers (Sections name) old text new = (found_text sections_text (sections_in old.session name) name ≡ Some text) × (new ≡ old)
Answers (Coalesce name idx start end) old text new = Replies (ChangesSession (Coalesces name_cmp (IsJoined idx start end) name)) name old text new
Answers (Sweep name) old text new = Replies (ChangesSession (Coalesces name_cmp IsSwept name)) name old text new
Answers (Stats name) old text new = (found_text sums_text (stats_in name_cmp old.session name) name ≡ Some text) × (new ≡ old)
