-- What is written part by part is the whole line; what could not be written leaves a beginning of it.
use Rattle.std.proofs.Common.{◌≡◌, ℕ, List, [], ◌∷◌, ◌++◌, Option, Ok, Err, IsErrAnd, length, take, drop, get_or, take_all, take-append-drop, ◌+◌, ◌<◌, ◌==◌, true, ne_eqb, length-drop, ◌-◌, arith, sym, ap, subst, ◌∙◌, append-nil, append_assoc}
use Rattle.std.specs.List.{flat_map}
use Rattle.std.proofs.lemmas.List.{take_more, drop_more, flat_map_more}
use Rattle.std.proofs.lemmas.Grind.{flat_map-append}
use Rattle.std.specs.Io.KnownBytes.{Appends, Keeps}
use Rattle.std.proofs.KnownBytes.{Appends-trans, Appends-kept}
use Rattle.packrun_lines.specs.Ends.{Ended}
use Rattle.packrun_lines.specs.Printing.{AppendsStart}
use Rattle.packrun_lines.specs.declared.stop.Stop.{Stop}
use Rattle.packrun_lines.specs.declared.stop.Stop.TheVariants.{IoFailed}
use Rattle.packrun_lines.specs.private.Printing.{Prints}

-- a beginning of a text behind another is a beginning of both
pub AppendsStart-behind : (a b c : Option (List ℕ)) (before text : List ℕ) → Appends a b before → AppendsStart b c text → AppendsStart a c (before ++ text)
AppendsStart-behind a b c before text p (front, rest, is, appends) =
    (before ++ front, rest, ap (λ t. before ++ t) is ∙ sym (append_assoc before front rest), Appends-trans a b c before front p appends)

-- a beginning of a text is one of a longer text
pub AppendsStart-longer : (a b : Option (List ℕ)) (text later : List ℕ) → AppendsStart a b text → AppendsStart a b (text ++ later)
AppendsStart-longer a b text later (front, rest, is, appends) =
    (front, rest ++ later, ap (λ t. t ++ later) is ∙ append_assoc front rest later, appends)

-- all of a text is a beginning of it
pub AppendsStart-all : (a b : Option (List ℕ)) (text : List ℕ) → Appends a b text → AppendsStart a b text
AppendsStart-all a b text appends = (text, [], sym (append-nil text), appends)

-- and stays one where it is kept
pub AppendsStart-kept : (a b c : Option (List ℕ)) (text : List ℕ) → AppendsStart a b text → Keeps b c → AppendsStart a c text
AppendsStart-kept a b c text (front, rest, is, appends) kept = (front, rest, is, Appends-kept a b c front appends kept)

-- a text that is printed behind another
pub Prints-behind : (a b c : Option (List ℕ)) (r : Ended) (front text : List ℕ) → Appends a b front → Prints b c r text
    → Prints a c r (front ++ text)
Prints-behind a b c (Ok _) front text p q = Appends-trans a b c front text p q
Prints-behind a b c (Err stop) front text p q = (q.0, AppendsStart-behind a b c front text p q.1)

-- where a text could not be printed behind another, nor could both with what follows
pub Prints-stopped : (a b c : Option (List ℕ)) (r : Ended) (why : Stop) (front text later : List ℕ) → Appends a b front
    → (why ≡ IoFailed) × AppendsStart b c text → IsErrAnd r (λ stop. stop ≡ why) → Prints a c r (front ++ (text ++ later))
Prints-stopped a b c (Ok _) why front text later p q is = absurd is
Prints-stopped a b c (Err stop) why front text later p q is =
    (is ∙ q.0, AppendsStart-behind a b c front (text ++ later) p (AppendsStart-longer b c text later q.1))

-- what a write took is printed, and the rest is left
pub printed-more : (bytes front rest : List ℕ) (count : ℕ) (a b c : Option (List ℕ)) → bytes ≡ front ++ rest → Appends a b front → Appends b c (take count rest)
    → (more : List ℕ) × (bytes ≡ more ++ take (length rest - count) (drop count rest)) × Appends a c more
printed-more bytes front rest count a b c is before taken =
    let left : take (length rest - count) (drop count rest) ≡ drop count rest = take_all (length rest - count) (drop count rest) (omega (arith, length-drop count rest)) in (
      front ++ take count rest,
      is ∙ ap (λ t. front ++ t) (sym (take-append-drop count rest)) ∙ sym (append_assoc front (take count rest) (drop count rest))
          ∙ ap (λ t. (front ++ take count rest) ++ t) (sym left),
      Appends-trans a b c front (take count rest) before taken,
    )

-- all is printed where nothing is left
pub printed-all : (bytes front rest : List ℕ) (a b : Option (List ℕ)) → bytes ≡ front ++ rest → Appends a b front → (length rest == 0) ≡ true → Appends a b bytes
printed-all bytes front [] a b is before none = subst (λ (t : List ℕ). Appends a b t) (sym (append-nil front) ∙ sym is) before
printed-all bytes front (x ∷ rest) a b is before none = absurd (cc (none, ne_eqb (length (x ∷ rest)) 0 (λ e. absurd (omega (arith, e)))))

-- where a write failed, a beginning is printed
pub printed-stopped : (bytes front rest : List ℕ) (a b c : Option (List ℕ)) (r : Ended) (why : Stop) → bytes ≡ front ++ rest → Appends a b front
    → (why ≡ IoFailed) × Keeps b c → IsErrAnd r (λ stop. stop ≡ why) → Prints a c r bytes
printed-stopped bytes front rest a b c (Ok _) why is before q failed = absurd failed
printed-stopped bytes front rest a b c (Err stop) why is before q failed = (failed ∙ q.0, (front, rest, is, Appends-kept a b c front before q.1))

-- the text of a list, and that of its next item
pub Appends-item : {T : Type 0} (text : T → List ℕ) (items : List T) (i : ℕ) (item : T) (a b c : Option (List ℕ)) → i < length items → item ≡ get_or items i item
    → Appends a b (flat_map text (take i items)) → Appends b c (text item) → Appends a c (flat_map text (take (i + 1) items))
Appends-item text items i item a b c within read p q =
    let more = take_more items i item within ∙ ap (λ x. take i items ++ x ∷ []) (sym read) in
    subst (λ l. Appends a c (flat_map text l)) (sym more)
    (subst (Appends a c) (flat_map_more text [] (take i items) item) (Appends-trans a b c _ (text item) p q))

-- where the text of an item could not be printed, nor could that of the list, and what follows
pub Prints-item_stopped : {T : Type 0} (text : T → List ℕ) (items : List T) (i : ℕ) (item : T) (later : List ℕ) (a b c : Option (List ℕ)) (r : Ended) (why : Stop)
    → i < length items → item ≡ get_or items i item → Appends a b (flat_map text (take i items)) → (why ≡ IoFailed) × AppendsStart b c (text item)
    → IsErrAnd r (λ stop. stop ≡ why) → Prints a c r (flat_map text items ++ later)
Prints-item_stopped text items i item later a b c r why within read p q is =
    let front = flat_map text (take i items) in
    let rest = flat_map text (drop (i + 1) items) in
    let here = drop_more items i item within ∙ ap (λ x. x ∷ drop (i + 1) items) (sym read) in
    let split = ap (λ l. flat_map text l) (sym (take-append-drop i items)) ∙ flat_map-append text (take i items) (drop i items)
    ∙ ap (λ l. front ++ flat_map text l) here in
    let whole = ap (λ t. t ++ later) split ∙ append_assoc front (text item ++ rest) later ∙ ap (λ t. front ++ t) (append_assoc (text item) rest later) in
    subst (Prints a c r) (sym whole) (Prints-stopped a b c r why front (text item) (rest ++ later) p q is)

-- the sides are put at the end of a line, and the corner before them
pub put-twice : (corner sides first second : List ℕ) (middle start : ℕ) → length second ≡ 66
    → drop middle first ≡ sides ++ [] → drop start second ≡ corner ++ drop middle first
    → take (66 - start) (drop start second) ≡ corner ++ sides
put-twice corner sides first second middle start long last before =
    take_all (66 - start) (drop start second) (omega (arith, length-drop start second, long))
    ∙ before ∙ ap (λ bytes. corner ++ bytes) (last ∙ append-nil sides)
