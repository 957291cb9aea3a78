-- What is written part by part is the whole line.
use Rattle.std.proofs.Common.{◌≡◌, ℕ, List, [], ◌∷◌, ◌++◌, Option, IsErrAnd, codes, get_or, length, take, take_all, sym, ap, ◌∙◌, subst, refl, append_assoc, ◌<◌, ◌≤◌}
use Rattle.std.specs.Fmt.{decimal}
use Rattle.std.specs.List.{flat_map}
use Rattle.std.specs.Io.KnownBytes.{Appends}
use Rattle.packrun_lines.specs.Ends.{Ended}
use Rattle.packrun_lines.specs.Printing.{AppendsStart}
use Rattle.packrun_lines.specs.private.Printing.{Prints}
use Rattle.packrun_lines.specs.declared.stop.Stop.{Stop}
use Rattle.packrun_lines.specs.declared.stop.Stop.TheVariants.{IoFailed}
use Rattle.packrun_lines.proofs.lemmas.Printing.{Prints-behind, Prints-item_stopped}

-- a line for each item of a list, and behind a word how many they are
abbrev pub counted_text : {T : Type 0} → (T → List ℕ) → (word : List ℕ) → List T → List ℕ
counted_text text word items = flat_map text items ++ word ++ decimal (length items) ++ codes "\n"

counted_text-parts : {T : Type 0} (text : T → List ℕ) (word : List ℕ) (items : List T)
    → flat_map text items ++ (word ++ decimal (length items) ++ codes "\n") ≡ counted_text text word items
counted_text-parts text word items =
    let lines = flat_map text items in
    let count = decimal (length items) in
    sym (append_assoc lines (word ++ count) (codes "\n")) ∙ ap (λ (l : List ℕ). l ++ codes "\n") (sym (append_assoc lines word count))

module _ {T : Type 0} (text : T → List ℕ) (word : List ℕ) (items : List T) (i : ℕ) (a b c : Option (List ℕ)) (r : Ended) where
  -- all lines are printed, and then their number
  pub Prints-list : length items ≤ i → Appends a b (flat_map text (take i items)) → Prints b c r (word ++ decimal (length items) ++ codes "\n")
      → Prints a c r (counted_text text word items)
  Prints-list all p q =
      subst (Prints a c r) (counted_text-parts text word items)
      (Prints-behind a b c r (flat_map text items) (word ++ decimal (length items) ++ codes "\n") (subst (λ l. Appends a b (flat_map text l)) (take_all i items all) p) q)

  -- or a line could not be printed
  pub Prints-list_stopped : (item : T) (why : Stop) → i < length items → item ≡ get_or items i item → Appends a b (flat_map text (take i items))
      → (why ≡ IoFailed) × AppendsStart b c (text item) → IsErrAnd r (λ stop. stop ≡ why) → Prints a c r (counted_text text word items)
  Prints-list_stopped item why within read p q failed =
      subst (Prints a c r) (counted_text-parts text word items)
      (Prints-item_stopped text items i item (word ++ decimal (length items) ++ codes "\n") a b c r why within read p q failed)

-- the number and the names of a placement, a space behind each
abbrev pub names_part : List ℕ → List ℕ → List ℕ → List ℕ
names_part number id bin = number ++ (32 ∷ (id ++ (32 ∷ (bin ++ 32 ∷ []))))

pub names_part-same : (n m i j x y : List ℕ) → n ≡ m → i ≡ j → x ≡ y → names_part n i x ≡ names_part m j y
names_part-same n m i j x y number id bin = ap (λ t. t ++ (32 ∷ (i ++ (32 ∷ (x ++ 32 ∷ []))))) number ∙ ap (λ t. m ++ (32 ∷ (t ++ (32 ∷ (x ++ 32 ∷ []))))) id
    ∙ ap (λ t. m ++ (32 ∷ (j ++ (32 ∷ (t ++ 32 ∷ []))))) bin

-- and the box behind them
pub names_part-box : (number id bin box : List ℕ) → names_part number id bin ++ box ≡ number ++ 32 ∷ id ++ 32 ∷ bin ++ 32 ∷ box
names_part-box number id bin box = simp append_assoc refl
