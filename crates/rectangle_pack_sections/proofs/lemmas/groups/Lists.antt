-- The lists of a map whose values are vectors.
use Rattle.rectangle_pack_sections.proofs.Std.{◌≡◌, Bool, List, Some, Vec, option_map, lookup, lookup-map_values, ◌∙◌, ap}
use Rattle.rectangle_pack_sections.specs.Groups.{lists_of}

-- a list that a key has, by the vector that it has
pub lookup-lists : {K X A : Type 0} (test : K → Bool) (es : List (K × Vec X A)) → lookup test (lists_of es) ≡ option_map (λ v. v.items) (lookup test es)
lookup-lists test es = lookup-map_values (λ v. v.items) test es

-- a list that a key has, by the vector that it has
pub list-found : {K X A : Type 0} (test : K → Bool) (es : List (K × Vec X A)) (v : Vec X A) → lookup test es ≡ Some v → lookup test (lists_of es) ≡ Some v.items
list-found {X = X} {A = A} test es v found = lookup-lists test es ∙ ap (option_map (λ (w : Vec X A). w.items)) found
