-- Bins in a map, without the room of their lists.
use Rattle.rectangle_pack_sections.proofs.Std.{◌≡◌, List, ap, ◌∙◌, Bool, Some, lookup, set_value, keys_of, is_some, option_map, lookup-map_values}
use Rattle.rectangle_pack_sections.proofs.Std.{keys_of-map_values}
use Rattle.rectangle_pack_sections.specs.Bins.{Bin, Held, bins_of}
use Rattle.rectangle_pack_sections.proofs.lemmas.util.Maps.{is_some-keys, set_value-map_values}

-- a map in which one value was written, without the room
pub bins_of-written : {B : Type 0} (test : B → Bool) (old new : List (B × Held)) (w : Held) (bin : Bin) → new ≡ set_value test old w → w.bin ≡ bin
    → bins_of new ≡ set_value test (bins_of old) bin
bins_of-written test old new w bin written is = ap bins_of written ∙ set_value-map_values (λ (h : Held). h.bin) test old w
    ∙ ap (set_value test (bins_of old)) is

-- and one that is looked up
pub lookup-bins_of : {B : Type 0} (test : B → Bool) (es : List (B × Held)) → lookup test (bins_of es) ≡ option_map (λ (h : Held). h.bin) (lookup test es)
lookup-bins_of test es = lookup-map_values (λ (h : Held). h.bin) test es

-- the keys are those of the map
pub keys-bins : {B : Type 0} (es : List (B × Held)) → keys_of (bins_of es) ≡ keys_of es
keys-bins es = keys_of-map_values (λ (h : Held). h.bin) es

-- a bin is in a map exactly if it is in the map without room
pub is_some-bins_of : {B : Type 0} (test : B → Bool) (es : List (B × Held)) → is_some (lookup test (bins_of es)) ≡ is_some (lookup test es)
is_some-bins_of test es = is_some-keys test (bins_of es) es (keys-bins es)

-- what a look-up finds, without its room
pub found-bins_of : {B : Type 0} (test : B → Bool) (now : List (B × Held)) (old : List (B × Bin)) (v : Held) → bins_of now ≡ old → lookup test now ≡ Some v
    → lookup test old ≡ Some v.bin
found-bins_of test now old v same found = rw (← same) (lookup-bins_of test now ∙ ap (option_map (λ (h : Held). h.bin)) found)
