-- The boxes of entries, one more group at a time.
use Rattle.rectangle_pack_sections.proofs.Std.{◌≡◌, ◌++◌, ◌∷◌, [], List, Bor, Vec, refl, ap, sym, ◌∙◌, map, map-append, append-nil, deref_pair, map_push}
use Rattle.std.proofs.lemmas.List.Concat.{flat_map-append}
use Rattle.rectangle_pack_sections.specs.Groups.{lists_of}
use Rattle.rectangle_pack.specs.Needed.{entries}

-- the boxes of the ids of a group are those of its entries
boxes-of_group : {Id K X : Type 0} (f : Id → X) (name : K) (ids : List Id)
    → map (λ (entry : K × Id). f entry.1) (map (λ id. (name, id)) ids) ≡ map f ids
boxes-of_group f name [] = refl
boxes-of_group {X = X} f name (id ∷ ids) = ap (λ (l : List X). f id ∷ l) (boxes-of_group f name ids)

pub boxes-push : {Id K X A : Type 0} (f : Id → X) (seen : List (Bor K × Bor (Vec Id A))) (x : Bor K × Bor (Vec Id A))
    → map (λ (entry : K × Id). f entry.1) (entries (lists_of (map deref_pair seen))) ++ map f x.1.now.items
    ≡ map (λ (entry : K × Id). f entry.1) (entries (lists_of (map deref_pair (seen ++ x ∷ []))))
boxes-push {Id} {K} {X} {A} f seen x =
    let g : K × Id → X = λ entry. f entry.1 in
    let old : List (K × List Id) = lists_of (map deref_pair seen) in
    let group : List (K × Id) = map (λ id. (x.0.now, id)) x.1.now.items in
    let lists : lists_of (map deref_pair (seen ++ x ∷ [])) ≡ old ++ (x.0.now, x.1.now.items) ∷ [] =
    ap lists_of (map_push deref_pair seen x) ∙ map_push (λ (e : K × Vec Id A). (e.0, e.1.items)) (map deref_pair seen) (deref_pair x) in
    let more : entries (old ++ (x.0.now, x.1.now.items) ∷ []) ≡ entries old ++ group =
    flat_map-append (λ (e : K × List Id). map (λ id. (e.0, id)) e.1) old ((x.0.now, x.1.now.items) ∷ [])
    ∙ ap (λ (l : List (K × Id)). entries old ++ l) (append-nil group) in
    ap (λ (l : List X). map g (entries old) ++ l) (sym (boxes-of_group f x.0.now x.1.now.items))
    ∙ sym (map-append g (entries old) group) ∙ sym (ap (map g) (ap entries lists ∙ more))
