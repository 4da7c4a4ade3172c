-- The first two areas that share a byte, searched for area by area.
use Rattle.std.proofs.Common.{◌≡◌, ℕ, ◌+◌, ◌<◌, ◌≤◌, Bool, true, false, cond, Option, Some, None, List, [], ◌∷◌, length, drop, get_or, map}
use Rattle.std.proofs.Common.{refl, ap, ◌∙◌}
use Rattle.std.proofs.lemmas.List.{at_drop_more, at_drop_all}
use Rattle.std.proofs.lemmas.List.Elements.{All-nil, All-cons}
use Rattle.std.proofs.lemmas.List.Folds.{find-append}
use Rattle.std.specs.List.{find, All}
use Rattle.std.specs.Option.{option_map, option_or}
use Rattle.pv_header.specs.declared.extent_list.Extent.{Extent}
use Rattle.pv_header.specs.Areas.{shares_byte, pairs_of, first_overlap}

-- a search goes past an element that fails, and stops at one that passes
pub find-fails : {X : Type 0} (p : X → Bool) (xs : List X) (i : ℕ) (d : X) → i < length xs → p (get_or xs i d) ≡ false
    → find p (drop i xs) ≡ find p (drop (i + 1) xs)
find-fails p xs i d h e = at_drop_more (find p) xs i d h ∙ ap (λ b. cond b (Some (get_or xs i d)) (find p (drop (i + 1) xs))) e

pub find-passes : {X : Type 0} (p : X → Bool) (xs : List X) (i : ℕ) (d : X) → i < length xs → p (get_or xs i d) ≡ true
    → find p (drop i xs) ≡ Some (get_or xs i d)
find-passes p xs i d h e = at_drop_more (find p) xs i d h ∙ ap (λ b. cond b (Some (get_or xs i d)) (find p (drop (i + 1) xs))) e

find-map : {X Y : Type 0} (p : Y → Bool) (f : X → Y) (xs : List X) → find p (map f xs) ≡ option_map f (find (λ x. p (f x)) xs)
find-map p f [] = refl
find-map p f (x ∷ xs) = split (p (f x)) (find-map p f xs)
  where
    split : (b : Bool) → find p (map f xs) ≡ option_map f (find (λ x. p (f x)) xs)
        → cond b (Some (f x)) (find p (map f xs)) ≡ option_map f (cond b (Some x) (find (λ x. p (f x)) xs))
    split true h = refl
    split false h = h

-- no element of a list passes, where none is found
pub All-from_find : {X : Type 0} (p : X → Bool) (xs : List X) → find p xs ≡ None → All (λ x. p x ≡ false) xs
All-from_find p [] h = All-nil (λ x. p x ≡ false)
All-from_find p (x ∷ xs) h =
    let both = fails (p x) h in
    All-cons (λ x. p x ≡ false) x xs both.0 (All-from_find p xs both.1)
  where
    fails : (b : Bool) → cond b (Some x) (find p xs) ≡ None → (b ≡ false) × (find p xs ≡ None)
    fails true h = cc
    fails false h = (refl, h)

-- the first overlap of the areas from a place on
pub overlap_from : List Extent → ℕ → ℕ → Option (Extent × Extent)
overlap_from areas disk_bytes i = find (λ pair. shares_byte areas disk_bytes pair.0 pair.1) (pairs_of (drop i areas))

pub overlap_from-start : (areas : List Extent) (disk_bytes : ℕ) → first_overlap areas disk_bytes ≡ overlap_from areas disk_bytes 0
unfolding first_overlap overlap_from
overlap_from-start areas disk_bytes = refl

pub overlap_from-end : (areas : List Extent) (disk_bytes i : ℕ) → length areas ≤ i → overlap_from areas disk_bytes i ≡ None
unfolding overlap_from
overlap_from-end areas disk_bytes i h =
    at_drop_all (λ list. find (λ pair. shares_byte areas disk_bytes pair.0 pair.1) (pairs_of list)) areas i h

-- the area at a place with the later ones, and then the rest
pub overlap_from-more : (areas : List Extent) (disk_bytes i : ℕ) (d : Extent) → i < length areas
    → overlap_from areas disk_bytes i
    ≡ option_or (option_map (λ other. (get_or areas i d, other))
    (find (shares_byte areas disk_bytes (get_or areas i d)) (drop (i + 1) areas))) (overlap_from areas disk_bytes (i + 1))
unfolding overlap_from
overlap_from-more areas disk_bytes i d h =
    let p : Extent × Extent → Bool = λ pair. shares_byte areas disk_bytes pair.0 pair.1 in
    let area : Extent = get_or areas i d in
    let later : List Extent = drop (i + 1) areas in
    at_drop_more (λ list. find p (pairs_of list)) areas i d h
    ∙ find-append p (map (λ other. (area, other)) later) (pairs_of later)
    ∙ ap (λ (o : Option (Extent × Extent)). option_or o (find p (pairs_of later))) (find-map p (λ other. (area, other)) later)
