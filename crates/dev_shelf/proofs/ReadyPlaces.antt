-- The place in a list of the item of a number among those that pass a test.
use Rattle.std.proofs.Common.{◌≡◌, ◌<◌, ◌≤◌, ℕ, zero, suc, Bool, true, false, cond, List, [], ◌∷◌, length, take, map, filter, get_or}
use Rattle.std.proofs.Common.{sym, ap, subst, ◌∙◌, arith}
use Rattle.std.proofs.lemmas.List.{get_or-map, length-take}
use Rattle.std.proofs.lemmas.List.Sums.{count_by-le-length, length-filter}

-- of the first so many no more pass than there are
pub few_pass : {X : Type 0} (p : X → Bool) (xs : List X) (i n : ℕ) → n ≡ length (filter p (take i xs)) → n ≤ length xs
few_pass p xs i n many = omega (arith, many, length-filter p (take i xs), count_by-le-length p (take i xs), length-take i xs)

-- where it passes it is the next one of those that do
passes_either : {X : Type 0} (b : Bool) (y x : X) (ys zs : List X) → get_or ys (length zs) x ≡ x
    → get_or (cond b (y ∷ ys) ys) (length (cond b (y ∷ zs) zs)) x ≡ x
passes_either true y x ys zs h = h
passes_either false y x ys zs h = h

pub passes_at : {X : Type 0} (p : X → Bool) (xs : List X) (i : ℕ) (x : X) → i < length xs → x ≡ get_or xs i x → p x ≡ true
    → get_or (filter p xs) (length (filter p (take i xs))) x ≡ x
passes_at p [] i x lt is passes = absurd (omega arith)
passes_at {X} p (y ∷ ys) zero x lt is passes =
    let here : p y ≡ true = subst (λ (z : X). p z ≡ true) is passes in
    subst (λ (b : Bool). get_or (cond b (y ∷ filter p ys) (filter p ys)) 0 x ≡ x) (sym here) (sym is)
passes_at p (y ∷ ys) (suc i) x lt is passes =
    passes_either (p y) y x (filter p ys) (filter p (take i ys)) (passes_at p ys i x (omega arith) is passes)

-- so it has the same tag
pub tag_of_ready : {X : Type 0} (tag : X → ℕ) (p : X → Bool) (xs : List X) (i n : ℕ) (x : X) → i < length xs → x ≡ get_or xs i x
    → p x ≡ true
    → length (filter p (take i xs)) ≡ n → n < length (filter p xs) → get_or (map tag xs) i 0 ≡ get_or (map tag (filter p xs)) n 0
tag_of_ready {X} tag p xs i n x lt is passes many within =
    let found : get_or (filter p xs) n x ≡ x = subst (λ (k : ℕ). get_or (filter p xs) k x ≡ x) many (passes_at p xs i x lt is passes) in
    get_or-map tag xs i x 0 lt ∙ ap tag (sym is) ∙ sym (get_or-map tag (filter p xs) n x 0 within ∙ ap tag found)
