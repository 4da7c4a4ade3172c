-- The operations in flight, after one was taken out.
use Rattle.std.proofs.Common.{◌≡◌, ◌≢◌, ◌⊎◌, inl, inr, ◌<◌, ℕ, zero, suc, List, [], ◌∷◌, not, ◌==◌, filter, length, take, drop, map, remove}
use Rattle.std.proofs.Common.{get_or, Some, All, AllPairs, Contains, ⊎_elim, refl, sym, ap, subst, ◌∙◌, arith}
use Rattle.std.proofs.lemmas.List.{length-map, get_or-map, map-append, take-map, drop-map}
use Rattle.std.proofs.lemmas.List.Elements.{All-append, All-take, All-drop, Contains-append_right}
use Rattle.std.proofs.lemmas.Bool.Decides.{eqb_tells}
use Rattle.disk_model.specs.Record.{Operation, work_of_tag}
use Rattle.disk_model.specs.State.{tags_of}

-- the one operation has an earlier tag than the other
abbrev IsOlder : Operation → Operation → Type 0
IsOlder o p = o.tag < p.tag

-- what holds of all holds where one is taken out
pub All-remove : {X : Type 0} (P : X → Type 0) (xs : List X) (at : ℕ) → All P xs → All P (remove xs at)
All-remove P xs at h = All-append P (take at xs) (drop (suc at) xs) (All-take P at xs h) (All-drop P (suc at) xs h)

-- the images of what is left
pub map-remove : {X Y : Type 0} (f : X → Y) (xs : List X) (at : ℕ) → map f (remove xs at) ≡ remove (map f xs) at
map-remove f xs at =
    map-append f (take at xs) (drop (suc at) xs)
    ∙ rw (take-map f at xs, drop-map f (suc at) xs) refl

-- a tag finds its operation
pub found_at : (os : List Operation) (at : ℕ) (o : Operation) → at < length os → get_or os at o ≡ o → AllPairs IsOlder os
    → work_of_tag os o.tag ≡ Some o.work
found_at [] at o lt e h = absurd (omega arith)
found_at (p ∷ os) zero o lt e h =
    ⊎_elim (λ same. rw same.0 (ap (λ (v : Operation). Some v.work) e)) (λ other. absurd (other.1 (ap (λ (v : Operation). v.tag) e)))
    (eqb_tells p.tag o.tag)
found_at (p ∷ os) (suc at) o lt e h =
    let before : p.tag < (get_or os at o).tag = h 0 (suc at) o (omega arith) (omega arith) in
    let before' : p.tag < o.tag = subst (λ (v : Operation). p.tag < v.tag) e before in
    ⊎_elim (λ same. absurd (let e' : p.tag ≡ o.tag = same.1 in omega arith))
    (λ other. rw other.0 (found_at os at o (omega arith) e (λ i j d a b. h (suc i) (suc j) d (omega arith) (omega arith))))
    (eqb_tells p.tag o.tag)

-- where every tag is greater, none is left out
filter_none : (os : List Operation) (tag : ℕ) → ((k : ℕ) (d : Operation) → k < length os → tag < (get_or os k d).tag)
    → os ≡ filter (λ (o : Operation). not (o.tag == tag)) os
filter_none [] tag h = refl
filter_none (o ∷ os) tag h =
    let here : tag < o.tag = h 0 o (omega arith) in
    ⊎_elim (λ same. absurd (let e : o.tag ≡ tag = same.1 in omega arith))
    (λ other. rw other.0 (ap (λ (l : List Operation). o ∷ l) (filter_none os tag (λ k d lt. h (suc k) d (omega arith)))))
    (eqb_tells o.tag tag)

-- what is left where one is taken out has the other tags
pub filter_removed : (os : List Operation) (at : ℕ) (o : Operation) → at < length os → get_or os at o ≡ o → AllPairs IsOlder os
    → remove os at ≡ filter (λ (p : Operation). not (p.tag == o.tag)) os
filter_removed [] at o lt e h = absurd (omega arith)
filter_removed (p ∷ os) zero o lt e h =
    let here : os ≡ filter (λ (q : Operation). not (q.tag == p.tag)) (p ∷ os) =
    ⊎_elim (λ same. rw same.0 (filter_none os p.tag (λ k d le. h 0 (suc k) d (omega arith) (omega arith)))) (λ other. absurd (other.1 refl))
    (eqb_tells p.tag p.tag) in
    subst (λ (v : Operation). os ≡ filter (λ (q : Operation). not (q.tag == v.tag)) (p ∷ os)) e here
filter_removed (p ∷ os) (suc at) o lt e h =
    let before : p.tag < (get_or os at o).tag = h 0 (suc at) o (omega arith) (omega arith) in
    let before' : p.tag < o.tag = subst (λ (v : Operation). p.tag < v.tag) e before in
    ⊎_elim (λ same. absurd (let e' : p.tag ≡ o.tag = same.1 in omega arith))
    (λ other. rw other.0 (ap (λ (l : List Operation). p ∷ l)
    (filter_removed os at o (omega arith) e (λ i j d a b. h (suc i) (suc j) d (omega arith) (omega arith)))))
    (eqb_tells p.tag o.tag)

-- of a list and one more in front
contains_cons : (y : ℕ) (ys : List ℕ) (t : ℕ) → Contains (y ∷ ys) t → (y ≡ t) ⊎ Contains ys t
contains_cons y ys t (zero, lt, e) = inl e
contains_cons y ys t (suc k, lt, e) = inr (k, omega arith, e)

-- the others that were ready still are
pub ready_left : (os : List Operation) (at : ℕ) (o : Operation) (t : ℕ) → at < length os → get_or os at o ≡ o → Contains (tags_of os) t
    → t ≢ o.tag → Contains (tags_of (remove os at)) t
ready_left [] at o t lt which was other = absurd (omega arith)
ready_left (p ∷ os) zero o t lt which was other =
    ⊎_elim (λ here. absurd (other (sym here ∙ ap (λ (v : Operation). v.tag) which))) (λ later. later)
    (contains_cons p.tag (tags_of os) t was)
ready_left (p ∷ os) (suc at) o t lt which was other =
    ⊎_elim
    (λ here. (0, omega arith, here))
    (λ later. Contains-append_right (p.tag ∷ []) (tags_of (remove os at)) t (ready_left os at o t (omega arith) which later other))
    (contains_cons p.tag (tags_of os) t was)

-- its tag stands at its place
pub tag_at : (os : List Operation) (at : ℕ) (o : Operation) → at < length os → get_or os at o ≡ o → o.tag ≡ get_or (tags_of os) at 0
tag_at os at o here which = ap (λ (v : Operation). v.tag) (sym which) ∙ sym (get_or-map (λ (v : Operation). v.tag) os at o 0 here)

-- and is among theirs
pub has_tag : (os : List Operation) (at : ℕ) (o : Operation) → at < length os → get_or os at o ≡ o → Contains (tags_of os) o.tag
has_tag os at o here which =
    (at, rw length-map here, get_or-map (λ (v : Operation). v.tag) os at o o.tag here ∙ ap (λ (v : Operation). v.tag) which)

-- the tags of operations in order are in order
pub oldest_first : (os : List Operation) → AllPairs IsOlder os → AllPairs (λ (a b : ℕ). a < b) (tags_of os)
oldest_first [] h i j d lt le = absurd (omega arith)
oldest_first (o ∷ os) h i j d lt le =
    let tag : Operation → ℕ = λ p. p.tag in
    let le' : j < length (o ∷ os) = rw length-map at le in
    let lt' : i < length (o ∷ os) = omega arith in
    rw (get_or-map tag (o ∷ os) i o d lt', get_or-map tag (o ∷ os) j o d le') (h i j o lt le')
