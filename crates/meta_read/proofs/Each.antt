-- Reading all of a list, one after the other.
use Rattle.std.proofs.Common.{◌≡◌, ◌<◌, ◌+◌, ℕ, suc, List, [], ◌∷◌, ◌++◌, length, map, filter_map, drop, get_or, Option, Some, None, Ok}
use Rattle.std.proofs.Common.{Err, refl, ap, sym, ◌∙◌, append_assoc, append-nil, add-one}
use Rattle.std.proofs.Math.Seq.{drop-cons}
use Rattle.meta_model.specs.Keys.{Read, ◌>>=◌, each}
use Rattle.meta_model.specs.declared.refusal.GroupRefusal.{GroupRefusal}

-- what was read, and then what is read of the rest
abbrev pub each_then : {A B : Type 0} → (A → Read B) → List B → List A → Read (List B)
each_then read done rest = each read rest >>= λ more. Ok (done ++ more)

pub regrouped : {B : Type 0} (done : List B) (y : B) (rest : Read (List B))
    → ((rest >>= λ ys. Ok (y ∷ ys)) >>= λ more. Ok (done ++ more)) ≡ (rest >>= λ more. Ok ((done ++ y ∷ []) ++ more))
regrouped done y (Ok ys) = ap Ok (sym (append_assoc done (y ∷ []) ys))
regrouped done y (Err refusal) = refl

-- one more was read
pub each_then_next : {A B : Type 0} (read : A → Read B) (done : List B) (x : A) (y : B) (rest : List A) → read x ≡ Ok y
    → each_then read done (x ∷ rest) ≡ each_then read (done ++ y ∷ []) rest
each_then_next read done x y rest is =
    ap (λ first. (first >>= λ z. each read rest >>= λ zs. Ok (z ∷ zs)) >>= λ more. Ok (done ++ more)) is ∙ regrouped done y (each read rest)

-- the next one is refused
pub each_then_refused : {A B : Type 0} (read : A → Read B) (done : List B) (x : A) (refusal : GroupRefusal) (rest : List A)
    → read x ≡ Err refusal → each_then read done (x ∷ rest) ≡ Err refusal
each_then_refused read done x refusal rest is =
    ap (λ first. (first >>= λ z. each read rest >>= λ zs. Ok (z ∷ zs)) >>= λ more. Ok (done ++ more)) is

pub unchanged : {B : Type 0} (all : Read (List B)) → (all >>= λ more. Ok ([] ++ more)) ≡ all
unchanged (Ok xs) = refl
unchanged (Err refusal) = refl

-- at first nothing was read
pub each_then_start : {A B : Type 0} (read : A → Read B) (all : List A) → each read all ≡ each_then read [] all
each_then_start read all = sym (unchanged (each read all))

-- at last all was
pub each_then_end : {A B : Type 0} (read : A → Read B) (done : List B) → each_then read done [] ≡ Ok done
each_then_end read done = ap Ok (append-nil done)

pub drop_at : {A : Type 0} (xs : List A) (at : ℕ) (x d : A) → at < length xs → x ≡ get_or xs at d → drop at xs ≡ x ∷ drop (at + 1) xs
drop_at xs at x d within is =
    drop-cons xs at d within ∙ ap (λ y. y ∷ drop (suc at) xs) (sym is) ∙ ap (λ n. x ∷ drop n xs) (sym (add-one at))

-- a turn of a loop that reads each of a mapped list
pub each_turn : {A B C : Type 0} (read : A → Read B) (view : C → A) (xs : List C) (at : ℕ) (x d : C) (done now : List B) (y : B)
    (all : Read (List B)) → at < length xs → x ≡ get_or xs at d
    → read (view x) ≡ Ok y → now ≡ done ++ y ∷ [] → all ≡ each_then read done (map view (drop at xs))
    → all ≡ each_then read now (map view (drop (at + 1) xs))
each_turn read view xs at x d done now y all within is reads grown before =
    before
    ∙ ap (λ rest. each_then read done (map view rest)) (drop_at xs at x d within is)
    ∙ each_then_next read done (view x) y (map view (drop (at + 1) xs)) reads
    ∙ ap (λ z. each_then read z (map view (drop (at + 1) xs))) (sym grown)

-- a turn at which the next one is refused
pub each_turn_refused : {A B C : Type 0} (read : A → Read B) (view : C → A) (xs : List C) (at : ℕ) (x d : C) (done : List B)
    (refusal : GroupRefusal) (all : Read (List B)) → at < length xs → x ≡ get_or xs at d
    → read (view x) ≡ Err refusal → all ≡ each_then read done (map view (drop at xs)) → all ≡ Err refusal
each_turn_refused read view xs at x d done refusal all within is reads before =
    before
    ∙ ap (λ rest. each_then read done (map view rest)) (drop_at xs at x d within is)
    ∙ each_then_refused read done (view x) refusal (map view (drop (at + 1) xs)) reads

filter_map_kept : {A B : Type 0} (keep : A → Option B) (x : A) (y : B) (xs : List A) → keep x ≡ Some y
    → filter_map keep (x ∷ xs) ≡ y ∷ filter_map keep xs
filter_map_kept keep x y xs is = rw is refl

filter_map_passed : {A B : Type 0} (keep : A → Option B) (x : A) (xs : List A) → keep x ≡ None
    → filter_map keep (x ∷ xs) ≡ filter_map keep xs
filter_map_passed keep x xs is = rw is refl

-- a turn of a loop that reads those of a mapped list that are kept
pub each_kept_turn : {A B C D : Type 0} (read : D → Read B) (keep : A → Option D) (view : C → A) (xs : List C) (at : ℕ) (x d : C) (kept : D)
    (done now : List B) (y : B) (all : Read (List B)) → at < length xs → x ≡ get_or xs at d
    → keep (view x) ≡ Some kept → read kept ≡ Ok y → now ≡ done ++ y ∷ []
    → all ≡ each_then read done (filter_map keep (map view (drop at xs)))
    → all ≡ each_then read now (filter_map keep (map view (drop (at + 1) xs)))
each_kept_turn read keep view xs at x d kept done now y all within is keeps reads grown before =
    before
    ∙ ap (λ rest. each_then read done (filter_map keep (map view rest))) (drop_at xs at x d within is)
    ∙ ap (each_then read done) (filter_map_kept keep (view x) kept (map view (drop (at + 1) xs)) keeps)
    ∙ each_then_next read done kept y (filter_map keep (map view (drop (at + 1) xs))) reads
    ∙ ap (λ z. each_then read z (filter_map keep (map view (drop (at + 1) xs)))) (sym grown)

-- a turn that passes one over
pub each_passed_turn : {A B C D : Type 0} (read : D → Read B) (keep : A → Option D) (view : C → A) (xs : List C) (at : ℕ) (x d : C)
    (done now : List B) (all : Read (List B)) → at < length xs → x ≡ get_or xs at d
    → keep (view x) ≡ None → now ≡ done → all ≡ each_then read done (filter_map keep (map view (drop at xs)))
    → all ≡ each_then read now (filter_map keep (map view (drop (at + 1) xs)))
each_passed_turn read keep view xs at x d done now all within is passes stays before =
    before
    ∙ ap (λ rest. each_then read done (filter_map keep (map view rest))) (drop_at xs at x d within is)
    ∙ ap (each_then read done) (filter_map_passed keep (view x) (map view (drop (at + 1) xs)) passes)
    ∙ ap (λ z. each_then read z (filter_map keep (map view (drop (at + 1) xs)))) (sym stays)
