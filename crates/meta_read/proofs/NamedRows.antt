-- Reading all rows of a table, one after the other.
use Rattle.std.proofs.Common.{◌≡◌, ◌<◌, ◌+◌, ℕ, Bool, true, false, not, ◌&&◌, ◌||◌, nat_eq, if◌then◌else◌, List, [], ◌∷◌, ◌++◌, length, map}
use Rattle.std.proofs.Common.{drop, get_or, Ok, Err, is_none, refl, ap, sym, ◌∙◌}
use Rattle.std.proofs.lemmas.List.{map-append}
use Rattle.std.proofs.lemmas.List.Folds.{list_any-append}
use Rattle.std.specs.Cmp.Lexicographic.{pointwise}
use Rattle.lvm_name.specs.Names.{is_among, any_name_refusal}
use Rattle.conf_text.specs.Entries.{ConfEntry}
use Rattle.conf_text.specs.Items.{items}
use Rattle.meta_model.specs.Keys.{Items, Read, ◌>>=◌}
use Rattle.meta_model.specs.Standing.{named}
use Rattle.meta_model.specs.Tables.{names_of}
use Rattle.meta_model.specs.declared.refusal.GroupRefusal.{GroupRefusal}
use Rattle.meta_model.specs.declared.refusal.GroupRefusal.TheVariants.{NoMemory, BadName}
use Rattle.meta_read.specs.Reading.{Gives}
use Rattle.meta_read.proofs.Each.{regrouped, unchanged, drop_at}
use Rattle.meta_read.specs.Rows.{row_of}

-- names that are taken alike give the same rows
named_same : {A : Type 0} (read : Items → Read A) (taken other : List (List ℕ)) (rest : List (List ℕ × List ConfEntry))
    → ((q : List ℕ) → is_among taken q ≡ is_among other q) → named read taken rest ≡ named read other rest
named_same read taken other [] same = refl
named_same read taken other (found ∷ more) same =
    ap (λ b. if is_none (any_name_refusal found.0)
    && not b then (read (items found.1) >>= λ x. named read (found.0 ∷ taken) more >>= λ xs. Ok ((found.0, x) ∷ xs)) else Err
    (BadName found.0)) (same found.0)
    ∙ ap (λ inner. if is_none (any_name_refusal found.0)
    && not (is_among other found.0) then (read (items found.1) >>= λ x. inner >>= λ xs. Ok ((found.0, x) ∷ xs)) else Err (BadName found.0))
    (named_same read (found.0 ∷ taken) (found.0 ∷ other) more (λ q. ap (λ b. pointwise nat_eq q found.0 || b) (same q)))

or-last : (a b : Bool) → (a || (b || false)) ≡ (b || a)
or-last true true = refl
or-last true false = refl
or-last false true = refl
or-last false false = refl

among_last : {A : Type 0} (done : List (List ℕ × A)) (row : List ℕ × A) (q : List ℕ)
    → is_among (row.0 ∷ names_of done) q ≡ is_among (names_of (done ++ row ∷ [])) q
among_last done row q =
    sym (or-last (is_among (names_of done) q) (pointwise nat_eq q row.0))
    ∙ sym (list_any-append (pointwise nat_eq q) (names_of done) (row.0 ∷ []))
    ∙ ap (λ names. is_among names q) (sym (map-append (λ row. row.0) done (row ∷ [])))

free_row : {A : Type 0} (taken : Bool) (found : List ℕ × List ConfEntry) (first : Read A) (follow : List ℕ → Read (List (List ℕ × A)))
    → (if not taken then (first >>= λ x. follow found.0 >>= λ xs. Ok ((found.0, x) ∷ xs)) else Err (BadName found.0))
    ≡ (((if taken then Err (BadName found.0) else Ok found.0) >>= λ name. first >>= λ x. Ok (name, x)) >>= λ row. follow row.0
    >>= λ xs. Ok (row ∷ xs))
free_row true found first follow = refl
free_row false found (Ok x) follow = refl
free_row false found (Err refusal) follow = refl

read_row : {A : Type 0} (is_name : Bool) (taken : List ℕ → Bool) (found : List ℕ × List ConfEntry) (first : Read A)
    (follow : List ℕ → Read (List (List ℕ × A)))
    → (if is_name && not (taken found.0) then (first >>= λ x. follow found.0 >>= λ xs. Ok ((found.0, x) ∷ xs)) else Err (BadName found.0))
    ≡ (((if is_name then Ok found.0 else Err (BadName found.0)) >>= λ name. if taken name then Err (BadName name) else Ok name)
    >>= λ name. first >>= λ x. Ok (name, x)) >>= λ row. follow row.0 >>= λ xs. Ok (row ∷ xs)
read_row true taken found first follow = free_row (taken found.0) found first follow
read_row false taken found first follow = refl

-- what was read, and then what is read of the rest
abbrev pub named_then : {A : Type 0} → (Items → Read A) → List (List ℕ × A) → List (List ℕ × List ConfEntry) → Read (List (List ℕ × A))
named_then read done rest = named read (names_of done) rest >>= λ more. Ok (done ++ more)

named_then_row : {A : Type 0} (read : Items → Read A) (done : List (List ℕ × A)) (found : List ℕ × List ConfEntry)
    (rest : List (List ℕ × List ConfEntry))
    → named_then read done (found ∷ rest) ≡ ((row_of read (names_of done) found >>= λ row. named read (row.0 ∷ names_of done) rest
    >>= λ xs. Ok (row ∷ xs)) >>= λ more. Ok (done ++ more))
named_then_row read done found rest =
    ap (λ all. all >>= λ more. Ok (done ++ more))
    (read_row (is_none (any_name_refusal found.0)) (is_among (names_of done)) found (read (items found.1))
    (λ name. named read (name ∷ names_of done) rest))

-- one more was read
named_then_next : {A : Type 0} (read : Items → Read A) (done : List (List ℕ × A)) (found : List ℕ × List ConfEntry) (row : List ℕ × A)
    (rest : List (List ℕ × List ConfEntry))
    → row_of read (names_of done) found ≡ Ok row → named_then read done (found ∷ rest) ≡ named_then read (done ++ row ∷ []) rest
named_then_next read done found row rest is =
    named_then_row read done found rest
    ∙ ap (λ first. (first >>= λ row. named read (row.0 ∷ names_of done) rest >>= λ xs. Ok (row ∷ xs)) >>= λ more. Ok (done ++ more)) is
    ∙ regrouped done row (named read (row.0 ∷ names_of done) rest)
    ∙ ap (λ rest. rest >>= λ more. Ok ((done ++ row ∷ []) ++ more))
    (named_same read (row.0 ∷ names_of done) (names_of (done ++ row ∷ [])) rest (among_last done row))

-- the next one is refused
named_then_refused : {A : Type 0} (read : Items → Read A) (done : List (List ℕ × A)) (found : List ℕ × List ConfEntry)
    (refusal : GroupRefusal) (rest : List (List ℕ × List ConfEntry))
    → row_of read (names_of done) found ≡ Err refusal → named_then read done (found ∷ rest) ≡ Err refusal
named_then_refused read done found refusal rest is =
    named_then_row read done found rest
    ∙ ap (λ first. (first >>= λ row. named read (row.0 ∷ names_of done) rest >>= λ xs. Ok (row ∷ xs)) >>= λ more. Ok (done ++ more)) is

-- at first nothing was read
pub named_then_start : {A : Type 0} (read : Items → Read A) (all : List (List ℕ × List ConfEntry))
    → named read [] all ≡ named_then read [] all
named_then_start read all = sym (unchanged (named read [] all))

-- a turn of a loop that reads the rows of a mapped list
pub named_turn : {A C : Type 0} (read : Items → Read A) (view : C → List ℕ × List ConfEntry) (xs : List C) (at : ℕ) (x d : C)
    (done now : List (List ℕ × A)) (row : List ℕ × A) (all : Read (List (List ℕ × A))) → at < length xs → x ≡ get_or xs at d
    → row_of read (names_of done) (view x) ≡ Ok row → now ≡ done ++ row ∷ [] → all ≡ named_then read done (map view (drop at xs))
    → all ≡ named_then read now (map view (drop (at + 1) xs))
named_turn read view xs at x d done now row all within is reads grown before =
    before
    ∙ ap (λ rest. named_then read done (map view rest)) (drop_at xs at x d within is)
    ∙ named_then_next read done (view x) row (map view (drop (at + 1) xs)) reads
    ∙ ap (λ z. named_then read z (map view (drop (at + 1) xs))) (sym grown)

-- a turn at which the next one is refused
pub named_turn_refused : {A C : Type 0} (read : Items → Read A) (view : C → List ℕ × List ConfEntry) (xs : List C) (at : ℕ) (x d : C)
    (done : List (List ℕ × A)) (refusal : GroupRefusal) (all : Read (List (List ℕ × A))) → at < length xs → x ≡ get_or xs at d
    → row_of read (names_of done) (view x) ≡ Err refusal → all ≡ named_then read done (map view (drop at xs)) → all ≡ Err refusal
named_turn_refused read view xs at x d done refusal all within is reads before =
    before
    ∙ ap (λ rest. named_then read done (map view rest)) (drop_at xs at x d within is)
    ∙ named_then_refused read done (view x) refusal (map view (drop (at + 1) xs)) reads

-- the same where memory may be wanting
pub named_turn_err : {A C : Type 0} (read : Items → Read A) (view : C → List ℕ × List ConfEntry) (xs : List C) (at : ℕ) (x d : C)
    (done : List (List ℕ × A)) (refusal : GroupRefusal) (all : Read (List (List ℕ × A))) → at < length xs → x ≡ get_or xs at d
    → Gives (row_of read (names_of done) (view x)) (Err refusal) → all ≡ named_then read done (map view (drop at xs))
    → Gives all (Err refusal)
named_turn_err read view xs at x d done NoMemory all within is reads before = tt
named_turn_err read view xs at x d done refusal all within is reads before =
    named_turn_refused read view xs at x d done refusal all within is reads before
