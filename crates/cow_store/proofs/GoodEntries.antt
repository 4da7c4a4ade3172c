-- Entries stay good once a free slot has a chunk of its own.
use Rattle.std.proofs.Common.{◌≡◌, ◌≢◌, ◌<◌, ℕ, zero, suc, ◌+◌, ◌-◌, not, ◌==◌, ◌&&◌, ◌||◌, cond, Bool, true, false, nat_lt, List, [], ◌∷◌}
use Rattle.std.proofs.Common.{◌++◌, length}
use Rattle.std.proofs.Common.{set, Some, None, All, filter, map, ⊎_elim, refl, sym, ap, subst, ◌∙◌, arith}
use Rattle.std.specs.List.{list_any, position_from, slice_get}
use Rattle.std.proofs.lemmas.Bool.Decides.{eqb_tells, nat_tests}
use Rattle.std.proofs.lemmas.List.Elements.{All-cons, All-head, All-tail}
use Rattle.cow_store.specs.Entries.{chunks_of, is_free, names}
use Rattle.cow_store.specs.Opening.{first_bad, is_bad}
use Rattle.cow_store.proofs.Slots.{first_names, given_not_free}

-- whether a value is among others
abbrev is_among : ℕ → List ℕ → Bool
is_among entry before = list_any (λ other. other == entry) before

among-append : (entry : ℕ) (xs : List ℕ) (y : ℕ) → is_among entry (xs ++ y ∷ []) ≡ (is_among entry xs || (y == entry))
among-append entry [] y = by (y == entry)
  where
    by : (b : Bool) → (b || false) ≡ (false || b)
    by true = refl
    by false = refl
among-append entry (x ∷ xs) y =
    ap (λ (b : Bool). (x == entry) || b) (among-append entry xs y) ∙ by (x == entry) (is_among entry xs) (y == entry)
  where
    by : (a b c : Bool) → (a || (b || c)) ≡ ((a || b) || c)
    by true b c = refl
    by false b c = refl

-- the first entry is good, and so are the others
pub first_good : (chunks : ℕ) (before : List ℕ) (entry : ℕ) (entries : List ℕ) → first_bad chunks before (entry ∷ entries) ≡ None
    → (is_bad chunks before entry ≡ false) × (first_bad chunks (before ++ entry ∷ []) entries ≡ None)
first_good chunks before entry entries good = by (is_bad chunks before entry) refl good
  where
    by : (b : Bool) → is_bad chunks before entry ≡ b
        → cond b (Some (length before, entry)) (first_bad chunks (before ++ entry ∷ []) entries) ≡ None
        → (is_bad chunks before entry ≡ false) × (first_bad chunks (before ++ entry ∷ []) entries ≡ None)
    by true e good = absurd (let h : Some (length before, entry) ≡ None = good in cc)
    by false e good = (e, good)

pub good_more : (chunks : ℕ) (before : List ℕ) (entry : ℕ) (entries : List ℕ) → is_bad chunks before entry ≡ false
    → first_bad chunks (before ++ entry ∷ []) entries ≡ None → first_bad chunks before (entry ∷ entries) ≡ None
good_more chunks before entry entries e good =
    ap (λ (b : Bool). cond b (Some (length before, entry)) (first_bad chunks (before ++ entry ∷ []) entries)) e ∙ good

-- a free entry is good, whatever stands before
pub free_good : (chunks : ℕ) (before : List ℕ) (entry : ℕ) → entry ≡ 0 → is_bad chunks before entry ≡ false
free_good chunks before entry e = ap (λ (n : ℕ). not (is_free n) && (nat_lt chunks n || is_among n before)) e

-- lists that hold the same entries, but for free ones and for one chunk's
abbrev AreLike : ℕ → List ℕ → List ℕ → Type 0
AreLike chunk a b = (entry : ℕ) → entry ≢ 0 → entry ≢ chunk + 1 → is_among entry a ≡ is_among entry b

like_more : (chunk : ℕ) (a b : List ℕ) (y : ℕ) → AreLike chunk a b → AreLike chunk (a ++ y ∷ []) (b ++ y ∷ [])
like_more chunk a b y like entry some other =
    among-append entry a y ∙ ap (λ (t : Bool). t || (y == entry)) (like entry some other) ∙ sym (among-append entry b y)

same_bad : (chunks chunk : ℕ) (a b : List ℕ) (entry : ℕ) → AreLike chunk a b → entry ≢ chunk + 1
    → is_bad chunks a entry ≡ is_bad chunks b entry
same_bad chunks chunk a b entry like other =
    ⊎_elim
    (λ free. free_good chunks a entry free.1 ∙ sym (free_good chunks b entry free.1))
    (λ some. ap (λ (t : Bool). not (is_free entry) && (nat_lt chunks entry || t)) (like entry some.1 other))
    (eqb_tells entry 0)

-- entries without the chunk stay good behind such lists
good_like : (chunks chunk first : ℕ) (entries a b : List ℕ) → AreLike chunk a b → position_from (names chunk) first entries ≡ None
    → first_bad chunks a entries ≡ None → first_bad chunks b entries ≡ None
good_like chunks chunk first [] a b like none good = refl
good_like chunks chunk first (e ∷ es) a b like none good =
    let away = first_names chunk first e es none in
    let h = first_good chunks a e es good in
    let other : e ≢ chunk + 1 = λ is. let t : true ≡ false = sym (eq_true e (chunk + 1) is) ∙ away.0 in cc in
    good_more chunks b e es (sym (same_bad chunks chunk a b e like other) ∙ h.0)
    (good_like chunks chunk (first + 1) es (a ++ e ∷ []) (b ++ e ∷ []) (like_more chunk a b e like) away.1 h.1)
  where
    eq_true : (x y : ℕ) → x ≡ y → (x == y) ≡ true
    eq_true x y is = grind (arith, nat_tests)

-- so they do where the free slot has it
pub good_given : (chunks chunk first slot : ℕ) (entries before : List ℕ) → chunk < chunks → is_among (chunk + 1) before ≡ false
    → position_from (names chunk) first entries ≡ None → slice_get entries slot ≡ Some 0 → first_bad chunks before entries ≡ None
    → first_bad chunks before (set entries slot (chunk + 1)) ≡ None
good_given chunks chunk first slot [] before lt new none free good = cc
good_given chunks chunk first zero (e ∷ es) before lt new none free good =
    let there : e ≡ 0 = cc in
    let away = first_names chunk first e es none in
    let h = first_good chunks before e es good in
    let below : nat_lt chunks (chunk + 1) ≡ false = grind (arith, nat_tests) in
    let fine : is_bad chunks before (chunk + 1) ≡ false =
    ap (λ (t : Bool). not (is_free (chunk + 1)) && (t || is_among (chunk + 1) before)) below
    ∙ ap (λ (t : Bool). not (is_free (chunk + 1)) && (false || t)) new
    ∙ ap (λ (t : Bool). not t && false) (given_not_free chunk) in
    let like : AreLike chunk (before ++ e ∷ []) (before ++ (chunk + 1) ∷ []) =
    λ entry some other.
    among-append entry before e
    ∙ ap (λ (t : Bool). is_among entry before || t) (off e entry (λ is. some (sym is ∙ there)))
    ∙ sym (among-append entry before (chunk + 1)
    ∙ ap (λ (t : Bool). is_among entry before || t) (off (chunk + 1) entry (λ is. other (sym is)))) in
    good_more chunks before (chunk + 1) es fine
    (good_like chunks chunk (first + 1) es (before ++ e ∷ []) (before ++ (chunk + 1) ∷ []) like away.1 h.1)
  where
    off : (x y : ℕ) → (x ≡ y → ⊥) → (x == y) ≡ false
    off x y away = ⊎_elim (λ same. absurd (away same.1)) (λ other. other.0) (eqb_tells x y)
good_given chunks chunk first (suc slot) (e ∷ es) before lt new none free good =
    let away = first_names chunk first e es none in
    let h = first_good chunks before e es good in
    let new' : is_among (chunk + 1) (before ++ e ∷ []) ≡ false =
    among-append (chunk + 1) before e ∙ ap (λ (t : Bool). t || (e == chunk + 1)) new ∙ away.0 in
    good_more chunks before e (set es slot (chunk + 1)) h.0
    (good_given chunks chunk (first + 1) slot es (before ++ e ∷ []) lt new' away.1 free h.1)

-- the chunks of entries, by whether the first is free
chunks_first : (e : ℕ) (es : List ℕ) (b : Bool) → is_free e ≡ b → chunks_of (e ∷ es) ≡ cond b (chunks_of es) ((e - 1) ∷ chunks_of es)
chunks_first e es true is =
    ap (λ (b : Bool). map (λ entry. entry - 1) (cond (not b) (e ∷ filter (λ entry. not (is_free entry)) es)
    (filter (λ entry. not (is_free entry)) es))) is
chunks_first e es false is =
    ap (λ (b : Bool). map (λ entry. entry - 1) (cond (not b) (e ∷ filter (λ entry. not (is_free entry)) es)
    (filter (λ entry. not (is_free entry)) es))) is

chunks_rest : (P : ℕ → Type 0) (e : ℕ) (es : List ℕ) (b : Bool) → is_free e ≡ b → All P (chunks_of (e ∷ es)) → All P (chunks_of es)
chunks_rest P e es true is all = subst (λ (l : List ℕ). All P l) (chunks_first e es true is) all
chunks_rest P e es false is all = All-tail P (e - 1) (chunks_of es) (subst (λ (l : List ℕ). All P l) (chunks_first e es false is) all)

chunks_cons : (P : ℕ → Type 0) (e : ℕ) (es fs : List ℕ) (b : Bool) → is_free e ≡ b → All P (chunks_of (e ∷ es)) → All P (chunks_of fs)
    → All P (chunks_of (e ∷ fs))
chunks_cons P e es fs true is all more = subst (λ (l : List ℕ). All P l) (sym (chunks_first e fs true is)) more
chunks_cons P e es fs false is all more =
    let these : All P ((e - 1) ∷ chunks_of es) = subst (λ (l : List ℕ). All P l) (chunks_first e es false is) all in
    subst (λ (l : List ℕ). All P l) (sym (chunks_first e fs false is))
    (All-cons P (e - 1) (chunks_of fs) (All-head P (e - 1) (chunks_of es) these) more)

-- no other chunk has a slot then
pub chunks_given : (P : ℕ → Type 0) (entries : List ℕ) (slot chunk : ℕ) → P chunk → All P (chunks_of entries)
    → All P (chunks_of (set entries slot (chunk + 1)))
chunks_given P [] slot chunk p all = all
chunks_given P (e ∷ es) zero chunk p all =
    let same : chunk ≡ chunk + 1 - 1 = omega arith in
    subst (λ (l : List ℕ). All P l) (sym (chunks_first (chunk + 1) es false (given_not_free chunk)))
    (All-cons P (chunk + 1 - 1) (chunks_of es) (subst P same p) (chunks_rest P e es (is_free e) refl all))
chunks_given P (e ∷ es) (suc slot) chunk p all =
    chunks_cons P e es (set es slot (chunk + 1)) (is_free e) refl all
    (chunks_given P es slot chunk p (chunks_rest P e es (is_free e) refl all))
