-- Which deferred pieces may have become ready, as pieces enter, start and leave.
use Rattle.std.proofs.Common.{◌≡◌, ◌<◌, ◌≤◌, ℕ, zero, suc, ◌+◌, Bool, true, false, not, cond, ◌&&◌, ◌||◌, List, [], ◌∷◌, ◌++◌, length, get_or}
use Rattle.std.proofs.Common.{take, drop, refl, sym, ap, ◌∙◌, append_assoc, append-nil, arith, true≢false, inl, inr}
use Rattle.std.specs.Prelude.{◌⊎◌, ◌≢◌, ◌==◌, nat_eq, None, Option, Some, remove}
use Rattle.std.specs.List.{insert, list_any}
use Rattle.std.proofs.lemmas.Bool.{eqb-false, eqb-true}
use Rattle.std.proofs.lemmas.List.{get_or_default}
use Rattle.std.proofs.lemmas.List.Folds.{list_any-append}
use Rattle.claim_table.specs.declared.claim.Claim.{Claim}
use Rattle.claim_table.specs.Conflict.{clash}
use Rattle.claim_table.specs.Claims.{Claims, is_free, is_shut_out, is_suspended, ready_after}
use Rattle.claim_table.specs.Steps.{no_claim}
use Rattle.claim_table.specs.Watched.{IsWatched}
use Rattle.claim_table.proofs.FreePieces.{any_blocks, ready_end, ready_here, ready_step}
use Rattle.claim_table.proofs.TableKept.{claims_of}

-- ---- obstacles

-- one of four obstacles stands, where a piece isn't free
blocks_any : (a b c d : Bool) → (not a && not b && not c && not d) ≡ false → (a || b || c || d) ≡ true
blocks_any true b c d h = refl
blocks_any false true c d h = refl
blocks_any false false true d h = refl
blocks_any false false false true h = refl
blocks_any false false false false h = absurd (true≢false h)

-- each of four obstacles, the first two together, stands still
or_four : (a b c d p q r s : Bool) → ((a || b) ≡ true → (p || q) ≡ true) → (c ≡ true → r ≡ true) → (d ≡ true → s ≡ true)
    → (a || b || c || d) ≡ true → (p || q || r || s) ≡ true
or_four true b c d p q r s two third fourth is = first p q (two refl) where
  first : (p q : Bool) → (p || q) ≡ true → (p || q || r || s) ≡ true
  first true q is = refl
  first false true is = refl
  first false false is = absurd (true≢false (sym is))
or_four false true c d p q r s two third fourth is = first p q (two refl) where
  first : (p q : Bool) → (p || q) ≡ true → (p || q || r || s) ≡ true
  first true q is = refl
  first false true is = refl
  first false false is = absurd (true≢false (sym is))
or_four false false true d p q r s two third fourth is = later p q r (third refl) where
  later : (p q r : Bool) → r ≡ true → (p || q || r || s) ≡ true
  later true q r is = refl
  later false true r is = refl
  later false false true is = refl
  later false false false is = absurd (true≢false (sym is))
or_four false false false true p q r s two third fourth is = last p q r s (fourth refl) where
  last : (p q r s : Bool) → s ≡ true → (p || q || r || s) ≡ true
  last true q r s is = refl
  last false true r s is = refl
  last false false true s is = refl
  last false false false true is = refl
  last false false false false is = absurd (true≢false (sym is))
or_four false false false false p q r s two third fourth is = absurd (true≢false (sym is))

stays_blocked : (a b c d p q r s : Bool) → ((a || b) ≡ true → (p || q) ≡ true) → (c ≡ true → r ≡ true) → (d ≡ true → s ≡ true)
    → (not a && not b && not c && not d) ≡ false
    → (not p && not q && not r && not s) ≡ false
stays_blocked a b c d p q r s two third fourth is =
    any_blocks p q r s (or_four a b c d p q r s two third fourth (blocks_any a b c d is))

abbrev pub hits : Claim → List Claim → Bool
hits c others = list_any (λ (d : Claim). clash d c) others

-- ---- the same pieces, where what stands in their way stays

-- what one piece meets: nothing that left has it now that had it not before, and its obstacles stay
pub record Meets (claims now : Claims) (left gone earlier before : List Claim) (c : Claim) : Type 0 where
  pub free : hits c gone ≡ false → hits c left ≡ false
  pub others : hits c gone ≡ false → (hits c claims.started || hits c earlier) ≡ true → (hits c now.started || hits c before) ≡ true
  pub shut : is_shut_out claims c ≡ true → is_shut_out now c ≡ true
  pub suspended : is_suspended claims c.piece.volume ≡ true → is_suspended now c.piece.volume ≡ true

one_blocked : (claims now : Claims) (left gone earlier before : List Claim) (c : Claim) → Meets claims now left gone earlier before c
    → (hits c left ≡ false → is_free claims earlier c ≡ false)
    → hits c gone ≡ false
    → is_free now before c ≡ false
one_blocked claims now left gone earlier before c m was none =
    stays_blocked (hits c claims.started) (hits c earlier) (is_shut_out claims c) (is_suspended claims c.piece.volume)
    (hits c now.started) (hits c before) (is_shut_out now c) (is_suspended now c.piece.volume) (m.others none) m.shut m.suspended
    (was (m.free none))

or_more : (a b p q x : Bool) → ((a || b) ≡ true → (p || q) ≡ true) → (a || (b || x)) ≡ true → (p || (q || x)) ≡ true
or_more true b true q x h is = refl
or_more true b false q x h is = ap (λ (y : Bool). y || x) (h refl)
or_more false true p q x h is = by p q (h refl) where
  by : (p q : Bool) → (p || q) ≡ true → (p || (q || x)) ≡ true
  by true q is = refl
  by false true is = refl
  by false false is = absurd (true≢false (sym is))
or_more false false true q x h is = refl
or_more false false false q true h is = by q where
  by : (q : Bool) → (q || true) ≡ true
  by true = refl
  by false = refl
or_more false false false q false h is = absurd (true≢false (sym is))

one_more : (c x : Claim) (xs : List Claim) → hits c (xs ++ x ∷ []) ≡ (hits c xs || clash x c)
one_more c x xs = list_any-append (λ (d : Claim). clash d c) xs (x ∷ []) ∙ ap (λ (b : Bool). hits c xs || b) (last (clash x c)) where
  last : (b : Bool) → (b || false) ≡ b
  last true = refl
  last false = refl

meets_more : (claims now : Claims) (left gone earlier before : List Claim) (x c : Claim) → Meets claims now left gone earlier before c
    → Meets claims now left gone (earlier ++ x ∷ []) (before ++ x ∷ []) c
meets_more claims now left gone earlier before x c m = record {
  free = m.free;
  others = λ none is.
      let was : (hits c claims.started || (hits c earlier || clash x c)) ≡ true =
      ap (λ (b : Bool). hits c claims.started || b) (sym (one_more c x earlier)) ∙ is in
      ap (λ (b : Bool). hits c now.started || b) (one_more c x before)
      ∙ or_more (hits c claims.started) (hits c earlier) (hits c now.started) (hits c before) (clash x c) (m.others none) was;
  shut = m.shut;
  suspended = m.suspended;
}

pub watch_on : (claims now : Claims) (left gone earlier before later : List Claim)
    → ((c : Claim) → Meets claims now left gone earlier before c)
    → IsWatched claims left earlier later
    → IsWatched now gone before later
watch_on claims now left gone earlier before [] meets is = tt
watch_on claims now left gone earlier before (c ∷ later) meets is = (
  one_blocked claims now left gone earlier before c (meets c) is.0,
  watch_on claims now left gone (earlier ++ c ∷ []) (before ++ c ∷ []) later
      (λ d. meets_more claims now left gone earlier before c d (meets d)) is.1,
)

-- ---- one is taken out of the deferred ones: it left, or started

-- what the others meet: the piece left, or is started now
pub record Meanwhile (claims now : Claims) (left gone : List Claim) (x c : Claim) : Type 0 where
  pub free : hits c gone ≡ false → hits c left ≡ false
  pub others : hits c gone ≡ false → (hits c claims.started || clash x c) ≡ true → hits c now.started ≡ true
  pub shut : is_shut_out claims c ≡ true → is_shut_out now c ≡ true
  pub suspended : is_suspended claims c.piece.volume ≡ true → is_suspended now c.piece.volume ≡ true

or_first : (a b p x : Bool) → ((a || x) ≡ true → p ≡ true) → (a || b) ≡ true → (p || b) ≡ true
or_first true b p x h is = ap (λ (y : Bool). y || b) (h refl)
or_first false true true x h is = refl
or_first false true false x h is = refl
or_first false false p x h is = absurd (true≢false (sym is))

or_gone : (a b p x : Bool) → ((a || x) ≡ true → p ≡ true) → (a || (b || x)) ≡ true → (p || b) ≡ true
or_gone true b p x h is = ap (λ (y : Bool). y || b) (h refl)
or_gone false true true x h is = refl
or_gone false true false x h is = refl
or_gone false false p true h is = ap (λ (y : Bool). y || false) (h refl)
or_gone false false p false h is = absurd (true≢false (sym is))

pub watch_taken : (claims now : Claims) (left gone earlier later : List Claim) (at : ℕ) (x : Claim) → at < length later
    → get_or later at x ≡ x
    → ((c : Claim) → Meanwhile claims now left gone x c)
    → IsWatched claims left earlier later
    → IsWatched now gone earlier (remove later at)
watch_taken claims now left gone earlier [] at x within item meets is = absurd (omega (arith, within))
watch_taken claims now left gone earlier (c ∷ later) zero x within item meets is =
    watch_on claims now left gone (earlier ++ c ∷ []) earlier later
    (λ d. record {
      free = (meets d).free;
      others = λ none hit.
          let was : (hits d claims.started || (hits d earlier || clash x d)) ≡ true =
          ap (λ (b : Bool). hits d claims.started || b)
          (ap (λ (y : Claim). hits d earlier || clash y d) (sym item) ∙ sym (one_more d c earlier)) ∙ hit in
          or_gone (hits d claims.started) (hits d earlier) (hits d now.started) (clash x d) ((meets d).others none) was;
      shut = (meets d).shut;
      suspended = (meets d).suspended;
    }) is.1
watch_taken claims now left gone earlier (c ∷ later) (suc at) x within item meets is = (
  one_blocked claims now left gone earlier earlier c (record {
    free = (meets c).free;
    others = λ none hit. or_first (hits c claims.started) (hits c earlier) (hits c now.started) (clash x c) ((meets c).others none) hit;
    shut = (meets c).shut;
    suspended = (meets c).suspended;
  }) is.0,
  watch_taken claims now left gone (earlier ++ c ∷ []) later at x (omega (arith, within)) item meets is.1,
)

-- ---- one more is deferred

pub watch_pushed : (claims : Claims) (left earlier later : List Claim) (x : Claim) → is_free claims (earlier ++ later) x ≡ false
    → IsWatched claims left earlier later
    → IsWatched claims left earlier (later ++ x ∷ [])
watch_pushed claims left earlier [] x blocked is =
    ((λ none. ap (λ (l : List Claim). is_free claims l x) (sym (append-nil earlier)) ∙ blocked), tt)
watch_pushed claims left earlier (c ∷ later) x blocked is = (
  is.0,
  watch_pushed claims left (earlier ++ c ∷ []) later x
      (ap (λ (l : List Claim). is_free claims l x) (append_assoc earlier (c ∷ []) later) ∙ blocked) is.1,
)

-- ---- what is looked at

-- a piece that clashes with none that left isn't free
pub watched_at : (claims : Claims) (left earlier later : List Claim) (k : ℕ) (d : Claim) → k < length later
    → IsWatched claims left earlier later
    → hits (get_or later k d) left ≡ false
    → is_free claims (earlier ++ take k later) (get_or later k d) ≡ false
watched_at claims left earlier [] k d within is none = absurd (omega (arith, within))
watched_at claims left earlier (c ∷ later) zero d within is none =
    ap (λ (l : List Claim). is_free claims l c) (append-nil earlier) ∙ is.0 none
watched_at claims left earlier (c ∷ later) (suc k) d within is none =
    ap (λ (l : List Claim). is_free claims l (get_or later k d)) (sym (append_assoc earlier (c ∷ []) (take k later)))
    ∙ watched_at claims left (earlier ++ c ∷ []) later k d (omega (arith, within)) is.1 none

none_by : (claims : Claims) (earlier later : List Claim) (c : Claim) (b : Bool) → is_free claims earlier c ≡ b
    → cond b 0 (suc (ready_after claims (earlier ++ c ∷ []) later)) ≡ suc (length later)
    → (ready_after claims (earlier ++ c ∷ []) later ≡ length later → IsWatched claims [] (earlier ++ c ∷ []) later)
    → IsWatched claims [] earlier (c ∷ later)
none_by claims earlier later c true free long rest = absurd (omega (arith, long))
none_by claims earlier later c false blocked long rest = ((λ none. blocked), rest (omega (arith, long)))

-- where none is ready, each conflicts with something
pub none_ready : (claims : Claims) (earlier later : List Claim) → ready_after claims earlier later ≡ length later
    → IsWatched claims [] earlier later
none_ready claims earlier [] is = tt
none_ready claims earlier (c ∷ later) is =
    none_by claims earlier later c (is_free claims earlier c) refl is (none_ready claims (earlier ++ c ∷ []) later)

-- the first that is free is the first that is ready
passed_over : (claims : Claims) (all : List Claim) (d : Claim) (at : ℕ) → at ≤ length all
    → ((k : ℕ) → k < at → is_free claims (take k all) (get_or all k d) ≡ false)
    → ready_after claims [] all ≡ at + ready_after claims (take at all) (drop at all)
passed_over claims all d zero within blocked =
    let same : ready_after claims (take 0 all) (drop 0 all) ≡ ready_after claims [] all = refl in omega (arith, same)
passed_over claims all d (suc at) within blocked =
    let lt : at < length all = omega (arith, within) in
    let so_far = passed_over claims all d at (omega (arith, within)) (λ k below. blocked k (omega (arith, below))) in
    let step = ready_step claims all at d lt (blocked at (omega arith)) in
    let next : ready_after claims (take (at + 1) all) (drop (at + 1) all) ≡ ready_after claims (take (suc at) all) (drop (suc at) all) =
    (let one : at + 1 ≡ suc at = omega arith in ap (λ (n : ℕ). ready_after claims (take n all) (drop n all)) one) in
    omega (arith, so_far, step, next)

pub first_is_ready : (claims : Claims) (all : List Claim) (d : Claim) (at : ℕ) → at ≤ length all
    → ((k : ℕ) → k < at → is_free claims (take k all) (get_or all k d) ≡ false)
    → (at ≡ length all) ⊎ ((at < length all) × (is_free claims (take at all) (get_or all at d) ≡ true))
    → ready_after claims [] all ≡ at
first_is_ready claims all d at within blocked (inl end) =
    let passed = passed_over claims all d at within blocked in
    let none = ready_end claims (take at all) all at (omega (arith, end)) in
    omega (arith, passed, none)
first_is_ready claims all d at within blocked (inr free) =
    let passed = passed_over claims all d at within blocked in
    let here = ready_here claims all at d free.0 free.1 in
    omega (arith, passed, here)

-- one more is looked at, for a piece that left
pub beside_step : (claims : Claims) (x : Claim) (all : List Claim) (at : ℕ) → at < length all
    → (clash x (get_or all at no_claim) && is_free claims (take at all) (get_or all at no_claim)) ≡ false
    → ((k : ℕ) (d : Claim) → k < at → clash x (get_or all k d) ≡ true → is_free claims (take k all) (get_or all k d) ≡ false)
    → (k : ℕ) (d : Claim) → k < at + 1 → clash x (get_or all k d) ≡ true
    → is_free claims (take k all) (get_or all k d) ≡ false
beside_step claims x all at within none so_far k d below clashes = by (nat_eq k at) refl where
  second : (a b : Bool) → a ≡ true → (a && b) ≡ false → b ≡ false
  second true b is none = none
  second false b is none = absurd (true≢false (sym is))

  by : (b : Bool) → nat_eq k at ≡ b → is_free claims (take k all) (get_or all k d) ≡ false
  by true same =
      let its : k ≡ at = eqb-true k at same in
      let item : get_or all at no_claim ≡ get_or all k d =
      get_or_default all at no_claim d within ∙ ap (λ (n : ℕ). get_or all n d) (sym its) in
      ap (λ (n : ℕ). is_free claims (take n all) (get_or all k d)) its
      ∙ ap (λ (c : Claim). is_free claims (take at all) c) (sym item)
      ∙ second (clash x (get_or all at no_claim)) (is_free claims (take at all) (get_or all at no_claim))
      (ap (λ (c : Claim). clash x c) item ∙ clashes) none
  by false apart =
      let other : k ≢ at = eqb-false k at apart in
      so_far k d (omega (arith, below, other)) clashes

-- and one more piece that left
pub left_step : (claims : Claims) (left all : List Claim) (index first next : ℕ) (x : Claim) → index < length left → x ≡ get_or left index x
    → next ≤ first
    → ((k : ℕ) (d : Claim) → k < next → clash x (get_or all k d) ≡ true → is_free claims (take k all) (get_or all k d) ≡ false)
    → ((j k : ℕ) (y d : Claim) → j < index → k < first → clash (get_or left j y) (get_or all k d) ≡ true
    → is_free claims (take k all) (get_or all k d) ≡ false)
    → (j k : ℕ) (y d : Claim) → j < index + 1 → k < next → clash (get_or left j y) (get_or all k d) ≡ true
    → is_free claims (take k all) (get_or all k d) ≡ false
left_step claims left all index first next x within item fewer own so_far j k y d below before clashes = by (nat_eq j index) refl where
  by : (b : Bool) → nat_eq j index ≡ b → is_free claims (take k all) (get_or all k d) ≡ false
  by true same =
      let its : j ≡ index = eqb-true j index same in
      let here : x ≡ get_or left j y =
      item ∙ get_or_default left index x y within ∙ ap (λ (n : ℕ). get_or left n y) (sym its) in
      own k d before (ap (λ (c : Claim). clash c (get_or all k d)) here ∙ clashes)
  by false apart =
      let other : j ≢ index = eqb-false j index apart in
      so_far j k y d (omega (arith, below, other)) (omega (arith, before, fewer)) clashes

-- the first that was found is still one that is ready, or an earlier one is
pub here_still : (claims : Claims) (first next : ℕ)
    → (next ≡ first) ⊎ ((next < first) × (is_free claims (take next claims.deferred) (get_or claims.deferred next no_claim) ≡ true))
    → (first ≡ length claims.deferred)
    ⊎ ((first < length claims.deferred) × (is_free claims (take first claims.deferred) (get_or claims.deferred first no_claim) ≡ true))
    → first ≤ length claims.deferred
    → (next ≡ length claims.deferred)
    ⊎ ((next < length claims.deferred) × (is_free claims (take next claims.deferred) (get_or claims.deferred next no_claim) ≡ true))
here_still claims first next (inl same) (inl end) within = inl (same ∙ end)
here_still claims first next (inl same) (inr free) within =
    inr (
      omega (arith, same, free.0),
      ap (λ (n : ℕ). is_free claims (take n claims.deferred) (get_or claims.deferred n no_claim)) same ∙ free.1,
    )
here_still claims first next (inr earlier) here within = inr (omega (arith, earlier.0, within), earlier.1)

hit_at : (c : Claim) (left : List Claim) → hits c left ≡ true
    → (j : ℕ) × (j < length left) × (clash (get_or left j no_claim) c ≡ true)
hit_at c [] is = absurd (true≢false (sym is))
hit_at c (x ∷ left) is = by (clash x c) refl is (hit_at c left) where
  by : (b : Bool) → clash x c ≡ b → (b || hits c left) ≡ true
      → (hits c left ≡ true → (j : ℕ) × (j < length left) × (clash (get_or left j no_claim) c ≡ true))
      → (j : ℕ) × (j < length (x ∷ left)) × (clash (get_or (x ∷ left) j no_claim) c ≡ true)
  by true here is rest = (0, omega arith, here)
  by false here is rest = let found = rest is in (suc found.0, omega (arith, found.1), found.2)

-- the first of those that were looked at is the first that is ready
pub first_found : (claims : Claims) (left : List Claim) (at : ℕ) → at ≤ length claims.deferred
    → IsWatched claims left [] claims.deferred
    → ((j k : ℕ) (y d : Claim) → j < length left → k < at → clash (get_or left j y) (get_or claims.deferred k d) ≡ true
    → is_free claims (take k claims.deferred) (get_or claims.deferred k d) ≡ false)
    → (at ≡ length claims.deferred)
    ⊎ ((at < length claims.deferred) × (is_free claims (take at claims.deferred) (get_or claims.deferred at no_claim) ≡ true))
    → ready_after claims [] claims.deferred ≡ at
first_found claims left at within watched looked here =
    first_is_ready claims claims.deferred no_claim at within (λ k below. by k below (hits (get_or claims.deferred k no_claim) left) refl) here
  where
    by : (k : ℕ) → k < at → (b : Bool) → hits (get_or claims.deferred k no_claim) left ≡ b
        → is_free claims (take k claims.deferred) (get_or claims.deferred k no_claim) ≡ false
    by k below true is =
        let found = hit_at (get_or claims.deferred k no_claim) left is in
        looked found.0 k no_claim no_claim found.1 below found.2
    by k below false is = watched_at claims left [] claims.deferred k no_claim (omega (arith, below, within)) watched is

-- ---- the calls of a table

or_left_map : (a b p : Bool) → (a ≡ true → p ≡ true) → (a || b) ≡ true → (p || b) ≡ true
or_left_map true b p h is = ap (λ (y : Bool). y || b) (h refl)
or_left_map false true true h is = refl
or_left_map false true false h is = refl
or_left_map false false p h is = absurd (true≢false (sym is))

split_or : (a b : Bool) → (a || b) ≡ false → (a ≡ false) × (b ≡ false)
split_or true b is = absurd (true≢false is)
split_or false b is = (refl, is)

-- one that passes is still there where another is put in, or taken out that doesn't pass
any_put : {X : Type 0} (p : X → Bool) (xs : List X) (at : ℕ) (x : X) → list_any p xs ≡ true → list_any p (insert xs at x) ≡ true
any_put p [] zero x is = absurd (true≢false (sym is))
any_put p [] (suc at) x is = absurd (true≢false (sym is))
any_put p (y ∷ ys) zero x is = by (p x) where
  by : (b : Bool) → (b || list_any p (y ∷ ys)) ≡ true
  by true = refl
  by false = is
any_put p (y ∷ ys) (suc at) x is = later (p y) is (any_put p ys at x) where
  later : (b : Bool) → (b || list_any p ys) ≡ true → (list_any p ys ≡ true → list_any p (insert ys at x) ≡ true)
      → (b || list_any p (insert ys at x)) ≡ true
  later true is rest = refl
  later false is rest = rest is

own_put : {X : Type 0} (p : X → Bool) (xs : List X) (at : ℕ) (x : X) → p x ≡ true → list_any p (insert xs at x) ≡ true
own_put p [] zero x is = ap (λ (b : Bool). b || false) is
own_put p [] (suc at) x is = ap (λ (b : Bool). b || false) is
own_put p (y ∷ ys) zero x is = ap (λ (b : Bool). b || list_any p (y ∷ ys)) is
own_put p (y ∷ ys) (suc at) x is = later (p y) (own_put p ys at x is) where
  later : (b : Bool) → list_any p (insert ys at x) ≡ true → (b || list_any p (insert ys at x)) ≡ true
  later true rest = refl
  later false rest = rest

any_taken : {X : Type 0} (p : X → Bool) (xs : List X) (at : ℕ) (x : X) → get_or xs at x ≡ x → p x ≡ false → list_any p xs ≡ true
    → list_any p (remove xs at) ≡ true
any_taken p [] at x item none is = absurd (true≢false (sym is))
any_taken p (y ∷ ys) zero x item none is =
    ap (λ (b : Bool). b || list_any p ys) (sym none ∙ ap p (sym item)) ∙ is
any_taken p (y ∷ ys) (suc at) x item none is = later (p y) is (any_taken p ys at x item none) where
  later : (b : Bool) → (b || list_any p ys) ≡ true → (list_any p ys ≡ true → list_any p (remove ys at) ≡ true)
      → (b || list_any p (remove ys at)) ≡ true
  later true is rest = refl
  later false is rest = rest is

module _ (started deferred : List Claim) (closed : Option ℕ) (suspended : List ℕ) (spare : ℕ) (left : List Claim)
    (is : IsWatched (claims_of started deferred closed suspended spare) left [] deferred) where
  -- another is started
  pub watch_more : (at : ℕ) (x : Claim) (less : ℕ)
      → IsWatched (claims_of (insert started at x) deferred closed suspended less) left [] deferred
  watch_more at x less =
      watch_on (claims_of started deferred closed suspended spare) (claims_of (insert started at x) deferred closed suspended less) left left
      [] [] deferred
      (λ c. record {
        free = λ none. none;
        others = λ none. or_left_map (hits c started) false (hits c (insert started at x)) (any_put (λ (d : Claim). clash d c) started at x);
        shut = λ s. s;
        suspended = λ s. s;
      }) is

  -- another is deferred
  pub watch_deferred : (x : Claim) (less : ℕ) → is_free (claims_of started deferred closed suspended spare) deferred x ≡ false
      → IsWatched (claims_of started (deferred ++ x ∷ []) closed suspended less) left [] (deferred ++ x ∷ [])
  watch_deferred x less blocked =
      watch_pushed (claims_of started (deferred ++ x ∷ []) closed suspended less) left [] deferred x blocked
      (watch_on (claims_of started deferred closed suspended spare) (claims_of started (deferred ++ x ∷ []) closed suspended less) left left
      [] [] deferred (λ c. record { free = λ none. none; others = λ none hit. hit; shut = λ s. s; suspended = λ s. s }) is)

  gone_first : (x c : Claim) → hits c (left ++ x ∷ []) ≡ false → (hits c left ≡ false) × (clash x c ≡ false)
  gone_first x c none = split_or (hits c left) (clash x c) (sym (one_more c x left) ∙ none)

  -- a started one left
  pub watch_left : (at : ℕ) (x : Claim) → get_or started at x ≡ x
      → IsWatched (claims_of (remove started at) deferred closed suspended spare) (left ++ x ∷ []) [] deferred
  watch_left at x item =
      watch_on (claims_of started deferred closed suspended spare) (claims_of (remove started at) deferred closed suspended spare) left
      (left ++ x ∷ []) [] [] deferred
      (λ c. record {
        free = λ none. (gone_first x c none).0;
        others = λ none. or_left_map (hits c started) false (hits c (remove started at))
            (any_taken (λ (d : Claim). clash d c) started at x item (gone_first x c none).1);
        shut = λ s. s;
        suspended = λ s. s;
      }) is

  without_it : (a x : Bool) → x ≡ false → (a || x) ≡ true → a ≡ true
  without_it true x none is = refl
  without_it false x none is = absurd (true≢false (sym is ∙ none))

  -- a deferred one left
  pub watch_gone : (at : ℕ) (x : Claim) → at < length deferred → get_or deferred at x ≡ x
      → IsWatched (claims_of started (remove deferred at) closed suspended spare) (left ++ x ∷ []) [] (remove deferred at)
  watch_gone at x within item =
      watch_taken (claims_of started deferred closed suspended spare) (claims_of started (remove deferred at) closed suspended spare) left
      (left ++ x ∷ []) [] deferred at x within item
      (λ c. record {
        free = λ none. (gone_first x c none).0;
        others = λ none hit. without_it (hits c started) (clash x c) (gone_first x c none).1 hit;
        shut = λ s. s;
        suspended = λ s. s;
      }) is

  -- a deferred one is started
  pub watch_started : (at place : ℕ) (x : Claim) → at < length deferred → get_or deferred at x ≡ x
      → IsWatched (claims_of (insert started place x) (remove deferred at) closed suspended spare) left [] (remove deferred at)
  watch_started at place x within item =
      watch_taken (claims_of started deferred closed suspended spare)
      (claims_of (insert started place x) (remove deferred at) closed suspended spare) left left [] deferred at x within item
      (λ c. record {
        free = λ none. none;
        others = λ none hit. by c (hits c started) refl hit;
        shut = λ s. s;
        suspended = λ s. s;
      }) is
    where
      by : (c : Claim) (b : Bool) → hits c started ≡ b → (b || clash x c) ≡ true → hits c (insert started place x) ≡ true
      by c true there hit = any_put (λ (d : Claim). clash d c) started place x there
      by c false there hit = own_put (λ (d : Claim). clash d c) started place x hit

  -- more is spare
  pub watch_spare : (more : ℕ) → IsWatched (claims_of started deferred closed suspended more) left [] deferred
  watch_spare more =
      watch_on (claims_of started deferred closed suspended spare) (claims_of started deferred closed suspended more) left left [] [] deferred
      (λ c. record { free = λ none. none; others = λ none hit. hit; shut = λ s. s; suspended = λ s. s }) is

  -- a volume is suspended
  pub watch_suspended : (volume : ℕ) → IsWatched (claims_of started deferred closed (suspended ++ volume ∷ []) spare) left [] deferred
  watch_suspended volume =
      watch_on (claims_of started deferred closed suspended spare) (claims_of started deferred closed (suspended ++ volume ∷ []) spare) left
      left [] [] deferred
      (λ c. record {
        free = λ none. none;
        others = λ none hit. hit;
        shut = λ s. s;
        suspended = λ s. list_any-append (λ (v : ℕ). v == c.piece.volume) suspended (volume ∷ [])
            ∙ ap (λ (b : Bool). b || list_any (λ (v : ℕ). v == c.piece.volume) (volume ∷ [])) s;
      }) is

-- a region is closed
pub watch_closed : (started deferred : List Claim) (suspended : List ℕ) (spare region : ℕ) (left : List Claim)
    → IsWatched (claims_of started deferred None suspended spare) left [] deferred
    → IsWatched (claims_of started deferred (Some region) suspended spare) left [] deferred
watch_closed started deferred suspended spare region left is =
    watch_on (claims_of started deferred None suspended spare) (claims_of started deferred (Some region) suspended spare) left left [] []
    deferred
    (λ c. record {
      free = λ none. none;
      others = λ none hit. hit;
      shut = λ s. absurd (true≢false (sym s));
      suspended = λ s. s;
    }) is
