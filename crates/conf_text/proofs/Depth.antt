-- The sections after entries.
use Rattle.std.proofs.Common.{◌≡◌, ℕ, suc, ◌+◌, ◌<◌, ◌≤◌, true, ltb, List, [], ◌∷◌, ◌++◌, length, map, refl, ap, subst, ◌∙◌, arith}
use Rattle.std.proofs.lemmas.List.{map_push}
use Rattle.std.proofs.lemmas.Bool.{ltb-true}
use Rattle.std.specs.Prelude.{not}
use Rattle.conf_text.proofs.Steps.{both_true}
use Rattle.conf_text.specs.Entries.{Value, ConfEntry, Open, Close, Assign, after_entry, after_entries, sections, is_given, keeps_limits}
use Rattle.conf_text.specs.Entries.{keep_limits, IsBalanced}

pub sections-append : (given : List (List (List ℕ))) (es : List ConfEntry) (e : ConfEntry)
    → after_entries given (es ++ e ∷ []) ≡ after_entry (after_entries given es) e
sections-append given [] e = refl
sections-append given (f ∷ es) e = sections-append (after_entry given f) es e

pub after-append : (given : List (List (List ℕ))) (es fs : List ConfEntry)
    → after_entries given (es ++ fs) ≡ after_entries (after_entries given es) fs
after-append given [] fs = refl
after-append given (e ∷ es) fs = after-append (after_entry given e) es fs

pub none-after : (es : List ConfEntry) → after_entries [] es ≡ []
none-after [] = refl
none-after (e ∷ es) = none-after es

pub some_before : (given : List (List (List ℕ))) (es : List ConfEntry) → 0 < length (after_entries given es) → 0 < length given
some_before [] es h = subst (λ x. 0 < length x) (none-after es) h
some_before (names ∷ outer) es h = omega arith

-- one entry more
pub sections_pushed : {E : Type 0} (v : E → ConfEntry) (old new : List E) (e : E) → new ≡ old ++ e ∷ []
    → sections (map v new) ≡ after_entry (sections (map v old)) (v e)
sections_pushed v old new e h =
    ap (λ x. sections (map v x)) h ∙ ap sections (map_push v old e) ∙ sections-append ([] ∷ []) (map v old) (v e)

-- ---- how many sections are open

entry_lengths : (a b : List (List (List ℕ))) (e : ConfEntry) (n : ℕ) → length b ≡ length a + n → 0 < length a
    → length (after_entry b e) ≡ length (after_entry a e) + n
entry_lengths [] b e n same some = absurd (omega (arith, some))
entry_lengths (x ∷ a) [] e n same some = absurd (omega (arith, same))
entry_lengths (x ∷ a) (y ∷ b) (Open name) n same some = omega (arith, same)
entry_lengths (x ∷ a) (y ∷ b) Close n same some = omega (arith, same)
entry_lengths (x ∷ a) (y ∷ b) (Assign name v) n same some = omega (arith, same)

-- with so many more sections round them
pub entries_lengths : (es : List ConfEntry) (a b : List (List (List ℕ))) (n : ℕ) → length b ≡ length a + n → 0 < length (after_entries a es)
    → length (after_entries b es) ≡ length (after_entries a es) + n
entries_lengths [] a b n same some = same
entries_lengths (e ∷ es) a b n same some =
    entries_lengths es (after_entry a e) (after_entry b e) n (entry_lengths a b e n same (some_before a (e ∷ es) some)) some

-- whole sections leave as many open as there were
pub balanced_after : (es : List ConfEntry) (given : List (List (List ℕ))) (n : ℕ) → IsBalanced es → length given ≡ suc n
    → length (after_entries given es) ≡ suc n
balanced_after es given n balanced same =
    let k = entries_lengths es ([] ∷ []) given n (omega (arith, same)) (omega (arith, balanced)) in omega (arith, k, balanced)

pub after_assign : (given : List (List (List ℕ))) (name : List ℕ) (v : Value) (n : ℕ) → length given ≡ suc n
    → length (after_entry given (Assign name v)) ≡ suc n
after_assign [] name v n e = absurd cc
after_assign (names ∷ outer) name v n e = e

pub after_open : (given : List (List (List ℕ))) (name : List ℕ) (n : ℕ) → length given ≡ suc n
    → length (after_entry given (Open name)) ≡ suc (suc n)
after_open [] name n e = absurd cc
after_open (names ∷ outer) name n e = ap suc e

pub after_close : (given : List (List (List ℕ))) (n : ℕ) → length given ≡ suc (suc n) → length (after_entry given Close) ≡ suc n
after_close [] n e = absurd cc
after_close (names ∷ outer) n e = omega (arith, e)

-- a section with its braces is whole
pub section_balanced : (outer inner : List ConfEntry) (name : List ℕ) → IsBalanced outer → IsBalanced inner
    → IsBalanced ((outer ++ Open name ∷ []) ++ (inner ++ Close ∷ []))
section_balanced outer inner name one two =
    let opened = after_open (sections outer) name 0 one in
    let inside = balanced_after inner (after_entry (sections outer) (Open name)) 1 two opened in
    ap length (after-append ([] ∷ []) (outer ++ Open name ∷ []) (inner ++ Close ∷ []))
    ∙ ap (λ g. length (after_entries g (inner ++ Close ∷ []))) (sections-append ([] ∷ []) outer (Open name))
    ∙ ap length (sections-append (after_entry (sections outer) (Open name)) inner Close)
    ∙ after_close (after_entries (after_entry (sections outer) (Open name)) inner) 0 inside

-- ---- not too many are open

entry_limited : (given : List (List (List ℕ))) (e : ConfEntry) → keeps_limits given e ≡ true → length given ≤ 17
    → length (after_entry given e) ≤ 17
entry_limited [] e h k = omega arith
entry_limited (names ∷ outer) (Open name) h k =
    omega (
      arith,
      ltb-true (length (names ∷ outer)) 17
          (both_true (not (is_given (names ∷ outer) name)) (ltb (length (names ∷ outer)) 17) h).1,
    )
entry_limited (names ∷ outer) Close h k = omega (arith, k)
entry_limited (names ∷ outer) (Assign name v) h k = omega (arith, k)

pub entries_limited : (es : List ConfEntry) (given : List (List (List ℕ))) → keep_limits given es ≡ true → length given ≤ 17
    → length (after_entries given es) ≤ 17
entries_limited [] given h k = k
entries_limited (e ∷ es) given h k =
    let (first, others) = both_true (keeps_limits given e) (keep_limits (after_entry given e) es) h in
    entries_limited es (after_entry given e) others (entry_limited given e first k)
