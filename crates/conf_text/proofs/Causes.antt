-- The answer is the tree that the text stands for, or the cause why it has none, and nothing else.
use Rattle.std.proofs.Common.{◌≡◌, ◌≢◌, ℕ, suc, ◌+◌, ◌<◌, ◌≤◌, Bool, true, false, ltb, List, [], ◌∷◌, ◌++◌, length, take, drop, Result, Ok}
use Rattle.std.proofs.Common.{Err, refl, sym, ap, subst, ◌∙◌, append_assoc, length-append, arith, inl, inr}
use Rattle.std.proofs.Math.Seq.{take-length}
use Rattle.std.proofs.lemmas.List.{append-nil, take-append-drop, length-take}
use Rattle.std.proofs.lemmas.Bool.{ltb-true, ltb-false, cases_order, cases_lt}
use Rattle.std.specs.Prelude.{◌⊎◌}
use Rattle.conf_text.specs.declared.refusal.ConfRefusal.{ConfRefusal}
use Rattle.conf_text.specs.declared.refusal.ConfRefusal.TheVariants.{NoMemory, BadToken, Unclosed, DuplicateKey, NumberTooWide, TooDeep}
use Rattle.conf_text.specs.Entries.{ConfEntry, Open}
use Rattle.conf_text.specs.Grammar.{Spells, IsTextOf}
use Rattle.conf_text.specs.Reader.{start, reading}
use Rattle.conf_text.specs.ReaderViews.{Fails}
use Rattle.conf_text.specs.Refusals.{IsDuplicate, IsTooWide, IsTooDeep, KeepsTo, IsOpenString, IsOpenArray, IsOpenBrace, IsInnermost}
use Rattle.conf_text.specs.Refusals.{Begins, IsFirstBad, IsCut, IsBadToken, IsUnclosed, IsCause}
use Rattle.conf_text.proofs.Accepted.{accepted}
use Rattle.conf_text.proofs.OpenEnds.{string_read, array_read, brace_read, begins_last}
use Rattle.conf_text.proofs.Parts.{Halts}
use Rattle.conf_text.proofs.Pieces.{begins_suffix}
use Rattle.conf_text.proofs.Refused.{duplicate_refused, too_wide_refused, too_deep_refused}
use Rattle.conf_text.proofs.Runs.{IsStopped, spelled_read}
use Rattle.conf_text.proofs.Standing.{begins_less, begins_front}
use Rattle.conf_text.proofs.Told.{IsOpen, Tells, reading_told, bad_after}
use Rattle.conf_text.proofs.WordStepping.{some_length}

abbrev refused : ConfRefusal → Result (List ConfEntry) ConfRefusal
refused e = Err e

abbrev read : List ConfEntry → Result (List ConfEntry) ConfRefusal
read es = Ok es

not_both : (es : List ConfEntry) (e : ConfRefusal) → read es ≡ refused e → ⊥
not_both es e h = absurd cc

same_refusal : (e f : ConfRefusal) → refused e ≡ refused f → e ≡ f
same_refusal e f h = cc

-- ---- the bytes at places

abbrev HasByte : List ℕ → ℕ → ℕ → Type 0
HasByte text p b = (z : List ℕ) × (y : List ℕ) × (text ≡ z ++ (b ∷ y)) × (length z ≡ p)

same_byte : (z w x y : List ℕ) (b c : ℕ) → z ++ (b ∷ x) ≡ w ++ (c ∷ y) → length z ≡ length w → b ≡ c
same_byte [] [] x y b c e s = cc
same_byte [] (l ∷ w) x y b c e s = absurd (omega (arith, s))
same_byte (k ∷ z) [] x y b c e s = absurd (omega (arith, s))
same_byte (k ∷ z) (l ∷ w) x y b c e s = let tail : z ++ (b ∷ x) ≡ w ++ (c ∷ y) = cc in same_byte z w x y b c tail (omega (arith, s))

one_byte : (text : List ℕ) (p b c : ℕ) → HasByte text p b → HasByte text p c → b ≡ c
one_byte text p b c (z, x, first, at) (w, y, second, place) = same_byte z w x y b c (sym first ∙ second) (at ∙ sym place)

string_byte : (text : List ℕ) (p : ℕ) → IsOpenString text p → HasByte text p 34
string_byte text p h =
    let (u, whole) = begins_suffix h.before text (h.front ++ 34 ∷ h.inside) h.entries in (
      u ++ h.front,
      h.inside,
      whole ∙ sym (append_assoc u h.front (34 ∷ h.inside)),
      omega (
        arith,
        h.place_is,
        ap length whole,
        length-append u (h.front ++ 34 ∷ h.inside),
        length-append h.front (34 ∷ h.inside),
        length-append u h.front,
      ),
    )

array_byte : (text : List ℕ) (p : ℕ) → IsOpenArray text p → HasByte text p 91
array_byte text p h =
    let (u, whole) = begins_suffix h.before text (h.key ++ 91 ∷ h.inside) h.entries in (
      u ++ h.key,
      h.inside,
      whole ∙ sym (append_assoc u h.key (91 ∷ h.inside)),
      omega (
        arith,
        h.place_is,
        ap length whole,
        length-append u (h.key ++ 91 ∷ h.inside),
        length-append h.key (91 ∷ h.inside),
        length-append u h.key,
      ),
    )

brace_byte : (text : List ℕ) (p : ℕ) → IsOpenBrace text p → HasByte text p 123
brace_byte text p h =
    let (x, begins, (front, header, parts)) = begins_last h.before (Open h.name) text h.inside h.entries in
    let (u, whole) = begins_suffix h.before text (x ++ h.inside) begins in
    let all : text ≡ (u ++ front) ++ (123 ∷ h.inside) = whole ∙ ap (λ z. u ++ (z ++ h.inside)) parts ∙ simp append_assoc refl in
    (u ++ front, h.inside, all, omega (arith, h.place_is, ap length all, length-append (u ++ front) (123 ∷ h.inside)))

-- ---- what may be the answer where something is open

abbrev MayEndOpen : ℕ → Result (List ConfEntry) ConfRefusal → Type 0
MayEndOpen n (Ok es) = ⊥
MayEndOpen n (Err NoMemory) = ⊥
MayEndOpen n (Err (BadToken p)) = p < n
MayEndOpen n (Err _) = Unit {0}

stopped_open : (n : ℕ) (a : Result (List ConfEntry) ConfRefusal) → IsStopped true n a → MayEndOpen n a
stopped_open n (Ok es) h = absurd h
stopped_open n (Err NoMemory) h = absurd h
stopped_open n (Err (BadToken p)) h = h
stopped_open n (Err (Unclosed p)) h = tt
stopped_open n (Err (DuplicateKey p)) h = tt
stopped_open n (Err (NumberTooWide p)) h = tt
stopped_open n (Err (TooDeep p)) h = tt

unclosed_open : (n p : ℕ) (a : Result (List ConfEntry) ConfRefusal) → a ≡ refused (Unclosed p) → MayEndOpen n a
unclosed_open n p a e = subst (MayEndOpen n) (sym e) tt

halts_open : (c : Bool) (p : ℕ) (text : List ℕ) → Halts c p 0 start text → MayEndOpen (length text) (reading text)
halts_open c p text (inl e) = unclosed_open (length text) p (reading text) e
halts_open c p text (inr (inl stops)) =
    let n : 0 + length text ≡ length text = omega arith in stopped_open (length text) (reading text)
    (subst (λ n. IsStopped true n (reading text)) n stops)
halts_open c p text (inr (inr (z, b, y, byte, parts, e))) = unclosed_open (length text) (0 + length z) (reading text) e

string_open : (p : ℕ) (text : List ℕ) → (reading text ≡ refused (Unclosed p)) ⊎ IsStopped true (length text) (reading text)
    → MayEndOpen (length text) (reading text)
string_open p text (inl e) = unclosed_open (length text) p (reading text) e
string_open p text (inr stops) = stopped_open (length text) (reading text) stops

innermost_open : (text : List ℕ) (p : ℕ) → IsInnermost text p → MayEndOpen (length text) (reading text)
innermost_open text p (inl h) = string_open p text (string_read text p h)
innermost_open text p (inr (inl h)) = halts_open false p text (array_read text p h.0)
innermost_open text p (inr (inr h)) = halts_open true p text (brace_read text p h.0)

-- ---- which place is unclosed

not_stopped : (n q : ℕ) (a : Result (List ConfEntry) ConfRefusal) → a ≡ refused (Unclosed q) → IsStopped true n a → ⊥
not_stopped n q a e h = subst (IsStopped true n) e h

string_place : (text : List ℕ) (p q : ℕ) → reading text ≡ refused (Unclosed q) → IsOpenString text p → p ≡ q
string_place text p q e h = place (string_read text p h)
  where
    place : (reading text ≡ refused (Unclosed p)) ⊎ IsStopped true (length text) (reading text) → p ≡ q
    place (inl same) = let both : refused (Unclosed p) ≡ refused (Unclosed q) = sym same ∙ e in cc
    place (inr stops) = absurd (not_stopped (length text) q (reading text) e stops)

array_place : (text : List ℕ) (p q : ℕ) → reading text ≡ refused (Unclosed q) → IsOpenArray text p → (p ≡ q) ⊎ HasByte text q 34
array_place text p q e h = place (array_read text p h)
  where
    place : Halts false p 0 start text → (p ≡ q) ⊎ HasByte text q 34
    place (inl same) = let both : refused (Unclosed p) ≡ refused (Unclosed q) = sym same ∙ e in inl cc
    place (inr (inl stops)) = absurd (not_stopped (0 + length text) q (reading text) e stops)
    place (inr (inr (z, b, y, byte, parts, same))) =
        let both : refused (Unclosed (0 + length z)) ≡ refused (Unclosed q) = sym same ∙ e in
        let at : 0 + length z ≡ q = cc in
        inr (z, y, subst (λ k. text ≡ z ++ (k ∷ y)) byte parts, omega (arith, at))

brace_place : (text : List ℕ) (p q : ℕ) → reading text ≡ refused (Unclosed q) → IsOpenBrace text p
    → (p ≡ q) ⊎ (HasByte text q 34 ⊎ HasByte text q 91)
brace_place text p q e h = place (brace_read text p h)
  where
    at_byte : (z y : List ℕ) (b : ℕ) → (b ≡ 34) ⊎ (b ≡ 91) → text ≡ z ++ (b ∷ y) → length z ≡ q → HasByte text q 34 ⊎ HasByte text q 91
    at_byte z y b (inl byte) parts at = inl (z, y, subst (λ k. text ≡ z ++ (k ∷ y)) byte parts, at)
    at_byte z y b (inr byte) parts at = inr (z, y, subst (λ k. text ≡ z ++ (k ∷ y)) byte parts, at)

    place : Halts true p 0 start text → (p ≡ q) ⊎ (HasByte text q 34 ⊎ HasByte text q 91)
    place (inl same) = let both : refused (Unclosed p) ≡ refused (Unclosed q) = sym same ∙ e in inl cc
    place (inr (inl stops)) = absurd (not_stopped (0 + length text) q (reading text) e stops)
    place (inr (inr (z, b, y, byte, parts, same))) =
        let both : refused (Unclosed (0 + length z)) ≡ refused (Unclosed q) = sym same ∙ e in
        let at : 0 + length z ≡ q = cc in
        inr (at_byte z y b byte parts (omega (arith, at)))

no_string : (text : List ℕ) (p q b : ℕ) → reading text ≡ refused (Unclosed q) → HasByte text q b → 34 ≢ b → IsOpenString text p → ⊥
no_string text p q b e byte other h =
    let place = string_place text p q e h in
    other (one_byte text q 34 b (subst (λ k. HasByte text k 34) place (string_byte text p h)) byte)

no_array : (text : List ℕ) (p q : ℕ) → reading text ≡ refused (Unclosed q) → HasByte text q 123 → IsOpenArray text p → ⊥
no_array text p q e byte h = no (array_place text p q e h)
  where
    no : (p ≡ q) ⊎ HasByte text q 34 → ⊥
    no (inl place) = absurd (omega (arith, one_byte text q 91 123 (subst (λ k. HasByte text k 91) place (array_byte text p h)) byte))
    no (inr quote) = absurd (omega (arith, one_byte text q 34 123 quote byte))

open_innermost : (text : List ℕ) (q : ℕ) → reading text ≡ refused (Unclosed q) → IsOpen text q → IsInnermost text q
open_innermost text q e (inl h) = inl h
open_innermost text q e (inr (inl h)) =
    inr (inl (h, λ p s. no_string text p q 91 e (array_byte text q h) (λ k. absurd (omega (arith, k))) s))
open_innermost text q e (inr (inr h)) =
    inr (inr (
      h,
      λ p. (
        λ s. no_string text p q 123 e (brace_byte text q h) (λ k. absurd (omega (arith, k))) s,
        λ a. no_array text p q e (brace_byte text q h) a,
      ),
    ))

array_only : (text : List ℕ) (p q : ℕ) → ((k : ℕ) → ¬ IsOpenString text k) → IsOpen text q → (p ≡ q) ⊎ HasByte text q 34 → p ≡ q
array_only text p q none is (inl place) = place
array_only text p q none (inl h) (inr byte) = absurd (none q h)
array_only text p q none (inr (inl h)) (inr byte) = absurd (omega (arith, one_byte text q 91 34 (array_byte text q h) byte))
array_only text p q none (inr (inr h)) (inr byte) = absurd (omega (arith, one_byte text q 123 34 (brace_byte text q h) byte))

brace_only : (text : List ℕ) (p q : ℕ) → ((k : ℕ) → ¬ IsOpenString text k × ¬ IsOpenArray text k) → IsOpen text q
    → (p ≡ q) ⊎ (HasByte text q 34 ⊎ HasByte text q 91) → p ≡ q
brace_only text p q none is (inl place) = place
brace_only text p q none (inl h) (inr byte) = absurd ((none q).0 h)
brace_only text p q none (inr (inl h)) (inr byte) = absurd ((none q).1 h)
brace_only text p q none (inr (inr h)) (inr (inl byte)) = absurd (omega (arith, one_byte text q 123 34 (brace_byte text q h) byte))
brace_only text p q none (inr (inr h)) (inr (inr byte)) = absurd (omega (arith, one_byte text q 123 91 (brace_byte text q h) byte))

innermost_place : (text : List ℕ) (p q : ℕ) → reading text ≡ refused (Unclosed q) → IsOpen text q → IsInnermost text p → p ≡ q
innermost_place text p q e is (inl h) = string_place text p q e h
innermost_place text p q e is (inr (inl h)) = array_only text p q h.1 is (array_place text p q e h.0)
innermost_place text p q e is (inr (inr h)) = brace_only text p q h.1 is (brace_place text p q e h.0)

-- ---- from the answer to the relation

-- the answer is for no limit
abbrev IsForToken : ConfRefusal → Type 0
IsForToken (BadToken p) = Unit {0}
IsForToken (Unclosed p) = Unit {0}
IsForToken _ = ⊥

token_only : (e f : ConfRefusal) → IsForToken e → refused f ≡ refused e → IsForToken f
token_only e f h same = subst IsForToken (same_refusal e f (sym same)) h

keeps : (text : List ℕ) (e : ConfRefusal) → IsForToken e → reading text ≡ refused e → (n : ℕ) → KeepsTo text n
keeps text e h same n = λ p less broken. no p broken
  where
    no : (p : ℕ) → IsDuplicate text p ⊎ IsTooWide text p ⊎ IsTooDeep text p → ⊥
    no p (inl k) = token_only e (DuplicateKey p) h (sym (duplicate_refused text p k) ∙ same)
    no p (inr (inl k)) = token_only e (NumberTooWide p) h (sym (too_wide_refused text p k) ∙ same)
    no p (inr (inr k)) = token_only e (TooDeep p) h (sym (too_deep_refused text p k) ∙ same)

not_bad : (n p : ℕ) (a : Result (List ConfEntry) ConfRefusal) (es : List ConfEntry) → a ≡ refused (BadToken p)
    → (a ≡ read es) ⊎ IsStopped false n a → ⊥
not_bad n p a es e (inl h) = not_both es (BadToken p) (sym h ∙ e)
not_bad n p a es e (inr stops) = subst (IsStopped false n) e stops

-- no text begins with the bytes up to a bad one
not_begins : (text : List ℕ) (p : ℕ) → reading text ≡ refused (BadToken p) → p < length text → ¬ Begins (take (suc p) text)
not_begins text p e less (more, es, spells) =
    let front = take (suc p) text in
    let whole : reading (front ++ drop (suc p) text) ≡ refused (BadToken p) = ap reading (take-append-drop (suc p) text) ∙ e in
    let within : p < length front = omega (arith, length-take (suc p) text, less) in
    not_bad (length (front ++ more)) p (reading (front ++ more)) es (bad_after front (drop (suc p) text) more p whole within)
    (spelled_read (front ++ more) es spells)

bad_kind : (c : Bool) (text : List ℕ) (p : ℕ) → ltb p (length text) ≡ c → reading text ≡ refused (BadToken p) → p ≤ length text
    → Begins (take p text) → IsFirstBad text p ⊎ ((p ≡ length text) × IsCut text)
bad_kind true text p c e inside begins = let less = ltb-true p (length text) c in inl (less, begins, not_begins text p e less)
bad_kind false text p c e inside begins =
    let last : p ≡ length text = omega (arith, inside, ltb-false p (length text) c) in
    let whole : take p text ≡ text = ap (λ n. take n text) last ∙ take-length text in
    inr (
      last,
      (
        subst Begins whole begins,
        λ es spells. not_bad (length text) p (reading text) es e (spelled_read text es spells),
        λ q innermost. let less : p < length text = subst (MayEndOpen (length text)) e (innermost_open text q innermost) in absurd
            (omega (arith, less, last)),
      ),
    )

told_cause : (text : List ℕ) (e : ConfRefusal) → reading text ≡ refused e → Tells 0 text (refused e) → IsCause text e
told_cause text NoMemory e h = absurd h
told_cause text (BadToken p) e (from, inside, begins) =
    (keeps text (BadToken p) tt e p, bad_kind (ltb p (length text)) text p refl e inside begins)
told_cause text (Unclosed p) e (begins, is) = (keeps text (Unclosed p) tt e (length text), begins, open_innermost text p e is)
told_cause text (DuplicateKey p) e h = h.0
told_cause text (NumberTooWide p) e h = h.0
told_cause text (TooDeep p) e h = h.0

pub refused_cause : (text : List ℕ) (e : ConfRefusal) → reading text ≡ refused e → IsCause text e
refused_cause text e same = told_cause text e same (subst (Tells 0 text) same (reading_told text))

pub read_text : (text : List ℕ) (es : List ConfEntry) → reading text ≡ read es → IsTextOf text es
read_text text es same = subst (Tells 0 text) same (reading_told text)

-- ---- from the relation to the answer

-- of two fronts, the shorter one
shorter : (text : List ℕ) (n m : ℕ) → n ≤ m → m ≤ length text → Begins (take m text) → Begins (take n text)
shorter text n m less inside h =
    subst (λ z. Begins (take n z)) (take-append-drop m text)
    (begins_front (take m text) (drop m text) n (omega (arith, length-take m text, less, inside)) h)

spelled_begins : (text : List ℕ) (es : List ConfEntry) → Spells text es → Begins text
spelled_begins text es h = ([], es, subst (λ z. Spells z es) (sym (append-nil text)) h)

first_not : (text : List ℕ) (p n : ℕ) → IsFirstBad text p → p < n → n ≤ length text → Begins (take n text) → ⊥
first_not text p n h less inside begins = h.2 (shorter text (suc p) n less inside begins)

first_not_all : (text : List ℕ) (p : ℕ) → IsFirstBad text p → Begins text → ⊥
first_not_all text p h begins = h.2 (begins_less text (suc p) begins)

duplicate_inside : (text : List ℕ) (q : ℕ) → IsDuplicate text q → q < length text
duplicate_inside text q h = omega (arith, h.place_is, length-append h.name h.more, some_length h.name h.name_is.0)

wide_inside : (text : List ℕ) (q : ℕ) → IsTooWide text q → q < length text
wide_inside text q h = omega (arith, h.place_is, length-append h.digits h.more, some_length h.digits h.digits_are.0)

deep_inside : (text : List ℕ) (q : ℕ) → IsTooDeep text q → q < length text
deep_inside text q h = omega (arith, h.place_is)

abbrev BadKind : List ℕ → ℕ → Type 0
BadKind text p = IsFirstBad text p ⊎ ((p ≡ length text) × IsCut text)

-- a limit is not broken before a bad byte, and up to it the text is no beginning
limit_not : (text : List ℕ) (p q : ℕ) → ¬ (q < p) → q < length text → Begins (take (suc q) text) → BadKind text p → ⊥
limit_not text p q none inside begins (inl h) = first_not text p (suc q) h (later (cases_lt q p)) (omega (arith, inside)) begins
  where
    later : (q < p) ⊎ (p ≤ q) → p < suc q
    later (inl less) = absurd (none less)
    later (inr more) = omega (arith, more)
limit_not text p q none inside begins (inr (last, cut)) = none (omega (arith, last, inside))

both_first : (text : List ℕ) (p q : ℕ) → reading text ≡ refused (BadToken q) → q ≤ length text → Begins (take q text) → IsFirstBad text p
    → (p ≡ q) ⊎ ((p < q) ⊎ (q < p)) → p ≡ q
both_first text p q e inside begins h (inl same) = same
both_first text p q e inside begins h (inr (inl less)) = absurd (first_not text p q h less inside begins)
both_first text p q e inside begins h (inr (inr less)) =
    absurd (not_begins text q e (omega (arith, less, h.0)) (shorter text (suc q) p less (omega (arith, h.0)) h.1))

cut_last : (text : List ℕ) (p q : ℕ) → reading text ≡ refused (BadToken q) → q ≤ length text → p ≡ length text → IsCut text
    → (q < length text) ⊎ (length text ≤ q) → p ≡ q
cut_last text p q e inside last cut (inl less) = absurd (not_begins text q e less (begins_less text (suc q) cut.0))
cut_last text p q e inside last cut (inr more) = omega (arith, inside, last, more)

same_bad : (text : List ℕ) (p q : ℕ) → reading text ≡ refused (BadToken q) → q ≤ length text → Begins (take q text) → BadKind text p → p ≡ q
same_bad text p q e inside begins (inl h) = both_first text p q e inside begins h (cases_order p q)
same_bad text p q e inside begins (inr (last, cut)) = cut_last text p q e inside last cut (cases_lt q (length text))

not_unclosed : (text : List ℕ) (p q : ℕ) → reading text ≡ refused (Unclosed q) → Begins text → IsOpen text q → BadKind text p → ⊥
not_unclosed text p q e begins is (inl h) = first_not_all text p h begins
not_unclosed text p q e begins is (inr (last, cut)) = cut.2 q (open_innermost text q e is)

not_tree : (text : List ℕ) (p : ℕ) (es : List ConfEntry) → IsTextOf text es → BadKind text p → ⊥
not_tree text p es is (inl h) = first_not_all text p h (spelled_begins text es is.spelled)
not_tree text p es is (inr (last, cut)) = cut.1 es is.spelled

bad_of : (text : List ℕ) (p : ℕ) (a : Result (List ConfEntry) ConfRefusal) → reading text ≡ a → Tells 0 text a → IsBadToken text p
    → a ≡ refused (BadToken p)
bad_of text p (Ok es) e h (keep, bad) = absurd (not_tree text p es h bad)
bad_of text p (Err NoMemory) e h (keep, bad) = absurd h
bad_of text p (Err (BadToken q)) e (from, inside, begins) (keep, bad) =
    ap (λ z. refused (BadToken z)) (sym (same_bad text p q e inside begins bad))
bad_of text p (Err (Unclosed q)) e (begins, is) (keep, bad) = absurd (not_unclosed text p q e begins is bad)
bad_of text p (Err (DuplicateKey q)) e (h, begins) (keep, bad) =
    absurd (limit_not text p q (λ less. keep q less (inl h)) (duplicate_inside text q h) begins bad)
bad_of text p (Err (NumberTooWide q)) e (h, begins) (keep, bad) =
    absurd (limit_not text p q (λ less. keep q less (inr (inl h))) (wide_inside text q h) begins bad)
bad_of text p (Err (TooDeep q)) e (h, begins) (keep, bad) =
    absurd (limit_not text p q (λ less. keep q less (inr (inr h))) (deep_inside text q h) begins bad)

bad_open : (text : List ℕ) (p q : ℕ) → reading text ≡ refused (BadToken q) → Begins text → IsInnermost text p → ⊥
bad_open text p q e begins innermost =
    let less : q < length text = subst (MayEndOpen (length text)) e (innermost_open text p innermost) in
    not_begins text q e less (begins_less text (suc q) begins)

unclosed_of : (text : List ℕ) (p : ℕ) (a : Result (List ConfEntry) ConfRefusal) → reading text ≡ a → Tells 0 text a → IsUnclosed text p
    → a ≡ refused (Unclosed p)
unclosed_of text p (Ok es) e h (keep, begins, innermost) = absurd (subst (MayEndOpen (length text)) e (innermost_open text p innermost))
unclosed_of text p (Err NoMemory) e h (keep, begins, innermost) = absurd h
unclosed_of text p (Err (BadToken q)) e h (keep, begins, innermost) = absurd (bad_open text p q e begins innermost)
unclosed_of text p (Err (Unclosed q)) e (starts, is) (keep, begins, innermost) =
    ap (λ z. refused (Unclosed z)) (sym (innermost_place text p q e is innermost))
unclosed_of text p (Err (DuplicateKey q)) e (h, starts) (keep, begins, innermost) = absurd (keep q (duplicate_inside text q h) (inl h))
unclosed_of text p (Err (NumberTooWide q)) e (h, starts) (keep, begins, innermost) = absurd (keep q (wide_inside text q h) (inr (inl h)))
unclosed_of text p (Err (TooDeep q)) e (h, starts) (keep, begins, innermost) = absurd (keep q (deep_inside text q h) (inr (inr h)))

abbrev no_memory : ConfRefusal
no_memory = NoMemory

pub cause_refused : (text : List ℕ) (e : ConfRefusal) → e ≢ no_memory → IsCause text e → reading text ≡ refused e
cause_refused text NoMemory other h = absurd (other refl)
cause_refused text (BadToken p) other h = bad_of text p (reading text) refl (reading_told text) h
cause_refused text (Unclosed p) other h = unclosed_of text p (reading text) refl (reading_told text) h
cause_refused text (DuplicateKey p) other h = duplicate_refused text p h
cause_refused text (NumberTooWide p) other h = too_wide_refused text p h
cause_refused text (TooDeep p) other h = too_deep_refused text p h

-- ---- one outcome at most

pub one_tree : (text : List ℕ) (a b : List ConfEntry) → IsTextOf text a → IsTextOf text b → a ≡ b
one_tree text a b h k = let same : read a ≡ read b = sym (accepted text a h) ∙ accepted text b k in cc

pub tree_or_cause : (text : List ℕ) (tree : List ConfEntry) (e : ConfRefusal) → e ≢ no_memory → IsTextOf text tree → IsCause text e → ⊥
tree_or_cause text tree e other h cause = not_both tree e (sym (accepted text tree h) ∙ cause_refused text e other cause)

pub one_cause : (text : List ℕ) (a b : ConfRefusal) → a ≢ no_memory → b ≢ no_memory → IsCause text a → IsCause text b → a ≡ b
one_cause text a b first second h k = same_refusal a b (sym (cause_refused text a first h) ∙ cause_refused text b second k)

-- ---- what the code answers

pub fails_cause : (text : List ℕ) (e : ConfRefusal) → Fails e (reading text) → IsCause text e
fails_cause text NoMemory h = tt
fails_cause text (BadToken p) h = refused_cause text (BadToken p) h
fails_cause text (Unclosed p) h = refused_cause text (Unclosed p) h
fails_cause text (DuplicateKey p) h = refused_cause text (DuplicateKey p) h
fails_cause text (NumberTooWide p) h = refused_cause text (NumberTooWide p) h
fails_cause text (TooDeep p) h = refused_cause text (TooDeep p) h
