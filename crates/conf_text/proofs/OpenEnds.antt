-- What the reader says of a text in which a string, an array or a section is open at the end.
use Rattle.std.proofs.Common.{◌≡◌, ℕ, suc, ◌+◌, ◌<◌, Bool, true, false, List, [], ◌∷◌, ◌++◌, length, Result, Ok, Err, refl, sym, ap, subst}
use Rattle.std.proofs.Common.{◌∙◌, append_assoc, arith, inl, inr}
use Rattle.std.proofs.lemmas.List.{append-nil}
use Rattle.std.specs.Prelude.{◌⊎◌}
use Rattle.conf_text.specs.declared.refusal.ConfRefusal.{ConfRefusal}
use Rattle.conf_text.specs.declared.refusal.ConfRefusal.TheVariants.{NoMemory, BadToken, Unclosed, DuplicateKey, NumberTooWide, TooDeep}
use Rattle.conf_text.specs.declared.reader.Phase.{Phase}
use Rattle.conf_text.specs.declared.reader.Phase.TheVariants.{Wanted, First, Next}
use Rattle.conf_text.specs.Entries.{Scalar, ConfEntry, Open, sections, IsBalanced}
use Rattle.conf_text.specs.Grammar.{IsContent, escaped, IsEntry, BeginsWith}
use Rattle.conf_text.specs.Reader.{Reader, start, outcome, reading}
use Rattle.conf_text.specs.Refusals.{IsBeforeScalar, IsOpenString, IsOpenArray, IsOpenBrace}
use Rattle.conf_text.proofs.Accepted.{between, item, gap_arrives}
use Rattle.conf_text.proofs.EntryParts.{entry_halts}
use Rattle.conf_text.proofs.Parts.{unclosed, Halts, halts_joined, array_halts, string_part, quote_reaches, StringOpen}
use Rattle.conf_text.proofs.Pieces.{begins_suffix}
use Rattle.conf_text.proofs.Runs.{IsStopped, Stops, Goes, AfterEntries, OpensAt, stops_before, key_goes, comma_goes, bracket_arrives}
use Rattle.conf_text.proofs.Runs.{open_goes, entries_go}
use Rattle.conf_text.proofs.Standing.{content_more, escaped_mark, quote_allowed, quote_escaped}
use Rattle.conf_text.proofs.Steps.{wants_scalar, Reaches, reaches_then, reaches_itself, Arrives}

-- ---- strings

-- the reader before a scalar, where the earlier ones are read
abbrev AtScalar : ℕ → Reader → List ℕ → List ℕ → List Scalar → List ConfEntry → List ℕ → List ℕ → Type 0
AtScalar at r text name earlier es bs rest =
    ((p : Phase) × (wants_scalar p ≡ true) × Arrives at r text (between p name earlier es bs) rest) ⊎ Stops true at r text

scalar_joined : (at m : ℕ) (r s : Reader) (x y name : List ℕ) (earlier : List Scalar) (es : List ConfEntry) (bs rest : List ℕ)
    → Reaches at r x m s y → AtScalar m s y name earlier es bs rest → AtScalar at r x name earlier es bs rest
scalar_joined at m r s x y name earlier es bs rest one (inl (p, wants, arrives)) = inl (p, wants, (arrives.0, reaches_then one arrives.1))
scalar_joined at m r s x y name earlier es bs rest one (inr stops) = inr (stops_before true one stops)

scalar_then : (at : ℕ) (r s : Reader) (x y name : List ℕ) (earlier : List Scalar) (es : List ConfEntry) (bs rest : List ℕ)
    → Goes true at r x s y → ((m : ℕ) → AtScalar m s y name earlier es bs rest) → AtScalar at r x name earlier es bs rest
scalar_then at r s x y name earlier es bs rest (inl (m, one)) on = scalar_joined at m r s x y name earlier es bs rest one (on m)
scalar_then at r s x y name earlier es bs rest (inr stops) on = inr stops

scalar_read : (earlier : List Scalar) (front name rest : List ℕ) (at : ℕ) (es : List ConfEntry) (bs : List ℕ)
    → IsBeforeScalar front name earlier → AtScalar at (item es bs) (front ++ rest) name earlier es bs rest
scalar_read [] front name rest at es bs (inl key) =
    scalar_then at (item es bs) (between Wanted name [] es bs) (front ++ rest) rest name [] es bs rest
    (key_goes true front name rest at es bs key) λ m.
    inl (Wanted, refl, (m, reaches_itself m (between Wanted name [] es bs) rest))
scalar_read [] front name rest at es bs (inr (key, g, key_is, gap, parts)) =
    let whole : front ++ rest ≡ key ++ 91 ∷ (g ++ rest) = rw parts (simp append_assoc refl) in
    rw whole (
    scalar_then at (item es bs) (between Wanted name [] es bs) (key ++ 91 ∷ (g ++ rest)) (91 ∷ (g ++ rest)) name [] es bs rest
    (key_goes true key name (91 ∷ (g ++ rest)) at es bs key_is) λ a.
    scalar_then a (between Wanted name [] es bs) (between (First a) name [] es bs) (91 ∷ (g ++ rest)) (g ++ rest) name [] es bs rest
    (inl (bracket_arrives (g ++ rest) a name [] es bs)) λ b.
    scalar_then b (between (First a) name [] es bs) (between (First a) name [] es bs) (g ++ rest) rest name [] es bs rest
    (inl (gap_arrives g rest b (First a) name [] es bs gap)) λ m.
    inl (First a, refl, (m, reaches_itself m (between (First a) name [] es bs) rest)))
scalar_read (s ∷ ss) front name rest at es bs (key, list, g, key_is, array, gap, parts) =
    let whole : front ++ rest ≡ key ++ 91 ∷ (list ++ 44 ∷ (g ++ rest)) = rw parts (simp append_assoc refl) in
    rw whole (
    scalar_then at (item es bs) (between Wanted name [] es bs) (key ++ 91 ∷ (list ++ 44 ∷ (g ++ rest))) (91 ∷ (list ++ 44 ∷ (g ++ rest)))
    name (s ∷ ss) es bs rest (key_goes true key name (91 ∷ (list ++ 44 ∷ (g ++ rest))) at es bs key_is) λ a.
    scalar_then a (between Wanted name [] es bs) (between (First a) name [] es bs) (91 ∷ (list ++ 44 ∷ (g ++ rest)))
    (list ++ 44 ∷ (g ++ rest)) name (s ∷ ss) es bs rest (inl (bracket_arrives (list ++ 44 ∷ (g ++ rest)) a name [] es bs)) λ b.
    scalar_then b (between (First a) name [] es bs) (between (Next a) name (s ∷ ss) es bs) (list ++ 44 ∷ (g ++ rest)) (g ++ rest) name
    (s ∷ ss) es bs rest (comma_goes true true a ss s list (g ++ rest) b name [] es bs array) λ d.
    scalar_then d (between (Next a) name (s ∷ ss) es bs) (between (Next a) name (s ∷ ss) es bs) (g ++ rest) rest name (s ∷ ss) es bs rest
    (inl (gap_arrives g rest d (Next a) name (s ∷ ss) es bs gap)) λ m.
    inl (Next a, refl, (m, reaches_itself m (between (Next a) name (s ∷ ss) es bs) rest)))

-- the reader after entries of the whole text
abbrev FromStart : List ℕ → List ConfEntry → List ℕ → Type 0
FromStart text es rest = ((over : List ℕ) × Arrives 0 start text (item es over) rest) ⊎ Stops true 0 start text

from_start : (text : List ℕ) (es : List ConfEntry) (rest : List ℕ) → BeginsWith text es rest → FromStart text es rest
from_start text es rest begins = from (entries_go true es text rest 0 ([] ∷ []) [] [] [] (inl refl) refl begins tt)
  where
    from : AfterEntries true (sections es) 0 start text es [] rest → FromStart text es rest
    from (inl (over, same, arrives)) = inl (over ++ [], arrives)
    from (inr stops) = inr stops

stops_whole : (c : Bool) (text : List ℕ) → Stops c 0 start text → IsStopped c (length text) (reading text)
stops_whole c text stops = let same : 0 + length text ≡ length text = omega arith in subst (λ n. IsStopped c n (reading text)) same stops

content_part : (content inside : List ℕ) (q : ℕ) (p : Phase) (n : List ℕ) (ss : List Scalar) (es : List ConfEntry) (bs : List ℕ)
    → IsContent content → (inside ≡ escaped content) ⊎ (inside ≡ escaped content ++ 92 ∷ []) → StringOpen q p n ss es bs inside
content_part content inside q p n ss es bs is (inl e) = string_part content inside [] q p n ss es bs is (sym e ∙ sym (append-nil inside))
content_part content inside q p n ss es bs is (inr e) =
    let whole : escaped (content ++ 34 ∷ []) ≡ inside ++ 34 ∷ [] =
    escaped_mark content 34 quote_escaped ∙ sym (append_assoc (escaped content) (92 ∷ []) (34 ∷ [])) ∙ ap (λ z. z ++ 34 ∷ []) (sym e) in
    string_part (content ++ 34 ∷ []) inside (34 ∷ []) q p n ss es bs (content_more content 34 is quote_allowed) whole

-- an open string is unclosed, or the reader stops before
pub string_read : (text : List ℕ) (p : ℕ) → IsOpenString text p
    → (reading text ≡ Err (Unclosed p)) ⊎ IsStopped true (length text) (reading text)
string_read text p h = read (from_start text h.before (h.front ++ 34 ∷ h.inside) h.entries)
  where
    at_quote : (m : ℕ) (over : List ℕ) → Reaches 0 start text m (item h.before over) (h.front ++ 34 ∷ h.inside)
        → AtScalar m (item h.before over) (h.front ++ 34 ∷ h.inside) h.name h.earlier h.before over (34 ∷ h.inside)
        → (reading text ≡ Err (Unclosed p)) ⊎ IsStopped true (length text) (reading text)
    at_quote m over one (inl (q, wants, (k, two))) =
        let three = quote_reaches q k h.inside h.name h.earlier h.before over wants in
        let place : k ≡ p = omega (arith, one.place, two.place, h.place_is) in
        inl (one.same ∙ two.same ∙ three.same ∙ content_part h.content h.inside k q h.name h.earlier h.before over h.content_is h.inside_is
        (k + 1) [] ∙ ap unclosed place)
    at_quote m over one (inr stops) = inr (stops_whole true text (stops_before true one stops))

    read : FromStart text h.before (h.front ++ 34 ∷ h.inside)
        → (reading text ≡ Err (Unclosed p)) ⊎ IsStopped true (length text) (reading text)
    read (inl (over, (m, one))) = at_quote m over one (scalar_read h.earlier h.front h.name (34 ∷ h.inside) m h.before over h.front_is)
    read (inr stops) = inr (stops_whole true text stops)

-- ---- arrays

-- the place of what is left is known
halts_from : (c : Bool) (q : ℕ) (text : List ℕ) (es : List ConfEntry) (rest : List ℕ) → BeginsWith text es rest
    → ((m : ℕ) (over : List ℕ) → m + length rest ≡ length text → Halts c q m (item es over) rest) → Halts c q 0 start text
halts_from c q text es rest begins on = from (from_start text es rest begins)
  where
    from : FromStart text es rest → Halts c q 0 start text
    from (inl (over, (m, one))) =
        let (chunk, whole) = begins_suffix es text rest begins in
        let same = subst (λ z. Reaches 0 start z m (item es over) rest) whole one in
        subst (Halts c q 0 start) (sym whole) (halts_joined c q 0 m start (item es over) chunk rest same
        (on m over (omega (arith, one.place))))
    from (inr stops) = inr (inl stops)

halts_at : (c : Bool) (q at : ℕ) (r s : Reader) (chunk y : List ℕ) → Goes true at r (chunk ++ y) s y
    → ((m : ℕ) → m + length y ≡ at + length (chunk ++ y) → Halts c q m s y) → Halts c q at r (chunk ++ y)
halts_at c q at r s chunk y (inl (m, one)) on = halts_joined c q at m r s chunk y one (on m one.place)
halts_at c q at r s chunk y (inr stops) on = inr (inl stops)

-- an open array is unclosed, or a string in it, or the reader stops before
pub array_read : (text : List ℕ) (p : ℕ) → IsOpenArray text p → Halts false p 0 start text
array_read text p h =
    halts_from false p text h.before (h.key ++ 91 ∷ h.inside) h.entries λ m over place.
    halts_at false p m (item h.before over) (between Wanted h.name [] h.before over) h.key (91 ∷ h.inside)
    (key_goes true h.key h.name (91 ∷ h.inside) m h.before over h.key_is) λ k place_k.
    bracket k over (omega (arith, place, place_k, h.place_is))
  where
    bracket : (k : ℕ) (over : List ℕ) → k ≡ p → Halts false p k (between Wanted h.name [] h.before over) (91 ∷ h.inside)
    bracket k over same =
        let (m, one) = bracket_arrives h.inside k h.name [] h.before over in
        halts_joined false p k m (between Wanted h.name [] h.before over) (between (First k) h.name [] h.before over) (91 ∷ []) h.inside one
        (subst (λ q. Halts false q m (between (First k) h.name [] h.before over) h.inside) same
        (array_halts false true k m h.scalars h.inside h.closing h.name [] h.before over h.array))

-- ---- sections

pub begins_last : (es : List ConfEntry) (e : ConfEntry) (text rest : List ℕ) → BeginsWith text (es ++ e ∷ []) rest
    → (x : List ℕ) × BeginsWith text es (x ++ rest) × IsEntry x e
begins_last [] e text rest (x, more, parts, entry, ends, same) = (x, parts ∙ ap (λ z. x ++ z) same, entry)
begins_last (f ∷ es) e text rest (x, more, parts, entry, ends, others) =
    let (y, begins, last) = begins_last es e more rest others in (y, (x, more, parts, entry, ends, begins), last)

stopped_more : (n : ℕ) (a : Result (List ConfEntry) ConfRefusal) → IsStopped false n a → IsStopped true n a
stopped_more n (Ok es) h = absurd h
stopped_more n (Err NoMemory) h = absurd h
stopped_more n (Err (BadToken p)) h = absurd h
stopped_more n (Err (Unclosed p)) h = absurd h
stopped_more n (Err (DuplicateKey p)) h = tt
stopped_more n (Err (NumberTooWide p)) h = tt
stopped_more n (Err (TooDeep p)) h = tt

none_over : (over : List ℕ) (given : List (List (List ℕ))) → length given ≡ 1 → length given ≡ suc (length over) → over ≡ []
none_over [] given e f = refl
none_over (b ∷ over) given e f = absurd (omega (arith, e, f))

inner_halts : (p k m : ℕ) (es inner : List ConfEntry) (inside rest closing over : List ℕ) (e : ConfEntry) → k ≡ p
    → BeginsWith inside inner rest → IsBalanced inner → 0 < length closing → IsEntry (rest ++ closing) e
    → AfterEntries false (sections inner) m (item es (k ∷ over)) inside (es ++ inner) (k ∷ over) rest
    → Halts true p m (item es (k ∷ over)) inside
inner_halts p k m es inner inside rest closing over e same begins balanced some entry (inl (up, deep, (n, one))) =
    let (chunk, whole) = begins_suffix inner inside rest begins in
    let none : up ++ (k ∷ over) ≡ p ∷ over =
    ap (λ z. z ++ (k ∷ over)) (none_over up (sections inner) balanced deep) ∙ ap (λ z. z ∷ over) same in
    let reach = subst (λ z. Reaches m (item es (k ∷ over)) inside n (item (es ++ inner) z) rest) none one in
    subst (Halts true p m (item es (k ∷ over))) (sym whole)
    (halts_joined true p m n (item es (k ∷ over)) (item (es ++ inner) (p ∷ over)) chunk rest
    (subst (λ z. Reaches m (item es (k ∷ over)) z n (item (es ++ inner) (p ∷ over)) rest) whole reach)
    (entry_halts p n e rest closing (es ++ inner) over entry some))
inner_halts p k m es inner inside rest closing over e same begins balanced some entry (inr stops) =
    inr (inl (stopped_more (m + length inside) (outcome m (item es (k ∷ over)) inside) stops))

opened_halts : (text : List ℕ) (p : ℕ) (h : IsOpenBrace text p) → (m : ℕ) (over x : List ℕ) → m + length (x ++ h.inside) ≡ length text
    → OpensAt true m (item h.before over) (x ++ h.inside) (h.before ++ Open h.name ∷ []) over h.inside
    → Halts true p m (item h.before over) (x ++ h.inside)
opened_halts text p h m over x place (inl (k, at, (n, one))) =
    let es = h.before ++ Open h.name ∷ [] in
    let same : k ≡ p = omega (arith, at, place, h.place_is) in
    let deep : 0 < length (sections h.inner) = omega (arith, h.balanced) in
    halts_joined true p m n (item h.before over) (item es (k ∷ over)) x h.inside one
    (inner_halts p k n es h.inner h.inside h.rest h.closing over h.entry same h.whole h.balanced h.less.0 h.less.1
    (entries_go false h.inner h.inside h.rest n ([] ∷ []) es [] (k ∷ over) (inr refl) refl h.whole deep))
opened_halts text p h m over x place (inr stops) = inr (inl stops)

-- a section that is open is unclosed, or something in it, or the reader stops before
pub brace_read : (text : List ℕ) (p : ℕ) → IsOpenBrace text p → Halts true p 0 start text
brace_read text p h =
    let (x, begins, entry) = begins_last h.before (Open h.name) text h.inside h.entries in
    halts_from true p text h.before (x ++ h.inside) begins λ m over place.
    opened_halts text p h m over x place (open_goes true x h.name h.inside m h.before over entry)
