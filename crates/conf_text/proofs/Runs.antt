-- What the reader does over a text of the grammar, whether it keeps the limits or not.
use Rattle.std.proofs.Common.{◌≡◌, ℕ, suc, ◌+◌, ◌<◌, ◌≤◌, ◌^◌, Bool, true, false, ltb, List, [], ◌∷◌, ◌++◌, length, Result, Ok, Err, refl}
use Rattle.std.proofs.Common.{sym, ap, subst, ◌∙◌, append_assoc, arith, inl, inr}
use Rattle.std.proofs.lemmas.List.{append-nil}
use Rattle.std.proofs.lemmas.Bool.{ltb-false}
use Rattle.std.specs.Prelude.{◌⊎◌}
use Rattle.conf_text.specs.declared.refusal.ConfRefusal.{ConfRefusal}
use Rattle.conf_text.specs.declared.refusal.ConfRefusal.TheVariants.{BadToken, DuplicateKey, NumberTooWide, TooDeep}
use Rattle.conf_text.specs.declared.kind.Kind.TheVariants.{OpenBrace, CloseBrace, OpenBracket, CloseBracket, Equals, Comma}
use Rattle.conf_text.specs.declared.reader.Mode.TheVariants.{Between}
use Rattle.conf_text.specs.declared.reader.Phase.{Phase}
use Rattle.conf_text.specs.declared.reader.Phase.TheVariants.{Item, Named, Wanted, First, Next, After}
use Rattle.conf_text.specs.Entries.{Scalar, Number, Text, Value, One, Many, ConfEntry, Open, Close, Assign, after_entry, after_entries}
use Rattle.conf_text.specs.Entries.{sections, is_given}
use Rattle.conf_text.specs.Grammar.{after_gap, IsGap, IsName, EndsWord, IsScalar, IsArray, IsValue, IsHeader, IsKey, IsEntry, EndsEntry}
use Rattle.conf_text.specs.Grammar.{BeginsWith, Spells}
use Rattle.conf_text.specs.Reader.{Reader, Read, ◌>>=◌, with_scalar, step, outcome, reading}
use Rattle.conf_text.proofs.Accepted.{between, item, in_array, gap_arrives, name_arrives, byte_arrives, gap_ends, mark_ends, ends_scalar}
use Rattle.conf_text.proofs.Accepted.{open_step, close_arrives, last_gap, ended_item, kind-open_brace, kind-close_brace, kind-open_bracket}
use Rattle.conf_text.proofs.Accepted.{kind-close_bracket, kind-equals, kind-comma}
use Rattle.conf_text.proofs.Depth.{some_before, after_open, after_assign, after_close}
use Rattle.conf_text.proofs.Refused.{name_refused, digits_refused, deep_step}
use Rattle.conf_text.proofs.Steps.{wants_scalar, Reaches, reaches_then, reaches_itself, Arrives, gap_reaches, step_is, EndsScalar}
use Rattle.conf_text.proofs.Steps.{scalar_arrives}

-- a limit is broken, or with the flag, a brace too many is closed before this place
abbrev pub IsStopped : Bool → ℕ → Result (List ConfEntry) ConfRefusal → Type 0
IsStopped c n (Err (DuplicateKey p)) = Unit {0}
IsStopped c n (Err (NumberTooWide p)) = Unit {0}
IsStopped c n (Err (TooDeep p)) = Unit {0}
IsStopped true n (Err (BadToken p)) = p < n
IsStopped c n _ = ⊥

-- the text ends at this place
abbrev pub Stops : Bool → ℕ → Reader → List ℕ → Type 0
Stops c at r text = IsStopped c (at + length text) (outcome at r text)

abbrev pub Goes : Bool → ℕ → Reader → List ℕ → Reader → List ℕ → Type 0
Goes c at r text s rest = Arrives at r text s rest ⊎ Stops c at r text

pub stops_before : (c : Bool) {at m : ℕ} {r s : Reader} {x y : List ℕ} → Reaches at r x m s y → Stops c m s y → Stops c at r x
stops_before c {at} {m} {r} {s} {x} {y} one h =
    subst (λ n. IsStopped c n (outcome at r x)) one.place (subst (IsStopped c (m + length y)) (sym one.same) h)

goes_joined : (c : Bool) {at m : ℕ} {r s t : Reader} {x y z : List ℕ} → Reaches at r x m s y → Goes c m s y t z → Goes c at r x t z
goes_joined c one (inl two) = inl (two.0, reaches_then one two.1)
goes_joined c one (inr stops) = inr (stops_before c one stops)

pub goes_then : (c : Bool) {at : ℕ} {r s t : Reader} {x y z : List ℕ} → Goes c at r x s y → ((m : ℕ) → Goes c m s y t z) → Goes c at r x t z
goes_then c (inl p) q = goes_joined c p.1 (q p.0)
goes_then c (inr stops) q = inr stops

stopped_at : (c : Bool) (n : ℕ) (a : Result (List ConfEntry) ConfRefusal) (e : ConfRefusal) → a ≡ Err e → IsStopped c n (Err e)
    → IsStopped c n a
stopped_at c n a e same h = subst (IsStopped c n) (sym same) h

-- ---- names and keys

name_goes_if : (c g : Bool) (name rest : List ℕ) (at : ℕ) (es : List ConfEntry) (bs : List ℕ) → is_given (sections es) name ≡ g
    → IsName name → EndsWord rest → Goes c at (item es bs) (name ++ rest) (between Named name [] es bs) rest
name_goes_if c true name rest at es bs e h ends =
    inr (stopped_at c (at + length (name ++ rest)) _ (DuplicateKey at) (name_refused name rest at at es bs h ends e refl) tt)
name_goes_if c false name rest at es bs e h ends = inl (name_arrives name rest at es bs h e ends)

pub name_goes : (c : Bool) (name rest : List ℕ) (at : ℕ) (es : List ConfEntry) (bs : List ℕ) → IsName name → EndsWord rest
    → Goes c at (item es bs) (name ++ rest) (between Named name [] es bs) rest
name_goes c name rest at es bs h ends = name_goes_if c (is_given (sections es) name) name rest at es bs refl h ends

-- a gap and a name
pub named_goes : (c : Bool) (g name rest : List ℕ) (at : ℕ) (es : List ConfEntry) (bs : List ℕ) → IsGap g → IsName name → EndsWord rest
    → Goes c at (item es bs) (g ++ (name ++ rest)) (between Named name [] es bs) rest
named_goes c g name rest at es bs gap h ends =
    goes_then c (inl (gap_arrives g (name ++ rest) at Item [] [] es bs gap)) λ a.
    name_goes c name rest a es bs h ends

pub header_goes : (c : Bool) (front name rest : List ℕ) (at : ℕ) (es : List ConfEntry) (bs : List ℕ) → IsHeader front name → EndsWord rest
    → Goes c at (item es bs) (front ++ rest) (between Named name [] es bs) rest
header_goes c front name rest at es bs (g, h, gap, name_is, gap_h, parts) ends =
    let whole : front ++ rest ≡ g ++ (name ++ (h ++ rest)) = rw parts (simp append_assoc refl) in
    rw whole (
    goes_then c (named_goes c g name (h ++ rest) at es bs gap name_is (gap_ends h rest gap_h ends)) λ a.
    inl (gap_arrives h rest a Named name [] es bs gap_h))

pub key_goes : (c : Bool) (key name rest : List ℕ) (at : ℕ) (es : List ConfEntry) (bs : List ℕ) → IsKey key name
    → Goes c at (item es bs) (key ++ rest) (between Wanted name [] es bs) rest
key_goes c key name rest at es bs (g, h, k, gap, name_is, gap_h, gap_k, parts) =
    let whole : key ++ rest ≡ (g ++ name ++ h) ++ (61 ∷ (k ++ rest)) = rw parts (simp append_assoc refl) in
    rw whole (
    goes_then c (header_goes c (g ++ name ++ h) name (61 ∷ (k ++ rest)) at es bs (g, h, gap, name_is, gap_h, refl)
    (mark_ends 61 Equals (k ++ rest) kind-equals refl)) λ a.
    goes_then c (inl (byte_arrives 61 Equals (k ++ rest) a (between Named name [] es bs) (between Wanted name [] es bs) refl kind-equals
    refl)) λ b.
    inl (gap_arrives k rest b Wanted name [] es bs gap_k))

-- ---- scalars and arrays

number_goes : (c f : Bool) (k : ℕ) (x rest : List ℕ) (at : ℕ) (p : Phase) (n : List ℕ) (ss : List Scalar) (es : List ConfEntry)
    (bs : List ℕ) → ltb k (2 ^ 64) ≡ f → wants_scalar p ≡ true → IsScalar x (Number k) → EndsWord rest
    → Goes c at (between p n ss es bs) (x ++ rest) (with_scalar p (between p n ss es bs) (Number k)) rest
number_goes c true k x rest at p n ss es bs fits wants h ends = inl (scalar_arrives (Number k) x rest at p n ss es bs wants h fits ends)
number_goes c false k x rest at p n ss es bs fits wants h ends =
    inr (stopped_at c (at + length (x ++ rest)) _ (NumberTooWide at)
    (digits_refused p x rest at at n ss es bs wants h.0 ends (subst (λ z. 2 ^ 64 ≤ z) h.1 (ltb-false k (2 ^ 64) fits)) refl) tt)

pub scalar_goes : (c : Bool) (s : Scalar) (x rest : List ℕ) (at : ℕ) (p : Phase) (n : List ℕ) (ss : List Scalar) (es : List ConfEntry)
    (bs : List ℕ) → wants_scalar p ≡ true → IsScalar x s → EndsScalar s rest
    → Goes c at (between p n ss es bs) (x ++ rest) (with_scalar p (between p n ss es bs) s) rest
scalar_goes c (Number k) x rest at p n ss es bs wants h ends = number_goes c (ltb k (2 ^ 64)) k x rest at p n ss es bs refl wants h ends
scalar_goes c (Text s) x rest at p n ss es bs wants h ends = inl (scalar_arrives (Text s) x rest at p n ss es bs wants h refl ends)

pub array_scalar : (c f : Bool) (q : ℕ) (s : Scalar) (x rest : List ℕ) (at : ℕ) (n : List ℕ) (ss : List Scalar) (es : List ConfEntry)
    (bs : List ℕ) → IsScalar x s → EndsScalar s rest
    → Goes c at (between (in_array f q) n ss es bs) (x ++ rest) (between (After q) n (ss ++ s ∷ []) es bs) rest
array_scalar c true q s x rest at n ss es bs h ends = scalar_goes c s x rest at (First q) n ss es bs refl h ends
array_scalar c false q s x rest at n ss es bs h ends = scalar_goes c s x rest at (Next q) n ss es bs refl h ends

-- a scalar of an array with the gaps round it
pub spaced_goes : (c f : Bool) (q : ℕ) (s : Scalar) (g x h rest : List ℕ) (at : ℕ) (n : List ℕ) (ss : List Scalar) (es : List ConfEntry)
    (bs : List ℕ) → IsGap g → IsScalar x s → IsGap h → EndsWord rest
    → Goes c at (between (in_array f q) n ss es bs) (g ++ (x ++ (h ++ rest))) (between (After q) n (ss ++ s ∷ []) es bs) rest
spaced_goes c f q s g x h rest at n ss es bs gap scalar gap_h ends =
    goes_then c (inl (gap_arrives g (x ++ (h ++ rest)) at (in_array f q) n ss es bs gap)) λ a.
    goes_then c (array_scalar c f q s x (h ++ rest) a n ss es bs scalar (ends_scalar s (h ++ rest) (gap_ends h rest gap_h ends))) λ b.
    inl (gap_arrives h rest b (After q) n (ss ++ s ∷ []) es bs gap_h)

array_goes : (c f : Bool) (q : ℕ) (ts : List Scalar) (t : Scalar) (inner rest : List ℕ) (at : ℕ) (n : List ℕ) (ss : List Scalar)
    (es : List ConfEntry) (bs : List ℕ) → IsArray inner (t ∷ ts)
    → Goes c at (between (in_array f q) n ss es bs) (inner ++ 93 ∷ rest) (item (es ++ Assign n (Many (ss ++ t ∷ ts)) ∷ []) bs) rest
array_goes c f q [] t inner rest at n ss es bs (g, x, h, gap, scalar, gap_h, parts) =
    let whole : inner ++ 93 ∷ rest ≡ g ++ (x ++ (h ++ 93 ∷ rest)) = rw parts (simp append_assoc refl) in
    rw whole (
    goes_then c (spaced_goes c f q t g x h (93 ∷ rest) at n ss es bs gap scalar gap_h
    (mark_ends 93 CloseBracket rest kind-close_bracket refl)) λ a.
    inl (byte_arrives 93 CloseBracket rest a (between (After q) n (ss ++ t ∷ []) es bs)
    (item (es ++ Assign n (Many (ss ++ t ∷ [])) ∷ []) bs) refl kind-close_bracket refl))
array_goes c f q (u ∷ ts) t inner rest at n ss es bs (g, x, h, more, gap, scalar, gap_h, others, parts) =
    let whole : inner ++ 93 ∷ rest ≡ g ++ (x ++ (h ++ 44 ∷ (more ++ 93 ∷ rest))) = rw parts (simp append_assoc refl) in
    let all : ss ++ t ∷ u ∷ ts ≡ (ss ++ t ∷ []) ++ u ∷ ts = simp append_assoc refl in
    rw (whole, all) (
    goes_then c (spaced_goes c f q t g x h (44 ∷ (more ++ 93 ∷ rest)) at n ss es bs gap scalar gap_h
    (mark_ends 44 Comma (more ++ 93 ∷ rest) kind-comma refl)) λ a.
    goes_then c (inl (byte_arrives 44 Comma (more ++ 93 ∷ rest) a (between (After q) n (ss ++ t ∷ []) es bs)
    (between (Next q) n (ss ++ t ∷ []) es bs) refl kind-comma refl)) λ b.
    array_goes c false q ts u more rest b n (ss ++ t ∷ []) es bs others)

-- the scalars of an array up to the comma behind them
pub comma_goes : (c f : Bool) (q : ℕ) (ts : List Scalar) (t : Scalar) (inner rest : List ℕ) (at : ℕ) (n : List ℕ) (ss : List Scalar)
    (es : List ConfEntry) (bs : List ℕ) → IsArray inner (t ∷ ts)
    → Goes c at (between (in_array f q) n ss es bs) (inner ++ 44 ∷ rest) (between (Next q) n (ss ++ t ∷ ts) es bs) rest
comma_goes c f q [] t inner rest at n ss es bs (g, x, h, gap, scalar, gap_h, parts) =
    let whole : inner ++ 44 ∷ rest ≡ g ++ (x ++ (h ++ 44 ∷ rest)) = rw parts (simp append_assoc refl) in
    rw whole (
    goes_then c (spaced_goes c f q t g x h (44 ∷ rest) at n ss es bs gap scalar gap_h (mark_ends 44 Comma rest kind-comma refl)) λ a.
    inl (byte_arrives 44 Comma rest a (between (After q) n (ss ++ t ∷ []) es bs) (between (Next q) n (ss ++ t ∷ []) es bs) refl kind-comma
    refl))
comma_goes c f q (u ∷ ts) t inner rest at n ss es bs (g, x, h, more, gap, scalar, gap_h, others, parts) =
    let whole : inner ++ 44 ∷ rest ≡ g ++ (x ++ (h ++ 44 ∷ (more ++ 44 ∷ rest))) = rw parts (simp append_assoc refl) in
    let all : ss ++ t ∷ u ∷ ts ≡ (ss ++ t ∷ []) ++ u ∷ ts = simp append_assoc refl in
    rw (whole, all) (
    goes_then c (spaced_goes c f q t g x h (44 ∷ (more ++ 44 ∷ rest)) at n ss es bs gap scalar gap_h
    (mark_ends 44 Comma (more ++ 44 ∷ rest) kind-comma refl)) λ a.
    goes_then c (inl (byte_arrives 44 Comma (more ++ 44 ∷ rest) a (between (After q) n (ss ++ t ∷ []) es bs)
    (between (Next q) n (ss ++ t ∷ []) es bs) refl kind-comma refl)) λ b.
    comma_goes c false q ts u more rest b n (ss ++ t ∷ []) es bs others)

pub bracket_arrives : (rest : List ℕ) (at : ℕ) (n : List ℕ) (ss : List Scalar) (es : List ConfEntry) (bs : List ℕ)
    → Arrives at (between Wanted n ss es bs) (91 ∷ rest) (between (First at) n ss es bs) rest
bracket_arrives rest at n ss es bs =
    byte_arrives 91 OpenBracket rest at (between Wanted n ss es bs) (between (First at) n ss es bs) refl kind-open_bracket refl

value_goes : (c : Bool) (v : Value) (x name rest : List ℕ) (at : ℕ) (es : List ConfEntry) (bs : List ℕ) → IsValue x v
    → EndsEntry (Assign name v) rest
    → Goes c at (between Wanted name [] es bs) (x ++ rest) (item (es ++ Assign name v ∷ []) bs) rest
value_goes c (One (Number n)) x name rest at es bs h ends = scalar_goes c (Number n) x rest at Wanted name [] es bs refl h ends
value_goes c (One (Text s)) x name rest at es bs h ends = scalar_goes c (Text s) x rest at Wanted name [] es bs refl h tt
value_goes c (Many []) x name rest at es bs (inner, gap, parts) ends =
    let whole : x ++ rest ≡ 91 ∷ (inner ++ 93 ∷ rest) = rw parts (simp append_assoc refl) in
    rw whole (
    goes_then c (inl (bracket_arrives (inner ++ 93 ∷ rest) at name [] es bs)) λ a.
    goes_then c (inl (gap_arrives inner (93 ∷ rest) a (First at) name [] es bs gap)) λ b.
    inl (byte_arrives 93 CloseBracket rest b (between (First at) name [] es bs) (item (es ++ Assign name (Many []) ∷ []) bs) refl
    kind-close_bracket refl))
value_goes c (Many (t ∷ ts)) x name rest at es bs (inner, array, parts) ends =
    let whole : x ++ rest ≡ 91 ∷ (inner ++ 93 ∷ rest) = rw parts (simp append_assoc refl) in
    rw whole (
    goes_then c (inl (bracket_arrives (inner ++ 93 ∷ rest) at name [] es bs)) λ a.
    array_goes c true at ts t inner rest a name [] es bs array)

-- ---- entries

-- a section begins, by a brace at a place that is known
abbrev pub OpensAt : Bool → ℕ → Reader → List ℕ → List ConfEntry → List ℕ → List ℕ → Type 0
OpensAt c at r text es bs rest =
    ((m : ℕ) × (m + suc (length rest) ≡ at + length text) × Arrives at r text (item es (m ∷ bs)) rest) ⊎ Stops c at r text

opens_if : (c f : Bool) (m at : ℕ) (name text rest : List ℕ) (es : List ConfEntry) (bs : List ℕ) → ltb (length (sections es)) 17 ≡ f
    → Reaches at (item es bs) text m (between Named name [] es bs) (123 ∷ rest)
    → OpensAt c at (item es bs) text (es ++ Open name ∷ []) bs rest
opens_if c true m at name text rest es bs e one =
    let two =
    byte_arrives 123 OpenBrace rest m (between Named name [] es bs) (item (es ++ Open name ∷ []) (m ∷ bs)) refl kind-open_brace
    (open_step m name es bs e) in
    inl (m, one.place, (two.0, reaches_then one two.1))
opens_if c false m at name text rest es bs e one =
    inr (stops_before c one (stopped_at c (m + suc (length rest)) _ (TooDeep m) (deep_step m name es bs rest e) tt))

opens : (c : Bool) (at : ℕ) (name text rest : List ℕ) (es : List ConfEntry) (bs : List ℕ)
    → Goes c at (item es bs) text (between Named name [] es bs) (123 ∷ rest) → OpensAt c at (item es bs) text (es ++ Open name ∷ []) bs rest
opens c at name text rest es bs (inl one) = opens_if c (ltb (length (sections es)) 17) one.0 at name text rest es bs refl one.1
opens c at name text rest es bs (inr stops) = inr stops

pub open_goes : (c : Bool) (x name rest : List ℕ) (at : ℕ) (es : List ConfEntry) (bs : List ℕ) → IsEntry x (Open name)
    → OpensAt c at (item es bs) (x ++ rest) (es ++ Open name ∷ []) bs rest
open_goes c x name rest at es bs (front, header, parts) =
    let whole : x ++ rest ≡ front ++ (123 ∷ rest) = rw parts (simp append_assoc refl) in
    rw whole (opens c at name (front ++ (123 ∷ rest)) rest es bs
    (header_goes c front name (123 ∷ rest) at es bs header (mark_ends 123 OpenBrace rest kind-open_brace refl)))

-- the reader after entries, with the braces that they opened over those that were open
abbrev pub AfterEntries : Bool → List (List (List ℕ)) → ℕ → Reader → List ℕ → List ConfEntry → List ℕ → List ℕ → Type 0
AfterEntries c given at r text es below rest =
    ((over : List ℕ) × (length given ≡ suc (length over)) × Arrives at r text (item es (over ++ below)) rest) ⊎ Stops c at r text

-- with the flag, entries may close more than they opened
abbrev pub IsDeep : Bool → List (List (List ℕ)) → Type 0
IsDeep true given = Unit {0}
IsDeep false given = 0 < length given

opened_over : (c : Bool) (given : List (List (List ℕ))) (name : List ℕ) (at : ℕ) (r : Reader) (text : List ℕ) (es : List ConfEntry)
    (over below rest : List ℕ) → length given ≡ suc (length over) → OpensAt c at r text es (over ++ below) rest
    → AfterEntries c (after_entry given (Open name)) at r text es below rest
opened_over c given name at r text es over below rest same (inl (m, place, arrives)) =
    inl (m ∷ over, after_open given name (length over) same, arrives)
opened_over c given name at r text es over below rest same (inr stops) = inr stops

assigned_over : (c : Bool) (given : List (List (List ℕ))) (name : List ℕ) (v : Value) (at : ℕ) (r : Reader) (text : List ℕ)
    (es : List ConfEntry) (over below rest : List ℕ) → length given ≡ suc (length over) → Goes c at r text (item es (over ++ below)) rest
    → AfterEntries c (after_entry given (Assign name v)) at r text es below rest
assigned_over c given name v at r text es over below rest same (inl arrives) =
    inl (over, after_assign given name v (length over) same, arrives)
assigned_over c given name v at r text es over below rest same (inr stops) = inr stops

not_deep : (given : List (List (List ℕ))) → length given ≡ 1 → 0 < length (after_entry given Close) → ⊥
not_deep [] e h = absurd (omega (arith, e))
not_deep (names ∷ given) e h = absurd (omega (arith, e, h))

close_stops : (rest : List ℕ) (m : ℕ) (es : List ConfEntry) → outcome m (item es []) (125 ∷ rest) ≡ Err (BadToken m)
unfolding outcome
close_stops rest m es =
    let one : step m 125 (item es []) ≡ Err (BadToken m) = step_is Between CloseBrace 125 m (item es []) refl kind-close_brace in
    ap (λ (x : Read). x >>= λ t. outcome (m + 1) t rest) one

-- what a section closes over is open below
close_over : (c : Bool) (given : List (List (List ℕ))) (g rest : List ℕ) (at : ℕ) (es : List ConfEntry) (over below : List ℕ)
    → (below ≡ []) ⊎ (c ≡ false) → length given ≡ suc (length over) → IsDeep c (after_entry given Close) → IsGap g
    → AfterEntries c (after_entry given Close) at (item es (over ++ below)) (g ++ 125 ∷ rest) (es ++ Close ∷ []) below rest
close_over c given g rest at es (b ∷ over) below low same deep gap =
    inl (over, after_close given (length over) same, close_arrives g rest at es b (over ++ below) gap)
close_over false given g rest at es [] below low same deep gap = absurd (not_deep given same deep)
close_over true given g rest at es [] below (inr e) same deep gap = absurd cc
close_over true given g rest at es [] below (inl none) same deep gap =
    let (m, one) = gap_arrives g (125 ∷ rest) at Item [] [] es below gap in
    inr (stops_before true one (stopped_at true (m + suc (length rest)) _ (BadToken m)
    (ap (λ z. outcome m (item es z) (125 ∷ rest)) none ∙ close_stops rest m es) (omega arith)))

entry_goes : (c : Bool) (e : ConfEntry) (x rest : List ℕ) (at : ℕ) (given : List (List (List ℕ))) (es : List ConfEntry)
    (over below : List ℕ) → (below ≡ []) ⊎ (c ≡ false) → length given ≡ suc (length over) → IsEntry x e → IsDeep c (after_entry given e)
    → EndsEntry e rest
    → AfterEntries c (after_entry given e) at (item es (over ++ below)) (x ++ rest) (es ++ e ∷ []) below rest
entry_goes c (Open name) x rest at given es over below low same entry deep ends =
    opened_over c given name at (item es (over ++ below)) (x ++ rest) (es ++ Open name ∷ []) over below rest same
    (open_goes c x name rest at es (over ++ below) entry)
entry_goes c Close x rest at given es over below low same (g, gap, parts) deep ends =
    let whole : x ++ rest ≡ g ++ 125 ∷ rest = rw parts (simp append_assoc refl) in
    rw whole (close_over c given g rest at es over below low same deep gap)
entry_goes c (Assign name v) x rest at given es over below low same (key, y, key_is, value, parts) deep ends =
    let whole : x ++ rest ≡ key ++ (y ++ rest) = rw parts (simp append_assoc refl) in
    rw whole (
    assigned_over c given name v at (item es (over ++ below)) (key ++ (y ++ rest)) (es ++ Assign name v ∷ []) over below rest same
    (goes_then c (key_goes c key name (y ++ rest) at es (over ++ below) key_is) λ a.
    value_goes c v y name rest a es (over ++ below) value ends))

deep_before : (c : Bool) (given : List (List (List ℕ))) (es : List ConfEntry) → IsDeep c (after_entries given es) → IsDeep c given
deep_before true given es h = tt
deep_before false given es h = some_before given es h

entries_joined : (c : Bool) (given : List (List (List ℕ))) (at m : ℕ) (r : Reader) (text more : List ℕ) (s : Reader) (es : List ConfEntry)
    (below rest : List ℕ) → Reaches at r text m s more → AfterEntries c given m s more es below rest
    → AfterEntries c given at r text es below rest
entries_joined c given at m r text more s es below rest one (inl (over, same, arrives)) =
    inl (over, same, (arrives.0, reaches_then one arrives.1))
entries_joined c given at m r text more s es below rest one (inr stops) = inr (stops_before c one stops)

entries_next : (c : Bool) (e : ConfEntry) (fs : List ConfEntry) (given : List (List (List ℕ))) (at : ℕ) (r : Reader) (text more : List ℕ)
    (es : List ConfEntry) (below rest : List ℕ) → AfterEntries c (after_entry given e) at r text (es ++ e ∷ []) below more
    → ((m : ℕ) (up : List ℕ) → length (after_entry given e) ≡ suc (length up)
    → AfterEntries c (after_entries (after_entry given e) fs) m (item (es ++ e ∷ []) (up ++ below)) more ((es ++ e ∷ []) ++ fs) below rest)
    → AfterEntries c (after_entries (after_entry given e) fs) at r text ((es ++ e ∷ []) ++ fs) below rest
entries_next c e fs given at r text more es below rest (inl (up, same, (m, one))) on =
    entries_joined c (after_entries (after_entry given e) fs) at m r text more (item (es ++ e ∷ []) (up ++ below)) ((es ++ e ∷ []) ++ fs)
    below rest one (on m up same)
entries_next c e fs given at r text more es below rest (inr stops) on = inr stops

pub entries_go : (c : Bool) (fs : List ConfEntry) (text rest : List ℕ) (at : ℕ) (given : List (List (List ℕ))) (es : List ConfEntry)
    (over below : List ℕ) → (below ≡ []) ⊎ (c ≡ false) → length given ≡ suc (length over) → BeginsWith text fs rest
    → IsDeep c (after_entries given fs)
    → AfterEntries c (after_entries given fs) at (item es (over ++ below)) text (es ++ fs) below rest
entries_go c [] text rest at given es over below low same begins deep =
    inl (over, same, (at, rw (begins, append-nil) (reaches_itself at (item es (over ++ below)) rest)))
entries_go c (e ∷ fs) text rest at given es over below low same (x, more, parts, entry, ends, others) deep =
    let all : es ++ e ∷ fs ≡ (es ++ e ∷ []) ++ fs = simp append_assoc refl in
    let first = entry_goes c e x more at given es over below low same entry (deep_before c (after_entry given e) fs deep) ends in
    rw (parts, all) (entries_next c e fs given at (item es (over ++ below)) (x ++ more) more es below rest first
    (λ m up same_up. entries_go c fs more rest m (after_entry given e) (es ++ e ∷ []) up below low same_up others deep))

-- ---- whole texts

-- a text of the grammar is read as its tree, or a limit is broken
pub spelled_read : (text : List ℕ) (es : List ConfEntry) → Spells text es
    → (reading text ≡ Ok es) ⊎ IsStopped false (length text) (reading text)
spelled_read text es s = read (entries_go false es text s.gap 0 ([] ∷ []) [] [] [] (inl refl) refl s.entries (omega (arith, s.balanced)))
  where
    no_more : (over : List ℕ) → length (sections es) ≡ suc (length over) → over ++ [] ≡ []
    no_more [] e = refl
    no_more (b ∷ over) e = absurd (omega (arith, e, s.balanced))

    read : AfterEntries false (sections es) 0 (item [] []) text es [] s.gap
        → (reading text ≡ Ok es) ⊎ IsStopped false (length text) (reading text)
    read (inl (over, same, (a, one))) =
        let (d, gap) = last_gap (after_gap false s.gap) s.ended in
        let two = gap_reaches false s.gap [] a Item [] [] [] es (over ++ []) d gap in
        inl (one.same ∙ ap (outcome a (item es (over ++ []))) (sym (append-nil s.gap)) ∙ two.same
        ∙ rw (no_more over same) (ended_item d (a + length s.gap) es))
    read (inr stops) = let n : 0 + length text ≡ length text = omega arith in inr (subst (λ n. IsStopped false n (reading text)) n stops)
