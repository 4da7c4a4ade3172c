-- A text of the grammar is read as its tree.
use Rattle.std.proofs.Common.{◌≡◌, ℕ, suc, ◌+◌, ◌<◌, Bool, true, false, ltb, List, [], ◌∷◌, ◌++◌, length, Option, Some, None, Ok, refl, sym}
use Rattle.std.proofs.Common.{ap, subst, ◌∙◌, append_assoc, arith}
use Rattle.std.proofs.lemmas.List.{append-nil}
use Rattle.std.specs.Prelude.{not, IsSome}
use Rattle.std.specs.List.{list_all}
use Rattle.std.specs.Option.{option_and_then}
use Rattle.conf_text.specs.declared.kind.Kind.{Kind}
use Rattle.conf_text.specs.declared.kind.Kind.TheVariants.{Digit, Letter, OpenBrace, CloseBrace, OpenBracket, CloseBracket, Equals, Comma}
use Rattle.conf_text.specs.Bytes.{kind}
use Rattle.conf_text.specs.Entries.{Scalar, Number, Text, Value, One, Many, ConfEntry, Open, Close, Assign, after_entry, after_entries}
use Rattle.conf_text.specs.Entries.{sections, is_given, fits_scalar, scalars_of, keeps_limits, keep_limits}
use Rattle.conf_text.specs.Grammar.{is_name, gap_byte, after_gap, IsGap, IsName, EndsWord, IsScalar, IsArray, IsValue, IsKey, IsEntry}
use Rattle.conf_text.specs.Grammar.{EndsEntry, BeginsWith, IsTextOf}
use Rattle.conf_text.specs.declared.reader.Mode.TheVariants.{Between, Word}
use Rattle.conf_text.specs.declared.reader.Phase.{Phase}
use Rattle.conf_text.specs.declared.reader.Phase.TheVariants.{Item, Named, Wanted, First, Next, After}
use Rattle.conf_text.specs.Reader.{Reader, in_mode, outcome, reading, ended}
use Rattle.conf_text.proofs.Depth.{sections-append, some_before, after_open, after_assign}
use Rattle.conf_text.proofs.Steps.{in_state, reaches_then, reaches_itself, reaches_step, gap_mode, step_is, gap_reaches, name_more}
use Rattle.conf_text.proofs.Steps.{name_begins, word_ends, both_true, Arrives, arrives_then, EndsScalar, scalar_arrives}

abbrev pub between : Phase → List ℕ → List Scalar → List ConfEntry → List ℕ → Reader
between p n ss es bs = in_state Between p [] n ss es bs

abbrev pub item : List ConfEntry → List ℕ → Reader
item es bs = between Item [] [] es bs

pub kind-open_brace : kind 123 ≡ OpenBrace
unfolding kind
kind-open_brace = refl

pub kind-close_brace : kind 125 ≡ CloseBrace
unfolding kind
kind-close_brace = refl

pub kind-open_bracket : kind 91 ≡ OpenBracket
unfolding kind
kind-open_bracket = refl

pub kind-close_bracket : kind 93 ≡ CloseBracket
unfolding kind
kind-close_bracket = refl

pub kind-equals : kind 61 ≡ Equals
unfolding kind
kind-equals = refl

pub kind-comma : kind 44 ≡ Comma
unfolding kind
kind-comma = refl

-- a gap
pub gap_arrives : (g rest : List ℕ) (at : ℕ) (p : Phase) (n : List ℕ) (ss : List Scalar) (es : List ConfEntry) (bs : List ℕ) → IsGap g
    → Arrives at (between p n ss es bs) (g ++ rest) (between p n ss es bs) rest
gap_arrives g rest at p n ss es bs h = (at + length g, gap_reaches false g rest at p [] n ss es bs false h)

first_of_gap : (k : Kind) (f : Bool → Option Bool) (d : Bool) → option_and_then f (gap_byte false k) ≡ Some d → is_name k ≡ false
first_of_gap Digit f d e = absurd cc
first_of_gap Letter f d e = absurd cc
first_of_gap _ f d e = refl

-- a word ends at a gap
pub gap_ends : (g rest : List ℕ) → IsGap g → EndsWord rest → EndsWord (g ++ rest)
gap_ends [] rest h e = e
gap_ends (b ∷ g) rest h e = first_of_gap (kind b) (λ x. after_gap x g) false h

pub mark_ends : (b : ℕ) (k : Kind) (rest : List ℕ) → kind b ≡ k → is_name k ≡ false → EndsWord (b ∷ rest)
mark_ends b k rest e f = ap is_name e ∙ f

pub ends_scalar : (s : Scalar) (rest : List ℕ) → EndsWord rest → EndsScalar s rest
ends_scalar (Number n) rest e = e
ends_scalar (Text s) rest e = tt

-- a byte that is no part of a word or string
pub byte_arrives : (b : ℕ) (k : Kind) (rest : List ℕ) (at : ℕ) (r s : Reader) → r.mode ≡ Between → kind b ≡ k
    → in_mode Between k b at r ≡ Ok s → Arrives at r (b ∷ rest) s rest
byte_arrives b k rest at r s m e f = (at + 1, reaches_step at b r s rest (step_is Between k b at r m e ∙ f))

-- a name
pub name_arrives : (name rest : List ℕ) (at : ℕ) (es : List ConfEntry) (bs : List ℕ) → IsName name → is_given (sections es) name ≡ false
    → EndsWord rest → Arrives at (item es bs) (name ++ rest) (between Named name [] es bs) rest
name_arrives [] rest at es bs h fresh ends = absurd (h.0 refl)
name_arrives (b ∷ name) rest at es bs h fresh ends =
    let (first, others) = both_true (is_name (kind b)) (list_all (λ b. is_name (kind b)) name) h.1 in
    let one =
    reaches_step at b (item es bs) (in_state Word Item (b ∷ []) [] [] es bs) (name ++ rest)
    (step_is Between (kind b) b at (item es bs) refl refl ∙ name_begins (kind b) b at [] [] es bs first) in
    let more = name_more name rest (at + 1) (b ∷ []) [] [] es bs others in
    let last = word_ends rest (at + 1 + length name) Item Named (b ∷ name) [] (b ∷ name) [] [] es es bs bs ends (rw fresh refl) in
    (at + 1 + length name, reaches_then one (reaches_then more last))

-- what stands before a value
pub key_arrives : (key name rest : List ℕ) (at : ℕ) (es : List ConfEntry) (bs : List ℕ) → IsKey key name
    → is_given (sections es) name ≡ false → Arrives at (item es bs) (key ++ rest) (between Wanted name [] es bs) rest
key_arrives key name rest at es bs (g, h, k, gap, name_is, gap_h, gap_k, parts) fresh =
    let whole : key ++ rest ≡ g ++ (name ++ (h ++ 61 ∷ (k ++ rest))) = rw parts (simp append_assoc refl) in
    rw whole (
    arrives_then (gap_arrives g (name ++ (h ++ 61 ∷ (k ++ rest))) at Item [] [] es bs gap) λ a.
    arrives_then (name_arrives name (h ++ 61 ∷ (k ++ rest)) a es bs name_is fresh
    (gap_ends h (61 ∷ (k ++ rest)) gap_h (mark_ends 61 Equals (k ++ rest) kind-equals refl))) λ b.
    arrives_then (gap_arrives h (61 ∷ (k ++ rest)) b Named name [] es bs gap_h) λ c.
    arrives_then (byte_arrives 61 Equals (k ++ rest) c (between Named name [] es bs) (between Wanted name [] es bs) refl kind-equals refl)
    λ d.
    gap_arrives k rest d Wanted name [] es bs gap_k)

-- ---- arrays

-- the first scalar of an array may come next, or another one after a comma
abbrev pub in_array : Bool → ℕ → Phase
in_array true q = First q
in_array false q = Next q

array_scalar : (c : Bool) (q : ℕ) (s : Scalar) (x rest : List ℕ) (at : ℕ) (n : List ℕ) (ss : List Scalar) (es : List ConfEntry)
    (bs : List ℕ) → IsScalar x s → fits_scalar s ≡ true → EndsScalar s rest
    → Arrives at (between (in_array c q) n ss es bs) (x ++ rest) (between (After q) n (ss ++ s ∷ []) es bs) rest
array_scalar true q s x rest at n ss es bs h fits ends = scalar_arrives s x rest at (First q) n ss es bs refl h fits ends
array_scalar false q s x rest at n ss es bs h fits ends = scalar_arrives s x rest at (Next q) n ss es bs refl h fits ends

-- a scalar of an array with the gaps round it
spaced_arrives : (c : Bool) (q : ℕ) (s : Scalar) (g x h rest : List ℕ) (at : ℕ) (n : List ℕ) (ss : List Scalar) (es : List ConfEntry)
    (bs : List ℕ) → IsGap g → IsScalar x s → IsGap h → fits_scalar s ≡ true → EndsWord rest
    → Arrives at (between (in_array c q) n ss es bs) (g ++ (x ++ (h ++ rest))) (between (After q) n (ss ++ s ∷ []) es bs) rest
spaced_arrives c q s g x h rest at n ss es bs gap scalar gap_h fits ends =
    arrives_then (gap_arrives g (x ++ (h ++ rest)) at (in_array c q) n ss es bs gap) λ a.
    arrives_then (array_scalar c q s x (h ++ rest) a n ss es bs scalar fits (ends_scalar s (h ++ rest) (gap_ends h rest gap_h ends))) λ b.
    gap_arrives h rest b (After q) n (ss ++ s ∷ []) es bs gap_h

array_arrives : (c : Bool) (q : ℕ) (ts : List Scalar) (t : Scalar) (inner rest : List ℕ) (at : ℕ) (n : List ℕ) (ss : List Scalar)
    (es : List ConfEntry) (bs : List ℕ) → IsArray inner (t ∷ ts) → list_all fits_scalar (t ∷ ts) ≡ true
    → Arrives at (between (in_array c q) n ss es bs) (inner ++ 93 ∷ rest) (item (es ++ Assign n (Many (ss ++ t ∷ ts)) ∷ []) bs) rest
array_arrives c q [] t inner rest at n ss es bs (g, x, h, gap, scalar, gap_h, parts) fits =
    let whole : inner ++ 93 ∷ rest ≡ g ++ (x ++ (h ++ 93 ∷ rest)) = rw parts (simp append_assoc refl) in
    rw whole (
    arrives_then (spaced_arrives c q t g x h (93 ∷ rest) at n ss es bs gap scalar gap_h (both_true (fits_scalar t) true fits).0
    (mark_ends 93 CloseBracket rest kind-close_bracket refl)) λ a.
    byte_arrives 93 CloseBracket rest a (between (After q) n (ss ++ t ∷ []) es bs) (item (es ++ Assign n (Many (ss ++ t ∷ [])) ∷ []) bs)
    refl kind-close_bracket refl)
array_arrives c q (u ∷ ts) t inner rest at n ss es bs (g, x, h, more, gap, scalar, gap_h, others, parts) fits =
    let (first, fit) = both_true (fits_scalar t) (list_all fits_scalar (u ∷ ts)) fits in
    let whole : inner ++ 93 ∷ rest ≡ g ++ (x ++ (h ++ 44 ∷ (more ++ 93 ∷ rest))) = rw parts (simp append_assoc refl) in
    let all : ss ++ t ∷ u ∷ ts ≡ (ss ++ t ∷ []) ++ u ∷ ts = simp append_assoc refl in
    rw (whole, all) (
    arrives_then (spaced_arrives c q t g x h (44 ∷ (more ++ 93 ∷ rest)) at n ss es bs gap scalar gap_h first
    (mark_ends 44 Comma (more ++ 93 ∷ rest) kind-comma refl)) λ a.
    arrives_then (byte_arrives 44 Comma (more ++ 93 ∷ rest) a (between (After q) n (ss ++ t ∷ []) es bs)
    (between (Next q) n (ss ++ t ∷ []) es bs) refl kind-comma refl) λ b.
    array_arrives false q ts u more rest b n (ss ++ t ∷ []) es bs others fit)

-- ---- values and entries

value_arrives : (v : Value) (x name rest : List ℕ) (at : ℕ) (es : List ConfEntry) (bs : List ℕ) → IsValue x v
    → list_all fits_scalar (scalars_of v) ≡ true → EndsEntry (Assign name v) rest
    → Arrives at (between Wanted name [] es bs) (x ++ rest) (item (es ++ Assign name v ∷ []) bs) rest
value_arrives (One (Number n)) x name rest at es bs h fits ends =
    scalar_arrives (Number n) x rest at Wanted name [] es bs refl h (both_true (fits_scalar (Number n)) true fits).0 ends
value_arrives (One (Text s)) x name rest at es bs h fits ends = scalar_arrives (Text s) x rest at Wanted name [] es bs refl h refl tt
value_arrives (Many []) x name rest at es bs (inner, gap, parts) fits ends =
    let whole : x ++ rest ≡ 91 ∷ (inner ++ 93 ∷ rest) = rw parts (simp append_assoc refl) in
    rw whole (
    arrives_then (byte_arrives 91 OpenBracket (inner ++ 93 ∷ rest) at (between Wanted name [] es bs) (between (First at) name [] es bs) refl
    kind-open_bracket refl) λ a.
    arrives_then (gap_arrives inner (93 ∷ rest) a (First at) name [] es bs gap) λ b.
    byte_arrives 93 CloseBracket rest b (between (First at) name [] es bs) (item (es ++ Assign name (Many []) ∷ []) bs) refl
    kind-close_bracket refl)
value_arrives (Many (t ∷ ts)) x name rest at es bs (inner, array, parts) fits ends =
    let whole : x ++ rest ≡ 91 ∷ (inner ++ 93 ∷ rest) = rw parts (simp append_assoc refl) in
    rw whole (
    arrives_then (byte_arrives 91 OpenBracket (inner ++ 93 ∷ rest) at (between Wanted name [] es bs) (between (First at) name [] es bs) refl
    kind-open_bracket refl) λ a.
    array_arrives true at ts t inner rest a name [] es bs array fits)

not_true : (b : Bool) → not b ≡ true → b ≡ false
not_true true e = absurd cc
not_true false e = refl

-- the reader after an entry, with as many braces open as sections
abbrev pub AfterEntry : (given : List (List (List ℕ))) (at : ℕ) (r : Reader) (text : List ℕ) (es : List ConfEntry) (rest : List ℕ) → Type 0
AfterEntry given at r text es rest = (bs : List ℕ) × (length given ≡ suc (length bs)) × Arrives at r text (item es bs) rest

pub closing : (given : List (List (List ℕ))) (bs : List ℕ) → length given ≡ suc (length bs) → 0 < length (after_entry given Close)
    → (b : ℕ) × (more : List ℕ) × (bs ≡ b ∷ more) × (length (after_entry given Close) ≡ suc (length more))
closing [] bs e h = absurd cc
closing (names ∷ outer) [] e h = absurd (omega (arith, e, h))
closing (names ∷ outer) (b ∷ bs) e h = (b, bs, refl, omega (arith, e))

pub open_step : (at : ℕ) (name : List ℕ) (es : List ConfEntry) (bs : List ℕ) → ltb (length (sections es)) 17 ≡ true
    → in_mode Between OpenBrace 123 at (between Named name [] es bs) ≡ Ok (item (es ++ Open name ∷ []) (at ∷ bs))
open_step at name es bs deep = rw deep refl

pub close_arrives : (g rest : List ℕ) (at : ℕ) (es : List ConfEntry) (b : ℕ) (more : List ℕ) → IsGap g
    → Arrives at (item es (b ∷ more)) (g ++ 125 ∷ rest) (item (es ++ Close ∷ []) more) rest
close_arrives g rest at es b more gap =
    arrives_then (gap_arrives g (125 ∷ rest) at Item [] [] es (b ∷ more) gap) λ a.
    byte_arrives 125 CloseBrace rest a (item es (b ∷ more)) (item (es ++ Close ∷ []) more) refl kind-close_brace refl

pub entry_arrives : (e : ConfEntry) (x rest : List ℕ) (at : ℕ) (es : List ConfEntry) (bs : List ℕ) → length (sections es) ≡ suc (length bs)
    → IsEntry x e → keeps_limits (sections es) e ≡ true → 0 < length (after_entry (sections es) e) → EndsEntry e rest
    → AfterEntry (after_entry (sections es) e) at (item es bs) (x ++ rest) (es ++ e ∷ []) rest
entry_arrives (Open name) x rest at es bs open_ (front, (g, h, gap, name_is, gap_h, front_is), parts) limits some ends =
    let (fresh, deep) = both_true (not (is_given (sections es) name)) (ltb (length (sections es)) 17) limits in
    let whole : x ++ rest ≡ g ++ (name ++ (h ++ 123 ∷ rest)) = rw (parts, front_is) (simp append_assoc refl) in
    let a = gap_arrives g (name ++ (h ++ 123 ∷ rest)) at Item [] [] es bs gap in
    let b =
    name_arrives name (h ++ 123 ∷ rest) a.0 es bs name_is (not_true (is_given (sections es) name) fresh)
    (gap_ends h (123 ∷ rest) gap_h (mark_ends 123 OpenBrace rest kind-open_brace refl)) in
    let c = gap_arrives h (123 ∷ rest) b.0 Named name [] es bs gap_h in
    let d =
    byte_arrives 123 OpenBrace rest c.0 (between Named name [] es bs) (item (es ++ Open name ∷ []) (c.0 ∷ bs)) refl kind-open_brace
    (open_step c.0 name es bs deep) in (
      c.0 ∷ bs,
      after_open (sections es) name (length bs) open_,
      (d.0, rw whole (reaches_then a.1 (reaches_then b.1 (reaches_then c.1 d.1)))),
    )
entry_arrives Close x rest at es bs open_ (g, gap, parts) limits some ends =
    let (b, more, bs_is, fewer) = closing (sections es) bs open_ some in
    let whole : x ++ rest ≡ g ++ 125 ∷ rest = rw parts (simp append_assoc refl) in (
      more,
      fewer,
      rw whole (subst (λ z. Arrives at (item es z) (g ++ 125 ∷ rest) (item (es ++ Close ∷ []) more) rest) (sym bs_is)
          (close_arrives g rest at es b more gap)),
    )
entry_arrives (Assign name v) x rest at es bs open_ (key, y, key_is, value, parts) limits some ends =
    let (fresh, fits) = both_true (not (is_given (sections es) name)) (list_all fits_scalar (scalars_of v)) limits in
    let whole : x ++ rest ≡ key ++ (y ++ rest) = rw parts (simp append_assoc refl) in (
      bs,
      after_assign (sections es) name v (length bs) open_,
      rw whole (
          arrives_then (key_arrives key name (y ++ rest) at es bs key_is (not_true (is_given (sections es) name) fresh)) λ a.
          value_arrives v y name rest a es bs value fits ends),
    )

-- ---- whole texts

pub entries_arrive : (fs : List ConfEntry) (text rest : List ℕ) (at : ℕ) (es : List ConfEntry) (bs : List ℕ)
    → length (sections es) ≡ suc (length bs) → BeginsWith text fs rest → keep_limits (sections es) fs ≡ true
    → 0 < length (after_entries (sections es) fs)
    → AfterEntry (after_entries (sections es) fs) at (item es bs) text (es ++ fs) rest
entries_arrive [] text rest at es bs open_ same limits some =
    (bs, open_, (at, rw (same, append-nil) (reaches_itself at (item es bs) rest)))
entries_arrive (e ∷ fs) text rest at es bs open_ (x, more, parts, entry, ends, others) limits some =
    let (first, limits_on) = both_true (keeps_limits (sections es) e) (keep_limits (after_entry (sections es) e) fs) limits in
    let (bs', open_on, (a, one)) =
    entry_arrives e x more at es bs open_ entry first (some_before (after_entry (sections es) e) fs some) ends in
    let now : after_entry (sections es) e ≡ sections (es ++ e ∷ []) = sym (sections-append ([] ∷ []) es e) in
    let (bs'', open_end, (b, two)) =
    entries_arrive fs more rest a (es ++ e ∷ []) bs' (rw (← now) open_on) others (rw (← now) limits_on) (rw (← now) some) in
    let all : es ++ e ∷ fs ≡ (es ++ e ∷ []) ++ fs = simp append_assoc refl in
    (bs'', ap (λ z. length (after_entries z fs)) now ∙ open_end, (b, rw (parts, all) (reaches_then one two)))

pub no_braces : (given : List (List (List ℕ))) (bs : List ℕ) → length given ≡ 1 → length given ≡ suc (length bs) → bs ≡ []
no_braces given [] e f = refl
no_braces given (b ∷ bs) e f = absurd (omega (arith, e, f))

pub ended_item : (d : Bool) (at : ℕ) (es : List ConfEntry) → outcome at (in_state (gap_mode d) Item [] [] [] es []) [] ≡ Ok es
unfolding outcome ended
ended_item true at es = refl
ended_item false at es = refl

pub last_gap : (o : Option Bool) → IsSome o → (d : Bool) × (o ≡ Some d)
last_gap None h = absurd cc
last_gap (Some d) h = (d, refl)

-- a text of the grammar is read as its tree
pub accepted : (text : List ℕ) (es : List ConfEntry) → IsTextOf text es → reading text ≡ Ok es
accepted text es h =
    let s = h.spelled in
    let some : 0 < length (sections es) = omega (arith, s.balanced) in
    let (bs, open_, (a, one)) = entries_arrive es text s.gap 0 [] [] refl s.entries h.limits some in
    let none = no_braces (sections es) bs s.balanced open_ in
    let (d, gap) = last_gap (after_gap false s.gap) s.ended in
    let two = gap_reaches false s.gap [] a Item [] [] [] es bs d gap in
    one.same ∙ ap (outcome a (item es bs)) (sym (append-nil s.gap)) ∙ two.same ∙ rw none (ended_item d (a + length s.gap) es)

-- the scalars of an array up to the comma behind them
pub array_to_comma : (c : Bool) (q : ℕ) (ts : List Scalar) (t : Scalar) (inner rest : List ℕ) (at : ℕ) (n : List ℕ) (ss : List Scalar)
    (es : List ConfEntry) (bs : List ℕ) → IsArray inner (t ∷ ts) → list_all fits_scalar (t ∷ ts) ≡ true
    → Arrives at (between (in_array c q) n ss es bs) (inner ++ 44 ∷ rest) (between (Next q) n (ss ++ t ∷ ts) es bs) rest
array_to_comma c q [] t inner rest at n ss es bs (g, x, h, gap, scalar, gap_h, parts) fits =
    let whole : inner ++ 44 ∷ rest ≡ g ++ (x ++ (h ++ 44 ∷ rest)) = rw parts (simp append_assoc refl) in
    rw whole (
    arrives_then (spaced_arrives c q t g x h (44 ∷ rest) at n ss es bs gap scalar gap_h (both_true (fits_scalar t) true fits).0
    (mark_ends 44 Comma rest kind-comma refl)) λ a.
    byte_arrives 44 Comma rest a (between (After q) n (ss ++ t ∷ []) es bs) (between (Next q) n (ss ++ t ∷ []) es bs) refl kind-comma refl)
array_to_comma c q (u ∷ ts) t inner rest at n ss es bs (g, x, h, more, gap, scalar, gap_h, others, parts) fits =
    let (first, fit) = both_true (fits_scalar t) (list_all fits_scalar (u ∷ ts)) fits in
    let whole : inner ++ 44 ∷ rest ≡ g ++ (x ++ (h ++ 44 ∷ (more ++ 44 ∷ rest))) = rw parts (simp append_assoc refl) in
    let all : ss ++ t ∷ u ∷ ts ≡ (ss ++ t ∷ []) ++ u ∷ ts = simp append_assoc refl in
    rw (whole, all) (
    arrives_then (spaced_arrives c q t g x h (44 ∷ (more ++ 44 ∷ rest)) at n ss es bs gap scalar gap_h first
    (mark_ends 44 Comma (more ++ 44 ∷ rest) kind-comma refl)) λ a.
    arrives_then (byte_arrives 44 Comma (more ++ 44 ∷ rest) a (between (After q) n (ss ++ t ∷ []) es bs)
    (between (Next q) n (ss ++ t ∷ []) es bs) refl kind-comma refl) λ b.
    array_to_comma false q ts u more rest b n (ss ++ t ∷ []) es bs others fit)
