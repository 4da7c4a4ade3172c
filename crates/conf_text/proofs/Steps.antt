-- What the reader does over gaps, words and strings.
use Rattle.std.proofs.Common.{◌≡◌, ℕ, suc, ◌+◌, ◌-◌, Bool, true, false, List, [], ◌∷◌, ◌++◌, length, ◌^◌, Option, Some, None, Ok, refl, ap}
use Rattle.std.proofs.Common.{subst, ◌∙◌, append_assoc, arith, cond, ltb, add-zero}
use Rattle.std.proofs.lemmas.List.{append-nil}
use Rattle.std.specs.Prelude.{unwrap_or, ◌&&◌}
use Rattle.std.specs.Option.{option_and_then}
use Rattle.std.specs.List.{list_all}
use Rattle.conf_text.specs.declared.kind.Kind.{Kind}
use Rattle.conf_text.specs.declared.kind.Kind.TheVariants.{Digit, Letter, Blank, LineFeed, Hash, Quote, Backslash, Zero}
use Rattle.conf_text.specs.Bytes.{kind}
use Rattle.std.specs.Str.Parse.{digits_value}
use Rattle.conf_text.specs.Entries.{Scalar, Number, Text, One, ConfEntry, Assign, fits_scalar}
use Rattle.conf_text.specs.Grammar.{is_digit, is_name, is_allowed, is_escaped, gap_byte, after_gap, EndsWord, escaped, IsScalar}
use Rattle.conf_text.specs.declared.reader.Mode.{Mode}
use Rattle.conf_text.specs.declared.reader.Mode.TheVariants.{Between, Comment, Word, String, Escape}
use Rattle.conf_text.specs.declared.reader.Phase.{Phase}
use Rattle.conf_text.specs.declared.reader.Phase.TheVariants.{Item, Wanted, First, Next, After}
use Rattle.conf_text.specs.Reader.{Reader, Read, ◌>>=◌, in_mode, step, outcome, ended, with_scalar, word_ended, begun}

-- a reader in this mode
abbrev pub in_state : Mode → Phase → List ℕ → List ℕ → List Scalar → List ConfEntry → List ℕ → Reader
in_state m p w n ss es bs = record { mode = m; phase = p; word = w; name = n; scalars = ss; entries = es; braces = bs }

-- From this place and reader, reading the text comes to that place and reader, with the rest to read.
pub record Reaches (at : ℕ) (r : Reader) (text : List ℕ) (n : ℕ) (s : Reader) (rest : List ℕ) : Type 0 where
  pub same : outcome at r text ≡ outcome n s rest
  pub place : n + length rest ≡ at + length text

pub reaches_then : {a b c : ℕ} {r s t : Reader} {x y z : List ℕ} → Reaches a r x b s y → Reaches b s y c t z → Reaches a r x c t z
reaches_then p q = record { same = p.same ∙ q.same; place = q.place ∙ p.place }

pub reaches_itself : (at : ℕ) (r : Reader) (text : List ℕ) → Reaches at r text at r text
reaches_itself at r text = record { same = refl; place = refl }

-- one byte
pub reaches_step : (at b : ℕ) (r s : Reader) (rest : List ℕ) → step at b r ≡ Ok s → Reaches at r (b ∷ rest) (at + 1) s rest
unfolding outcome
reaches_step at b r s rest e = record { same = ap (λ (x : Read). x >>= λ t. outcome (at + 1) t rest) e; place = omega arith }

abbrev pub gap_mode : Bool → Mode
gap_mode true = Comment
gap_mode false = Between

gap_step : (c : Bool) (k : Kind) (b at : ℕ) (p : Phase) (w n : List ℕ) (ss : List Scalar) (es : List ConfEntry) (bs : List ℕ) (d : Bool)
    → gap_byte c k ≡ Some d → in_mode (gap_mode c) k b at (in_state (gap_mode c) p w n ss es bs) ≡ Ok (in_state (gap_mode d) p w n ss es bs)
gap_step true LineFeed b at p w n ss es bs d e = ap (λ o. Ok (in_state (gap_mode (unwrap_or o false)) p w n ss es bs)) e
gap_step true Zero b at p w n ss es bs d e = absurd cc
gap_step true _ b at p w n ss es bs d e = ap (λ o. Ok (in_state (gap_mode (unwrap_or o false)) p w n ss es bs)) e
gap_step false Blank b at p w n ss es bs d e = ap (λ o. Ok (in_state (gap_mode (unwrap_or o false)) p w n ss es bs)) e
gap_step false LineFeed b at p w n ss es bs d e = ap (λ o. Ok (in_state (gap_mode (unwrap_or o false)) p w n ss es bs)) e
gap_step false Hash b at p w n ss es bs d e = ap (λ o. Ok (in_state (gap_mode (unwrap_or o false)) p w n ss es bs)) e
gap_step false _ b at p w n ss es bs d e = absurd cc

pub step_is : (m : Mode) (k : Kind) (b at : ℕ) (r : Reader) → r.mode ≡ m → kind b ≡ k → step at b r ≡ in_mode m k b at r
unfolding step
step_is m k b at r e f = ap (λ x. in_mode x (kind b) b at r) e ∙ ap (λ x. in_mode m x b at r) f

-- a byte between tokens
gap_byte_step : (c : Bool) (b at : ℕ) (p : Phase) (w n : List ℕ) (ss : List Scalar) (es : List ConfEntry) (bs : List ℕ) (d : Bool)
    → gap_byte c (kind b) ≡ Some d → step at b (in_state (gap_mode c) p w n ss es bs) ≡ Ok (in_state (gap_mode d) p w n ss es bs)
gap_byte_step c b at p w n ss es bs d e =
    step_is (gap_mode c) (kind b) b at (in_state (gap_mode c) p w n ss es bs) refl refl ∙ gap_step c (kind b) b at p w n ss es bs d e

pub and_then_some : (f : Bool → Option Bool) (o : Option Bool) (d : Bool) → option_and_then f o ≡ Some d
    → (c : Bool) × (o ≡ Some c) × (f c ≡ Some d)
and_then_some f None d e = absurd cc
and_then_some f (Some c) d e = (c, refl, e)

-- bytes between tokens
pub gap_reaches : (c : Bool) (g rest : List ℕ) (at : ℕ) (p : Phase) (w n : List ℕ) (ss : List Scalar) (es : List ConfEntry) (bs : List ℕ)
    (d : Bool) → after_gap c g ≡ Some d → Reaches at (in_state (gap_mode c) p w n ss es bs) (g ++ rest) (at + length g)
    (in_state (gap_mode d) p w n ss es bs) rest
gap_reaches c [] rest at p w n ss es bs d e =
    let same : c ≡ d = ap (λ o. unwrap_or o false) e in
    subst (λ x. Reaches at (in_state (gap_mode c) p w n ss es bs) rest (at + 0) (in_state (gap_mode x) p w n ss es bs) rest) same
    (subst (λ k. Reaches at (in_state (gap_mode c) p w n ss es bs) rest k (in_state (gap_mode c) p w n ss es bs) rest) (omega arith)
    (reaches_itself at (in_state (gap_mode c) p w n ss es bs) rest))
gap_reaches c (b ∷ g) rest at p w n ss es bs d e =
    let (next, first, others) = and_then_some (λ x. after_gap x g) (gap_byte c (kind b)) d e in
    let one =
    reaches_step at b (in_state (gap_mode c) p w n ss es bs) (in_state (gap_mode next) p w n ss es bs) (g ++ rest)
    (gap_byte_step c b at p w n ss es bs next first) in
    let more = gap_reaches next g rest (at + 1) p w n ss es bs d others in
    let place : (at + 1) + length g ≡ at + suc (length g) = omega arith in
    subst (λ k. Reaches at (in_state (gap_mode c) p w n ss es bs) (b ∷ (g ++ rest)) k (in_state (gap_mode d) p w n ss es bs) rest) place
    (reaches_then one more)

-- bytes of a name
pub name_step : (k : Kind) (b at : ℕ) (w n : List ℕ) (ss : List Scalar) (es : List ConfEntry) (bs : List ℕ) → is_name k ≡ true
    → in_mode Word k b at (in_state Word Item w n ss es bs) ≡ Ok (in_state Word Item (w ++ b ∷ []) n ss es bs)
name_step Digit b at w n ss es bs e = refl
name_step Letter b at w n ss es bs e = refl
name_step _ b at w n ss es bs e = absurd cc

pub name_begins : (k : Kind) (b at : ℕ) (n : List ℕ) (ss : List Scalar) (es : List ConfEntry) (bs : List ℕ) → is_name k ≡ true
    → in_mode Between k b at (in_state Between Item [] n ss es bs) ≡ Ok (in_state Word Item (b ∷ []) n ss es bs)
name_begins Digit b at n ss es bs e = refl
name_begins Letter b at n ss es bs e = refl
name_begins _ b at n ss es bs e = absurd cc

digit_step : (k : Kind) (b at : ℕ) (p : Phase) (w n : List ℕ) (ss : List Scalar) (es : List ConfEntry) (bs : List ℕ) → is_digit k ≡ true
    → in_mode Word k b at (in_state Word p w n ss es bs) ≡ Ok (in_state Word p (w ++ b ∷ []) n ss es bs)
digit_step Digit b at p w n ss es bs e = refl
digit_step _ b at p w n ss es bs e = absurd cc

-- a scalar may come next
abbrev pub wants_scalar : Phase → Bool
wants_scalar Wanted = true
wants_scalar (First q) = true
wants_scalar (Next q) = true
wants_scalar _ = false

pub digit_begins : (k : Kind) (b at : ℕ) (p : Phase) (n : List ℕ) (ss : List Scalar) (es : List ConfEntry) (bs : List ℕ)
    → wants_scalar p ≡ true → is_digit k ≡ true
    → in_mode Between k b at (in_state Between p [] n ss es bs) ≡ Ok (in_state Word p (b ∷ []) n ss es bs)
digit_begins Digit b at Wanted n ss es bs f e = refl
digit_begins Digit b at (First q) n ss es bs f e = refl
digit_begins Digit b at (Next q) n ss es bs f e = refl
digit_begins Digit b at _ n ss es bs f e = absurd cc
digit_begins _ b at p n ss es bs f e = absurd cc

pub both_true : (a b : Bool) → (a && b) ≡ true → (a ≡ true) × (b ≡ true)
both_true true b e = (refl, e)
both_true false b e = absurd cc

-- more bytes of a name
pub name_more : (x rest : List ℕ) (at : ℕ) (w n : List ℕ) (ss : List Scalar) (es : List ConfEntry) (bs : List ℕ)
    → list_all (λ b. is_name (kind b)) x ≡ true
    → Reaches at (in_state Word Item w n ss es bs) (x ++ rest) (at + length x) (in_state Word Item (w ++ x) n ss es bs) rest
name_more [] rest at w n ss es bs e = rw (append-nil, add-zero) (reaches_itself at (in_state Word Item w n ss es bs) rest)
name_more (b ∷ x) rest at w n ss es bs e =
    let (first, others) = both_true (is_name (kind b)) (list_all (λ b. is_name (kind b)) x) e in
    let one =
    reaches_step at b (in_state Word Item w n ss es bs) (in_state Word Item (w ++ b ∷ []) n ss es bs) (x ++ rest)
    (step_is Word (kind b) b at (in_state Word Item w n ss es bs) refl refl ∙ name_step (kind b) b at w n ss es bs first) in
    let more = name_more x rest (at + 1) (w ++ b ∷ []) n ss es bs others in
    let place : (at + 1) + length x ≡ at + suc (length x) = omega arith in
    let both = reaches_then one more in
    rw (← place, ← append_assoc w (b ∷ []) x) both

pub digits_more : (x rest : List ℕ) (at : ℕ) (p : Phase) (w n : List ℕ) (ss : List Scalar) (es : List ConfEntry) (bs : List ℕ)
    → list_all (λ b. is_digit (kind b)) x ≡ true
    → Reaches at (in_state Word p w n ss es bs) (x ++ rest) (at + length x) (in_state Word p (w ++ x) n ss es bs) rest
digits_more [] rest at p w n ss es bs e = rw (append-nil, add-zero) (reaches_itself at (in_state Word p w n ss es bs) rest)
digits_more (b ∷ x) rest at p w n ss es bs e =
    let (first, others) = both_true (is_digit (kind b)) (list_all (λ b. is_digit (kind b)) x) e in
    let one =
    reaches_step at b (in_state Word p w n ss es bs) (in_state Word p (w ++ b ∷ []) n ss es bs) (x ++ rest)
    (step_is Word (kind b) b at (in_state Word p w n ss es bs) refl refl ∙ digit_step (kind b) b at p w n ss es bs first) in
    let more = digits_more x rest (at + 1) p (w ++ b ∷ []) n ss es bs others in
    let place : (at + 1) + length x ≡ at + suc (length x) = omega arith in
    let both = reaches_then one more in
    rw (← place, ← append_assoc w (b ∷ []) x) both

-- the end of a word: what follows is read as from where the word has ended
pub word_step : (p : Phase) (k : Kind) (b at : ℕ) (r : Reader) → r.phase ≡ p → is_name k ≡ false
    → in_mode Word k b at r ≡ (word_ended r.phase (at - length r.word) r >>= λ s. begun s.phase k b at s)
word_step p Digit b at r f e = absurd cc
word_step p Letter b at r f e = absurd cc
word_step p _ b at r f e = refl

pub word_ends : (rest : List ℕ) (at : ℕ) (p p' : Phase) (w n n' : List ℕ) (ss ss' : List Scalar) (es es' : List ConfEntry) (bs bs' : List ℕ)
    → EndsWord rest
    → word_ended p (at - length w) (in_state Word p w n ss es bs) ≡ Ok (in_state Between p' [] n' ss' es' bs')
    → Reaches at (in_state Word p w n ss es bs) rest at (in_state Between p' [] n' ss' es' bs') rest
unfolding outcome step ended
word_ends [] at p p' w n n' ss ss' es es' bs bs' ends e = record { same = rw e refl; place = refl }
word_ends (b ∷ rest) at p p' w n n' ss ss' es es' bs bs' ends e =
    let r = in_state Word p w n ss es bs in
    let s = in_state Between p' [] n' ss' es' bs' in
    let one : step at b r ≡ step at b s =
    word_step p (kind b) b at r refl ends ∙ ap (λ (x : Read). x >>= λ t. begun t.phase (kind b) b at t) e in
    record { same = ap (λ (x : Read). x >>= λ t. outcome (at + 1) t rest) one; place = refl }

-- ---- strings

pub kind-quote : kind 34 ≡ Quote
unfolding kind
kind-quote = refl

pub kind-backslash : kind 92 ≡ Backslash
unfolding kind
kind-backslash = refl

plain_step : (k : Kind) (b at q : ℕ) (p : Phase) (w n : List ℕ) (ss : List Scalar) (es : List ConfEntry) (bs : List ℕ) → is_allowed k ≡ true
    → is_escaped k ≡ false → in_mode (String q) k b at (in_state (String q) p w n ss es bs)
    ≡ Ok (in_state (String q) p (w ++ b ∷ []) n ss es bs)
plain_step LineFeed b at q p w n ss es bs e f = absurd cc
plain_step Zero b at q p w n ss es bs e f = absurd cc
plain_step Quote b at q p w n ss es bs e f = absurd cc
plain_step Backslash b at q p w n ss es bs e f = absurd cc
plain_step _ b at q p w n ss es bs e f = refl

escaped_step : (k : Kind) (b at q : ℕ) (p : Phase) (w n : List ℕ) (ss : List Scalar) (es : List ConfEntry) (bs : List ℕ)
    → is_escaped k ≡ true → in_mode (Escape q) k b at (in_state (Escape q) p w n ss es bs)
    ≡ Ok (in_state (String q) p (w ++ b ∷ []) n ss es bs)
escaped_step Quote b at q p w n ss es bs e = refl
escaped_step Backslash b at q p w n ss es bs e = refl
escaped_step _ b at q p w n ss es bs e = absurd cc

-- one byte of a string
pub letter_reaches : (c : Bool) (b : ℕ) (rest : List ℕ) (at q : ℕ) (p : Phase) (w n : List ℕ) (ss : List Scalar) (es : List ConfEntry)
    (bs : List ℕ) → is_allowed (kind b) ≡ true → is_escaped (kind b) ≡ c
    → (m : ℕ) × Reaches at (in_state (String q) p w n ss es bs) (cond c (92 ∷ b ∷ rest) (b ∷ rest)) m
    (in_state (String q) p (w ++ b ∷ []) n ss es bs) rest
letter_reaches false b rest at q p w n ss es bs e f = (
  at + 1,
  reaches_step at b (in_state (String q) p w n ss es bs) (in_state (String q) p (w ++ b ∷ []) n ss es bs) rest
      (step_is (String q) (kind b) b at (in_state (String q) p w n ss es bs) refl refl ∙ plain_step (kind b) b at q p w n ss es bs e f),
)
letter_reaches true b rest at q p w n ss es bs e f =
    let one =
    reaches_step at 92 (in_state (String q) p w n ss es bs) (in_state (Escape q) p w n ss es bs) (b ∷ rest)
    (step_is (String q) Backslash 92 at (in_state (String q) p w n ss es bs) refl kind-backslash) in
    let two =
    reaches_step (at + 1) b (in_state (Escape q) p w n ss es bs) (in_state (String q) p (w ++ b ∷ []) n ss es bs) rest
    (step_is (Escape q) (kind b) b (at + 1) (in_state (Escape q) p w n ss es bs) refl refl
    ∙ escaped_step (kind b) b (at + 1) q p w n ss es bs f) in
    (at + 1 + 1, reaches_then one two)

pub cond-append : (c : Bool) (x y rest : List ℕ) → (cond c x y) ++ rest ≡ cond c (x ++ rest) (y ++ rest)
cond-append true x y rest = refl
cond-append false x y rest = refl

pub string_more : (s rest : List ℕ) (at q : ℕ) (p : Phase) (w n : List ℕ) (ss : List Scalar) (es : List ConfEntry) (bs : List ℕ)
    → list_all (λ b. is_allowed (kind b)) s ≡ true
    → (m : ℕ) × Reaches at (in_state (String q) p w n ss es bs) (escaped s ++ rest) m (in_state (String q) p (w ++ s) n ss es bs) rest
string_more [] rest at q p w n ss es bs e = (at, rw append-nil (reaches_itself at (in_state (String q) p w n ss es bs) rest))
string_more (b ∷ s) rest at q p w n ss es bs e =
    let (first, others) = both_true (is_allowed (kind b)) (list_all (λ b. is_allowed (kind b)) s) e in
    let (k, one) = letter_reaches (is_escaped (kind b)) b (escaped s ++ rest) at q p w n ss es bs first refl in
    let (m, more) = string_more s rest k q p (w ++ b ∷ []) n ss es bs others in (
      m,
      rw (cond-append (is_escaped (kind b)) (92 ∷ b ∷ escaped s) (b ∷ escaped s) rest, ← append_assoc w (b ∷ []) s)
          (reaches_then one more),
    )

-- ---- scalars

-- a number ends where no byte of a name comes next
abbrev pub EndsScalar : Scalar → List ℕ → Type 0
EndsScalar (Number n) rest = EndsWord rest
EndsScalar (Text s) rest = Unit {0}

pub quote_begins : (p : Phase) (at : ℕ) (n : List ℕ) (ss : List Scalar) (es : List ConfEntry) (bs : List ℕ) → wants_scalar p ≡ true
    → in_mode Between Quote 34 at (in_state Between p [] n ss es bs) ≡ Ok (in_state (String at) p [] n ss es bs)
quote_begins Wanted at n ss es bs f = refl
quote_begins (First q) at n ss es bs f = refl
quote_begins (Next q) at n ss es bs f = refl
quote_begins _ at n ss es bs f = absurd cc

abbrev pub Arrives : (at : ℕ) (r : Reader) (text : List ℕ) (s : Reader) (rest : List ℕ) → Type 0
Arrives at r text s rest = (m : ℕ) × Reaches at r text m s rest

pub arrives_then : {at : ℕ} {r s t : Reader} {x y z : List ℕ} → Arrives at r x s y → ((m : ℕ) → Arrives m s y t z) → Arrives at r x t z
arrives_then p q = ((q p.0).0, reaches_then p.1 (q p.0).1)

number_ends : (p : Phase) (at : ℕ) (w n : List ℕ) (ss : List Scalar) (es : List ConfEntry) (bs rest : List ℕ) → wants_scalar p ≡ true
    → ltb (digits_value 10 w) (2 ^ 64) ≡ true → EndsWord rest
    → Reaches at (in_state Word p w n ss es bs) rest at (with_scalar p (in_state Between p [] n ss es bs) (Number (digits_value 10 w))) rest
number_ends Wanted at w n ss es bs rest f e ends =
    word_ends rest at Wanted Item w n [] ss [] es (es ++ Assign n (One (Number (digits_value 10 w))) ∷ []) bs bs ends (rw e refl)
number_ends (First q) at w n ss es bs rest f e ends =
    word_ends rest at (First q) (After q) w n n ss (ss ++ Number (digits_value 10 w) ∷ []) es es bs bs ends (rw e refl)
number_ends (Next q) at w n ss es bs rest f e ends =
    word_ends rest at (Next q) (After q) w n n ss (ss ++ Number (digits_value 10 w) ∷ []) es es bs bs ends (rw e refl)
number_ends _ at w n ss es bs rest f e ends = absurd cc

string_ends : (p : Phase) (at q : ℕ) (w n : List ℕ) (ss : List Scalar) (es : List ConfEntry) (bs : List ℕ) → wants_scalar p ≡ true
    → in_mode (String q) Quote 34 at (in_state (String q) p w n ss es bs) ≡ Ok (with_scalar p (in_state Between p [] n ss es bs) (Text w))
string_ends Wanted at q w n ss es bs f = refl
string_ends (First p) at q w n ss es bs f = refl
string_ends (Next p) at q w n ss es bs f = refl
string_ends _ at q w n ss es bs f = absurd cc

pub scalar_arrives : (s : Scalar) (x rest : List ℕ) (at : ℕ) (p : Phase) (n : List ℕ) (ss : List Scalar) (es : List ConfEntry) (bs : List ℕ)
    → wants_scalar p ≡ true → IsScalar x s → fits_scalar s ≡ true → EndsScalar s rest
    → Arrives at (in_state Between p [] n ss es bs) (x ++ rest) (with_scalar p (in_state Between p [] n ss es bs) s) rest
scalar_arrives (Number k) [] rest at p n ss es bs f h e ends = absurd (h.0.0 refl)
scalar_arrives (Number k) (b ∷ x) rest at p n ss es bs f h e ends =
    let (first, others) = both_true (is_digit (kind b)) (list_all (λ b. is_digit (kind b)) x) h.0.1 in
    let one =
    reaches_step at b (in_state Between p [] n ss es bs) (in_state Word p (b ∷ []) n ss es bs) (x ++ rest)
    (step_is Between (kind b) b at (in_state Between p [] n ss es bs) refl refl
    ∙ digit_begins (kind b) b at p n ss es bs f first) in
    let more = digits_more x rest (at + 1) p (b ∷ []) n ss es bs others in
    let small : ltb (digits_value 10 (b ∷ x)) (2 ^ 64) ≡ true = rw (← h.1) e in
    let last = number_ends p (at + 1 + length x) (b ∷ x) n ss es bs rest f small ends in
    (at + 1 + length x, rw h.1 (reaches_then one (reaches_then more last)))
scalar_arrives (Text s) x rest at p n ss es bs f h e ends =
    let one =
    reaches_step at 34 (in_state Between p [] n ss es bs) (in_state (String at) p [] n ss es bs) (escaped s ++ 34 ∷ rest)
    (step_is Between Quote 34 at (in_state Between p [] n ss es bs) refl kind-quote ∙ quote_begins p at n ss es bs f) in
    let (m, more) = string_more s (34 ∷ rest) (at + 1) at p [] n ss es bs h.0 in
    let last =
    reaches_step m 34 (in_state (String at) p s n ss es bs) (with_scalar p (in_state Between p [] n ss es bs) (Text s)) rest
    (step_is (String at) Quote 34 m (in_state (String at) p s n ss es bs) refl kind-quote ∙ string_ends p m at s n ss es bs f) in
    let whole : x ++ rest ≡ 34 ∷ escaped s ++ 34 ∷ rest = rw (h.1, append_assoc) refl in
    (m + 1, rw whole (reaches_then one (reaches_then more last)))
