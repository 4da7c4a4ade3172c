-- What the bytes read so far are, one byte later in words, strings and comments.
use Rattle.std.proofs.Common.{◌≡◌, ◌≢◌, ℕ, suc, ◌+◌, ◌-◌, ◌<◌, ◌^◌, Bool, true, false, cond, ltb, List, [], ◌∷◌, ◌++◌, length, take, Some}
use Rattle.std.proofs.Common.{Ok, Err, refl, sym, ap, subst, ◌∙◌, append_assoc, length-append, arith}
use Rattle.std.proofs.lemmas.List.Folds.{list_all-append}
use Rattle.std.proofs.lemmas.Bool.{ltb-false}
use Rattle.std.specs.List.{list_all}
use Rattle.std.specs.Str.Parse.{digits_value}
use Rattle.conf_text.specs.declared.refusal.ConfRefusal.TheVariants.{BadToken, DuplicateKey, NumberTooWide}
use Rattle.conf_text.specs.declared.kind.Kind.{Kind}
use Rattle.conf_text.specs.declared.kind.Kind.TheVariants.{Digit, Letter, LineFeed, Quote, Backslash, Zero}
use Rattle.conf_text.specs.Bytes.{kind}
use Rattle.conf_text.specs.declared.reader.Mode.{Mode}
use Rattle.conf_text.specs.declared.reader.Mode.TheVariants.{Between, Comment, Word, String, Escape}
use Rattle.conf_text.specs.declared.reader.Phase.{Phase}
use Rattle.conf_text.specs.declared.reader.Phase.TheVariants.{Item, Named, Wanted, First, Next, After}
use Rattle.conf_text.specs.Entries.{Scalar, Number, Text, One, ConfEntry, Assign, sections, is_given, fits_scalar}
use Rattle.conf_text.specs.Grammar.{is_name, is_allowed, is_escaped, after_gap, IsName, IsDigits, escaped, EndsWord, IsEntry, BeginsWith}
use Rattle.conf_text.specs.Refusals.{Begins, IsBeforeScalar}
use Rattle.conf_text.specs.Reader.{Reader, Read, ◌>>=◌, with_scalar, begun, word_ended, in_word, in_string, in_escape, in_comment, in_mode}
use Rattle.conf_text.specs.Reader.{step}
use Rattle.conf_text.proofs.Accepted.{between, item}
use Rattle.conf_text.proofs.ByteOf.{byte_of}
use Rattle.conf_text.proofs.Fronts.{IsFront, front_gap, front_name, front_first, front_next, entry_scalar, before_first, before_wanted}
use Rattle.conf_text.proofs.Fronts.{before_next}
use Rattle.conf_text.proofs.Pieces.{gap_append}
use Rattle.conf_text.proofs.Standing.{IsWordFor, IsTail, Stands, RefusedEarly, weaken, goes_on, new_entry, ends_key, keeps_key, bad_here}
use Rattle.conf_text.proofs.Standing.{begins_front, stands_begins, quoted, content_more, escaped_plain, escaped_mark, digit_more}
use Rattle.conf_text.proofs.Stepping.{Good, begun_good}
use Rattle.conf_text.proofs.Steps.{in_state, wants_scalar}
use Rattle.conf_text.proofs.Upto.{Any, assigned, upto_begins, upto_depth}

-- the word ends: the reader stands between tokens, where no byte of a name comes next
abbrev pub Ended : List ℕ → Read → Type 0
Ended x (Ok s) = Stands EndsWord x s × (s ≡ between s.phase s.name s.scalars s.entries s.braces)
Ended x (Err e) = (y : List ℕ) → EndsWord y → RefusedEarly (length x) (x ++ y) e

word_place : (x g w : List ℕ) (base : ℕ) → base + length (g ++ w) ≡ length x → (length x - length w) + length w ≡ length x
word_place x g w base h = omega (arith, h, length-append g w)

pub some_length : (w : List ℕ) → w ≢ [] → 0 < length w
some_length [] h = absurd (h refl)
some_length (b ∷ w) h = omega arith

word_begins : (x y w : List ℕ) (r : Reader) → w ≢ [] → (length x - length w) + length w ≡ length x → Stands Any x r
    → Begins (take (suc (length x - length w)) (x ++ y))
word_begins x y w r some place h =
    begins_front x y (suc (length x - length w)) (omega (arith, place, some_length w some)) (stands_begins x r h)

named_ended : (c : Bool) (x w n : List ℕ) (ss : List Scalar) (es : List ConfEntry) (bs : List ℕ) → is_given (sections es) w ≡ c
    → Stands Any x (in_state Word Item w n ss es bs)
    → Ended x (cond c (Err (DuplicateKey (length x - length w))) (Ok (between Named w ss es bs)))
named_ended true x w n ss es bs e h = told h.tail
  where
    told : IsTail h.base Word Item w n ss h.front → (y : List ℕ) → EndsWord y
        → RefusedEarly (length x) (x ++ y) (DuplicateKey (length x - length w))
    told (g, gap, name, parts) y ends = (
      record {
        before = es;
        limits = h.upto.limits;
        gap = g;
        name = w;
        more = y;
        entries = subst (λ z. BeginsWith (x ++ y) es (z ++ y)) parts (upto_begins x es bs h.front y h.upto tt);
        gap_is = gap;
        name_is = name;
        name_ends = ends;
        given = e;
        place_is =
            omega (
              arith,
              length-append w y,
              length-append x y,
              word_place x g w h.base (ap (λ z. h.base + length z) (sym parts) ∙ h.place),
            );
      },
      word_begins x y w (in_state Word Item w n ss es bs) name.0
          (word_place x g w h.base (ap (λ z. h.base + length z) (sym parts) ∙ h.place)) h,
    )
named_ended false x w n ss es bs e h = told h.tail
  where
    told : IsTail h.base Word Item w n ss h.front
        → Stands EndsWord x (between Named w ss es bs) × (between Named w ss es bs ≡ between Named w ss es bs)
    told (g, gap, name, parts) = (
      record {
        base = h.base;
        front = h.front;
        upto = weaken x es bs h.front (λ y q. tt) h.upto;
        place = h.place;
        fresh = e;
        fit = h.fit;
        early = h.early;
        tail = (refl, subst (λ z. IsFront h.base Named w ss z) (sym parts) (front_name h.base g w ss gap name));
      },
      refl,
    )

too_wide : (x w n : List ℕ) (p : Phase) (ss : List Scalar) (es : List ConfEntry) (bs g y : List ℕ)
    → (h : Stands Any x (in_state Word p w n ss es bs)) → h.front ≡ g ++ w → is_given (sections es) n ≡ false → IsBeforeScalar g n ss
    → IsDigits w → ltb (digits_value 10 w) (2 ^ 64) ≡ false → EndsWord y
    → RefusedEarly (length x) (x ++ y) (NumberTooWide (length x - length w))
too_wide x w n p ss es bs g y h parts fresh before digits wide ends = (
  record {
    before = es;
    limits = h.upto.limits;
    front = g;
    digits = w;
    more = y;
    entries = subst (λ z. BeginsWith (x ++ y) es (z ++ y)) parts (upto_begins x es bs h.front y h.upto tt);
    inside = omega (arith, upto_depth x es bs h.front h.upto);
    name = n;
    fresh = fresh;
    earlier = ss;
    earlier_fit = h.fit;
    front_is = before;
    digits_are = digits;
    digits_end = ends;
    wide = ltb-false (digits_value 10 w) (2 ^ 64) wide;
    place_is =
        omega (arith, length-append w y, length-append x y, word_place x g w h.base (ap (λ z. h.base + length z) (sym parts) ∙ h.place));
  },
  word_begins x y w (in_state Word p w n ss es bs) digits.0 (word_place x g w h.base (ap (λ z. h.base + length z) (sym parts) ∙ h.place)) h,
)

fits_one : (k : ℕ) → ltb k (2 ^ 64) ≡ true → list_all fits_scalar (Number k ∷ []) ≡ true
fits_one k e = rw e refl

number_entry : (x w n : List ℕ) (ss : List Scalar) (es : List ConfEntry) (bs : List ℕ) → ltb (digits_value 10 w) (2 ^ 64) ≡ true
    → Stands Any x (in_state Word Wanted w n ss es bs)
    → Ended x (Ok (item (es ++ Assign n (One (Number (digits_value 10 w))) ∷ []) bs))
number_entry x w n ss es bs fits h = told h.tail
  where
    told : IsTail h.base Word Wanted w n ss h.front → Ended x (Ok (item (es ++ Assign n (One (Number (digits_value 10 w))) ∷ []) bs))
    told (g, is, digits, parts) =
        let k = digits_value 10 w in
        let entry =
        subst (λ z. IsEntry z (Assign n (One (Number k)))) (sym parts) (entry_scalar h.base n ss (Number k) g w is (digits, refl)) in (
          new_entry x (es ++ Assign n (One (Number k)) ∷ []) bs
              (assigned x es bs h.front (Assign n (One (Number k))) tt entry (λ y q. tt) (λ y q. q)
              (keeps_key (sections es) n (One (Number k)) h.fresh (fits_one k fits)) h.upto),
          refl,
        )

fits_more : (ss : List Scalar) (s : Scalar) → list_all fits_scalar ss ≡ true → fits_scalar s ≡ true
    → list_all fits_scalar (ss ++ s ∷ []) ≡ true
fits_more ss s h e = list_all-append fits_scalar ss (s ∷ []) ∙ rw (h, e) refl

number_first : (q : ℕ) (x w n : List ℕ) (ss : List Scalar) (es : List ConfEntry) (bs : List ℕ) → ltb (digits_value 10 w) (2 ^ 64) ≡ true
    → Stands Any x (in_state Word (First q) w n ss es bs)
    → Ended x (Ok (between (After q) n (ss ++ Number (digits_value 10 w) ∷ []) es bs))
number_first q x w n ss es bs fits h = told h.tail
  where
    told : IsTail h.base Word (First q) w n ss h.front → Ended x (Ok (between (After q) n (ss ++ Number (digits_value 10 w) ∷ []) es bs))
    told (g, is, digits, parts) = (
      record {
        base = h.base;
        front = h.front;
        upto = weaken x es bs h.front (λ y q. tt) h.upto;
        place = h.place;
        fresh = h.fresh;
        fit = fits_more ss (Number (digits_value 10 w)) h.fit fits;
        early = tt;
        tail = (
          refl,
          subst (λ z. IsFront h.base (After q) n (ss ++ Number (digits_value 10 w) ∷ []) z) (sym parts)
              (front_first h.base q n ss (Number (digits_value 10 w)) g w h.early is (digits, refl)),
        );
      },
      refl,
    )

number_next : (q : ℕ) (x w n : List ℕ) (ss : List Scalar) (es : List ConfEntry) (bs : List ℕ) → ltb (digits_value 10 w) (2 ^ 64) ≡ true
    → Stands Any x (in_state Word (Next q) w n ss es bs)
    → Ended x (Ok (between (After q) n (ss ++ Number (digits_value 10 w) ∷ []) es bs))
number_next q x w n ss es bs fits h = told h.tail
  where
    told : IsTail h.base Word (Next q) w n ss h.front → Ended x (Ok (between (After q) n (ss ++ Number (digits_value 10 w) ∷ []) es bs))
    told (g, is, digits, parts) = (
      record {
        base = h.base;
        front = h.front;
        upto = weaken x es bs h.front (λ y q. tt) h.upto;
        place = h.place;
        fresh = h.fresh;
        fit = fits_more ss (Number (digits_value 10 w)) h.fit fits;
        early = tt;
        tail = (
          refl,
          subst (λ z. IsFront h.base (After q) n (ss ++ Number (digits_value 10 w) ∷ []) z) (sym parts)
              (front_next h.base q n ss (Number (digits_value 10 w)) g w is (digits, refl)),
        );
      },
      refl,
    )

numbered_ended : (c : Bool) (p : Phase) (x w n : List ℕ) (ss : List Scalar) (es : List ConfEntry) (bs : List ℕ)
    → ltb (digits_value 10 w) (2 ^ 64) ≡ c → (h : Stands Any x (in_state Word p w n ss es bs)) → IsTail h.base Word p w n ss h.front
    → wants_scalar p ≡ true
    → Ended x (cond c (Ok (with_scalar p (between p n ss es bs) (Number (digits_value 10 w)))) (Err (NumberTooWide (length x - length w))))
numbered_ended true Wanted x w n ss es bs e h tail wants = number_entry x w n ss es bs e h
numbered_ended true (First q) x w n ss es bs e h tail wants = number_first q x w n ss es bs e h
numbered_ended true (Next q) x w n ss es bs e h tail wants = number_next q x w n ss es bs e h
numbered_ended false Wanted x w n ss es bs e h (g, is, digits, parts) wants =
    λ y ends. too_wide x w n Wanted ss es bs g y h parts h.fresh (before_wanted h.base n ss g h.early is) digits e ends
numbered_ended false (First q) x w n ss es bs e h (g, is, digits, parts) wants =
    λ y ends. too_wide x w n (First q) ss es bs g y h parts h.fresh (before_first h.base q n ss g h.early is) digits e ends
numbered_ended false (Next q) x w n ss es bs e h (g, is, digits, parts) wants =
    λ y ends. too_wide x w n (Next q) ss es bs g y h parts h.fresh (before_next h.base q n ss g is) digits e ends
numbered_ended c _ x w n ss es bs e h tail wants = absurd cc

pub word_ended_good : (p : Phase) (x w n : List ℕ) (ss : List Scalar) (es : List ConfEntry) (bs : List ℕ)
    → (h : Stands Any x (in_state Word p w n ss es bs)) → IsTail h.base Word p w n ss h.front
    → Ended x (word_ended p (length x - length w) (in_state Word p w n ss es bs))
word_ended_good Item x w n ss es bs h tail = named_ended (is_given (sections es) w) x w n ss es bs refl h
word_ended_good Wanted x w n ss es bs h tail = numbered_ended (ltb (digits_value 10 w) (2 ^ 64)) Wanted x w n ss es bs refl h tail refl
word_ended_good (First q) x w n ss es bs h tail =
    numbered_ended (ltb (digits_value 10 w) (2 ^ 64)) (First q) x w n ss es bs refl h tail refl
word_ended_good (Next q) x w n ss es bs h tail = numbered_ended (ltb (digits_value 10 w) (2 ^ 64)) (Next q) x w n ss es bs refl h tail refl
word_ended_good Named x w n ss es bs h (g, is, word, parts) = absurd word
word_ended_good (After q) x w n ss es bs h (g, is, word, parts) = absurd word

-- ---- bytes of words

name_more : (w : List ℕ) (b : ℕ) → IsName w → is_name (kind b) ≡ true → IsName (w ++ b ∷ [])
name_more [] b h e = absurd (h.0 refl)
name_more (a ∷ w) b h e = (λ k. absurd cc, list_all-append (λ b. is_name (kind b)) (a ∷ w) (b ∷ []) ∙ rw (h.1, e) refl)

word_digit : (p : Phase) (w : List ℕ) (b : ℕ) → IsWordFor p w → kind b ≡ Digit → IsWordFor p (w ++ b ∷ [])
word_digit Item w b h e = name_more w b h (ap is_name e)
word_digit Wanted w b h e = digit_more w b h e
word_digit (First q) w b h e = digit_more w b h e
word_digit (Next q) w b h e = digit_more w b h e
word_digit Named w b h e = absurd h
word_digit (After q) w b h e = absurd h

in_word_more : (x : List ℕ) (b : ℕ) (p : Phase) (w n : List ℕ) (ss : List Scalar) (es : List ConfEntry) (bs : List ℕ)
    → (h : Stands Any x (in_state Word p w n ss es bs)) → IsTail h.base Word p w n ss h.front → IsWordFor p (w ++ b ∷ [])
    → Good x b (Ok (in_state Word p (w ++ b ∷ []) n ss es bs))
in_word_more x b p w n ss es bs h (g, is, word, parts) more =
    goes_on x b (in_state Word p w n ss es bs) (λ y. tt) h Word p (w ++ b ∷ []) n ss h.fresh h.fit h.early
    (g, is, more, ap (λ z. z ++ b ∷ []) parts ∙ append_assoc g w (b ∷ []))

bad_inside : (x : List ℕ) (b at : ℕ) (r : Reader) → at ≡ length x → Stands Any x r → Good x b (Err (BadToken at))
bad_inside x b at r same h = λ y. bad_here x at (b ∷ y) same (stands_begins x r h)

then_begun : (a : Read) (x : List ℕ) (k : Kind) (b at : ℕ) → at ≡ length x → kind b ≡ k → is_name k ≡ false → Ended x a
    → Good x b (a >>= λ s. begun s.phase k b at s)
then_begun (Ok s) x k b at same e other (h, is) =
    let word : is_name (kind b) ≡ false = ap is_name e ∙ other in
    subst (λ z. Good x b (begun s.phase k b at z)) (sym is)
    (begun_good x s.phase k b at s.name s.scalars s.entries s.braces same e (subst (Stands EndsWord x) is h, λ y. word, λ y q. q))
then_begun (Err f) x k b at same e other told = λ y. told (b ∷ y) (ap is_name e ∙ other)

in_word_good : (x : List ℕ) (p : Phase) (k : Kind) (b at : ℕ) (w n : List ℕ) (ss : List Scalar) (es : List ConfEntry) (bs : List ℕ)
    → at ≡ length x → kind b ≡ k → (h : Stands Any x (in_state Word p w n ss es bs)) → IsTail h.base Word p w n ss h.front
    → Good x b (in_word p k b at (in_state Word p w n ss es bs))
in_word_good x p Digit b at w n ss es bs same e h tail = in_word_more x b p w n ss es bs h tail (word_digit p w b tail.2 e)
in_word_good x Item Letter b at w n ss es bs same e h tail = in_word_more x b Item w n ss es bs h tail (name_more w b tail.2 (ap is_name e))
in_word_good x _ Letter b at w n ss es bs same e h tail = bad_inside x b at (in_state Word _ w n ss es bs) same h
in_word_good x p k b at w n ss es bs same e h tail =
    then_begun (word_ended p (at - length w) (in_state Word p w n ss es bs)) x k b at same e refl
    (subst (λ m. Ended x (word_ended p (m - length w) (in_state Word p w n ss es bs))) (sym same) (word_ended_good p x w n ss es bs h tail))

-- ---- strings

string_entry : (x : List ℕ) (b q : ℕ) (w n : List ℕ) (ss : List Scalar) (es : List ConfEntry) (bs : List ℕ) → kind b ≡ Quote
    → (h : Stands Any x (in_state (String q) Wanted w n ss es bs)) → IsTail h.base (String q) Wanted w n ss h.front
    → Good x b (Ok (item (es ++ Assign n (One (Text w)) ∷ []) bs))
string_entry x b q w n ss es bs e h (g, is, wants, content, parts, place) =
    let whole : g ++ (34 ∷ (escaped w ++ 34 ∷ [])) ≡ h.front ++ b ∷ [] = rw (parts, byte_of b Quote e) (simp append_assoc refl) in
    let entry =
    subst (λ z. IsEntry z (Assign n (One (Text w)))) whole
    (entry_scalar h.base n ss (Text w) g (34 ∷ (escaped w ++ 34 ∷ [])) is (quoted w content)) in
    ends_key x b (in_state (String q) Wanted w n ss es bs) (λ y. tt) h (Assign n (One (Text w))) tt entry (λ y. tt)
    (keeps_key (sections es) n (One (Text w)) h.fresh refl)

string_first : (x : List ℕ) (b q a : ℕ) (w n : List ℕ) (ss : List Scalar) (es : List ConfEntry) (bs : List ℕ) → kind b ≡ Quote
    → (h : Stands Any x (in_state (String q) (First a) w n ss es bs)) → IsTail h.base (String q) (First a) w n ss h.front
    → Good x b (Ok (between (After a) n (ss ++ Text w ∷ []) es bs))
string_first x b q a w n ss es bs e h (g, is, wants, content, parts, place) =
    let whole : g ++ (34 ∷ (escaped w ++ 34 ∷ [])) ≡ h.front ++ b ∷ [] = rw (parts, byte_of b Quote e) (simp append_assoc refl) in
    goes_on x b (in_state (String q) (First a) w n ss es bs) (λ y. tt) h Between (After a) [] n (ss ++ Text w ∷ []) h.fresh
    (fits_more ss (Text w) h.fit refl) tt (
      refl,
      subst (λ z. IsFront h.base (After a) n (ss ++ Text w ∷ []) z) whole
          (front_first h.base a n ss (Text w) g (34 ∷ (escaped w ++ 34 ∷ [])) h.early is (quoted w content)),
    )

string_next : (x : List ℕ) (b q a : ℕ) (w n : List ℕ) (ss : List Scalar) (es : List ConfEntry) (bs : List ℕ) → kind b ≡ Quote
    → (h : Stands Any x (in_state (String q) (Next a) w n ss es bs)) → IsTail h.base (String q) (Next a) w n ss h.front
    → Good x b (Ok (between (After a) n (ss ++ Text w ∷ []) es bs))
string_next x b q a w n ss es bs e h (g, is, wants, content, parts, place) =
    let whole : g ++ (34 ∷ (escaped w ++ 34 ∷ [])) ≡ h.front ++ b ∷ [] = rw (parts, byte_of b Quote e) (simp append_assoc refl) in
    goes_on x b (in_state (String q) (Next a) w n ss es bs) (λ y. tt) h Between (After a) [] n (ss ++ Text w ∷ []) h.fresh
    (fits_more ss (Text w) h.fit refl) tt (
      refl,
      subst (λ z. IsFront h.base (After a) n (ss ++ Text w ∷ []) z) whole
          (front_next h.base a n ss (Text w) g (34 ∷ (escaped w ++ 34 ∷ [])) is (quoted w content)),
    )

string_ends : (p : Phase) (x : List ℕ) (b q : ℕ) (w n : List ℕ) (ss : List Scalar) (es : List ConfEntry) (bs : List ℕ) → kind b ≡ Quote
    → (h : Stands Any x (in_state (String q) p w n ss es bs)) → IsTail h.base (String q) p w n ss h.front
    → Good x b (Ok (with_scalar p (between p n ss es bs) (Text w)))
string_ends Wanted x b q w n ss es bs e h tail = string_entry x b q w n ss es bs e h tail
string_ends (First a) x b q w n ss es bs e h tail = string_first x b q a w n ss es bs e h tail
string_ends (Next a) x b q w n ss es bs e h tail = string_next x b q a w n ss es bs e h tail
string_ends Item x b q w n ss es bs e h (g, is, wants, content, parts, place) = absurd cc
string_ends Named x b q w n ss es bs e h (g, is, wants, content, parts, place) = absurd cc
string_ends (After a) x b q w n ss es bs e h (g, is, wants, content, parts, place) = absurd cc

string_more : (x : List ℕ) (b q : ℕ) (p : Phase) (w n : List ℕ) (ss : List Scalar) (es : List ConfEntry) (bs : List ℕ)
    → is_allowed (kind b) ≡ true → is_escaped (kind b) ≡ false → (h : Stands Any x (in_state (String q) p w n ss es bs))
    → IsTail h.base (String q) p w n ss h.front → Good x b (Ok (in_state (String q) p (w ++ b ∷ []) n ss es bs))
string_more x b q p w n ss es bs allowed plain h (g, is, wants, content, parts, place) =
    let whole : h.front ++ b ∷ [] ≡ g ++ (34 ∷ escaped (w ++ b ∷ [])) =
    ap (λ z. z ++ b ∷ []) parts ∙ append_assoc g (34 ∷ escaped w) (b ∷ []) ∙ ap (λ z. g ++ (34 ∷ z)) (sym (escaped_plain w b plain)) in
    goes_on x b (in_state (String q) p w n ss es bs) (λ y. tt) h (String q) p (w ++ b ∷ []) n ss h.fresh h.fit h.early
    (g, is, wants, content_more w b content allowed, whole, place)

string_escape : (x : List ℕ) (b q : ℕ) (p : Phase) (w n : List ℕ) (ss : List Scalar) (es : List ConfEntry) (bs : List ℕ)
    → kind b ≡ Backslash → (h : Stands Any x (in_state (String q) p w n ss es bs)) → IsTail h.base (String q) p w n ss h.front
    → Good x b (Ok (in_state (Escape q) p w n ss es bs))
string_escape x b q p w n ss es bs e h (g, is, wants, content, parts, place) =
    let whole : h.front ++ b ∷ [] ≡ g ++ (34 ∷ (escaped w ++ 92 ∷ [])) =
    ap (λ z. z ++ b ∷ []) parts ∙ append_assoc g (34 ∷ escaped w) (b ∷ [])
    ∙ ap (λ z. g ++ (34 ∷ (escaped w ++ z ∷ []))) (byte_of b Backslash e) in
    goes_on x b (in_state (String q) p w n ss es bs) (λ y. tt) h (Escape q) p w n ss h.fresh h.fit h.early
    (g, is, wants, content, whole, place)

in_string_good : (x : List ℕ) (q : ℕ) (k : Kind) (b at : ℕ) (p : Phase) (w n : List ℕ) (ss : List Scalar) (es : List ConfEntry)
    (bs : List ℕ) → at ≡ length x → kind b ≡ k → (h : Stands Any x (in_state (String q) p w n ss es bs))
    → IsTail h.base (String q) p w n ss h.front → Good x b (in_string q k b at (in_state (String q) p w n ss es bs))
in_string_good x q Quote b at p w n ss es bs same e h tail = string_ends p x b q w n ss es bs e h tail
in_string_good x q Backslash b at p w n ss es bs same e h tail = string_escape x b q p w n ss es bs e h tail
in_string_good x q LineFeed b at p w n ss es bs same e h tail = bad_inside x b at (in_state (String q) p w n ss es bs) same h
in_string_good x q Zero b at p w n ss es bs same e h tail = bad_inside x b at (in_state (String q) p w n ss es bs) same h
in_string_good x q _ b at p w n ss es bs same e h tail = string_more x b q p w n ss es bs (ap is_allowed e) (ap is_escaped e) h tail

escape_more : (x : List ℕ) (b q : ℕ) (p : Phase) (w n : List ℕ) (ss : List Scalar) (es : List ConfEntry) (bs : List ℕ)
    → is_allowed (kind b) ≡ true → is_escaped (kind b) ≡ true → (h : Stands Any x (in_state (Escape q) p w n ss es bs))
    → IsTail h.base (Escape q) p w n ss h.front → Good x b (Ok (in_state (String q) p (w ++ b ∷ []) n ss es bs))
escape_more x b q p w n ss es bs allowed mark h (g, is, wants, content, parts, place) =
    let whole : h.front ++ b ∷ [] ≡ g ++ (34 ∷ escaped (w ++ b ∷ [])) =
    ap (λ z. z ++ b ∷ []) parts ∙ append_assoc g (34 ∷ (escaped w ++ 92 ∷ [])) (b ∷ [])
    ∙ ap (λ z. g ++ (34 ∷ z)) (append_assoc (escaped w) (92 ∷ []) (b ∷ []) ∙ sym (escaped_mark w b mark)) in
    goes_on x b (in_state (Escape q) p w n ss es bs) (λ y. tt) h (String q) p (w ++ b ∷ []) n ss h.fresh h.fit h.early
    (g, is, wants, content_more w b content allowed, whole, place)

in_escape_good : (x : List ℕ) (q : ℕ) (k : Kind) (b at : ℕ) (p : Phase) (w n : List ℕ) (ss : List Scalar) (es : List ConfEntry)
    (bs : List ℕ) → at ≡ length x → kind b ≡ k → (h : Stands Any x (in_state (Escape q) p w n ss es bs))
    → IsTail h.base (Escape q) p w n ss h.front → Good x b (in_escape q k b at (in_state (Escape q) p w n ss es bs))
in_escape_good x q Quote b at p w n ss es bs same e h tail = escape_more x b q p w n ss es bs (ap is_allowed e) (ap is_escaped e) h tail
in_escape_good x q Backslash b at p w n ss es bs same e h tail = escape_more x b q p w n ss es bs (ap is_allowed e) (ap is_escaped e) h tail
in_escape_good x q _ b at p w n ss es bs same e h tail = bad_inside x b at (in_state (Escape q) p w n ss es bs) same h

-- ---- comments

comment_more : (c : List ℕ) (b : ℕ) (d : Bool) → after_gap false c ≡ Some true → after_gap true (b ∷ []) ≡ Some d
    → after_gap false (c ++ b ∷ []) ≡ Some d
comment_more c b d h e = gap_append false c (b ∷ []) true d h e

comment_ends : (x : List ℕ) (b : ℕ) (p : Phase) (w n : List ℕ) (ss : List Scalar) (es : List ConfEntry) (bs : List ℕ)
    → after_gap true (b ∷ []) ≡ Some false → (h : Stands Any x (in_state Comment p w n ss es bs)) → IsTail h.base Comment p w n ss h.front
    → Good x b (Ok (in_state Between p w n ss es bs))
comment_ends x b p w n ss es bs e h (g, c, none, is, comment, parts) =
    let whole : g ++ (c ++ b ∷ []) ≡ h.front ++ b ∷ [] = rw parts (simp append_assoc refl) in
    goes_on x b (in_state Comment p w n ss es bs) (λ y. tt) h Between p w n ss h.fresh h.fit h.early
    (none, subst (IsFront h.base p n ss) whole (front_gap p h.base n ss g (c ++ b ∷ []) is (comment_more c b false comment e)))

comment_stays : (x : List ℕ) (b : ℕ) (p : Phase) (w n : List ℕ) (ss : List Scalar) (es : List ConfEntry) (bs : List ℕ)
    → after_gap true (b ∷ []) ≡ Some true → (h : Stands Any x (in_state Comment p w n ss es bs)) → IsTail h.base Comment p w n ss h.front
    → Good x b (Ok (in_state Comment p w n ss es bs))
comment_stays x b p w n ss es bs e h (g, c, none, is, comment, parts) =
    goes_on x b (in_state Comment p w n ss es bs) (λ y. tt) h Comment p w n ss h.fresh h.fit h.early
    (g, c ++ b ∷ [], none, is, comment_more c b true comment e, ap (λ z. z ++ b ∷ []) parts ∙ append_assoc g c (b ∷ []))

in_comment_good : (x : List ℕ) (k : Kind) (b at : ℕ) (p : Phase) (w n : List ℕ) (ss : List Scalar) (es : List ConfEntry) (bs : List ℕ)
    → at ≡ length x → kind b ≡ k → (h : Stands Any x (in_state Comment p w n ss es bs)) → IsTail h.base Comment p w n ss h.front
    → Good x b (in_comment k at (in_state Comment p w n ss es bs))
in_comment_good x LineFeed b at p w n ss es bs same e h tail = comment_ends x b p w n ss es bs (rw e refl) h tail
in_comment_good x Zero b at p w n ss es bs same e h tail = bad_inside x b at (in_state Comment p w n ss es bs) same h
in_comment_good x _ b at p w n ss es bs same e h tail = comment_stays x b p w n ss es bs (rw e refl) h tail

-- ---- any byte

in_mode_good : (x : List ℕ) (m : Mode) (k : Kind) (b at : ℕ) (p : Phase) (w n : List ℕ) (ss : List Scalar) (es : List ConfEntry)
    (bs : List ℕ) → at ≡ length x → kind b ≡ k → Stands Any x (in_state m p w n ss es bs)
    → Good x b (in_mode m k b at (in_state m p w n ss es bs))
in_mode_good x Between k b at p w n ss es bs same e h =
    let r : in_state Between p w n ss es bs ≡ between p n ss es bs = ap (λ z. in_state Between p z n ss es bs) h.tail.0 in
    subst (λ z. Good x b (begun p k b at z)) (sym r)
    (begun_good x p k b at n ss es bs same e (subst (Stands Any x) r h, λ y. tt, λ y q. tt))
in_mode_good x Comment k b at p w n ss es bs same e h = in_comment_good x k b at p w n ss es bs same e h h.tail
in_mode_good x Word k b at p w n ss es bs same e h = in_word_good x p k b at w n ss es bs same e h h.tail
in_mode_good x (String q) k b at p w n ss es bs same e h = in_string_good x q k b at p w n ss es bs same e h h.tail
in_mode_good x (Escape q) k b at p w n ss es bs same e h = in_escape_good x q k b at p w n ss es bs same e h h.tail

pub step_good : (x : List ℕ) (b at : ℕ) (r : Reader) → at ≡ length x → Stands Any x r → Good x b (step at b r)
unfolding step
step_good x b at r same h = in_mode_good x r.mode (kind b) b at r.phase r.word r.name r.scalars r.entries r.braces same refl h
