-- What the bytes read so far are, one byte later.
use Rattle.std.proofs.Common.{◌≡◌, ℕ, suc, ◌+◌, ◌≤◌, Bool, true, false, cond, ltb, List, [], ◌∷◌, ◌++◌, length, take, Ok, Err, refl, sym}
use Rattle.std.proofs.Common.{ap, subst, ◌∙◌, append_assoc, length-append, arith}
use Rattle.std.proofs.lemmas.Bool.{ltb-false}
use Rattle.std.specs.List.{list_all}
use Rattle.conf_text.specs.declared.refusal.ConfRefusal.TheVariants.{BadToken, TooDeep}
use Rattle.conf_text.specs.declared.kind.Kind.{Kind}
use Rattle.conf_text.specs.declared.kind.Kind.TheVariants.{Digit, Letter, Blank, LineFeed, Hash, Quote, Backslash, OpenBrace, CloseBrace}
use Rattle.conf_text.specs.declared.kind.Kind.TheVariants.{OpenBracket, CloseBracket, Equals, Comma, Zero, Other}
use Rattle.conf_text.specs.Bytes.{kind}
use Rattle.conf_text.specs.declared.reader.Mode.TheVariants.{Between, Comment, Word, String}
use Rattle.conf_text.specs.declared.reader.Phase.{Phase}
use Rattle.conf_text.specs.declared.reader.Phase.TheVariants.{Item, Named, Wanted, First, Next, After}
use Rattle.conf_text.specs.Entries.{Scalar, Value, Many, ConfEntry, Open, Close, Assign, sections, is_given, fits_scalar, scalars_of}
use Rattle.conf_text.specs.Entries.{keeps_limits}
use Rattle.conf_text.specs.Grammar.{is_name, IsGap, IsName, IsDigits, EndsWord, IsEntry, EndsEntry, BeginsWith}
use Rattle.conf_text.specs.Refusals.{Begins}
use Rattle.conf_text.specs.Reader.{Read, closed, item_begun, named_begun, value_begun, first_begun, next_begun, after_begun, token_begun}
use Rattle.conf_text.specs.Reader.{begun}
use Rattle.conf_text.proofs.Accepted.{between, item}
use Rattle.conf_text.proofs.ByteOf.{byte_of}
use Rattle.conf_text.proofs.Depth.{entries_limited}
use Rattle.conf_text.proofs.Fronts.{IsFront, front_gap, front_equals, front_bracket, front_comma, entry_open, entry_close, entry_empty}
use Rattle.conf_text.proofs.Fronts.{entry_list}
use Rattle.conf_text.proofs.Standing.{IsWordFor, Stands, RefusedEarly, goes_on, new_entry, ends_key, keeps_key, bad_here, front_begins}
use Rattle.conf_text.proofs.Standing.{begins_front}
use Rattle.conf_text.proofs.Steps.{in_state, wants_scalar}
use Rattle.conf_text.proofs.Upto.{Any, grow, opened_section, closed_section, opens_begins, upto_begins}

-- after a byte the reader stands behind it, or the text is refused for it, however it goes on
abbrev pub Good : List ℕ → ℕ → Read → Type 0
Good x b (Ok s) = Stands Any (x ++ b ∷ []) s
Good x b (Err e) = (y : List ℕ) → RefusedEarly (length x) (x ++ (b ∷ y)) e

-- ---- bytes between tokens

-- a reader between tokens, with what it stands behind
abbrev pub Ready : (List ℕ → Type 0) → List ℕ → ℕ → Phase → List ℕ → List Scalar → List ConfEntry → List ℕ → Type 0
Ready P x b p n ss es bs = Stands P x (between p n ss es bs) × ((y : List ℕ) → P (b ∷ y)) × ((y : List ℕ) → EndsWord y → P y)

bad : {P : List ℕ → Type 0} (x : List ℕ) (b at : ℕ) (p : Phase) (n : List ℕ) (ss : List Scalar) (es : List ConfEntry) (bs : List ℕ)
    → at ≡ length x → Ready P x b p n ss es bs → Good x b (Err (BadToken at))
bad x b at p n ss es bs same (h, may, weak) =
    λ y. bad_here x at (b ∷ y) same (front_begins x p h.base n ss es bs h.front weak h.upto h.tail.1)

gap_good : {P : List ℕ → Type 0} (x : List ℕ) (b : ℕ) (p : Phase) (n : List ℕ) (ss : List Scalar) (es : List ConfEntry) (bs : List ℕ)
    → IsGap (b ∷ []) → Ready P x b p n ss es bs → Good x b (Ok (between p n ss es bs))
gap_good x b p n ss es bs gap (h, may, weak) =
    goes_on x b (between p n ss es bs) may h Between p [] n ss h.fresh h.fit h.early
    (refl, front_gap p h.base n ss h.front (b ∷ []) h.tail.1 gap)

blank_gap : (b : ℕ) → kind b ≡ Blank → IsGap (b ∷ [])
blank_gap b e = rw e refl

feed_gap : (b : ℕ) → kind b ≡ LineFeed → IsGap (b ∷ [])
feed_gap b e = rw e refl

hash_good : {P : List ℕ → Type 0} (x : List ℕ) (b : ℕ) (p : Phase) (n : List ℕ) (ss : List Scalar) (es : List ConfEntry) (bs : List ℕ)
    → kind b ≡ Hash → Ready P x b p n ss es bs → Good x b (Ok (in_state Comment p [] n ss es bs))
hash_good x b p n ss es bs e (h, may, weak) =
    goes_on x b (between p n ss es bs) may h Comment p [] n ss h.fresh h.fit h.early (h.front, b ∷ [], refl, h.tail.1, rw e refl, refl)

one_name : (b : ℕ) → is_name (kind b) ≡ true → IsName (b ∷ [])
one_name b e = (λ k. absurd cc, rw e refl)

one_digit : (b : ℕ) → kind b ≡ Digit → IsDigits (b ∷ [])
one_digit b e = (λ k. absurd cc, rw e refl)

word_good : {P : List ℕ → Type 0} (x : List ℕ) (b : ℕ) (p : Phase) (n : List ℕ) (ss : List Scalar) (es : List ConfEntry) (bs : List ℕ)
    → IsWordFor p (b ∷ []) → Ready P x b p n ss es bs → Good x b (Ok (in_state Word p (b ∷ []) n ss es bs))
word_good x b p n ss es bs word (h, may, weak) =
    goes_on x b (between p n ss es bs) may h Word p (b ∷ []) n ss h.fresh h.fit h.early (h.front, h.tail.1, word, refl)

quote_good : {P : List ℕ → Type 0} (x : List ℕ) (b at : ℕ) (p : Phase) (n : List ℕ) (ss : List Scalar) (es : List ConfEntry) (bs : List ℕ)
    → at ≡ length x → wants_scalar p ≡ true → kind b ≡ Quote → Ready P x b p n ss es bs
    → Good x b (Ok (in_state (String at) p [] n ss es bs))
quote_good x b at p n ss es bs same wants e (h, may, weak) =
    goes_on x b (between p n ss es bs) may h (String at) p [] n ss h.fresh h.fit h.early
    (h.front, h.tail.1, wants, refl, ap (λ z. h.front ++ (z ∷ [])) (byte_of b Quote e), same ∙ sym h.place)

-- a key's entry ends with this byte
key_good : {P : List ℕ → Type 0} (x : List ℕ) (b : ℕ) (p : Phase) (n : List ℕ) (ss : List Scalar) (es : List ConfEntry) (bs : List ℕ)
    (v : Value) → (h : Ready P x b p n ss es bs) → is_given (sections es) n ≡ false → list_all fits_scalar (scalars_of v) ≡ true
    → IsEntry (h.0.front ++ b ∷ []) (Assign n v) → ((y : List ℕ) → EndsEntry (Assign n v) y)
    → Good x b (Ok (item (es ++ Assign n v ∷ []) bs))
key_good x b p n ss es bs v (h, may, weak) fresh fit entry ends =
    ends_key x b (between p n ss es bs) may h (Assign n v) tt entry ends (keeps_key (sections es) n v fresh fit)

closed_good : {P : List ℕ → Type 0} (x : List ℕ) (b at : ℕ) (n : List ℕ) (ss : List Scalar) (es : List ConfEntry) (bs : List ℕ)
    → at ≡ length x → kind b ≡ CloseBrace → Ready P x b Item n ss es bs → Good x b (closed at (between Item n ss es bs) bs)
closed_good x b at n ss es [] same e h = bad x b at Item n ss es [] same h
closed_good x b at n ss es (p ∷ bs) same e (h, may, weak) =
    let entry = subst (λ z. IsEntry (h.front ++ z ∷ []) Close) (sym (byte_of b CloseBrace e)) (entry_close h.base n ss h.front h.tail.1) in
    new_entry (x ++ b ∷ []) (es ++ Close ∷ []) bs
    (closed_section (x ++ b ∷ []) es p bs (h.front ++ b ∷ []) entry (grow x b es (p ∷ bs) h.front may h.upto))

item_good : {P : List ℕ → Type 0} (x : List ℕ) (k : Kind) (b at : ℕ) (n : List ℕ) (ss : List Scalar) (es : List ConfEntry) (bs : List ℕ)
    → at ≡ length x → kind b ≡ k → Ready P x b Item n ss es bs → Good x b (item_begun k b at (between Item n ss es bs))
item_good x Digit b at n ss es bs same e h = word_good x b Item n ss es bs (one_name b (ap is_name e)) h
item_good x Letter b at n ss es bs same e h = word_good x b Item n ss es bs (one_name b (ap is_name e)) h
item_good x CloseBrace b at n ss es bs same e h = closed_good x b at n ss es bs same e h
item_good x _ b at n ss es bs same e h = bad x b at Item n ss es bs same h

open_keeps : (given : List (List (List ℕ))) (n : List ℕ) → is_given given n ≡ false → ltb (length given) 17 ≡ true
    → keeps_limits given (Open n) ≡ true
open_keeps given n fresh deep = rw (fresh, deep) refl

opened_good : {P : List ℕ → Type 0} (c : Bool) (x : List ℕ) (b at : ℕ) (n : List ℕ) (ss : List Scalar) (es : List ConfEntry) (bs : List ℕ)
    → at ≡ length x → kind b ≡ OpenBrace → ltb (length (sections es)) 17 ≡ c → Ready P x b Named n ss es bs
    → Good x b (cond c (Ok (item (es ++ Open n ∷ []) (at ∷ bs))) (Err (TooDeep at)))
opened_good true x b at n ss es bs same e deep (h, may, weak) =
    let entry = subst (λ z. IsEntry (h.front ++ z ∷ []) (Open n)) (sym (byte_of b OpenBrace e)) (entry_open h.base n ss h.front h.tail.1) in
    let place : suc at ≡ length (x ++ b ∷ []) = omega (arith, same, length-append x (b ∷ [])) in
    new_entry (x ++ b ∷ []) (es ++ Open n ∷ []) (at ∷ bs)
    (opened_section (x ++ b ∷ []) es bs (h.front ++ b ∷ []) n at entry place (open_keeps (sections es) n h.fresh deep)
    (grow x b es bs h.front may h.upto))
opened_good {P} false x b at n ss es bs same e deep (h, may, weak) = λ y.
    let brace = byte_of b OpenBrace e in
    let begins =
    subst (λ z. Begins (x ++ z ∷ [])) (sym brace)
    (opens_begins x es bs h.front n (entry_open h.base n ss h.front h.tail.1) (λ z. subst (λ k. P (k ∷ z)) brace (may z)) h.upto) in
    let place : suc at ≤ length (x ++ b ∷ []) = omega (arith, same, length-append x (b ∷ [])) in (
      record {
        before = es;
        limits = h.upto.limits;
        front = h.front;
        more = y;
        entries = subst (λ z. BeginsWith (x ++ (b ∷ y)) es (h.front ++ (z ∷ y))) brace (upto_begins x es bs h.front (b ∷ y) h.upto (may y));
        name = n;
        fresh = h.fresh;
        header = h.tail.1;
        deep =
            let most : length (sections es) ≤ 17 = entries_limited es ([] ∷ []) h.upto.limits (omega arith) in omega
            (arith, most, ltb-false (length (sections es)) 17 deep);
        place_is = omega (arith, same, length-append x (b ∷ y));
      },
      subst (λ z. Begins (take (suc at) z)) (append_assoc x (b ∷ []) y) (begins_front (x ++ b ∷ []) y (suc at) place begins),
    )

named_good : {P : List ℕ → Type 0} (x : List ℕ) (k : Kind) (b at : ℕ) (n : List ℕ) (ss : List Scalar) (es : List ConfEntry) (bs : List ℕ)
    → at ≡ length x → kind b ≡ k → Ready P x b Named n ss es bs → Good x b (named_begun k at (between Named n ss es bs))
named_good x Equals b at n ss es bs same e (h, may, weak) =
    goes_on x b (between Named n ss es bs) may h Between Wanted [] n ss h.fresh h.fit h.early (
      refl,
      subst (λ z. IsFront h.base Wanted n ss (h.front ++ z ∷ [])) (sym (byte_of b Equals e))
          (front_equals h.base n ss h.front h.tail.1),
    )
named_good x OpenBrace b at n ss es bs same e h = opened_good (ltb (length (sections es)) 17) x b at n ss es bs same e refl h
named_good x _ b at n ss es bs same e h = bad x b at Named n ss es bs same h

value_good : {P : List ℕ → Type 0} (x : List ℕ) (k : Kind) (b at : ℕ) (n : List ℕ) (ss : List Scalar) (es : List ConfEntry) (bs : List ℕ)
    → at ≡ length x → kind b ≡ k → Ready P x b Wanted n ss es bs → Good x b (value_begun k b at (between Wanted n ss es bs))
value_good x Digit b at n ss es bs same e h = word_good x b Wanted n ss es bs (one_digit b e) h
value_good x Quote b at n ss es bs same e h = quote_good x b at Wanted n ss es bs same refl e h
value_good x OpenBracket b at n ss es bs same e (h, may, weak) =
    goes_on x b (between Wanted n ss es bs) may h Between (First at) [] n ss h.fresh h.fit h.early (
      refl,
      subst (λ q. IsFront h.base (First q) n ss (h.front ++ b ∷ [])) (h.place ∙ sym same)
          (subst (λ z. IsFront h.base (First (h.base + length h.front)) n ss (h.front ++ z ∷ [])) (sym (byte_of b OpenBracket e))
          (front_bracket h.base n ss h.front h.tail.1)),
    )
value_good x _ b at n ss es bs same e h = bad x b at Wanted n ss es bs same h

first_good : {P : List ℕ → Type 0} (x : List ℕ) (k : Kind) (b at q : ℕ) (n : List ℕ) (ss : List Scalar) (es : List ConfEntry) (bs : List ℕ)
    → at ≡ length x → kind b ≡ k → Ready P x b (First q) n ss es bs → Good x b (first_begun k b at (between (First q) n ss es bs))
first_good x Digit b at q n ss es bs same e h = word_good x b (First q) n ss es bs (one_digit b e) h
first_good x Quote b at q n ss es bs same e h = quote_good x b at (First q) n ss es bs same refl e h
first_good x CloseBracket b at q n ss es bs same e h =
    key_good x b (First q) n ss es bs (Many []) h h.0.fresh refl
    (subst (λ z. IsEntry (h.0.front ++ z ∷ []) (Assign n (Many []))) (sym (byte_of b CloseBracket e))
    (entry_empty h.0.base q n ss h.0.front h.0.tail.1)) (λ y. tt)
first_good x _ b at q n ss es bs same e h = bad x b at (First q) n ss es bs same h

next_good : {P : List ℕ → Type 0} (x : List ℕ) (k : Kind) (b at q : ℕ) (n : List ℕ) (ss : List Scalar) (es : List ConfEntry) (bs : List ℕ)
    → at ≡ length x → kind b ≡ k → Ready P x b (Next q) n ss es bs → Good x b (next_begun k b at (between (Next q) n ss es bs))
next_good x Digit b at q n ss es bs same e h = word_good x b (Next q) n ss es bs (one_digit b e) h
next_good x Quote b at q n ss es bs same e h = quote_good x b at (Next q) n ss es bs same refl e h
next_good x _ b at q n ss es bs same e h = bad x b at (Next q) n ss es bs same h

after_good : {P : List ℕ → Type 0} (x : List ℕ) (k : Kind) (b at q : ℕ) (n : List ℕ) (ss : List Scalar) (es : List ConfEntry) (bs : List ℕ)
    → at ≡ length x → kind b ≡ k → Ready P x b (After q) n ss es bs → Good x b (after_begun q k at (between (After q) n ss es bs))
after_good x Comma b at q n ss es bs same e (h, may, weak) =
    goes_on x b (between (After q) n ss es bs) may h Between (Next q) [] n ss h.fresh h.fit tt (
      refl,
      subst (λ z. IsFront h.base (Next q) n ss (h.front ++ z ∷ [])) (sym (byte_of b Comma e))
          (front_comma h.base q n ss h.front h.tail.1),
    )
after_good x CloseBracket b at q n ss es bs same e h =
    key_good x b (After q) n ss es bs (Many ss) h h.0.fresh h.0.fit
    (subst (λ z. IsEntry (h.0.front ++ z ∷ []) (Assign n (Many ss))) (sym (byte_of b CloseBracket e))
    (entry_list h.0.base q n ss h.0.front h.0.tail.1)) (λ y. tt)
after_good x _ b at q n ss es bs same e h = bad x b at (After q) n ss es bs same h

token_good : {P : List ℕ → Type 0} (x : List ℕ) (p : Phase) (k : Kind) (b at : ℕ) (n : List ℕ) (ss : List Scalar) (es : List ConfEntry)
    (bs : List ℕ) → at ≡ length x → kind b ≡ k → Ready P x b p n ss es bs → Good x b (token_begun p k b at (between p n ss es bs))
token_good x Item k b at n ss es bs same e h = item_good x k b at n ss es bs same e h
token_good x Named k b at n ss es bs same e h = named_good x k b at n ss es bs same e h
token_good x Wanted k b at n ss es bs same e h = value_good x k b at n ss es bs same e h
token_good x (First q) k b at n ss es bs same e h = first_good x k b at q n ss es bs same e h
token_good x (Next q) k b at n ss es bs same e h = next_good x k b at q n ss es bs same e h
token_good x (After q) k b at n ss es bs same e h = after_good x k b at q n ss es bs same e h

pub begun_good : {P : List ℕ → Type 0} (x : List ℕ) (p : Phase) (k : Kind) (b at : ℕ) (n : List ℕ) (ss : List Scalar) (es : List ConfEntry)
    (bs : List ℕ) → at ≡ length x → kind b ≡ k → Ready P x b p n ss es bs → Good x b (begun p k b at (between p n ss es bs))
begun_good x p Blank b at n ss es bs same e h = gap_good x b p n ss es bs (blank_gap b e) h
begun_good x p LineFeed b at n ss es bs same e h = gap_good x b p n ss es bs (feed_gap b e) h
begun_good x p Hash b at n ss es bs same e h = hash_good x b p n ss es bs e h
begun_good x p Digit b at n ss es bs same e h = token_good x p Digit b at n ss es bs same e h
begun_good x p Letter b at n ss es bs same e h = token_good x p Letter b at n ss es bs same e h
begun_good x p Quote b at n ss es bs same e h = token_good x p Quote b at n ss es bs same e h
begun_good x p Backslash b at n ss es bs same e h = token_good x p Backslash b at n ss es bs same e h
begun_good x p OpenBrace b at n ss es bs same e h = token_good x p OpenBrace b at n ss es bs same e h
begun_good x p CloseBrace b at n ss es bs same e h = token_good x p CloseBrace b at n ss es bs same e h
begun_good x p OpenBracket b at n ss es bs same e h = token_good x p OpenBracket b at n ss es bs same e h
begun_good x p CloseBracket b at n ss es bs same e h = token_good x p CloseBracket b at n ss es bs same e h
begun_good x p Equals b at n ss es bs same e h = token_good x p Equals b at n ss es bs same e h
begun_good x p Comma b at n ss es bs same e h = token_good x p Comma b at n ss es bs same e h
begun_good x p Zero b at n ss es bs same e h = token_good x p Zero b at n ss es bs same e h
begun_good x p Other b at n ss es bs same e h = token_good x p Other b at n ss es bs same e h
