-- What the bytes read so far are, by where the reader is.
use Rattle.std.proofs.Common.{◌≡◌, ℕ, suc, ◌+◌, ◌<◌, ◌≤◌, true, false, cond, List, [], ◌∷◌, ◌++◌, length, take, drop, Some, refl, sym, ap}
use Rattle.std.proofs.Common.{subst, ◌∙◌, append_assoc, length-append, arith}
use Rattle.std.proofs.Math.Seq.{take-append_seam}
use Rattle.std.proofs.lemmas.List.{take-append-drop, take-append-le}
use Rattle.std.proofs.lemmas.List.Folds.{list_all-append}
use Rattle.std.specs.List.{list_all}
use Rattle.std.specs.Str.Parse.{digits_value}
use Rattle.conf_text.specs.declared.refusal.ConfRefusal.{ConfRefusal}
use Rattle.conf_text.specs.declared.refusal.ConfRefusal.TheVariants.{NoMemory, BadToken, Unclosed, DuplicateKey, NumberTooWide, TooDeep}
use Rattle.conf_text.specs.declared.kind.Kind.TheVariants.{Digit}
use Rattle.conf_text.specs.Bytes.{kind}
use Rattle.conf_text.specs.declared.reader.Mode.{Mode}
use Rattle.conf_text.specs.declared.reader.Mode.TheVariants.{Between, Comment, Word, String, Escape}
use Rattle.conf_text.specs.declared.reader.Phase.{Phase}
use Rattle.conf_text.specs.declared.reader.Phase.TheVariants.{Item, Named, Wanted, First, Next, After}
use Rattle.conf_text.specs.Entries.{Scalar, Number, Text, Value, One, ConfEntry, Assign, sections, is_given, fits_scalar, scalars_of}
use Rattle.conf_text.specs.Entries.{keeps_limits}
use Rattle.conf_text.specs.Grammar.{is_digit, is_allowed, is_escaped, after_gap, IsName, IsDigits, IsContent, escaped, EndsWord, IsScalar}
use Rattle.conf_text.specs.Grammar.{IsEntry, EndsEntry, Spells}
use Rattle.conf_text.specs.Refusals.{Begins, IsDuplicate, IsTooWide, IsTooDeep}
use Rattle.conf_text.specs.Reader.{Reader}
use Rattle.conf_text.proofs.Accepted.{item}
use Rattle.conf_text.proofs.Fronts.{IsFront, IsEarly, IsAssign, Completes, completes, front_gap, front_name, front_first, front_next}
use Rattle.conf_text.proofs.Fronts.{entry_scalar, front_completes}
use Rattle.conf_text.proofs.Pieces.{gap_append}
use Rattle.conf_text.proofs.Steps.{in_state, wants_scalar, cond-append}
use Rattle.conf_text.proofs.Upto.{Upto, Any, grow, assigned, viable}

-- a name is at hand, or the digits of a number
abbrev pub IsWordFor : Phase → List ℕ → Type 0
IsWordFor Item w = IsName w
IsWordFor Wanted w = IsDigits w
IsWordFor (First q) w = IsDigits w
IsWordFor (Next q) w = IsDigits w
IsWordFor _ w = ⊥

-- the bytes since the last entry, with what the last byte belongs to
abbrev pub IsTail : ℕ → Mode → Phase → List ℕ → List ℕ → List Scalar → List ℕ → Type 0
IsTail base Between p w n ss f = (w ≡ []) × IsFront base p n ss f
IsTail base Comment p w n ss f = (g c : List ℕ) × (w ≡ []) × IsFront base p n ss g × (after_gap false c ≡ Some true) × (f ≡ g ++ c)
IsTail base Word p w n ss f = (g : List ℕ) × IsFront base p n ss g × IsWordFor p w × (f ≡ g ++ w)
IsTail base (String q) p w n ss f =
    (g : List ℕ) × IsFront base p n ss g × (wants_scalar p ≡ true) × IsContent w × (f ≡ g ++ (34 ∷ escaped w)) × (q ≡ base + length g)
IsTail base (Escape q) p w n ss f =
    (g : List ℕ) × IsFront base p n ss g × (wants_scalar p ≡ true) × IsContent w × (f ≡ g ++ (34 ∷ (escaped w ++ 92 ∷ [])))
    × (q ≡ base + length g)

-- the name at hand is new
abbrev pub IsFresh : Phase → List (List (List ℕ)) → List ℕ → Type 0
IsFresh Item given n = Unit {0}
IsFresh _ given n = is_given given n ≡ false

pub record Stands (P : List ℕ → Type 0) (x : List ℕ) (r : Reader) : Type 0 where
  pub base : ℕ
  pub front : List ℕ
  pub upto : Upto P x r.entries r.braces front
  pub place : base + length front ≡ length x
  pub fresh : IsFresh r.phase (sections r.entries) r.name
  pub fit : list_all fits_scalar r.scalars ≡ true
  pub early : IsEarly r.phase r.scalars
  pub tail : IsTail base r.mode r.phase r.word r.name r.scalars front

-- why a text is refused before its end, by a byte from this place on
abbrev pub RefusedEarly : ℕ → List ℕ → ConfRefusal → Type 0
RefusedEarly from text NoMemory = ⊥
RefusedEarly from text (BadToken p) = (from ≤ p) × (p ≤ length text) × Begins (take p text)
RefusedEarly from text (Unclosed p) = ⊥
RefusedEarly from text (DuplicateKey p) = IsDuplicate text p × Begins (take (suc p) text)
RefusedEarly from text (NumberTooWide p) = IsTooWide text p × Begins (take (suc p) text)
RefusedEarly from text (TooDeep p) = IsTooDeep text p × Begins (take (suc p) text)

-- ---- going on

pub weaken : {P Q : List ℕ → Type 0} (x : List ℕ) (es : List ConfEntry) (bs front : List ℕ) → ((y : List ℕ) → Q y → P y)
    → Upto P x es bs front → Upto Q x es bs front
weaken x es bs front may h =
    record {
      opened = h.opened;
      inside = h.inside;
      done = h.done;
      inner = h.inner;
      bytes = h.bytes;
      listed = h.listed;
      stack = h.stack;
      balanced = h.balanced;
      entries = λ y q. h.entries y (may y q);
      limits = h.limits;
    }

-- a byte that ends no entry
pub goes_on : {P : List ℕ → Type 0} (x : List ℕ) (b : ℕ) (r : Reader) → ((y : List ℕ) → P (b ∷ y)) → (h : Stands P x r)
    → (m : Mode) (p : Phase) (w n : List ℕ) (ss : List Scalar) → IsFresh p (sections r.entries) n → list_all fits_scalar ss ≡ true
    → IsEarly p ss → IsTail h.base m p w n ss (h.front ++ b ∷ []) → Stands Any (x ++ b ∷ []) (in_state m p w n ss r.entries r.braces)
goes_on x b r may h m p w n ss fresh fit early tail = record {
  base = h.base;
  front = h.front ++ b ∷ [];
  upto = grow x b r.entries r.braces h.front may h.upto;
  place = omega (arith, h.place, length-append h.front (b ∷ []), length-append x (b ∷ []));
  fresh = fresh;
  fit = fit;
  early = early;
  tail = tail;
}

-- an entry may begin
pub new_entry : {P : List ℕ → Type 0} (x : List ℕ) (es : List ConfEntry) (bs : List ℕ) → Upto P x es bs [] → Stands P x (item es bs)
new_entry x es bs h =
    record { base = length x; front = []; upto = h; place = omega arith; fresh = tt; fit = refl; early = refl; tail = (refl, refl) }

-- a byte that ends a key's entry
pub ends_key : {P : List ℕ → Type 0} (x : List ℕ) (b : ℕ) (r : Reader) → ((y : List ℕ) → P (b ∷ y)) → (h : Stands P x r) → (e : ConfEntry)
    → IsAssign e → IsEntry (h.front ++ b ∷ []) e → ((y : List ℕ) → EndsEntry e y) → keeps_limits (sections r.entries) e ≡ true
    → Stands Any (x ++ b ∷ []) (item (r.entries ++ e ∷ []) r.braces)
ends_key x b r may h e is entry ends keeps =
    new_entry (x ++ b ∷ []) (r.entries ++ e ∷ []) r.braces
    (assigned (x ++ b ∷ []) r.entries r.braces (h.front ++ b ∷ []) e is entry (λ y any. any) (λ y any. ends y) keeps
    (grow x b r.entries r.braces h.front may h.upto))

pub keeps_key : (given : List (List (List ℕ))) (n : List ℕ) (v : Value) → is_given given n ≡ false
    → list_all fits_scalar (scalars_of v) ≡ true → keeps_limits given (Assign n v) ≡ true
keeps_key given n v fresh fit = rw (fresh, fit) refl

-- ---- some text begins so

-- so some text begins with less
pub begins_less : (x : List ℕ) (n : ℕ) → Begins x → Begins (take n x)
begins_less x n (more, es, spells) =
    let whole : x ++ more ≡ take n x ++ (drop n x ++ more) =
    ap (λ z. z ++ more) (sym (take-append-drop n x)) ∙ append_assoc (take n x) (drop n x) more in
    (drop n x ++ more, es, subst (λ z. Spells z es) whole spells)

pub begins_front : (x y : List ℕ) (n : ℕ) → n ≤ length x → Begins x → Begins (take n (x ++ y))
begins_front x y n less begins = subst Begins (sym (take-append-le n x y less)) (begins_less x n begins)

-- a byte is refused here, and what is before it goes on otherwise
pub bad_here : (x : List ℕ) (at : ℕ) (y : List ℕ) → at ≡ length x → Begins x → RefusedEarly (length x) (x ++ y) (BadToken at)
bad_here x at y same begins = (
  omega (arith, same),
  omega (arith, same, length-append x y),
  subst Begins (sym (ap (λ n. take n (x ++ y)) same ∙ take-append_seam x y)) begins,
)

pub front_begins : {P : List ℕ → Type 0} (x : List ℕ) (p : Phase) (base : ℕ) (n : List ℕ) (ss : List Scalar) (es : List ConfEntry)
    (bs front : List ℕ) → ((y : List ℕ) → EndsWord y → P y) → Upto P x es bs front → IsFront base p n ss front → Begins x
front_begins x p base n ss es bs front may h is =
    let (b, more, e, ends, entry, assign) = front_completes p base n ss front is in
    viable x es bs front (b ∷ more) e assign entry (λ y. may (b ∷ (more ++ y)) ends) h

-- more bytes that complete a front
pub completes_more : (f a : List ℕ) → Completes (f ++ a) → 0 < length a → Completes f
completes_more f a (closing, e, some, entry, assign) here =
    (a ++ closing, e, omega (arith, here, length-append a closing), subst (λ z. IsEntry z e) (append_assoc f a closing) entry, assign)

-- a scalar in part
pub scalar_completes : (p : Phase) (base : ℕ) (n : List ℕ) (ss : List Scalar) (s : Scalar) (g x c : List ℕ) → wants_scalar p ≡ true
    → IsEarly p ss → IsFront base p n ss g → IsScalar (x ++ c) s → 0 < length c → Completes (g ++ x)
scalar_completes Wanted base n ss s g x c wants early is scalar some = (
  c,
  Assign n (One s),
  some,
  subst (λ z. IsEntry z (Assign n (One s))) (sym (append_assoc g x c))
      (entry_scalar base n ss s g (x ++ c) is scalar),
  tt,
)
scalar_completes (First q) base n ss s g x c wants early is scalar some =
    let after =
    subst (λ z. IsFront base (After q) n (ss ++ s ∷ []) z) (sym (append_assoc g x c))
    (front_first base q n ss s g (x ++ c) early is scalar) in
    completes_more (g ++ x) c (completes ((g ++ x) ++ c) (front_completes (After q) base n (ss ++ s ∷ []) ((g ++ x) ++ c) after)) some
scalar_completes (Next q) base n ss s g x c wants early is scalar some =
    let after =
    subst (λ z. IsFront base (After q) n (ss ++ s ∷ []) z) (sym (append_assoc g x c)) (front_next base q n ss s g (x ++ c) is scalar) in
    completes_more (g ++ x) c (completes ((g ++ x) ++ c) (front_completes (After q) base n (ss ++ s ∷ []) ((g ++ x) ++ c) after)) some
scalar_completes _ base n ss s g x c wants early is scalar some = absurd cc

pub digit_more : (w : List ℕ) (b : ℕ) → IsDigits w → kind b ≡ Digit → IsDigits (w ++ b ∷ [])
digit_more [] b h e = absurd (h.0 refl)
digit_more (a ∷ w) b h e = (λ k. absurd cc, list_all-append (λ b. is_digit (kind b)) (a ∷ w) (b ∷ []) ∙ rw (h.1, e) refl)

zero_digit : kind 48 ≡ Digit
unfolding kind
zero_digit = refl

digits_complete : (p : Phase) (base : ℕ) (n : List ℕ) (ss : List Scalar) (g w : List ℕ) → wants_scalar p ≡ true → IsEarly p ss
    → IsFront base p n ss g → IsDigits w → Completes (g ++ w)
digits_complete p base n ss g w wants early is digits =
    scalar_completes p base n ss (Number (digits_value 10 (w ++ 48 ∷ []))) g w (48 ∷ []) wants early is
    (digit_more w 48 digits zero_digit, refl) (omega arith)

pub escaped_append : (a b : List ℕ) → escaped (a ++ b) ≡ escaped a ++ escaped b
escaped_append [] b = refl
escaped_append (c ∷ a) b =
    ap (λ z. cond (is_escaped (kind c)) (92 ∷ c ∷ z) (c ∷ z)) (escaped_append a b)
    ∙ sym (cond-append (is_escaped (kind c)) (92 ∷ c ∷ escaped a) (c ∷ escaped a) (escaped b))

pub quoted : (s : List ℕ) → IsContent s → IsScalar (34 ∷ (escaped s ++ 34 ∷ [])) (Text s)
quoted s content = (content, refl)

pub string_completes : (p : Phase) (base : ℕ) (n : List ℕ) (ss : List Scalar) (g w : List ℕ) → wants_scalar p ≡ true → IsEarly p ss
    → IsFront base p n ss g → IsContent w → Completes (g ++ (34 ∷ escaped w))
string_completes p base n ss g w wants early is content =
    scalar_completes p base n ss (Text w) g (34 ∷ escaped w) (34 ∷ []) wants early is (quoted w content) (omega arith)

-- a byte that takes part in a string
pub content_more : (w : List ℕ) (b : ℕ) → IsContent w → is_allowed (kind b) ≡ true → IsContent (w ++ b ∷ [])
content_more w b h e = list_all-append (λ b. is_allowed (kind b)) w (b ∷ []) ∙ rw (h, e) refl

pub escaped_plain : (w : List ℕ) (b : ℕ) → is_escaped (kind b) ≡ false → escaped (w ++ b ∷ []) ≡ escaped w ++ b ∷ []
escaped_plain w b e = escaped_append w (b ∷ []) ∙ rw e refl

pub escaped_mark : (w : List ℕ) (b : ℕ) → is_escaped (kind b) ≡ true → escaped (w ++ b ∷ []) ≡ escaped w ++ (92 ∷ b ∷ [])
escaped_mark w b e = escaped_append w (b ∷ []) ∙ rw e refl

pub quote_allowed : is_allowed (kind 34) ≡ true
unfolding kind
quote_allowed = refl

pub quote_escaped : is_escaped (kind 34) ≡ true
unfolding kind
quote_escaped = refl

escape_completes : (p : Phase) (base : ℕ) (n : List ℕ) (ss : List Scalar) (g w : List ℕ) → wants_scalar p ≡ true → IsEarly p ss
    → IsFront base p n ss g → IsContent w → Completes (g ++ (34 ∷ (escaped w ++ 92 ∷ [])))
escape_completes p base n ss g w wants early is content =
    let whole : g ++ (34 ∷ escaped (w ++ 34 ∷ [])) ≡ (g ++ (34 ∷ (escaped w ++ 92 ∷ []))) ++ 34 ∷ [] =
    ap (λ z. g ++ (34 ∷ z)) (escaped_mark w 34 quote_escaped) ∙ simp append_assoc refl in
    completes_more (g ++ (34 ∷ (escaped w ++ 92 ∷ []))) (34 ∷ [])
    (subst Completes whole (string_completes p base n ss g (w ++ 34 ∷ []) wants early is (content_more w 34 content quote_allowed)))
    (omega arith)

feed_ends : after_gap true (10 ∷ []) ≡ Some false
unfolding kind
feed_ends = refl

-- a comment that a line feed ends is a gap
pub comment_front : (p : Phase) (base : ℕ) (n : List ℕ) (ss : List Scalar) (g c : List ℕ) → IsFront base p n ss g
    → after_gap false c ≡ Some true → IsFront base p n ss ((g ++ c) ++ 10 ∷ [])
comment_front p base n ss g c is comment =
    subst (IsFront base p n ss) (sym (append_assoc g c (10 ∷ [])))
    (front_gap p base n ss g (c ++ 10 ∷ []) is (gap_append false c (10 ∷ []) true false comment feed_ends))

word_completes : (p : Phase) (base : ℕ) (n : List ℕ) (ss : List Scalar) (g w : List ℕ) → IsEarly p ss → IsFront base p n ss g
    → IsWordFor p w → Completes (g ++ w)
word_completes Item base n ss g w early is word =
    completes (g ++ w) (front_completes Named base w ss (g ++ w) (front_name base g w ss is word))
word_completes Wanted base n ss g w early is word = digits_complete Wanted base n ss g w refl early is word
word_completes (First q) base n ss g w early is word = digits_complete (First q) base n ss g w refl early is word
word_completes (Next q) base n ss g w early is word = digits_complete (Next q) base n ss g w refl early is word
word_completes Named base n ss g w early is word = absurd word
word_completes (After q) base n ss g w early is word = absurd word

-- wherever the reader is, the front goes on to a whole entry
pub tail_completes : (m : Mode) (p : Phase) (base : ℕ) (w n : List ℕ) (ss : List Scalar) (f : List ℕ) → IsEarly p ss
    → IsTail base m p w n ss f → Completes f
tail_completes Between p base w n ss f early (none, is) = completes f (front_completes p base n ss f is)
tail_completes Comment p base w n ss f early (g, c, none, is, comment, parts) =
    subst Completes (sym parts) (completes_more (g ++ c) (10 ∷ [])
    (completes ((g ++ c) ++ 10 ∷ []) (front_completes p base n ss ((g ++ c) ++ 10 ∷ []) (comment_front p base n ss g c is comment)))
    (omega arith))
tail_completes Word p base w n ss f early (g, is, word, parts) = subst Completes (sym parts) (word_completes p base n ss g w early is word)
tail_completes (String q) p base w n ss f early (g, is, wants, content, parts, place) =
    subst Completes (sym parts) (string_completes p base n ss g w wants early is content)
tail_completes (Escape q) p base w n ss f early (g, is, wants, content, parts, place) =
    subst Completes (sym parts) (escape_completes p base n ss g w wants early is content)

pub stands_begins : (x : List ℕ) (r : Reader) → Stands Any x r → Begins x
stands_begins x r h =
    let (closing, e, some, entry, assign) = tail_completes r.mode r.phase h.base r.word r.name r.scalars h.front h.early h.tail in
    viable x r.entries r.braces h.front closing e assign entry (λ y. tt) h.upto
