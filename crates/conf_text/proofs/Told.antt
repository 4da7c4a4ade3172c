-- What a text is read as: its tree, or the cause why it has none.
use Rattle.std.proofs.Common.{◌≡◌, ℕ, ◌+◌, ◌-◌, ◌<◌, ◌≤◌, Bool, true, false, List, [], ◌∷◌, ◌++◌, length, Option, Some, None, Result, Ok}
use Rattle.std.proofs.Common.{Err, refl, sym, ap, subst, ◌∙◌, append_assoc, length-append, arith, inl, inr}
use Rattle.std.proofs.Math.Seq.{take-length}
use Rattle.std.proofs.lemmas.List.{append-nil}
use Rattle.std.specs.Prelude.{◌⊎◌, IsSome}
use Rattle.conf_text.specs.declared.refusal.ConfRefusal.{ConfRefusal}
use Rattle.conf_text.specs.declared.refusal.ConfRefusal.TheVariants.{NoMemory, BadToken, Unclosed, DuplicateKey, NumberTooWide, TooDeep}
use Rattle.conf_text.specs.declared.reader.Mode.{Mode}
use Rattle.conf_text.specs.declared.reader.Mode.TheVariants.{Between, Comment, Word, String, Escape}
use Rattle.conf_text.specs.declared.reader.Phase.{Phase}
use Rattle.conf_text.specs.declared.reader.Phase.TheVariants.{Item, Named, Wanted, First, Next, After}
use Rattle.conf_text.specs.Entries.{Scalar, Text, ConfEntry, Open}
use Rattle.conf_text.specs.Grammar.{after_gap, IsGap, IsLastGap, IsContent, escaped, EndsWord, IsArray, IsKey, BeginsWith, IsTextOf}
use Rattle.conf_text.specs.Refusals.{Begins, IsBeforeScalar, IsOpenString, IsOpenArray, IsOpenBrace}
use Rattle.conf_text.specs.ReaderViews.{IsWordOf}
use Rattle.conf_text.specs.Reader.{Reader, Read, ◌>>=◌, start, step, outcome, reading, ended, ended_in, ended_between, word_ended}
use Rattle.conf_text.proofs.Fronts.{IsFront, IsEarly, IsList, Completes, completes, before_first, before_wanted, before_next}
use Rattle.conf_text.proofs.Fronts.{front_completes}
use Rattle.conf_text.specs.Bytes.{kind}
use Rattle.conf_text.proofs.Pieces.{gap_gap, gap_append, array_gap, array_more, begins_suffix}
use Rattle.conf_text.proofs.Standing.{IsTail, Stands, RefusedEarly, front_begins, stands_begins, tail_completes}
use Rattle.conf_text.proofs.Stepping.{Good}
use Rattle.conf_text.proofs.Steps.{in_state, wants_scalar}
use Rattle.conf_text.proofs.Upto.{Upto, Any, IsStack, stack_begins, upto_begins, upto_depth}
use Rattle.conf_text.proofs.WordStepping.{Ended, step_good, word_ended_good}

-- what is open at the end
abbrev pub IsOpen : List ℕ → ℕ → Type 0
IsOpen text p = IsOpenString text p ⊎ (IsOpenArray text p ⊎ IsOpenBrace text p)

abbrev pub Tells : ℕ → List ℕ → Result (List ConfEntry) ConfRefusal → Type 0
Tells from text (Ok es) = IsTextOf text es
Tells from text (Err (Unclosed p)) = Begins text × IsOpen text p
Tells from text (Err NoMemory) = ⊥
Tells from text (Err (BadToken p)) = RefusedEarly from text (BadToken p)
Tells from text (Err (DuplicateKey p)) = RefusedEarly from text (DuplicateKey p)
Tells from text (Err (NumberTooWide p)) = RefusedEarly from text (NumberTooWide p)
Tells from text (Err (TooDeep p)) = RefusedEarly from text (TooDeep p)

tells_told : (from : ℕ) (text : List ℕ) (e : ConfRefusal) → RefusedEarly from text e → Tells from text (Err e)
tells_told from text NoMemory h = h
tells_told from text (BadToken p) h = h
tells_told from text (Unclosed p) h = absurd h
tells_told from text (DuplicateKey p) h = h
tells_told from text (NumberTooWide p) h = h
tells_told from text (TooDeep p) h = h

-- from an earlier place
tells_before : (from n : ℕ) (text : List ℕ) (a : Result (List ConfEntry) ConfRefusal) → from ≤ n → Tells n text a → Tells from text a
tells_before from n text (Ok es) less h = h
tells_before from n text (Err (Unclosed p)) less h = h
tells_before from n text (Err NoMemory) less h = h
tells_before from n text (Err (BadToken p)) less (here, inside, begins) = (omega (arith, less, here), inside, begins)
tells_before from n text (Err (DuplicateKey p)) less h = h
tells_before from n text (Err (NumberTooWide p)) less h = h
tells_before from n text (Err (TooDeep p)) less h = h

-- ---- the end of the text

-- the text ends here
at_end : {P : List ℕ → Type 0} (x : List ℕ) (es : List ConfEntry) (bs front : List ℕ) → Upto P x es bs front → P [] → BeginsWith x es front
at_end x es bs front h may =
    subst (λ z. BeginsWith z es front) (append-nil x)
    (subst (λ z. BeginsWith (x ++ []) es z) (append-nil front) (upto_begins x es bs front [] h may))

before_scalar : (p : Phase) (base : ℕ) (n : List ℕ) (ss : List Scalar) (f : List ℕ) → wants_scalar p ≡ true → IsEarly p ss
    → IsFront base p n ss f → IsBeforeScalar f n ss
before_scalar Wanted base n ss f wants early is = before_wanted base n ss f early is
before_scalar (First q) base n ss f wants early is = before_first base q n ss f early is
before_scalar (Next q) base n ss f wants early is = before_next base q n ss f is
before_scalar _ base n ss f wants early is = absurd cc

string_open : (x : List ℕ) (q : ℕ) (m : Mode) (p : Phase) (w n : List ℕ) (ss : List Scalar) (es : List ConfEntry) (bs g inside : List ℕ)
    → (h : Stands Any x (in_state m p w n ss es bs)) → wants_scalar p ≡ true → IsFront h.base p n ss g → IsContent w
    → (inside ≡ escaped w) ⊎ (inside ≡ escaped w ++ 92 ∷ []) → h.front ≡ g ++ (34 ∷ inside) → q ≡ h.base + length g → IsOpenString x q
string_open x q m p w n ss es bs g inside h wants is content inside_is parts place = record {
  before = es;
  front = g;
  inside = inside;
  entries = subst (BeginsWith x es) parts (at_end x es bs h.front h.upto tt);
  name = n;
  earlier = ss;
  front_is = before_scalar p h.base n ss g wants h.early is;
  content = w;
  content_is = content;
  inside_is = inside_is;
  place_is = omega (arith, place, h.place, ap length parts, length-append g (34 ∷ inside));
}

-- the bytes of an array so far, with what would close it
abbrev ArrayPart : ℕ → ℕ → List ℕ → List ℕ → Type 0
ArrayPart base q n f =
    (key inside closing : List ℕ) × (scalars : List Scalar) × IsKey key n × (f ≡ key ++ (91 ∷ inside)) × IsArray (inside ++ closing) scalars
    × (q ≡ base + length key)

-- the place of the array's bracket
abbrev in_array : Phase → Option ℕ
in_array (First q) = Some q
in_array (Next q) = Some q
in_array (After q) = Some q
in_array _ = None

list_closed : (ss : List Scalar) (list c t : List ℕ) → IsList list ss → IsGap (c ++ t) → IsArray ((list ++ c) ++ t) ss
list_closed [] list c t h gap = absurd h
list_closed (s ∷ ss) list c t h gap = subst (λ z. IsArray z (s ∷ ss)) (sym (append_assoc list c t)) (array_gap ss s list (c ++ t) h gap)

next_closed : (ss : List Scalar) (list g c t : List ℕ) → IsList list ss → IsGap g → IsGap (c ++ t)
    → IsArray ((list ++ (44 ∷ (g ++ c))) ++ (t ++ (34 ∷ 34 ∷ []))) (ss ++ Text [] ∷ [])
next_closed [] list g c t h gap more = absurd h
next_closed (s ∷ ss) list g c t h gap more =
    let whole : list ++ (44 ∷ ((g ++ (c ++ t)) ++ (34 ∷ 34 ∷ []))) ≡ (list ++ (44 ∷ (g ++ c))) ++ (t ++ (34 ∷ 34 ∷ [])) =
    simp append_assoc refl in
    subst (λ z. IsArray z (s ∷ (ss ++ Text [] ∷ []))) whole
    (array_more ss s (Text []) list (g ++ (c ++ t)) (34 ∷ 34 ∷ []) h (gap_gap g (c ++ t) gap more) (refl, refl))

array_part : (p : Phase) (q base : ℕ) (n : List ℕ) (ss : List Scalar) (f g c t : List ℕ) → in_array p ≡ Some q → IsFront base p n ss g
    → IsGap (c ++ t) → f ≡ g ++ c → ArrayPart base q n f
array_part (First a) q base n ss f g c t e (key, k, key_is, gap, parts, place) more whole =
    let same : a ≡ q = cc in (
      key,
      k ++ c,
      t,
      [],
      key_is,
      whole ∙ ap (λ z. z ++ c) parts ∙ append_assoc key (91 ∷ k) c,
      subst IsGap (sym (append_assoc k c t)) (gap_gap k (c ++ t) gap more),
      sym same ∙ place,
    )
array_part (Next a) q base n ss f g c t e (key, list, k, key_is, list_is, gap, parts, place) more whole =
    let same : a ≡ q = cc in (
      key,
      list ++ (44 ∷ (k ++ c)),
      t ++ (34 ∷ 34 ∷ []),
      ss ++ Text [] ∷ [],
      key_is,
      whole ∙ ap (λ z. z ++ c) parts ∙ simp append_assoc refl,
      next_closed ss list k c t list_is gap more,
      sym same ∙ place,
    )
array_part (After a) q base n ss f g c t e (key, list, key_is, list_is, parts, place) more whole =
    let same : a ≡ q = cc in (
      key,
      list ++ c,
      t,
      ss,
      key_is,
      whole ∙ ap (λ z. z ++ c) parts ∙ simp append_assoc refl,
      list_closed ss list c t list_is more,
      sym same ∙ place,
    )
array_part _ q base n ss f g c t e is more whole = absurd cc

array_open : {P : List ℕ → Type 0} (x : List ℕ) (q base : ℕ) (n : List ℕ) (es : List ConfEntry) (bs front : List ℕ) → Upto P x es bs front
    → P [] → base + length front ≡ length x → ArrayPart base q n front → IsOpenArray x q
array_open x q base n es bs front h may place (key, inside, closing, scalars, key_is, parts, array, at) = record {
  before = es;
  key = key;
  inside = inside;
  entries = subst (BeginsWith x es) parts (at_end x es bs front h may);
  name = n;
  key_is = key_is;
  closing = closing;
  scalars = scalars;
  array = array;
  place_is = omega (arith, at, place, ap length parts, length-append key (91 ∷ inside));
}

brace_open : {P : List ℕ → Type 0} (x : List ℕ) (p : ℕ) (es : List ConfEntry) (bs front : List ℕ) → Upto P x es (p ∷ bs) front → P []
    → Completes front → IsOpenBrace x p
brace_open x p es bs front h may (closing, e, some, entry, assign) = open_ h.stack
  where
    open_ : IsStack (p ∷ bs) h.opened h.done → IsOpenBrace x p
    open_ (before, inside, outer, inner, name, stack, opened_is, done_is, balanced, place, begun) =
        let listed : h.done ≡ (outer ++ inner) ++ Open name ∷ [] = done_is ∙ sym (append_assoc outer inner (Open name ∷ [])) in
        record {
          before = outer ++ inner;
          name = name;
          inside = h.inside;
          entries =
              subst (λ z. BeginsWith z ((outer ++ inner) ++ Open name ∷ []) h.inside) (sym h.bytes)
              (subst (λ z. BeginsWith (h.opened ++ h.inside) z h.inside) listed
              (stack_begins (p ∷ bs) h.opened h.done h.inside h.stack));
          inner = h.inner;
          rest = front;
          whole =
              subst (λ z. BeginsWith z h.inner front) (append-nil h.inside)
              (subst (λ z. BeginsWith (h.inside ++ []) h.inner z) (append-nil front) (h.entries [] may));
          balanced = h.balanced;
          closing = closing;
          entry = e;
          less = (some, entry);
          place_is = omega (arith, place, ap length h.bytes, length-append h.opened h.inside);
        }

-- the end between tokens: a front, with a comment that may be open
record Rest (P : List ℕ → Type 0) (x : List ℕ) (p : Phase) (n : List ℕ) (ss : List Scalar) (es : List ConfEntry) (bs : List ℕ) : Type 0
  where
    base : ℕ
    front : List ℕ
    upto : Upto P x es bs front
    may : P []
    place : base + length front ≡ length x
    g : List ℕ
    c : List ℕ
    t : List ℕ
    is : IsFront base p n ss g
    gap : IsGap (c ++ t)
    last : IsLastGap c
    whole : front ≡ g ++ c
    completes : Completes front
    begins : Begins x

item_last : (g c : List ℕ) → IsGap g → IsLastGap c → IsLastGap (g ++ c)
item_last g c gap last = last_of (after_gap false c) refl last
  where
    last_of : (o : Option Bool) → after_gap false c ≡ o → IsSome o → IsLastGap (g ++ c)
    last_of None e h = absurd cc
    last_of (Some d) e h = subst IsSome (sym (gap_append false g c false d gap e)) refl

between_told : {P : List ℕ → Type 0} (p : Phase) (x n : List ℕ) (ss : List Scalar) (es : List ConfEntry) (bs : List ℕ) (r : Reader)
    → r.entries ≡ es → Rest P x p n ss es bs → Tells (length x) x (ended_between p bs (length x) r)
between_told (First q) x n ss es bs r e h = (
  h.begins,
  inr (inl (array_open x q h.base n es bs h.front h.upto h.may h.place
      (array_part (First q) q h.base n ss h.front h.g h.c h.t refl h.is h.gap h.whole))),
)
between_told (Next q) x n ss es bs r e h = (
  h.begins,
  inr (inl (array_open x q h.base n es bs h.front h.upto h.may h.place
      (array_part (Next q) q h.base n ss h.front h.g h.c h.t refl h.is h.gap h.whole))),
)
between_told (After q) x n ss es bs r e h = (
  h.begins,
  inr (inl (array_open x q h.base n es bs h.front h.upto h.may h.place
      (array_part (After q) q h.base n ss h.front h.g h.c h.t refl h.is h.gap h.whole))),
)
between_told Item x n ss es (b ∷ bs) r e h = (h.begins, inr (inr (brace_open x b es bs h.front h.upto h.may h.completes)))
between_told Named x n ss es (b ∷ bs) r e h = (h.begins, inr (inr (brace_open x b es bs h.front h.upto h.may h.completes)))
between_told Wanted x n ss es (b ∷ bs) r e h = (h.begins, inr (inr (brace_open x b es bs h.front h.upto h.may h.completes)))
between_told Item x n ss es [] r e h =
    subst (IsTextOf x) (sym e) (record {
      spelled =
          record {
            gap = h.front;
            entries = at_end x es [] h.front h.upto h.may;
            ended = subst IsLastGap (sym h.whole) (item_last h.g h.c h.is h.last);
            balanced = upto_depth x es [] h.front h.upto;
          };
      limits = h.upto.limits;
    })
between_told Named x n ss es [] r e h = (omega arith, omega arith, subst Begins (sym (take-length x)) h.begins)
between_told Wanted x n ss es [] r e h = (omega arith, omega arith, subst Begins (sym (take-length x)) h.begins)

rest_between : {P : List ℕ → Type 0} (x : List ℕ) (p : Phase) (w n : List ℕ) (ss : List Scalar) (es : List ConfEntry) (bs : List ℕ)
    → ((y : List ℕ) → EndsWord y → P y) → Stands P x (in_state Between p w n ss es bs) → Rest P x p n ss es bs
rest_between x p w n ss es bs weak h = record {
  base = h.base;
  front = h.front;
  upto = h.upto;
  may = weak [] tt;
  place = h.place;
  g = h.front;
  c = [];
  t = [];
  is = h.tail.1;
  gap = refl;
  last = refl;
  whole = sym (append-nil h.front);
  completes = completes h.front (front_completes p h.base n ss h.front h.tail.1);
  begins = front_begins x p h.base n ss es bs h.front weak h.upto h.tail.1;
}

some_last : (c : List ℕ) (d : Bool) → after_gap false c ≡ Some d → IsLastGap c
some_last c d e = rw e refl

feed_gap : (c : List ℕ) → after_gap false c ≡ Some true → IsGap (c ++ 10 ∷ [])
unfolding kind
feed_gap c e = gap_append false c (10 ∷ []) true false e refl

rest_comment : (x : List ℕ) (p : Phase) (w n : List ℕ) (ss : List Scalar) (es : List ConfEntry) (bs : List ℕ)
    → (h : Stands Any x (in_state Comment p w n ss es bs)) → IsTail h.base Comment p w n ss h.front → Rest Any x p n ss es bs
rest_comment x p w n ss es bs h (g, c, none, is, comment, parts) = record {
  base = h.base;
  front = h.front;
  upto = h.upto;
  may = tt;
  place = h.place;
  g = g;
  c = c;
  t = 10 ∷ [];
  is = is;
  gap = feed_gap c comment;
  last = some_last c true comment;
  whole = parts;
  completes = tail_completes Comment p h.base w n ss h.front h.early h.tail;
  begins = stands_begins x (in_state Comment p w n ss es bs) h;
}

word_told : (x : List ℕ) (a : Read) → Ended x a → Tells (length x) x (a >>= λ s. ended_between s.phase s.braces (length x) s)
word_told x (Ok s) (h, is) =
    between_told s.phase x s.name s.scalars s.entries s.braces s refl
    (rest_between x s.phase [] s.name s.scalars s.entries s.braces (λ y q. q) (subst (Stands EndsWord x) is h))
word_told x (Err e) told = subst (λ z. Tells (length x) z (Err e)) (append-nil x) (tells_told (length x) (x ++ []) e (told [] tt))

string_told : (x : List ℕ) (q : ℕ) (p : Phase) (w n : List ℕ) (ss : List Scalar) (es : List ConfEntry) (bs : List ℕ)
    → (h : Stands Any x (in_state (String q) p w n ss es bs)) → IsTail h.base (String q) p w n ss h.front
    → Tells (length x) x (Err (Unclosed q))
string_told x q p w n ss es bs h (g, is, wants, content, parts, place) = (
  stands_begins x (in_state (String q) p w n ss es bs) h,
  inl (string_open x q (String q) p w n ss es bs g (escaped w) h wants is content (inl refl) parts place),
)

escape_told : (x : List ℕ) (q : ℕ) (p : Phase) (w n : List ℕ) (ss : List Scalar) (es : List ConfEntry) (bs : List ℕ)
    → (h : Stands Any x (in_state (Escape q) p w n ss es bs)) → IsTail h.base (Escape q) p w n ss h.front
    → Tells (length x) x (Err (Unclosed q))
escape_told x q p w n ss es bs h (g, is, wants, content, parts, place) = (
  stands_begins x (in_state (Escape q) p w n ss es bs) h,
  inl (string_open x q (Escape q) p w n ss es bs g (escaped w ++ 92 ∷ []) h wants is content (inr refl) parts place),
)

mode_told : (x : List ℕ) (m : Mode) (p : Phase) (w n : List ℕ) (ss : List Scalar) (es : List ConfEntry) (bs : List ℕ)
    → Stands Any x (in_state m p w n ss es bs) → Tells (length x) x (ended_in m (length x) (in_state m p w n ss es bs))
mode_told x Between p w n ss es bs h =
    between_told p x n ss es bs (in_state Between p w n ss es bs) refl (rest_between x p w n ss es bs (λ y q. tt) h)
mode_told x Comment p w n ss es bs h =
    between_told p x n ss es bs (in_state Comment p w n ss es bs) refl (rest_comment x p w n ss es bs h h.tail)
mode_told x Word p w n ss es bs h =
    word_told x (word_ended p (length x - length w) (in_state Word p w n ss es bs)) (word_ended_good p x w n ss es bs h h.tail)
mode_told x (String q) p w n ss es bs h = string_told x q p w n ss es bs h h.tail
mode_told x (Escape q) p w n ss es bs h = escape_told x q p w n ss es bs h h.tail

ended_told : (x : List ℕ) (at : ℕ) (r : Reader) → at ≡ length x → Stands Any x r → Tells (length x) x (ended at r)
unfolding ended
ended_told x at r same h =
    subst (λ m. Tells (length x) x (ended_in r.mode m r)) (sym same)
    (mode_told x r.mode r.phase r.word r.name r.scalars r.entries r.braces h)

-- ---- the whole text

goes_told : (x : List ℕ) (b at : ℕ) (y : List ℕ) (a : Read) → Good x b a
    → ((s : Reader) → Stands Any (x ++ b ∷ []) s → Tells (length (x ++ b ∷ [])) ((x ++ b ∷ []) ++ y) (outcome (at + 1) s y))
    → Tells (length x) (x ++ (b ∷ y)) (a >>= λ s. outcome (at + 1) s y)
goes_told x b at y (Ok s) h on =
    let less : length x ≤ length (x ++ b ∷ []) = omega (arith, length-append x (b ∷ [])) in
    tells_before (length x) (length (x ++ b ∷ [])) (x ++ (b ∷ y)) (outcome (at + 1) s y) less
    (subst (λ z. Tells (length (x ++ b ∷ [])) z (outcome (at + 1) s y)) (append_assoc x (b ∷ []) y) (on s h))
goes_told x b at y (Err e) told on = tells_told (length x) (x ++ (b ∷ y)) e (told y)

pub outcome_told : (y x : List ℕ) (at : ℕ) (r : Reader) → at ≡ length x → Stands Any x r → Tells (length x) (x ++ y) (outcome at r y)
unfolding outcome
outcome_told [] x at r same h = subst (λ z. Tells (length x) z (ended at r)) (sym (append-nil x)) (ended_told x at r same h)
outcome_told (b ∷ y) x at r same h =
    let next : at + 1 ≡ length (x ++ b ∷ []) = omega (arith, same, length-append x (b ∷ [])) in
    goes_told x b at y (step at b r) (step_good x b at r same h) (λ s stands. outcome_told y (x ++ b ∷ []) (at + 1) s next stands)

pub starts : Stands Any [] start
starts = record {
  base = 0;
  front = [];
  upto =
      record {
        opened = [];
        inside = [];
        done = [];
        inner = [];
        bytes = refl;
        listed = refl;
        stack = (refl, refl);
        balanced = refl;
        entries = λ y any. refl;
        limits = refl;
      };
  place = refl;
  fresh = tt;
  fit = refl;
  early = refl;
  tail = (refl, refl);
}

-- a text is read as its tree, or refused for a cause that it has
pub reading_told : (text : List ℕ) → Tells 0 text (reading text)
reading_told text = outcome_told text [] 0 start refl starts

-- ---- a bad byte stays one, whatever follows it

not_before : (y x : List ℕ) (at p : ℕ) (r : Reader) → at ≡ length x → Stands Any x r → outcome at r y ≡ Err (BadToken p) → length x ≤ p
not_before y x at p r same h e = (subst (Tells (length x) (x ++ y)) e (outcome_told y x at r same h)).0

both_bad : (x : List ℕ) (b p : ℕ) (a : Read) (f g : Reader → Result (List ConfEntry) ConfRefusal) → Good x b a
    → ((s : Reader) → Stands Any (x ++ b ∷ []) s → f s ≡ Err (BadToken p) → g s ≡ Err (BadToken p)) → (a >>= f) ≡ Err (BadToken p)
    → (a >>= g) ≡ Err (BadToken p)
both_bad x b p (Ok s) f g h on e = on s h e
both_bad x b p (Err d) f g h on e = e

same_after : (front rest more x : List ℕ) (at p : ℕ) (r : Reader) → at ≡ length x → Stands Any x r
    → outcome at r (front ++ rest) ≡ Err (BadToken p) → p < at + length front → outcome at r (front ++ more) ≡ Err (BadToken p)
unfolding outcome
same_after [] rest more x at p r same h e less = absurd (omega (arith, less, same, not_before rest x at p r same h e))
same_after (b ∷ front) rest more x at p r same h e less =
    let within : p < at + 1 + length front = omega (arith, less) in
    let next : at + 1 ≡ length (x ++ b ∷ []) = omega (arith, same, length-append x (b ∷ [])) in
    both_bad x b p (step at b r) (λ s. outcome (at + 1) s (front ++ rest)) (λ s. outcome (at + 1) s (front ++ more))
    (step_good x b at r same h)
    (λ s stands d. same_after front rest more (x ++ b ∷ []) (at + 1) p s next stands d within) e

pub bad_after : (front rest more : List ℕ) (p : ℕ) → reading (front ++ rest) ≡ Err (BadToken p) → p < length front
    → reading (front ++ more) ≡ Err (BadToken p)
bad_after front rest more p e less = same_after front rest more [] 0 p start refl starts e (omega (arith, less))

-- ---- the word at hand

pub word_stands : (x : List ℕ) (r : Reader) → Stands Any x r → IsWordOf r.mode x r.word
word_stands x r h = word_of r.mode h.tail
  where
    word_of : (m : Mode) → IsTail h.base m r.phase r.word r.name r.scalars h.front → IsWordOf m x r.word
    word_of Word (g, is, word, parts) =
        let (u, whole) = begins_suffix r.entries x h.front (at_end x r.entries r.braces h.front h.upto tt) in
        (u ++ g, whole ∙ ap (λ z. u ++ z) parts ∙ sym (append_assoc u g r.word))
    word_of Between tail = tt
    word_of Comment tail = tt
    word_of (String q) tail = tt
    word_of (Escape q) tail = tt
