-- The bytes read so far are these entries, with these braces open, and a front of the next entry.
use Rattle.std.proofs.Common.{◌≡◌, ℕ, suc, true, List, [], ◌∷◌, ◌++◌, length, refl, sym, ap, subst, ◌∙◌, append_assoc}
use Rattle.std.proofs.lemmas.List.{append-nil}
use Rattle.conf_text.specs.Bytes.{kind}
use Rattle.conf_text.specs.Entries.{Number, Text, One, Many, ConfEntry, Open, Close, Assign, after_entry, after_entries, sections}
use Rattle.conf_text.specs.Entries.{IsBalanced, KeepsLimits, keeps_limits, keep_limits}
use Rattle.conf_text.specs.Grammar.{EndsWord, IsEntry, EndsEntry, BeginsWith}
use Rattle.conf_text.specs.Refusals.{Begins}
use Rattle.conf_text.proofs.Depth.{sections-append, after-append, balanced_after, after_assign, after_open, after_close, section_balanced}
use Rattle.conf_text.proofs.Fronts.{IsAssign}
use Rattle.conf_text.proofs.Pieces.{begins_more, begins_both}
use Rattle.conf_text.proofs.Steps.{both_true}

-- the bytes up to the innermost open brace are these entries, and the brace before it stands at that place
abbrev pub IsStack : List ℕ → List ℕ → List ConfEntry → Type 0
IsStack [] opened done = (opened ≡ []) × (done ≡ [])
IsStack (p ∷ bs) opened done =
    (before inside : List ℕ) × (outer inner : List ConfEntry) × (name : List ℕ) × IsStack bs before outer × (opened ≡ before ++ inside)
    × (done ≡ outer ++ (inner ++ Open name ∷ [])) × IsBalanced inner × (suc p ≡ length opened)
    × ((y : List ℕ) → BeginsWith (inside ++ y) (inner ++ Open name ∷ []) y)

pub record Upto (P : List ℕ → Type 0) (x : List ℕ) (es : List ConfEntry) (bs : List ℕ) (front : List ℕ) : Type 0 where
  pub opened : List ℕ
  pub inside : List ℕ
  pub done : List ConfEntry
  pub inner : List ConfEntry
  pub bytes : x ≡ opened ++ inside
  pub listed : es ≡ done ++ inner
  pub stack : IsStack bs opened done
  pub balanced : IsBalanced inner
  pub entries : (y : List ℕ) → P y → BeginsWith (inside ++ y) inner (front ++ y)
  pub limits : KeepsLimits es

-- any bytes
abbrev pub Any : List ℕ → Type 0
Any y = Unit {0}

-- a byte more
pub grow : {P : List ℕ → Type 0} (x : List ℕ) (b : ℕ) (es : List ConfEntry) (bs front : List ℕ) → ((y : List ℕ) → P (b ∷ y))
    → Upto P x es bs front → Upto Any (x ++ b ∷ []) es bs (front ++ b ∷ [])
grow x b es bs front may h = record {
  opened = h.opened;
  inside = h.inside ++ b ∷ [];
  done = h.done;
  inner = h.inner;
  bytes = ap (λ z. z ++ b ∷ []) h.bytes ∙ append_assoc h.opened h.inside (b ∷ []);
  listed = h.listed;
  stack = h.stack;
  balanced = h.balanced;
  entries = λ y any. subst (λ z. BeginsWith z h.inner ((front ++ b ∷ []) ++ y)) (sym (append_assoc h.inside (b ∷ []) y))
      (subst (λ z. BeginsWith (h.inside ++ (b ∷ y)) h.inner z) (sym (append_assoc front (b ∷ []) y)) (h.entries (b ∷ y) (may y)));
  limits = h.limits;
}

pub limits_more : (given : List (List (List ℕ))) (es : List ConfEntry) (e : ConfEntry) → keep_limits given es ≡ true
    → keeps_limits (after_entries given es) e ≡ true → keep_limits given (es ++ e ∷ []) ≡ true
limits_more given [] e h k = rw k refl
limits_more given (f ∷ es) e h k =
    let both = both_true (keeps_limits given f) (keep_limits (after_entry given f) es) h in
    rw both.0 (limits_more (after_entry given f) es e both.1 k)

-- an entry of one value more
pub assigned : {P Q : List ℕ → Type 0} (x : List ℕ) (es : List ConfEntry) (bs front : List ℕ) (e : ConfEntry) → IsAssign e → IsEntry front e
    → ((y : List ℕ) → Q y → P y) → ((y : List ℕ) → Q y → EndsEntry e y) → keeps_limits (sections es) e ≡ true → Upto P x es bs front
    → Upto Q x (es ++ e ∷ []) bs []
assigned x es bs front (Open n) is entry may ends keeps h = absurd is
assigned x es bs front Close is entry may ends keeps h = absurd is
assigned x es bs front (Assign n v) is entry may ends keeps h = record {
  opened = h.opened;
  inside = h.inside;
  done = h.done;
  inner = h.inner ++ Assign n v ∷ [];
  bytes = h.bytes;
  listed = ap (λ z. z ++ Assign n v ∷ []) h.listed ∙ append_assoc h.done h.inner (Assign n v ∷ []);
  stack = h.stack;
  balanced = ap length (sections-append ([] ∷ []) h.inner (Assign n v)) ∙ after_assign (sections h.inner) n v 0 h.balanced;
  entries = λ y q. begins_more h.inner (h.inside ++ y) front y (Assign n v) (h.entries y (may y q)) entry (ends y q);
  limits = limits_more ([] ∷ []) es (Assign n v) h.limits keeps;
}

-- a section begins
pub opened_section : (x : List ℕ) (es : List ConfEntry) (bs front : List ℕ) (n : List ℕ) (p : ℕ) → IsEntry front (Open n) → suc p ≡ length x
    → keeps_limits (sections es) (Open n) ≡ true → Upto Any x es bs front → Upto Any x (es ++ Open n ∷ []) (p ∷ bs) []
opened_section x es bs front n p entry place keeps h =
    let listed : es ++ Open n ∷ [] ≡ h.done ++ (h.inner ++ Open n ∷ []) =
    ap (λ z. z ++ Open n ∷ []) h.listed ∙ append_assoc h.done h.inner (Open n ∷ []) in
    record {
      opened = x;
      inside = [];
      done = es ++ Open n ∷ [];
      inner = [];
      bytes = sym (append-nil x);
      listed = sym (append-nil (es ++ Open n ∷ []));
      stack = (
        h.opened,
        h.inside,
        h.done,
        h.inner,
        n,
        h.stack,
        h.bytes,
        listed,
        h.balanced,
        place,
        λ y. begins_more h.inner (h.inside ++ y) front y (Open n) (h.entries y tt) entry tt,
      );
      balanced = refl;
      entries = λ y any. refl;
      limits = limits_more ([] ∷ []) es (Open n) h.limits keeps;
    }

-- the innermost section ends
pub closed_section : (x : List ℕ) (es : List ConfEntry) (p : ℕ) (bs front : List ℕ) → IsEntry front Close → Upto Any x es (p ∷ bs) front
    → Upto Any x (es ++ Close ∷ []) bs []
closed_section x es p bs front entry h = closed h.stack
  where
    closed : IsStack (p ∷ bs) h.opened h.done → Upto Any x (es ++ Close ∷ []) bs []
    closed (before, inside, outer, inner, name, stack, opened_is, done_is, balanced, place, begun) =
        let more : (y : List ℕ) → BeginsWith ((inside ++ h.inside) ++ y) ((inner ++ Open name ∷ []) ++ (h.inner ++ Close ∷ [])) y = λ y.
        subst (λ z. BeginsWith z ((inner ++ Open name ∷ []) ++ (h.inner ++ Close ∷ [])) y) (sym (append_assoc inside h.inside y))
        (begins_both (inner ++ Open name ∷ []) (h.inner ++ Close ∷ []) (inside ++ (h.inside ++ y)) (h.inside ++ y) y (begun (h.inside ++ y))
        (begins_more h.inner (h.inside ++ y) front y Close (h.entries y tt) entry tt)) in
        record {
          opened = before;
          inside = inside ++ h.inside;
          done = outer;
          inner = (inner ++ Open name ∷ []) ++ (h.inner ++ Close ∷ []);
          bytes = h.bytes ∙ ap (λ z. z ++ h.inside) opened_is ∙ append_assoc before inside h.inside;
          listed = ap (λ z. z ++ Close ∷ []) (h.listed ∙ ap (λ z. z ++ h.inner) done_is) ∙ simp append_assoc refl;
          stack = stack;
          balanced = section_balanced inner h.inner name balanced h.balanced;
          entries = λ y any. more y;
          limits = limits_more ([] ∷ []) es Close h.limits refl;
        }

-- ---- what this says of the whole

pub stack_begins : (bs opened : List ℕ) (done : List ConfEntry) (y : List ℕ) → IsStack bs opened done → BeginsWith (opened ++ y) done y
stack_begins [] opened done y (opened_is, done_is) = rw (opened_is, done_is) refl
stack_begins (p ∷ bs) opened done y (before, inside, outer, inner, name, stack, opened_is, done_is, balanced, place, begun) =
    subst (λ z. BeginsWith (z ++ y) done y) (sym opened_is) (subst (λ z. BeginsWith ((before ++ inside) ++ y) z y) (sym done_is)
    (subst (λ z. BeginsWith z (outer ++ (inner ++ Open name ∷ [])) y) (sym (append_assoc before inside y))
    (begins_both outer (inner ++ Open name ∷ []) (before ++ (inside ++ y)) (inside ++ y) y
    (stack_begins bs before outer (inside ++ y) stack) (begun y))))

stack_depth : (bs opened : List ℕ) (done : List ConfEntry) → IsStack bs opened done → length (sections done) ≡ suc (length bs)
stack_depth [] opened done (opened_is, done_is) = rw done_is refl
stack_depth (p ∷ bs) opened done (before, inside, outer, inner, name, stack, opened_is, done_is, balanced, place, begun) =
    let below = stack_depth bs before outer stack in
    let whole = balanced_after inner (sections outer) (length bs) balanced below in
    ap (λ z. length (sections z)) done_is ∙ ap length (after-append ([] ∷ []) outer (inner ++ Open name ∷ []))
    ∙ ap length (sections-append (sections outer) inner (Open name))
    ∙ after_open (after_entries (sections outer) inner) name (length bs) whole

pub upto_begins : {P : List ℕ → Type 0} (x : List ℕ) (es : List ConfEntry) (bs front y : List ℕ) → Upto P x es bs front → P y
    → BeginsWith (x ++ y) es (front ++ y)
upto_begins x es bs front y h may =
    subst (λ z. BeginsWith (z ++ y) es (front ++ y)) (sym h.bytes)
    (subst (λ z. BeginsWith ((h.opened ++ h.inside) ++ y) z (front ++ y)) (sym h.listed)
    (subst (λ z. BeginsWith z (h.done ++ h.inner) (front ++ y)) (sym (append_assoc h.opened h.inside y))
    (begins_both h.done h.inner (h.opened ++ (h.inside ++ y)) (h.inside ++ y) (front ++ y)
    (stack_begins bs h.opened h.done (h.inside ++ y) h.stack) (h.entries y may))))

pub upto_depth : {P : List ℕ → Type 0} (x : List ℕ) (es : List ConfEntry) (bs front : List ℕ) → Upto P x es bs front
    → length (sections es) ≡ suc (length bs)
upto_depth x es bs front h =
    ap (λ z. length (sections z)) h.listed ∙ ap length (after-append ([] ∷ []) h.done h.inner)
    ∙ balanced_after h.inner (sections h.done) (length bs) h.balanced (stack_depth bs h.opened h.done h.stack)

-- ---- some text begins so

abbrev closers : List ℕ → List ℕ
closers [] = []
closers (b ∷ bs) = 125 ∷ closers bs

abbrev closes : List ℕ → List ConfEntry
closes [] = []
closes (b ∷ bs) = Close ∷ closes bs

closed_all : (bs : List ℕ) → BeginsWith (closers bs) (closes bs) []
closed_all [] = refl
closed_all (b ∷ bs) = (125 ∷ [], closers bs, refl, ([], refl, refl), tt, closed_all bs)

closers_end : (bs : List ℕ) → EndsWord (closers bs)
unfolding kind
closers_end [] = tt
closers_end (b ∷ bs) = refl

entry_ends : (e : ConfEntry) (bs : List ℕ) → IsAssign e → EndsEntry e (closers bs)
entry_ends (Assign n (One (Number k))) bs is = closers_end bs
entry_ends (Assign n (One (Text s))) bs is = tt
entry_ends (Assign n (Many ss)) bs is = tt
entry_ends (Open n) bs is = absurd is
entry_ends Close bs is = absurd is

closed_depth : (bs : List ℕ) (given : List (List (List ℕ))) → length given ≡ suc (length bs) → length (after_entries given (closes bs)) ≡ 1
closed_depth [] given h = h
closed_depth (b ∷ bs) given h = closed_depth bs (after_entry given Close) (after_close given (length bs) h)

assign_depth : (e : ConfEntry) (given : List (List (List ℕ))) (n : ℕ) → IsAssign e → length given ≡ suc n
    → length (after_entry given e) ≡ suc n
assign_depth (Assign name v) given n is h = after_assign given name v n h
assign_depth (Open name) given n is h = absurd is
assign_depth Close given n is h = absurd is

-- the front goes on to a whole entry, and the braces are closed
pub viable : {P : List ℕ → Type 0} (x : List ℕ) (es : List ConfEntry) (bs front closing : List ℕ) (e : ConfEntry) → IsAssign e
    → IsEntry (front ++ closing) e → ((y : List ℕ) → P (closing ++ y)) → Upto P x es bs front → Begins x
viable x es bs front closing e is entry may h =
    let more = closing ++ closers bs in
    let begun =
    subst (λ z. BeginsWith (x ++ more) es z) (sym (append_assoc front closing (closers bs)))
    (upto_begins x es bs front more h (may (closers bs))) in
    let first = begins_more es (x ++ more) (front ++ closing) (closers bs) e begun entry (entry_ends e bs is) in
    let depth = assign_depth e (sections es) (length bs) is (upto_depth x es bs front h) in (
      more,
      (es ++ e ∷ []) ++ closes bs,
      record {
        gap = [];
        entries = begins_both (es ++ e ∷ []) (closes bs) (x ++ more) (closers bs) [] first (closed_all bs);
        ended = refl;
        balanced =
            ap length (after-append ([] ∷ []) (es ++ e ∷ []) (closes bs))
            ∙ ap (λ g. length (after_entries g (closes bs))) (sections-append ([] ∷ []) es e)
            ∙ closed_depth bs (after_entry (sections es) e) depth;
      },
    )

-- a section may begin, however many are open
pub opens_begins : {P : List ℕ → Type 0} (x : List ℕ) (es : List ConfEntry) (bs front n : List ℕ) → IsEntry (front ++ 123 ∷ []) (Open n)
    → ((y : List ℕ) → P (123 ∷ y)) → Upto P x es bs front → Begins (x ++ 123 ∷ [])
opens_begins x es bs front n entry may h =
    let rest = 125 ∷ closers bs in
    let begun =
    subst (λ z. BeginsWith (x ++ (123 ∷ rest)) es z) (sym (append_assoc front (123 ∷ []) rest))
    (upto_begins x es bs front (123 ∷ rest) h (may rest)) in
    let first = begins_more es (x ++ (123 ∷ rest)) (front ++ 123 ∷ []) rest (Open n) begun entry tt in
    let depth = after_open (sections es) n (length bs) (upto_depth x es bs front h) in (
      rest,
      (es ++ Open n ∷ []) ++ closes (0 ∷ bs),
      record {
        gap = [];
        entries =
            subst (λ z. BeginsWith z ((es ++ Open n ∷ []) ++ closes (0 ∷ bs)) []) (sym (append_assoc x (123 ∷ []) rest))
            (begins_both (es ++ Open n ∷ []) (closes (0 ∷ bs)) (x ++ (123 ∷ rest)) rest [] first (closed_all (0 ∷ bs)));
        ended = refl;
        balanced =
            ap length (after-append ([] ∷ []) (es ++ Open n ∷ []) (closes (0 ∷ bs)))
            ∙ ap (λ g. length (after_entries g (closes (0 ∷ bs)))) (sections-append ([] ∷ []) es (Open n))
            ∙ closed_depth (0 ∷ bs) (after_entry (sections es) (Open n)) depth;
      },
    )
