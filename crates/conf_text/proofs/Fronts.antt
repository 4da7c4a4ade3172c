-- What the bytes since the last entry are, by what may come next, and how they go on.
use Rattle.std.proofs.Common.{◌≡◌, ℕ, ◌+◌, ◌<◌, List, [], ◌∷◌, ◌++◌, length, refl, sym, subst, append_assoc, arith, inl, inr}
use Rattle.std.proofs.lemmas.List.{append-nil}
use Rattle.conf_text.specs.Bytes.{kind}
use Rattle.conf_text.specs.declared.reader.Phase.{Phase}
use Rattle.conf_text.specs.declared.reader.Phase.TheVariants.{Item, Named, Wanted, First, Next, After}
use Rattle.conf_text.specs.Entries.{Scalar, Text, One, Many, ConfEntry, Open, Close, Assign}
use Rattle.conf_text.specs.Grammar.{IsName, EndsWord, IsGap, IsScalar, IsArray, IsHeader, IsKey, IsEntry}
use Rattle.conf_text.specs.Refusals.{IsBeforeScalar}
use Rattle.conf_text.proofs.Pieces.{gap_gap, array_gap, array_more}

-- an array of one scalar or more
abbrev pub IsList : List ℕ → List Scalar → Type 0
IsList list [] = ⊥
IsList list (s ∷ ss) = IsArray list (s ∷ ss)

-- the bytes since the last entry, which end in a gap; base is the place where they begin
abbrev pub IsFront : ℕ → Phase → List ℕ → List Scalar → List ℕ → Type 0
IsFront base Item n ss f = IsGap f
IsFront base Named n ss f = IsHeader f n
IsFront base Wanted n ss f = IsKey f n
IsFront base (First q) n ss f = (key g : List ℕ) × IsKey key n × IsGap g × (f ≡ key ++ (91 ∷ g)) × (q ≡ base + length key)
IsFront base (Next q) n ss f =
    (key list g : List ℕ) × IsKey key n × IsList list ss × IsGap g × (f ≡ key ++ (91 ∷ (list ++ (44 ∷ g)))) × (q ≡ base + length key)
IsFront base (After q) n ss f = (key list : List ℕ) × IsKey key n × IsList list ss × (f ≡ key ++ (91 ∷ list)) × (q ≡ base + length key)

-- no scalar was read
abbrev pub IsEarly : Phase → List Scalar → Type 0
IsEarly (Next q) ss = Unit {0}
IsEarly (After q) ss = Unit {0}
IsEarly _ ss = ss ≡ []

list_gap : (ss : List Scalar) (list k : List ℕ) → IsList list ss → IsGap k → IsList (list ++ k) ss
list_gap [] list k h gap = absurd h
list_gap (s ∷ ss) list k h gap = array_gap ss s list k h gap

key_gap : (key n k : List ℕ) → IsKey key n → IsGap k → IsKey (key ++ k) n
key_gap key n k (g, h, i, gap, name, gap_h, gap_i, parts) gap_k =
    (g, h, i ++ k, gap, name, gap_h, gap_gap i k gap_i gap_k, rw parts (simp append_assoc refl))

-- a gap more
pub front_gap : (p : Phase) (base : ℕ) (n : List ℕ) (ss : List Scalar) (f k : List ℕ) → IsFront base p n ss f → IsGap k
    → IsFront base p n ss (f ++ k)
front_gap Item base n ss f k h gap = gap_gap f k h gap
front_gap Named base n ss f k (g, h, gap_g, name, gap_h, parts) gap =
    (g, h ++ k, gap_g, name, gap_gap h k gap_h gap, rw parts (simp append_assoc refl))
front_gap Wanted base n ss f k h gap = key_gap f n k h gap
front_gap (First q) base n ss f k (key, g, key_is, gap_g, parts, place) gap =
    (key, g ++ k, key_is, gap_gap g k gap_g gap, rw parts (simp append_assoc refl), place)
front_gap (Next q) base n ss f k (key, list, g, key_is, list_is, gap_g, parts, place) gap =
    (key, list, g ++ k, key_is, list_is, gap_gap g k gap_g gap, rw parts (simp append_assoc refl), place)
front_gap (After q) base n ss f k (key, list, key_is, list_is, parts, place) gap =
    (key, list ++ k, key_is, list_gap ss list k list_is gap, rw parts (simp append_assoc refl), place)

-- a name
pub front_name : (base : ℕ) (g w : List ℕ) (ss : List Scalar) → IsGap g → IsName w → IsFront base Named w ss (g ++ w)
front_name base g w ss gap name = (g, [], gap, name, refl, simp append-nil refl)

-- `=` after it
pub front_equals : (base : ℕ) (n : List ℕ) (ss : List Scalar) (f : List ℕ) → IsFront base Named n ss f
    → IsFront base Wanted n ss (f ++ 61 ∷ [])
front_equals base n ss f (g, h, gap, name, gap_h, parts) = (g, h, [], gap, name, gap_h, refl, rw parts refl)

-- a bracket
pub front_bracket : (base : ℕ) (n : List ℕ) (ss : List Scalar) (f : List ℕ) → IsFront base Wanted n ss f
    → IsFront base (First (base + length f)) n ss (f ++ 91 ∷ [])
front_bracket base n ss f key = (f, [], key, refl, refl, refl)

-- a comma
pub front_comma : (base q : ℕ) (n : List ℕ) (ss : List Scalar) (f : List ℕ) → IsFront base (After q) n ss f
    → IsFront base (Next q) n ss (f ++ 44 ∷ [])
front_comma base q n ss f (key, list, key_is, list_is, parts, place) =
    (key, list, [], key_is, list_is, refl, rw parts (simp append_assoc refl), place)

list_more : (ss : List Scalar) (t : Scalar) (list k y : List ℕ) → IsList list ss → IsGap k → IsScalar y t
    → IsList (list ++ (44 ∷ (k ++ y))) (ss ++ t ∷ [])
list_more [] t list k y h gap last = absurd h
list_more (s ∷ ss) t list k y h gap last = array_more ss s t list k y h gap last

-- a scalar of an array
pub front_first : (base q : ℕ) (n : List ℕ) (ss : List Scalar) (s : Scalar) (f x : List ℕ) → IsEarly (First q) ss
    → IsFront base (First q) n ss f → IsScalar x s → IsFront base (After q) n (ss ++ s ∷ []) (f ++ x)
front_first base q n ss s f x none (key, g, key_is, gap, parts, place) scalar = (
  key,
  g ++ x,
  key_is,
  subst (λ z. IsList (g ++ x) (z ++ s ∷ [])) (sym none) (g, x, [], gap, scalar, refl, simp append-nil refl),
  rw parts (simp append_assoc refl),
  place,
)

pub front_next : (base q : ℕ) (n : List ℕ) (ss : List Scalar) (s : Scalar) (f x : List ℕ) → IsFront base (Next q) n ss f → IsScalar x s
    → IsFront base (After q) n (ss ++ s ∷ []) (f ++ x)
front_next base q n ss s f x (key, list, g, key_is, list_is, gap, parts, place) scalar =
    (key, list ++ (44 ∷ (g ++ x)), key_is, list_more ss s list g x list_is gap scalar, rw parts (simp append_assoc refl), place)

-- ---- whole entries

pub entry_open : (base : ℕ) (n : List ℕ) (ss : List Scalar) (f : List ℕ) → IsFront base Named n ss f → IsEntry (f ++ 123 ∷ []) (Open n)
entry_open base n ss f header = (f, header, refl)

pub entry_close : (base : ℕ) (n : List ℕ) (ss : List Scalar) (f : List ℕ) → IsFront base Item n ss f → IsEntry (f ++ 125 ∷ []) Close
entry_close base n ss f gap = (f, gap, refl)

pub entry_scalar : (base : ℕ) (n : List ℕ) (ss : List Scalar) (s : Scalar) (f x : List ℕ) → IsFront base Wanted n ss f → IsScalar x s
    → IsEntry (f ++ x) (Assign n (One s))
entry_scalar base n ss s f x key scalar = (f, x, key, scalar, refl)

pub entry_empty : (base q : ℕ) (n : List ℕ) (ss : List Scalar) (f : List ℕ) → IsFront base (First q) n ss f
    → IsEntry (f ++ 93 ∷ []) (Assign n (Many []))
entry_empty base q n ss f (key, g, key_is, gap, parts, place) =
    (key, 91 ∷ (g ++ 93 ∷ []), key_is, (g, gap, refl), rw parts (simp append_assoc refl))

entry_of_list : (ss : List Scalar) (key list n : List ℕ) → IsKey key n → IsList list ss
    → IsEntry (key ++ (91 ∷ (list ++ 93 ∷ []))) (Assign n (Many ss))
entry_of_list [] key list n key_is h = absurd h
entry_of_list (s ∷ ss) key list n key_is h = (key, 91 ∷ (list ++ 93 ∷ []), key_is, (list, h, refl), refl)

pub entry_list : (base q : ℕ) (n : List ℕ) (ss : List Scalar) (f : List ℕ) → IsFront base (After q) n ss f
    → IsEntry (f ++ 93 ∷ []) (Assign n (Many ss))
entry_list base q n ss f (key, list, key_is, list_is, parts, place) =
    let whole : key ++ (91 ∷ (list ++ 93 ∷ [])) ≡ f ++ 93 ∷ [] = rw parts (simp append_assoc refl) in
    subst (λ z. IsEntry z (Assign n (Many ss))) whole (entry_of_list ss key list n key_is list_is)

-- ---- what comes before a scalar

pub before_first : (base q : ℕ) (n : List ℕ) (ss : List Scalar) (f : List ℕ) → IsEarly (First q) ss → IsFront base (First q) n ss f
    → IsBeforeScalar f n ss
before_first base q n ss f none (key, g, key_is, gap, parts, place) =
    subst (λ z. IsBeforeScalar f n z) (sym none) (inr (key, g, key_is, gap, parts))

pub before_wanted : (base : ℕ) (n : List ℕ) (ss : List Scalar) (f : List ℕ) → IsEarly Wanted ss → IsFront base Wanted n ss f
    → IsBeforeScalar f n ss
before_wanted base n ss f none key = subst (λ z. IsBeforeScalar f n z) (sym none) (inl key)

pub before_next : (base q : ℕ) (n : List ℕ) (ss : List Scalar) (f : List ℕ) → IsFront base (Next q) n ss f → IsBeforeScalar f n ss
before_next base q n [] f (key, list, g, key_is, list_is, gap, parts, place) = absurd list_is
before_next base q n (s ∷ ss) f (key, list, g, key_is, list_is, gap, parts, place) =
    (key, list, g, key_is, list_is, gap, rw parts (simp append_assoc refl))

-- ---- how each goes on to a whole entry

-- the entry is a key
abbrev pub IsAssign : ConfEntry → Type 0
IsAssign (Assign n v) = Unit {0}
IsAssign _ = ⊥

abbrev pub Completes : List ℕ → Type 0
Completes f = (closing : List ℕ) × (e : ConfEntry) × (0 < length closing) × IsEntry (f ++ closing) e × IsAssign e

-- the same, by bytes that end a word
abbrev pub CompletesMark : List ℕ → Type 0
CompletesMark f = (b : ℕ) × (more : List ℕ) × (e : ConfEntry) × (EndsWord (b ∷ [])) × IsEntry (f ++ (b ∷ more)) e × IsAssign e

pub completes : (f : List ℕ) → CompletesMark f → Completes f
completes f (b, more, e, ends, entry, assign) = (b ∷ more, e, omega arith, entry, assign)

blank_ends : EndsWord (32 ∷ [])
unfolding kind
blank_ends = refl

quote_ends : EndsWord (34 ∷ [])
unfolding kind
quote_ends = refl

bracket_ends : EndsWord (91 ∷ [])
unfolding kind
bracket_ends = refl

bracket_close_ends : EndsWord (93 ∷ [])
unfolding kind
bracket_close_ends = refl

equals_ends : EndsWord (61 ∷ [])
unfolding kind
equals_ends = refl

blank_gap : IsGap (32 ∷ [])
unfolding kind
blank_gap = refl

letter_name : IsName (97 ∷ [])
unfolding kind
letter_name = (λ e. absurd cc, refl)

nothing : IsScalar (34 ∷ 34 ∷ []) (Text [])
nothing = (refl, refl)

regrouped : (f a b : List ℕ) (e : ConfEntry) → IsEntry ((f ++ a) ++ b) e → IsEntry (f ++ (a ++ b)) e
regrouped f a b e h = subst (λ z. IsEntry z e) (append_assoc f a b) h

wanted_completes : (base : ℕ) (n : List ℕ) (ss : List Scalar) (f : List ℕ) → IsFront base Wanted n ss f
    → IsEntry (f ++ (91 ∷ 93 ∷ [])) (Assign n (Many []))
wanted_completes base n ss f h =
    regrouped f (91 ∷ []) (93 ∷ []) (Assign n (Many []))
    (entry_empty base (base + length f) n ss (f ++ 91 ∷ []) (front_bracket base n ss f h))

named_completes : (base : ℕ) (n : List ℕ) (ss : List Scalar) (f : List ℕ) → IsFront base Named n ss f
    → IsEntry (f ++ (61 ∷ 91 ∷ 93 ∷ [])) (Assign n (Many []))
named_completes base n ss f h =
    regrouped f (61 ∷ []) (91 ∷ 93 ∷ []) (Assign n (Many [])) (wanted_completes base n ss (f ++ 61 ∷ []) (front_equals base n ss f h))

pub front_completes : (p : Phase) (base : ℕ) (n : List ℕ) (ss : List Scalar) (f : List ℕ) → IsFront base p n ss f → CompletesMark f
front_completes Item base n ss f h =
    let gap = front_gap Item base n ss f (32 ∷ []) h blank_gap in
    let named = front_name base (f ++ 32 ∷ []) (97 ∷ []) ss gap letter_name in
    let entry = named_completes base (97 ∷ []) ss ((f ++ 32 ∷ []) ++ 97 ∷ []) named in
    let same : ((f ++ 32 ∷ []) ++ 97 ∷ []) ++ (61 ∷ 91 ∷ 93 ∷ []) ≡ f ++ (32 ∷ 97 ∷ 61 ∷ 91 ∷ 93 ∷ []) = simp append_assoc refl in
    (32, 97 ∷ 61 ∷ 91 ∷ 93 ∷ [], Assign (97 ∷ []) (Many []), blank_ends, subst (λ z. IsEntry z (Assign (97 ∷ []) (Many []))) same entry, tt)
front_completes Named base n ss f h = (61, 91 ∷ 93 ∷ [], Assign n (Many []), equals_ends, named_completes base n ss f h, tt)
front_completes Wanted base n ss f h = (91, 93 ∷ [], Assign n (Many []), bracket_ends, wanted_completes base n ss f h, tt)
front_completes (First q) base n ss f h = (93, [], Assign n (Many []), bracket_close_ends, entry_empty base q n ss f h, tt)
front_completes (Next q) base n ss f h =
    let after = front_next base q n ss (Text []) f (34 ∷ 34 ∷ []) h nothing in
    let entry = entry_list base q n (ss ++ Text [] ∷ []) (f ++ (34 ∷ 34 ∷ [])) after in (
      34,
      34 ∷ 93 ∷ [],
      Assign n (Many (ss ++ Text [] ∷ [])),
      quote_ends,
      regrouped f (34 ∷ 34 ∷ []) (93 ∷ []) (Assign n (Many (ss ++ Text [] ∷ []))) entry,
      tt,
    )
front_completes (After q) base n ss f h = (93, [], Assign n (Many ss), bracket_close_ends, entry_list base q n ss f h, tt)
