-- What the reader says of a text that ends within an entry.
use Rattle.std.proofs.Common.{◌≡◌, ℕ, ◌+◌, ◌<◌, Bool, true, false, cond, List, [], ◌∷◌, ◌++◌, length, Some, Result, Err, refl, sym, ap}
use Rattle.std.proofs.Common.{subst, ◌∙◌, append_assoc, length-append, arith, inl, inr}
use Rattle.std.proofs.lemmas.List.{append-nil}
use Rattle.std.proofs.lemmas.List.Folds.{list_all-append}
use Rattle.std.specs.Prelude.{◌⊎◌}
use Rattle.std.specs.Option.{option_and_then}
use Rattle.std.specs.List.{list_all}
use Rattle.std.specs.Str.Parse.{digits_value}
use Rattle.conf_text.specs.declared.refusal.ConfRefusal.{ConfRefusal}
use Rattle.conf_text.specs.declared.refusal.ConfRefusal.TheVariants.{Unclosed}
use Rattle.conf_text.specs.declared.kind.Kind.TheVariants.{Quote, Backslash, Comma}
use Rattle.conf_text.specs.Bytes.{kind}
use Rattle.conf_text.specs.declared.reader.Mode.TheVariants.{Between, String, Escape}
use Rattle.conf_text.specs.declared.reader.Phase.{Phase}
use Rattle.conf_text.specs.declared.reader.Phase.TheVariants.{Item, Named, Wanted, First, Next, After}
use Rattle.conf_text.specs.Entries.{Scalar, Number, Text, One, ConfEntry, Assign}
use Rattle.conf_text.specs.Grammar.{is_digit, is_allowed, is_escaped, gap_byte, after_gap, IsGap, IsContent, escaped, EndsWord, IsScalar}
use Rattle.conf_text.specs.Grammar.{IsArray}
use Rattle.conf_text.specs.Reader.{Reader, with_scalar, outcome, ended, ended_between}
use Rattle.conf_text.proofs.Accepted.{between, in_array, gap_arrives, byte_arrives, gap_ends, mark_ends, kind-comma}
use Rattle.conf_text.proofs.Runs.{Stops, Goes, stops_before, scalar_goes, array_scalar}
use Rattle.conf_text.proofs.Steps.{in_state, gap_mode, wants_scalar, both_true, and_then_some, Reaches, reaches_step, step_is, gap_reaches}
use Rattle.conf_text.proofs.Steps.{letter_reaches, kind-quote, kind-backslash, quote_begins, EndsScalar}

-- ---- lists in two ways

abbrev pub Cut : List ℕ → List ℕ → List ℕ → List ℕ → Type 0
Cut a b x y = ((c : List ℕ) × (x ≡ a ++ c) × (b ≡ c ++ y)) ⊎ ((c : List ℕ) × (a ≡ x ++ c) × (y ≡ c ++ b))

cut_more : (k l : ℕ) (a b x y : List ℕ) → k ≡ l → Cut a b x y → Cut (k ∷ a) b (l ∷ x) y
cut_more k l a b x y e (inl (c, one, two)) = inl (c, cc, two)
cut_more k l a b x y e (inr (c, one, two)) = inr (c, cc, two)

-- one of them ends first
pub cut : (a b x y : List ℕ) → a ++ b ≡ x ++ y → Cut a b x y
cut [] b x y e = inl (x, refl, e)
cut (k ∷ a) b [] y e = inr (k ∷ a, refl, sym e)
cut (k ∷ a) b (l ∷ x) y e =
    let head : k ≡ l = cc in
    let tail : a ++ b ≡ x ++ y = cc in
    cut_more k l a b x y head (cut a b x y tail)

pub no_head : (k : ℕ) (a b : List ℕ) → [] ≡ k ∷ (a ++ b) → ⊥
no_head k a b e = absurd cc

-- a part with more to come is before the last mark
pub before_mark : (a b x : List ℕ) (k : ℕ) → a ++ b ≡ x ++ k ∷ [] → 0 < length b → (c : List ℕ) × (x ≡ a ++ c)
before_mark a b x k e some = found (cut a b x (k ∷ []) e)
  where
    found : Cut a b x (k ∷ []) → (c : List ℕ) × (x ≡ a ++ c)
    found (inl (c, one, two)) = (c, one)
    found (inr ([], one, two)) = ([], sym (append-nil x) ∙ sym one ∙ sym (append-nil a))
    found (inr (l ∷ c, one, two)) = absurd (omega (arith, ap length two, length-append c b, some))

pub ends_front : (a b : List ℕ) → EndsWord (a ++ b) → EndsWord a
ends_front [] b h = tt
ends_front (k ∷ a) b h = h

pub all_front : (p : ℕ → Bool) (a b : List ℕ) → list_all p (a ++ b) ≡ true → list_all p a ≡ true
all_front p a b h = (both_true (list_all p a) (list_all p b) (sym (list_all-append p a b) ∙ h)).0

-- ---- what is said at the end

-- a byte at which a string begins, or with the flag an array too
abbrev pub InnerByte : Bool → ℕ → Type 0
InnerByte false b = b ≡ 34
InnerByte true b = (b ≡ 34) ⊎ (b ≡ 91)

abbrev pub InnerAt : Bool → ℕ → List ℕ → Result (List ConfEntry) ConfRefusal → Type 0
InnerAt c at text a = (z : List ℕ) × (b : ℕ) × (y : List ℕ) × InnerByte c b × (text ≡ z ++ (b ∷ y)) × (a ≡ Err (Unclosed (at + length z)))

-- what is at this place is open at the end, or the reader stops before, or something inside is open
abbrev pub Halts : Bool → ℕ → ℕ → Reader → List ℕ → Type 0
Halts c q at r text = (outcome at r text ≡ Err (Unclosed q)) ⊎ (Stops true at r text ⊎ InnerAt c at text (outcome at r text))

abbrev pub unclosed : ℕ → Result (List ConfEntry) ConfRefusal
unclosed p = Err (Unclosed p)

pub halts_joined : (c : Bool) (q at m : ℕ) (r s : Reader) (chunk y : List ℕ) → Reaches at r (chunk ++ y) m s y → Halts c q m s y
    → Halts c q at r (chunk ++ y)
halts_joined c q at m r s chunk y one (inl e) = inl (one.same ∙ e)
halts_joined c q at m r s chunk y one (inr (inl stops)) = inr (inl (stops_before true one stops))
halts_joined c q at m r s chunk y one (inr (inr (z, b, w, byte, parts, e))) =
    let place : m + length z ≡ at + length (chunk ++ z) = omega (arith, one.place, length-append chunk y, length-append chunk z) in
    inr (inr (chunk ++ z, b, w, byte, ap (λ k. chunk ++ k) parts ∙ sym (append_assoc chunk z (b ∷ w)), one.same ∙ e ∙ ap unclosed place))

pub halts_then : (c : Bool) (q at : ℕ) (r s : Reader) (chunk y : List ℕ) → Goes true at r (chunk ++ y) s y → ((m : ℕ) → Halts c q m s y)
    → Halts c q at r (chunk ++ y)
halts_then c q at r s chunk y (inl (m, one)) on = halts_joined c q at m r s chunk y one (on m)
halts_then c q at r s chunk y (inr stops) on = inr (inl stops)

-- where the text ends between tokens, what is at this place is open
abbrev pub IsOpenAt : Phase → List ℕ → ℕ → Type 0
IsOpenAt (First a) bs q = a ≡ q
IsOpenAt (Next a) bs q = a ≡ q
IsOpenAt (After a) bs q = a ≡ q
IsOpenAt _ [] q = ⊥
IsOpenAt _ (b ∷ bs) q = b ≡ q

ended_open : (p : Phase) (bs : List ℕ) (q at : ℕ) (r : Reader) → IsOpenAt p bs q → ended_between p bs at r ≡ Err (Unclosed q)
ended_open (First a) bs q at r e = ap unclosed e
ended_open (Next a) bs q at r e = ap unclosed e
ended_open (After a) bs q at r e = ap unclosed e
ended_open Item [] q at r e = absurd e
ended_open Named [] q at r e = absurd e
ended_open Wanted [] q at r e = absurd e
ended_open Item (b ∷ bs) q at r e = ap unclosed e
ended_open Named (b ∷ bs) q at r e = ap unclosed e
ended_open Wanted (b ∷ bs) q at r e = ap unclosed e

gap_ended : (d : Bool) (p : Phase) (q at : ℕ) (n : List ℕ) (ss : List Scalar) (es : List ConfEntry) (bs : List ℕ) → IsOpenAt p bs q
    → outcome at (in_state (gap_mode d) p [] n ss es bs) [] ≡ Err (Unclosed q)
unfolding outcome ended
gap_ended true p q at n ss es bs open_ = ended_open p bs q at _ open_
gap_ended false p q at n ss es bs open_ = ended_open p bs q at _ open_

pub nothing_halts : (c : Bool) (p : Phase) (q at : ℕ) (n : List ℕ) (ss : List Scalar) (es : List ConfEntry) (bs : List ℕ) → IsOpenAt p bs q
    → Halts c q at (between p n ss es bs) []
nothing_halts c p q at n ss es bs open_ = inl (gap_ended false p q at n ss es bs open_)

gap_part : (f : Bool) (a b : List ℕ) (e : Bool) → after_gap f (a ++ b) ≡ Some e → (d : Bool) × (after_gap f a ≡ Some d)
gap_part f [] b e h = (f, refl)
gap_part f (k ∷ a) b e h =
    let (next, first, others) = and_then_some (λ z. after_gap z (a ++ b)) (gap_byte f (kind k)) e h in
    let (d, more) = gap_part next a b e others in
    (d, ap (option_and_then (λ z. after_gap z a)) first ∙ more)

-- a part of a gap
pub gap_halts : (c : Bool) (p : Phase) (q at : ℕ) (n : List ℕ) (ss : List Scalar) (es : List ConfEntry) (bs a b : List ℕ) → IsOpenAt p bs q
    → IsGap (a ++ b) → Halts c q at (between p n ss es bs) a
gap_halts c p q at n ss es bs a b open_ gap =
    let (d, part) = gap_part false a b false gap in
    let one = gap_reaches false a [] at p [] n ss es bs d part in
    subst (Halts c q at (between p n ss es bs)) (append-nil a)
    (halts_joined c q at (at + length a) (between p n ss es bs) (in_state (gap_mode d) p [] n ss es bs) a [] one
    (inl (gap_ended d p q (at + length a) n ss es bs open_)))

-- ---- scalars in part

string_ended : (at q : ℕ) (p : Phase) (w n : List ℕ) (ss : List Scalar) (es : List ConfEntry) (bs : List ℕ)
    → outcome at (in_state (String q) p w n ss es bs) [] ≡ Err (Unclosed q)
unfolding outcome ended
string_ended at q p w n ss es bs = refl

escape_ended : (at q : ℕ) (p : Phase) (w n : List ℕ) (ss : List Scalar) (es : List ConfEntry) (bs : List ℕ)
    → outcome at (in_state (Escape q) p w n ss es bs) [] ≡ Err (Unclosed q)
unfolding outcome ended
escape_ended at q p w n ss es bs = refl

-- the rest of a string, from any word and place
abbrev pub StringOpen : ℕ → Phase → List ℕ → List Scalar → List ConfEntry → List ℕ → List ℕ → Type 0
StringOpen q p n ss es bs c = (at : ℕ) (w : List ℕ) → outcome at (in_state (String q) p w n ss es bs) c ≡ Err (Unclosed q)

letter_part : (f : Bool) (b : ℕ) (s c e : List ℕ) (q : ℕ) (p : Phase) (n : List ℕ) (ss : List Scalar) (es : List ConfEntry) (bs : List ℕ)
    → is_escaped (kind b) ≡ f → is_allowed (kind b) ≡ true → cond f (92 ∷ b ∷ escaped s) (b ∷ escaped s) ≡ c ++ e
    → ((d : List ℕ) → escaped s ≡ d ++ e → StringOpen q p n ss es bs d) → StringOpen q p n ss es bs c
letter_part f b s [] e q p n ss es bs mark allowed same on = λ at w. string_ended at q p w n ss es bs
letter_part true b s (k ∷ []) e q p n ss es bs mark allowed same on = λ at w.
    let first : 92 ≡ k = cc in
    let one =
    reaches_step at 92 (in_state (String q) p w n ss es bs) (in_state (Escape q) p w n ss es bs) []
    (step_is (String q) Backslash 92 at (in_state (String q) p w n ss es bs) refl kind-backslash) in
    subst (λ z. outcome at (in_state (String q) p w n ss es bs) (z ∷ []) ≡ Err (Unclosed q)) first
    (one.same ∙ escape_ended (at + 1) q p w n ss es bs)
letter_part true b s (k ∷ l ∷ c) e q p n ss es bs mark allowed same on = λ at w.
    let first : 92 ≡ k = cc in
    let second : b ≡ l = cc in
    let others : escaped s ≡ c ++ e = cc in
    let (m, one) = letter_reaches true b c at q p w n ss es bs allowed mark in
    subst (λ z. outcome at (in_state (String q) p w n ss es bs) (z ∷ l ∷ c) ≡ Err (Unclosed q)) first
    (subst (λ z. outcome at (in_state (String q) p w n ss es bs) (92 ∷ z ∷ c) ≡ Err (Unclosed q)) second
    (one.same ∙ on c others m (w ++ b ∷ [])))
letter_part false b s (k ∷ c) e q p n ss es bs mark allowed same on = λ at w.
    let first : b ≡ k = cc in
    let others : escaped s ≡ c ++ e = cc in
    let (m, one) = letter_reaches false b c at q p w n ss es bs allowed mark in
    subst (λ z. outcome at (in_state (String q) p w n ss es bs) (z ∷ c) ≡ Err (Unclosed q)) first (one.same ∙ on c others m (w ++ b ∷ []))

pub string_part : (s c e : List ℕ) (q : ℕ) (p : Phase) (n : List ℕ) (ss : List Scalar) (es : List ConfEntry) (bs : List ℕ) → IsContent s
    → escaped s ≡ c ++ e → StringOpen q p n ss es bs c
string_part [] [] e q p n ss es bs content same = λ at w. string_ended at q p w n ss es bs
string_part [] (k ∷ c) e q p n ss es bs content same = absurd (no_head k c e same)
string_part (b ∷ s) c e q p n ss es bs content same =
    let (first, others) = both_true (is_allowed (kind b)) (list_all (λ b. is_allowed (kind b)) s) content in
    letter_part (is_escaped (kind b)) b s c e q p n ss es bs refl first same (λ d more. string_part s d e q p n ss es bs others more)

pub quote_reaches : (p : Phase) (at : ℕ) (rest n : List ℕ) (ss : List Scalar) (es : List ConfEntry) (bs : List ℕ) → wants_scalar p ≡ true
    → Reaches at (between p n ss es bs) (34 ∷ rest) (at + 1) (in_state (String at) p [] n ss es bs) rest
quote_reaches p at rest n ss es bs wants =
    reaches_step at 34 (between p n ss es bs) (in_state (String at) p [] n ss es bs) rest
    (step_is Between Quote 34 at (between p n ss es bs) refl kind-quote ∙ quote_begins p at n ss es bs wants)

inner_quote : (c : Bool) → InnerByte c 34
inner_quote true = inl refl
inner_quote false = refl

quote_halts : (f : Bool) (p : Phase) (q at : ℕ) (s c e n : List ℕ) (ss : List Scalar) (es : List ConfEntry) (bs : List ℕ)
    → wants_scalar p ≡ true → IsContent s → escaped s ≡ c ++ e → Halts f q at (between p n ss es bs) (34 ∷ c)
quote_halts f p q at s c e n ss es bs wants content same =
    let one = quote_reaches p at c n ss es bs wants in
    let place : at ≡ at + 0 = omega arith in
    inr (inr ([], 34, c, inner_quote f, refl, one.same ∙ string_part s c e at p n ss es bs content same (at + 1) [] ∙ ap unclosed place))

scalar_ended : (p : Phase) (q at : ℕ) (s : Scalar) (n : List ℕ) (ss : List Scalar) (es : List ConfEntry) (bs : List ℕ)
    → wants_scalar p ≡ true → IsOpenAt p bs q → outcome at (with_scalar p (between p n ss es bs) s) [] ≡ Err (Unclosed q)
scalar_ended Wanted q at s n ss es [] wants open_ = absurd open_
scalar_ended Wanted q at s n ss es (b ∷ bs) wants open_ = gap_ended false Item q at [] [] (es ++ Assign n (One s) ∷ []) (b ∷ bs) open_
scalar_ended (First a) q at s n ss es bs wants open_ = gap_ended false (After a) q at n (ss ++ s ∷ []) es bs open_
scalar_ended (Next a) q at s n ss es bs wants open_ = gap_ended false (After a) q at n (ss ++ s ∷ []) es bs open_
scalar_ended _ q at s n ss es bs wants open_ = absurd cc

ends_nothing : (s : Scalar) → EndsScalar s []
ends_nothing (Number k) = tt
ends_nothing (Text s) = tt

whole_halts : (f : Bool) (p : Phase) (q at : ℕ) (s : Scalar) (x n : List ℕ) (ss : List Scalar) (es : List ConfEntry) (bs : List ℕ)
    → wants_scalar p ≡ true → IsOpenAt p bs q → IsScalar x s → Halts f q at (between p n ss es bs) x
whole_halts f p q at s x n ss es bs wants open_ scalar =
    subst (Halts f q at (between p n ss es bs)) (append-nil x)
    (halts_then f q at (between p n ss es bs) (with_scalar p (between p n ss es bs) s) x []
    (scalar_goes true s x [] at p n ss es bs wants scalar (ends_nothing s)) (λ m. inl (scalar_ended p q m s n ss es bs wants open_)))

text_halts : (f : Bool) (p : Phase) (q at : ℕ) (s c d n : List ℕ) (ss : List Scalar) (es : List ConfEntry) (bs : List ℕ)
    → wants_scalar p ≡ true → IsOpenAt p bs q → IsContent s → Cut c d (escaped s) (34 ∷ []) → Halts f q at (between p n ss es bs) (34 ∷ c)
text_halts f p q at s c d n ss es bs wants open_ content (inl (e, one, two)) = quote_halts f p q at s c e n ss es bs wants content one
text_halts f p q at s c d n ss es bs wants open_ content (inr ([], one, two)) =
    quote_halts f p q at s c [] n ss es bs wants content (sym (append-nil (escaped s)) ∙ sym one ∙ sym (append-nil c))
text_halts f p q at s c d n ss es bs wants open_ content (inr (k ∷ [], one, two)) =
    let mark : k ≡ 34 = cc in
    let whole : 34 ∷ c ≡ 34 ∷ (escaped s ++ 34 ∷ []) = ap (λ z. 34 ∷ z) (one ∙ ap (λ z. escaped s ++ z ∷ []) mark) in
    whole_halts f p q at (Text s) (34 ∷ c) n ss es bs wants open_ (content, whole)
text_halts f p q at s c d n ss es bs wants open_ content (inr (k ∷ l ∷ e, one, two)) = absurd (omega (arith, ap length two))

-- a part of a scalar
pub scalar_halts : (f : Bool) (p : Phase) (q at : ℕ) (s : Scalar) (c d n : List ℕ) (ss : List Scalar) (es : List ConfEntry) (bs : List ℕ)
    → wants_scalar p ≡ true → IsOpenAt p bs q → IsScalar (c ++ d) s → Halts f q at (between p n ss es bs) c
scalar_halts f p q at s [] d n ss es bs wants open_ scalar = nothing_halts f p q at n ss es bs open_
scalar_halts f p q at (Number k) (b ∷ c) d n ss es bs wants open_ scalar =
    whole_halts f p q at (Number (digits_value 10 (b ∷ c))) (b ∷ c) n ss es bs wants open_
    ((λ e. absurd cc, all_front (λ b. is_digit (kind b)) (b ∷ c) d scalar.0.1), refl)
scalar_halts f p q at (Text s) (b ∷ c) d n ss es bs wants open_ (content, parts) =
    let first : 34 ≡ b = cc in
    let others : c ++ d ≡ escaped s ++ 34 ∷ [] = cc in
    subst (λ z. Halts f q at (between p n ss es bs) (z ∷ c)) first
    (text_halts f p q at s c d n ss es bs wants open_ content (cut c d (escaped s) (34 ∷ []) others))

-- ---- arrays in part

-- what follows a scalar and a gap of an array
abbrev Follows : Bool → ℕ → List ℕ → List ℕ → List ℕ → List Scalar → List ConfEntry → List ℕ → Type 0
Follows f q tail b n ss es bs = (k : List ℕ) → tail ≡ k ++ b → (m : ℕ) → Halts f q m (between (After q) n ss es bs) k

in_array_open : (c : Bool) (bs : List ℕ) (q : ℕ) → IsOpenAt (in_array c q) bs q
in_array_open true bs q = refl
in_array_open false bs q = refl

in_array_wants : (c : Bool) (q : ℕ) → wants_scalar (in_array c q) ≡ true
in_array_wants true q = refl
in_array_wants false q = refl

after_halts : (f : Bool) (q m : ℕ) (h tail l b n : List ℕ) (ss : List Scalar) (es : List ConfEntry) (bs : List ℕ) → IsGap h
    → Follows f q tail b n ss es bs → Cut l b h tail → Halts f q m (between (After q) n ss es bs) l
after_halts f q m h tail l b n ss es bs gap on (inl (o, one, two)) = gap_halts f (After q) q m n ss es bs l o refl (subst IsGap one gap)
after_halts f q m h tail l b n ss es bs gap on (inr (o, one, two)) =
    subst (Halts f q m (between (After q) n ss es bs)) (sym one)
    (halts_then f q m (between (After q) n ss es bs) (between (After q) n ss es bs) h o (inl (gap_arrives h o m (After q) n ss es bs gap))
    (λ k. on o two k))

ends_part : (s : Scalar) (l b : List ℕ) → EndsWord (l ++ b) → EndsScalar s l
ends_part (Number k) l b h = ends_front l b h
ends_part (Text s) l b h = tt

element_halts : (f c : Bool) (q m : ℕ) (s : Scalar) (x h tail k b n : List ℕ) (ss : List Scalar) (es : List ConfEntry) (bs : List ℕ)
    → IsScalar x s → IsGap h → EndsWord tail → Follows f q tail b n (ss ++ s ∷ []) es bs → Cut k b x (h ++ tail)
    → Halts f q m (between (in_array c q) n ss es bs) k
element_halts f c q m s x h tail k b n ss es bs scalar gap ends on (inl (l, one, two)) =
    scalar_halts f (in_array c q) q m s k l n ss es bs (in_array_wants c q) (in_array_open c bs q) (subst (λ z. IsScalar z s) one scalar)
element_halts f c q m s x h tail k b n ss es bs scalar gap ends on (inr (l, one, two)) =
    subst (Halts f q m (between (in_array c q) n ss es bs)) (sym one)
    (halts_then f q m (between (in_array c q) n ss es bs) (between (After q) n (ss ++ s ∷ []) es bs) x l
    (array_scalar true c q s x l m n ss es bs scalar (ends_part s l b (subst EndsWord two (gap_ends h tail gap ends))))
    (λ o. after_halts f q o h tail l b n (ss ++ s ∷ []) es bs gap on (cut l b h tail (sym two))))

spaced_halts : (f c : Bool) (q at : ℕ) (s : Scalar) (g x h tail a b n : List ℕ) (ss : List Scalar) (es : List ConfEntry) (bs : List ℕ)
    → IsGap g → IsScalar x s → IsGap h → EndsWord tail → Follows f q tail b n (ss ++ s ∷ []) es bs → Cut a b g (x ++ (h ++ tail))
    → Halts f q at (between (in_array c q) n ss es bs) a
spaced_halts f c q at s g x h tail a b n ss es bs gap scalar gap_h ends on (inl (k, one, two)) =
    gap_halts f (in_array c q) q at n ss es bs a k (in_array_open c bs q) (subst IsGap one gap)
spaced_halts f c q at s g x h tail a b n ss es bs gap scalar gap_h ends on (inr (k, one, two)) =
    subst (Halts f q at (between (in_array c q) n ss es bs)) (sym one)
    (halts_then f q at (between (in_array c q) n ss es bs) (between (in_array c q) n ss es bs) g k
    (inl (gap_arrives g k at (in_array c q) n ss es bs gap))
    (λ m. element_halts f c q m s x h tail k b n ss es bs scalar gap_h ends on (cut k b x (h ++ tail) (sym two))))

ended_follows : (f : Bool) (q : ℕ) (b n : List ℕ) (ss : List Scalar) (es : List ConfEntry) (bs : List ℕ) → Follows f q [] b n ss es bs
ended_follows f q b n ss es bs [] same m = nothing_halts f (After q) q m n ss es bs refl
ended_follows f q b n ss es bs (l ∷ k) same m = absurd (no_head l k b same)

comma_follows : (f : Bool) (q : ℕ) (rest b n : List ℕ) (ss : List Scalar) (es : List ConfEntry) (bs : List ℕ)
    → ((k : List ℕ) → rest ≡ k ++ b → (m : ℕ) → Halts f q m (between (Next q) n ss es bs) k) → Follows f q (44 ∷ rest) b n ss es bs
comma_follows f q rest b n ss es bs on [] same m = nothing_halts f (After q) q m n ss es bs refl
comma_follows f q rest b n ss es bs on (l ∷ k) same m =
    let first : 44 ≡ l = cc in
    let others : rest ≡ k ++ b = cc in
    subst (λ z. Halts f q m (between (After q) n ss es bs) (z ∷ k)) first
    (halts_then f q m (between (After q) n ss es bs) (between (Next q) n ss es bs) (44 ∷ []) k
    (inl (byte_arrives 44 Comma k m (between (After q) n ss es bs) (between (Next q) n ss es bs) refl kind-comma refl))
    (λ o. on k others o))

-- a part of an array
pub array_halts : (f c : Bool) (q at : ℕ) (scalars : List Scalar) (a b n : List ℕ) (ss : List Scalar) (es : List ConfEntry) (bs : List ℕ)
    → IsArray (a ++ b) scalars → Halts f q at (between (in_array c q) n ss es bs) a
array_halts f c q at [] a b n ss es bs gap = gap_halts f (in_array c q) q at n ss es bs a b (in_array_open c bs q) gap
array_halts f c q at (s ∷ []) a b n ss es bs (g, x, h, gap, scalar, gap_h, parts) =
    let whole : a ++ b ≡ g ++ (x ++ (h ++ [])) = parts ∙ simp (append_assoc, append-nil) refl in
    spaced_halts f c q at s g x h [] a b n ss es bs gap scalar gap_h tt (ended_follows f q b n (ss ++ s ∷ []) es bs)
    (cut a b g (x ++ (h ++ [])) whole)
array_halts f c q at (s ∷ t ∷ ts) a b n ss es bs (g, x, h, rest, gap, scalar, gap_h, others, parts) =
    let whole : a ++ b ≡ g ++ (x ++ (h ++ 44 ∷ rest)) = parts ∙ simp append_assoc refl in
    spaced_halts f c q at s g x h (44 ∷ rest) a b n ss es bs gap scalar gap_h (mark_ends 44 Comma rest kind-comma refl)
    (comma_follows f q rest b n (ss ++ s ∷ []) es bs
    (λ k same m. array_halts f false q m (t ∷ ts) k b n (ss ++ s ∷ []) es bs (subst (λ z. IsArray z (t ∷ ts)) same others)))
    (cut a b g (x ++ (h ++ 44 ∷ rest)) whole)
