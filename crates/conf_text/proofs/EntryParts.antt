-- What the reader says of a text that ends within an entry of a section.
use Rattle.std.proofs.Common.{◌≡◌, ℕ, ◌+◌, ◌<◌, true, false, List, [], ◌∷◌, ◌++◌, length, refl, sym, ap, subst, ◌∙◌, append_assoc, arith}
use Rattle.std.proofs.Common.{inl, inr}
use Rattle.std.proofs.lemmas.List.{append-nil}
use Rattle.conf_text.specs.declared.kind.Kind.TheVariants.{Equals}
use Rattle.conf_text.specs.Bytes.{kind}
use Rattle.conf_text.specs.declared.reader.Phase.TheVariants.{Item, Named, Wanted, First}
use Rattle.conf_text.specs.Entries.{Scalar, Value, One, Many, ConfEntry, Open, Close, Assign}
use Rattle.conf_text.specs.Grammar.{is_name, IsGap, IsName, EndsWord, IsArray, IsValue, IsHeader, IsKey, IsEntry}
use Rattle.conf_text.proofs.Accepted.{between, item, gap_arrives, byte_arrives, gap_ends, mark_ends, kind-equals}
use Rattle.conf_text.proofs.Parts.{unclosed, Cut, cut, before_mark, ends_front, all_front, Halts, halts_then, nothing_halts, gap_halts}
use Rattle.conf_text.proofs.Parts.{scalar_halts, array_halts}
use Rattle.conf_text.proofs.Runs.{stops_before, name_goes, header_goes, key_goes, bracket_arrives}
use Rattle.conf_text.proofs.Steps.{Reaches}

name_halts : (q at : ℕ) (name k l : List ℕ) (es : List ConfEntry) (bs : List ℕ) → IsName name → name ≡ k ++ l
    → Halts true q at (item es (q ∷ bs)) k
name_halts q at name [] l es bs name_is same = nothing_halts true Item q at [] [] es (q ∷ bs) refl
name_halts q at name (b ∷ k) l es bs name_is same =
    let part : IsName (b ∷ k) = (λ e. absurd cc, all_front (λ b. is_name (kind b)) (b ∷ k) l (subst IsName same name_is).1) in
    subst (Halts true q at (item es (q ∷ bs))) (append-nil (b ∷ k))
    (halts_then true q at (item es (q ∷ bs)) (between Named (b ∷ k) [] es (q ∷ bs)) (b ∷ k) []
    (name_goes true (b ∷ k) [] at es (q ∷ bs) part tt)
    (λ m. nothing_halts true Named q m (b ∷ k) [] es (q ∷ bs) refl))

gap_word : (h : List ℕ) → IsGap h → EndsWord h
gap_word h gap = subst EndsWord (append-nil h) (gap_ends h [] gap tt)

named_halts : (q at : ℕ) (name h k c : List ℕ) (es : List ConfEntry) (bs : List ℕ) → IsName name → IsGap h → Cut k c name h
    → Halts true q at (item es (q ∷ bs)) k
named_halts q at name h k c es bs name_is gap (inl (l, one, two)) = name_halts q at name k l es bs name_is one
named_halts q at name h k c es bs name_is gap (inr (l, one, two)) =
    subst (Halts true q at (item es (q ∷ bs))) (sym one)
    (halts_then true q at (item es (q ∷ bs)) (between Named name [] es (q ∷ bs)) name l
    (name_goes true name l at es (q ∷ bs) name_is (ends_front l c (subst EndsWord two (gap_word h gap))))
    (λ m. gap_halts true Named q m name [] es (q ∷ bs) l c refl (subst IsGap two gap)))

front_halts : (q at : ℕ) (g name h a c : List ℕ) (es : List ConfEntry) (bs : List ℕ) → IsGap g → IsName name → IsGap h
    → Cut a c g (name ++ h) → Halts true q at (item es (q ∷ bs)) a
front_halts q at g name h a c es bs gap name_is gap_h (inl (k, one, two)) =
    gap_halts true Item q at [] [] es (q ∷ bs) a k refl (subst IsGap one gap)
front_halts q at g name h a c es bs gap name_is gap_h (inr (k, one, two)) =
    subst (Halts true q at (item es (q ∷ bs))) (sym one)
    (halts_then true q at (item es (q ∷ bs)) (item es (q ∷ bs)) g k (inl (gap_arrives g k at Item [] [] es (q ∷ bs) gap))
    (λ m. named_halts q m name h k c es bs name_is gap_h (cut k c name h (sym two))))

-- a part of what stands before a brace
header_halts : (q at : ℕ) (header name a c : List ℕ) (es : List ConfEntry) (bs : List ℕ) → IsHeader header name → header ≡ a ++ c
    → Halts true q at (item es (q ∷ bs)) a
header_halts q at header name a c es bs (g, h, gap, name_is, gap_h, parts) same =
    let whole : a ++ c ≡ g ++ (name ++ h) = sym same ∙ parts ∙ append_assoc g name h in
    front_halts q at g name h a c es bs gap name_is gap_h (cut a c g (name ++ h) whole)

equals_halts : (q at : ℕ) (header name k a c : List ℕ) (es : List ConfEntry) (bs : List ℕ) → IsHeader header name → IsGap k
    → Cut a c header (61 ∷ k) → Halts true q at (item es (q ∷ bs)) a
equals_halts q at header name k a c es bs is gap (inl (d, one, two)) = header_halts q at header name a d es bs is one
equals_halts q at header name k a c es bs is gap (inr ([], one, two)) =
    header_halts q at header name a [] es bs is (sym (append-nil header) ∙ sym one ∙ sym (append-nil a))
equals_halts q at header name k a c es bs is gap (inr (y ∷ d, one, two)) =
    let first : 61 ≡ y = cc in
    let others : k ≡ d ++ c = cc in
    let whole : header ++ (61 ∷ d) ≡ a = ap (λ z. header ++ (z ∷ d)) first ∙ sym one in
    subst (Halts true q at (item es (q ∷ bs))) whole
    (halts_then true q at (item es (q ∷ bs)) (between Named name [] es (q ∷ bs)) header (61 ∷ d)
    (header_goes true header name (61 ∷ d) at es (q ∷ bs) is (mark_ends 61 Equals d kind-equals refl))
    (λ m. halts_then true q m (between Named name [] es (q ∷ bs)) (between Wanted name [] es (q ∷ bs)) (61 ∷ []) d
    (inl (byte_arrives 61 Equals d m (between Named name [] es (q ∷ bs)) (between Wanted name [] es (q ∷ bs)) refl kind-equals refl))
    (λ o. gap_halts true Wanted q o name [] es (q ∷ bs) d c refl (subst IsGap others gap))))

-- a part of what stands before a value
key_halts : (q at : ℕ) (key name a c : List ℕ) (es : List ConfEntry) (bs : List ℕ) → IsKey key name → key ≡ a ++ c
    → Halts true q at (item es (q ∷ bs)) a
key_halts q at key name a c es bs (g, h, k, gap, name_is, gap_h, gap_k, parts) same =
    equals_halts q at (g ++ name ++ h) name k a c es bs (g, h, gap, name_is, gap_h, refl) gap_k
    (cut a c (g ++ name ++ h) (61 ∷ k) (sym same ∙ parts))

-- what is open in an array is inside of the section too
array_inside : (q at m : ℕ) (y n : List ℕ) (es : List ConfEntry) (bs : List ℕ)
    → Reaches at (between Wanted n [] es bs) (91 ∷ y) m (between (First at) n [] es bs) y
    → Halts false at m (between (First at) n [] es bs) y → Halts true q at (between Wanted n [] es bs) (91 ∷ y)
array_inside q at m y n es bs one (inl e) =
    let place : at ≡ at + 0 = omega arith in
    inr (inr ([], 91, y, inr refl, refl, one.same ∙ e ∙ ap unclosed place))
array_inside q at m y n es bs one (inr (inl stops)) = inr (inl (stops_before true one stops))
array_inside q at m y n es bs one (inr (inr (z, b, w, byte, parts, e))) =
    let place : m + length z ≡ at + length (91 ∷ z) = omega (arith, one.place) in
    inr (inr (91 ∷ z, b, w, inl byte, ap (λ k. 91 ∷ k) parts, one.same ∙ e ∙ ap unclosed place))

many_halts : (q at : ℕ) (ss : List Scalar) (inner c b n : List ℕ) (es : List ConfEntry) (bs : List ℕ) → IsArray inner ss → 0 < length b
    → c ++ b ≡ 91 ∷ (inner ++ 93 ∷ []) → Halts true q at (between Wanted n [] es (q ∷ bs)) c
many_halts q at ss inner [] b n es bs array some same = nothing_halts true Wanted q at n [] es (q ∷ bs) refl
many_halts q at ss inner (y ∷ c) b n es bs array some same =
    let first : 91 ≡ y = cc in
    let others : c ++ b ≡ inner ++ 93 ∷ [] = cc in
    let (d, part) = before_mark c b inner 93 others some in
    let (m, one) = bracket_arrives c at n [] es (q ∷ bs) in
    subst (λ z. Halts true q at (between Wanted n [] es (q ∷ bs)) (z ∷ c)) first
    (array_inside q at m c n es (q ∷ bs) one (array_halts false true at m ss c d n [] es (q ∷ bs) (subst (λ z. IsArray z ss) part array)))

value_halts : (q at : ℕ) (v : Value) (c b n : List ℕ) (es : List ConfEntry) (bs : List ℕ) → IsValue (c ++ b) v → 0 < length b
    → Halts true q at (between Wanted n [] es (q ∷ bs)) c
value_halts q at (One s) c b n es bs scalar some = scalar_halts true Wanted q at s c b n [] es (q ∷ bs) refl refl scalar
value_halts q at (Many ss) c b n es bs (inner, array, parts) some = many_halts q at ss inner c b n es bs array some parts

assign_halts : (q at : ℕ) (name : List ℕ) (v : Value) (key x a b : List ℕ) (es : List ConfEntry) (bs : List ℕ) → IsKey key name
    → IsValue x v → 0 < length b → Cut a b key x → Halts true q at (item es (q ∷ bs)) a
assign_halts q at name v key x a b es bs key_is value some (inl (c, one, two)) = key_halts q at key name a c es bs key_is one
assign_halts q at name v key x a b es bs key_is value some (inr (c, one, two)) =
    subst (Halts true q at (item es (q ∷ bs))) (sym one)
    (halts_then true q at (item es (q ∷ bs)) (between Wanted name [] es (q ∷ bs)) key c (key_goes true key name c at es (q ∷ bs) key_is)
    (λ m. value_halts q m v c b name es bs (subst (λ z. IsValue z v) two value) some))

-- a part of an entry, with more to come
pub entry_halts : (q at : ℕ) (e : ConfEntry) (a b : List ℕ) (es : List ConfEntry) (bs : List ℕ) → IsEntry (a ++ b) e → 0 < length b
    → Halts true q at (item es (q ∷ bs)) a
entry_halts q at (Open name) a b es bs (front, header, parts) some =
    let (c, part) = before_mark a b front 123 parts some in header_halts q at front name a c es bs header part
entry_halts q at Close a b es bs (g, gap, parts) some =
    let (c, part) = before_mark a b g 125 parts some in gap_halts true Item q at [] [] es (q ∷ bs) a c refl (subst IsGap part gap)
entry_halts q at (Assign name v) a b es bs (key, x, key_is, value, parts) some =
    assign_halts q at name v key x a b es bs key_is value some (cut a b key x parts)
