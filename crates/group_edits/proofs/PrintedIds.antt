-- Ids can be printed.
use Rattle.std.proofs.Common.{◌≡◌, ℕ, ◌≤◌, Bool, true, false, ◌&&◌, ◌==◌, List, [], ◌∷◌, take, drop, refl, sym, ap, ◌∙◌, arith}
use Rattle.std.proofs.Common.{if◌then◌else◌}
use Rattle.std.proofs.lemmas.Bool.{and_parts, ne_eqb}
use Rattle.std.proofs.lemmas.Bool.Decides.{nat_tests}
use Rattle.std.proofs.lemmas.List.{take-append-drop}
use Rattle.std.proofs.lemmas.List.Folds.{list_all-append}
use Rattle.std.proofs.lemmas.List.Sums.{list_all-from_AllPass}
use Rattle.std.specs.Char.{is_ascii_digit}
use Rattle.std.specs.List.{list_all, join_with_byte}
use Rattle.conf_text.specs.Bytes.{is_letter, kind, mark}
use Rattle.conf_text.specs.Grammar.{IsContent, is_allowed}
use Rattle.conf_text.specs.declared.kind.Kind.{Kind}
use Rattle.conf_text.specs.declared.kind.Kind.TheVariants.{Digit, Letter, Blank, LineFeed, Hash, Quote, Backslash, OpenBrace, CloseBrace}
use Rattle.conf_text.specs.declared.kind.Kind.TheVariants.{OpenBracket, CloseBracket, Equals, Comma, Zero, Other}
use Rattle.lvm_id.specs.LvmId.{IsId, hyphen_form, is_id_char, pieces}
use Rattle.meta_print.proofs.Printable.{IsIdAgain}
use Rattle.meta_read.proofs.PrintedIds.{id_printed-is}

-- ---- bytes

either_allowed : (test : Bool) (x y : Kind) → is_allowed x ≡ true → is_allowed y ≡ true → is_allowed (if test then x else y) ≡ true
either_allowed true x y first second = first
either_allowed false x y first second = second

other_allowed : (test : Bool) (x y : Kind) → test ≡ false → is_allowed y ≡ true → is_allowed (if test then x else y) ≡ true
other_allowed test x y fails second = ap (λ (b : Bool). is_allowed (if b then x else y)) fails ∙ second

mark_allowed : (b : ℕ) → (b == 0) ≡ false → is_allowed (mark b) ≡ true
mark_allowed b zero =
    either_allowed (b == 35) Hash _ refl
    (either_allowed (b == 34) Quote _ refl
    (either_allowed (b == 92) Backslash _ refl
    (either_allowed (b == 123) OpenBrace _ refl
    (either_allowed (b == 125) CloseBrace _ refl
    (either_allowed (b == 91) OpenBracket _ refl
    (either_allowed (b == 93) CloseBracket _ refl
    (either_allowed (b == 61) Equals _ refl
    (either_allowed (b == 44) Comma _ refl
    (other_allowed (b == 0) Zero Other zero refl)))))))))

pub byte_allowed : (b : ℕ) → (b == 10) ≡ false → (b == 0) ≡ false → is_allowed (kind b) ≡ true
unfolding kind
byte_allowed b feed zero =
    either_allowed (is_ascii_digit b) Digit _ refl
    (either_allowed (is_letter b) Letter _ refl
    (either_allowed _ Blank _ refl
    (other_allowed (b == 10) LineFeed (mark b) feed (mark_allowed b zero))))

abbrev pub allows : ℕ → Bool
allows b = is_allowed (kind b)

id_char_from : (b : ℕ) → is_id_char b ≡ true → 33 ≤ b
id_char_from b is_char = grind (arith, nat_tests)

id_char_allowed : (b : ℕ) → is_id_char b ≡ true → allows b ≡ true
id_char_allowed b is_char =
    let from : 33 ≤ b = id_char_from b is_char in
    byte_allowed b (ne_eqb b 10 (λ e. omega (arith, e, from))) (ne_eqb b 0 (λ e. omega (arith, e, from)))

pub all_allowed : (p : ℕ → Bool) → ((b : ℕ) → p b ≡ true → allows b ≡ true) → (bs : List ℕ) → list_all p bs ≡ true
    → list_all allows bs ≡ true
all_allowed p one [] all = refl
all_allowed p one (b ∷ bs) all =
    let parts : (p b ≡ true) × (list_all p bs ≡ true) = and_parts (p b) (list_all p bs) all in
    rw (one b parts.0, all_allowed p one bs parts.1) refl

-- ---- ids

front_allowed : (n : ℕ) (bs : List ℕ) → list_all allows bs ≡ true → list_all allows (take n bs) ≡ true
front_allowed n bs all =
    (and_parts (list_all allows (take n bs)) (list_all allows (drop n bs))
    (sym (list_all-append allows (take n bs) (drop n bs)) ∙ ap (list_all allows) (take-append-drop n bs) ∙ all)).0

back_allowed : (n : ℕ) (bs : List ℕ) → list_all allows bs ≡ true → list_all allows (drop n bs) ≡ true
back_allowed n bs all =
    (and_parts (list_all allows (take n bs)) (list_all allows (drop n bs))
    (sym (list_all-append allows (take n bs) (drop n bs)) ∙ ap (list_all allows) (take-append-drop n bs) ∙ all)).1

hyphen_allowed : allows 45 ≡ true
unfolding kind
hyphen_allowed = refl

pieces_allowed : (lengths bs : List ℕ) → list_all allows bs ≡ true → list_all allows (join_with_byte 45 (pieces lengths bs)) ≡ true
pieces_allowed [] bs all = refl
pieces_allowed (n ∷ []) bs all = front_allowed n bs all
pieces_allowed (n ∷ m ∷ lengths) bs all =
    let rest : list_all allows (join_with_byte 45 (pieces (m ∷ lengths) (drop n bs))) ≡ true =
    pieces_allowed (m ∷ lengths) (drop n bs) (back_allowed n bs all) in
    list_all-append allows (take n bs) (45 ∷ join_with_byte 45 (pieces (m ∷ lengths) (drop n bs)))
    ∙ ap (λ (t : Bool). t && (allows 45 && list_all allows (join_with_byte 45 (pieces (m ∷ lengths) (drop n bs))))) (front_allowed n bs all)
    ∙ ap (λ (t : Bool). t && list_all allows (join_with_byte 45 (pieces (m ∷ lengths) (drop n bs)))) hyphen_allowed
    ∙ rest

hyphen_form-content : (id : List ℕ) → IsId id → IsContent (hyphen_form id)
unfolding hyphen_form
hyphen_form-content id is =
    pieces_allowed (6 ∷ 4 ∷ 4 ∷ 4 ∷ 4 ∷ 4 ∷ 6 ∷ []) id
    (all_allowed is_id_char id_char_allowed id (list_all-from_AllPass is_id_char id is.in_alphabet))

pub id_again : (id : List ℕ) → IsId id → IsIdAgain id
id_again id is = record { again = id_printed-is id (hyphen_form id) is refl; content = hyphen_form-content id is }
