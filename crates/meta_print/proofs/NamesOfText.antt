-- Names of groups and of volumes are names of a text, and a group's is none of the keys beside it.
use Rattle.std.proofs.Common.{◌≡◌, ℕ, suc, ◌+◌, ◌≤◌, Bool, cond, true, false, not, List, [], ◌∷◌, length, Option, Some, None, inl, inr}
use Rattle.std.proofs.Common.{refl, sym, ap, ◌∙◌, arith}
use Rattle.std.specs.Prelude.{◌==◌, ◌||◌, nat_eq, nat_le, is_none, codes}
use Rattle.std.specs.Int.{is_in_range}
use Rattle.std.specs.Char.{is_ascii_digit}
use Rattle.std.specs.List.{list_all, position, position_or_len}
use Rattle.std.specs.Cmp.Lexicographic.{pointwise, same_text}
use Rattle.std.proofs.lemmas.Bool.{ltb-false, eq-eqb, false_from_ne_true, true_from_ne_false, cases_Bool}
use Rattle.lvm_name.specs.Names.{is_name_byte, begins_with, is_among, is_top_key, name_refusal, group_name_refusal, any_name_refusal}
use Rattle.conf_text.specs.Bytes.{kind, is_letter}
use Rattle.conf_text.specs.Grammar.{is_name, IsName}

-- ---- equal texts

pub pointwise_same : (xs : List ℕ) → pointwise nat_eq xs xs ≡ true
pointwise_same [] = refl
pointwise_same (x ∷ xs) = rw (eq-eqb x x refl, pointwise_same xs) refl

pub differ_back : (xs ys : List ℕ) → pointwise nat_eq xs ys ≡ false → pointwise nat_eq ys xs ≡ false
differ_back xs ys h = false_from_ne_true (pointwise nat_eq ys xs) (λ e.
    let same : ys ≡ xs = same_text ys xs (sym e) in
    let bad : true ≡ false = sym (pointwise_same xs) ∙ ap (pointwise nat_eq xs) (sym same) ∙ h in
    absurd cc)

-- ---- what a name that isn't refused passes

-- none of the refusals' tests before the last
pub record Passes (text : List ℕ) : Type 0 where
  pub some : (length text == 0) ≡ false
  pub short : nat_le (length text) 127 ≡ true
  pub no_dash : begins_with (codes "-") text ≡ false
  pub no_dots : is_among (codes "." ∷ codes ".." ∷ []) text ≡ false
  pub bytes : position (λ byte. not (is_name_byte byte)) text ≡ None

some_by : (reserves : List ℕ → Bool) (text : List ℕ) → is_none (name_refusal reserves text) ≡ true → (length text == 0) ≡ false
some_by reserves text h = false_from_ne_true (length text == 0) (λ e. let bad : false ≡ true = rw e at h in absurd cc)

short_by : (reserves : List ℕ → Bool) (text : List ℕ) → is_none (name_refusal reserves text) ≡ true → nat_le (length text) 127 ≡ true
short_by reserves text h =
    let some : (length text == 0) ≡ false = some_by reserves text h in
    true_from_ne_false (nat_le (length text) 127) (λ e. let bad : false ≡ true = rw (some, e) at h in absurd cc)

no_dash_by : (reserves : List ℕ → Bool) (text : List ℕ) → is_none (name_refusal reserves text) ≡ true → begins_with (codes "-") text ≡ false
no_dash_by reserves text h =
    let some : (length text == 0) ≡ false = some_by reserves text h in
    let short : nat_le (length text) 127 ≡ true = short_by reserves text h in
    false_from_ne_true (begins_with (codes "-") text) (λ e. let bad : false ≡ true = rw (some, short, e) at h in absurd cc)

no_dots_by : (reserves : List ℕ → Bool) (text : List ℕ) → is_none (name_refusal reserves text) ≡ true
    → is_among (codes "." ∷ codes ".." ∷ []) text ≡ false
no_dots_by reserves text h =
    let some : (length text == 0) ≡ false = some_by reserves text h in
    let short : nat_le (length text) 127 ≡ true = short_by reserves text h in
    let no_dash : begins_with (codes "-") text ≡ false = no_dash_by reserves text h in
    false_from_ne_true (is_among (codes "." ∷ codes ".." ∷ []) text)
    (λ e. let bad : false ≡ true = rw (some, short, no_dash, e) at h in absurd cc)

bytes_by : (reserves : List ℕ → Bool) (text : List ℕ) → is_none (name_refusal reserves text) ≡ true → (found : Option ℕ)
    → position (λ byte. not (is_name_byte byte)) text ≡ found → found ≡ None
bytes_by reserves text h None e = refl
bytes_by reserves text h (Some place) e =
    let bad : false ≡ true =
    rw (some_by reserves text h, short_by reserves text h, no_dash_by reserves text h, no_dots_by reserves text h, e) at h in
    absurd cc

pub passes_by : (reserves : List ℕ → Bool) (text : List ℕ) → is_none (name_refusal reserves text) ≡ true → Passes text
passes_by reserves text h = record {
  some = some_by reserves text h;
  short = short_by reserves text h;
  no_dash = no_dash_by reserves text h;
  no_dots = no_dots_by reserves text h;
  bytes = bytes_by reserves text h (position (λ byte. not (is_name_byte byte)) text) refl;
}

not_reserved : (reserves : List ℕ → Bool) (text : List ℕ) → is_none (name_refusal reserves text) ≡ true → reserves text ≡ false
not_reserved reserves text h =
    let passes : Passes text = passes_by reserves text h in
    false_from_ne_true (reserves text) (λ e. let bad : false
    ≡ true = rw (passes.some, passes.short, passes.no_dash, passes.no_dots, passes.bytes, e) at h in absurd cc)

-- ---- a name of a text

shuffled : (d u l plus under dot dash : Bool) → d ≡ false → ((((((d || u) || l) || plus) || under) || dot) || dash) ≡ true
    → (((((u || l) || under) || dot) || plus) || dash) ≡ true
shuffled d u l plus under dot dash low h = grind arith

byte-name : (b : ℕ) → is_name_byte b ≡ true → is_name (kind b) ≡ true
unfolding kind
byte-name b h =
    elim (cases_Bool (is_ascii_digit b)) [
      | inl digit ↦ rw digit refl
      | inr other ↦ let letter : is_letter b ≡ true =
          shuffled (is_ascii_digit b) (is_in_range 65 90 b) (is_in_range 97 122 b) (b == 43) (b == 95) (b == 46) (b == 45) other h in rw
          (other, letter) refl
    ]

none_found : (test : Bool) (place : ℕ) → cond test (Some place) None ≡ None → test ≡ false
none_found true place h = absurd cc
none_found false place h = refl

abbrev is_bad : ℕ → Bool
is_bad byte = not (is_name_byte byte)

first_good : (b : ℕ) (bs : List ℕ) → length (b ∷ bs) ≤ position_or_len is_bad (b ∷ bs) → is_name_byte b ≡ true
first_good b bs h = true_from_ne_false (is_name_byte b) (λ e. let bad : suc (length bs) ≤ 0 = rw e at h in absurd (omega (arith, bad)))

bytes-name : (bs : List ℕ) → length bs ≤ position_or_len is_bad bs → list_all (λ b. is_name (kind b)) bs ≡ true
bytes-name [] h = refl
bytes-name (b ∷ bs) h =
    let good : is_name_byte b ≡ true = first_good b bs h in
    let rest : suc (length bs) ≤ 1 + position_or_len is_bad bs = rw good at h in
    rw (byte-name b good, bytes-name bs (omega (arith, rest))) refl

passes-name : (text : List ℕ) → Passes text → IsName text
passes-name text passes = (
  λ e. let bad : true ≡ false = ap (λ (t : List ℕ). length t == 0) (sym e) ∙ passes.some in absurd cc,
  bytes-name text (ltb-false (position_or_len is_bad text) (length text) (none_found _ _ passes.bytes)),
)

pub group_name-name : (name : List ℕ) → is_none (group_name_refusal name) ≡ true → IsName name
group_name-name name h = passes-name name (passes_by is_top_key name h)

pub volume_name-name : (name : List ℕ) → is_none (any_name_refusal name) ≡ true → IsName name
volume_name-name name h = passes-name name (passes_by (λ _. false) name h)

-- ---- the keys beside a group

-- the name is none of them
pub record IsBeside (name : List ℕ) : Type 0 where
  pub no_contents : pointwise nat_eq name (codes "contents") ≡ false
  pub no_version : pointwise nat_eq name (codes "version") ≡ false
  pub no_description : pointwise nat_eq name (codes "description") ≡ false
  pub no_host : pointwise nat_eq name (codes "creation_host") ≡ false
  pub no_time : pointwise nat_eq name (codes "creation_time") ≡ false

beside_by : (a b c d e : Bool) → (a || (b || (c || (d || (e || false))))) ≡ false
    → (a ≡ false) × (b ≡ false) × (c ≡ false) × (d ≡ false) × (e ≡ false)
beside_by a b c d e h = grind arith

pub group_name-beside : (name : List ℕ) → is_none (group_name_refusal name) ≡ true → IsBeside name
group_name-beside name h =
    let parts : (pointwise nat_eq name (codes "contents") ≡ false) × (pointwise nat_eq name (codes "version") ≡ false)
    × (pointwise nat_eq name (codes "description") ≡ false) × (pointwise nat_eq name (codes "creation_host") ≡ false)
    × (pointwise nat_eq name (codes "creation_time") ≡ false) =
    beside_by _ _ _ _ _ (not_reserved is_top_key name h)
    in
    record { no_contents = parts.0; no_version = parts.1; no_description = parts.2; no_host = parts.3; no_time = parts.4 }
