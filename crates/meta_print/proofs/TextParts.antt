-- Each part of a tree that a text has can be printed.
use Rattle.std.proofs.Common.{◌≡◌, ℕ, zero, suc, ◌<◌, ◌^◌, Bool, true, false, not, List, [], ◌∷◌, Option, Some, None, Ok, inl, inr, length}
use Rattle.std.proofs.Common.{subst, refl, sym, ap, ◌∙◌}
use Rattle.std.specs.Prelude.{◌&&◌, ◌==◌, filter, nat_eq, option_map}
use Rattle.std.specs.List.{list_all, AllByRecursion as Each}
use Rattle.std.specs.Cmp.Lexicographic.{pointwise, same_text}
use Rattle.std.proofs.lemmas.Bool.{and_parts, ltb-true}
use Rattle.std.proofs.lemmas.Option.{same_Some, cond_some}
use Rattle.lvm_id.specs.LvmId.{is_id_char, hyphen_form}
use Rattle.conf_text.specs.Entries.{Scalar, Number, Text, Value, One, Many, ConfEntry, Open, Close, Assign, after_entry, keep_limits}
use Rattle.conf_text.specs.Entries.{keeps_limits, fits_scalar, scalars_of, is_given}
use Rattle.conf_text.specs.Grammar.{IsContent, IsScalar, IsArray, BeginsWith, IsTextOf}
use Rattle.conf_text.specs.Printed.{CanPrintScalar, CanPrintAll, CanPrint}
use Rattle.conf_text.specs.Items.{Node, Leaf, Body, body_from, items_from, items, lookup}
use Rattle.meta_model.specs.Keys.{Items, number, text, section, pairs, pairs_of, required, optional, id, id_printed}
use Rattle.meta_model.specs.Standing.{sections_of}
use Rattle.meta_print.proofs.Inverting.{mapped, bound, there, required_is, optional_is}
use Rattle.meta_print.proofs.Printable.{IsIdAgain, FitsIfThere}

-- ---- entries

scalar_can : (bytes : List ℕ) (s : Scalar) → IsScalar bytes s → fits_scalar s ≡ true → CanPrintScalar s
scalar_can bytes (Number n) h fits = ltb-true n (2 ^ 64) fits
scalar_can bytes (Text s) h fits = h.0

array_can : (bytes : List ℕ) (ss : List Scalar) → IsArray bytes ss → list_all fits_scalar ss ≡ true → CanPrintAll ss
array_can bytes [] h fits = tt
array_can bytes (s ∷ []) h fits =
    let parts : (fits_scalar s ≡ true) × (true ≡ true) = and_parts (fits_scalar s) true fits in
    (scalar_can h.1 s h.4 parts.0, tt)
array_can bytes (s ∷ t ∷ ss) h fits =
    let parts : (fits_scalar s ≡ true) × (list_all fits_scalar (t ∷ ss) ≡ true) =
    and_parts (fits_scalar s) (list_all fits_scalar (t ∷ ss)) fits in
    (scalar_can h.1 s h.5 parts.0, array_can h.3 (t ∷ ss) h.7 parts.1)

fits_from : (given : List (List (List ℕ))) (name : List ℕ) (value : Value) → keeps_limits given (Assign name value) ≡ true
    → list_all fits_scalar (scalars_of value) ≡ true
fits_from given name value h = (and_parts (not (is_given given name)) (list_all fits_scalar (scalars_of value)) h).1

entries_can : (given : List (List (List ℕ))) (text : List ℕ) (es : List ConfEntry) (gap : List ℕ) → BeginsWith text es gap
    → keep_limits given es ≡ true → CanPrint es
entries_can given text [] gap h limits = tt
entries_can given text (Open name ∷ es) gap h limits =
    let parts : (keeps_limits given (Open name) ≡ true) × (keep_limits (after_entry given (Open name)) es ≡ true) =
    and_parts (keeps_limits given (Open name)) (keep_limits (after_entry given (Open name)) es) limits in
    (h.3.1.3, entries_can (after_entry given (Open name)) h.1 es gap h.5 parts.1)
entries_can given text (Close ∷ es) gap h limits = (tt, entries_can (after_entry given Close) h.1 es gap h.5 limits)
entries_can given text (Assign name (One s) ∷ es) gap h limits =
    let parts : (keeps_limits given (Assign name (One s)) ≡ true) × (keep_limits (after_entry given (Assign name (One s))) es ≡ true) =
    and_parts (keeps_limits given (Assign name (One s))) (keep_limits (after_entry given (Assign name (One s))) es) limits
    in (
      (h.3.2.4, scalar_can h.3.1 s h.3.3 (and_parts (fits_scalar s) true (fits_from given name (One s) parts.0)).0),
      entries_can (after_entry given (Assign name (One s))) h.1 es gap h.5 parts.1,
    )
entries_can given text (Assign name (Many ss) ∷ es) gap h limits =
    let parts : (keeps_limits given (Assign name (Many ss)) ≡ true) × (keep_limits (after_entry given (Assign name (Many ss))) es ≡ true) =
    and_parts (keeps_limits given (Assign name (Many ss))) (keep_limits (after_entry given (Assign name (Many ss))) es) limits
    in (
      (h.3.2.4, array_can h.3.3.0 ss h.3.3.1 (fits_from given name (Many ss) parts.0)),
      entries_can (after_entry given (Assign name (Many ss))) h.1 es gap h.5 parts.1,
    )

pub text_can : (text : List ℕ) (es : List ConfEntry) → IsTextOf text es → CanPrint es
text_can text es h = entries_can ([] ∷ []) text es h.spelled.gap h.spelled.entries h.limits

-- ---- items

-- it can be printed
abbrev pub IsGood : Node → Type 0
IsGood (Leaf (One s)) = CanPrintScalar s
IsGood (Leaf (Many ss)) = CanPrintAll ss
IsGood (Body es) = CanPrint es

body_can : (deep : ℕ) (es : List ConfEntry) → CanPrint es → CanPrint (body_from deep es)
body_can deep [] h = tt
body_can zero (Close ∷ es) h = tt
body_can (suc deep) (Close ∷ es) h = (tt, body_can deep es h.1)
body_can deep (Open name ∷ es) h = (h.0, body_can (suc deep) es h.1)
body_can deep (Assign name value ∷ es) h = (h.0, body_can deep es h.1)

abbrev pub AreGood : Items → Type 0
AreGood found = Each (λ (item : List ℕ × Node). IsGood item.1) found

items_good : (deep : ℕ) (es : List ConfEntry) → CanPrint es → AreGood (items_from deep es)
items_good deep [] h = tt
items_good zero (Open name ∷ es) h = (body_can 0 es h.1, items_good 1 es h.1)
items_good zero (Assign name (One s) ∷ es) h = (h.0.1, items_good 0 es h.1)
items_good zero (Assign name (Many ss) ∷ es) h = (h.0.1, items_good 0 es h.1)
items_good zero (Close ∷ es) h = items_good 0 es h.1
items_good (suc deep) (Open name ∷ es) h = items_good (suc (suc deep)) es h.1
items_good (suc deep) (Assign name value ∷ es) h = items_good (suc deep) es h.1
items_good (suc deep) (Close ∷ es) h = items_good deep es h.1

pub body_good : (es : List ConfEntry) → CanPrint es → AreGood (items es)
body_good es h = items_good 0 es h

-- ---- what is looked up

lookup_good : (key : List ℕ) (found : Items) (node : Node) → AreGood found → lookup key found ≡ Some node → IsGood node
lookup_good key [] node good h = absurd cc
lookup_good key (item ∷ more) node good h = by_test (pointwise nat_eq item.0 key) refl (lookup_good key more node good.1)
  where
    by_test : (test : Bool) → pointwise nat_eq item.0 key ≡ test → (lookup key more ≡ Some node → IsGood node) → IsGood node
    by_test true e later = let same : Some item.1 ≡ Some node = rw e at h in subst IsGood (same_Some item.1 node same) good.0
    by_test false e later = later (rw e at h)

number_good : (node : Node) (n : ℕ) → IsGood node → number node ≡ Some n → n < 2 ^ 64
number_good (Leaf (One (Number m))) n good h = let same : m ≡ n = same_Some m n h in subst (λ (k : ℕ). k < 2 ^ 64) same good
number_good (Leaf (One (Text s))) n good h = absurd cc
number_good (Leaf (Many ss)) n good h = absurd cc
number_good (Body es) n good h = absurd cc

text_good : (node : Node) (s : List ℕ) → IsGood node → text node ≡ Some s → IsContent s
text_good (Leaf (One (Number m))) s good h = absurd cc
text_good (Leaf (One (Text t))) s good h = subst IsContent (same_Some t s h) good
text_good (Leaf (Many ss)) s good h = absurd cc
text_good (Body es) s good h = absurd cc

section_good : (node : Node) (es : List ConfEntry) → IsGood node → section node ≡ Some es → CanPrint es
section_good (Leaf (One (Number m))) es good h = absurd cc
section_good (Leaf (One (Text t))) es good h = absurd cc
section_good (Leaf (Many ss)) es good h = absurd cc
section_good (Body fs) es good h = subst CanPrint (same_Some fs es h) good

-- the pair can be printed
abbrev pub IsGoodPair : List ℕ × ℕ → Type 0
IsGoodPair pair = IsContent pair.0 × (pair.1 < 2 ^ 64)

pairs_good-of : (ss : List Scalar) (found : List (List ℕ × ℕ)) → CanPrintAll ss → pairs_of ss ≡ Some found → Each IsGoodPair found
pairs_good-of [] found good h = subst (Each IsGoodPair) (same_Some [] found h) tt
pairs_good-of (Number n ∷ ss) found good h = absurd cc
pairs_good-of (Text s ∷ []) found good h = absurd cc
pairs_good-of (Text s ∷ Text t ∷ ss) found good h = absurd cc
pairs_good-of (Text s ∷ Number n ∷ ss) found good h =
    mapped h (λ more is e. subst (Each IsGoodPair) e ((good.0, good.1.0), pairs_good-of ss more good.1.1 is))

pairs_good : (node : Node) (found : List (List ℕ × ℕ)) → IsGood node → pairs node ≡ Some found → Each IsGoodPair found
pairs_good (Leaf (One s)) found good h = absurd cc
pairs_good (Leaf (Many ss)) found good h = pairs_good-of ss found good h
pairs_good (Body es) found good h = absurd cc

-- ---- what is read

pub number_read : (key : List ℕ) (found : Items) (n : ℕ) → AreGood found → required number key found ≡ Ok n → n < 2 ^ 64
number_read key found n good h =
    let (node, stands, is) = required_is number key found n h in number_good node n (lookup_good key found node good stands) is

pub number_or : (default : ℕ) (key : List ℕ) (found : Items) (n : ℕ) → default < 2 ^ 64 → AreGood found
    → optional number default key found ≡ Ok n → n < 2 ^ 64
number_or default key found n small good h =
    elim (optional_is number default key found n h) [
      | inl stands ↦ number_good stands.0 n (lookup_good key found stands.0 good stands.1) stands.2
      | inr same ↦ subst (λ (k : ℕ). k < 2 ^ 64) same small
    ]

moved_good : (node : Node) (moved : Option ℕ) → IsGood node → option_map (λ (n : ℕ). Some n) (number node) ≡ Some moved → FitsIfThere moved
moved_good node moved good h = mapped h (λ n is e. subst FitsIfThere e (number_good node n good is))

-- a number that may be absent
pub moved_or : (key : List ℕ) (found : Items) (moved : Option ℕ) → AreGood found
    → optional (λ node. option_map (λ n. Some n) (number node)) None key found ≡ Ok moved → FitsIfThere moved
moved_or key found moved good h =
    elim (optional_is (λ node. option_map (λ (n : ℕ). Some n) (number node)) None key found moved h) [
      | inl stands ↦ moved_good stands.0 moved (lookup_good key found stands.0 good stands.1) stands.2
      | inr same ↦ subst FitsIfThere same tt
    ]

pub text_read : (key : List ℕ) (found : Items) (s : List ℕ) → AreGood found → required text key found ≡ Ok s → IsContent s
text_read key found s good h =
    let (node, stands, is) = required_is text key found s h in text_good node s (lookup_good key found node good stands) is

pub text_or : (key : List ℕ) (found : Items) (s : List ℕ) → AreGood found → optional text [] key found ≡ Ok s → IsContent s
text_or key found s good h =
    elim (optional_is text [] key found s h) [
      | inl stands ↦ text_good stands.0 s (lookup_good key found stands.0 good stands.1) stands.2
      | inr same ↦ subst IsContent same refl
    ]

pub section_read : (key : List ℕ) (found : Items) (es : List ConfEntry) → AreGood found → required section key found ≡ Ok es → CanPrint es
section_read key found es good h =
    let (node, stands, is) = required_is section key found es h in section_good node es (lookup_good key found node good stands) is

pub section_or : (key : List ℕ) (found : Items) (es : List ConfEntry) → AreGood found → optional section [] key found ≡ Ok es → CanPrint es
section_or key found es good h =
    elim (optional_is section [] key found es h) [
      | inl stands ↦ section_good stands.0 es (lookup_good key found stands.0 good stands.1) stands.2
      | inr same ↦ subst CanPrint same tt
    ]

pub pairs_read : (key : List ℕ) (found : Items) (ps : List (List ℕ × ℕ)) → AreGood found → required pairs key found ≡ Ok ps
    → Each IsGoodPair ps
pairs_read key found ps good h =
    let (node, stands, is) = required_is pairs key found ps h in pairs_good node ps (lookup_good key found node good stands) is

id_from : (printed x : List ℕ) → IsContent printed → id_printed printed ≡ Some x → IsIdAgain x
id_from printed x content h =
    let kept : List ℕ = filter (λ c. not (c == 45)) printed in
    let parts : ((length kept == 32 && list_all is_id_char kept && pointwise nat_eq (hyphen_form kept) printed) ≡ true) × (kept ≡ x) =
    cond_some _ kept x h in
    let printed_so : pointwise nat_eq (hyphen_form kept) printed ≡ true =
    (and_parts (length kept == 32 && list_all is_id_char kept) (pointwise nat_eq (hyphen_form kept) printed) parts.0).1 in
    let same : hyphen_form x ≡ printed = ap hyphen_form (sym parts.1) ∙ same_text (hyphen_form kept) printed (sym printed_so) in
    record { again = rw same h; content = rw same content }

-- an id with its hyphens
pub id_read : (key : List ℕ) (found : Items) (x : List ℕ) → AreGood found → id key found ≡ Ok x → IsIdAgain x
id_read key found x good h = bound h (λ printed stands is. id_from printed x (text_read key found printed good stands) (there _ is))

-- ---- sections

sections_by : (name : List ℕ) (node : Node) (more : Items) → IsGood node
    → Each (λ (part : List ℕ × List ConfEntry). CanPrint part.1) (sections_of more)
    → Each (λ (part : List ℕ × List ConfEntry). CanPrint part.1) (sections_of ((name, node) ∷ more))
sections_by name (Leaf value) more good later = later
sections_by name (Body es) more good later = (good, later)

pub sections_good : (found : Items) → AreGood found → Each (λ (part : List ℕ × List ConfEntry). CanPrint part.1) (sections_of found)
sections_good [] good = tt
sections_good (item ∷ more) good = sections_by item.0 item.1 more good.0 (sections_good more good.1)
