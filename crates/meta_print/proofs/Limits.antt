-- Entries that can be printed, close the sections that they open, and keep the limits of a text.
use Rattle.std.proofs.Common.{◌≡◌, ℕ, suc, ◌+◌, ◌<◌, ◌≤◌, ◌^◌, Bool, true, false, List, [], ◌∷◌, ◌++◌, length, map, refl, sym, ap, ◌∙◌}
use Rattle.std.proofs.Common.{arith}
use Rattle.std.specs.Prelude.{◌==◌, nat_eq, nat_lt}
use Rattle.std.specs.List.{list_all, list_any, AllByRecursion as Each}
use Rattle.std.specs.Cmp.Lexicographic.{pointwise}
use Rattle.std.proofs.lemmas.Bool.{lt-ltb, and_parts, and_from}
use Rattle.conf_text.specs.Bytes.{kind}
use Rattle.conf_text.specs.Entries.{Number, Text, Value, One, Many, ConfEntry, Close, Assign, after_entry, after_entries, keep_limits}
use Rattle.conf_text.specs.Entries.{keeps_limits, fits_scalar, scalars_of}
use Rattle.conf_text.specs.Grammar.{is_name, IsName, IsContent}
use Rattle.conf_text.specs.Printed.{CanPrintAll, CanPrintEntry, CanPrint}
use Rattle.meta_print.specs.Layout.{number, text, words, section}

-- ---- joined entries

after_both : (given : List (List (List ℕ))) (es fs : List ConfEntry)
    → after_entries given (es ++ fs) ≡ after_entries (after_entries given es) fs
after_both given [] fs = refl
after_both given (e ∷ es) fs = after_both (after_entry given e) es fs

kept_both : (given : List (List (List ℕ))) (es fs : List ConfEntry) → keep_limits given es ≡ true
    → keep_limits (after_entries given es) fs ≡ true → keep_limits given (es ++ fs) ≡ true
kept_both given [] fs first second = second
kept_both given (e ∷ es) fs first second =
    let parts : (keeps_limits given e ≡ true) × (keep_limits (after_entry given e) es ≡ true) =
    and_parts (keeps_limits given e) (keep_limits (after_entry given e) es) first in
    and_from (keeps_limits given e) (keep_limits (after_entry given e) (es ++ fs)) parts.0
    (kept_both (after_entry given e) es fs parts.1 second)

can_both : (es fs : List ConfEntry) → CanPrint es → CanPrint fs → CanPrint (es ++ fs)
can_both [] fs first second = second
can_both (e ∷ es) fs first second = (first.0, can_both es fs first.1 second)

-- ---- entries of one section

-- In a section with these names, in which so many more may be open, they can stand, and leave the section with the later names.
pub record Fits (deep : ℕ) (names later : List (List ℕ)) (es : List ConfEntry) : Type 0 where
  pub after : (outer : List (List (List ℕ))) → after_entries (names ∷ outer) es ≡ later ∷ outer
  pub kept : (outer : List (List (List ℕ))) → length outer + deep ≤ 16 → keep_limits (names ∷ outer) es ≡ true
  pub can : CanPrint es

pub fits_none : {deep : ℕ} {names : List (List ℕ)} → Fits deep names names []
fits_none = record { after = λ outer. refl; kept = λ outer room. refl; can = tt }

pub fits_deeper : {deep : ℕ} {names later : List (List ℕ)} {es : List ConfEntry} (more : ℕ) → Fits deep names later es
    → Fits (deep + more) names later es
fits_deeper more fits =
    record { after = λ outer. fits.after outer; kept = λ outer room. fits.kept outer (omega (arith, room)); can = fits.can }

pub fits_both : {deep : ℕ} {names mid later : List (List ℕ)} {es fs : List ConfEntry} → Fits deep names mid es → Fits deep mid later fs
    → Fits deep names later (es ++ fs)
fits_both {deep} {names} {mid} {later} {es} {fs} first second = record {
  after = λ outer. after_both (names ∷ outer) es fs ∙ ap (λ given. after_entries given fs) (first.after outer) ∙ second.after outer;
  kept =
      λ outer room. kept_both (names ∷ outer) es fs (first.kept outer room)
      (ap (λ given. keep_limits given fs) (first.after outer) ∙ second.kept outer room);
  can = can_both es fs first.can second.can;
}

-- the name stands in the section
abbrev pub has_name : List (List ℕ) → List ℕ → Bool
has_name names name = list_any (pointwise nat_eq name) names

pub fits_assign : {deep : ℕ} {names later : List (List ℕ)} {es : List ConfEntry} (key : List ℕ) (value : Value) → has_name names key ≡ false
    → CanPrintEntry (Assign key value)
    → list_all fits_scalar (scalars_of value) ≡ true → Fits deep (key ∷ names) later es → Fits deep names later (Assign key value ∷ es)
fits_assign key value fresh can small rest = record {
  after = λ outer. rest.after outer;
  kept = λ outer room. rw (fresh, small, rest.kept outer room) refl;
  can = (can, rest.can);
}

pub fits_section : {deep : ℕ} {names later : List (List ℕ)} (name : List ℕ) (body : List ConfEntry) → IsName name
    → has_name names name ≡ false → Fits deep [] later body
    → Fits (suc deep) names (name ∷ names) (section name body)
fits_section {deep} {names} {later} name body named fresh fits = record {
  after =
      λ outer. after_both ([] ∷ (name ∷ names) ∷ outer) body (Close ∷ [])
      ∙ ap (λ given. after_entries given (Close ∷ [])) (fits.after ((name ∷ names) ∷ outer));
  kept = λ outer room.
      let shallow : nat_lt (suc (length outer)) 17 ≡ true = lt-ltb (suc (length outer)) 17 (omega arith) in
      let inner : keep_limits ([] ∷ (name ∷ names) ∷ outer) (body ++ Close ∷ []) ≡ true =
      kept_both ([] ∷ (name ∷ names) ∷ outer) body (Close ∷ []) (fits.kept ((name ∷ names) ∷ outer) (omega (arith, room)))
      (ap (λ given. keep_limits given (Close ∷ [])) (fits.after ((name ∷ names) ∷ outer)))
      in
      rw (fresh, shallow, inner) refl;
  can = (named, can_both body (Close ∷ []) fits.can (tt, tt));
}

-- the body of a section in which so many more may be open
pub record FitsIn (deep : ℕ) (body : List ConfEntry) : Type 0 where
  pub later : List (List ℕ)
  pub fits : Fits deep [] later body

-- ---- keys of each kind

pub key_named : (key : List ℕ) → (length key == 0) ≡ false → list_all (λ b. is_name (kind b)) key ≡ true → IsName key
key_named key some all = (λ e. let bad : true ≡ false = ap (λ (t : List ℕ). length t == 0) (sym e) ∙ some in absurd cc, all)

pub fits_number : {deep : ℕ} {names later : List (List ℕ)} {es : List ConfEntry} (key : List ℕ) (n : ℕ) → IsName key
    → has_name names key ≡ false → n < 2 ^ 64
    → Fits deep (key ∷ names) later es → Fits deep names later (number key n ∷ es)
fits_number key n named fresh small rest =
    fits_assign key (One (Number n)) fresh (named, small) (and_from (nat_lt n (2 ^ 64)) true (lt-ltb n (2 ^ 64) small) refl) rest

pub fits_text : {deep : ℕ} {names later : List (List ℕ)} {es : List ConfEntry} (key s : List ℕ) → IsName key → has_name names key ≡ false
    → IsContent s
    → Fits deep (key ∷ names) later es → Fits deep names later (text key s ∷ es)
fits_text key s named fresh content rest = fits_assign key (One (Text s)) fresh (named, content) refl rest

can_words : (ws : List (List ℕ)) → Each IsContent ws → CanPrintAll (map Text ws)
can_words [] h = tt
can_words (w ∷ ws) h = (h.0, can_words ws h.1)

small_words : (ws : List (List ℕ)) → list_all fits_scalar (map Text ws) ≡ true
small_words [] = refl
small_words (w ∷ ws) = small_words ws

pub fits_words : {deep : ℕ} {names later : List (List ℕ)} {es : List ConfEntry} (key : List ℕ) (ws : List (List ℕ)) → IsName key
    → has_name names key ≡ false → Each IsContent ws
    → Fits deep (key ∷ names) later es → Fits deep names later (words key ws ∷ es)
fits_words key ws named fresh content rest = fits_assign key (Many (map Text ws)) fresh (named, can_words ws content) (small_words ws) rest
