-- Status words are read again.
use Rattle.std.proofs.Common.{◌≡◌, ℕ, Bool, true, false, not, List, [], ◌∷◌, ◌++◌, map, Some, None, refl, ap, ◌∙◌}
use Rattle.std.specs.Prelude.{◌&&◌, ◌||◌, nat_eq, find, codes, option_map}
use Rattle.std.proofs.Math.Bool.{and-true, and-false, or-false, false-or}
use Rattle.std.proofs.lemmas.List.Folds.{find-append, list_any-append}
use Rattle.std.specs.Cmp.Lexicographic.{pointwise}
use Rattle.lvm_name.specs.Names.{is_among}
use Rattle.conf_text.specs.Entries.{Text}
use Rattle.meta_model.specs.Keys.{texts_of}
use Rattle.meta_model.specs.Standing as standing
use Rattle.meta_model.specs.Status.{VgStatus}
use Rattle.meta_model.specs.Status.{LvStatus}
use Rattle.meta_print.specs.Layout.{word_if, vg_words, lv_words}

pub texts_again : (words : List (List ℕ)) → texts_of (map Text words) ≡ Some words
texts_again [] = refl
texts_again (word ∷ words) = ap (option_map (λ texts. word ∷ texts)) (texts_again words)

-- ---- all of them are known

-- no word is unknown
pub record AllKnown (known words : List (List ℕ)) : Type 0 where
  pub none : find (λ word. not (is_among known word)) words ≡ None

known_if : {known : List (List ℕ)} (is : Bool) (word : List ℕ) → is_among known word ≡ true → AllKnown known (word_if is word)
known_if true word h = record { none = rw h refl }
known_if false word h = record { none = refl }

both_known : {known words more : List (List ℕ)} → AllKnown known words → AllKnown known more → AllKnown known (words ++ more)
both_known {known} {words} {more} first second =
    record { none = find-append (λ word. not (is_among known word)) words more ∙ rw (first.none, second.none) refl }

pub vg_known : (status : VgStatus) → AllKnown (standing.vg_words ++ codes "PVMOVE" ∷ []) (vg_words status)
vg_known status =
    both_known (both_known (known_if status.resizeable (codes "RESIZEABLE") refl) (known_if status.read (codes "READ") refl))
    (known_if status.write (codes "WRITE") refl)

pub lv_known : (status : LvStatus) → AllKnown standing.lv_words (lv_words status)
lv_known status =
    let read : AllKnown standing.lv_words (word_if status.read (codes "READ")) = known_if status.read (codes "READ") refl in
    let write : AllKnown standing.lv_words (word_if status.write (codes "WRITE")) = known_if status.write (codes "WRITE") refl in
    let visible : AllKnown standing.lv_words (word_if status.visible (codes "VISIBLE")) = known_if status.visible (codes "VISIBLE") refl in
    let fixed : AllKnown standing.lv_words (word_if status.fixed_minor (codes "FIXED_MINOR")) =
    known_if status.fixed_minor (codes "FIXED_MINOR") refl in
    let moves : AllKnown standing.lv_words (word_if status.pvmove (codes "PVMOVE")) = known_if status.pvmove (codes "PVMOVE") refl in
    let locked : AllKnown standing.lv_words (word_if status.locked (codes "LOCKED")) = known_if status.locked (codes "LOCKED") refl in
    let notsynced : AllKnown standing.lv_words (word_if status.notsynced (codes "NOTSYNCED")) =
    known_if status.notsynced (codes "NOTSYNCED") refl in
    both_known (both_known (both_known (both_known (both_known (both_known read write) visible) fixed) moves) locked) notsynced

-- ---- each tells what it told

among_both : (words more : List (List ℕ)) (word : List ℕ) → is_among (words ++ more) word ≡ (is_among words word || is_among more word)
among_both words more word = list_any-append (pointwise nat_eq word) words more

among_if : (is : Bool) (word other : List ℕ) → is_among (word_if is word) other ≡ (is && pointwise nat_eq other word)
among_if true word other = rw or-false refl
among_if false word other = refl

pub vg_again : (status : VgStatus) → standing.vg_status (vg_words status) ≡ status
vg_again status = simp (among_both, among_if, and-true, and-false, or-false, false-or)

pub lv_again : (status : LvStatus) → standing.lv_status (lv_words status) ≡ status
lv_again status = simp (among_both, among_if, and-true, and-false, or-false, false-or)
