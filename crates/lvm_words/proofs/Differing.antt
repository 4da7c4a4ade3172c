-- Names of which none stands twice, and the set of those behind a place.
use Rattle.std.proofs.Common.{◌≡◌, ◌≤◌, ◌<◌, ℕ, zero, suc, ◌+◌, ◌-◌, Bool, true, false, not, ◌&&◌, ◌||◌, cond, List, [], ◌∷◌, drop, get_or}
use Rattle.std.proofs.Common.{length, refl, sym, ap, ◌∙◌, Bor, arith}
use Rattle.std.proofs.Math.ListN.{drop_of_length-le}
use Rattle.std.specs.List.{list_any}
use Rattle.std.specs.Str.{bytes_eq}
use Rattle.std.specs.String.{string_bytes}
use Rattle.std.specs.BTreeSet.{BTreeSet, contains_by, Updates}
use Rattle.std.specs.Ordering.{is_eq, nat_cmp}
use Rattle.std.specs.Cmp.Lexicographic.{slice_cmp}
use Rattle.std.specs.declared.string.String.{String}
use Rattle.std.proofs.lemmas.Bool.{and_right}
use Rattle.std.proofs.lemmas.Cmp.{nat_list_eq_equiv}
use Rattle.std.proofs.lemmas.Map.Text.{is_eq-slice_cmp}
use Rattle.command_table.specs.Options.{Word, words_of}
use Rattle.line_answers.proofs.NamesFound.{from_place}
use Rattle.lvm_words.specs.Disks.{all_differ}

-- whether the set has the word
abbrev pub has_word : BTreeSet (Bor Word) → Word → Bool
has_word set word = contains_by (λ (key : Bor Word). slice_cmp nat_cmp word key.now) set

-- no word stands twice, and the set has just these
pub record DifferIn (set : BTreeSet (Bor Word)) (words : List Word) : Type 0 where
  pub differ : all_differ words ≡ true
  pub has : (word : Word) → has_word set word ≡ list_any (bytes_eq word) words

pub none_differ : {A : Type 0} (set : BTreeSet (Bor Word)) (names : List (String A)) → set.keys ≡ []
    → DifferIn set (words_of (drop (length names) names))
unfolding all_differ
none_differ set names empty =
    rw (drop_of_length-le names {i = length names} (omega arith)) (record { differ = refl; has = λ word. rw empty refl })

true_or : (b other : Bool) → cond b true other ≡ (b || other)
true_or true other = refl
true_or false other = refl

module _ (set : BTreeSet (Bor Word)) (key : Bor Word) (words : List Word) (those : DifferIn set words) (added : Bool)
    (is : added ≡ not (has_word set key.now)) where
  -- one more word, where it wasn't in the set
  pub one_differs : (with_key : BTreeSet (Bor Word)) → added ≡ true
      → Updates (λ (x y : Bor Word). slice_cmp nat_cmp x.now y.now) set with_key key true → DifferIn with_key (key.now ∷ words)
  unfolding all_differ
  one_differs with_key new updates = record {
    differ = ap (λ (b : Bool). b && all_differ words) (ap not (sym (those.has key.now)) ∙ sym is ∙ new) ∙ those.differ;
    has = λ word.
        let other : Bor Word = record { ref_ptr = (0, 0); now = word } in
        let same : is_eq (slice_cmp nat_cmp key.now word) ≡ bytes_eq word key.now =
        is_eq-slice_cmp key.now word ∙ nat_list_eq_equiv.symm key.now word in
        updates.0 other ∙ ap (λ (b : Bool). cond b true (has_word set word)) same ∙ true_or (bytes_eq word key.now) (has_word set word)
        ∙ ap (λ (b : Bool). bytes_eq word key.now || b) (those.has word);
  }

  -- one more word, where it was in the set
  pub one_repeats : added ≡ false → all_differ (key.now ∷ words) ≡ false
  unfolding all_differ
  one_repeats old = ap (λ (b : Bool). b && all_differ words) (ap not (sym (those.has key.now)) ∙ sym is ∙ old)

-- the words from the place before one on
pub from_before : {A : Type 0} (names : List (String A)) (at : ℕ) (name : String A) → 0 < at → at ≤ length names
    → name ≡ get_or names (at - 1) name
    → words_of (drop (at - 1) names) ≡ string_bytes name ∷ words_of (drop at names)
from_before {A} names at name some within is =
    let next : at - 1 + 1 ≡ at = omega arith in
    ap (λ (l : List (String A)). words_of l) (from_place names (at - 1) name (omega arith) is ∙ ap (λ (n : ℕ). name ∷ drop n names) next)

-- names that stand twice from a place on do so among all
pub stands_twice : {A : Type 0} (names : List (String A)) (at : ℕ) → all_differ (words_of (drop at names)) ≡ false
    → all_differ (words_of names) ≡ false
unfolding all_differ
stands_twice names zero twice = twice
stands_twice [] (suc at) twice = twice
stands_twice (name ∷ names) (suc at) twice =
    and_right (not (list_any (bytes_eq (string_bytes name)) (words_of names))) (all_differ (words_of names)) (stands_twice names at twice)
