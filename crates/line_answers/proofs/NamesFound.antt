-- The place of a name among names, one name after another.
use Rattle.std.proofs.Common.{◌≡◌, ◌<◌, ◌≤◌, ℕ, ◌+◌, suc, true, false, List, ◌∷◌, drop, get_or, length, Option, Some, None, refl, ap, sym}
use Rattle.std.proofs.Common.{◌∙◌, arith, add-one, drop-cons}
use Rattle.std.proofs.Math.ListN.{drop_of_length-le}
use Rattle.std.specs.Prelude.{option_map}
use Rattle.std.specs.Str.{bytes_eq}
use Rattle.std.specs.String.{string_bytes}
use Rattle.std.specs.declared.string.String.{String}
use Rattle.command_table.specs.Options.{Word, number_named, words_of}

-- the words from a place on, of which this is the first
pub from_place : {A : Type 0} (words : List (String A)) (at : ℕ) (word : String A) → at < length words → word ≡ get_or words at word
    → drop at words ≡ word ∷ drop (at + 1) words
from_place {A} words at word within is =
    drop-cons words at word within
    ∙ ap (λ (w : String A). w ∷ drop (suc at) words) (sym is)
    ∙ ap (λ (n : ℕ). word ∷ drop n words) (sym (add-one at))

added : (at : ℕ) (o : Option ℕ) → option_map (λ n. n + at) (option_map (λ n. n + 1) o) ≡ option_map (λ n. n + (at + 1)) o
added at None = refl
added at (Some n) = ap Some (omega arith)

module _ {A : Type 0} (names : List (String A)) (at : ℕ) (name : String A) (within : at < length names) (is : name ≡ get_or names at name)
    (word : Word) where
  pub found_at : bytes_eq (string_bytes name) word ≡ true
      → option_map (λ n. n + at) (number_named (words_of (drop at names)) word) ≡ Some at
  unfolding number_named
  found_at same = rw (from_place names at name within is, same) (ap Some (omega arith))

  pub passed_at : bytes_eq (string_bytes name) word ≡ false
      → option_map (λ n. n + at) (number_named (words_of (drop at names)) word)
      ≡ option_map (λ n. n + (at + 1)) (number_named (words_of (drop (at + 1) names)) word)
  unfolding number_named
  passed_at other = rw (from_place names at name within is, other) (added at (number_named (words_of (drop (at + 1) names)) word))

pub none_left : {A : Type 0} (names : List (String A)) (at : ℕ) (word : Word) → length names ≤ at
    → option_map (λ n. n + at) (number_named (words_of (drop at names)) word) ≡ None
unfolding number_named
none_left names at word past = rw (drop_of_length-le names {i = at} past) refl
