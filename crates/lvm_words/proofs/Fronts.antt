-- The front of a command line, one pair after another.
use Rattle.std.proofs.Common.{◌≡◌, ◌≤◌, ◌<◌, ℕ, ◌+◌, ◌-◌, true, false, List, [], ◌∷◌, ◌++◌, length, drop, get_or, Option, Some, None, refl}
use Rattle.std.proofs.Common.{ap, sym, ◌∙◌, arith, append_assoc}
use Rattle.std.proofs.Math.ListN.{drop_of_length-le}
use Rattle.std.proofs.lemmas.List.{append-nil}
use Rattle.std.specs.Prelude.{option_map}
use Rattle.std.specs.String.{string_bytes}
use Rattle.std.specs.declared.string.String.{String}
use Rattle.command_table.specs.Options.{Word, words_of}
use Rattle.command_table.specs.Values.{is_disk_name}
use Rattle.line_answers.proofs.NamesFound.{from_place}
use Rattle.lvm_words.specs.Disks.{Front, front_of, is_disk_option, with_name}

-- a front with some names before its own
abbrev pub after_names : List Word → Front → Front
after_names names front = record front { names = names ++ front.names }

-- the pairs end before a word that isn't `-d`
ends_before : (word : Word) (rest : List Word) → is_disk_option word ≡ false
    → front_of (word ∷ rest) ≡ Some (record { names = []; rest = word ∷ rest })
unfolding front_of
ends_before word [] other = rw other refl
ends_before word (name ∷ rest) other = rw other refl

lacks_name : (word : Word) → is_disk_option word ≡ true → front_of (word ∷ []) ≡ None
unfolding front_of
lacks_name word option = rw option refl

misnamed : (word name : Word) (rest : List Word) → is_disk_option word ≡ true → is_disk_name name ≡ false
    → front_of (word ∷ name ∷ rest) ≡ None
unfolding front_of
misnamed word name rest option no_name = rw (option, no_name) refl

one_pair : (word name : Word) (rest : List Word) → is_disk_option word ≡ true → is_disk_name name ≡ true
    → front_of (word ∷ name ∷ rest) ≡ option_map (with_name name) (front_of rest)
unfolding front_of
one_pair word name rest option is_name = rw (option, is_name) refl

-- one more name
pub names_more : (names : List Word) (name : Word) (front : Option Front)
    → option_map (after_names names) (option_map (with_name name) front) ≡ option_map (after_names (names ++ name ∷ [])) front
names_more names name None = refl
names_more names name (Some front) =
    ap (λ (l : List Word). Some (record { names = l; rest = front.rest })) (sym (append_assoc names (name ∷ []) front.names))

-- the words of a command line from a place on
module _ {A : Type 0} (words : List (String A)) (at : ℕ) (word : String A) (within : at < length words) (is : word ≡ get_or words at word)
  where
    pub ends_at : is_disk_option (string_bytes word) ≡ false
        → front_of (words_of (drop at words)) ≡ Some (record { names = []; rest = words_of (drop at words) })
    ends_at other = rw (from_place words at word within is) (ends_before (string_bytes word) (words_of (drop (at + 1) words)) other)

    pub lacks_name_at : is_disk_option (string_bytes word) ≡ true → length words - at < 2 → front_of (words_of (drop at words)) ≡ None
    lacks_name_at option short =
        let none : drop (at + 1) words ≡ [] = drop_of_length-le words {i = at + 1} (omega arith) in
        rw (from_place words at word within is, none) (lacks_name (string_bytes word) option)

    module _ (name : String A) (more : at + 1 < length words) (name_is : name ≡ get_or words (at + 1) name) where
      both : drop at words ≡ word ∷ name ∷ drop (at + 2) words
      both =
          from_place words at word within is
          ∙ ap (λ (l : List (String A)). word ∷ l) (from_place words (at + 1) name more name_is)
          ∙ ap (λ (n : ℕ). word ∷ name ∷ drop n words) (omega arith)

      pub misnamed_at : is_disk_option (string_bytes word) ≡ true → is_disk_name (string_bytes name) ≡ false
          → front_of (words_of (drop at words)) ≡ None
      misnamed_at option no_name =
          rw both (misnamed (string_bytes word) (string_bytes name) (words_of (drop (at + 2) words)) option no_name)

      pub pair_at : is_disk_option (string_bytes word) ≡ true → is_disk_name (string_bytes name) ≡ true
          → front_of (words_of (drop at words)) ≡ option_map (with_name (string_bytes name)) (front_of (words_of (drop (at + 2) words)))
      pair_at option is_name = rw both (one_pair (string_bytes word) (string_bytes name) (words_of (drop (at + 2) words)) option is_name)

pub ends_past : {A : Type 0} (words : List (String A)) (at : ℕ) → length words ≤ at
    → front_of (words_of (drop at words)) ≡ Some (record { names = []; rest = words_of (drop at words) })
unfolding front_of
ends_past words at past = rw (drop_of_length-le words {i = at} past) refl

-- the front of a command line, where so many names stand before a place that has no further pair
pub ends_with : {A : Type 0} (words rest : List (String A)) (at : ℕ) (names : List Word) → rest ≡ drop at words
    → front_of (words_of words) ≡ option_map (after_names names) (front_of (words_of (drop at words)))
    → front_of (words_of (drop at words)) ≡ Some (record { names = []; rest = words_of (drop at words) })
    → front_of (words_of words) ≡ Some (record { names = names; rest = words_of rest })
ends_with {A} words rest at names left so_far end =
    so_far
    ∙ ap (option_map (after_names names)) end
    ∙ ap (λ (l : List Word). Some (record { names = l; rest = words_of (drop at words) })) (append-nil names)
    ∙ ap (λ (l : List (String A)). Some (record { names = names; rest = words_of l })) (sym left)
