-- Words with their numbers, read one after another.
use Rattle.std.proofs.Common.{◌≡◌, ◌<◌, ◌∙◌, ◌+◌, ℕ, List, [], ◌∷◌, ◌++◌, get_or, length, take, ap, sym, arith, add-one}
use Rattle.std.proofs.Math.Nat.{add-zero}
use Rattle.std.proofs.Math.Seq.{take-suc}
use Rattle.std.proofs.lemmas.List.{length-map, length-take-le, map-append}
use Rattle.std.proofs.lemmas.List.Sums.{fold-append}
use Rattle.std.specs.String.{string_bytes}
use Rattle.std.specs.declared.string.String.{String}
use Rattle.command_table.specs.declared.table.CommandName.{CommandName}
use Rattle.command_table.specs.Options.{Word, words_of}
use Rattle.command_table.specs.Words.{after_word, nothing_read, numbered_from, read}

numbered_more : (number : ℕ) (words : List Word) (word : Word)
    → numbered_from number (words ++ word ∷ []) ≡ numbered_from number words ++ (word, number + length words) ∷ []
numbered_more number [] word = ap (λ n. (word, n) ∷ []) (sym (add-zero number))
numbered_more number (first ∷ words) word =
    ap (λ more. (first, number) ∷ more) (numbered_more (number + 1) words word
    ∙ ap (λ n. numbered_from (number + 1) words ++ (word, n) ∷ []) (omega arith))

words_more : {A : Type 0} (words : List (String A)) (at : ℕ) (word : String A) → at < length words → word ≡ get_or words at word
    → words_of (take (at + 1) words) ≡ words_of (take at words) ++ string_bytes word ∷ []
words_more words at word within is =
    ap (λ n. words_of (take n words)) (add-one at)
    ∙ ap words_of (take-suc words at word within)
    ∙ map-append string_bytes (take at words) (get_or words at word ∷ [])
    ∙ ap (λ w. words_of (take at words) ++ string_bytes w ∷ []) (sym is)

many : {A : Type 0} (words : List (String A)) (at : ℕ) → at < length words → length (words_of (take at words)) ≡ at
many words at within = length-map (take at words) string_bytes ∙ length-take-le at words (omega (arith, within))

-- the words up to a place, with the next one
pub read_more : {A : Type 0} (name : CommandName) (words : List (String A)) (at : ℕ) (word : String A) → at < length words
    → word ≡ get_or words at word
    → after_word name (read name (numbered_from 1 (words_of (take at words)))) (string_bytes word, 1 + at)
    ≡ read name (numbered_from 1 (words_of (take (at + 1) words)))
read_more name words at word within is =
    rw (words_more words at word within is, numbered_more 1 (words_of (take at words)) (string_bytes word), many words at within)
    (sym (fold-append (after_word name) nothing_read (numbered_from 1 (words_of (take at words))) ((string_bytes word, 1 + at) ∷ [])))
