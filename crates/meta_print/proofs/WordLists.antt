-- A list of words, word by word.
use Rattle.std.proofs.Common.{◌≡◌, ℕ, ◌+◌, ◌<◌, Bool, true, false, List, [], ◌∷◌, ◌++◌, length, get_or, map, take, refl, sym, ap, ◌∙◌}
use Rattle.std.proofs.Common.{arith, Bor}
use Rattle.std.proofs.lemmas.List.{take_more, take_at, take_all, length_push, get_or_push, append-nil}
use Rattle.std.proofs.lemmas.Grind.{flat_map-append}
use Rattle.conf_text.specs.Entries.{Text}
use Rattle.conf_text.specs.Lists.{list_begun, list_added}
use Rattle.conf_text.proofs.Lists.{elements_more}
use Rattle.meta_print.specs.Layout.{word_if}
use Rattle.meta_print.specs.WordsSet.{words_set}

-- one word more
pub word_added : (key : List ℕ) (words : List (List ℕ)) (word : List ℕ) (n : ℕ) → n ≡ length words
    → list_begun key (map Text words) ++ list_added n (Text word ∷ []) ≡ list_begun key (map Text (words ++ word ∷ []))
word_added key words word n same =
    let more : List (List ℕ) = words ++ word ∷ [] in
    let before : take n more ≡ words = take_at words (word ∷ []) n (sym same) in
    let all : take (n + 1) more ≡ more = take_all (n + 1) more (omega (arith, same, length_push words word)) in
    ap (λ ws. list_begun key (map Text ws) ++ list_added n (Text word ∷ [])) (sym before)
    ∙ elements_more Text key more n word [] (omega (arith, same, length_push words word)) (sym (get_or_push words word [] n (sym same)))
    ∙ ap (λ ws. list_begun key (map Text ws)) all

-- one pair more
pub words_set_more : (pairs : List (Bool × Bor (List ℕ))) (at : ℕ) (d : Bool × Bor (List ℕ)) → at < length pairs
    → words_set (take (at + 1) pairs) ≡ words_set (take at pairs) ++ word_if (get_or pairs at d).0 (get_or pairs at d).1.now
words_set_more pairs at d within =
    ap words_set (take_more pairs at d within)
    ∙ flat_map-append (λ pair. word_if pair.0 pair.1.now) (take at pairs) (get_or pairs at d ∷ [])
    ∙ ap (λ more. words_set (take at pairs) ++ more) (append-nil (word_if (get_or pairs at d).0 (get_or pairs at d).1.now))

-- a pair whose word is set
pub words_set-set : (key : List ℕ) (pairs : List (Bool × Bor (List ℕ))) (at count : ℕ) (d : Bool × Bor (List ℕ)) → at < length pairs
    → count ≡ length (words_set (take at pairs)) → (get_or pairs at d).0 ≡ true
    → (list_begun key (map Text (words_set (take at pairs))) ++ list_added count (Text (get_or pairs at d).1.now ∷ [])
    ≡ list_begun key (map Text (words_set (take (at + 1) pairs))))
    × (count + 1 ≡ length (words_set (take (at + 1) pairs)))
words_set-set key pairs at count d within counts set =
    let more : words_set (take (at + 1) pairs) ≡ words_set (take at pairs) ++ (get_or pairs at d).1.now ∷ [] =
    words_set_more pairs at d within ∙ rw set refl in (
      word_added key (words_set (take at pairs)) (get_or pairs at d).1.now count counts
          ∙ ap (λ ws. list_begun key (map Text ws)) (sym more),
      omega (arith, counts, length_push (words_set (take at pairs)) (get_or pairs at d).1.now, ap length more),
    )

-- one whose word isn't
pub words_set-unset : (pairs : List (Bool × Bor (List ℕ))) (at : ℕ) (d : Bool × Bor (List ℕ)) → at < length pairs
    → (get_or pairs at d).0 ≡ false → words_set (take (at + 1) pairs) ≡ words_set (take at pairs)
words_set-unset pairs at d within unset = words_set_more pairs at d within ∙ rw unset (append-nil (words_set (take at pairs)))
