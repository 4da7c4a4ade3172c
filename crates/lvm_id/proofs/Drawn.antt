-- The characters that numbers give.
use Rattle.std.proofs.Common.{◌≡◌, ℕ, ◌+◌, ◌/◌, ◌%◌, ◌^◌, ◌<◌, List, [], ◌∷◌, ◌++◌, length, refl, sym, ap, ◌∙◌, arith, add-one}
use Rattle.std.specs.Prelude.{replicate, All}
use Rattle.std.specs.List.{range_with_len}
use Rattle.std.proofs.Math.Nat.{mod-lt, pow-suc, div-div-eq-div-mul}
use Rattle.std.proofs.lemmas.Bool.Decides.{nat_tests}
use Rattle.std.proofs.lemmas.List.Elements.{All-map, All-append, All-nil}
use Rattle.std.proofs.lemmas.List.{nil_from_length}
use Rattle.lvm_id.specs.LvmId.{IsId, IsIdChar, digit_char, word_chars, id_of_words}
use Rattle.lvm_id.specs.Put.{with_bytes}

-- what is left of a number after one digit more
pub digits_left : (word rest j : ℕ) → rest ≡ word / 62 ^ j → rest / 62 ≡ word / 62 ^ (j + 1)
digits_left word rest j e =
    ap (λ x. x / 62) e ∙ div-div-eq-div-mul word (62 ^ j) 62 ∙ ap (λ x. word / x) (rw (add-one j, pow-suc 62 j) refl)

IsIdChar-digit_char : (d : ℕ) → d < 62 → IsIdChar (digit_char d)
unfolding digit_char
IsIdChar-digit_char d below = grind (arith, nat_tests)

All-word_chars : (word : ℕ) → All IsIdChar (word_chars word)
unfolding word_chars
All-word_chars word =
    All-map IsIdChar (λ j. digit_char ((word / 62 ^ j) % 62)) (range_with_len 0 8) (λ k d h. IsIdChar-digit_char _ (mod-lt _ (omega arith)))

length-four : (a b c d : ℕ) → length (id_of_words (a ∷ b ∷ c ∷ d ∷ [])) ≡ 32
unfolding word_chars
length-four a b c d = refl

pub IsId-four : (a b c d : ℕ) → IsId (id_of_words (a ∷ b ∷ c ∷ d ∷ []))
IsId-four a b c d = record {
  length_is = length-four a b c d;
  in_alphabet =
      All-append IsIdChar _ _ (All-word_chars a)
      (All-append IsIdChar _ _ (All-word_chars b)
      (All-append IsIdChar _ _ (All-word_chars c) (All-append IsIdChar _ _ (All-word_chars d) (All-nil IsIdChar))));
}

-- the characters of four numbers, put behind one another
pub four_put : (a b c d : ℕ) → with_bytes
    (with_bytes (with_bytes (with_bytes (replicate 32 0) 0 (word_chars a)) 8 (word_chars b)) 16 (word_chars c)) 24 (word_chars d)
    ≡ id_of_words (a ∷ b ∷ c ∷ d ∷ [])
unfolding word_chars
four_put a b c d = refl

-- four draws, from each state to the next
module _ {S : Type 0} (upcoming : S → ℕ → List ℕ) (s0 s1 s2 s3 s4 : S) (a b c d : ℕ)
    (first : (n : ℕ) → upcoming s0 (n + 1) ≡ a ∷ upcoming s1 n) (second : (n : ℕ) → upcoming s1 (n + 1) ≡ b ∷ upcoming s2 n)
    (third : (n : ℕ) → upcoming s2 (n + 1) ≡ c ∷ upcoming s3 n) (fourth : (n : ℕ) → upcoming s3 (n + 1) ≡ d ∷ upcoming s4 n)
    (counted : (n : ℕ) → length (upcoming s4 n) ≡ n) where
  four_and_more : (n : ℕ) → upcoming s0 (4 + n) ≡ a ∷ b ∷ c ∷ d ∷ upcoming s4 n
  four_and_more n =
      ap (upcoming s0) (omega arith) ∙ first (n + 1 + 1 + 1)
      ∙ ap (λ xs. a ∷ xs) (second (n + 1 + 1) ∙ ap (λ xs. b ∷ xs) (third (n + 1) ∙ ap (λ xs. c ∷ xs) (fourth n)))

  pub four_drawn : upcoming s0 4 ≡ a ∷ b ∷ c ∷ d ∷ []
  four_drawn = four_and_more 0 ∙ ap (λ xs. a ∷ b ∷ c ∷ d ∷ xs) (nil_from_length _ (counted 0))

  pub moved_by_four : (n : ℕ) → upcoming s0 (4 + n) ≡ upcoming s0 4 ++ upcoming s4 n
  moved_by_four n = four_and_more n ∙ sym (ap (λ xs. xs ++ upcoming s4 n) four_drawn)
