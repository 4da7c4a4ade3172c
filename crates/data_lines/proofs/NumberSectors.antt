-- A sector of 64 times a number, byte by byte.
use Rattle.std.proofs.Common.{◌≡◌, ◌<◌, ℕ, ◌%◌, ◌^◌, List, length, get_or, map, refl, sym, ap, ◌∙◌}
use Rattle.std.specs.Prelude.{flat_map}
use Rattle.std.specs.Hash.{le_bytes}
use Rattle.std.specs.Int.{byte_at, to_le_bytes, w64}
use Rattle.std.specs.List.{range_with_len}
use Rattle.std.proofs.Math.Nat.{mod-eq_of_lt, mod-mod}
use Rattle.std.proofs.lemmas.List.FromFn.{fill_by_all}
use Rattle.data_lines.specs.DataLines.{number_sector}

-- 64 times the same list of bytes
abbrev copies : List ℕ → List ℕ
copies word = flat_map (λ (k : ℕ). word) (range_with_len 0 64)

eight_bytes : (n : ℕ) → map (λ (i : ℕ). byte_at i n) (range_with_len 0 8) ≡ le_bytes 8 n
unfolding le_bytes
eight_bytes n = refl

tiled : (f : ℕ → ℕ) → map (λ (i : ℕ). get_or (map f (range_with_len 0 8)) (i % 8) 0) (range_with_len 0 512)
    ≡ copies (map f (range_with_len 0 8))
tiled f = refl

-- each byte is that of the number's eight with the place's rest
pub is_number_sector : (number : ℕ) (word bytes : List ℕ) → number < 2 ^ 64 → word ≡ to_le_bytes w64 number → length bytes ≡ 512
    → ((k : ℕ) → k < 512 → get_or bytes k 0 ≡ get_or word (k % 8) 0) → bytes ≡ number_sector number
is_number_sector number word bytes small is long each =
    let eight : List ℕ = map (λ (i : ℕ). byte_at i number) (range_with_len 0 8) in
    fill_by_all (λ (k : ℕ). get_or eight (k % 8) 0) bytes 512 0 long (λ k lt. each k lt ∙ ap (λ (w : List ℕ). get_or w (k % 8) 0) is)
    ∙ tiled (λ (i : ℕ). byte_at i number) ∙ ap copies (eight_bytes number)
    ∙ ap (λ (n : ℕ). copies (le_bytes 8 n)) (sym (mod-eq_of_lt small))

-- what is beyond 2^64 is left out
pub wrapped_sector : (n m : ℕ) → m ≡ n % 2 ^ 64 → number_sector m ≡ number_sector n
wrapped_sector n m is =
    ap (λ (k : ℕ). copies (le_bytes 8 (k % 2 ^ 64))) is ∙ ap (λ (k : ℕ). copies (le_bytes 8 k)) (mod-mod n (2 ^ 64))
