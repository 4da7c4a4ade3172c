-- Bytes that stand side by side in a sector, among the bytes of all sectors.
use Rattle.std.proofs.Common.{◌≡◌, ℕ, ◌+◌, ◌-◌, ◌*◌, ◌/◌, ◌%◌, ◌<◌, List, [], ◌++◌, length, take, drop, map, get_or, inl, inr, refl, sym}
use Rattle.std.proofs.Common.{ap, ◌∙◌, arith, length-append}
use Rattle.std.proofs.Math.Nat.{add-mul-mod_self_left, mod-add-div, mod-eq_of_lt, mod-lt}
use Rattle.std.proofs.lemmas.Bool.{cases_lt}
use Rattle.std.proofs.lemmas.List.{get_or-append_right, get_or-drop, get_or-take, get_or_append_left, length-drop, length-take}
use Rattle.std.proofs.lemmas.List.FromFn.{fill_by_all, get_or-map-range_with_len, length-map-range_with_len}
use Rattle.std.specs.List.{range_with_len}
use Rattle.mda_ring.specs.Texts.{byte_in}

-- the places behind a place, up to the end of its sector
place_within : (total at place k : ℕ) → 0 < total → place ≡ at % (512 * total) → place % 512 + k < 512
    → (at + k) % (512 * total) ≡ place + k
place_within total at place k some is small =
    let below : at % (512 * total) < 512 * total = mod-lt at (omega arith) in
    let fits : place + k < 512 * total = omega arith in
    let turns : (at + k) ≡ (place + k) + 512 * total * (at / (512 * total)) = omega (arith, mod-add-div at (512 * total)) in
    ap (λ (n : ℕ). n % (512 * total)) turns ∙ add-mul-mod_self_left (place + k) (512 * total) (at / (512 * total)) ∙ mod-eq_of_lt fits

byte_within : (sectors : List (List ℕ)) (sector : List ℕ) (at place k : ℕ) → 0 < length sectors → place ≡ at % (512 * length sectors)
    → sector ≡ get_or sectors (place / 512) [] → place % 512 + k < 512
    → get_or sector (place % 512 + k) 0 ≡ byte_in sectors (at + k)
byte_within sectors sector at place k some is of small =
    let here : (at + k) % (512 * length sectors) ≡ place + k = place_within (length sectors) at place k some is small in
    ap (λ (l : List ℕ). get_or l (place % 512 + k) 0) of
    ∙ ap (λ (n : ℕ). get_or (get_or sectors n []) (place % 512 + k) 0) (omega arith)
    ∙ ap (λ (n : ℕ). get_or (get_or sectors ((place + k) / 512) []) n 0) (omega arith)
    ∙ ap (λ (n : ℕ). get_or (get_or sectors (n / 512) []) (n % 512) 0) (sym here)

-- a part of a sector has the bytes of its place
pub part_bytes : (sectors : List (List ℕ)) (sector part : List ℕ) (at place n : ℕ) → 0 < length sectors
    → place ≡ at % (512 * length sectors) → sector ≡ get_or sectors (place / 512) [] → length sector ≡ 512
    → part ≡ take n (drop (place % 512) sector)
    → part ≡ map (λ j. byte_in sectors (at + j)) (range_with_len 0 (length part))
part_bytes sectors sector part at place n some is of long taken =
    let rest : List ℕ = drop (place % 512) sector in
    let size : length part ≡ length (take n rest) = ap length taken in
    fill_by_all (λ j. byte_in sectors (at + j)) part (length part) 0 refl
    (λ k within.
    ap (λ (l : List ℕ). get_or l k 0) taken
    ∙ get_or-take n rest k 0 (omega (arith, size, length-take n rest))
    ∙ get_or-drop (place % 512) sector k 0
    ∙ byte_within sectors sector at place k some is of (omega (arith, size, length-take n rest, length-drop (place % 512) sector)))

-- values of a function, and those that come next
values_both : (f g : ℕ → ℕ) (xs ys : List ℕ) (n m : ℕ) → xs ≡ map f (range_with_len 0 n) → ys ≡ map g (range_with_len 0 m)
    → ((j : ℕ) → g j ≡ f (n + j)) → xs ++ ys ≡ map f (range_with_len 0 (n + m))
values_both f g xs ys n m are next follow =
    let first : length xs ≡ n = ap length are ∙ length-map-range_with_len f 0 n in
    let second : length ys ≡ m = ap length next ∙ length-map-range_with_len g 0 m in
    fill_by_all f (xs ++ ys) (n + m) 0 (omega (arith, first, second, length-append xs ys))
    (λ k within.
    elim (cases_lt k n) [
      | inl low ↦
          get_or_append_left xs ys 0 k (omega (arith, first))
          ∙ ap (λ (l : List ℕ). get_or l k 0) are
          ∙ get_or-map-range_with_len f 0 n k k 0 low (omega arith)
      | inr high ↦
          get_or-append_right xs ys n k 0 first high
          ∙ ap (λ (l : List ℕ). get_or l (k - n) 0) next
          ∙ get_or-map-range_with_len g 0 m (k - n) (k - n) 0 (omega arith) (omega arith)
          ∙ follow (k - n)
          ∙ ap f (omega arith)
    ])

-- the part that comes next is taken
pub taken_more : (sectors : List (List ℕ)) (skip count at total : ℕ) (bytes part all : List ℕ)
    → bytes ≡ map (λ m. byte_in sectors (skip + m)) (range_with_len 0 count)
    → part ≡ map (λ j. byte_in sectors (at + j)) (range_with_len 0 (length part))
    → at ≡ skip + count → all ≡ bytes ++ part → total ≡ count + length part
    → all ≡ map (λ m. byte_in sectors (skip + m)) (range_with_len 0 total)
taken_more sectors skip count at total bytes part all was next here is size =
    is
    ∙ values_both (λ m. byte_in sectors (skip + m)) (λ j. byte_in sectors (at + j)) bytes part count (length part) was next
    (λ j. ap (byte_in sectors) (omega arith))
    ∙ ap (λ (n : ℕ). map (λ m. byte_in sectors (skip + m)) (range_with_len 0 n)) (sym size)
