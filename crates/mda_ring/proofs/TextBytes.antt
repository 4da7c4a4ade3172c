-- The bytes of a text in the sectors of a ring, and in those that it is put into.
use Rattle.std.proofs.Common.{◌≡◌, ℕ, ◌+◌, ◌-◌, ◌*◌, ◌/◌, ◌%◌, ◌<◌, ◌≤◌, min, List, [], ◌∷◌, ◌++◌, length, take, drop, map, replicate}
use Rattle.std.proofs.Common.{get_or, ◌⊎◌, inl, inr, refl, sym, ap, ◌∙◌, cond, nat_eq, arith, length-append}
use Rattle.std.proofs.Math.Nat.{mod-eq_of_lt}
use Rattle.std.proofs.lemmas.Bool.{cases_lt}
use Rattle.std.proofs.lemmas.List.{drop-replicate, drop_min, ext_get_or, get_or-append_right, get_or-drop, get_or-replicate, get_or-take}
use Rattle.std.proofs.lemmas.List.{get_or_append_left, get_or_at, get_or_past, take_at, take_min, take_rest}
use Rattle.std.proofs.lemmas.List.FromFn.{fill_by_all, get_or-map-range_with_len, length-map-range_with_len, map-range_with_len_more}
use Rattle.std.specs.List.{range_with_len}
use Rattle.sector_base.specs.Fields.{with_bytes}
use Rattle.sector_base.proofs.Puts.{with_bytes-start}
use Rattle.mda_ring.specs.Ring.{byte_place, need, ring_sector, touched_count}
use Rattle.mda_ring.specs.Texts.{AreRead, byte_in, with_zeros, text_sectors, text_at, text_byte, text_sector, without_zero}
use Rattle.mda_ring.proofs.RingPlaces.{byte_place-cases, mod-once, ring_sector-cases}

-- a place in the list of a text's sectors, without a remainder
list_place-cases : (size offset count total j : ℕ) → size % 512 ≡ 0 → 1536 ≤ size → 512 ≤ offset → offset < size → count ≤ size - 512
    → total ≡ touched_count size offset count → j < count
    → ((offset % 512 + j < 512 * total) × ((offset % 512 + j) % (512 * total) ≡ offset % 512 + j))
    ⊎ ((512 * total ≡ size - 512) × (512 * total ≤ offset % 512 + j)
    × ((offset % 512 + j) % (512 * total) + (size - 512) ≡ offset % 512 + j))
list_place-cases size offset count total j whole big behind before short is within =
    elim (cases_lt (offset % 512 + j) (512 * total)) [
      | inl low ↦ inl (low, mod-eq_of_lt low)
      | inr high ↦
          let full : 512 * total ≡ size - 512 = omega arith in
          inr (full, high, omega (arith, mod-once (offset % 512 + j) (512 * total) high (omega arith)))
    ]

-- byte j of a text is in the sector of the list that it stands in, at its place there
same_place : (size offset count total j : ℕ) → size % 512 ≡ 0 → 1536 ≤ size → 512 ≤ offset → offset < size → count ≤ size - 512
    → total ≡ touched_count size offset count → j < count
    → let at : ℕ = (offset % 512 + j) % (512 * total) in
    (at / 512 < total) × (ring_sector size offset (at / 512) ≡ byte_place size offset j / 512) × (at % 512 ≡ byte_place size offset j % 512)
same_place size offset count total j whole big behind before short is within =
    let at : ℕ = (offset % 512 + j) % (512 * total) in
    elim (list_place-cases size offset count total j whole big behind before short is within) [
      | inl low ↦
          let here : at ≡ offset % 512 + j = low.1 in
          let some : at / 512 < total = omega arith in
          elim (byte_place-cases size offset j behind before (omega arith)) [
            | inl ahead ↦
                elim (ring_sector-cases size offset (at / 512) whole big behind before (omega arith)) [
                  | inl a ↦ (some, omega arith, omega arith)
                  | inr b ↦ absurd (omega arith)
                ]
            | inr round ↦
                elim (ring_sector-cases size offset (at / 512) whole big behind before (omega arith)) [
                  | inl a ↦ absurd (omega arith)
                  | inr b ↦ (some, omega arith, omega arith)
                ]
          ]
      | inr high ↦
          let here : at + (size - 512) ≡ offset % 512 + j = high.2 in
          let first : at / 512 ≡ 0 = omega arith in
          elim (byte_place-cases size offset j behind before (omega arith)) [
            | inl ahead ↦ absurd (omega arith)
            | inr round ↦
                elim (ring_sector-cases size offset (at / 512) whole big behind before (omega arith)) [
                  | inl a ↦ (omega arith, omega arith, omega arith)
                  | inr b ↦ absurd (omega arith)
                ]
          ]
    ]

-- the list of a text's sectors has its bytes
byte_in-text : (sector_at : ℕ → List ℕ) (size offset count : ℕ) (sectors : List (List ℕ)) (j : ℕ) → size % 512 ≡ 0 → 1536 ≤ size
    → 512 ≤ offset → offset < size → count ≤ size - 512 → length sectors ≡ touched_count size offset count
    → AreRead sector_at size offset sectors → j < count → text_byte sector_at size offset j ≡ byte_in sectors (offset % 512 + j)
byte_in-text sector_at size offset count sectors j whole big behind before short is read within =
    let at : ℕ = (offset % 512 + j) % (512 * length sectors) in
    let same = same_place size offset count (length sectors) j whole big behind before short is within in
    ap (λ (s : ℕ). get_or (sector_at s) (byte_place size offset j % 512) 0) (sym same.1)
    ∙ ap (λ (n : ℕ). get_or (sector_at (ring_sector size offset (at / 512))) n 0) (sym same.2)
    ∙ ap (λ (l : List ℕ). get_or l (at % 512) 0) (sym (read.each (at / 512) same.0))

-- the bytes that are taken from the list are those of the text
pub bytes-text_at : (sector_at : ℕ → List ℕ) (size offset count : ℕ) (sectors : List (List ℕ)) (bytes : List ℕ) → size % 512 ≡ 0
    → 1536 ≤ size → 512 ≤ offset → offset < size → count ≤ size - 512 → length sectors ≡ touched_count size offset count
    → AreRead sector_at size offset sectors → bytes ≡ map (λ m. byte_in sectors (offset % 512 + m)) (range_with_len 0 count)
    → bytes ≡ text_at sector_at size offset count
bytes-text_at sector_at size offset count sectors bytes whole big behind before short is read taken =
    let long : length bytes ≡ count = ap length taken ∙ length-map-range_with_len (λ m. byte_in sectors (offset % 512 + m)) 0 count in
    fill_by_all (text_byte sector_at size offset) bytes count 0 long
    (λ k within.
    ap (λ (l : List ℕ). get_or l k 0) taken
    ∙ get_or-map-range_with_len (λ m. byte_in sectors (offset % 512 + m)) 0 count k k 0 within (omega arith)
    ∙ sym (byte_in-text sector_at size offset count sectors k whole big behind before short is read within))

-- zeros behind bytes are what stands behind their end
get_or-with_zeros : (bytes : List ℕ) (i : ℕ) → i < 512 → get_or (with_zeros bytes) i 0 ≡ get_or bytes i 0
get_or-with_zeros bytes i small =
    elim (cases_lt i (length bytes)) [
      | inl low ↦ get_or_append_left bytes (replicate (512 - length bytes) 0) 0 i low
      | inr high ↦
          get_or-append_right bytes (replicate (512 - length bytes) 0) (length bytes) i 0 refl high
          ∙ get_or-replicate (512 - length bytes) (i - length bytes) 0 0 (omega arith)
          ∙ sym (get_or_past bytes i 0 high)
    ]

pub get_or-text_sector : (text : List ℕ) (j : ℕ) → get_or (text_sector text (j / 512)) (j % 512) 0 ≡ get_or text j 0
get_or-text_sector text j =
    get_or-with_zeros (take 512 (drop (512 * (j / 512)) text)) (j % 512) (omega arith)
    ∙ get_or-take 512 (drop (512 * (j / 512)) text) (j % 512) 0 (omega arith)
    ∙ get_or-drop (512 * (j / 512)) text (j % 512) 0
    ∙ ap (λ (n : ℕ). get_or text n 0) (omega arith)

-- a text that was put into sectors has its bytes there, and zeros behind them
byte_in-text_sectors : (text : List ℕ) (total j : ℕ) → j < 512 * total → byte_in (text_sectors text total) j ≡ get_or text j 0
byte_in-text_sectors text total j within =
    let long : length (text_sectors text total) ≡ total = length-map-range_with_len (text_sector text) 0 total in
    let here : j % (512 * length (text_sectors text total)) ≡ j = ap (λ (n : ℕ). j % (512 * n)) long ∙ mod-eq_of_lt within in
    ap (λ (n : ℕ). get_or (get_or (text_sectors text total) (n / 512) []) (n % 512) 0) here
    ∙ ap (λ (l : List ℕ). get_or l (j % 512) 0)
    (get_or-map-range_with_len (text_sector text) 0 total (j / 512) (j / 512) [] (omega arith) (omega arith))
    ∙ get_or-text_sector text j

pub get_or-with_zero : (text : List ℕ) (j : ℕ) → j < length text + 1 → get_or (text ++ 0 ∷ []) j 0 ≡ get_or text j 0
get_or-with_zero text j within =
    elim (cases_lt j (length text)) [
      | inl low ↦ get_or_append_left text (0 ∷ []) 0 j low
      | inr high ↦ get_or_at text 0 [] 0 j (omega arith) ∙ sym (get_or_past text j 0 high)
    ]

pub length-with_zero : (text : List ℕ) → length (text ++ 0 ∷ []) ≡ length text + 1
length-with_zero text = length-append text (0 ∷ [])

-- what is taken from the sectors of a text is the text and its zero byte
pub bytes-text_sectors : (text : List ℕ) (sectors : List (List ℕ)) (bytes : List ℕ) (skip count : ℕ)
    → sectors ≡ text_sectors text (need (length text + 1)) → skip ≡ 0 → count ≡ length text + 1
    → bytes ≡ map (λ m. byte_in sectors (skip + m)) (range_with_len 0 count) → bytes ≡ text ++ 0 ∷ []
bytes-text_sectors text sectors bytes skip count put aligned long taken =
    let total : ℕ = need (length text + 1) in
    let all : length bytes ≡ length text + 1 =
    ap length taken ∙ length-map-range_with_len (λ m. byte_in sectors (skip + m)) 0 count ∙ long in
    let each : (k : ℕ) → k < length text + 1 → get_or bytes k 0 ≡ get_or (text ++ 0 ∷ []) k 0 = λ k within.
    ap (λ (l : List ℕ). get_or l k 0) taken
    ∙ get_or-map-range_with_len (λ m. byte_in sectors (skip + m)) 0 count k k 0 (omega arith) (omega arith)
    ∙ ap (λ (n : ℕ). byte_in sectors n) (omega arith)
    ∙ ap (λ (l : List (List ℕ)). byte_in l k) put
    ∙ byte_in-text_sectors text total k (omega arith)
    ∙ sym (get_or-with_zero text k within)
    in
    ext_get_or 0 bytes (text ++ 0 ∷ []) (all ∙ sym (length-with_zero text)) (λ k within. each k (omega arith))

-- the text stands where its sectors are
pub text_at-text_sectors : (sector_at : ℕ → List ℕ) (size offset total : ℕ) (text : List ℕ) → size % 512 ≡ 0 → 1536 ≤ size → 512 ≤ offset
    → offset < size → offset % 512 ≡ 0 → 512 * total ≤ size - 512 → total ≡ need (length text + 1)
    → AreRead sector_at size offset (text_sectors text total) → text_at sector_at size offset (length text + 1) ≡ text ++ 0 ∷ []
text_at-text_sectors sector_at size offset total text whole big behind before aligned short is read =
    let long : length (text_sectors text total) ≡ total = length-map-range_with_len (text_sector text) 0 total in
    sym (fill_by_all (text_byte sector_at size offset) (text ++ 0 ∷ []) (length text + 1) 0 (length-with_zero text)
    (λ k within.
    get_or-with_zero text k within
    ∙ sym (byte_in-text_sectors text total k (omega arith))
    ∙ ap (byte_in (text_sectors text total)) (omega arith)
    ∙ sym (byte_in-text sector_at size offset (length text + 1) (text_sectors text total) k whole big behind before (omega arith)
    (omega arith) read within)))

-- the zero byte of a text is dropped again
pub without_zero-zero : (text : List ℕ) → without_zero (text ++ 0 ∷ []) ≡ text
without_zero-zero text =
    let last : length (text ++ 0 ∷ []) - 1 ≡ length text = omega (arith, length-with_zero text) in
    ap (λ (n : ℕ). cond (nat_eq (get_or (text ++ 0 ∷ []) n 1) 0) (take n (text ++ 0 ∷ [])) (text ++ 0 ∷ [])) last
    ∙ ap (λ (n : ℕ). cond (nat_eq n 0) (take (length text) (text ++ 0 ∷ [])) (text ++ 0 ∷ [])) (get_or_at text 0 [] 1 (length text) refl)
    ∙ take_at text (0 ∷ []) (length text) refl

-- one sector more
pub scattered_more : (text : List ℕ) (k : ℕ) → text_sectors text (k + 1) ≡ text_sectors text k ++ text_sector text k ∷ []
scattered_more text k = map-range_with_len_more (text_sector text) 0 k k (omega arith)

-- bytes that are put over zeros are filled up
pub with_zeros-put : (zeros bytes : List ℕ) (k start m : ℕ) → start ≡ min (512 * k) (length bytes) → zeros ≡ replicate 512 0
    → m ≡ min (length (take (length bytes - start) (drop start bytes))) 512
    → with_bytes zeros 0 (take m (take (length bytes - start) (drop start bytes))) ≡ text_sector bytes k
with_zeros-put zeros bytes k start m begins all is =
    let rest : List ℕ = drop start bytes in
    let to_end : take (length bytes - start) rest ≡ rest = take_rest bytes start in
    let short : m ≡ min 512 (length rest) = is ∙ ap (λ (l : List ℕ). min (length l) 512) to_end ∙ omega arith in
    let put : take m (take (length bytes - start) rest) ≡ take 512 rest =
    ap (take m) to_end ∙ ap (λ (n : ℕ). take n rest) short ∙ take_min 512 rest
    in
    ap (with_bytes zeros 0) put
    ∙ with_bytes-start zeros (take 512 rest)
    ∙ ap (λ (l : List ℕ). take 512 rest ++ drop (length (take 512 rest)) l) all
    ∙ ap (λ (l : List ℕ). take 512 rest ++ l) (drop-replicate (length (take 512 rest)) 512 0)
    ∙ ap (λ (l : List ℕ). with_zeros (take 512 l)) (ap (λ (n : ℕ). drop n bytes) begins ∙ drop_min (512 * k) bytes)
