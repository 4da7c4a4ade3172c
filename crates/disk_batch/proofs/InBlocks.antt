-- What is written in blocks is what was to be written.
use Rattle.std.proofs.Common.{◌≡◌, ◌≤◌, ◌<◌, ◌⊎◌, ◌+◌, ◌-◌, ◌*◌, ◌/◌, ◌%◌, ◌==◌, ◌&&◌, cond, nat_le, nat_lt, ℕ, zero, suc, Bool, true}
use Rattle.std.proofs.Common.{false}
use Rattle.std.proofs.Common.{List, [], ◌∷◌, ◌++◌, drop, length, map, flat_map, get_or, All, inl, inr, ⊎_elim, refl, sym, ap, subst}
use Rattle.std.proofs.Common.{◌∙◌, arith}
use Rattle.std.specs.List.{range_with_len}
use Rattle.std.proofs.lemmas.Bool.{and_from, and_parts, cases_lt, eq-eqb, eqb-true, false_from_ne_true, le-leb, leb-true, lt-ltb, ltb-true}
use Rattle.std.proofs.lemmas.Bool.{or_cases, or_left, or_right, true≢false}
use Rattle.std.proofs.lemmas.List.{get_or-drop, get_or-take, length-drop, length-take-le}
use Rattle.std.proofs.lemmas.List.Elements.{All-append, All-cons, All-nil, All-weaker}
use Rattle.sector_base.specs.declared.spans.Span.{Span}
use Rattle.sector_base.specs.Spans.{covers}
use Rattle.disk_model.specs.Operations.{Fills}
use Rattle.disk_model.specs.Steps.{value_at}
use Rattle.disk_batch.specs.Blocks.{blocks_of, end_of, in_blocks, piece_of}
use Rattle.disk_batch.specs.InTurn.{Put, ShareNoSector}
use Rattle.disk_batch.specs.Writes.{IsWrittenBy, LieIn, block_size}
use Rattle.disk_batch.proofs.WritesApart.{apart_both, at_either, each_has, is_written}

-- ---- spans

covered : (span : Span) (pv sector : ℕ) → covers span pv sector ≡ true
    → (span.pv ≡ pv) × (span.first ≤ sector) × (sector < span.first + span.count)
covered span pv sector is =
    let parts = and_parts (span.pv == pv && nat_le span.first sector) (nat_lt sector (span.first + span.count)) is in
    let front = and_parts (span.pv == pv) (nat_le span.first sector) parts.0 in
    (eqb-true span.pv pv front.0, leb-true span.first sector front.1, ltb-true sector (span.first + span.count) parts.1)

covers_there : (span : Span) (pv sector : ℕ) → span.pv ≡ pv → span.first ≤ sector → sector < span.first + span.count
    → covers span pv sector ≡ true
covers_there span pv sector disk from to =
    and_from (span.pv == pv && nat_le span.first sector) (nat_lt sector (span.first + span.count))
    (and_from (span.pv == pv) (nat_le span.first sector) (eq-eqb span.pv pv disk) (le-leb span.first sector from))
    (lt-ltb sector (span.first + span.count) to)

-- the write covers the sector, and writes this value to it
abbrev By : Put → ℕ → ℕ → List ℕ → Type 0
By put pv sector value = (covers put.0 pv sector ≡ true) × (value ≡ value_at put.0 put.1 sector)

-- what a piece writes its write does
piece_by : (put : Put) (from count pv sector : ℕ) (value : List ℕ) → from + count ≤ put.0.count
    → By (piece_of put from count) pv sector value
    → By put pv sector value
piece_by put from count pv sector value le h =
    let c = covered (piece_of put from count).0 pv sector h.0 in
    let at : ℕ = sector - (put.0.first + from) in
    let place : from + at ≡ sector - put.0.first = omega (arith, c.1) in (
      covers_there put.0 pv sector c.0 (omega (arith, c.1)) (omega (arith, c.2, le)),
      h.1 ∙ get_or-take count (drop from put.1) at [] (omega (arith, c.1, c.2)) ∙ get_or-drop from put.1 at []
          ∙ ap (λ (n : ℕ). get_or put.1 n []) place,
    )

-- ---- the blocks of one write, from one of them on

abbrev block_at : Put → ℕ → Put
block_at put k = piece_of put (block_size * k) block_size

abbrev blocks_from : Put → ℕ → ℕ → List Put
blocks_from put first many = map (block_at put) (range_with_len first many)

blocks_by : (put : Put) (first many pv sector : ℕ) (value : List ℕ) → block_size * (first + many) ≤ put.0.count
    → IsWrittenBy (blocks_from put first many) pv sector value → By put pv sector value
blocks_by put first zero pv sector value le h = absurd h
blocks_by put first (suc many) pv sector value le h =
    ⊎_elim (λ here. piece_by put (block_size * first) block_size pv sector value (omega (arith, le)) here)
    (λ later. blocks_by put (first + 1) many pv sector value (omega (arith, le)) later) h

-- where they lie
blocks_within : (put : Put) (first many pv sector : ℕ) → is_written (blocks_from put first many) pv sector ≡ true
    → (put.0.pv ≡ pv) × (put.0.first + block_size * first ≤ sector) × (sector < put.0.first + block_size * (first + many))
blocks_within put first zero pv sector h = absurd (true≢false (sym h))
blocks_within put first (suc many) pv sector h =
    ⊎_elim
    (λ here. let c = covered (block_at put first).0 pv sector here in (c.0, c.1, omega (arith, c.2)))
    (λ later.
    let r = blocks_within put (first + 1) many pv sector later in (r.0, omega (arith, r.1), omega (arith, r.2)))
    (or_cases (covers (block_at put first).0 pv sector) (is_written (blocks_from put (first + 1) many) pv sector) h)

blocks_there : (put : Put) (first many k pv sector : ℕ) → first ≤ k → k < first + many → covers (block_at put k).0 pv sector ≡ true
    → is_written (blocks_from put first many) pv sector ≡ true
blocks_there put first zero k pv sector from to h = absurd (omega (arith, from, to))
blocks_there put first (suc many) k pv sector from to h =
    ⊎_elim
    (λ (past : first < k). or_right (covers (block_at put first).0 pv sector) (is_written (blocks_from put (first + 1) many) pv sector)
    (blocks_there put (first + 1) many k pv sector (omega arith) (omega (arith, to)) h))
    (λ (here : k ≤ first).
    let e : k ≡ first = omega (arith, from, here) in
    or_left (covers (block_at put first).0 pv sector) (is_written (blocks_from put (first + 1) many) pv sector)
    (subst (λ (n : ℕ). covers (block_at put n).0 pv sector ≡ true) e h))
    (cases_lt first k)

blocks_alone : (put : Put) (first many : ℕ) → ShareNoSector (blocks_from put first many)
blocks_alone put first zero = tt
blocks_alone put first (suc many) = (
  λ pv sector here.
      false_from_ne_true (is_written (blocks_from put (first + 1) many) pv sector)
      (λ later.
      let c = covered (block_at put first).0 pv sector here in
      let r = blocks_within put (first + 1) many pv sector later in omega (arith, c.2, r.1)),
  blocks_alone put (first + 1) many,
)

blocks_all : (P : Put → Type 0) (put : Put) → ((from count : ℕ) → from + count ≤ put.0.count → P (piece_of put from count))
    → (first many : ℕ) → block_size * (first + many) ≤ put.0.count → All P (blocks_from put first many)
blocks_all P put each first zero le = All-nil P
blocks_all P put each first (suc many) le =
    All-cons P (block_at put first) (blocks_from put (first + 1) many) (each (block_size * first) block_size (omega (arith, le)))
    (blocks_all P put each (first + 1) many (omega (arith, le)))

-- ---- one write: its blocks, and what is left behind them

module _ (put : Put) where
  abbrev many : ℕ
  many = put.0.count / block_size

  abbrev left : ℕ
  left = put.0.count % block_size

  abbrev last : Put
  last = piece_of put (block_size * many) left

  ends_by : (b : Bool) (pv sector : ℕ) (value : List ℕ) → IsWrittenBy (cond b [] (last ∷ [])) pv sector value → By put pv sector value
  ends_by true pv sector value h = absurd h
  ends_by false pv sector value h =
      ⊎_elim (λ here. piece_by put (block_size * many) left pv sector value (omega arith) here) (λ no. absurd no) h

  ends_within : (b : Bool) (pv sector : ℕ) → is_written (cond b [] (last ∷ [])) pv sector ≡ true
      → (put.0.pv ≡ pv) × (put.0.first + block_size * many ≤ sector) × (sector < put.0.first + put.0.count)
  ends_within true pv sector h = absurd (true≢false (sym h))
  ends_within false pv sector h =
      ⊎_elim (λ here. let c = covered last.0 pv sector here in (c.0, c.1, omega (arith, c.2))) (λ no. absurd (true≢false (sym no)))
      (or_cases (covers last.0 pv sector) false h)

  ends_alone : (b : Bool) → ShareNoSector (cond b [] (last ∷ []))
  ends_alone true = tt
  ends_alone false = (λ pv sector here. refl, tt)

  ends_all : (P : Put → Type 0) → ((from count : ℕ) → from + count ≤ put.0.count → P (piece_of put from count)) → (b : Bool)
      → All P (cond b [] (last ∷ []))
  ends_all P each true = All-nil P
  ends_all P each false = All-cons P last [] (each (block_size * many) left (omega arith)) (All-nil P)

  -- one of these covers what the write does
  ends_there : (b : Bool) → (left == 0) ≡ b → (pv sector : ℕ) → covers put.0 pv sector ≡ true → put.0.first + block_size * many ≤ sector
      → is_written (cond b [] (last ∷ [])) pv sector ≡ true
  ends_there true none pv sector h past =
      let c = covered put.0 pv sector h in
      let e : left ≡ 0 = eqb-true left 0 none in absurd (omega (arith, c.2, past, e))
  ends_there false none pv sector h past =
      let c = covered put.0 pv sector h in
      or_left (covers last.0 pv sector) false (covers_there last.0 pv sector c.0 past (omega (arith, c.2)))

  piece_there : (pv sector : ℕ) → covers put.0 pv sector ≡ true
      → (is_written (blocks_of put) pv sector ≡ true) ⊎ (is_written (end_of put) pv sector ≡ true)
  piece_there pv sector h =
      let c = covered put.0 pv sector h in
      let k : ℕ = (sector - put.0.first) / block_size in
      ⊎_elim
      (λ (within : k < many). inl (blocks_there put 0 many k pv sector (omega arith) (omega (arith, within))
      (covers_there (block_at put k).0 pv sector c.0 (omega (arith, c.1)) (omega (arith, c.1)))))
      (λ (past : many ≤ k). inr (ends_there (left == 0) refl pv sector h (omega (arith, c.1, past)))) (cases_lt k many)

-- ---- all writes

written_either : (puts more : List Put) (pv sector : ℕ) (value : List ℕ) → IsWrittenBy (puts ++ more) pv sector value
    → IsWrittenBy puts pv sector value ⊎ IsWrittenBy more pv sector value
written_either [] more pv sector value h = inr h
written_either (put ∷ puts) more pv sector value h =
    ⊎_elim (λ here. inl (inl here)) (λ later. ⊎_elim (λ a. inl (inr a)) (λ b. inr b) (written_either puts more pv sector value later)) h

left_written : (puts more : List Put) (pv sector : ℕ) → is_written puts pv sector ≡ true → is_written (puts ++ more) pv sector ≡ true
left_written [] more pv sector h = absurd (true≢false (sym h))
left_written (put ∷ puts) more pv sector h =
    ⊎_elim (λ here. or_left (covers put.0 pv sector) (is_written (puts ++ more) pv sector) here)
    (λ later. or_right (covers put.0 pv sector) (is_written (puts ++ more) pv sector) (left_written puts more pv sector later))
    (or_cases (covers put.0 pv sector) (is_written puts pv sector) h)

right_written : (puts more : List Put) (pv sector : ℕ) → is_written more pv sector ≡ true → is_written (puts ++ more) pv sector ≡ true
right_written [] more pv sector h = h
right_written (put ∷ puts) more pv sector h =
    or_right (covers put.0 pv sector) (is_written (puts ++ more) pv sector) (right_written puts more pv sector h)

module _ (parts_of : Put → List Put) where
  flat_by : ((put : Put) (pv sector : ℕ) (value : List ℕ) → IsWrittenBy (parts_of put) pv sector value → By put pv sector value)
      → (puts : List Put) (pv sector : ℕ) (value : List ℕ) → IsWrittenBy (flat_map parts_of puts) pv sector value
      → IsWrittenBy puts pv sector value
  flat_by by [] pv sector value h = h
  flat_by by (put ∷ puts) pv sector value h =
      ⊎_elim (λ here. inl (by put pv sector value here)) (λ later. inr (flat_by by puts pv sector value later))
      (written_either (parts_of put) (flat_map parts_of puts) pv sector value h)

  module _ (inside : (put : Put) (pv sector : ℕ) → is_written (parts_of put) pv sector ≡ true → covers put.0 pv sector ≡ true) where
    flat_inside : (puts : List Put) (pv sector : ℕ) → is_written (flat_map parts_of puts) pv sector ≡ true
        → is_written puts pv sector ≡ true
    flat_inside [] pv sector h = h
    flat_inside (put ∷ puts) pv sector h =
        ⊎_elim (λ here. or_left (covers put.0 pv sector) (is_written puts pv sector) (inside put pv sector here))
        (λ later. or_right (covers put.0 pv sector) (is_written puts pv sector) (flat_inside puts pv sector later))
        (at_either (parts_of put) (flat_map parts_of puts) pv sector h)

    flat_apart : ((put : Put) → ShareNoSector (parts_of put)) → (puts : List Put) → ShareNoSector puts
        → ShareNoSector (flat_map parts_of puts)
    flat_apart alone [] h = tt
    flat_apart alone (put ∷ puts) h =
        apart_both (parts_of put) (flat_map parts_of puts) (alone put) (flat_apart alone puts h.1)
        (λ pv sector here there. true≢false (sym (flat_inside puts pv sector there) ∙ h.0 pv sector (inside put pv sector here)))

block_inside : (put : Put) (pv sector : ℕ) → is_written (blocks_of put) pv sector ≡ true → covers put.0 pv sector ≡ true
block_inside put pv sector h =
    let r = blocks_within put 0 (put.0.count / block_size) pv sector h in
    covers_there put.0 pv sector r.0 (omega (arith, r.1)) (omega (arith, r.2))

end_inside : (put : Put) (pv sector : ℕ) → is_written (end_of put) pv sector ≡ true → covers put.0 pv sector ≡ true
end_inside put pv sector h =
    let r = ends_within put (put.0.count % block_size == 0) pv sector h in
    covers_there put.0 pv sector r.0 (omega (arith, r.1)) r.2

-- a value that they write the writes do
pub blocks_written : (puts : List Put) (pv sector : ℕ) (value : List ℕ) → IsWrittenBy (in_blocks puts) pv sector value
    → IsWrittenBy puts pv sector value
blocks_written puts pv sector value h =
    ⊎_elim
    (λ a. flat_by blocks_of
    (λ put p s v is. blocks_by put 0 (put.0.count / block_size) p s v (omega arith) is) puts pv sector value a)
    (λ b. flat_by end_of (λ put p s v is. ends_by put (put.0.count % block_size == 0) p s v is) puts pv sector value b)
    (written_either (flat_map blocks_of puts) (flat_map end_of puts) pv sector value h)

-- and a sector that the writes write they do
pieces_there : (puts : List Put) (pv sector : ℕ) → is_written puts pv sector ≡ true
    → (is_written (flat_map blocks_of puts) pv sector ≡ true) ⊎ (is_written (flat_map end_of puts) pv sector ≡ true)
pieces_there [] pv sector h = inl h
pieces_there (put ∷ puts) pv sector h =
    ⊎_elim
    (λ here. ⊎_elim (λ a. inl (left_written (blocks_of put) (flat_map blocks_of puts) pv sector a))
    (λ b. inr (left_written (end_of put) (flat_map end_of puts) pv sector b)) (piece_there put pv sector here))
    (λ later. ⊎_elim (λ a. inl (right_written (blocks_of put) (flat_map blocks_of puts) pv sector a))
    (λ b. inr (right_written (end_of put) (flat_map end_of puts) pv sector b)) (pieces_there puts pv sector later))
    (or_cases (covers put.0 pv sector) (is_written puts pv sector) h)

pub blocks_cover : (puts : List Put) (pv sector : ℕ) → is_written puts pv sector ≡ true → is_written (in_blocks puts) pv sector ≡ true
blocks_cover puts pv sector h =
    ⊎_elim (λ a. left_written (flat_map blocks_of puts) (flat_map end_of puts) pv sector a)
    (λ b. right_written (flat_map blocks_of puts) (flat_map end_of puts) pv sector b) (pieces_there puts pv sector h)

-- what holds of each piece of each write holds of all
pub blocks_have : (P : Put → Type 0) → ((put : Put) → P put → (from count : ℕ) → from + count ≤ put.0.count → P (piece_of put from count))
    → (puts : List Put) → All P puts → All P (in_blocks puts)
blocks_have P each puts all =
    All-append P (flat_map blocks_of puts) (flat_map end_of puts)
    (each_has blocks_of P puts (All-weaker P (λ (put : Put). All P (blocks_of put))
    (λ put is. blocks_all P put (each put is) 0 (put.0.count / block_size) (omega arith)) puts all))
    (each_has end_of P puts (All-weaker P (λ (put : Put). All P (end_of put))
    (λ put is. ends_all put P (each put is) (put.0.count % block_size == 0)) puts all))

-- they lie in the disks
piece_fills : (sizes : List ℕ) (put : Put) → Fills sizes put.0 put.1 → (from count : ℕ) → from + count ≤ put.0.count
    → Fills sizes (piece_of put from count).0 (piece_of put from count).1
piece_fills sizes put fills from count le = record {
  disk = fills.disk;
  within = omega (arith, fills.within, le);
  buffer = length-take-le count (drop from put.1) (omega (arith, length-drop from put.1, fills.buffer, le));
}

pub blocks_lie : (sizes : List ℕ) (puts : List Put) → LieIn sizes puts → LieIn sizes (in_blocks puts)
blocks_lie sizes puts lie = blocks_have (λ (put : Put). Fills sizes put.0 put.1) (piece_fills sizes) puts lie

-- and no two of them share a sector where no two of the writes do
end_past : (put : Put) (pv sector : ℕ) → is_written (blocks_of put) pv sector ≡ true → is_written (end_of put) pv sector ≡ true → ⊥
end_past put pv sector a b =
    let r = blocks_within put 0 (put.0.count / block_size) pv sector a in
    let s = ends_within put (put.0.count % block_size == 0) pv sector b in omega (arith, r.2, s.1)

crossing : (puts : List Put) → ShareNoSector puts → (pv sector : ℕ) → is_written (flat_map blocks_of puts) pv sector ≡ true
    → is_written (flat_map end_of puts) pv sector ≡ true → ⊥
crossing [] h pv sector a b = true≢false (sym a)
crossing (put ∷ puts) h pv sector a b =
    let not : covers put.0 pv sector ≡ true → is_written puts pv sector ≡ true → ⊥ =
    λ here there. true≢false (sym there ∙ h.0 pv sector here) in
    ⊎_elim
    (λ here. ⊎_elim (λ same. end_past put pv sector here same)
    (λ other. not (block_inside put pv sector here) (flat_inside end_of end_inside puts pv sector other))
    (at_either (end_of put) (flat_map end_of puts) pv sector b))
    (λ there. ⊎_elim
    (λ same. not (end_inside put pv sector same) (flat_inside blocks_of block_inside puts pv sector there))
    (λ other. crossing puts h.1 pv sector there other) (at_either (end_of put) (flat_map end_of puts) pv sector b))
    (at_either (blocks_of put) (flat_map blocks_of puts) pv sector a)

pub blocks_apart : (puts : List Put) → ShareNoSector puts → ShareNoSector (in_blocks puts)
blocks_apart puts h =
    apart_both (flat_map blocks_of puts) (flat_map end_of puts)
    (flat_apart blocks_of block_inside (λ put. blocks_alone put 0 (put.0.count / block_size)) puts h)
    (flat_apart end_of end_inside (λ put. ends_alone put (put.0.count % block_size == 0)) puts h) (crossing puts h)

-- there is one, where there is a write with a sector
pub blocks_some : (put : Put) (puts : List Put) → 0 < put.0.count → 0 < length (in_blocks (put ∷ puts))
blocks_some put puts some =
    let here : is_written (put ∷ puts) put.0.pv put.0.first ≡ true =
    or_left (covers put.0 put.0.pv put.0.first) (is_written puts put.0.pv put.0.first)
    (covers_there put.0 put.0.pv put.0.first refl (omega arith) (omega (arith, some))) in
    some_of (in_blocks (put ∷ puts)) (blocks_cover (put ∷ puts) put.0.pv put.0.first here)
  where
    some_of : (l : List Put) → is_written l put.0.pv put.0.first ≡ true → 0 < length l
    some_of [] h = absurd (true≢false (sym h))
    some_of (p ∷ l) h = omega arith
