-- Worked rows: writes and reads of one volume that share sectors, and a region and a suspension between them.
use Rattle.std.specs.Prelude.{◌≡◌, ◌≤◌, ◌+◌, ◌-◌, ◌*◌, ◌^◌, ℕ, Bool, true, false, [], ◌∷◌, Some, None, nat_lt}
use Rattle.std.proofs.Common.{refl, ap, ◌∙◌, arith}
use Rattle.std.proofs.lemmas.Bool.{ltb-true, ltb-false}
use Rattle.std.proofs.lemmas.Nat.{mul-le, pow-add, pow_pos}
use Rattle.claim_table.specs.declared.claim.Claim.{Claim}
use Rattle.claim_table.specs.declared.claim.By.TheVariants.{Piece, Region, Suspended}
use Rattle.claim_table.specs.declared.claim.Entry.TheVariants.{Started, Deferred}
use Rattle.claim_table.specs.Claims.{Claims, conflicts, is_free, ready_at}
use Rattle.claim_table.specs.Steps.{after_enter, after_leave, after_ready, no_claims}

-- so many sectors of volume 0 from this one on, in no region
abbrev piece_of : ℕ → ℕ → ℕ → Bool → Claim
piece_of number first count write =
    record { number = number; piece = record { volume = 0; first = first; count = count; write = write }; region = None }

-- a write of sectors 0 to 8 is under way
abbrev one_write : Claims
one_write = record no_claims { started = piece_of 0 0 8 true ∷ [] }

-- a write of sectors 4 to 12 waits for it
waits : conflicts one_write [] (piece_of 1 4 8 true) (Piece 0) ≡ true
waits = refl

isnt_free : is_free one_write [] (piece_of 1 4 8 true) ≡ false
isnt_free = refl

-- one of sectors 8 to 16 doesn't
apart : is_free one_write [] (piece_of 1 8 8 true) ≡ true
apart = refl

-- two reads of the same sectors don't wait for each other
both_read : is_free (record no_claims { started = piece_of 0 0 8 false ∷ [] }) [] (piece_of 1 0 8 false) ≡ true
both_read = refl

-- a read waits for a write that was deferred earlier, though nothing under way stands against it
behind_deferred : is_free no_claims (piece_of 0 0 8 true ∷ []) (piece_of 1 0 8 false) ≡ false
behind_deferred = refl

-- a piece waits for the region that is closed, and not for another
in_region : conflicts (record no_claims { closed = Some 3 }) [] (record (piece_of 0 0 8 true) { region = Some 3 }) (Region 3) ≡ true
in_region = refl

in_another : is_free (record no_claims { closed = Some 3 }) [] (record (piece_of 0 0 8 true) { region = Some 2 }) ≡ true
in_another = refl

-- a piece waits for the suspension of its volume, and not for another's
while_suspended : conflicts (record no_claims { suspended = 1 ∷ 0 ∷ [] }) [] (piece_of 0 0 8 false) (Suspended 0) ≡ true
while_suspended = refl

another_suspended : is_free (record no_claims { suspended = 1 ∷ [] }) [] (piece_of 0 0 8 false) ≡ true
another_suspended = refl

-- the second of three deferred pieces is the first that conflicts with nothing
second_is_ready : ready_at (record one_write { deferred = piece_of 1 4 8 true ∷ piece_of 2 12 4 false ∷ piece_of 3 20 4 false ∷ [] }) ≡ 1
second_is_ready = refl

-- a write of sectors 0 to 8 started; one of 4 to 12 comes in two pieces, cut at a multiple of 8, of which the first waits
abbrev two_writes : Claims
two_writes =
    after_enter (after_enter (after_enter (record no_claims { spare = 3 }) (piece_of 0 0 8 true) Started) (piece_of 1 4 4 true)
    (Deferred (Piece 0))) (piece_of 2 8 4 true) Started

first_starts : is_free (record no_claims { spare = 3 }) [] (piece_of 0 0 8 true) ≡ true
first_starts = refl

second_waits : conflicts one_write [] (piece_of 1 4 4 true) (Piece 0) ≡ true
second_waits = refl

third_starts : is_free (record one_write { deferred = piece_of 1 4 4 true ∷ [] }) (piece_of 1 4 4 true ∷ []) (piece_of 2 8 4 true) ≡ true
third_starts = refl

none_is_ready : ready_at two_writes ≡ 1
none_is_ready = refl

-- once the first has left, the second starts, before the third by its number
second_starts : (after_ready (after_leave two_writes 0)).started ≡ piece_of 1 4 4 true ∷ piece_of 2 8 4 true ∷ []
second_starts = refl

-- with 1,000 started pieces `busy` takes ten steps at most, since an eleventh would need 2^11, and without one none
pub ten_steps : (taken : ℕ) → 2 ^ taken ≤ 2 * 1000 + 1 → taken ≤ 10
ten_steps taken bound =
    elim (nat_lt 10 taken) as (λ t. nat_lt 10 taken ≡ t → taken ≤ 10) [
      | true ↦ λ t.
          let over : taken ≡ 11 + (taken - 11) = omega (arith, ltb-true 10 taken t) in
          let parts : 2 ^ taken ≡ 2 ^ 11 * 2 ^ (taken - 11) = ap (λ (n : ℕ). 2 ^ n) over ∙ pow-add 2 11 (taken - 11) in
          let least : 2048 * 1 ≤ 2048 * 2 ^ (taken - 11) =
          mul-le 2048 1 2048 (2 ^ (taken - 11)) (omega arith) (omega (arith, pow_pos (taken - 11))) in
          absurd (omega (arith, bound, parts, least))
      | false ↦ λ t. ltb-false 10 taken t
    ] refl

pub no_step : (taken : ℕ) → 2 ^ taken ≤ 2 * 0 + 1 → taken ≤ 0
no_step taken bound =
    elim (nat_lt 0 taken) as (λ t. nat_lt 0 taken ≡ t → taken ≤ 0) [
      | true ↦ λ t.
          let over : taken ≡ 1 + (taken - 1) = omega (arith, ltb-true 0 taken t) in
          let parts : 2 ^ taken ≡ 2 ^ 1 * 2 ^ (taken - 1) = ap (λ (n : ℕ). 2 ^ n) over ∙ pow-add 2 1 (taken - 1) in
          absurd (omega (arith, bound, parts, pow_pos (taken - 1)))
      | false ↦ λ t. ltb-false 0 taken t
    ] refl
