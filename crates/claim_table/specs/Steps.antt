-- What each call does to the claims.
use Rattle.std.specs.Prelude.{ℕ, ◌-◌, Bool, false, ◌==◌, nat_le, List, [], ◌∷◌, ◌++◌, Option, None, remove, slice_index_or, slice_set}
use Rattle.std.specs.Prelude.{if◌then◌else◌}
use Rattle.std.specs.List.{insert, list_any, position_or_len}
use Rattle.claim_table.specs.declared.claim.Claim.{Claim}
use Rattle.claim_table.specs.declared.claim.Entry.{Entry}
use Rattle.claim_table.specs.declared.claim.Entry.TheVariants.{Started, Deferred}
use Rattle.claim_table.specs.Claims.{Claims, ready_at}

-- no piece, no closed region and no suspension
abbrev pub no_claims : Claims
no_claims = record { started = []; deferred = []; closed = None; suspended = []; spare = 0 }

-- whether a piece of this number is among these
abbrev pub has_number : ℕ → Claim → Bool
has_number number c = c.number == number

-- where the piece of this number stands among these, or how many they are
abbrev pub number_at : List Claim → ℕ → ℕ
number_at claims number = position_or_len (has_number number) claims

-- where a piece of this number belongs among these, which stand in the order of their numbers
abbrev pub place_by_number : List Claim → ℕ → ℕ
place_by_number claims number = position_or_len (λ c. nat_le number c.number) claims

-- the piece is put in by its number
abbrev pub put_by_number : List Claim → Claim → List Claim
put_by_number claims c = insert claims (place_by_number claims c.number) c

-- the piece of this number is taken out
abbrev pub without : List Claim → ℕ → List Claim
without claims number = remove claims (number_at claims number)

-- the piece became started or deferred
abbrev pub after_enter : Claims → Claim → Entry → Claims
after_enter claims c Started = record claims { started = claims.started ++ c ∷ []; spare = claims.spare - 1 }
after_enter claims c (Deferred by) = record claims { deferred = claims.deferred ++ c ∷ []; spare = claims.spare - 1 }

-- the started or deferred piece of this number left
abbrev pub after_leave : Claims → ℕ → Claims
after_leave claims number =
    if list_any (has_number number) claims.started
    then record claims { started = without claims.started number }
    else record claims { deferred = without claims.deferred number }

-- stands for a piece where there is none
abbrev pub no_claim : Claim
no_claim = record { number = 0; piece = record { volume = 0; first = 0; count = 0; write = false }; region = None }

-- the deferred piece of this number lies in this region, or in none
abbrev pub after_set_region : Claims → ℕ → Option ℕ → Claims
after_set_region claims number region =
    let at = number_at claims.deferred number in
    record claims { deferred = slice_set claims.deferred at (record (slice_index_or claims.deferred at no_claim) { region = region }) }

-- the first deferred piece that conflicts with nothing became started
abbrev pub after_ready : Claims → Claims
after_ready claims = record claims {
  started = put_by_number claims.started (slice_index_or claims.deferred (ready_at claims) no_claim);
  deferred = remove claims.deferred (ready_at claims);
}

-- the volume is suspended
abbrev pub after_suspend : Claims → ℕ → Claims
after_suspend claims volume = record claims { suspended = claims.suspended ++ volume ∷ [] }

-- the volume isn't suspended any more
abbrev pub after_resume : Claims → ℕ → Claims
after_resume claims volume = record claims { suspended = remove claims.suspended (position_or_len (λ v. v == volume) claims.suspended) }
