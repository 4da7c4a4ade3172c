-- What holds of the claims after any calls.
use Rattle.std.specs.Prelude.{◌≡◌, ◌<◌, ◌≤◌, ◌↔◌, ℕ, max, true, false, IsFalse, IsTrue, Option, None, Some, List, [], ◌∷◌, ◌||◌, All}
use Rattle.std.specs.Prelude.{Contains, length, slice_index_or, take}
use Rattle.std.specs.List.{list_any}
use Rattle.claim_table.specs.declared.claim.Claim.{Claim}
use Rattle.claim_table.specs.declared.claim.By.{By}
use Rattle.claim_table.specs.declared.claim.Entry.{Entry}
use Rattle.claim_table.specs.Claims.{Claims, IsApart, IsEntry, conflicts, is_free, is_suspended, lies_in, ready_at}
use Rattle.claim_table.specs.Conflict.{clash}
use Rattle.claim_table.specs.Extents.{end_of}
use Rattle.claim_table.specs.Steps.{after_enter, after_leave, after_ready, after_resume, after_set_region, after_suspend, has_number}
use Rattle.claim_table.specs.Steps.{no_claim, no_claims}

-- a call that changes the claims, with what was answered where the call may choose
pub data Call : Type 0 where
  Reserves : (pieces : ℕ) → Call
  Enters : (c : Claim) (entry : Entry) → Call
  Relocates : (number : ℕ) (region : Option ℕ) → Call
  Leaves : (number : ℕ) → Call
  Readies : Call
  Closes : (region : ℕ) → Call
  Opens : (region : ℕ) → Call
  Suspends : (volume : ℕ) → Call
  Resumes : (volume : ℕ) → Call

-- what a call leaves of the claims
abbrev pub after_call : Claims → Call → Claims
after_call claims (Reserves pieces) = record claims { spare = max pieces claims.spare }
after_call claims (Enters c entry) = after_enter claims c entry
after_call claims (Relocates number region) = after_set_region claims number region
after_call claims (Leaves number) = after_leave claims number
after_call claims Readies = after_ready claims
after_call claims (Closes region) = record claims { closed = Some region }
after_call claims (Opens region) = record claims { closed = None }
after_call claims (Suspends volume) = after_suspend claims volume
after_call claims (Resumes volume) = after_resume claims volume

-- what a call asks of the claims, and that it answered so: that a piece which enters started, or waits for something that it
-- conflicts with; that a piece is ready, where one is started; and that a region which is closed wasn't busy
abbrev pub IsCall : Claims → Call → Type 0
IsCall claims (Reserves pieces) = Unit {0}
IsCall claims (Enters c entry) =
    (0 < claims.spare) × All (λ d. d.number < c.number) claims.started × All (λ d. d.number < c.number) claims.deferred
    × IsEntry claims c entry
IsCall claims (Relocates number region) = IsTrue (list_any (has_number number) claims.deferred)
IsCall claims (Leaves number) = IsTrue (list_any (has_number number) claims.started || list_any (has_number number) claims.deferred)
IsCall claims Readies = ready_at claims < length claims.deferred
IsCall claims (Closes region) = (claims.closed ≡ None) × IsFalse (list_any (lies_in region) claims.started)
IsCall claims (Opens region) = claims.closed ≡ Some region
IsCall claims (Suspends volume) = IsFalse (is_suspended claims volume)
IsCall claims (Resumes volume) = IsTrue (is_suspended claims volume)

-- the claims after these calls on an empty table, the last of them first
abbrev pub after_calls : List Call → Claims
after_calls [] = no_claims
after_calls (call ∷ before) = after_call (after_calls before) call

-- each of the calls was made where it may be, the last of them first
abbrev pub AreCalls : List Call → Type 0
AreCalls [] = Unit {0}
AreCalls (call ∷ before) = IsCall (after_calls before) call × AreCalls before

-- two pieces clash exactly where they are of one volume, have a sector in common, and one of them writes
abbrev pub ClashesShareSectors : Type 0
ClashesShareSectors = (c d : Claim) → (clash c d ≡ true) ↔ (IsTrue (c.piece.write || d.piece.write) × (c.piece.volume ≡ d.piece.volume)
    × ((sector : ℕ) × (c.piece.first ≤ sector) × (sector < end_of c.piece) × (d.piece.first ≤ sector) × (sector < end_of d.piece)))

-- a piece is free exactly where it conflicts with nothing
abbrev pub FreeWithoutConflict : Type 0
FreeWithoutConflict =
    (claims : Claims) (earlier : List Claim) (c : Claim)
    → (is_free claims earlier c ≡ true) ↔ ((by : By) → conflicts claims earlier c by ≡ false)

-- no two started pieces clash, and none lies in the closed region
abbrev pub StartedAreApart : Type 0
StartedAreApart = (calls : List Call) → AreCalls calls → IsApart (after_calls calls)

-- a piece that is started after a call, and wasn't before it, is of no volume that is suspended
abbrev pub NoneStartsSuspended : Type 0
NoneStartsSuspended =
    (before : List Call) (call : Call) (c : Claim) → AreCalls (call ∷ before) → Contains (after_calls (call ∷ before)).started c
    → (Contains (after_calls before).started c → ⊥)
    → is_suspended (after_calls before) c.piece.volume ≡ false

-- the deferred piece that is ready first clashes with none that was deferred before it
abbrev pub StartsInOrder : Type 0
StartsInOrder =
    (before : List Call) → AreCalls (Readies ∷ before)
    → All (λ d. clash d (slice_index_or (after_calls before).deferred (ready_at (after_calls before)) no_claim) ≡ false)
    (take (ready_at (after_calls before)) (after_calls before).deferred)
