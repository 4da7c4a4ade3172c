-- Whose operations are in flight, by their tags.
use Rattle.std.specs.Prelude.{◌≡◌, ◌⊎◌, ℕ, IsTrue, List, [], ◌∷◌}
use Rattle.disk_model.specs.Steps.{Step, Submitted, Completed, Record}
use Rattle.disk_model.specs.Record.{IsIn, Operation, in_flight_after}
use Rattle.disk_model.specs.Brought.{writes}

-- the tag is among these
abbrev pub IsAmong : List ℕ → ℕ → Type 0
IsAmong [] t = ⊥
IsAmong (u ∷ us) t = (u ≡ t) ⊎ IsAmong us t

-- each write of the sector that is in flight has one of these tags
abbrev pub OnlyTheirs : List ℕ → Record → ℕ → ℕ → Type 0
OnlyTheirs tags told pv sector =
    (o : Operation) → IsIn (in_flight_after told.steps) o → IsTrue (writes o.work pv sector) → IsAmong tags o.tag

-- no write of the sector is in flight
abbrev pub IsStill : Record → ℕ → ℕ → Type 0
IsStill told pv sector = OnlyTheirs [] told pv sector

-- the step isn't the completion of an operation with one of these tags
abbrev pub IsForeign : List ℕ → Step → Type 0
IsForeign tags (Submitted tag work) = Unit {0}
IsForeign tags (Completed tag work well fresh) = IsAmong tags tag → ⊥
