-- Why a session's line answers that a disk couldn't be read, or has failed.
use Rattle.std.specs.Prelude.{◌≡◌, ◌⊎◌, Contains, ℕ, ◌-◌, ◌==◌, Bool, true, false, ◌&&◌, ◌||◌, if◌then◌else◌, List, [], ◌∷◌}
use Rattle.std.specs.Prelude.{Some, slice_get, take}
use Rattle.sector_base.specs.declared.places.Piece.{Piece}
use Rattle.line_answers.specs.declared.answer.Answer.{Answer}
use Rattle.line_answers.specs.declared.answer.Answer.TheVariants as answer
use Rattle.disk_model.specs.Steps.{Completed, Flushing, Reading, Step, Submitted}
use Rattle.volume_history.specs.Candidates.{is_through_line}
use Rattle.volume_history.specs.Chronicles.{Answered, Begun, ChronicleEntry, Failed, Origin, Took, begun_in, is_failed_disk}
use Rattle.volume_history.specs.Chronicles.{steps_upto}
use Rattle.volume_history.specs.Cuts.{FlushesVolume}
use Rattle.volume_history.specs.Placed.{Place, volumes_of}
use Rattle.world_history.specs.Shown.{places_keyed}

-- the piece of a volume stands from this place on
abbrev pub StandsAt : Origin → Piece → Place → Type 0
StandsAt o piece place = slice_get (places_keyed (volumes_of o.version) piece.volume) piece.first ≡ Some place

-- the newest step is the bad end of a read of so many sectors from this place on
abbrev pub IsBadRead : Place → ℕ → List Step → Type 0
IsBadRead place count (Completed tag (Reading span) false fresh ∷ steps) =
    span ≡ record { pv = place.disk; first = place.sector; count = count }
IsBadRead place count _ = ⊥

-- the entries from before the line was begun
abbrev pub before_line : List ChronicleEntry → ℕ → List ChronicleEntry
before_line [] n = []
before_line (Begun moment number line key ∷ es) n = if number == n then es else before_line es n
before_line (_ ∷ es) n = before_line es n

-- a piece of the line failed on this disk, as its read did
pub record FailsToRead (o : Origin) (es : List ChronicleEntry) (n pv : ℕ) : Type 0 where
  pub moment : ℕ
  pub piece : Piece
  pub place : Place
  pub failed : Contains es (Failed moment n piece)
  pub stands : StandsAt o piece place
  pub disk : place.disk ≡ pv
  pub read : IsBadRead place piece.count (steps_upto o moment)

-- a piece of it failed on this disk, which had failed by then: its own write there did, or it would have started there
pub record LosesPiece (o : Origin) (es : List ChronicleEntry) (n pv : ℕ) : Type 0 where
  pub moment : ℕ
  pub piece : Piece
  pub place : Place
  pub failed : Contains es (Failed moment n piece)
  pub stands : StandsAt o piece place
  pub disk : place.disk ≡ pv
  pub lost : is_failed_disk o moment pv ≡ true

-- whether an operation was submitted under the tag in these steps
abbrev pub is_asked : ℕ → List Step → Bool
is_asked tag [] = false
is_asked tag (Submitted t work ∷ steps) = (t == tag) || is_asked tag steps
is_asked tag (_ ∷ steps) = is_asked tag steps

-- whether a flush of the disk failed in these steps that was submitted in them
abbrev pub has_lost_flush : List Step → ℕ → Bool
has_lost_flush [] pv = false
has_lost_flush (Completed tag (Flushing disk) false fresh ∷ steps) pv =
    ((disk == pv) && is_asked tag steps) || has_lost_flush steps pv
has_lost_flush (_ ∷ steps) pv = has_lost_flush steps pv

-- the piece that took place is one of the line's own, where that is through, and a flush of the disk failed that was submitted since
pub record IsOwnLoss (o : Origin) (es : List ChronicleEntry) (moment n pv since writer : ℕ) (piece : Piece) : Type 0 where
  pub through : is_through_line (begun_in es n) ≡ true
  pub own : writer ≡ n
  pub took : Contains es (Took since n piece)
  pub lost : has_lost_flush (take (moment - since) (steps_upto o moment)) pv ≡ true

-- or it is one from before the line, to the volume that it flushes
pub record IsEarlier (es : List ChronicleEntry) (n since writer : ℕ) (piece : Piece) : Type 0 where
  pub flushes : FlushesVolume es n piece.volume
  pub took : Contains (before_line es n) (Took since writer piece)

-- a write took place on the disk, for which the line waits
pub record LosesWrite (o : Origin) (es : List ChronicleEntry) (moment n pv : ℕ) : Type 0 where
  pub since : ℕ
  pub writer : ℕ
  pub piece : Piece
  pub place : Place
  pub wrote : piece.write ≡ true
  pub stands : StandsAt o piece place
  pub disk : place.disk ≡ pv
  pub its : IsOwnLoss o es moment n pv since writer piece ⊎ IsEarlier es n since writer piece

-- the cause of an answer that was given at this moment
abbrev pub HasCause : Origin → List ChronicleEntry → ℕ → ℕ → Answer → Type 0
HasCause o es moment n (answer.ReadFailed pv) = FailsToRead o es n pv
HasCause o es moment n (answer.PvFailed pv) =
    (is_failed_disk o moment pv ≡ true) × (LosesPiece o es n pv ⊎ LosesWrite o es moment n pv)
HasCause o es moment n _ = Unit {0}

-- each answer has its cause
abbrev pub AreCaused : Origin → List ChronicleEntry → Type 0
AreCaused o [] = Unit {0}
AreCaused o (Answered moment n answer ∷ es) = HasCause o es moment n answer × AreCaused o es
AreCaused o (_ ∷ es) = AreCaused o es
