-- The writes of a sector since its birth that took place, and which of them an answer ok makes last.
use Rattle.std.specs.Prelude.{◌≡◌, ◌≤◌, ◌⊎◌, ℕ, Bool, true, false, List, [], ◌∷◌, Some}
use Rattle.lvm_script.specs.declared.line.Line.{Line}
use Rattle.data_lines.specs.DataLines.{is_flush}
use Rattle.volume_history.specs.Candidates.{bears, is_through_line, is_write}
use Rattle.volume_history.specs.Chronicles.{Begun, ChronicleEntry, Origin, Took, begun_in, count_begun}

-- A, unless the test is true
abbrev pub Unless : Bool → Type 0 → Type 0
Unless true A = Unit {0}
Unless false A = A

-- Q holds of each write of the sector since its birth, with the entries before it
abbrev pub EachCut : (ChronicleEntry → List ChronicleEntry → Type 0) → Origin → ℕ → ℕ → List ChronicleEntry → Type 0
EachCut Q o key x [] = Unit {0}
EachCut Q o key x (e ∷ es) = Unless (bears o key x e es) ((is_write key x e es ≡ true → Q e es) × EachCut Q o key x es)

-- a line that flushes the volume was begun under this number
pub record FlushesVolume (all : List ChronicleEntry) (n key : ℕ) : Type 0 where
  pub line : Line
  pub begun : begun_in all n ≡ Some (line, Some key)
  pub flushes : is_flush line.command ≡ true

-- the answer ok of this line makes the write last: it is the line's own and that is through, or the line flushes the volume
-- and was begun later
abbrev pub IsAckedBy : List ChronicleEntry → ℕ → ℕ → ChronicleEntry → List ChronicleEntry → Type 0
IsAckedBy all n key (Took m k piece) older =
    ((n ≡ k) × (is_through_line (begun_in older k) ≡ true)) ⊎ ((count_begun older ≤ n) × FlushesVolume all n key)
IsAckedBy all n key _ older = ⊥

-- the base behind the answer ok of this line is the one before it, or a write of the sector that the answer makes last
abbrev pub IsMadeLast : List ChronicleEntry → ℕ → ℕ → ℕ → List ChronicleEntry → List ChronicleEntry → Type 0
IsMadeLast all n key x before behind =
    (behind ≡ before)
    ⊎ ((e : ChronicleEntry) × (older : List ChronicleEntry) × (behind ≡ e ∷ older) × (is_write key x e older ≡ true)
    × IsAckedBy all n key e older)

-- each line has as its number how many were begun before it, and is known by it
abbrev pub AreNumbered : List ChronicleEntry → List ChronicleEntry → Type 0
AreNumbered all [] = Unit {0}
AreNumbered all (Begun m n line key ∷ es) = (n ≡ count_begun es) × (begun_in all n ≡ Some (line, key)) × AreNumbered all es
AreNumbered all (_ ∷ es) = AreNumbered all es
