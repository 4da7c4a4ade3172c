-- The machine's value of a sector changes by births and by lines that are settled alone.
use Rattle.std.specs.Prelude.{◌≡◌, ◌⊎◌, ℕ, true, false, List, [], ◌∷◌, Some}
use Rattle.lvm_script.specs.declared.line.Line.{Line}
use Rattle.data_lines.specs.DataLines.{covers_sector, value_for, writes}
use Rattle.line_table.specs.Machine.{sector_of}
use Rattle.volume_history.specs.Candidates.{bears}
use Rattle.volume_history.specs.Chronicles.{ChronicleEntry, Origin, begun_in, settled_at}
use Rattle.volume_history.specs.Cuts.{Unless}
use Rattle.volume_history.specs.Replay.{plain_state}

-- of all these entries one settles a line that writes the sector and wasn't settled by the older ones, to that line's value
pub record Settles (all : List ChronicleEntry) (key x : ℕ) (value : List ℕ) (older : List ChronicleEntry) : Type 0 where
  pub number : ℕ
  pub line : Line
  pub begun : begun_in all number ≡ Some (line, Some key)
  pub writing : writes line.command ≡ true
  pub covers : covers_sector line.command x ≡ true
  pub unsettled : settled_at older number key x ≡ false
  pub settled : settled_at all number key x ≡ true
  pub brings : value_for line.command x ≡ value

-- each entry since the sector's birth leaves the sector as it is, or settles such a line
abbrev pub AreSteady : Origin → List ChronicleEntry → ℕ → ℕ → List ChronicleEntry → Type 0
AreSteady o all key x [] = Unit {0}
AreSteady o all key x (e ∷ es) =
    Unless (bears o key x e es)
    (((sector_of (plain_state o (e ∷ es)) key x ≡ sector_of (plain_state o es) key x)
    ⊎ Settles all key x (sector_of (plain_state o (e ∷ es)) key x) es) × AreSteady o all key x es)
