-- A world, as contracts see it.
use Rattle.std.specs.Prelude.{◌≡◌, ℕ, None, length, refl}
use Rattle.std.specs.Coded.{Coded, code_by, coded×}
use Rattle.std.specs.FinSet as set
use Rattle.line_table.specs.Steps.{no_lines}
use Rattle.flush_waits.specs.Waits.{new_waits}
use Rattle.piece_table.specs.Pieces.{no_pieces}
use Rattle.vg_found.specs.declared.found.Found.{Found}
use Rattle.world_acts.specs.declared.state.Core.{Core}
use Rattle.world_acts.specs.OpenLines.{no_opens}
use Rattle.world_acts.specs.Volumes.{rows_at_opening}

-- its shelf, and what it keeps beside it
pub record WorldOn (S : Type 0) : Type 0 where
  pub shelf : S
  pub core : Core

-- it is stored as the pair of both
abbrev pub world_code : {S : Type 0} → Coded S → Coded Core → Coded (WorldOn S)
world_code {S} s c = code_by (S × Core) (coded× s c) (λ w. (w.shelf, w.core)) (λ p. record { shelf = p.0; core = p.1 }) (λ _. refl)

-- of what was found, over so many disks: its volumes have the keys 0, 1, .. in the order of the text, nothing was begun, and no
-- disk has failed
pub record IsOpenedOn (found : Found) (disks : ℕ) (c : Core) : Type 0 where
  pub group : c.volumes.group ≡ found.group
  pub disk_of : c.volumes.disk_of ≡ found.disk_of
  pub rows : c.volumes.rows.items ≡ rows_at_opening found.group
  pub lines : c.lines ≡ no_lines
  pub opens : c.opens ≡ no_opens
  pub pieces : c.pieces ≡ no_pieces
  pub waits : c.waits ≡ new_waits disks (length c.volumes.rows.items)
  pub failed : c.failed ≡ set.empty
  pub barrier : c.barrier ≡ None
