-- A commit makes its version.
use Rattle.std.specs.Prelude.{◌≡◌, ℕ, Contains, List, length, Option}
use Rattle.disk_model.specs.Record.{IsRecord}
use Rattle.line_table.specs.Machine.{PlainVolume}
use Rattle.vg_scan.specs.Versions.{Version}
use Rattle.volume_history.specs.Chronicles.{begun_in, in_force}
use Rattle.pending_versions.specs.Births.{line_births}
use Rattle.pending_versions.specs.Machines.{IsInForce, LiesWithin}
use Rattle.pending_versions.specs.Pending.{AreSettled, PendingHolds}
use Rattle.world_places.specs.Lives.{Live}
use Rattle.world_places.specs.Tracked.{Scene}

-- now, by a line that is pending with what it creates settled, where the machine is one of the version in force
pub record TakesPlace (g : Scene) (moment number : ℕ) (version : Option Version) : Type 0 where
  pub now : moment ≡ length g.origin.told.steps
  pub is : IsRecord g.origin.told.steps
  pub machine : IsInForce g.origin g.entries
  pub pending : PendingHolds g.origin g.entries number version
  pub settled : AreSettled g.origin (line_births (begun_in g.entries number) (in_force g.origin g.entries) version)

-- each piece under way lies within its volume
abbrev pub LieWithin : List PlainVolume → List Live → Type 0
LieWithin volumes lives = (l : Live) → Contains lives l → LiesWithin volumes l.piece
