-- What a history starts with.
use Rattle.std.specs.Prelude.{◌≡◌, ◌≤◌, ℕ, IfSome, [], length, Option, option_map}
use Rattle.disk_model.specs.Steps.{now_after}
use Rattle.volume_view.specs.View.{DisksDiffer}
use Rattle.vg_found.specs.declared.found.Found.{Found}
use Rattle.vg_scan.specs.Versions.{Version}
use Rattle.volume_history.specs.Changing.{HaveOwnNames}
use Rattle.volume_history.specs.Chronicles.{Origin, now_at, origin_at}
use Rattle.volume_history.specs.Legal.{FindsNow}
use Rattle.volume_history.specs.Placed.{volumes_of}
use Rattle.volume_history.specs.Replay.{opening_volumes}

-- A history starts with what was found, where all is told up to its start: a scan finds its version then, on disks that differ and with
-- volumes of different names, which show what they showed when the disks were handed in.
pub record StartsWith (o : Origin) (found : Found) : Type 0 where
  pub group : found.group ≡ option_map (λ (v : Version). v.group) o.version
  pub disks : IfSome o.version (λ (v : Version). v.disk_of ≡ found.disk_of)
  pub differ : IfSome o.version (λ (v : Version). DisksDiffer v.group v.disk_of)
  pub names : HaveOwnNames (volumes_of o.version)
  pub from : o.first ≤ o.start
  pub start : o.start ≡ length o.told.steps
  pub opening : FindsNow (origin_at o.start o) [] o.start o.version
  pub shown :
      opening_volumes (now_at o o.first) 0 (volumes_of o.version)
      ≡ opening_volumes (now_after o.told.opened o.told.steps) 0 (volumes_of o.version)
