-- What is still to be copied.
use Rattle.std.specs.Prelude.{Bool, true, false}
use Rattle.region_log.specs.declared.region.Region.{Region}
use Rattle.region_log.specs.declared.region.Region.TheVariants.{Unsynced, Copying, Synced}

-- whether the region's legs may differ and it isn't being copied
abbrev pub is_unsynced : Region → Bool
is_unsynced Unsynced = true
is_unsynced Copying = false
is_unsynced Synced = false
