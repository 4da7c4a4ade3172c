-- Sectors that are to hold zeros before a change is committed.
use Rattle.std.specs.Prelude.{◌≡◌, ◌≤◌, ◌+◌, List, [], ◌∷◌, Some, slice_get}
use Rattle.sector_base.specs.declared.spans.Span.{Span}
use Rattle.vg_found.specs.declared.disk.Disk.{Disk}

-- the span has a sector, and lies in its disk
pub record IsWithin (disks : List Disk) (span : Span) : Type 0 where
  pub disk : Disk
  pub there : slice_get disks span.pv ≡ Some disk
  pub some : 1 ≤ span.count
  pub within : span.first + span.count ≤ disk.sectors

-- it is one span at most, and lies in its disk
abbrev pub AreWithin : List Disk → List Span → Type 0
AreWithin disks [] = Unit {0}
AreWithin disks (span ∷ []) = IsWithin disks span
AreWithin disks (span ∷ next ∷ more) = ⊥
