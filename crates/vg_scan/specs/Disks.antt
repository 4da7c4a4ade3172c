-- What one disk gives, and what is read of it.
use Rattle.std.specs.Prelude.{◌≡◌, ◌≤◌, ℕ, ◌+◌, ◌*◌, List, length, All, Option, Some, option_map}
use Rattle.sector_base.specs.declared.spans.Span.{Span}
use Rattle.disk_model.specs.Since.{ReadsAlone, spans_read}
use Rattle.disk_model.specs.Steps.{Step, Record, now_after, steps_on}
use Rattle.pv_header.specs.declared.extent_list.Extent.{Extent}
use Rattle.disk_contents.specs.declared.contents.PvFound.{PvFound}
use Rattle.disk_contents.specs.Contents.{IsFound}
use Rattle.disk_contents.specs.Reads.{AreAreasOf}
use Rattle.scan_rules.specs.Decision.{Found as PvOf, SamePv}
use Rattle.scan_rules.specs.Readings.{found_of}
use Rattle.scan_rules.specs.declared.readings.GroupCopy.{GroupCopy}
use Rattle.scan_rules.specs.declared.readings.PvRead.{PvRead}
use Rattle.vg_found.specs.Disks.{header_in, pv_shape}
use Rattle.vg_scan.specs.Readings.{IsPvReading}

-- the physical volume as it was read, with its copies
abbrev pub pv_read : List GroupCopy → Option PvRead → Option PvOf
pv_read copies pv = option_map (found_of copies) pv

-- what stands on a disk with these sectors, and how it reads
pub record IsDiskRead (pv : ℕ) (sector_at : ℕ → List ℕ) (sectors : ℕ) (contents : PvFound) (reading : Option PvOf) : Type 0 where
  pub contents_is : IsFound sector_at sectors contents
  pub pv_is : IsPvReading pv sector_at (Some contents) reading

-- its id and its areas are those of the header, whatever stands on the disk
abbrev pub HasItsShape : PvFound → Option PvOf → Type 0
HasItsShape contents reading = SamePv (option_map pv_shape (header_in contents)) reading

-- only this disk was read, at most once and three times for each area that its header lists
pub record ReadsDisk (pv sectors : ℕ) (old new : Record) : Type 0 where
  pub since : List Step
  pub steps : new ≡ steps_on since old
  pub reads : ReadsAlone since
  pub own : All (λ (span : Span). span.pv ≡ pv) (spans_read since)
  pub areas : List Extent
  pub are : AreAreasOf (now_after old.opened old.steps pv) sectors areas
  pub few : length (spans_read since) ≤ 1 + 3 * length areas
