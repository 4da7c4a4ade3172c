-- What the batch writes that empties areas.
use Rattle.std.proofs.Common.{◌≡◌, ◌<◌, ℕ, ◌/◌, List, length, get_or, map, Option, None, arith}
use Rattle.mda_header.specs.HeaderBytes.{header_bytes}
use Rattle.mda_header.specs.declared.header.Locn.{Locn}
use Rattle.mda_ring.proofs.SpanLaws.{covers_tells}
use Rattle.mda_ring.specs.declared.area.Area.{Area}
use Rattle.disk_batch.specs.Writes.{IsWrittenBy}
use Rattle.vg_commit.proofs.Disks.{no_area}
use Rattle.vg_commit.specs.Written.{header_of, header_span}
use Rattle.change_batches.proofs.ClearBatch.{clear_where}
use Rattle.change_batches.specs.Batches.{clear_put}

-- the empty header of one of the areas
pub record IsClearWrite (areas : List (Area × Option Locn)) (pv sector : ℕ) (value : List ℕ) : Type 0 where
  pub number : ℕ
  pub among : number < length areas
  pub disk : (get_or areas number no_area).0.pv ≡ pv
  pub at : (get_or areas number no_area).0.start / 512 ≡ sector
  pub is : value ≡ header_bytes (header_of (get_or areas number no_area).0 None None)

pub clear_write : (areas : List (Area × Option Locn)) (pv sector : ℕ) (value : List ℕ) → IsWrittenBy (map clear_put areas) pv sector value
    → IsClearWrite areas pv sector value
clear_write areas pv sector value by =
    let w = clear_where areas no_area pv sector value by in
    let t = covers_tells (header_span (get_or areas w.0 no_area).0) pv sector w.2 in
    record { number = w.0; among = w.1; disk = t.0; at = omega (arith, t.1, t.2); is = w.3 }
