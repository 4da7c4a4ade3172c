use Rattle.std.proofs.Common.{◌≡◌, ℕ, ◌+◌, ◌*◌, ◌<◌, take, length, get_or}
use Rattle.sector_base.specs.Fields.{with_bytes}
use Rattle.pv_header.specs.declared.extent_list.Extent.{Extent}
use Rattle.pv_header.specs.Extents.{list_bytes, Fits64}
use Rattle.pv_header.proofs.list_write.put_list.Given as goal

abbrev pub invariant-loop-area : goal.invariant-loop-area
invariant-loop-area l = record {
  place : l.place ≡ l.at + 16 * l.area-index;
  bytes : l.into ≡ with_bytes l.fn.into l.at (list_bytes (take l.area-index l.list));
  fits : (k : ℕ) (d : Extent) → k < l.area-index → Fits64 (get_or l.list k d);
  size : length l.fn.into ≡ 512;
}
