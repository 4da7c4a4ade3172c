-- Each write of a repair lies where a repair may write.
use Rattle.std.proofs.Common.{ℕ, Bool, List, Option, get_or, map, ⊎_elim, sym, ◌∙◌, arith}
use Rattle.std.specs.List.{list_any}
use Rattle.std.proofs.lemmas.Bool.{or_cases}
use Rattle.std.proofs.lemmas.List.Folds.{list_any-append, list_any_at}
use Rattle.sector_base.specs.Spans.{covers}
use Rattle.disk_model.specs.Puts.{one_sector}
use Rattle.disk_model.specs.Steps.{Image}
use Rattle.mda_header.specs.declared.header.Locn.{Locn}
use Rattle.mda_ring.specs.declared.area.Area.{Area}
use Rattle.mda_ring.proofs.SpanLaws.{covers_from}
use Rattle.vg_found.specs.declared.found.Found.{Found}
use Rattle.disk_batch.specs.Writes.{IsWrittenBy}
use Rattle.group_plan.specs.declared.state.NewLabel.{NewLabel}
use Rattle.vg_commit.proofs.Disks.{no_area}
use Rattle.vg_commit.specs.Written.{header_span}
use Rattle.change_batches.specs.Batches.{label_put}
use Rattle.vg_repair.specs.Batches.{new_labels, old_labels, repair_batches, stray_areas, stray_labels}
use Rattle.vg_repair.specs.Stale.{stale_areas, text_of}
use Rattle.image_scans.proofs.ClearWrites.{IsClearWrite}
use Rattle.image_scans.proofs.Front.{written_of}
use Rattle.repair_scans.specs.Laws.{CanRepair}
use Rattle.repair_scans.proofs.RepairOnTheWay.{writes}
use Rattle.line_history.specs.Places.{BatchesWrite, AtOld, AtStray, AtStrayHeader, InStale, IsRepairPlace}
use Rattle.line_history.proofs.WritesLieAny.{any_writes, area_write}

module _ (base : Image) (sizes : List ℕ) (found : Found) (p : CanRepair base sizes found) (pv sector : ℕ) where
  at_header : (value : List ℕ) → IsClearWrite (stray_areas found) pv sector value → IsRepairPlace found pv sector
  at_header value w =
      AtStrayHeader
      (list_any_at (λ (area : Area × Option Locn). covers (header_span area.0) pv sector) (stray_areas found) w.number no_area w.among
      (covers_from (header_span (get_or (stray_areas found) w.number no_area).0) pv sector w.disk (omega (arith, w.at))
      (omega (arith, w.at))))

  at_label : (value : List ℕ) → IsWrittenBy (map label_put (new_labels found)) pv sector value → IsRepairPlace found pv sector
  at_label value w =
      let at : NewLabel → Bool = λ label. covers (one_sector label.disk label.sector) pv sector in
      ⊎_elim (λ old. AtOld old) (λ stray. AtStray stray)
      (or_cases (list_any at (old_labels found)) (list_any at (stray_labels found))
      (sym (list_any-append at (old_labels found) (stray_labels found)) ∙ written_of pv sector label_put (new_labels found) value w))

  pub repair_writes_lie : BatchesWrite (repair_batches found) pv sector → IsRepairPlace found pv sector
  repair_writes_lie is =
      let w = any_writes pv sector (repair_batches found) is in
      ⊎_elim
      (λ stale. InStale (area_write pv sector (text_of found) (stale_areas found) w.0 stale))
      (λ other. ⊎_elim (at_label w.0) (at_header w.0) other)
      (writes base sizes found p pv sector w.0 w.1)
