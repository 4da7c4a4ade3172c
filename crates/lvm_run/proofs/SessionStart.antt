-- The disks of a session were looked at, and what was found there can be repaired.
use Rattle.std.specs.Prelude.{◌≡◌, true, None, Some}
use Rattle.disk_model.specs.Durability.{IsBase}
use Rattle.disk_model.specs.State.{State}
use Rattle.disk_model.specs.Steps.{Image, Record}
use Rattle.vg_found.specs.declared.found.Found.{Found}
use Rattle.vg_scan.specs.Scans.{IsScanOf}
use Rattle.vg_repair.specs.Laws.{KeepsImages, StraysAreOthers}
use Rattle.vg_repair.specs.Stale.{too_large}
use Rattle.repair_scans.proofs.StraysApart.{strays_apart}
use Rattle.repair_scans.specs.Laws.{CanRepair}
use Rattle.lvm_run.specs.Scan.{OpensDisks}
use Rattle.lvm_run.specs.Sessions.{Opens}
use Rattle.lvm_run.proofs.Promised.{IsTold, scanned_base}

module _ (old opened : State) (old_told : IsTold old) (found : Found) (opens : Opens old found opened) (handed : Record)
    (there : old.told ≡ Some handed) (base : Image) (base_is : IsBase handed base) where
  scan : IsScanOf base old.sizes found
  scan = scanned_base old found old_told opens.cause.now handed there base base_is

  pub can_repair : too_large found ≡ None → (StraysAreOthers found → KeepsImages found) → CanRepair base old.sizes found
  can_repair fits keeps = record {
    scan = scan;
    shape = opens.cause.shape;
    whole = opens.cause.whole;
    fits = fits;
    keeps = keeps (strays_apart base old.sizes found scan);
  }

  abbrev pub look : Record
  look = (opens.told handed there).0

  pub look_told : opened.told ≡ Some look
  look_told = (opens.told handed there).1

  abbrev pub looks : OpensDisks old.sizes handed true look
  looks = (opens.told handed there).2
