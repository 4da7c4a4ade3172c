-- A row of files that was just opened is a row of disks as a run is handed them.
use Rattle.std.proofs.Common.{◌≡◌, ℕ, refl, sym, subst, arith}
use Rattle.disk_model.specs.State.{State}
use Rattle.file_shelf.specs.Opened.{IsOpened}
use Rattle.lvm_run.specs.Disks.{AreDisks}

opened_disks : (count : ℕ) (state : State) → IsOpened count state → AreDisks count state
opened_disks count state opened = subst (AreDisks count) (sym opened.3) (record {
  many = opened.1;
  least = λ pv lt. (opened.2 pv 0 (omega (arith, opened.1))).0;
  most = λ pv lt. (opened.2 pv 0 (omega (arith, opened.1))).1;
  idle = refl;
})

-- the same of a number of files that is known by another count
pub opened_disks_as : (count number : ℕ) (state : State) → count ≡ number → IsOpened count state → AreDisks number state
opened_disks_as count number state same opened = subst (λ (n : ℕ). AreDisks n state) same (opened_disks count state opened)
