-- Every sector that a shelf tells has 512 bytes.
use Rattle.std.proofs.Common.{◌≡◌, ◌<◌, ℕ, List, [], Some, slice_index_or, sym, subst}
use Rattle.std.proofs.lemmas.List.{append-nil}
use Rattle.sector_base.specs.Sectors.{IsSector}
use Rattle.disk_model.specs.Brought.{BringOnly}
use Rattle.disk_model.specs.Durability.{EachOnlyLeaves}
use Rattle.disk_model.specs.Record.{IsRecord}
use Rattle.disk_model.specs.State.{IsLawful, State}
use Rattle.disk_model.specs.Steps.{Step, Record, now_after}
use Rattle.disk_model.proofs.Bringing.{only_leaves}
use Rattle.disk_model.proofs.NowStands.{now_has}
use Rattle.disk_model.proofs.Ordered.{bring_only_weaker}
use Rattle.disk_model.proofs.WhereTold.{told_at}

module _ (state : State) (t : Record) (lawful : IsLawful state) (e : state.told ≡ Some t) where
  -- a value within its disk is a sector
  abbrev IsSectorWithin : ℕ → ℕ → List ℕ → Type 0
  IsSectorWithin pv sector value = sector < slice_index_or state.sizes pv 0 → IsSector value

  opened : (pv sector : ℕ) → sector < slice_index_or state.sizes pv 0 → IsSector (t.opened pv sector)
  opened =
      told_at (λ told. (pv sector : ℕ) → sector < slice_index_or state.sizes pv 0 → IsSector (told.opened pv sector)) state.told t
      lawful.opened e

  written : BringOnly (λ pv sector value. IsSector value) t.steps
  written = told_at (λ told. BringOnly (λ pv sector value. IsSector value) told.steps) state.told t lawful.written e

  start : EachOnlyLeaves IsSectorWithin (record { opened = t.opened; steps = [] })
  start pv sector = record { each = λ write value may lt. subst IsSector (sym may.1) (opened pv sector lt) }

  -- each value that a crash may leave has 512 bytes
  pub leaves_sectors : EachOnlyLeaves IsSectorWithin t
  leaves_sectors =
      subst (λ (l : List Step). EachOnlyLeaves IsSectorWithin (record { opened = t.opened; steps = l })) (append-nil t.steps)
      (only_leaves IsSectorWithin t.opened [] start t.steps
      (bring_only_weaker (λ pv sector value. IsSector value) IsSectorWithin t.steps (λ pv sector value is lt. is) written))

  -- and what a read gives
  pub now_sector : (pv sector : ℕ) → sector < slice_index_or state.sizes pv 0 → IsSector (now_after t.opened t.steps pv sector)
  now_sector pv sector =
      now_has t pv sector (IsSectorWithin pv sector) (told_at (λ told. IsRecord told.steps) state.told t lawful.follows e)
      (leaves_sectors pv sector)
