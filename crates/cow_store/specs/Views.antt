-- What contracts see of a store.
use Rattle.std.specs.Prelude.{◌≡◌, ◌≤◌, ◌<◌, ◌^◌, ℕ, Bool, List, length}
use Rattle.cow_store.specs.declared.cow_store.CowStore.{CowStore}
use Rattle.cow_store.specs.Layout.{lengths_of, slots_in}
use Rattle.cow_store.specs.VolStates.{VolState}

-- the volumes, the entries of the table, and whether an operation has failed
pub record CowView : Type 0 where
  pub vols : VolState
  pub entries : List ℕ
  pub spent : Bool

-- what is seen of a store, by what is known of its volumes
abbrev pub view_of : {V : Type 0} → (V → VolState) → CowStore V → CowView
view_of state store = record { vols = state store.vols; entries = store.table; spent = store.spent }

-- what holds of every store: there are two volumes, and an entry for each slot
pub record IsStore (view : CowView) : Type 0 where
  pub volumes : 2 ≤ length view.vols.sizes
  pub large : 10 ≤ (lengths_of view.vols.sizes).store
  pub fits : (lengths_of view.vols.sizes).store < 2 ^ 64
  pub slots : length view.entries ≡ slots_in (lengths_of view.vols.sizes).store
