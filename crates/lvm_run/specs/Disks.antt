-- The disks that are handed to a run.
use Rattle.std.specs.Prelude.{◌≡◌, ◌≤◌, ◌<◌, ℕ, ◌^◌, List, [], length, slice_index_or, Some}
use Rattle.command_table.specs.Options.{Word}
use Rattle.lvm_words.specs.Disks.{disks_named}
use Rattle.disk_model.specs.State.{State}

-- so many disks, each of 8 to 2^40 sectors, with nothing in flight
pub record AreDisks (count : ℕ) (state : State) : Type 0 where
  pub many : length state.sizes ≡ count
  pub least : (pv : ℕ) → pv < count → 8 ≤ slice_index_or state.sizes pv 0
  pub most : (pv : ℕ) → pv < count → slice_index_or state.sizes pv 0 ≤ 2 ^ 40
  pub idle : state.in_flight ≡ []

-- the run is handed the disks that its words name
abbrev pub HasDisks : List Word → State → Type 0
HasDisks words state = (names : List Word) → disks_named words ≡ Some names → AreDisks (length names) state
