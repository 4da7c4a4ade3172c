-- What a run of a script makes of a world.
use Rattle.std.specs.Prelude.{◌≡◌, ℕ, Bool, true, false, List, ◌++◌}
use mathlib.Core.List.{IsPrefix}
use Rattle.line_table.specs.declared.journal.JournalEntry.{JournalEntry}
use Rattle.io_session.specs.declared.session.Run.{Run}
use Rattle.io_session.specs.Events.{Event}
use Rattle.io_session.specs.Traces.{HasTimelyTrace}
use Rattle.io_session.specs.Desks.{DeskState, script_of, unbegun}

-- A run of the script from the initial world on. The world came from the initial one by events, each in time, in which memory was
-- wanted, and a line came back, where the run says so. The lines that were begun, the one that came back and the others are the
-- script, and all were begun unless memory was wanted. The journal only grew, nothing is in flight or due, and every line that was
-- begun is answered.
pub record IsCarriedOut {W L : Type 0} (begun : W → List L) (journal : W → List JournalEntry) (in_flight : W → ℕ)
    (is_due is_done : W → Bool) (allows : W → L → Bool) (makes : W → Event L → W → Type 0)
    (initial : W) (script : List L) (run : Run W L) : Type 0 where
  pub continued : HasTimelyTrace begun allows makes initial script run.world run.wanted run.refused
  pub whole_script : begun run.world ++ unbegun run.refused run.rest.items ≡ script
  pub all_begun : run.wanted ≡ false → begun run.world ≡ script
  pub longer : IsPrefix (journal initial) (journal run.world)
  pub none_in_flight : in_flight run.world ≡ 0
  pub none_due : is_due run.world ≡ false
  pub all_answered : is_done run.world ≡ true

-- the same from a desk on, whose world's journal continues that of the initial one
abbrev pub IsCarriedOutFrom : {W L : Type 0} → (W → List L) → (W → List JournalEntry) → (W → ℕ) → (W → Bool) → (W → Bool)
    → (W → L → Bool) → (W → Event L → W → Type 0) → DeskState W L → Run W L → Type 0
IsCarriedOutFrom begun journal in_flight is_due is_done allows makes d run = IsPrefix (journal d.initial) (journal d.world)
    → IsCarriedOut begun journal in_flight is_due is_done allows makes d.initial (script_of begun d) run
