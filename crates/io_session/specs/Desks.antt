-- A desk as plain data, how it came to be, and what its steps do.
use Rattle.std.specs.Prelude.{◌≡◌, ◌<◌, ℕ, ◌+◌, Bool, true, false, ◌==◌, ◌&&◌, ◌||◌, Option, Some, None, List, [], ◌∷◌, ◌++◌, length}
use mathlib.Core.List.{IsPrefix}
use Rattle.line_table.specs.declared.journal.JournalEntry.{JournalEntry}
use Rattle.io_session.specs.Events.{Event}
use Rattle.io_session.specs.Traces.{HasTimelyTrace}

-- a desk: the world as it was handed in, the world, the line that came back, the further ones that weren't begun, and whether
-- memory was wanted
pub record DeskState (W L : Type 0) : Type 0 where
  pub initial : W
  pub world : W
  pub refused : Option L
  pub rest : List L
  pub wanted : Bool

-- the lines that are still to be begun: none once memory was wanted
abbrev pub queued : {L : Type 0} → Bool → List L → List L
queued true rest = []
queued false rest = rest

-- the lines that weren't begun: the one that came back, if one did, and then the others
abbrev pub unbegun : {L : Type 0} → Option L → List L → List L
unbegun None rest = rest
unbegun (Some line) rest = line ∷ rest

-- the lines that were begun, and then those that weren't
abbrev pub script_of : {W L : Type 0} → (W → List L) → DeskState W L → List L
script_of begun d = begun d.world ++ unbegun d.refused d.rest

-- the world came from the one that was handed in, by events that came in time
abbrev pub DeskInvariant : {W L : Type 0} → (W → List L) → (W → L → Bool) → (W → Event L → W → Type 0) → DeskState W L → Type 0
DeskInvariant begun allows makes d = HasTimelyTrace begun allows makes d.initial (script_of begun d) d.world d.wanted d.refused

-- one desk continues another: the same world was handed in, with the same script, and the journal only grew
pub record Continues {W L : Type 0} (begun : W → List L) (journal : W → List JournalEntry) (old new : DeskState W L) : Type 0 where
  pub initial : new.initial ≡ old.initial
  pub script : script_of begun new ≡ script_of begun old
  pub longer : IsPrefix (journal old.world) (journal new.world)

-- how often memory may still be found wanting: once
abbrev pub refusals_left : Bool → ℕ
refusals_left true = 0
refusals_left false = 1

-- how often a line may still be begun or refused
abbrev pub begins_left : {W L : Type 0} → DeskState W L → ℕ
begins_left d = refusals_left d.wanted + length d.rest

-- the next line, where one is queued, may not begin
abbrev pub IsNextBlocked : {W L : Type 0} → (W → L → Bool) → DeskState W L → Type 0
IsNextBlocked {L = L} allows d = (line : L) (later : List L) → queued d.wanted d.rest ≡ line ∷ later → allows d.world line ≡ false

-- the next line may begin
pub record MayBeginNext {W L : Type 0} (allows : W → L → Bool) (d : DeskState W L) : Type 0 where
  pub wanted_not : d.wanted ≡ false
  pub some : 0 < length d.rest
  pub free : (line : L) (later : List L) → d.rest ≡ line ∷ later → allows d.world line ≡ true

-- whether every line that was begun is answered, and no further one is to be begun
abbrev pub is_finished : {W L : Type 0} → (W → Bool) → DeskState W L → Bool
is_finished is_done d = (d.wanted || (length d.rest == 0)) && is_done d.world

-- nothing is in flight or due, every line that was begun is answered, and none is queued
pub record IsQuiescent {W L : Type 0} (in_flight : W → ℕ) (is_due is_done : W → Bool) (d : DeskState W L) : Type 0 where
  pub none_in_flight : in_flight d.world ≡ 0
  pub none_due : is_due d.world ≡ false
  pub all_answered : is_done d.world ≡ true
  pub none_queued : queued d.wanted d.rest ≡ []
