-- Which writes a line waits for before it is answered ok.
use Rattle.std.specs.Prelude.{◌≡◌, ◌≤◌, ◌⊎◌, ℕ, true, Contains, List}
use Rattle.flush_plan.specs.Plans.{marks_of}
use Rattle.volume_history.specs.Candidates.{is_through_line}
use Rattle.volume_history.specs.Chronicles.{ChronicleEntry, begun_in}
use Rattle.volume_history.specs.Cuts.{FlushesVolume}
use Rattle.world_places.specs.Lives.{Written}
use Rattle.world_places.specs.Tracked.{Scene}

-- the line waits for the write's flush: it is the write's own line and is through, or it flushes the volume and was begun later
abbrev pub IsWaitedBy : List ChronicleEntry → ℕ → Written → Type 0
IsWaitedBy es n w =
    ((w.line ≡ n) × (is_through_line (begun_in es n) ≡ true)) ⊎ (FlushesVolume es n w.piece.volume × (w.begun ≤ n))

-- no noted write for which the line waits is still without its flush
abbrev pub WaitsForNone : Scene → ℕ → Type 0
WaitsForNone g n = (w : Written) → Contains g.written w → IsWaitedBy g.entries n w → w.place ≤ (marks_of g.plan w.pv).stable
