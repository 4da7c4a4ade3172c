-- Each act that settles no operation keeps what is tracked: of what is told behind it.
use Rattle.std.proofs.Common.{◌≡◌, ℕ, true, List, ◌++◌, Option, Some, option_map, sym, ap, subst, ◌∙◌, true≢false}
use Rattle.std.proofs.lemmas.Option.{same_Some}
use Rattle.disk_model.specs.Operations.{work_of}
use Rattle.disk_model.specs.State.{State}
use Rattle.disk_model.specs.Steps.{Completed, Flushing, Record, Step, Submitted, step_on}
use Rattle.disk_model.specs.declared.ops.Done.{Done}
use Rattle.volume_history.specs.Chronicles.{ChronicleEntry, Origin}
use Rattle.volume_history.specs.Legal.{AllOrdered}
use Rattle.world_acts.specs.declared.state.Core.{Core}
use Rattle.world_acts.specs.Acts.{Act, Allowed, Answers, Asks, AsksFlush, Awaits, EndsFlush, Enters, Fails, Holds, LineFails, Passes}
use Rattle.world_acts.specs.Acts.{Releases, Starts, Wakes, World, after, follows, prepares}
use Rattle.world_acts.specs.Orderly.{IsOrderly}
use Rattle.io_core.specs.Rest.{no_one}
use Rattle.world_history.specs.Contents.{Holds as HoldsContents}
use Rattle.world_history.specs.Entries.{entries_of}
use Rattle.world_history.specs.Told.{IsTold}
use Rattle.world_places.specs.Lives.{Written}
use Rattle.world_tracks.specs.Notes.{AreWaited}
use Rattle.world_tracks.specs.Tracks.{AreTracked, PlaceLaws}
use Rattle.world_tracks.proofs.AnsweredTracked.{NumbersHold, answers_tracked, passes_tracked}
use Rattle.world_tracks.proofs.AskedTracked.{asks_flush_tracked, asks_tracked}
use Rattle.world_tracks.proofs.EntriesTracked.{fails_tracked}
use Rattle.world_tracks.proofs.FlushTracked.{ends_flush_tracked}
use Rattle.world_tracks.proofs.QuietTracked.{awaits_tracked, enters_tracked, holds_tracked, line_fails_tracked, releases_tracked}
use Rattle.world_tracks.proofs.QuietTracked.{starts_tracked, wakes_tracked}

-- of the same that is told
pub told_same : (b : Origin) (told now : Record) (o : Option Record) (d : Core) (es : List ChronicleEntry) (notes : List Written)
    → o ≡ Some told
    → o ≡ Some now
    → AreTracked b told d es notes
    → AreTracked b now d es notes
told_same b told now o d es notes is then t =
    subst (λ (r : Record). AreTracked b r d es notes) (same_Some told now (sym is ∙ then)) t

-- and of one step more
told_more : (b : Origin) (told now : Record) (old new : Option Record) (step : Step) (d : Core) (es : List ChronicleEntry)
    (notes : List Written) → new ≡ option_map (step_on step) old
    → old ≡ Some told
    → new ≡ Some now
    → AreTracked b (step_on step told) d es notes
    → AreTracked b now d es notes
told_more b told now old new step d es notes tells is then t =
    told_same b (step_on step told) now new d es notes (tells ∙ ap (option_map (step_on step)) is) then t

module _ {start : ℕ} {coming : ℕ → ℕ → ℕ} {w : World} {es : List ChronicleEntry} (laws : PlaceLaws) (b : Origin) (told now : Record)
    (notes : List Written) (o : IsOrderly w) (history : IsTold start coming w es) (is : w.shelf.told ≡ Some told)
    (h : HoldsContents b told w es) (t : AreTracked b told w.core es notes) where
  -- an act that prepares a line
  pub prepares_tracked : (line : ℕ) (a : Act) → prepares line a ≡ true → Allowed w a → (after w a).shelf.told ≡ Some now
      → AreTracked b now (after w a).core (entries_of w a ++ es) notes
  prepares_tracked line (Enters n piece sectors ticket entry) passes may then =
      told_same b told now w.shelf.told (after w (Enters n piece sectors ticket entry)).core es notes is then
      (enters_tracked b told w es notes t o n piece sectors ticket entry)
  prepares_tracked line (Awaits n pv) passes may then =
      told_same b told now w.shelf.told (after w (Awaits n pv)).core es notes is then (awaits_tracked b told w es notes t n pv)
  prepares_tracked line (LineFails n why) passes may then =
      told_same b told now w.shelf.told (after w (LineFails n why)).core es notes is then (line_fails_tracked b told w es notes t n why)
  prepares_tracked line (Starts number) passes may then =
      told_same b told now w.shelf.told (after w (Starts number)).core es notes is then (starts_tracked b told w es notes t o number may)
  prepares_tracked line (Asks number op tag s) passes may then =
      told_more b told now w.shelf.told s.told (Submitted tag (work_of op)) (after w (Asks number op tag s)).core es notes may.0.told is
      then (asks_tracked laws b told notes o history is h t number op tag s may)
  prepares_tracked line (Fails number why) passes may then =
      told_same b told now w.shelf.told (after w (Fails number why)).core (entries_of w (Fails number why) ++ es) notes is then
      (fails_tracked laws b told notes o history t number why may)
  prepares_tracked line a passes may then = absurd (true≢false (sym passes))

  -- one that follows
  pub follows_tracked : NumbersHold → AreWaited w.core no_one notes → (a : Act) → follows a ≡ true → Allowed w a
      → AllOrdered start (entries_of w a ++ es)
      → (after w a).shelf.told ≡ Some now
      → AreTracked b now (after w a).core (entries_of w a ++ es) notes
  follows_tracked numbers waited (LineFails n why) passes may ordered then =
      told_same b told now w.shelf.told (after w (LineFails n why)).core es notes is then (line_fails_tracked b told w es notes t n why)
  follows_tracked numbers waited (Answers line) passes may ordered then =
      told_same b told now w.shelf.told (after w (Answers line)).core (entries_of w (Answers line) ++ es) notes is then
      (answers_tracked laws numbers b told notes o history t waited line may ordered)
  follows_tracked numbers waited (Holds line) passes may ordered then =
      told_same b told now w.shelf.told (after w (Holds line)).core es notes is then (holds_tracked b told w es notes t line)
  follows_tracked numbers waited (Passes line) passes may ordered then =
      told_same b told now w.shelf.told (after w (Passes line)).core (entries_of w (Passes line) ++ es) notes is then
      (passes_tracked laws numbers b told notes o history t waited line may ordered)
  follows_tracked numbers waited Wakes passes may ordered then =
      told_same b told now w.shelf.told (after w Wakes).core es notes is then (wakes_tracked b told w es notes t)
  follows_tracked numbers waited (Starts number) passes may ordered then =
      told_same b told now w.shelf.told (after w (Starts number)).core es notes is then (starts_tracked b told w es notes t o number may)
  follows_tracked numbers waited (Asks number op tag s) passes may ordered then =
      told_more b told now w.shelf.told s.told (Submitted tag (work_of op)) (after w (Asks number op tag s)).core es notes may.0.told is
      then (asks_tracked laws b told notes o history is h t number op tag s may)
  follows_tracked numbers waited (Fails number why) passes may ordered then =
      told_same b told now w.shelf.told (after w (Fails number why)).core (entries_of w (Fails number why) ++ es) notes is then
      (fails_tracked laws b told notes o history t number why may)
  follows_tracked numbers waited (AsksFlush pv tag s) passes may ordered then =
      told_more b told now w.shelf.told s.told (Submitted tag (Flushing pv)) (after w (AsksFlush pv tag s)).core es notes may.0.told is
      then (asks_flush_tracked laws b told notes o history is h t pv tag s)
  follows_tracked numbers waited (Releases pv) passes may ordered then =
      told_same b told now w.shelf.told (after w (Releases pv)).core es notes is then
      (releases_tracked b told w es notes t o laws h.shows.so_far pv)
  follows_tracked numbers waited a passes may ordered then = absurd (true≢false (sym passes))

  -- a flush ends
  pub ended_flush_tracked : (done : Done) (s : State) → Allowed w (EndsFlush done s) → s.told ≡ Some now
      → AreTracked b now (after w (EndsFlush done s)).core es notes
  ended_flush_tracked done s may then =
      told_more b told now w.shelf.told s.told (Completed done.tag (work_of done.op) done.well may.0.told.0)
      (after w (EndsFlush done s)).core es notes may.0.told.1 is then (ends_flush_tracked laws b told notes o h.shows.so_far t done s may)
