-- What keeps sectors tracked, act by act, keeps moments consistent too, where each line that was begun runs beside others.
use Rattle.std.proofs.Common.{◌≡◌, ◌≤◌, ℕ, ◌++◌, Bool, true, false, not, List, [], ◌∷◌, length, Contains, Option, None, Some, option_map}
use Rattle.std.proofs.Common.{refl, sym, ap, subst, ◌∙◌, true≢false}
use Rattle.std.specs.List.{AllByRecursion as Each}
use Rattle.std.specs.Option.{option_map_or}
use Rattle.std.specs.Prelude.{slice_get}
use Rattle.std.proofs.lemmas.Bool.{and_parts}
use Rattle.std.proofs.lemmas.List.Elements.{Contains-append_left, Contains-push}
use Rattle.lvm_script.specs.declared.line.Line.{Line}
use Rattle.data_lines.specs.DataLines.{is_flush, runs_beside}
use Rattle.disk_model.specs.State.{State}
use Rattle.disk_model.specs.Steps.{Image, Record}
use Rattle.disk_model.specs.declared.ops.Done.{Done}
use Rattle.piece_table.specs.declared.live.Owner.{Owner}
use Rattle.piece_table.specs.Pieces.{owner_at}
use Rattle.volume_history.specs.Candidates.{IsConsistentMoment}
use Rattle.volume_history.specs.Chronicles.{ChronicleEntry, Origin}
use Rattle.volume_history.specs.Legal.{AllOrdered}
use Rattle.world_acts.specs.declared.open_line.OpenLine.{OpenLine}
use Rattle.world_acts.specs.declared.state.Core.{Core}
use Rattle.world_acts.specs.Acts.{Act, Allowed, Begins, Ends, EndsFlush, Grows, IsGrown, Readies, Runs, World, after, follows, goes_on}
use Rattle.world_acts.specs.Acts.{opens_event, owes_more, prepares, settles, world}
use Rattle.world_acts.specs.Orderly.{IsOrderly}
use Rattle.world_acts.specs.Steps.{after_begins}
use Rattle.world_acts.proofs.Lasting.{lasts_act}
use Rattle.io_core.specs.Beginning.{AwaitsAll}
use Rattle.io_core.specs.Events.{ending, settling_of}
use Rattle.line_plans.specs.Plans.{opened_for}
use Rattle.world_history.specs.Contents.{HasContents, origin_with}
use Rattle.world_history.specs.Entries.{entries_by, entries_of}
use Rattle.world_history.specs.Told.{IsTold, none_coming}
use Rattle.world_history.proofs.Acts.{KeepsAlso}
use Rattle.world_history.proofs.Contents.Keeps.{told_steps}
use Rattle.world_places.specs.Lives.{Written}
use Rattle.world_tracks.specs.Moments.{HasBase, HasMoments}
use Rattle.world_tracks.specs.Tracks.{AreTracked}
use Rattle.world_tracks.proofs.ConsistentNow.{MomentLaws}
use Rattle.world_tracks.proofs.MomentActs.{begins_moments, ended_still, ends_moments, goes_moments, is_still}
use Rattle.world_tracks.proofs.WorldMoments.{moments_in_world, now_in_world}

-- each of these lines runs beside others
abbrev pub AllBeside : List Line → Type 0
AllBeside begun = (line : Line) → Contains begun line → runs_beside line.command ≡ true

-- the moments of a world in which each line does, whatever its shelf has told
abbrev pub Moments : Origin → Image → World → List ChronicleEntry → Type 0
Moments b base w es = AllBeside w.core.lines.begun → (told : Record) → w.shelf.told ≡ Some told → HasMoments b base told es

-- each sector is tracked over a shelf that tells
pub record IsTracked (b : Origin) (w : World) (es : List ChronicleEntry) : Type 0 where
  pub contents : HasContents b w es
  pub notes : List Written
  pub tracked : AreTracked b contents.told w.core es notes

-- ---- which acts carry on

not_false : (x : Bool) → not x ≡ true → x ≡ false
not_false true is = absurd (true≢false (sym is))
not_false false is = refl

follows_on : (a : Act) → follows a ≡ true → opens_event a ≡ false
follows_on a is =
    not_false (opens_event a)
    (and_parts (not (opens_event a)) (not (owes_more a)) (and_parts (goes_on a) (not (settles a)) is).0).0

prepares_on : (line : ℕ) (a : Act) → prepares line a ≡ true → opens_event a ≡ false
prepares_on line (Begins l opened) is = absurd (true≢false (sym is))
prepares_on line (Ends done now) is = absurd (true≢false (sym is))
prepares_on line (EndsFlush done now) is = absurd (true≢false (sym is))
prepares_on line (Readies now) is = absurd (true≢false (sym is))
prepares_on line (Grows v) is = absurd (true≢false (sym is))
prepares_on line a is = refl

still_on : (a : Act) → is_still a ≡ true → opens_event a ≡ false
still_on (Begins l opened) is = absurd (true≢false (sym is))
still_on (Ends done now) is = absurd (true≢false (sym is))
still_on (EndsFlush done now) is = absurd (true≢false (sym is))
still_on (Readies now) is = absurd (true≢false (sym is))
still_on (Grows v) is = absurd (true≢false (sym is))
still_on a is = refl

-- they begin no line
begun_on : (w : World) (a : Act) → opens_event a ≡ false → Allowed w a → (after w a).core.lines.begun ≡ w.core.lines.begun
begun_on w a on may = (lasts_act w a may).begun (ap not on)

begun_runs : (acts : List Act) (w v : World) → Each (λ (a : Act). is_still a ≡ true) acts → Runs w acts v
    → v.core.lines.begun ≡ w.core.lines.begun
begun_runs [] w v all run = ap (λ (x : World). x.core.lines.begun) run
begun_runs (a ∷ acts) w v all run =
    begun_runs acts (after w a) v all.1 run.1 ∙ begun_on w a (still_on a all.0) run.0

pub begun_end : (w : World) (piece : Option ℕ) (done : Done) (next : State)
    → (after w (ending piece done next)).core.lines.begun ≡ w.core.lines.begun
begun_end w None done next = refl
begun_end w (Some number) done next = refl

-- ---- what is kept

module _ (laws : MomentLaws) (b : Origin) (base : Image) (has : HasBase b base) where
  module _ {coming : ℕ → ℕ → ℕ} {w : World} {es : List ChronicleEntry} (o : IsOrderly w) (t : IsTold b.start coming w es)
      (g : IsTracked b w es) (m : Moments b base w es) where
    so_far : AllBeside w.core.lines.begun → HasMoments b base g.contents.told es
    so_far beside = m beside g.contents.told g.contents.is

    carries_moments : (a : Act) → opens_event a ≡ false → Allowed w a → Moments b base (after w a) (entries_of w a ++ es)
    carries_moments a on may beside told' is' =
        let k : HasMoments b base g.contents.told es = so_far (subst AllBeside (begun_on w a on may) beside) in
        goes_moments b base w es g.contents.told told' g.contents.is g.contents.holds.shows.so_far.upto
        (now_in_world laws b base has o t g.contents g.notes g.tracked k) k a on o g.contents.holds.volumes may is'

    ended_moments : (piece : Option ℕ) (done : Done) (next : State) → Allowed w (ending piece done next) → (mid : World)
        → Runs (after w (ending piece done next)) (settling_of piece done) mid
        → Moments b base mid (entries_by (after w (ending piece done next)) (settling_of piece done) es)
    ended_moments piece done next may mid run beside told' is' =
        let same : mid.core.lines.begun ≡ w.core.lines.begun =
        begun_runs (settling_of piece done) (after w (ending piece done next)) mid (ended_still piece done) run
        ∙ begun_end w piece done next in
        let k : HasMoments b base g.contents.told es = so_far (subst AllBeside same beside) in
        ends_moments b base w es g.contents.told told' g.contents.is g.contents.holds.shows.so_far.upto
        (now_in_world laws b base has o t g.contents g.notes g.tracked k) k piece done next may mid run is'

    -- every moment from the hand-in on is consistent
    pub all_consistent : AllBeside w.core.lines.begun → (moment : ℕ) → b.first ≤ moment
        → moment ≤ length g.contents.told.steps
        → IsConsistentMoment (record { origin = origin_with b g.contents.told; entries = es }) moment
    all_consistent beside =
        moments_in_world laws b base has o t g.contents g.notes g.tracked (so_far beside)

  module _ (P : ℕ → World → List ChronicleEntry → Type 0) (T : World → List ChronicleEntry → Type 0)
      (preparing : (line : ℕ) (w : World) (es : List ChronicleEntry) → P line w es → IsTracked b w es)
      (gives : (w : World) (es : List ChronicleEntry) → T w es → IsTracked b w es) (keeps : KeepsAlso b.start P T) where
    abbrev Both : World → List ChronicleEntry → Type 0
    Both w es = T w es × Moments b base w es

    -- and of a line that is prepared
    abbrev BothBut : ℕ → World → List ChronicleEntry → Type 0
    BothBut line w es = P line w es × Moments b base w es

    goes : {w : World} {es : List ChronicleEntry} (a : Act) → follows a ≡ true → IsOrderly w → IsTold b.start none_coming w es
        → Allowed w a → AllOrdered b.start (entries_of w a ++ es) → Both w es → Both (after w a) (entries_of w a ++ es)
    goes {w} {es} a is o t may ordered h =
        (keeps.goes a is o t may ordered h.0, carries_moments o t (gives w es h.0) h.1 a (follows_on a is) may)

    readies_line : {coming : ℕ → ℕ → ℕ} {w : World} {es : List ChronicleEntry} (line : ℕ) (a : Act) → prepares line a ≡ true
        → IsOrderly w → IsTold b.start coming w es → Allowed w a → AllOrdered b.start (entries_of w a ++ es) → BothBut line w es
        → BothBut line (after w a) (entries_of w a ++ es)
    readies_line {coming} {w} {es} line a is o t may ordered h = (
      keeps.readies_line line a is o t may ordered h.0,
      carries_moments o t (preparing line w es h.0) h.1 a (prepares_on line a is) may,
    )

    prepared : {w : World} {es : List ChronicleEntry} (line : ℕ) → IsOrderly w → IsTold b.start none_coming w es
        → (option_map_or (λ (l : Line). is_flush l.command) (slice_get w.core.lines.begun line) false ≡ true → AwaitsAll w.core line)
        → BothBut line w es → Both w es
    prepared line o t awaits h = (keeps.prepared line o t awaits h.0, h.1)

    begins : {w : World} {es : List ChronicleEntry} (line : Line) (opened : OpenLine) (barrier : Option ℕ)
        → opened ≡ opened_for w.core.volumes line.command → IsOrderly w → IsTold b.start none_coming w es
        → AllOrdered b.start (entries_of w (Begins line opened) ++ es) → Both w es
        → BothBut (length w.core.lines.begun) (world w.shelf (record (after_begins w.core line opened w.shelf.steps) { barrier = barrier }))
        (entries_of w (Begins line opened) ++ es)
    begins {w} {es} line opened barrier is o t ordered h = (
      keeps.begins line opened barrier is o t ordered h.0,
      λ beside told' is'. begins_moments b base told' w line opened es (beside line (Contains-push w.core.lines.begun line))
          (told_steps o told' is')
          (h.1 (λ l among. beside l (Contains-append_left w.core.lines.begun (line ∷ []) l among)) told' is'),
    )

    ends : {w mid : World} {es : List ChronicleEntry} (piece : Option ℕ) (done : Done) (now : State)
        → piece ≡ option_map (λ (owner : Owner). owner.piece) (owner_at w.core.pieces.owners done.tag) → IsOrderly w
        → IsTold b.start none_coming w es → Allowed w (ending piece done now)
        → Runs (after w (ending piece done now)) (settling_of piece done) mid
        → AllOrdered b.start (entries_by (after w (ending piece done now)) (settling_of piece done) es) → Both w es
        → Both mid (entries_by (after w (ending piece done now)) (settling_of piece done) es)
    ends {w} {mid} {es} piece done now whose o t may run ordered h =
        (keeps.ends piece done now whose o t may run ordered h.0, ended_moments o t (gives w es h.0) h.1 piece done now may mid run)

    grows : {w v : World} {es : List ChronicleEntry} → IsOrderly w → IsGrown w v → Both w es → Both v es
    grows {w} {v} {es} o more h = (
      keeps.grows o more h.0,
      λ beside told' is'. h.1 (subst AllBeside (ap (λ (c : Core). c.lines.begun) more.core) beside) told'
          (sym (ap (λ (s : State). s.told) more.shelf) ∙ is'),
    )

    readies : {w : World} {es : List ChronicleEntry} (now : State) → IsOrderly w → Allowed w (Readies now) → Both w es
        → Both (after w (Readies now)) es
    readies now o may h =
        (keeps.readies now o may h.0, λ beside told' is'. h.1 beside told' (sym (ap (λ (s : State). s.told) may.0.same) ∙ is'))

    pub keeps_moments : KeepsAlso b.start (λ line w es. P line w es × Moments b base w es) (λ w es. T w es × Moments b base w es)
    keeps_moments = record {
      goes = goes;
      readies_line = readies_line;
      begins = begins;
      prepared = prepared;
      ends = ends;
      grows = grows;
      readies = readies;
    }
