-- A commit beside a shelf that goes on elsewhere, and what each image shows.
use Rattle.std.proofs.Common.{ℕ, List, All, Option, Some, None, IfSome, arith}
use Rattle.disk_model.specs.Durability.{AllLeave}
use Rattle.disk_model.specs.State.{State}
use Rattle.disk_model.specs.Steps.{Step, Record, steps_on}
use Rattle.disk_model.proofs.WhereTold.{told_after, told_weaker}
use Rattle.disk_batch.specs.declared.batch.Batch.{Batch}
use Rattle.disk_batch.specs.Along.{AllAlong, GoesElsewhere}
use Rattle.disk_batch.specs.Rounds.{IsElsewhere}
use Rattle.disk_batch.specs.Views.{View}
use Rattle.disk_batch.proofs.Along.{along_where}
use Rattle.disk_batch.proofs.Elsewhere.{along_elsewhere, batch_steps, faults_beside, flushed_steps, flushes_steps, leave_steps, still_steps}
use Rattle.vg_commit.specs.CommitHolds.{Commit, HaveFlushed, HoldsBefore, IsEither, IsNew, IsOld, IsOldWithTexts, IsSound, Rests, is_header}
use Rattle.vg_commit.specs.CommitHolds.{is_own, is_text}
use Rattle.vg_commit.specs.Laws.{ComElsewhere, ComShows, FencedShows, LostShows, PreElsewhere, PreShows, ReadyElsewhere, ReadyShows}
use Rattle.vg_commit.specs.Laws.{ShowsEither, ShowsNew, ShowsOld, WholeElsewhere, WholeShows}
use Rattle.vg_commit.specs.SectorReading.{AreSized, old_reading}
use Rattle.vg_commit.proofs.CommitTargets.{shows_either, shows_new, shows_old, weaker, with_texts_old}

module _ (c : Commit) where
  abbrev Sized : Type 0
  Sized = AreSized (old_reading c.bytes) c.areas

  -- before it is published a crash leaves the old reading
  before_leaves : (headers : Option Batch) (view : View) (told : Record) → HoldsBefore c headers view told
      → AllLeave (is_own c) (IsOld c) told
  before_leaves (Some headers) view told h = h.0.leaves
  before_leaves None view told h = weaker c (IsOldWithTexts c) (IsOld c) (with_texts_old c) told h.0.leaves

  before_steps : (headers : Option Batch) (view : View) (newer : List Step) (told : Record) → All (IsElsewhere (is_own c) view.tags) newer
      → HoldsBefore c headers view told → HoldsBefore c headers view (steps_on newer told)
  before_steps (Some headers) view newer told else h = (
    batch_steps (is_own c) (is_text c) (IsOld c) (IsNew c) view newer told else h.0,
    λ k d within. flushes_steps (is_own c) view c.from _ newer told else (h.1 k d within),
  )
  before_steps None view newer told else h = (
    batch_steps (is_own c) (is_header c) (IsOldWithTexts c) (IsOld c) view newer told else h.0,
    λ k d within. flushed_steps (is_own c) c.from _ newer told (h.1 k d within),
  )

  rest_steps : (Now : ℕ → ℕ → List ℕ → Type 0) (tags : List ℕ) (newer : List Step) (told : Record) → All (IsElsewhere (is_own c) tags) newer
      → Rests c Now told → Rests c Now (steps_on newer told)
  rest_steps Now tags newer told else h =
      record {
        sized = h.sized;
        leaves = leave_steps (is_own c) Now tags newer told else h.leaves;
        still = still_steps (is_own c) tags newer told else h.still;
      }

  flushed_more : (newer : List Step) (told : Record) → HaveFlushed c told.steps → HaveFlushed c (steps_on newer told).steps
  flushed_more newer told h k d within = flushed_steps (is_own c) c.from _ newer told (h k d within)

  -- what is told, once the shelf has gone on elsewhere
  told_on : (P : Record → Type 0) (tags : List ℕ) (old new : State) (else : GoesElsewhere (is_own c) tags old new)
      → ((t : Record) → P t → P (steps_on else.newer t)) → IfSome old.told P → IfSome new.told P
  told_on P tags old new else step h = told_after (steps_on else.newer) P P old.told new.told else.told (λ t is p. step t p) h

  module _ (sound : IsSound c) (tags : List ℕ) (old new : State) (else : GoesElsewhere (is_own c) tags old new) where
    old_beside : IfSome old.told (λ told. Sized × AllLeave (is_own c) (IsOld c) told) → AllAlong (ShowsOld c) old new
    old_beside h =
        along_where Sized (AllLeave (is_own c) (IsOld c)) (ShowsOld c) old new (λ is t leaves. shows_old c sound t is leaves)
        (told_weaker _ (λ told. Sized) old.told (λ t f. f.0) h)
        (along_elsewhere (is_own c) (IsOld c) tags old new else (told_weaker _ (AllLeave (is_own c) (IsOld c)) old.told (λ t f. f.1) h))

    either_beside : IfSome old.told (λ told. Sized × AllLeave (is_own c) (IsEither c) told) → AllAlong (ShowsEither c) old new
    either_beside h =
        along_where Sized (AllLeave (is_own c) (IsEither c)) (ShowsEither c) old new (λ is t leaves. shows_either c sound t is leaves)
        (told_weaker _ (λ told. Sized) old.told (λ t f. f.0) h)
        (along_elsewhere (is_own c) (IsEither c) tags old new
        else (told_weaker _ (AllLeave (is_own c) (IsEither c)) old.told (λ t f. f.1) h))

    new_beside : IfSome old.told (λ told. Sized × AllLeave (is_own c) (IsNew c) told) → AllAlong (ShowsNew c) old new
    new_beside h =
        along_where Sized (AllLeave (is_own c) (IsNew c)) (ShowsNew c) old new (λ is t leaves. shows_new c sound t leaves)
        (told_weaker _ (λ told. Sized) old.told (λ t f. f.0) h)
        (along_elsewhere (is_own c) (IsNew c) tags old new else (told_weaker _ (AllLeave (is_own c) (IsNew c)) old.told (λ t f. f.1) h))

-- ---- beside it

pub pre_elsewhere : PreElsewhere
pre_elsewhere c view old new else h = (
  record {
    sound = h.sound;
    headers = h.headers;
    publish = h.publish;
    entries = h.entries;
    flush = h.flush;
    told =
        told_on c _ view.batch.tags old new else (λ t f. (f.0, before_steps c view.headers view.batch else.newer t else.elsewhere f.1))
        h.told;
    since = omega (arith, h.since, else.next);
    faults = faults_beside (is_own c) view.batch.tags c.faults view.batch.lost old new else h.faults;
  },
  old_beside c h.sound view.batch.tags old new
      else (told_weaker _ _ old.told (λ t f. (f.0, before_leaves c view.headers view.batch t f.1)) h.told),
)

pub ready_elsewhere : ReadyElsewhere
ready_elsewhere c view tags old new else h = (
  record {
    sound = h.sound;
    publish = h.publish;
    entries = h.entries;
    told =
        told_on c _ tags old new else (λ t f. (
          rest_steps c (IsOldWithTexts c) tags else.newer t else.elsewhere f.0,
          flushed_more c else.newer t f.1,
        )) h.told;
    since = omega (arith, h.since, else.next);
    faults = faults_beside (is_own c) tags c.faults None old new else h.faults;
  },
  old_beside c h.sound tags old new else (told_weaker _ _ old.told
      (λ t f. (f.0.sized, weaker c (IsOldWithTexts c) (IsOld c) (with_texts_old c) t f.0.leaves)) h.told),
)

pub com_elsewhere : ComElsewhere
com_elsewhere c view old new else h = (
  record {
    sound = h.sound;
    entries = h.entries;
    flush = h.flush;
    told = told_on c _ view.batch.tags old new else
        (λ t f. (
          f.0,
          (
            batch_steps (is_own c) (is_header c) (IsEither c) (IsNew c) view.batch else.newer t else.elsewhere f.1.0,
            flushed_more c else.newer t f.1.1,
          ),
        )) h.told;
    since = omega (arith, h.since, else.next);
    faults = faults_beside (is_own c) view.batch.tags c.faults view.batch.lost old new else h.faults;
  },
  either_beside c h.sound view.batch.tags old new else (told_weaker _ _ old.told (λ t f. (f.0, f.1.0.leaves)) h.told),
)

pub whole_elsewhere : WholeElsewhere
whole_elsewhere c committed tags old new else h = (
  record {
    sound = h.sound;
    entries = h.entries;
    told =
        told_on c _ tags old new else (λ t f. (
          rest_steps c (IsNew c) tags else.newer t else.elsewhere f.0,
          flushed_more c else.newer t f.1,
        )) h.told;
  },
  new_beside c h.sound tags old new else (told_weaker _ _ old.told (λ t f. (f.0.sized, f.0.leaves)) h.told),
)

-- ---- what each image shows

pub pre_shows : PreShows
pre_shows c view state h =
    told_weaker _ (ShowsOld c) state.told (λ t f. shows_old c h.sound t f.0 (before_leaves c view.headers view.batch t f.1)) h.told

pub ready_shows : ReadyShows
ready_shows c view state h =
    told_weaker _ _ state.told (λ t f. (
      shows_old c h.sound t f.0.sized
          (weaker c (IsOldWithTexts c) (IsOld c) (with_texts_old c) t f.0.leaves),
      f.1,
    )) h.told

pub com_shows : ComShows
com_shows c view state h = told_weaker _ _ state.told (λ t f. (shows_either c h.sound t f.0 f.1.0.leaves, f.1.1)) h.told

pub whole_shows : WholeShows
whole_shows c committed state h = told_weaker _ _ state.told (λ t f. (shows_new c h.sound t f.0.leaves, f.1)) h.told

pub lost_shows : LostShows
lost_shows c pv state h = told_weaker _ (ShowsOld c) state.told (λ t r. shows_old c h.sound t r.sized r.leaves) h.told

pub fenced_shows : FencedShows
fenced_shows c pv state h = told_weaker _ (ShowsEither c) state.told (λ t r. shows_either c h.sound t r.sized r.leaves) h.told
