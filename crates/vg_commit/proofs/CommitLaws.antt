-- A commit on its way, from its beginning until it is whole.
use Rattle.std.proofs.Common.{◌≡◌, ℕ, Bool, List, get_or, All, Option, Some, None, IfSome, refl, sym, subst, ◌∙◌, arith}
use Rattle.disk_model.specs.declared.ops.Done.{Done}
use Rattle.disk_model.specs.Calls.{Completes}
use Rattle.disk_model.specs.Durability.{AllLeave}
use Rattle.disk_model.specs.InFlight.{IsAmong}
use Rattle.disk_model.specs.Moments.{EachImage}
use Rattle.disk_model.specs.Record.{IsRecord}
use Rattle.disk_model.specs.State.{IsLawful, State}
use Rattle.disk_model.specs.Steps.{Record}
use Rattle.disk_model.proofs.WhereTold.{told_both, told_weaker}
use Rattle.disk_batch.specs.declared.batch.Batch.{Batch}
use Rattle.disk_batch.specs.declared.batching.BatchStep.{BatchStep}
use Rattle.disk_batch.specs.declared.batching.BatchStep.TheVariants as batch
use Rattle.disk_batch.specs.Along.{AllAlong}
use Rattle.disk_batch.specs.Batches.{Goes, Starts, view_of}
use Rattle.disk_batch.specs.Flushed.{FlushesSince, HasFlushedSince}
use Rattle.disk_batch.specs.InTurn.{Put}
use Rattle.disk_batch.specs.Rounds.{AreStill, BatchHolds}
use Rattle.disk_batch.specs.Views.{View}
use Rattle.disk_batch.specs.Writes.{disks_in}
use Rattle.disk_batch.proofs.Along.{along_both, along_starts, along_told, along_where}
use Rattle.disk_batch.proofs.Among.{each_of_all}
use Rattle.disk_batch.proofs.Faulting.{faults_start}
use Rattle.disk_batch.proofs.FlushedStates.{FlushingCame, goes_flushing, starts_flushing, told_of_each}
use Rattle.disk_batch.proofs.Starting.{some_start, start_faults, start_flushes}
use Rattle.mda_header.specs.declared.header.Locn.{Locn}
use Rattle.mda_ring.specs.declared.area.Area.{Area}
use Rattle.vg_commit.specs.declared.committing.ComStep.{ComStep}
use Rattle.vg_commit.specs.declared.committing.ComStep.TheVariants as published
use Rattle.vg_commit.specs.declared.precommitting.PreStep.{PreStep}
use Rattle.vg_commit.specs.declared.precommitting.PreStep.TheVariants as pre
use Rattle.vg_commit.specs.CommitHolds.{ComCame, ComHolds, Commit, FailedHolds, HaveFlushed, IsEither, IsNew, IsOld, IsOldWithTexts}
use Rattle.vg_commit.specs.CommitHolds.{IsSound, PreCame, PreHolds, ReadyHolds, Rests, headers_in, is_header, is_own, is_text, publish_in}
use Rattle.vg_commit.specs.CommitHolds.{texts_in}
use Rattle.vg_commit.specs.Laws.{BeginsHolding, CommitsHolding, GoesHolding, PublishesHolding, ShowsEither, ShowsOld, begun_in}
use Rattle.vg_commit.specs.Phases.{ComFollows, ComView, PreFollows, PreView, com_view, pre_view, ready_view}
use Rattle.vg_commit.specs.Preparing.{area_disks}
use Rattle.vg_commit.specs.SectorReading.{AllShow, AreSized, old_reading}
use Rattle.vg_commit.specs.Written.{in_areas}
use Rattle.vg_commit.proofs.AreaPuts.{is_placed}
use Rattle.vg_commit.proofs.AreasCommit.{rooms}
use Rattle.vg_commit.proofs.CommitGoes.{Took, flushed_along, took}
use Rattle.vg_commit.proofs.CommitTargets.{header_targets, headers_allowed, headers_there, make, publish_allowed, publish_targets}
use Rattle.vg_commit.proofs.CommitTargets.{shows_either, shows_old, text_targets, texts_there, weaker, with_texts_either, with_texts_old}
use Rattle.vg_commit.proofs.Lying.{headers_some, publish_some, texts_some}
use Rattle.vg_commit.proofs.ShownSectors.{images_read, sized_old}

-- a batch of these writes and disks starts as the batch does that has them
started_as : (old new : State) (view : View) (puts puts' : List Put) (disks disks' : List ℕ) → puts ≡ puts' → disks ≡ disks'
    → Starts old puts disks view new → Starts old puts' disks' view new
started_as old new view puts puts' disks disks' same_puts same_disks starts =
    subst (λ (d : List ℕ). Starts old puts' d view new) same_disks (subst (λ (p : List Put). Starts old p disks view new) same_puts starts)

-- where nothing happened what held holds, of what it became
as_it_was : {V : Type 0} (P : V → State → Type 0) (old new : State) (before after : V) → (new ≡ old) × (after ≡ before) → P before old
    → P after new
as_it_was {V} P old new before after same h = subst (λ (s : State). P after s) (sym same.0) (subst (λ (v : V). P v old) (sym same.1) h)

along_to : (P : Record → Type 0) (old mid new : State) → new ≡ mid → AllAlong P old mid → AllAlong P old new
along_to P old mid new same h = subst (λ (s : State). AllAlong P old s) (sym same) h

-- three things that are told
told_three : (P Q R : Record → Type 0) (o : Option Record) → IfSome o P → IfSome o Q → IfSome o R
    → IfSome o (λ told. P told × (Q told × R told))
told_three P Q R o p q r = told_both P (λ told. Q told × R told) o p (told_both Q R o q r)

-- ---- it begins

pub begins : BeginsHolding
begins prepared text areas bytes flush old new view lawful prep starts h =
    let c : Commit = begun_in old text areas bytes flush in
    let sound : IsSound c = record { committed = prep.committed; room = prep.room; read = prep.read } in
    let Sized : Record → Type 0 = λ told. AreSized (old_reading bytes) areas in
    let Leaves : Record → Type 0 = AllLeave (is_own c) (IsOld c) in
    let some =
    texts_some text areas prep.committed.some
    (λ k d within. is_placed text (get_or areas k d) (prep.committed.take k d within) (rooms text areas prep.room k d within)) in
    let texts : Starts old (texts_in c) (disks_in flush) view.batch new =
    started_as old new view.batch _ _ _ _ prep.texts prep.text_disks starts.0 in
    let facts =
    told_both (λ told. IsRecord told.steps) (λ told. EachImage (AllShow (old_reading bytes) areas) told
    × AreStill (in_areas areas) told) old.told lawful.follows h in
    let quiet : IfSome old.told (λ told. AreStill (is_own c) told × Leaves told) =
    told_weaker _ (λ told. AreStill (is_own c) told × Leaves told) old.told
    (λ t f. (f.1.1, λ pv sector own. images_read (old_reading bytes) areas t f.0 f.1.0 pv sector)) facts in
    let sized : IfSome old.told Sized = told_weaker _ Sized old.told (λ t f. sized_old bytes areas t f.0 prep.committed.take f.1.0) facts in
    let along : AllAlong Leaves old new =
    along_starts (is_own c) (IsOld c) old new (texts_in c) (disks_in flush) view.batch texts
    (λ pv sector value own by. (make c sound).texts_old pv sector value by) (told_weaker _ Leaves old.told (λ t q. q.1) quiet)
    in
    let pre : PreHolds c (record {
      batch = view.batch;
      headers = Some prepared.headers;
      publish = prepared.publish;
      areas = prepared.areas;
    }) new =
    record {
      sound = sound;
      headers = (prep.headers, prep.header_disks);
      publish = (prep.publish, prep.publish_disks);
      entries = prep.entries;
      flush = start_flushes old new (disks_in flush) view.batch (texts_in c) texts;
      told =
          told_three Sized (BatchHolds (is_own c) (is_text c) (IsOld c) (IsNew c) view.batch)
          (λ told. All (λ (pv : ℕ). FlushesSince view.batch told c.from pv) (disks_in flush)) new.told
          (along_told Leaves (AreSized (old_reading bytes) areas) old new along sized)
          (some_start old new (disks_in flush) view.batch (is_own c) (is_text c) (IsOld c) (IsNew c) (texts_in c) some texts
          (text_targets c sound) quiet)
          (told_of_each (λ pv told. FlushesSince view.batch told c.from pv) (disks_in flush) new.told
          (λ pv among. starts_flushing c.from pv old new (texts_in c) (disks_in flush) view.batch some texts));
      since = along.next;
      faults = (faults_start old new (texts_in c) (disks_in flush) view.batch texts).0;
    }
    in (
      subst (λ (v : PreView). PreHolds c v new) (sym starts.1) pre,
      along_where (AreSized (old_reading bytes) areas) Leaves (ShowsOld c) old new (λ is t leaves. shows_old c sound t is leaves) sized
          along,
    )

module _ (c : Commit) where
  abbrev Sized : Record → Type 0
  Sized told = AreSized (old_reading c.bytes) c.areas

  abbrev Leaves : (ℕ → ℕ → List ℕ → Type 0) → Record → Type 0
  Leaves Now = AllLeave (is_own c) Now

  abbrev Flushed : Record → Type 0
  Flushed told = HaveFlushed c told.steps

  -- all shows the old entries, all along
  old_along : (Now : ℕ → ℕ → List ℕ → Type 0) → IsSound c
      → ((pv sector : ℕ) (value : List ℕ) → Now pv sector value → IsOld c pv sector value) → (old new : State) → IfSome old.told Sized
      → AllAlong (Leaves Now) old new → AllAlong (ShowsOld c) old new
  old_along Now sound w old new sized h =
      along_where (AreSized (old_reading c.bytes) c.areas) (Leaves Now) (ShowsOld c) old new
      (λ is t leaves. shows_old c sound t is (weaker c Now (IsOld c) w t leaves)) sized h

  either_along : IsSound c → (old new : State) → IfSome old.told Sized → AllAlong (Leaves (IsEither c)) old new
      → AllAlong (ShowsEither c) old new
  either_along sound old new sized h =
      along_where (AreSized (old_reading c.bytes) c.areas) (Leaves (IsEither c)) (ShowsEither c) old new
      (λ is t leaves. shows_either c sound t is leaves) sized h

  -- what rests, from what a batch came to
  rests : (Now : ℕ → ℕ → List ℕ → Type 0) (mid : State) → IfSome mid.told Sized
      → IfSome mid.told (λ told. AreStill (is_own c) told × AllLeave (is_own c) Now told) → IfSome mid.told (Rests c Now)
  rests Now mid sized still =
      told_weaker (λ told. Sized told × (AreStill (is_own c) told × AllLeave (is_own c) Now told)) (Rests c Now) mid.told
      (λ t f. record { sized = f.0; leaves = f.1.1; still = f.1.0 })
      (told_both Sized (λ told. AreStill (is_own c) told × AllLeave (is_own c) Now told) mid.told sized still)

  failed : (Now : ℕ → ℕ → List ℕ → Type 0) (target : ℕ → ℕ → Bool) (Goal : ℕ → ℕ → List ℕ → Type 0) (before mid new : State)
      (flush : List ℕ) (pv pv' : ℕ) → IsSound c → Took c target Now Goal before flush (batch.Lost pv') mid → (new ≡ mid) × (pv ≡ pv')
      → FailedHolds c Now pv new
  failed Now target Goal before mid new flush pv pv' sound took same =
      as_it_was (FailedHolds c Now) mid new pv' pv same
      (record { sound = sound; told = rests Now mid took.sized took.now; rose = took.faults.lost_rose pv' refl })

  -- ---- while the texts are on their way

  module _ (headers : Batch) (view : View) (publish : Batch) (areas : List (Area × Option Locn)) (before old mid new : State) (done : Done)
      (lawful : IsLawful old) (completes : Completes before done old)
      (h : PreHolds c (record { batch = view; headers = Some headers; publish = publish; areas = areas }) before) where
    abbrev now : PreView
    now = record { batch = view; headers = Some headers; publish = publish; areas = areas }

    sized_before : IfSome before.told Sized
    sized_before = told_weaker _ Sized before.told (λ t f. f.0) h.told

    texts_took : (came : BatchStep) → Goes old view done came mid → Took c (is_text c) (IsOld c) (IsNew c) before view.flush came mid
    texts_took came goes =
        took c (is_text c) (IsOld c) (IsNew c) before old mid view done lawful completes
        (told_weaker _ (BatchHolds (is_own c) (is_text c) (IsOld c) (IsNew c) view) before.told (λ t f. f.1.0) h.told) came goes
        (λ pv sector own aim. subst (λ (l : List ℕ). IsAmong l pv) (sym h.flush) ((make c h.sound).texts_flushed pv sector aim))
        sized_before h.since h.faults

    texts_flushing : (came : BatchStep) → Goes old view done came mid → (pv : ℕ) → IsAmong (disks_in c.flush) pv
        → FlushingCame c.from pv came mid
    texts_flushing came goes pv among =
        goes_flushing c.from pv before old mid view done came lawful (omega (arith, h.since, completes.next))
        (subst (λ (l : List ℕ). IsAmong l pv) (sym h.flush) among) completes goes
        (told_weaker _ (λ told. FlushesSince view told c.from pv) before.told
        (λ t f. each_of_all (λ (q : ℕ). FlushesSince view t c.from q) (disks_in c.flush) pv f.1.1 among) h.told)

    shown_before : (came : BatchStep) → Goes old view done came mid → AllAlong (ShowsOld c) before mid
    shown_before came goes = old_along (IsOld c) h.sound (λ pv sector value is. is) before mid sized_before (texts_took came goes).along

    texts_go : (came : BatchStep) (step : PreStep) → Goes old view done came mid → PreFollows mid now came step new
        → PreCame c step new × AllAlong (ShowsOld c) before new
    texts_go (batch.Going next') (pre.Going next) goes f =
        let t = texts_took (batch.Going next') goes in
        let holds : PreHolds c (record now { batch = view_of next' }) mid =
        record {
          sound = h.sound;
          headers = h.headers;
          publish = h.publish;
          entries = h.entries;
          flush = t.flush_stays ∙ h.flush;
          told =
              told_three Sized (BatchHolds (is_own c) (is_text c) (IsOld c) (IsNew c) (view_of next'))
              (λ told. All (λ (pv : ℕ). FlushesSince (view_of next') told c.from pv) (disks_in c.flush)) mid.told t.sized t.now
              (told_of_each (λ pv told. FlushesSince (view_of next') told c.from pv) (disks_in c.flush) mid.told
              (λ pv among. texts_flushing (batch.Going next') goes pv among));
          since = t.since;
          faults = t.faults;
        }
        in (
          as_it_was (PreHolds c) mid new _ (pre_view next) f holds,
          along_to (ShowsOld c) before mid new f.0 (shown_before (batch.Going next') goes),
        )
    texts_go batch.Well (pre.Going next) goes f =
        let t = texts_took batch.Well goes in
        let starts : Starts mid (headers_in c) (disks_in (area_disks c.areas)) (pre_view next).batch new =
        started_as mid new (pre_view next).batch _ _ _ _ h.headers.0 h.headers.1 f.0 in
        let there : IfSome mid.told (Leaves (IsOldWithTexts c)) =
        told_weaker _ (Leaves (IsOldWithTexts c)) mid.told (λ u g. texts_there c h.sound u g.1 g.2) t.now in
        let still : IfSome mid.told (AreStill (is_own c)) = told_weaker _ (AreStill (is_own c)) mid.told (λ u g. g.0) t.now in
        let along : AllAlong (Leaves (IsOldWithTexts c)) mid new =
        along_starts (is_own c) (IsOldWithTexts c) mid new (headers_in c) (disks_in (area_disks c.areas)) (pre_view next).batch starts
        (λ pv sector value own by. headers_allowed c h.sound pv sector value by) there
        in
        let flushed : IfSome mid.told Flushed =
        told_of_each (λ pv told. HasFlushedSince c.from pv told.steps) (disks_in c.flush) mid.told
        (λ pv among. texts_flushing batch.Well goes pv among) in
        let holds : PreHolds c (record now { batch = (pre_view next).batch; headers = None }) new =
        record {
          sound = h.sound;
          headers = tt;
          publish = h.publish;
          entries = h.entries;
          flush = start_flushes mid new (disks_in (area_disks c.areas)) (pre_view next).batch (headers_in c) starts;
          told = told_three Sized (BatchHolds (is_own c) (is_header c) (IsOldWithTexts c) (IsOld c) (pre_view next).batch) Flushed new.told
              (along_told (Leaves (IsOldWithTexts c)) (AreSized (old_reading c.bytes) c.areas) mid new along t.sized)
              (some_start mid new (disks_in (area_disks c.areas)) (pre_view next).batch (is_own c) (is_header c) (IsOldWithTexts c)
              (IsOld c) (headers_in c) (headers_some c.text c.areas h.sound.committed.some) starts (header_targets c h.sound)
              (told_both (AreStill (is_own c)) (Leaves (IsOldWithTexts c)) mid.told still there))
              (flushed_along c (Leaves (IsOldWithTexts c)) mid new along flushed);
          since = omega (arith, t.since, along.next);
          faults = start_faults mid new (disks_in (area_disks c.areas)) (pre_view next).batch c.faults (headers_in c) starts t.faults;
        }
        in (
          subst (λ (v : PreView). PreHolds c v new) (sym f.1) holds,
          along_both (ShowsOld c) before mid new (shown_before batch.Well goes)
              (old_along (IsOldWithTexts c) h.sound (with_texts_old c) mid new t.sized along),
        )
    texts_go (batch.Lost pv') (pre.Lost pv) goes f =
        let t = texts_took (batch.Lost pv') goes in (
          failed (IsOld c) (is_text c) (IsNew c) before mid new view.flush pv pv' h.sound t f,
          along_to (ShowsOld c) before mid new f.0 (shown_before (batch.Lost pv') goes),
        )
    texts_go _ _ goes f = absurd f

  -- ---- while the headers are on their way

  module _ (view : View) (publish : Batch) (areas : List (Area × Option Locn)) (before old mid new : State) (done : Done)
      (lawful : IsLawful old) (completes : Completes before done old)
      (h : PreHolds c (record { batch = view; headers = None; publish = publish; areas = areas }) before) where
    abbrev then' : PreView
    then' = record { batch = view; headers = None; publish = publish; areas = areas }

    sized_then : IfSome before.told Sized
    sized_then = told_weaker _ Sized before.told (λ t f. f.0) h.told

    headers_took : (came : BatchStep) → Goes old view done came mid
        → Took c (is_header c) (IsOldWithTexts c) (IsOld c) before view.flush came mid
    headers_took came goes =
        took c (is_header c) (IsOldWithTexts c) (IsOld c) before old mid view done lawful completes
        (told_weaker _ (BatchHolds (is_own c) (is_header c) (IsOldWithTexts c) (IsOld c) view) before.told (λ t f. f.1.0) h.told) came
        goes
        (λ pv sector own aim. subst (λ (l : List ℕ). IsAmong l pv) (sym h.flush) ((make c h.sound).headers_flushed pv sector aim))
        sized_then h.since h.faults

    shown : (came : BatchStep) → Goes old view done came mid → AllAlong (ShowsOld c) before mid
    shown came goes = old_along (IsOldWithTexts c) h.sound (with_texts_old c) before mid sized_then (headers_took came goes).along

    flushed_then : (came : BatchStep) → Goes old view done came mid → IfSome mid.told Flushed
    flushed_then came goes =
        flushed_along c (Leaves (IsOldWithTexts c)) before mid (headers_took came goes).along
        (told_weaker _ Flushed before.told (λ t f. f.1.1) h.told)

    headers_go : (came : BatchStep) (step : PreStep) → Goes old view done came mid → PreFollows mid then' came step new
        → PreCame c step new × AllAlong (ShowsOld c) before new
    headers_go (batch.Going next') (pre.Going next) goes f =
        let t = headers_took (batch.Going next') goes in
        let holds : PreHolds c (record then' { batch = view_of next' }) mid =
        record {
          sound = h.sound;
          headers = tt;
          publish = h.publish;
          entries = h.entries;
          flush = t.flush_stays ∙ h.flush;
          told =
              told_three Sized (BatchHolds (is_own c) (is_header c) (IsOldWithTexts c) (IsOld c) (view_of next')) Flushed mid.told t.sized
              t.now (flushed_then (batch.Going next') goes);
          since = t.since;
          faults = t.faults;
        }
        in (
          as_it_was (PreHolds c) mid new _ (pre_view next) f holds,
          along_to (ShowsOld c) before mid new f.0 (shown (batch.Going next') goes),
        )
    headers_go batch.Well (pre.Ready ready) goes f =
        let t = headers_took batch.Well goes in
        let still : IfSome mid.told (λ told. AreStill (is_own c) told × Leaves (IsOldWithTexts c) told) =
        told_weaker _ (λ told. AreStill (is_own c) told × Leaves (IsOldWithTexts c) told) mid.told (λ u g. (g.0, g.1)) t.now in
        let holds : ReadyHolds c (record { publish = publish; areas = areas }) mid =
        record {
          sound = h.sound;
          publish = h.publish;
          entries = h.entries;
          told =
              told_both (Rests c (IsOldWithTexts c)) Flushed mid.told (rests (IsOldWithTexts c) mid t.sized still)
              (flushed_then batch.Well goes);
          since = t.since;
          faults = t.faults;
        }
        in
        (as_it_was (ReadyHolds c) mid new _ (ready_view ready) f holds, along_to (ShowsOld c) before mid new f.0 (shown batch.Well goes))
    headers_go (batch.Lost pv') (pre.Lost pv) goes f =
        let t = headers_took (batch.Lost pv') goes in
        let old' : FailedHolds c (IsOldWithTexts c) pv new =
        failed (IsOldWithTexts c) (is_header c) (IsOld c) before mid new view.flush pv pv' h.sound t f in (
          record {
            sound = old'.sound;
            told =
                told_weaker (Rests c (IsOldWithTexts c)) (Rests c (IsOld c)) new.told
                (λ u r. record {
                  sized = r.sized;
                  leaves = weaker c (IsOldWithTexts c) (IsOld c) (with_texts_old c) u r.leaves;
                  still = r.still;
                }) old'.told;
            rose = old'.rose;
          },
          along_to (ShowsOld c) before mid new f.0 (shown (batch.Lost pv') goes),
        )
    headers_go _ _ goes f = absurd f

  -- ---- since it is published

  module _ (view : View) (areas : List (Area × Option Locn)) (before old mid new : State) (done : Done) (lawful : IsLawful old)
      (completes : Completes before done old) (h : ComHolds c (record { batch = view; areas = areas }) before) where
    sized_since : IfSome before.told Sized
    sized_since = told_weaker _ Sized before.told (λ t f. f.0) h.told

    publish_took : (came : BatchStep) → Goes old view done came mid → Took c (is_header c) (IsEither c) (IsNew c) before view.flush came mid
    publish_took came goes =
        took c (is_header c) (IsEither c) (IsNew c) before old mid view done lawful completes
        (told_weaker _ (BatchHolds (is_own c) (is_header c) (IsEither c) (IsNew c) view) before.told (λ t f. f.1.0) h.told) came goes
        (λ pv sector own aim. subst (λ (l : List ℕ). IsAmong l pv) (sym h.flush) ((make c h.sound).headers_flushed pv sector aim))
        sized_since h.since h.faults

    shown_since : (came : BatchStep) → Goes old view done came mid → AllAlong (ShowsEither c) before mid
    shown_since came goes = either_along h.sound before mid sized_since (publish_took came goes).along

    flushed_since : (came : BatchStep) → Goes old view done came mid → IfSome mid.told Flushed
    flushed_since came goes =
        flushed_along c (Leaves (IsEither c)) before mid (publish_took came goes).along
        (told_weaker _ Flushed before.told (λ t f. f.1.1) h.told)

    com_goes : (came : BatchStep) (step : ComStep) → Goes old view done came mid
        → ComFollows mid (record { batch = view; areas = areas }) came step new → ComCame c step new × AllAlong (ShowsEither c) before new
    com_goes (batch.Going next') (published.Going next) goes f =
        let t = publish_took (batch.Going next') goes in
        let holds : ComHolds c (record { batch = view_of next'; areas = areas }) mid =
        record {
          sound = h.sound;
          entries = h.entries;
          flush = t.flush_stays ∙ h.flush;
          told =
              told_three Sized (BatchHolds (is_own c) (is_header c) (IsEither c) (IsNew c) (view_of next')) Flushed mid.told t.sized t.now
              (flushed_since (batch.Going next') goes);
          since = t.since;
          faults = t.faults;
        }
        in (
          as_it_was (ComHolds c) mid new _ (com_view next) f holds,
          along_to (ShowsEither c) before mid new f.0 (shown_since (batch.Going next') goes),
        )
    com_goes batch.Well (published.Whole committed) goes f =
        let t = publish_took batch.Well goes in
        let still : IfSome mid.told (λ told. AreStill (is_own c) told × Leaves (IsNew c) told) =
        told_weaker _ (λ told. AreStill (is_own c) told × Leaves (IsNew c) told) mid.told
        (λ u g. (g.0, headers_there c h.sound u g.1 g.2)) t.now in (
          subst (λ (s : State). ComCame c (published.Whole committed) s) (sym f.0) (record {
            sound = h.sound;
            entries = f.1 ∙ h.entries;
            told = told_both (Rests c (IsNew c)) Flushed mid.told (rests (IsNew c) mid t.sized still) (flushed_since batch.Well goes);
          }),
          along_to (ShowsEither c) before mid new f.0 (shown_since batch.Well goes),
        )
    com_goes (batch.Lost pv') (published.Fenced pv) goes f =
        let t = publish_took (batch.Lost pv') goes in (
          failed (IsEither c) (is_header c) (IsNew c) before mid new view.flush pv pv' h.sound t f,
          along_to (ShowsEither c) before mid new f.0 (shown_since (batch.Lost pv') goes),
        )
    com_goes _ _ goes f = absurd f

-- ---- the calls

pub goes_holding : GoesHolding
goes_holding c before old new view done step lawful completes goes h = by_headers view.headers refl
  where
    by_headers : (headers : Option Batch) → view.headers ≡ headers → PreCame c step new × AllAlong (ShowsOld c) before new
    by_headers (Some headers) is =
        let same : view ≡ record { batch = view.batch; headers = Some headers; publish = view.publish; areas = view.areas } =
        λ i. record { batch = view.batch; headers = is i; publish = view.publish; areas = view.areas } in
        texts_go c headers view.batch view.publish view.areas before old goes.mid new done lawful completes
        (subst (λ (v : PreView). PreHolds c v before) same h) goes.came step goes.goes
        (subst (λ (v : PreView). PreFollows goes.mid v goes.came step new) same goes.follows)
    by_headers None is =
        let same : view ≡ record { batch = view.batch; headers = None; publish = view.publish; areas = view.areas } =
        λ i. record { batch = view.batch; headers = is i; publish = view.publish; areas = view.areas } in
        headers_go c view.batch view.publish view.areas before old goes.mid new done lawful completes
        (subst (λ (v : PreView). PreHolds c v before) same h) goes.came step goes.goes
        (subst (λ (v : PreView). PreFollows goes.mid v goes.came step new) same goes.follows)

pub publishes : PublishesHolding
publishes c old new ready view starts h =
    let puts : Starts old (publish_in c) (disks_in (area_disks c.areas)) view.batch new =
    started_as old new view.batch _ _ _ _ h.publish.0 h.publish.1 starts.0 in
    let sized : IfSome old.told (Sized c) = told_weaker _ (Sized c) old.told (λ t f. f.0.sized) h.told in
    let quiet : IfSome old.told (λ told. AreStill (is_own c) told × Leaves c (IsEither c) told) =
    told_weaker _ (λ told. AreStill (is_own c) told × Leaves c (IsEither c) told) old.told
    (λ t f. (f.0.still, weaker c (IsOldWithTexts c) (IsEither c) (with_texts_either c) t f.0.leaves)) h.told in
    let along : AllAlong (Leaves c (IsEither c)) old new =
    along_starts (is_own c) (IsEither c) old new (publish_in c) (disks_in (area_disks c.areas)) view.batch puts
    (λ pv sector value own by. publish_allowed c h.sound pv sector value by)
    (told_weaker _ (Leaves c (IsEither c)) old.told (λ t q. q.1) quiet)
    in
    let holds : ComHolds c (record { batch = view.batch; areas = ready.areas }) new =
    record {
      sound = h.sound;
      entries = h.entries;
      flush = start_flushes old new (disks_in (area_disks c.areas)) view.batch (publish_in c) puts;
      told = told_three (Sized c) (BatchHolds (is_own c) (is_header c) (IsEither c) (IsNew c) view.batch) (Flushed c) new.told
          (along_told (Leaves c (IsEither c)) (AreSized (old_reading c.bytes) c.areas) old new along sized)
          (some_start old new (disks_in (area_disks c.areas)) view.batch (is_own c) (is_header c) (IsEither c) (IsNew c) (publish_in c)
          (publish_some c.text c.areas h.sound.committed.some) puts (publish_targets c h.sound) quiet)
          (flushed_along c (Leaves c (IsEither c)) old new along (told_weaker _ (Flushed c) old.told (λ t f. f.1) h.told));
      since = omega (arith, h.since, along.next);
      faults = start_faults old new (disks_in (area_disks c.areas)) view.batch c.faults (publish_in c) puts h.faults;
    }
    in
    (subst (λ (v : ComView). ComHolds c v new) (sym starts.1) holds, either_along c h.sound old new sized along)

pub commits_holding : CommitsHolding
commits_holding c before old new view done step lawful completes goes h =
    com_goes c view.batch view.areas before old goes.mid new done lawful completes h goes.came step goes.goes goes.follows
