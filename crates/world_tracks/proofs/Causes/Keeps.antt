-- The acts of a session's lines keep what is known of causes.
use Rattle.std.proofs.Common.{◌≡◌, ℕ, true, List, ◌∷◌, ◌++◌, Option, None, Some, IfSome, is_some, option_map, inl, refl, sym, ap, subst}
use Rattle.std.proofs.Common.{◌∙◌, true≢false}
use Rattle.std.proofs.lemmas.Bool.{eqb-true}
use Rattle.sector_base.specs.declared.places.Piece.{Piece}
use Rattle.line_answers.specs.declared.answer.Answer.{Answer}
use Rattle.line_answers.specs.declared.answer.Answer.TheVariants as answer
use Rattle.disk_model.specs.State.{State}
use Rattle.disk_model.specs.declared.ops.Done.{Done}
use Rattle.flush_waits.specs.declared.ticket.Waiter.{Waiter}
use Rattle.flush_waits.specs.declared.ticket.Waiter.TheVariants as waiter
use Rattle.flush_waits.specs.declared.ticket.Waiting.{Waiting}
use Rattle.piece_table.specs.declared.live.Owner.{Owner}
use Rattle.piece_table.specs.Pieces.{owner_at}
use Rattle.piece_table.specs.Steps.{live_of}
use Rattle.volume_history.specs.Chronicles.{ChronicleEntry, Failed, Origin}
use Rattle.volume_history.specs.Legal.{AllOrdered}
use Rattle.world_acts.specs.declared.state.Core.{Core}
use Rattle.world_acts.specs.Acts.{Act, Allowed, Answers, Asks, AsksFlush, Awaits, Enters, Fails, Holds, IsGrown, LineFails, Passes, Readies}
use Rattle.world_acts.specs.Acts.{Releases, Runs, Starts, Wakes, World, after, follows, prepares}
use Rattle.world_acts.specs.OpenLines.{IsBarrier}
use Rattle.world_acts.specs.Orderly.{IsOrderly}
use Rattle.world_acts.specs.Steps.{grown}
use Rattle.io_core.specs.Events.{ending, settling_of}
use Rattle.world_history.specs.Contents.{origin_with}
use Rattle.world_history.specs.Entries.{entries_by, entries_of}
use Rattle.world_history.specs.Shown.{AreOfVersion}
use Rattle.world_history.specs.Told.{IsTold, none_coming}
use Rattle.world_history.proofs.Acts.{KeepsAlso}
use Rattle.world_tracks.proofs.Causes.Acts.{answers_go, awaits_go, enters_go, line_fails_go, quiet_go, releases_go, starts_go}
use Rattle.world_tracks.proofs.Causes.Growing.{among_took}
use Rattle.world_tracks.proofs.Causes.Known.{IsWaitOf, Knows, ToOlder}
use Rattle.world_tracks.proofs.Causes.Lines.{before_itself}
use Rattle.world_tracks.proofs.Causes.Lives.{lives_itself}
use Rattle.world_tracks.proofs.Causes.PieceFailing.{WasBadRead}
use Rattle.world_tracks.proofs.Causes.Carried.{HasCauses, HasCausesBut, acted, asks_causes, asks_flush_causes, fails_causes, moment, now}
use Rattle.world_tracks.proofs.Causes.Begun.{begins_causes}
use Rattle.world_tracks.proofs.Causes.Ended.{flush_causes, piece_causes}

module _ (b : Origin) where
  -- ---- what follows

  goes_causes : {w : World} {es : List ChronicleEntry} (a : Act) → follows a ≡ true → IsOrderly w → IsTold b.start none_coming w es
      → Allowed w a
      → AllOrdered b.start (entries_of w a ++ es)
      → HasCauses b w es
      → HasCauses b (after w a) (entries_of w a ++ es)
  goes_causes {w} {es} (LineFails line why) is o t may ordered h =
      acted b o t h (LineFails line why) es h.told may h.is (line_fails_go (now b o t h) o t h.knows line why may)
  goes_causes {w} {es} (Answers line) is o t may ordered h =
      acted b o t h (Answers line) (entries_of w (Answers line) ++ es) h.told may h.is
      (answers_go (now b o t h) o t h.knows (moment b o t h) line (after w (Answers line)).core may.0 refl refl refl refl)
  goes_causes {w} {es} (Holds line) is o t may ordered h =
      acted b o t h (Holds line) es h.told may h.is
      (quiet_go (now b o t h) (now b o t h) w.core (after w (Holds line)).core es (inl refl) refl refl (before_itself w.core.opens)
      (lives_itself w.core (after w (Holds line)).core refl))
  goes_causes {w} {es} (Passes line) is o t may ordered h =
      let holds : IsBarrier w.core.opens line = subst (λ (x : Option ℕ). IfSome x (IsBarrier w.core.opens)) may.0 o.tidy.lines.holds in
      acted b o t h (Passes line) (entries_of w (Passes line) ++ es) h.told may h.is
      (answers_go (now b o t h) o t h.knows (moment b o t h) line (after w (Passes line)).core (ap is_some holds.is_open)
      refl refl refl refl)
  goes_causes {w} {es} Wakes is o t may ordered h =
      acted b o t h Wakes es h.told may h.is
      (quiet_go (now b o t h) (now b o t h) w.core (after w Wakes).core es (inl refl) refl refl (before_itself w.core.opens)
      (lives_itself w.core (after w Wakes).core refl))
  goes_causes {w} {es} (Starts number) is o t may ordered h =
      acted b o t h (Starts number) es h.told may h.is (starts_go (now b o t h) o t h.knows number may)
  goes_causes (Asks number op tag s) is o t may ordered h = asks_causes b o t h number op tag s may
  goes_causes {w} {es} (Fails number why) is o t may ordered h = fails_causes b o t h number why may (unread why is)
    where
      unread : (a : Answer) → follows (Fails number a) ≡ true → WasBadRead (now b o t h) w number a
      unread (answer.ReadFailed pv) is = absurd (true≢false (sym is))
      unread a is = tt
  goes_causes (AsksFlush pv tag s) is o t may ordered h = asks_flush_causes b o t h pv tag s may
  goes_causes {w} {es} (Releases pv) is o t may ordered h =
      acted b o t h (Releases pv) es h.told may h.is (releases_go (now b o t h) o t h.knows pv may)
  goes_causes a is o t may ordered h = absurd (true≢false (sym is))

  -- ---- a line is prepared

  -- a piece that fails takes no place
  older_failed : (m n : ℕ) (piece : Piece) (es : List ChronicleEntry) (line : ℕ) → ToOlder es line → ToOlder (Failed m n piece ∷ es) line
  older_failed m n piece es line older since writer p has =
      older since writer p (among_took (Failed m n piece) es since writer p refl has)

  prepares_causes : {coming : ℕ → ℕ → ℕ} {w : World} {es : List ChronicleEntry} (line : ℕ) (a : Act) → prepares line a ≡ true
      → IsOrderly w
      → IsTold b.start coming w es
      → Allowed w a
      → AllOrdered b.start (entries_of w a ++ es)
      → HasCausesBut line b w es
      → HasCausesBut line b (after w a) (entries_of w a ++ es)
  prepares_causes {coming} {w} {es} line (Enters n piece sectors ticket entry) is o t may ordered h = record {
    causes =
        acted b o t h.causes (Enters n piece sectors ticket entry) es h.causes.told may h.causes.is
        (enters_go (now b o t h.causes) o t h.causes.knows n piece sectors ticket entry may);
    older = h.older;
  }
  prepares_causes {coming} {w} {es} line (Awaits n pv) is o t may ordered h = record {
    causes =
        acted b o t h.causes (Awaits n pv) es h.causes.told may h.causes.is
        (awaits_go (now b o t h.causes) o t h.causes.knows n pv may (subst (ToOlder es) (sym (eqb-true n line is)) h.older));
    older = h.older;
  }
  prepares_causes {coming} {w} {es} line (LineFails n why) is o t may ordered h = record {
    causes =
        acted b o t h.causes (LineFails n why) es h.causes.told may h.causes.is
        (line_fails_go (now b o t h.causes) o t h.causes.knows n why may);
    older = h.older;
  }
  prepares_causes {coming} {w} {es} line (Starts number) is o t may ordered h = record {
    causes =
        acted b o t h.causes (Starts number) es h.causes.told may h.causes.is
        (starts_go (now b o t h.causes) o t h.causes.knows number may);
    older = h.older;
  }
  prepares_causes line (Asks number op tag s) is o t may ordered h =
      record { causes = asks_causes b o t h.causes number op tag s may; older = h.older }
  prepares_causes {coming} {w} {es} line (Fails number why) is o t may ordered h = record {
    causes = fails_causes b o t h.causes number why may (unread why is);
    older = older_failed w.shelf.steps (live_of w.core.pieces number).line (live_of w.core.pieces number).piece es line h.older;
  }
    where
      unread : (a : Answer) → prepares line (Fails number a) ≡ true → WasBadRead (now b o t h.causes) w number a
      unread (answer.ReadFailed pv) is = absurd (true≢false (sym is))
      unread a is = tt
  prepares_causes line a is o t may ordered h = absurd (true≢false (sym is))

  -- ---- an operation has completed

  ends_causes : {w mid : World} {es : List ChronicleEntry} (piece : Option ℕ) (done : Done) (s : State)
      → piece ≡ option_map (λ (owner : Owner). owner.piece) (owner_at w.core.pieces.owners done.tag)
      → IsOrderly w
      → IsTold b.start none_coming w es
      → Allowed w (ending piece done s)
      → Runs (after w (ending piece done s)) (settling_of piece done) mid
      → AllOrdered b.start (entries_by (after w (ending piece done s)) (settling_of piece done) es)
      → HasCauses b w es
      → HasCauses b mid (entries_by (after w (ending piece done s)) (settling_of piece done) es)
  ends_causes {w} {mid} (Some number) done s whose o t may run ordered h = piece_causes b o t h done s may number whose mid run
  ends_causes {w} {mid} None done s whose o t may run ordered h = flush_causes b o t h done s may mid run

  -- ---- more is ready, or spare

  grows_causes : {w v : World} {es : List ChronicleEntry} → IsOrderly w → IsGrown w v → HasCauses b w es → HasCauses b v es
  grows_causes {w} {v} {es} o more h = record {
    told = h.told;
    is = ap (λ (s : State). s.told) more.shelf ∙ h.is;
    volumes = subst (λ (c : Core). AreOfVersion c.volumes b.version) (sym more.core) h.volumes;
    knows =
        subst (λ (c : Core). Knows (origin_with b h.told) c es) (sym more.core) (record {
          lost = h.knows.lost;
          failing = h.knows.failing;
          dirty = h.knows.dirty;
          waits = λ pv it has. spared pv it it.waiter (h.knows.waits pv it has);
          answered = h.knows.answered;
        });
  }
    where
      spared : (pv : ℕ) (it : Waiting) (who : Waiter) → IsWaitOf (origin_with b h.told) w.core es pv it.place who
          → IsWaitOf (origin_with b h.told) (grown w.core v.core) es pv it.place who
      spared pv it (waiter.Line n) is = is
      spared pv it (waiter.Piece number) is = is

  readies_causes : {w : World} {es : List ChronicleEntry} (s : State) → IsOrderly w → Allowed w (Readies s) → HasCauses b w es
      → HasCauses b (after w (Readies s)) es
  readies_causes s o may h = record {
    told = h.told;
    is = ap (λ (x : State). x.told) may.0.same ∙ h.is;
    volumes = h.volumes;
    knows = h.knows;
  }

  -- ---- all of it

  pub keeps_causes : KeepsAlso b.start (λ line. HasCausesBut line b) (HasCauses b)
  keeps_causes = record {
    goes = goes_causes;
    readies_line = prepares_causes;
    begins = begins_causes b;
    prepared = λ line o t awaits h. h.causes;
    ends = ends_causes;
    grows = λ o more h. grows_causes o more h;
    readies = λ s o may h. readies_causes s o may h;
  }
