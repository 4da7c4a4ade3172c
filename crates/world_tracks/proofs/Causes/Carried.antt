-- What is kept of causes along acts, and how one act keeps it.
use Rattle.std.proofs.Common.{◌≡◌, ◌≤◌, ℕ, List, [], ◌∷◌, ◌++◌, Some, option_map, inr, refl, sym, ap, subst, ◌∙◌, arith}
use Rattle.line_answers.specs.declared.answer.Answer.{Answer}
use Rattle.disk_model.specs.Operations.{work_of}
use Rattle.disk_model.specs.State.{State}
use Rattle.disk_model.specs.Steps.{Flushing, Record, Step, Submitted, step_on}
use Rattle.disk_model.specs.declared.ops.Op.{Op}
use Rattle.volume_history.specs.Chronicles.{AreUpto, ChronicleEntry, Origin}
use Rattle.volume_history.specs.Legal.{AllOrdered, last_moment}
use Rattle.world_acts.specs.declared.volumes.Volumes.{Volumes}
use Rattle.world_acts.specs.Acts.{Act, Allowed, Asks, AsksFlush, Fails, World, after}
use Rattle.world_acts.specs.Counts.{awaited_at, is_piece, waiting}
use Rattle.world_acts.specs.Orderly.{IsOrderly}
use Rattle.world_acts.proofs.Lasting.{lasts_act}
use Rattle.world_acts.proofs.Orderly.{orderly_after}
use Rattle.world_history.specs.Contents.{origin_with}
use Rattle.world_history.specs.Entries.{entries_of}
use Rattle.world_history.specs.Shown.{AreOfVersion}
use Rattle.world_history.specs.Told.{IsTold}
use Rattle.world_history.proofs.Contents.Keeps.{told_steps}
use Rattle.world_tracks.proofs.Causes.Acts.{asks_flush_go, asks_go}
use Rattle.world_tracks.proofs.Causes.Known.{CausesGo, Knows, ToOlder, causes_go}
use Rattle.world_tracks.proofs.Causes.PieceFailing.{WasBadRead, fails_go}
use Rattle.world_tracks.proofs.Causes.Since.{now_in}

-- ---- what is kept

-- over a shelf that has told so, of the version's volumes
pub record HasCauses (b : Origin) (w : World) (es : List ChronicleEntry) : Type 0 where
  pub told : Record
  pub is : w.shelf.told ≡ Some told
  pub volumes : AreOfVersion w.core.volumes b.version
  pub knows : Knows (origin_with b told) w.core es

-- and while a line is prepared all that took place did before it
pub record HasCausesBut (line : ℕ) (b : Origin) (w : World) (es : List ChronicleEntry) : Type 0 where
  pub causes : HasCauses b w es
  pub older : ToOlder es line

-- entries in order, up to a moment, which isn't before the start
pub ordered_upto : (start moment : ℕ) (es : List ChronicleEntry) → AllOrdered start es → last_moment start es ≤ moment
    → AreUpto moment es × (start ≤ moment)
ordered_upto start moment [] all le = (tt, le)
ordered_upto start moment (e ∷ es) all le =
    let later = all.0.moments in
    let rest = ordered_upto start moment es all.1 (omega (arith, le, later)) in ((le, rest.0), rest.1)

module _ (b : Origin) where
  -- ---- one step of it

  module _ {coming : ℕ → ℕ → ℕ} {w : World} {es : List ChronicleEntry} (o : IsOrderly w) (t : IsTold b.start coming w es)
      (h : HasCauses b w es) where
    -- what is told, as the origin has it
    abbrev pub now : Origin
    now = origin_with b h.told

    pub moment : w.shelf.steps ≡ now_in now
    moment = told_steps o h.told h.is

    pub upto : AreUpto (now_in now) es × (b.start ≤ now_in now)
    upto = ordered_upto b.start (now_in now) es t.ordered (let le = t.moment in let m = moment in omega (arith, le, m))

    pub carried : (v : World) (fs : List ChronicleEntry) (told : Record) → v.shelf.told ≡ Some told → v.core.volumes ≡ w.core.volumes
        → ((number : ℕ) → awaited_at v.core.pieces.lives number ≡ waiting (is_piece number) v.core.waits.disks)
        → CausesGo now (origin_with b told) w.core v.core es fs
        → HasCauses b v fs
    carried v fs told is volumes counted go = record {
      told = told;
      is = is;
      volumes = subst (λ (x : Volumes). AreOfVersion x b.version) (sym volumes) h.volumes;
      knows = causes_go counted upto.0 upto.1 h.knows go;
    }

    -- by an act that is allowed
    pub acted : (a : Act) (fs : List ChronicleEntry) (told : Record) → Allowed w a → (after w a).shelf.told ≡ Some told
        → CausesGo now (origin_with b told) w.core (after w a).core es fs
        → HasCauses b (after w a) fs
    acted a fs told may is go =
        carried (after w a) fs told is (lasts_act w a may).volumes (orderly_after w a o may).tidy.counts.awaited go

    -- a piece fails as it starts
    pub fails_causes : (number : ℕ) (why : Answer) → Allowed w (Fails number why) → WasBadRead now w number why
        → HasCauses b (after w (Fails number why)) (entries_of w (Fails number why) ++ es)
    fails_causes number why may read =
        acted (Fails number why) (entries_of w (Fails number why) ++ es) h.told may h.is
        (fails_go now w es o h.volumes h.knows moment number why may read)

    pub asks_causes : (number : ℕ) (op : Op) (tag : ℕ) (s : State) → Allowed w (Asks number op tag s)
        → HasCauses b (after w (Asks number op tag s)) es
    asks_causes number op tag s may =
        let step : Step = Submitted tag (work_of op) in
        acted (Asks number op tag s) es (step_on step h.told) may (may.0.told ∙ ap (option_map (step_on step)) h.is)
        (asks_go now o t h.knows (origin_with b (step_on step h.told)) number op tag s (inr (step, refl)) may)

    pub asks_flush_causes : (pv tag : ℕ) (s : State) → Allowed w (AsksFlush pv tag s) → HasCauses b (after w (AsksFlush pv tag s)) es
    asks_flush_causes pv tag s may =
        let step : Step = Submitted tag (Flushing pv) in
        acted (AsksFlush pv tag s) es (step_on step h.told) may (may.0.told ∙ ap (option_map (step_on step)) h.is)
        (asks_flush_go now o t h.knows pv tag s)
