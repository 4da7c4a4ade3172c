-- Moments that were consistent stay so: by later entries, and by a step more, before which now was consistent.
use Rattle.std.proofs.Common.{◌≡◌, ◌≤◌, ◌<◌, ℕ, List, [], ◌∷◌, ◌++◌, length, ⊎_elim, sym, subst, arith}
use Rattle.std.proofs.lemmas.Bool.{cases_lt}
use Rattle.disk_model.specs.Steps.{Record, Step, step_on}
use Rattle.volume_history.proofs.EarlierMoments.{now_is, past_stays_entry, past_stays_step}
use Rattle.volume_history.proofs.Phases.{AllAt}
use Rattle.volume_history.specs.Candidates.{IsConsistentMoment, IsConsistentNow}
use Rattle.volume_history.specs.Chronicles.{AreUpto, Chronicle, ChronicleEntry, Origin, moment_of}
use Rattle.world_history.specs.Contents.{origin_with}
use Rattle.world_tracks.specs.Moments.{ArePast}

-- now is the last moment
pub last_is : (c : Chronicle) → AreUpto (length c.origin.told.steps) c.entries → IsConsistentNow c
    → IsConsistentMoment c (length c.origin.told.steps)
last_is c upto now = subst (λ (d : Chronicle). IsConsistentNow d) (sym (now_is c upto)) now

module _ (o : Origin) (told : Record) where
  abbrev history : List ChronicleEntry → Chronicle
  history es = record { origin = origin_with o told; entries = es }

  -- one entry more, of now
  pub past_entry : (es : List ChronicleEntry) (e : ChronicleEntry) → moment_of e ≡ length told.steps → ArePast o told es
      → ArePast o told (e ∷ es)
  past_entry es e at past m from before =
      past_stays_entry e (history es) m (subst (λ (n : ℕ). m < n) (sym at) before) (past m from before)

  -- several
  pub past_entries : (new es : List ChronicleEntry) → AllAt (length told.steps) new → ArePast o told es → ArePast o told (new ++ es)
  past_entries [] es at past = past
  past_entries (e ∷ new) es at past = past_entry (new ++ es) e at.0 (past_entries new es at.1 past)

  module _ (es : List ChronicleEntry) (upto : AreUpto (length told.steps) es)
      (now : IsConsistentNow (record { origin = origin_with o told; entries = es })) (past : ArePast o told es) where
    -- every moment up to now
    pub every_moment : (m : ℕ) → o.first ≤ m → m ≤ length told.steps
        → IsConsistentMoment (record { origin = origin_with o told; entries = es }) m
    every_moment m from by =
        ⊎_elim (λ before. past m from before)
        (λ (last : length told.steps ≤ m).
        let e : length told.steps ≡ m = omega (arith, last, by) in
        subst (λ (n : ℕ). IsConsistentMoment (history es) n) e (last_is (history es) upto now))
        (cases_lt m (length told.steps))

    -- one step more
    pub past_step : (step : Step) → ArePast o (step_on step told) es
    past_step step m from before =
        let by : m ≤ length told.steps = omega (arith, before) in
        past_stays_step step (history es) m by (every_moment m from by)
