-- What the end of a flush, and what a bad end comes to, make of what is known of causes.
use Rattle.std.proofs.Common.{◌≡◌, ◌≤◌, ◌<◌, ◌⊎◌, ℕ, Bool, true, false, ◌==◌, ◌||◌, max, nat_eq, List, ◌∷◌, length, Contains, inl, inr}
use Rattle.std.proofs.Common.{⊎_elim, refl, sym, ap, subst}
use Rattle.std.proofs.Common.{◌∙◌, arith}
use Rattle.std.specs.FinSet as set
use Rattle.std.specs.Cmp.{nat_cmp_total, unsigned_tied}
use Rattle.std.specs.Prelude.{remove}
use Rattle.std.proofs.lemmas.Bool.{cases_lt, eqb-true, or_cases}
use Rattle.std.proofs.lemmas.List.Elements.{All-contains, Contains-get_or}
use Rattle.list_laws.proofs.Positions.{all_remove, any_within}
use Rattle.disk_model.specs.Operations.{work_of}
use Rattle.disk_model.specs.State.{State}
use Rattle.disk_model.specs.Steps.{Completed, Flushing, Step, Work as DiskWork}
use Rattle.disk_model.specs.declared.ops.Done.{Done}
use Rattle.flush_plan.specs.declared.records.Flush.{Flush}
use Rattle.flush_plan.specs.declared.records.Marks.{Marks}
use Rattle.flush_plan.specs.Plans.{flush_at, flush_of, marks_of, no_marks}
use Rattle.volume_history.specs.Chronicles.{ChronicleEntry, Origin, is_failed_disk, origin_on}
use Rattle.world_acts.specs.declared.state.Core.{Core}
use Rattle.world_acts.specs.Acts.{Allowed, EndsFlush, IsLost, World, after}
use Rattle.world_acts.specs.Orderly.{IsOrderly}
use Rattle.world_acts.specs.Steps.{after_flushed, after_marks}
use Rattle.world_history.specs.Causes.{is_asked}
use Rattle.world_history.proofs.EndedFlush.{WasFlush, was_flush}
use Rattle.world_tracks.proofs.WaitSteps.{set_keeps}
use Rattle.world_tracks.proofs.Causes.Growing.{extends_none}
use Rattle.world_tracks.proofs.Causes.Known.{CausesGo, LosesFlush}
use Rattle.world_tracks.proofs.Causes.Lines.{before_itself}
use Rattle.world_tracks.proofs.Causes.Lives.{lives_itself}
use Rattle.world_tracks.proofs.Causes.Since.{fails_on, flush_fails, flush_loses, loses_on, newest, now_in, since_now, steps_since}
use Rattle.world_tracks.proofs.Causes.Since.{told_since}

-- ---- a disk has failed

-- one that was put to those that have is this one, or was among them
marked_before : (c : Core) (pv q : ℕ) → set.contains (set.insert c.failed pv) q ≡ true → (set.contains c.failed q ≡ true) ⊎ (pv ≡ q)
marked_before c pv q is =
    ⊎_elim (λ (same : (q == pv) ≡ true). inr (sym (eqb-true q pv same))) (λ (was : set.contains c.failed q ≡ true). inl was)
    (or_cases (q == pv) (set.contains c.failed q)
    (sym (ap (λ (t : Bool). t || set.contains c.failed q) (unsigned_tied q pv))
    ∙ sym (set.contains-insert nat_cmp_total c.failed pv q) ∙ is))

pub marks_go : (b : Origin) (c : Core) (es : List ChronicleEntry) (pv : ℕ) → is_failed_disk b (now_in b) pv ≡ true
    → CausesGo b b c (after_marks c pv) es es
marks_go b c es pv lost = record {
  later = inl refl;
  more = extends_none es;
  lost = λ q is. by q is;
  failing = λ n p why at fails. inl (before_itself c.opens n p why at fails);
  dirty = λ key q lt some. inl (lt, some);
  waits = λ q it has. inl has;
  lives = lives_itself c (after_marks c pv) refl;
  marks = λ q place ended unstable. inl (ended, unstable);
  flushes = λ f has. inl has;
  answered = λ are. are;
}
  where
    by : (q : ℕ) → IsLost (after_marks c pv) q → IsLost c q ⊎ (is_failed_disk b (now_in b) q ≡ true)
    by q (inl is) =
        ⊎_elim (λ was. inl (inl was)) (λ (same : pv ≡ q). inr (subst (λ (n : ℕ). is_failed_disk b (now_in b) n ≡ true) same lost))
        (marked_before c pv q is)
    by q (inr far) = inl (inr far)

-- ---- a flush ends

module _ (b : Origin) (w : World) (es : List ChronicleEntry) (o : IsOrderly w) (done : Done) (now : State)
    (may : Allowed w (EndsFlush done now)) (from : b.start ≤ now_in b) where
  abbrev c : Core
  c = w.core

  abbrev step : Step
  step = Completed done.tag (work_of done.op) done.well may.0.told.0

  -- what is told then
  abbrev pub ended_origin : Origin
  ended_origin = origin_on step b

  f : WasFlush w done
  f = was_flush w done now o may

  abbrev flush : Flush
  flush = flush_of c.waits.plan done.tag

  abbrev m : Marks
  m = marks_of c.waits.plan flush.pv

  -- what the end of it shows, where it ended badly
  badly : (test : List Step → Bool) → done.well ≡ false → (since : ℕ) → since ≤ now_in b
      → test (Completed done.tag (Flushing flush.pv) false may.0.told.0 ∷ steps_since b since) ≡ true
      → told_since test ended_origin since (now_in ended_origin) ≡ true
  badly test bad since le shows =
      since_now test step b since le
      (subst (λ (well : Bool). test (Completed done.tag (work_of done.op) well may.0.told.0 ∷ steps_since b since) ≡ true) (sym bad)
      (subst (λ (work : DiskWork). test (Completed done.tag work false may.0.told.0 ∷ steps_since b since) ≡ true)
      (sym (f.does ∙ ap Flushing (sym f.its))) shows))

  -- its disk has failed
  pub flush_failed : done.well ≡ false → (since : ℕ) → since ≤ now_in b
      → told_since (fails_on flush.pv) ended_origin since (now_in ended_origin) ≡ true
  flush_failed bad since le =
      badly (fails_on flush.pv) bad since le (flush_fails done.tag flush.pv may.0.told.0 (steps_since b since))

  -- it is lost, where it was submitted since
  flush_lost : done.well ≡ false → (since : ℕ) → since ≤ now_in b → told_since (is_asked flush.tag) b since (now_in b) ≡ true
      → told_since (loses_on flush.pv) ended_origin since (now_in ended_origin) ≡ true
  flush_lost bad since le asked =
      badly (loses_on flush.pv) bad since le
      (flush_loses done.tag flush.pv may.0.told.0 (steps_since b since)
      (subst (λ (tag : ℕ). is_asked tag (steps_since b since) ≡ true) f.tagged (sym (newest (is_asked flush.tag) b since) ∙ asked)))

  within : flush_at c.waits.plan done.tag < length c.waits.plan.flushes
  within = any_within (λ (x : Flush). nat_eq x.tag done.tag) c.waits.plan.flushes f.flies

  -- those that are left were there
  left : (x : Flush) → Contains (remove c.waits.plan.flushes (flush_at c.waits.plan done.tag)) x → Contains c.waits.plan.flushes x
  left x has =
      All-contains (Contains c.waits.plan.flushes) (remove c.waits.plan.flushes (flush_at c.waits.plan done.tag)) x
      (all_remove (Contains c.waits.plan.flushes) c.waits.plan.flushes (flush_at c.waits.plan done.tag) within
      (λ k d lt. Contains-get_or c.waits.plan.flushes k d lt)) has

  abbrev IsBehind : Marks → ℕ → Type 0
  IsBehind n place = (place ≤ n.ended) × (n.stable < place)

  -- well: what was behind no flush that did well still is, and of what was lost no more
  well_go : CausesGo b ended_origin c (after_flushed c done.tag true) es es
  well_go =
      let later : Marks = record m { ended = max m.ended flush.after; stable = max m.stable flush.after } in
      record {
        later = inr (step, refl);
        more = extends_none es;
        lost = λ q lost. inl (by q lost);
        failing = λ n p why at fails. inl (before_itself c.opens n p why at fails);
        dirty = λ key q lt some. inl (lt, some);
        waits = λ q it has. inl has;
        lives = lives_itself c (after_flushed c done.tag true) refl;
        marks =
            λ q place ended unstable. inl (set_keeps
            (λ (n : Marks). place ≤ n.ended → n.stable < place → IsBehind (marks_of c.waits.plan q) place) c.waits.plan.marks flush.pv q
            later no_marks (λ ended unstable. (ended, unstable))
            (λ e ended unstable. subst (λ (k : ℕ). IsBehind (marks_of c.waits.plan k) place) e
            (omega (arith, ended, unstable), omega (arith, ended, unstable))) ended unstable);
        flushes = λ x has. inl (left x has);
        answered = λ are. are;
      }
    where
      by : (q : ℕ) → IsLost (after_flushed c done.tag true) q → IsLost c q
      by q (inl is) = inl is
      by q (inr far) =
          set_keeps (λ (n : Marks). n.stable < n.ended → IsLost c q) c.waits.plan.marks flush.pv q
          (record m { ended = max m.ended flush.after; stable = max m.stable flush.after }) no_marks (λ far. inr far)
          (λ e far. inr (subst (λ (k : ℕ). (marks_of c.waits.plan k).stable < (marks_of c.waits.plan k).ended) e (omega (arith, far)))) far

  -- badly: its disk has failed
  lost_go : done.well ≡ false → CausesGo b ended_origin c (after_flushed c done.tag false) es es
  lost_go bad = record {
    later = inr (step, refl);
    more = extends_none es;
    lost = by;
    failing = λ n p why at fails. inl (before_itself c.opens n p why at fails);
    dirty = λ key q lt some. inl (lt, some);
    waits = λ q it has. inl has;
    lives = lives_itself c (after_flushed c done.tag false) refl;
    marks =
        λ q place ended unstable. set_keeps
        (λ (n : Marks). place ≤ n.ended → n.stable < place
        → IsBehind (marks_of c.waits.plan q) place ⊎ LosesFlush b ended_origin c.waits.plan q place) c.waits.plan.marks flush.pv q
        (record m { ended = max m.ended flush.after }) no_marks (λ ended unstable. inl (ended, unstable))
        (λ e ended unstable.
        subst (λ (k : ℕ). IsBehind (marks_of c.waits.plan k) place ⊎ LosesFlush b ended_origin c.waits.plan k place) e
        (⊎_elim (λ over. inr (loses place (omega (arith, ended, over)))) (λ (old : place ≤ m.ended). inl (old, unstable))
        (cases_lt m.ended place))) ended unstable;
    flushes = λ x has. inl (left x has);
    answered = λ are. are;
  }
    where
      loses : (place : ℕ) → place ≤ flush.after → LosesFlush b ended_origin c.waits.plan flush.pv place
      loses place serves = record {
        flush = flush;
        flew = Contains-get_or c.waits.plan.flushes (flush_at c.waits.plan done.tag) (record { tag = 0; pv = 0; after = 0 }) within;
        disk = refl;
        serves = serves;
        lost = flush_lost bad;
      }

      by : (q : ℕ) → IsLost (after_flushed c done.tag false) q
          → IsLost c q ⊎ (is_failed_disk ended_origin (now_in ended_origin) q ≡ true)
      by q (inl is) = inl (inl is)
      by q (inr far) =
          set_keeps (λ (n : Marks). n.stable < n.ended → IsLost c q ⊎ (is_failed_disk ended_origin (now_in ended_origin) q ≡ true))
          c.waits.plan.marks flush.pv q (record m { ended = max m.ended flush.after }) no_marks (λ far. inl (inr far))
          (λ e far. inr (subst (λ (k : ℕ). is_failed_disk ended_origin (now_in ended_origin) k ≡ true) e (flush_failed bad b.start from)))
          far

  pub ends_flush_go : CausesGo b ended_origin c (after w (EndsFlush done now)).core es es
  ends_flush_go = by done.well refl
    where
      by : (well : Bool) → done.well ≡ well → CausesGo b ended_origin c (after_flushed c done.tag well) es es
      by true is = well_go
      by false is = lost_go is
