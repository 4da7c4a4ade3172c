-- One disk is flushed after another.
use Rattle.std.proofs.Common.{◌≡◌, ◌<◌, Option, ℕ, ◌+◌, Bool, true, false, IsTrue, List, [], ◌∷◌, ◌++◌, refl, inl, inr, ap, subst, ◌∙◌}
use Rattle.std.proofs.Common.{arith}
use Rattle.std.proofs.lemmas.Bool.{cases_lt}
use Rattle.disk_model.specs.CarriesOut.{CarriesOut, with_operation}
use Rattle.disk_model.specs.Order.{HasFlushed, WritesNothing}
use Rattle.disk_model.specs.Since.{BetweenRecords, spans_read}
use Rattle.disk_model.specs.State.{State}
use Rattle.disk_model.specs.Steps.{Flushing, IsSame, Step, Submitted, Completed, Record, now_after, steps_on}
use Rattle.disk_model.specs.declared.ops.Done.{Done}
use Rattle.disk_model.specs.declared.ops.Op.TheVariants.{Flush}
use Rattle.disk_model.proofs.OneAtATime.{told_by_operation}
use Rattle.disk_model.proofs.Ordered.{flushed_later, flushed_newer, writes_nothing_append}
use Rattle.disk_model.proofs.StepsSince.{between_both, between_same, spans_read-append, steps_joined}
use Rattle.disk_batch.specs.Flushing.{FlushesAll}

-- this disk alone was flushed
record FlushesOne (disk : ℕ) (well : Bool) (old new : Record) : Type 0 where
  since : List Step
  steps : new ≡ steps_on since old
  nothing : WritesNothing since
  unread : spans_read since ≡ []
  same : IsSame (now_after new.opened new.steps) (now_after old.opened old.steps)
  flushed : IsTrue well → HasFlushed disk since

abbrev flush_steps : ℕ → ℕ → Bool → List Bool → List Step
flush_steps tag disk well fresh = Completed tag (Flushing disk) well fresh ∷ Submitted tag (Flushing disk) ∷ []

completed_well : (tag disk : ℕ) (well : Bool) (fresh : List Bool) → IsTrue well → HasFlushed disk (flush_steps tag disk well fresh)
completed_well tag disk true fresh is = inl refl
completed_well tag disk false fresh is = absurd (cc)

one_flush : (t : Record) (tag disk : ℕ) (well : Bool) (fresh : List Bool)
    → FlushesOne disk well t (with_operation tag (Flushing disk) well fresh t)
one_flush t tag disk well fresh = record {
  since = flush_steps tag disk well fresh;
  steps = refl;
  nothing = tt;
  unread = refl;
  same = λ pv sector. refl;
  flushed = completed_well tag disk well fresh;
}

-- those below a number, and that number
flushed_below : (disk pv : ℕ) (newer older : List Step) → ((p : ℕ) → p < disk → HasFlushed p older) → HasFlushed disk newer → pv < disk + 1
    → HasFlushed pv (newer ++ older)
flushed_below disk pv newer older before here within =
    elim (cases_lt pv disk) [
      | inl low ↦ flushed_later pv newer older (before pv low)
      | inr high ↦ flushed_newer pv newer older
          (let same : disk ≡ pv = omega (arith, high, within) in subst (λ (n : ℕ). HasFlushed n newer) same here)
    ]

module _ (disk : ℕ) (well : Bool) (old mid new : Record) (all : FlushesAll disk true old mid) (one : FlushesOne disk well mid new) where
  one_more : FlushesAll (disk + 1) well old new
  one_more = record {
    since = one.since ++ all.since;
    steps = steps_joined old mid new all.since one.since all.steps one.steps;
    nothing = writes_nothing_append one.since all.since one.nothing all.nothing;
    unread = spans_read-append one.since all.since ∙ ap (λ (l : List _). l ++ spans_read one.since) all.unread ∙ one.unread;
    same = λ pv sector. one.same pv sector ∙ all.same pv sector;
    flushed = λ is pv within. flushed_below disk pv one.since all.since (all.flushed refl) (one.flushed is) within;
  }

-- no disk was flushed yet
pub none_flushed : (told : Option Record) → BetweenRecords (FlushesAll 0 true) told told
none_flushed told =
    between_same (FlushesAll 0 true) told told refl
    (λ old. record {
      since = [];
      steps = refl;
      nothing = tt;
      unread = refl;
      same = λ pv sector. refl;
      flushed = λ is pv within. absurd (omega (arith, within));
    })

-- one disk more was flushed, well or not
pub one_more_flushed : (told : Option Record) (mid : State) (disk : ℕ) (done : Done) (new : State)
    → BetweenRecords (FlushesAll disk true) told mid.told → CarriesOut mid (Flush disk) done new
    → BetweenRecords (FlushesAll (disk + 1) done.well) told new.told
one_more_flushed told mid disk done new before carried =
    between_both (FlushesAll disk true) (FlushesOne disk done.well) (FlushesAll (disk + 1) done.well) told mid.told new.told
    (one_more disk done.well) before
    (told_by_operation mid (Flush disk) done new (FlushesOne disk done.well) carried (λ t fresh. one_flush t done.tag disk done.well fresh))

stopped : (disks disk : ℕ) (old new : Record) → FlushesAll disk false old new → FlushesAll disks false old new
stopped disks disk old new f =
    record { since = f.since; steps = f.steps; nothing = f.nothing; unread = f.unread; same = f.same; flushed = λ is. absurd (cc) }

-- one was not, and no further one was tried
pub flushes_stopped : (disks disk : ℕ) (told told' : Option Record) → BetweenRecords (FlushesAll disk false) told told'
    → BetweenRecords (FlushesAll disks false) told told'
flushes_stopped disks disk told told' f old is = let r = f old is in (r.0, r.1, stopped disks disk old r.0 r.2)
