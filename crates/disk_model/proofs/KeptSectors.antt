-- Calls that write nothing leave each sector as it was.
use Rattle.std.proofs.Common.{◌≡◌, ℕ, Bool, true, false, cond, List, [], ◌∷◌, ◌++◌, length, Option, All, inl, refl, sym, subst, ◌∙◌}
use Rattle.std.proofs.lemmas.List.Elements.{All-append, All-nil, All-cons}
use Rattle.disk_model.specs.Steps.{Flushing, Image, IsSame, Step, Submitted, Completed, Record}
use Rattle.disk_model.specs.declared.ops.Op.TheVariants.{Flush}
use Rattle.disk_model.specs.declared.ops.Done.{Done}
use Rattle.disk_model.specs.CarriesOut.{CarriesOut, with_operation}
use Rattle.disk_model.specs.State.{State}
use Rattle.disk_model.specs.Moments.{EveryImageSince}
use Rattle.disk_model.specs.Durability.{IsBase}
use Rattle.disk_model.specs.Order.{HasFlushed}
use Rattle.disk_model.specs.Since.{KeepsSectors, KeepsSectorsTold}
use Rattle.disk_model.proofs.Bringing.{every_moment, only_leaves}
use Rattle.disk_model.proofs.OneAtATime.{told_by_operation}
use Rattle.disk_model.proofs.Ordered.{flushed_later, flushed_newer, writes_nothing_append, writes_nothing_brings}
use Rattle.disk_model.proofs.StepsSince.{between_both, between_same, between_weaker, steps_joined}

all_weaker : (P Q : ℕ → Type 0) (pvs : List ℕ) → ((pv : ℕ) → P pv → Q pv) → All P pvs → All Q pvs
all_weaker P Q pvs up all = λ i d lt. up _ (all i d lt)

-- nothing was done at all
pub keeps_told_nothing : (s0 s1 : Option Record) → s1 ≡ s0 → KeepsSectorsTold s0 [] s1
keeps_told_nothing s0 s1 same =
    between_same (λ old new. KeepsSectors old [] new) s0 s1 same
    (λ old. record { since = []; steps = refl; nothing = tt; same = λ pv s. refl; flushes = All-nil (λ pv. HasFlushed pv []) })

keeps_both : (first more : List ℕ) (old mid new : Record) → KeepsSectors old first mid → KeepsSectors mid more new
    → KeepsSectors old (first ++ more) new
keeps_both first more old mid new a b = record {
  since = b.since ++ a.since;
  steps = steps_joined old mid new a.since b.since a.steps b.steps;
  nothing = writes_nothing_append b.since a.since b.nothing a.nothing;
  same = λ pv s. b.same pv s ∙ a.same pv s;
  flushes =
      All-append (λ pv. HasFlushed pv (b.since ++ a.since)) first more
      (all_weaker (λ pv. HasFlushed pv a.since) (λ pv. HasFlushed pv (b.since ++ a.since)) first
      (λ pv h. flushed_later pv b.since a.since h) a.flushes)
      (all_weaker (λ pv. HasFlushed pv b.since) (λ pv. HasFlushed pv (b.since ++ a.since)) more (λ pv h. flushed_newer pv b.since a.since h)
      b.flushes);
}

-- a call that keeps the sectors, and then another
pub keeps_told_both : (first more : List ℕ) (s0 s1 s2 : Option Record) → KeepsSectorsTold s0 first s1 → KeepsSectorsTold s1 more s2
    → KeepsSectorsTold s0 (first ++ more) s2
keeps_told_both first more s0 s1 s2 a b =
    between_both (λ old new. KeepsSectors old first new) (λ old new. KeepsSectors old more new)
    (λ old new. KeepsSectors old (first ++ more) new) s0 s1 s2 (keeps_both first more) a b

abbrev flush_steps : ℕ → ℕ → Bool → List Bool → List Step
flush_steps tag pv well fresh = Completed tag (Flushing pv) well fresh ∷ Submitted tag (Flushing pv) ∷ []

keeps_flush : (t : Record) (tag pv : ℕ) (well : Bool) (fresh : List Bool)
    → KeepsSectors t (cond well (pv ∷ []) []) (with_operation tag (Flushing pv) well fresh t)
keeps_flush t tag pv true fresh = record {
  since = flush_steps tag pv true fresh;
  steps = refl;
  nothing = tt;
  same = λ p s. refl;
  flushes =
      All-cons (λ p. HasFlushed p (flush_steps tag pv true fresh)) pv [] (inl refl)
      (All-nil (λ p. HasFlushed p (flush_steps tag pv true fresh)));
}
keeps_flush t tag pv false fresh = record {
  since = flush_steps tag pv false fresh;
  steps = refl;
  nothing = tt;
  same = λ p s. refl;
  flushes = All-nil (λ p. HasFlushed p (flush_steps tag pv false fresh));
}

-- a flush that was carried out alone
pub keeps_told_flush : (s0 s1 : State) (pv : ℕ) (done : Done) (well : Bool) → CarriesOut s0 (Flush pv) done s1 → done.well ≡ well
    → KeepsSectorsTold s0.told (cond well (pv ∷ []) []) s1.told
keeps_told_flush s0 s1 pv done well c is =
    told_by_operation s0 (Flush pv) done s1 (λ old new. KeepsSectors old (cond well (pv ∷ []) []) new) c
    (λ t fresh. subst (λ (b : Bool). KeepsSectors t (cond b (pv ∷ []) []) (with_operation done.tag (Flushing pv) done.well fresh t)) is
    (keeps_flush t done.tag pv done.well fresh))

module _ (old new : Record) (flushed : List ℕ) (k : KeepsSectors old flushed new) (base : Image) (is : IsBase old base) where
  abbrev Stays : ℕ → ℕ → List ℕ → Type 0
  Stays pv sector value = value ≡ base pv sector

  -- at every moment a crash leaves each sector's one value
  pub kept_images : EveryImageSince (length old.steps) new (λ image. IsSame image base)
  kept_images =
      subst (λ (t : Record). EveryImageSince (length old.steps) t (λ image. IsSame image base)) (sym k.steps)
      (every_moment Stays old.opened old.steps is k.since (writes_nothing_brings Stays k.since k.nothing))

  -- and each sector has one value afterwards
  pub kept_base : IsBase new base
  kept_base =
      subst (λ (t : Record). IsBase t base) (sym k.steps)
      (only_leaves Stays old.opened old.steps is k.since (writes_nothing_brings Stays k.since k.nothing))

keeps_unflushed : (flushed : List ℕ) (old new : Record) → KeepsSectors old flushed new → KeepsSectors old [] new
keeps_unflushed flushed old new k =
    record { since = k.since; steps = k.steps; nothing = k.nothing; same = k.same; flushes = All-nil (λ pv. HasFlushed pv k.since) }

-- whatever was flushed
pub keeps_told_unflushed : (flushed : List ℕ) (s0 s1 : Option Record) → KeepsSectorsTold s0 flushed s1 → KeepsSectorsTold s0 [] s1
keeps_told_unflushed flushed s0 s1 k =
    between_weaker (λ old new. KeepsSectors old flushed new) (λ old new. KeepsSectors old [] new) s0 s1 (keeps_unflushed flushed) k
