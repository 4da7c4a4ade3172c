-- One sector that is written, read or flushed.
use Rattle.std.proofs.Common.{◌≡◌, ℕ, ◌-◌, ◌/◌, ◌==◌, ◌&&◌, ◌||◌, cond, Bool, true, false, IsTrue, List, [], ◌∷◌, slice_index_or}
use Rattle.std.proofs.Common.{Option, Some, None, inl, refl, sym, ap, subst, ◌∙◌, arith}
use Rattle.std.proofs.lemmas.List.Elements.{All-cons, All-nil}
use Rattle.std.proofs.lemmas.Bool.Decides.{nat_tests}
use Rattle.sector_base.specs.Spans.{covers}
use Rattle.disk_model.specs.Brought.{BringOnly}
use Rattle.disk_model.specs.CarriesOut.{with_operation}
use Rattle.disk_model.specs.Order.{HasFlushed}
use Rattle.disk_model.specs.Puts.{one_sector}
use Rattle.disk_model.specs.Since.{KeepsSectors, KeepsSectorsTold}
use Rattle.disk_model.specs.Steps.{Work, Reading, Writing, Flushing, Step, Submitted, Completed, Record, now_after, value_at}
use Rattle.disk_model.proofs.KeptSectors.{keeps_told_unflushed}
use Rattle.cow_store.specs.Entries.{slot_of}
use Rattle.cow_store.specs.Layout.{Lengths}
use Rattle.cow_store.specs.Stands.{IsRight, Past}
use Rattle.cow_store.specs.Writing.{Always, HasSlot, IsUnused, PromiseGoesOn, WritesNone, unchanged}
use Rattle.cow_store.proofs.Goes.{goes_both, goes_operation, promise_both, promise_operation}

covers-one : (v at p s : ℕ) → covers (one_sector v at) p s ≡ ((p == v) && (s == at))
covers-one v at p s = grind (arith, nat_tests)

pub covered : (v at p s : ℕ) → IsTrue (covers (one_sector v at) p s) → (p ≡ v) × (s ≡ at)
covered v at p s h = (grind (arith, nat_tests), grind (arith, nat_tests))

pub value_there : (v at s : ℕ) (value : List ℕ) → s ≡ at → value_at (one_sector v at) (value ∷ []) s ≡ value
value_there v at s value e =
    let none : s - at ≡ 0 = omega arith in ap (λ (k : ℕ). slice_index_or (value ∷ []) k []) none

-- what a read gives once the sector was written
now_by : (v at : ℕ) (value : List ℕ) (p s : ℕ) (b : Bool) → covers (one_sector v at) p s ≡ b → (old : List ℕ)
    → cond (b && true) (value_at (one_sector v at) (value ∷ []) s) old ≡ cond b value old
now_by v at value p s true e old = value_there v at s value (covered v at p s e).1
now_by v at value p s false e old = refl

pub now_written : (t : Record) (tag v at : ℕ) (value : List ℕ) (fresh : List Bool) (p s : ℕ)
    → (let t' = with_operation tag (Writing (one_sector v at) (value ∷ [])) true fresh t in now_after t'.opened t'.steps p s)
    ≡ cond ((p == v) && (s == at)) value (now_after t.opened t.steps p s)
now_written t tag v at value fresh p s =
    now_by v at value p s (covers (one_sector v at) p s) refl (now_after t.opened t.steps p s)
    ∙ ap (λ (b : Bool). cond b value (now_after t.opened t.steps p s)) (covers-one v at p s)

-- what a write that may have failed leaves elsewhere
now_away : (v at : ℕ) (value : List ℕ) (p s : ℕ) (x b : Bool) → covers (one_sector v at) p s ≡ b → b ≡ false → (old : List ℕ)
    → cond (b && x) (value_at (one_sector v at) (value ∷ []) s) old ≡ old
now_away v at value p s x true e away old = absurd (let h : true ≡ false = away in cc)
now_away v at value p s x false e away old = refl

-- a write of one sector leaves what a read of another one gives, also where it failed
pub now_elsewhere : (t : Record) (tag v at : ℕ) (value : List ℕ) (well : Bool) (fresh : List Bool) (p s : ℕ) → (p ≡ v → s ≡ at → ⊥)
    → (let t' = with_operation tag (Writing (one_sector v at) (value ∷ [])) well fresh t in now_after t'.opened t'.steps p s)
    ≡ now_after t.opened t.steps p s
now_elsewhere t tag v at value well fresh p s away =
    now_away v at value p s (well || slice_index_or fresh (s - at) false) (covers (one_sector v at) p s) refl
    (off (covers (one_sector v at) p s) refl) (now_after t.opened t.steps p s)
  where
    off : (b : Bool) → covers (one_sector v at) p s ≡ b → b ≡ false
    off true e = let h = covered v at p s e in absurd (away h.0 h.1)
    off false e = refl

-- one write of one sector brings its value alone
pub brings_one : (Q : ℕ → ℕ → List ℕ → Type 0) (tag v at : ℕ) (value : List ℕ) → Q v at value
    → BringOnly Q (Submitted tag (Writing (one_sector v at) (value ∷ [])) ∷ [])
brings_one Q tag v at value q = (
  λ p s inside.
      let h = covered v at p s inside in
      subst (λ (n : ℕ). Q n s (value_at (one_sector v at) (value ∷ []) s)) (sym h.0)
      (subst (λ (n : ℕ). Q v n (value_at (one_sector v at) (value ∷ []) n)) (sym h.1)
      (subst (λ (l : List ℕ). Q v at l) (sym (value_there v at at value refl)) q)),
  tt,
)

-- a sector of the origin whose chunk has a slot may get any value
pub right_in_origin : (lengths : Lengths) (was : ℕ → List ℕ) (entries : List ℕ) (table : ℕ → List ℕ) (at slot : ℕ) (value : List ℕ)
    → slot_of entries (at / 8) ≡ Some slot → IsRight lengths was entries table 0 at value
right_in_origin lengths was entries table at slot value has = record {
  stands = λ e. absurd (omega arith);
  saved = λ e. absurd (omega arith);
  unsaved = λ e lt none. absurd (let h : Some slot ≡ None = sym has ∙ none in cc);
}

-- and so may one of the store that is unused
pub right_in_store : (lengths : Lengths) (past : Past) (entries : List ℕ) (table : ℕ → List ℕ) (at : ℕ) (value : List ℕ)
    → IsUnused lengths at past entries → IsRight lengths past.was entries table 1 at value
right_in_store lengths past entries table at value unused = record {
  stands = λ e lt. absurd (omega (arith, lt, unused.0));
  saved = λ e x slot lt has there. absurd (unused.1 x slot has there);
  unsaved = λ e. absurd (omega arith);
}

module _ (lengths : Lengths) (t : Record) (tag : ℕ) (well : Bool) (fresh : List Bool) where
  pub writes_origin : (at : ℕ) (value : List ℕ)
      → PromiseGoesOn lengths (HasSlot at) unchanged well t (with_operation tag (Writing (one_sector 0 at) (value ∷ [])) well fresh t)
  writes_origin at value =
      promise_operation lengths (HasSlot at) t tag (Writing (one_sector 0 at) (value ∷ [])) well fresh
      (λ past entries table has. brings_one (IsRight lengths past.was entries table) tag 0 at value
      (right_in_origin lengths past.was entries table at has.0 value has.1))

  pub writes_unused : (at : ℕ) (value : List ℕ)
      → PromiseGoesOn lengths (IsUnused lengths at) unchanged well t
      (with_operation tag (Writing (one_sector 1 at) (value ∷ [])) well fresh t)
  writes_unused at value =
      promise_operation lengths (IsUnused lengths at) t tag (Writing (one_sector 1 at) (value ∷ [])) well fresh
      (λ past entries table unused. brings_one (IsRight lengths past.was entries table) tag 1 at value
      (right_in_store lengths past entries table at value unused))

  pub reads_one : (v at : ℕ) (When : Past → List ℕ → Type 0)
      → PromiseGoesOn lengths When unchanged well t (with_operation tag (Reading (one_sector v at)) well fresh t)
  reads_one v at When = promise_operation lengths When t tag (Reading (one_sector v at)) well fresh (λ past entries table w. tt)

  pub flushes_one : (v : ℕ) (When : Past → List ℕ → Type 0)
      → PromiseGoesOn lengths When unchanged well t (with_operation tag (Flushing v) well fresh t)
  flushes_one v When = promise_operation lengths When t tag (Flushing v) well fresh (λ past entries table w. tt)

-- the steps of one operation
abbrev steps_of : ℕ → Work → Bool → List Bool → List Step
steps_of tag work well fresh = Completed tag work well fresh ∷ Submitted tag work ∷ []

-- a read leaves each sector
pub read_keeps : (t : Record) (tag v at : ℕ) (well : Bool) (fresh : List Bool)
    → KeepsSectors t [] (with_operation tag (Reading (one_sector v at)) well fresh t)
read_keeps t tag v at well fresh = record {
  since = steps_of tag (Reading (one_sector v at)) well fresh;
  steps = refl;
  nothing = tt;
  same = λ p s. refl;
  flushes = All-nil (λ p. HasFlushed p (steps_of tag (Reading (one_sector v at)) well fresh));
}

-- and so does a flush
pub flush_keeps : (t : Record) (tag v : ℕ) (well : Bool) (fresh : List Bool)
    → KeepsSectors t (cond well (v ∷ []) []) (with_operation tag (Flushing v) well fresh t)
flush_keeps t tag v true fresh = record {
  since = steps_of tag (Flushing v) true fresh;
  steps = refl;
  nothing = tt;
  same = λ p s. refl;
  flushes =
      All-cons (λ p. HasFlushed p (steps_of tag (Flushing v) true fresh)) v [] (inl refl)
      (All-nil (λ p. HasFlushed p (steps_of tag (Flushing v) true fresh)));
}
flush_keeps t tag v false fresh = record {
  since = steps_of tag (Flushing v) false fresh;
  steps = refl;
  nothing = tt;
  same = λ p s. refl;
  flushes = All-nil (λ p. HasFlushed p (steps_of tag (Flushing v) false fresh));
}

-- one flush writes nothing
pub flush_writes_none : (lengths : Lengths) (t : Record) (tag v : ℕ) (well : Bool) (fresh : List Bool)
    → WritesNone lengths well t (with_operation tag (Flushing v) well fresh t)
flush_writes_none lengths t tag v well fresh =
    record { goes = goes_operation t tag (Flushing v) well fresh; promise = flushes_one lengths t tag well fresh v Always }

pub none_both : (lengths : Lengths) (well : Bool) (a b c : Record) → WritesNone lengths true a b → WritesNone lengths well b c
    → WritesNone lengths well a c
none_both lengths well a b c first more = record {
  goes = goes_both a b c well first.goes more.goes;
  promise = promise_both lengths Always Always unchanged unchanged well a b c first.promise more.promise (λ past entries w k. tt);
}

-- both volumes were flushed, or the second flush failed
pub flushed_both : (s0 s2 : Option Record) (well : Bool) → KeepsSectorsTold s0 (0 ∷ cond well (1 ∷ []) []) s2
    → KeepsSectorsTold s0 (cond well (0 ∷ 1 ∷ []) []) s2
flushed_both s0 s2 true k = k
flushed_both s0 s2 false k = keeps_told_unflushed (0 ∷ []) s0 s2 k
