-- The promise goes on by one part of a call and then another.
use Rattle.std.proofs.Common.{◌≡◌, ℕ, suc, Bool, true, false, IsTrue, List, [], ◌∷◌, ◌++◌, All, Contains, Some}
use Rattle.std.proofs.Common.{option_map, refl, sym, ap, subst, ◌∙◌, arith}
use Rattle.disk_model.specs.Brought.{BringOnly}
use Rattle.disk_model.specs.CarriesOut.{with_operation}
use Rattle.disk_model.specs.Since.{BetweenRecords}
use Rattle.disk_model.specs.Steps.{Image, Work, Submitted, Completed, Record}
use Rattle.disk_model.proofs.EveryMoment.{since_weaken}
use Rattle.disk_model.proofs.StepsSince.{steps_joined}
use Rattle.cow_store.specs.Entries.{chunks_of}
use Rattle.cow_store.specs.Layout.{Lengths}
use Rattle.cow_store.specs.Stands.{IsKept, IsPromised, IsRight, IsWhole, Past, Stands, setting}
use Rattle.cow_store.specs.VolStates.{Operates, VolState}
use Rattle.cow_store.specs.Writing.{GoesOn, PromiseGoesOn, unchanged}
use Rattle.cow_store.proofs.Moments.{kept_right, promise_right}
use Rattle.cow_store.proofs.Operations.{one_more, wells_more}

-- what holds of every operation holds between what is told before and after
pub told_by : (old : VolState) (work : Work) (well : Bool) (new : VolState) (R : Record → Record → Type 0) → Operates old work well new
    → ((t : Record) → old.told ≡ Some t → (tag : ℕ) (fresh : List Bool) → R t (with_operation tag work well fresh t))
    → BetweenRecords R old.told new.told
told_by old work well new R o make t e =
    (_, o.told.2 ∙ ap (option_map (with_operation o.told.0 work well o.told.1)) e, make t e o.told.0 o.told.1)

-- one operation
pub goes_operation : (t : Record) (tag : ℕ) (work : Work) (well : Bool) (fresh : List Bool)
    → GoesOn well t (with_operation tag work well fresh t)
goes_operation t tag work well fresh = record {
  since = Completed tag work well fresh ∷ Submitted tag work ∷ [];
  steps = refl;
  one_by_one = λ one. one_more t tag work well fresh one;
  wells = λ went wells. wells_more tag work well fresh t went wells;
}

pub goes_both : (a b c : Record) (well : Bool) → GoesOn true a b → GoesOn well b c → GoesOn well a c
goes_both a b c well first more = record {
  since = more.since ++ first.since;
  steps = steps_joined a b c first.since more.since first.steps more.steps;
  one_by_one = λ one. more.one_by_one (first.one_by_one one);
  wells = λ went wells. more.wells went (first.wells refl wells);
}

-- one operation that brings right values alone
pub promise_operation : (lengths : Lengths) (When : Past → List ℕ → Type 0) (t : Record) (tag : ℕ) (work : Work) (well : Bool)
    (fresh : List Bool)
    → ((past : Past) (entries : List ℕ) (table : ℕ → List ℕ) → When past entries
    → BringOnly (IsRight lengths past.was entries table) (Submitted tag work ∷ []))
    → PromiseGoesOn lengths When unchanged well t (with_operation tag work well fresh t)
promise_operation lengths When t tag work well fresh brings past entries w p k = (
  promise_right lengths past entries t p k tag work well fresh (brings past entries k.table w),
  kept_right lengths past entries t p k tag work well fresh (brings past entries k.table w),
)

-- two parts of a call
pub promise_both : (lengths : Lengths) (When When' : Past → List ℕ → Type 0) (f f' : List ℕ → List ℕ) (well : Bool) (a b c : Record)
    → PromiseGoesOn lengths When f true a b → PromiseGoesOn lengths When' f' well b c
    → ((past : Past) (entries : List ℕ) → When past entries → IsKept lengths past entries a → When' past (f entries))
    → PromiseGoesOn lengths When (λ entries. f' (f entries)) well a c
promise_both lengths When When' f f' well a b c first more step past entries w p k =
    let mid = first past entries w p k in more past (f entries) (step past entries w k) mid.0 (mid.1 refl)

-- a part that failed was the last one
pub promise_failed : (lengths : Lengths) (When : Past → List ℕ → Type 0) (f f' : List ℕ → List ℕ) (a b : Record)
    → PromiseGoesOn lengths When f false a b → PromiseGoesOn lengths When f' false a b
promise_failed lengths When f f' a b first past entries w p k =
    ((first past entries w p k).0, λ went. absurd (let h : false ≡ true = went in cc))

pub promise_weaker : (lengths : Lengths) (When When' : Past → List ℕ → Type 0) (f : List ℕ → List ℕ) (well : Bool) (a b : Record)
    → ((past : Past) (entries : List ℕ) → When' past entries → When past entries) → PromiseGoesOn lengths When f well a b
    → PromiseGoesOn lengths When' f well a b
promise_weaker lengths When When' f well a b weaker first past entries w p k = first past entries (weaker past entries w) p k

-- more chunks may have entries
contains_more : (chunk : ℕ) (chunks more : List ℕ) → All (Contains chunks) more → All (Contains (chunk ∷ chunks)) more
contains_more chunk chunks more all k d lt = let h = all k d lt in (suc h.0, omega (arith, h.1), h.2)

whole_more : (lengths : Lengths) (past : Past) (chunk : ℕ) (image : Image) → IsWhole lengths past image
    → IsWhole lengths (setting chunk past) image
whole_more lengths past chunk image w =
    record { entries = w.entries; found = w.found; chunks = contains_more chunk past.chunks (chunks_of w.entries) w.chunks; same = w.same }

pub promised_more : (lengths : Lengths) (past : Past) (chunk : ℕ) (t : Record) → IsPromised lengths past t
    → IsPromised lengths (setting chunk past) t
promised_more lengths past chunk t p = record {
  begun = p.begun;
  snapshots =
      since_weaken t past.start past.start (IsWhole lengths past) (IsWhole lengths (setting chunk past)) (omega arith)
      (whole_more lengths past chunk) p.snapshots;
  candidates = p.candidates;
}

pub kept_more : (lengths : Lengths) (past : Past) (chunk : ℕ) (entries : List ℕ) (t : Record) → IsKept lengths past entries t
    → IsKept lengths (setting chunk past) entries t
kept_more lengths past chunk entries t k = record {
  one_by_one = k.one_by_one;
  well = k.well;
  chunks = contains_more chunk past.chunks (chunks_of entries) k.chunks;
  table = k.table;
  found = k.found;
  right = k.right;
  candidates = k.candidates;
}

pub stands_more : (lengths : Lengths) (past : Past) (chunk : ℕ) (entries : List ℕ) (spent : Bool) (t : Record)
    → Stands lengths past entries spent t → Stands lengths (setting chunk past) entries spent t
stands_more lengths past chunk entries spent t s =
    record { promise = promised_more lengths past chunk t s.promise; kept = λ going. kept_more lengths past chunk entries t (s.kept going) }

-- the promise stands after a part of a call
pub stands_after : (lengths : Lengths) (When : Past → List ℕ → Type 0) (f : List ℕ → List ℕ) (well : Bool) (t t' : Record) (past : Past)
    (entries entries' : List ℕ) (spent spent' : Bool)
    → PromiseGoesOn lengths When f well t t' → When past entries → spent ≡ false
    → (spent' ≡ false → IsTrue well × (entries' ≡ f entries)) → Stands lengths past entries spent t → Stands lengths past entries' spent' t'
stands_after lengths When f well t t' past entries entries' spent spent' goes w going after s =
    let next = goes past entries w s.promise (s.kept going) in
    record {
      promise = next.0;
      kept = λ still.
          let a = after still in subst (λ (l : List ℕ). IsKept lengths past l t') (sym a.1) (next.1 a.0);
    }

-- what is told after an operation
pub operation_told : (old : VolState) (work : Work) (well : Bool) (new : VolState) (t : Record) (o : Operates old work well new)
    → old.told ≡ Some t → new.told ≡ Some (with_operation o.told.0 work well o.told.1 t)
operation_told old work well new t o e = o.told.2 ∙ ap (option_map (with_operation o.told.0 work well o.told.1)) e
