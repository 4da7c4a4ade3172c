-- Writes of which no two share a sector, and the batch of them.
use Rattle.std.proofs.Common.{◌≡◌, ◌<◌, ◌⊎◌, ◌+◌, ◌==◌, ◌&&◌, nat_le, nat_lt, ℕ, suc, Bool, true, List, map, [], ◌∷◌, ◌++◌, length, get_or}
use Rattle.std.proofs.Common.{inl, inr, ⊎_elim, sym, ap, subst, ◌∙◌, arith}
use Rattle.std.specs.Prelude.{All, AllPairs, flat_map}
use Rattle.std.proofs.lemmas.Bool.{and_parts, eqb-true, false_from_ne_true, or_cases, or_left, or_right, true≢false}
use Rattle.std.proofs.lemmas.List.Elements.{All-append, All-head, All-nil, All-tail}
use Rattle.sector_base.specs.declared.spans.Span.{Span}
use Rattle.sector_base.specs.Spans.{covers}
use Rattle.disk_model.specs.InFlight.{IsAmong}
use Rattle.disk_model.specs.Submitting.{writes_at}
use Rattle.disk_batch.specs.Batches.{disks_of, writes_of}
use Rattle.disk_batch.specs.InTurn.{CanRun, Put, ShareNoSector}
use Rattle.disk_batch.specs.Writes.{LieIn, write_work}
use Rattle.disk_batch.specs.declared.batch.Batch.{Batch}

-- whether one of these writes covers the sector
abbrev pub is_written : List Put → ℕ → ℕ → Bool
is_written puts = writes_at (map write_work puts)

-- what two runs of writes write, one of them does
pub at_either : (first more : List Put) (pv sector : ℕ) → is_written (first ++ more) pv sector ≡ true
    → (is_written first pv sector ≡ true) ⊎ (is_written more pv sector ≡ true)
at_either [] more pv sector is = inr is
at_either (put ∷ first) more pv sector is =
    ⊎_elim
    (λ here. inl (or_left (covers put.0 pv sector) (is_written first pv sector) here))
    (λ later. ⊎_elim (λ x. inl (or_right (covers put.0 pv sector) (is_written first pv sector) x)) (λ y. inr y)
    (at_either first more pv sector later))
    (or_cases (covers put.0 pv sector) (is_written (first ++ more) pv sector) is)

-- two runs that share no sector
pub apart_both : (first more : List Put) → ShareNoSector first → ShareNoSector more
    → ((pv sector : ℕ) → is_written first pv sector ≡ true → is_written more pv sector ≡ true → ⊥) → ShareNoSector (first ++ more)
apart_both [] more a b none = b
apart_both (put ∷ first) more a b none = (
  λ pv sector here.
      false_from_ne_true (is_written (first ++ more) pv sector)
      (λ later.
      ⊎_elim
      (λ x. true≢false (sym x ∙ a.0 pv sector here))
      (λ y. none pv sector (or_left (covers put.0 pv sector) (is_written first pv sector) here) y)
      (at_either first more pv sector later)),
  apart_both first more a.1 b (λ pv sector x y. none pv sector (or_right (covers put.0 pv sector) (is_written first pv sector) x) y),
)

-- the writes of each thing of a list
module _ {A : Type 0} (puts_of : A → List Put) where
  -- of which one a write is
  one_of : (xs : List A) (d : A) (pv sector : ℕ) → is_written (flat_map puts_of xs) pv sector ≡ true
      → (k : ℕ) × (k < length xs) × (is_written (puts_of (get_or xs k d)) pv sector ≡ true)
  one_of [] d pv sector is = absurd (true≢false (sym is))
  one_of (x ∷ xs) d pv sector is = step (λ later. one_of xs d pv sector later) (at_either (puts_of x) (flat_map puts_of xs) pv sector is)
    where
      step : (is_written (flat_map puts_of xs) pv sector ≡ true
          → (k : ℕ) × (k < length xs) × (is_written (puts_of (get_or xs k d)) pv sector ≡ true))
          → (is_written (puts_of x) pv sector ≡ true) ⊎ (is_written (flat_map puts_of xs) pv sector ≡ true)
          → (k : ℕ) × (k < length (x ∷ xs)) × (is_written (puts_of (get_or (x ∷ xs) k d)) pv sector ≡ true)
      step rest (inl here) = (0, omega arith, here)
      step rest (inr later) = let w = rest later in (suc w.0, omega (arith, w.1), w.2)

  -- where those of one share none, and those of no two
  pub each_apart : (Good : A → Type 0) (P : A → A → Type 0) → ((a : A) → Good a → ShareNoSector (puts_of a))
      → ((a b : A) → Good a → Good b → P a b → (pv sector : ℕ) → is_written (puts_of a) pv sector ≡ true
      → is_written (puts_of b) pv sector ≡ true → ⊥)
      → (xs : List A) → All Good xs → AllPairs P xs → ShareNoSector (flat_map puts_of xs)
  each_apart Good P one two [] good pairs = tt
  each_apart Good P one two (x ∷ xs) good pairs =
      apart_both (puts_of x) (flat_map puts_of xs) (one x (All-head Good x xs good))
      (each_apart Good P one two xs (All-tail Good x xs good) (λ i j d below within. pairs (suc i) (suc j) d (omega arith) (omega arith)))
      (λ pv sector here there.
      let w = one_of xs x pv sector there in
      two x (get_or xs w.0 x) (All-head Good x xs good) (good (suc w.0) x (omega (arith, w.1)))
      (pairs 0 (suc w.0) x (omega arith) (omega (arith, w.1))) pv sector here w.2)

  -- what holds of the writes of each holds of all
  pub each_has : (P : Put → Type 0) (xs : List A) → All (λ (a : A). All P (puts_of a)) xs → All P (flat_map puts_of xs)
  each_has P [] h = All-nil P
  each_has P (x ∷ xs) h =
      All-append P (puts_of x) (flat_map puts_of xs) (All-head (λ (a : A). All P (puts_of a)) x xs h)
      (each_has P xs (All-tail (λ (a : A). All P (puts_of a)) x xs h))

-- a span covers sectors of its disk alone
disk_of_covered : (span : Span) (pv sector : ℕ) → covers span pv sector ≡ true → span.pv ≡ pv
disk_of_covered span pv sector is =
    let parts = and_parts (span.pv == pv && nat_le span.first sector) (nat_lt sector (span.first + span.count)) is in
    eqb-true span.pv pv (and_parts (span.pv == pv) (nat_le span.first sector) parts.0).0

-- the disk of what is written, where those of the writes are among these
pub disk_among : (disks : List ℕ) (puts : List Put) → All (λ (put : Put). IsAmong disks put.0.pv) puts → (pv sector : ℕ)
    → is_written puts pv sector ≡ true → IsAmong disks pv
disk_among disks [] on pv sector is = absurd (true≢false (sym is))
disk_among disks (put ∷ puts) on pv sector is =
    ⊎_elim
    (λ here. subst (IsAmong disks) (disk_of_covered put.0 pv sector here) (All-head (λ (p : Put). IsAmong disks p.0.pv) put puts on))
    (λ later. disk_among disks puts (All-tail (λ (p : Put). IsAmong disks p.0.pv) put puts on) pv sector later)
    (or_cases (covers put.0 pv sector) (is_written puts pv sector) is)

-- a batch of these writes that flushes these disks
pub can_run : (sizes : List ℕ) (puts : List Put) (disks : List ℕ) (batch : Batch) → writes_of batch ≡ puts → disks_of batch ≡ disks
    → 0 < length puts → 0 < length disks → LieIn sizes puts
    → All (λ (pv : ℕ). pv < length sizes) disks → ShareNoSector puts → All (λ (put : Put). IsAmong disks put.0.pv) puts → CanRun sizes batch
can_run sizes puts disks batch writes flushes some some_disk lie within apart on = record {
  writes = subst (λ (l : List Put). 0 < length l) (sym writes) some;
  flushes = subst (λ (l : List ℕ). 0 < length l) (sym flushes) some_disk;
  lie = subst (LieIn sizes) (sym writes) lie;
  disks = subst (All (λ (pv : ℕ). pv < length sizes)) (sym flushes) within;
  apart = subst ShareNoSector (sym writes) apart;
  flushed = λ pv sector is.
      subst (λ (l : List ℕ). IsAmong l pv) (sym flushes)
      (disk_among disks puts on pv sector (sym (ap (λ (l : List Put). is_written l pv sector) writes) ∙ is));
}
