-- A batch that flushes the disks of its writes.
use Rattle.std.proofs.Common.{◌≡◌, ◌≢◌, ◌<◌, ℕ, Bool, true, ◌||◌, ◌==◌, List, [], ◌∷◌, length, get_or, ⊎_elim, sym, ap, subst, ◌∙◌, arith}
use Rattle.std.specs.Prelude.{All}
use Rattle.std.specs.Cmp.{nat_cmp_total, unsigned_tied}
use Rattle.std.specs.Ordering.{nat_cmp}
use Rattle.std.specs.FinSet.{FinSet, contains, contains-empty, contains-insert, empty, insert}
use Rattle.std.proofs.lemmas.Bool.{eqb-true, or_cases, true_from_ne_false, true≢false}
use Rattle.std.proofs.lemmas.List.{get_or-map, length-map}
use Rattle.std.proofs.lemmas.List.Elements.{All-from_recursion, All-head, All-map, All-tail}
use Rattle.disk_model.specs.InFlight.{IsAmong}
use Rattle.disk_batch.specs.InTurn.{CanRun, Put, ShareNoSector}
use Rattle.disk_batch.specs.Writes.{LieIn, disks_in}
use Rattle.disk_batch.specs.declared.batch.Batch.{Batch}
use Rattle.disk_batch.proofs.DisksOfSet.{among_disks, disks_have, some_disk}
use Rattle.disk_batch.proofs.WritesApart.{can_run}
use Rattle.group_plan.specs.Judging.{set_of, with_all}
use Rattle.group_plan.proofs.Passed.{absent}
use Rattle.change_batches.specs.Building.{Is, IsOnFew, disks_written}

-- what holds of a set and of further numbers holds of the set with them
only_in : (P : ℕ → Type 0) (numbers : List ℕ) (taken : FinSet nat_cmp) → ((pv : ℕ) → contains taken pv ≡ true → P pv) → All P numbers
    → (pv : ℕ) → contains (with_all taken numbers) pv ≡ true → P pv
only_in P [] taken old all pv is = old pv is
only_in P (n ∷ numbers) taken old all pv is =
    only_in P numbers (insert taken n)
    (λ q there.
    ⊎_elim
    (λ same. subst P (sym (eqb-true q n same)) (All-head P n numbers all))
    (λ before. old q before)
    (or_cases (q == n) (contains taken q) (sym
    (contains-insert nat_cmp_total taken n q ∙ ap (λ (t : Bool). t || contains taken q) (unsigned_tied q n)) ∙ there)))
    (All-tail P n numbers all) pv is

-- what holds of all numbers holds of each of their set
pub set_has : (P : ℕ → Type 0) (numbers : List ℕ) → All P numbers → All P (disks_in (set_of numbers))
set_has P numbers all =
    disks_have (set_of numbers) P (λ pv is. only_in P numbers empty (λ q none. absurd (true≢false (sym none ∙ contains-empty nat_cmp q)))
    all pv is)

-- the disk of a write is in the set
disk_in : (puts : List Put) → All (λ (put : Put). contains (set_of (disks_written puts)) put.0.pv ≡ true) puts
disk_in puts k d within =
    let pv : ℕ = (get_or puts k d).0.pv in
    true_from_ne_false (contains (set_of (disks_written puts)) pv)
    (λ no.
    All-from_recursion (λ (n : ℕ). n ≢ pv) (disks_written puts) (absent empty (disks_written puts) pv no).1 k d.0.pv
    (omega (arith, within, length-map puts (λ (put : Put). put.0.pv)))
    (get_or-map (λ (put : Put). put.0.pv) puts k d d.0.pv within))

disk_flushed : (puts : List Put) → All IsOnFew puts → All (λ (put : Put). IsAmong (disks_in (set_of (disks_written puts))) put.0.pv) puts
disk_flushed puts few k d within =
    among_disks (set_of (disks_written puts)) (get_or puts k d).0.pv (few k d within) (disk_in puts k d within)

some_flushed : (put : Put) (puts : List Put) → All IsOnFew (put ∷ puts) → 0 < length (disks_in (set_of (disks_written (put ∷ puts))))
some_flushed put puts few =
    some_disk (set_of (disks_written (put ∷ puts))) put.0.pv (few 0 put (omega arith)) (disk_in (put ∷ puts) 0 put (omega arith))

pub flushes_some : (puts : List Put) (disks : FinSet nat_cmp) → 0 < length puts → All IsOnFew puts → disks ≡ set_of (disks_written puts)
    → 0 < length (disks_in disks)
flushes_some [] disks some few is = absurd (omega (arith, some))
flushes_some (put ∷ puts) disks some few is = subst (λ (s : FinSet nat_cmp). 0 < length (disks_in s)) (sym is) (some_flushed put puts few)

-- writes for one batch
pub record AreApart (sizes : List ℕ) (puts : List Put) : Type 0 where
  pub few : All IsOnFew puts
  pub lie : LieIn sizes puts
  pub apart : ShareNoSector puts

-- and so it can run
pub runs : (sizes : List ℕ) (put : Put) (puts : List Put) (batch : Batch) → AreApart sizes (put ∷ puts)
    → Is (put ∷ puts) (set_of (disks_written (put ∷ puts))) batch → CanRun sizes batch
runs sizes put puts batch are is =
    can_run sizes (put ∷ puts) (disks_in (set_of (disks_written (put ∷ puts)))) batch is.writes is.flushes (omega arith)
    (some_flushed put puts are.few) are.lie
    (set_has (λ (pv : ℕ). pv < length sizes) (disks_written (put ∷ puts))
    (All-map (λ (pv : ℕ). pv < length sizes) (λ (p : Put). p.0.pv) (put ∷ puts) (λ k d within. (are.lie k d within).disk)))
    are.apart (disk_flushed (put ∷ puts) are.few)
