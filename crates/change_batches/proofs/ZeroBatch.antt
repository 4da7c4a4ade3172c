-- The batch of the zeros of a change.
use Rattle.std.proofs.Common.{◌≡◌, ◌≤◌, ◌<◌, ℕ, zero, suc, ◌+◌, List, [], ◌∷◌, length, map, Some, sym, ap, subst, ◌∙◌, refl, arith}
use Rattle.std.specs.Prelude.{All, replicate, slice_get, slice_index_or}
use Rattle.std.proofs.lemmas.List.Elements.{All-from_recursion, All-map, All-nil}
use Rattle.std.proofs.lemmas.List.{length-map, length-replicate}
use Rattle.std.proofs.lemmas.Option.{same_Some}
use Rattle.sector_base.specs.declared.spans.Span.{Span}
use Rattle.disk_model.specs.Operations.{Fills}
use Rattle.disk_batch.specs.Batches.{writes_of}
use Rattle.disk_batch.specs.InTurn.{CanRun, Put}
use Rattle.disk_batch.specs.declared.batch.Batch.{Batch}
use Rattle.vg_found.specs.declared.disk.Disk.{Disk}
use Rattle.group_plan.specs.Zeroing.{AreWithin}
use Rattle.change_batches.specs.Sound.{sizes_of, ZeroesLieOn}
use Rattle.change_batches.specs.Batches.{batch_if, zero_put}
use Rattle.change_batches.specs.Building.{IsAdded, IsOnFew}
use Rattle.change_batches.proofs.Adding.{added_run, added_writes}

pub zeros_few : (wanted : List Span) → All (λ (span : Span). span.pv < 64) wanted → All IsOnFew (map zero_put wanted)
zeros_few wanted few = All-map IsOnFew zero_put wanted few

module _ (wanted spans : List Span) (puts : List Put) (old new : List Batch) (same : spans ≡ wanted) (are : puts ≡ map zero_put spans)
    (empty : old ≡ []) (added : IsAdded puts old new) where
  zeros_added : IsAdded (map zero_put wanted) [] new
  zeros_added =
      subst (λ (l : List Batch). IsAdded (map zero_put wanted) l new) empty
      (subst (λ (l : List Put). IsAdded l old new) (are ∙ ap (map zero_put) same) added)

  pub zeros_written : map writes_of new ≡ batch_if (map zero_put wanted)
  zeros_written = added_writes (map zero_put wanted) [] new zeros_added

  pub zeros_run : All (λ (span : Span). span.pv < 64) wanted → (sizes : List ℕ) → ZeroesLieOn sizes wanted → All (CanRun sizes) new
  zeros_run few sizes lie =
      added_run sizes (map zero_put wanted) [] new zeros_added (record { few = zeros_few wanted few; lie = lie.lie; apart = lie.apart })
      (All-nil (CanRun sizes))

-- ---- as a plan gives them

module _ (disks : List Disk) (few : length disks ≤ 64) where
  at_length : (xs : List Disk) (n : ℕ) (disk : Disk) → slice_get xs n ≡ Some disk
      → (n < length xs) × (slice_index_or (sizes_of xs) n 0 ≡ disk.sectors)
  at_length [] n disk there = absurd cc
  at_length (x ∷ xs) zero disk there = (omega arith, ap (λ (d : Disk). d.sectors) (same_Some x disk there))
  at_length (x ∷ xs) (suc n) disk there = let later = at_length xs n disk there in let less = later.0 in (omega (arith, less), later.1)

  pub planned_few : (spans : List Span) → AreWithin disks spans → All (λ (span : Span). span.pv < 64) spans
  planned_few [] within = All-nil (λ (span : Span). span.pv < 64)
  planned_few (span ∷ []) within =
      let less = (at_length disks span.pv within.disk within.there).0 in All-from_recursion (λ (s : Span). s.pv < 64) (span ∷ [])
      (omega (arith, less, few), tt)
  planned_few (span ∷ next ∷ more) within = absurd within

  pub planned_lie : (spans : List Span) → AreWithin disks spans → ZeroesLieOn (sizes_of disks) spans
  planned_lie [] within = record { lie = All-nil (λ (put : Put). Fills (sizes_of disks) put.0 put.1); apart = tt }
  planned_lie (span ∷ []) within =
      let at = at_length disks span.pv within.disk within.there in
      let less = at.0 in
      let ends = within.within in
      record {
        lie = All-from_recursion (λ (put : Put). Fills (sizes_of disks) put.0 put.1) (zero_put span ∷ []) (
          record {
            disk = subst (λ (n : ℕ). span.pv < n) (sym (length-map disks (λ (d : Disk). d.sectors))) less;
            within = subst (λ (n : ℕ). span.first + span.count ≤ n) (sym at.1) ends;
            buffer = length-replicate span.count (replicate 512 0);
          },
          tt,
        );
        apart = (λ pv sector covered. refl, tt);
      }
  planned_lie (span ∷ next ∷ more) within = absurd within
