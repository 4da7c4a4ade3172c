-- A row of disks in memory that was just made is one that a run can be handed.
use Rattle.std.proofs.Common.{◌≡◌, ◌≤◌, ◌<◌, ℕ, zero, suc, List, [], ◌∷◌, length, All, refl, sym, subst, arith}
use Rattle.std.specs.Prelude.{slice_index_or, ◌^◌}
use Rattle.std.proofs.lemmas.List.{length-map}
use Rattle.dev_shelf.specs.DiskRow.{lengths_of, new_state}
use Rattle.lvm_run.specs.Disks.{AreDisks}
use Rattle.lvm_rows.specs.Named.{IsSized}

length_at : (disks : List (List (List ℕ))) (pv : ℕ) → pv < length disks
    → slice_index_or (lengths_of disks) pv 0 ≡ length (slice_index_or disks pv [])
length_at [] pv lt = absurd (omega (arith, lt))
length_at (disk ∷ disks) zero lt = refl
length_at (disk ∷ disks) (suc pv) lt = length_at disks pv (omega (arith, lt))

pub new_disks : (disks : List (List (List ℕ))) → All IsSized disks → AreDisks (length disks) (new_state disks)
new_disks disks all = record {
  many = length-map disks _;
  least = λ pv lt. subst (λ (n : ℕ). 8 ≤ n) (sym (length_at disks pv lt)) (all pv [] lt).0;
  most = λ pv lt. subst (λ (n : ℕ). n ≤ 2 ^ 40) (sym (length_at disks pv lt)) (all pv [] lt).1;
  idle = refl;
}
