-- Marks of disks by number.
use Rattle.std.proofs.Common.{◌≡◌, ◌<◌, ◌⊎◌, ℕ, ◌+◌, zero, suc, Bool, true, false, true≢false, List, [], ◌∷◌, length, refl, sym, arith, inl}
use Rattle.std.proofs.Common.{inr}
use Rattle.std.specs.Prelude.{slice_get}
use Rattle.std.specs.Bool.{MatchBool}
use Rattle.std.specs.Option.{option_map_or}
use Rattle.vg_found.specs.declared.disk.Disk.{Disk}
use Rattle.disk_use.specs.Unlisted.{is_marked_disk}

pub below_or_at : (pv at : ℕ) → pv < at + 1 → (pv < at) ⊎ (at ≡ pv)
below_or_at zero zero lt = inr refl
below_or_at zero (suc at) lt = inl (omega arith)
below_or_at (suc pv) zero lt = absurd (omega (arith, lt))
below_or_at (suc pv) (suc at) lt = more (below_or_at pv at (omega (arith, lt))) where
  more : (pv < at) ⊎ (at ≡ pv) → (suc pv < suc at) ⊎ (suc at ≡ suc pv)
  more (inl less) = inl (omega (arith, less))
  more (inr same) = inr (λ i. suc (same i))

pub at_false : (A B : Type 0) (test : Bool) → test ≡ false → MatchBool test A B → B
at_false A B true is both = absurd (true≢false is)
at_false A B false is both = both

-- a disk that is marked is one of those that were scanned
pub marked_below : (disks : List Disk) (pv : ℕ) → option_map_or is_marked_disk (slice_get disks pv) false ≡ true → pv < length disks
marked_below [] pv marked = absurd (true≢false (sym marked))
marked_below (d ∷ disks) zero marked = omega arith
marked_below (d ∷ disks) (suc pv) marked = let less : pv < length disks = marked_below disks pv marked in omega (arith, less)
