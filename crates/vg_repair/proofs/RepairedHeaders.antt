-- The header of a disk once a repair is done.
use Rattle.std.proofs.Common.{◌≡◌, ℕ, Bool, true, false, cond, refl}
use Rattle.std.specs.Ordering.{nat_cmp}
use Rattle.std.specs.FinSet as set
use Rattle.pv_header.specs.declared.header.PvHeader.{PvHeader}
use Rattle.group_plan.specs.Marks.{unused, used}
use Rattle.vg_repair.specs.Repaired.{repaired_header}

module _ (strays old : set.FinSet nat_cmp) (disk : ℕ) (header : PvHeader) where
  -- what holds of it in each case: a stray's, an old one, and another
  pub by_header : (P : PvHeader → Type 0) → (set.contains strays disk ≡ true → P (unused header))
      → (set.contains strays disk ≡ false → set.contains old disk ≡ true → P (used header))
      → (set.contains strays disk ≡ false → set.contains old disk ≡ false → P header) → P (repaired_header strays old disk header)
  by_header P stray was plain = by (set.contains strays disk) (set.contains old disk) refl refl
    where
      by : (a b : Bool) → set.contains strays disk ≡ a → set.contains old disk ≡ b
          → P (cond a (unused header) (cond b (used header) header))
      by true b is_stray is_old = stray is_stray
      by false true is_stray is_old = was is_stray is_old
      by false false is_stray is_old = plain is_stray is_old

  -- its id and its metadata areas stay
  pub same_id : header.id ≡ (repaired_header strays old disk header).id
  same_id = by_header (λ h. header.id ≡ h.id) (λ stray. refl) (λ stray was. refl) (λ stray was. refl)

  pub same_areas : header.areas ≡ (repaired_header strays old disk header).areas
  same_areas = by_header (λ h. header.areas ≡ h.areas) (λ stray. refl) (λ stray was. refl) (λ stray was. refl)
