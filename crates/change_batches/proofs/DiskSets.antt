-- What holds of each listed disk holds of each of their set.
use Rattle.std.proofs.Common.{◌≡◌, ℕ, Bool, true, false, ◌||◌, ◌==◌, List, [], ◌∷◌, refl, sym, ap, subst, ◌∙◌}
use Rattle.std.specs.Prelude.{All}
use Rattle.std.specs.List.{AllByRecursion as Each}
use Rattle.std.specs.FinSet as set
use Rattle.std.specs.Cmp.{nat_cmp_total, unsigned_tied}
use Rattle.std.specs.Ordering.{nat_cmp}
use Rattle.std.proofs.lemmas.Bool.{eqb-true, true≢false}
use Rattle.std.proofs.lemmas.List.Elements.{recursion_from_All}
use Rattle.disk_batch.proofs.DisksOfSet.{disks_have}
use Rattle.disk_batch.specs.Writes.{disks_in}
use Rattle.group_plan.specs.Judging.{set_of, with_all}

module _ (P : ℕ → Type 0) where
  of_one : (taken : set.FinSet nat_cmp) (n q : ℕ) (b : Bool) → (q == n) ≡ b → (b || set.contains taken q) ≡ true → P n
      → (set.contains taken q ≡ true → P q) → P q
  of_one taken n q true same has own old = subst P (sym (eqb-true q n same)) own
  of_one taken n q false same has own old = old has

  of_all : (taken : set.FinSet nat_cmp) (numbers : List ℕ) (q : ℕ) → Each P numbers → (set.contains taken q ≡ true → P q)
      → set.contains (with_all taken numbers) q ≡ true → P q
  of_all taken [] q all old has = old has
  of_all taken (n ∷ numbers) q all old has =
      of_all (set.insert taken n) numbers q all.1
      (λ here. of_one taken n q (q == n) refl (ap (λ (b : Bool). b || set.contains taken q) (sym (unsigned_tied q n))
      ∙ sym (set.contains-insert nat_cmp_total taken n q) ∙ here) all.0 old)
      has

  pub of_set : (numbers : List ℕ) → All P numbers → (q : ℕ) → set.contains (set_of numbers) q ≡ true → P q
  of_set numbers all q has =
      of_all set.empty numbers q (recursion_from_All P numbers all) (λ here. absurd (true≢false (sym here ∙ set.contains-empty nat_cmp q)))
      has

  pub of_disks : (numbers : List ℕ) → All P numbers → All P (disks_in (set_of numbers))
  of_disks numbers all = disks_have (set_of numbers) P (of_set numbers all)
