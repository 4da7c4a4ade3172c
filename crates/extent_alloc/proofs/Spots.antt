-- Where the extents of legs lie: no two of them at one place, and each where the request may have it.
use Rattle.std.proofs.Common.{◌≡◌, ℕ, ◌+◌, ◌-◌, ◌<◌, ◌≤◌, ◌^◌, ◌≢◌, ◌⊎◌, List, [], ◌∷◌, inl, inr, refl, sym, ap, subst, ◌∙◌, arith, IsTrue}
use Rattle.std.specs.List.{AllByRecursion}
use Rattle.std.proofs.lemmas.Bool.{cases_lt, cases_order}
use Rattle.meta_model.specs.declared.group.Group.{Group}
use Rattle.extent_map.specs.FreeRuns.{IsFree}
use Rattle.extent_alloc.specs.Free.{total}
use Rattle.extent_alloc.specs.Giving.{LieApart, LiesAt}
use Rattle.extent_alloc.specs.Usable.{is_usable}
use Rattle.extent_alloc.specs.declared.part.PvRun.{PvRun}
use Rattle.extent_alloc.specs.declared.request.Request.{Request}
use Rattle.extent_alloc.proofs.LaidParts.{spot, spot_here, spot_later, total_cons}
use Rattle.list_laws.proofs.Pairs.{Pairs}

-- one of the runs has the spot
abbrev HasSpot : List PvRun → ℕ × ℕ → Type 0
HasSpot [] at = ⊥
HasSpot (run ∷ runs) at = LiesAt at.0 at.1 run ⊎ HasSpot runs at

in_run : (run : PvRun) (runs : List PvRun) (n : ℕ) → n < run.count → LiesAt (spot (run ∷ runs) n).0 (spot (run ∷ runs) n).1 run
in_run run runs n lt = subst (λ (s : ℕ × ℕ). LiesAt s.0 s.1 run) (sym (spot_here run runs n lt)) (refl, omega arith, omega (arith, lt))

has_spot : (runs : List PvRun) (n : ℕ) → n < total runs → HasSpot runs (spot runs n)
has_spot [] n lt = absurd (omega (arith, lt))
has_spot (run ∷ runs) n lt =
    elim (cases_lt n run.count) [
      | inl here ↦ inl (in_run run runs n here)
      | inr later ↦ inr (subst (HasSpot runs) (sym (spot_later run runs n later))
          (has_spot runs (n - run.count) (omega (arith, lt, later, total_cons run runs))))
    ]

-- what holds of each extent of each run holds of each spot
pub each_spot : (P : ℕ → ℕ → Type 0) (runs : List PvRun) (n : ℕ) → n < total runs
    → AllByRecursion (λ (run : PvRun). (extent : ℕ) → run.first ≤ extent → extent < run.first + run.count → P run.pv extent) runs
    → P (spot runs n).0 (spot runs n).1
each_spot P [] n lt all = absurd (omega (arith, lt))
each_spot P (run ∷ runs) n lt all =
    elim (cases_lt n run.count) [
      | inl here ↦ subst (λ (s : ℕ × ℕ). P s.0 s.1) (sym (spot_here run runs n here))
          (all.0 (run.first + n) (omega arith) (omega (arith, here)))
      | inr later ↦ subst (λ (s : ℕ × ℕ). P s.0 s.1) (sym (spot_later run runs n later))
          (each_spot P runs (n - run.count) (omega (arith, lt, later, total_cons run runs)) all.1)
    ]

-- a run that lies apart from others has none of their spots
misses : (run : PvRun) (runs : List PvRun) (at : ℕ × ℕ) → AllByRecursion (LieApart run) runs → LiesAt at.0 at.1 run → HasSpot runs at → ⊥
misses run [] at apart here none = none
misses run (other ∷ runs) at apart here (inl there) = apart.0 at.0 at.1 here there
misses run (other ∷ runs) at apart here (inr later) = misses run runs at apart.1 here later

-- so two extents of a leg have two spots
spots_below : (runs : List PvRun) (m n : ℕ) → Pairs LieApart runs → m < n → n < total runs → spot runs m ≡ spot runs n → ⊥
spots_below [] m n apart less lt same = omega (arith, lt)
spots_below (run ∷ runs) m n apart less lt same =
    elim (cases_lt n run.count) [
      | inl here ↦
          let both : run.first + m ≡ run.first + n =
          ap (λ (s : ℕ × ℕ). s.1) (sym (spot_here run runs m (omega (arith, less, here))) ∙ same ∙ spot_here run runs n here) in
          omega (arith, less)
      | inr there ↦
          let later : spot (run ∷ runs) n ≡ spot runs (n - run.count) = spot_later run runs n there in
          elim (cases_lt m run.count) [
            | inl before ↦
                misses run runs (spot (run ∷ runs) m) apart.0 (in_run run runs m before)
                (subst (HasSpot runs) (sym (same ∙ later)) (has_spot runs (n - run.count) (omega (arith, lt, there, total_cons run runs))))
            | inr behind ↦
                spots_below runs (m - run.count) (n - run.count) apart.1 (omega (arith, less, behind))
                (omega (arith, lt, there, total_cons run runs)) (sym (spot_later run runs m behind) ∙ same ∙ later)
          ]
    ]

pub spots_differ : (runs : List PvRun) (m n : ℕ) → Pairs LieApart runs → m < total runs → n < total runs → m ≢ n → spot runs m ≢ spot runs n
spots_differ runs m n apart lt lt' differ same =
    elim (cases_order m n) [
      | inl is ↦ differ is
      | inr rest ↦ elim rest [
        | inl less ↦ spots_below runs m n apart less lt' same
        | inr more ↦ spots_below runs n m apart more lt
            (sym same)
      ]
    ]

-- the first so many extents of a leg lie where the request may have them, each at a place of its own
pub record IsLeg (group : Group) (want : Request) (extents : ℕ) (leg : List PvRun) : Type 0 where
  pub fine : (n : ℕ) → n < extents → IsTrue (is_usable group want (spot leg n).0) × IsFree group (spot leg n).0 (spot leg n).1
  pub apart : (m n : ℕ) → m < extents → n < extents → m ≢ n → spot leg m ≢ spot leg n
  pub small : (n : ℕ) → n < extents → (spot leg n).1 < 2 ^ 48

-- no extent of the one leg lies where one of the other does
abbrev pub NeverMeet : ℕ → List PvRun → List PvRun → Type 0
NeverMeet extents a b = (m n : ℕ) → m < extents → n < extents → spot a m ≢ spot b n
