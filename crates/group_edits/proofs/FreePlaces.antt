-- Free extents lie beside every copy of a sector of a volume, its primary place among them.
use Rattle.std.proofs.Common.{◌≡◌, ◌≤◌, ◌<◌, ◌⊎◌, ℕ, ◌+◌, ◌*◌, ◌/◌, List, [], ◌∷◌, Some, None, inl, inr, sym, ap, subst, ◌∙◌, arith}
use Rattle.std.specs.Prelude.{slice_get, slice_index}
use Rattle.std.proofs.lemmas.Bool.{cases_lt}
use Rattle.std.proofs.lemmas.Nat.{div_below, le-div}
use Rattle.std.proofs.lemmas.Option.{same_Some, slice_get_within}
use Rattle.sector_base.specs.declared.places.At.{At}
use Rattle.meta_model.specs.declared.group.Group.{Group}
use Rattle.meta_model.specs.declared.pv.Pv.{Pv}
use Rattle.meta_model.specs.declared.segment.On.TheVariants as on
use Rattle.extent_alloc.specs.declared.part.PvRun.{PvRun}
use Rattle.volume_rules.specs.Legs.{IsUsed}
use Rattle.volume_rules.specs.Moving.{lv_number}
use Rattle.volume_rules.specs.Rules.{IsAccepted}
use Rattle.volume_rules.specs.declared.rule.Rule.TheVariants.{Numbers}
use Rattle.volume_view.specs.Copies.{HasCopyAt, sector_of}
use Rattle.volume_view.specs.InSegments.{Spot}
use Rattle.volume_view.specs.Places.{primary}
use Rattle.volume_view.specs.View.{DisksDiffer}
use Rattle.volume_view.proofs.GoingDown.{down_has_copy}
use Rattle.volume_view.proofs.OneAbove.{InRun, in_run}
use Rattle.group_edits.specs.GivenSegments.{IsFreeRun}

-- a place on a physical volume of the group, in an extent that a leg lies on
pub record IsUsedAt (group : Group) (at : At) : Type 0 where
  pub pv : List ℕ × Pv
  pub is_pv : slice_get group.pvs at.pv ≡ Some pv
  pub into : ℕ
  pub at_is : at.sector ≡ pv.1.pe_start + into
  pub used : IsUsed group (on.Pv at.pv) (into / group.extent_size)

lv_is_no_pv : (lv pv : ℕ) → on.Lv lv ≡ on.Pv pv → ⊥
lv_is_no_pv lv pv same = some (ap lv_number same) where
  some : Some lv ≡ None → ⊥
  some is = absurd cc

-- each copy is at such a place
pub copy_is_used : (group : Group) (lv sector : ℕ) (legs : List (ℕ × ℕ)) (at : At) → IsAccepted group
    → HasCopyAt group (sector_of lv sector) legs at → IsUsedAt group at
copy_is_used group lv sector [] at accepted copy = absurd (lv_is_no_pv lv at.pv (ap (λ (s : Spot). s.on) copy.lead))
copy_is_used group lv sector (leg ∷ legs) at accepted copy =
    let r : InRun group copy.lead.0 leg.0 leg.1 (record { on = on.Pv at.pv; sector = copy.into }) =
    in_run group copy.lead.0 copy.lead.1 leg.0 leg.1 (record { on = on.Pv at.pv; sector = copy.into }) accepted copy.lead.3
    in
    record { pv = copy.pv; is_pv = copy.is_pv; into = copy.into; at_is = copy.at_is; used = (r.run, r.contained, r.inside) }

-- so is each primary place
pub primary_is_used : (group : Group) (lv sector : ℕ) (at : At) → IsAccepted group → primary group lv sector ≡ Some at → IsUsedAt group at
unfolding primary
primary_is_used group lv sector at accepted is =
    let copy = down_has_copy group 5 (on.Lv lv) sector at is in
    copy_is_used group lv sector copy.0 at accepted copy.1

-- the sector is before or behind these extents of a physical volume
abbrev pub IsBesideRun : Group → PvRun → Pv → ℕ → Type 0
IsBesideRun group run pv sector =
    (sector < pv.pe_start + run.first * group.extent_size) ⊎ (pv.pe_start + (run.first + run.count) * group.extent_size ≤ sector)

module _ (group : Group) (accepted : IsAccepted group) (run : PvRun) (free : IsFreeRun group run) (pv : List ℕ × Pv)
    (is_pv : slice_get group.pvs run.pv ≡ Some pv) where
  -- what is used on the volume is beside free extents
  pub used_beside : (at : At) → IsUsedAt group at → at.pv ≡ run.pv → IsBesideRun group run pv.1 at.sector
  used_beside at used same =
      elim (cases_lt at.sector (pv.1.pe_start + run.first * group.extent_size)) [
        | inl before ↦ inl before
        | inr reached ↦
            elim (cases_lt at.sector (pv.1.pe_start + (run.first + run.count) * group.extent_size)) [
              | inl inside ↦ absurd (none reached inside)
              | inr behind ↦ inr behind
            ]
      ]
    where
      starts : used.pv.1.pe_start ≡ pv.1.pe_start
      starts = ap (λ (p : List ℕ × Pv). p.1.pe_start) (same_Some used.pv pv (sym used.is_pv ∙ ap (slice_get group.pvs) same ∙ is_pv))

      none : pv.1.pe_start + run.first * group.extent_size ≤ at.sector
          → at.sector < pv.1.pe_start + (run.first + run.count) * group.extent_size → ⊥
      none reached inside =
          let some : 0 < group.extent_size = (let least = (accepted Numbers).extent_size.0 in omega (arith, least)) in
          let low : run.first * group.extent_size ≤ used.into = omega (arith, reached, starts, used.at_is) in
          let high : used.into < (run.first + run.count) * group.extent_size = omega (arith, inside, starts, used.at_is) in
          (free (used.into / group.extent_size) (le-div run.first used.into group.extent_size some low)
          (div_below used.into group.extent_size (run.first + run.count) some high)).1
          (subst (λ (n : ℕ). IsUsed group (on.Pv n) (used.into / group.extent_size)) same used.used)

  -- so is each primary place there
  pub primary_beside : (lv sector : ℕ) (at : At) → primary group lv sector ≡ Some at → at.pv ≡ run.pv → IsBesideRun group run pv.1 at.sector
  primary_beside lv sector at is same = used_beside at (primary_is_used group lv sector at accepted is) same

  -- and each on its disk, where different physical volumes are on different disks
  pub primary_beside_on : (disk_of : List ℕ) → DisksDiffer group disk_of → (lv sector : ℕ) (at : At) → primary group lv sector ≡ Some at
      → slice_index disk_of at.pv ≡ slice_index disk_of run.pv → IsBesideRun group run pv.1 at.sector
  primary_beside_on disk_of differ lv sector at is same =
      let used : IsUsedAt group at = primary_is_used group lv sector at accepted is in
      used_beside at used (differ at.pv run.pv (slice_get_within group.pvs at.pv used.pv used.is_pv)
      (slice_get_within group.pvs run.pv pv is_pv) same)
