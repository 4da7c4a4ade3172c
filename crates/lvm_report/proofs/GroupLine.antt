-- What a group that keeps the rules says of its physical volumes.
use Rattle.std.proofs.Common.{◌≡◌, ℕ, ◌<◌, ◌≤◌, ◌^◌, List, length, Option, Some, inl, inr, ap, arith}
use Rattle.std.specs.Prelude.{slice_get, option_map, unwrap_or}
use Rattle.std.proofs.lemmas.Option.{slice_get_cases}
use Rattle.meta_model.specs.declared.group.Group.{Group}
use Rattle.meta_model.specs.declared.pv.Pv.{Pv}
use Rattle.volume_rules.specs.Rules.{IsAccepted, PvIsSmall}
use Rattle.volume_rules.specs.declared.rule.Rule.TheVariants.{Numbers, Volumes}
use Rattle.extent_map.specs.FreeCount.{all_extents, free_extents}
use Rattle.list_laws.proofs.RowWalks.{all_at}

-- they are few, and each has few extents
pub pvs_are_few : (group : Group) → IsAccepted group → length group.pvs ≤ 64
pvs_are_few group accepted = (accepted Volumes).pvs.1

pub extents_are_few : (group : Group) (pv : ℕ) (row : List ℕ × Pv) → IsAccepted group → slice_get group.pvs pv ≡ Some row
    → row.1.pe_count < 2 ^ 48
extents_are_few group pv row accepted here =
    (all_at (λ (some : List ℕ × Pv). PvIsSmall some.1) group.pvs pv row (accepted Numbers).pvs here).2

abbrev pub count_in : Option (List ℕ × Pv) → ℕ
count_in found = unwrap_or (option_map (λ (row : List ℕ × Pv). row.1.pe_count) found) 0

-- fewer are free
pub free_are_few : (group : Group) (pv : ℕ) → IsAccepted group → free_extents group pv < 2 ^ 48
free_are_few group pv accepted =
    elim (slice_get_cases group.pvs pv).1 [
      | inl some ↦
          let all : all_extents group pv ≡ some.0.1.pe_count = ap count_in some.2 in
          omega (arith, all, extents_are_few group pv some.0 accepted some.2)
      | inr none ↦
          let all : all_extents group pv ≡ 0 = ap count_in none.1 in
          omega (arith, all)
    ]
