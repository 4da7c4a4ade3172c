-- Primary places lie in the extents of physical volumes.
use Rattle.std.proofs.Common.{◌≡◌, ◌<◌, ℕ, zero, suc, ◌+◌, ◌*◌, List, Option, Some, refl, sym, ap, subst, ◌∙◌, arith}
use Rattle.std.specs.Prelude.{option_map, slice_get}
use Rattle.std.proofs.lemmas.Option.{same_Some}
use Rattle.sector_base.specs.declared.places.At.{At}
use Rattle.meta_model.specs.declared.group.Group.{Group}
use Rattle.meta_model.specs.declared.pv.Pv.{Pv}
use Rattle.meta_model.specs.declared.segment.On.{On}
use Rattle.meta_model.specs.declared.segment.On.TheVariants as on
use Rattle.volume_rules.specs.Rules.{IsAccepted}
use Rattle.volume_view.specs.InExtents.{IsInExtents}
use Rattle.volume_view.specs.InSegments.{Spot, offset_in, primary_leg, spot_in}
use Rattle.volume_view.specs.Places.{down, primary}
use Rattle.volume_view.proofs.GoingDown.{GoesDown, goes_down}
use Rattle.volume_view.proofs.MetSegments.{ByLeg, Meets, by_leg, meets_is}
use Rattle.volume_view.proofs.PrimariesStand.{LeadsOn, ToLv, ToPv, leads_on}

on_pv : (group : Group) (number sector : ℕ) (pv : List ℕ × Pv) (steps : ℕ) (at : At) → slice_get group.pvs number ≡ Some pv
    → sector < pv.1.pe_count * group.extent_size → down group (on.Pv number) steps sector ≡ Some at → IsInExtents group at
on_pv group number sector pv steps at is less goes =
    let place : At = record { pv = number; sector = pv.1.pe_start + sector } in
    let same : place ≡ at =
    same_Some place at
    (sym (ap (λ (o : Option (List ℕ × Pv)). option_map (λ (p : List ℕ × Pv). record { pv = number; sector = p.1.pe_start + sector }) o) is)
    ∙ goes)
    in
    subst (IsInExtents group) same (record { pv = pv; is_pv = is; from = omega arith; to = omega (arith, less) })

in_extents : (group : Group) → IsAccepted group → (steps lv sector : ℕ) (at : At) → down group (on.Lv lv) steps sector ≡ Some at
    → IsInExtents group at
in_extents group accepted zero lv sector at goes = absurd cc
in_extents group accepted (suc steps) lv sector at goes =
    let d : GoesDown group lv sector steps at = goes_down group lv sector steps at goes in
    let l : ByLeg group d.m (primary_leg d.m.segment.count d.m.segment.kind d.m.at) d.spot =
    by_leg group d.m (primary_leg d.m.segment.count d.m.segment.kind d.m.at) d.spot d.is_spot in
    let meets : Meets group lv sector d.m = meets_is group lv sector d.m d.meets in
    let leads : LeadsOn group lv (spot_in group.extent_size (offset_in d.m.segment.kind d.m.at) l.it) =
    leads_on group lv sector d.m (primary_leg d.m.segment.count d.m.segment.kind d.m.at) l.it accepted meets l.is_leg in
    by d.spot (subst (LeadsOn group lv) (λ i. record { on = l.on i; sector = l.at i }) leads) d.rest
    (λ number below here. in_extents group accepted steps number below at here)
  where
    by : (spot : Spot) → LeadsOn group lv spot → down group spot.on steps spot.sector ≡ Some at
        → ((number below : ℕ) → down group (on.Lv number) steps below ≡ Some at → IsInExtents group at) → IsInExtents group at
    by spot (ToPv number pv is_on is less) rest below =
        on_pv group number spot.sector pv steps at is less (ap (λ (o : On). down group o steps spot.sector) (sym is_on) ∙ rest)
    by spot (ToLv number volume is_on is less lies) rest below =
        below number spot.sector (ap (λ (o : On). down group o steps spot.sector) (sym is_on) ∙ rest)

pub primary_in_extents : (group : Group) → IsAccepted group → (lv sector : ℕ) (at : At) → primary group lv sector ≡ Some at
    → IsInExtents group at
unfolding primary
primary_in_extents group accepted lv sector at is = in_extents group accepted 5 lv sector at is
