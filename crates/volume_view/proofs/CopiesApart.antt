-- Two sectors in no leg have no copy at the same place.
use Rattle.std.proofs.Common.{◌≡◌, ℕ, ◌/◌, List, [], ◌∷◌, refl, sym, ap, subst, ◌∙◌, arith}
use Rattle.std.proofs.lemmas.Option.{same_Some}
use Rattle.sector_base.specs.declared.places.At.{At}
use Rattle.meta_model.specs.declared.group.Group.{Group}
use Rattle.meta_model.specs.declared.pv.Pv.{Pv}
use Rattle.meta_model.specs.declared.segment.On.{On}
use Rattle.meta_model.specs.declared.segment.On.TheVariants as on
use Rattle.volume_rules.specs.Legs.{IsUsed}
use Rattle.volume_rules.specs.Rules.{IsAccepted}
use Rattle.volume_view.specs.InSegments.{Spot}
use Rattle.volume_view.specs.Copies.{StandsAt, Leads, HasCopyAt}
use Rattle.volume_view.proofs.OneAbove.{InRun, in_run, SameAbove, one_above}

-- a sector that lies in a leg
used_below : (group : Group) (lv sector segment leg : ℕ) (spot : Spot) → IsAccepted group → StandsAt group lv sector segment leg spot
    → IsUsed group spot.on (spot.sector / group.extent_size)
used_below group lv sector segment leg spot accepted stands =
    let r : InRun group lv segment leg spot = in_run group lv sector segment leg spot accepted stands in
    (r.run, r.contained, r.inside)

-- the sector lies in no leg
abbrev pub IsFree : Group → Spot → Type 0
IsFree group spot = IsUsed group spot.on (spot.sector / group.extent_size) → ⊥

-- one sector and one way
abbrev pub SameWay : Spot → Spot → List (ℕ × ℕ) → List (ℕ × ℕ) → Type 0
SameWay s s' legs legs' = (s ≡ s') × (legs ≡ legs')

-- two ways to one spot, from sectors that lie in no leg, are one
pub one_way : (group : Group) (legs legs' : List (ℕ × ℕ)) (s s' t : Spot) → IsAccepted group → IsFree group s → IsFree group s'
    → Leads group legs s t → Leads group legs' s' t → SameWay s s' legs legs'
one_way group [] [] s s' t accepted free free' here there = (here ∙ sym there, refl)
one_way group [] (leg' ∷ legs') s s' t accepted free free' here there =
    absurd (free (subst (λ (x : Spot). IsUsed group x.on (x.sector / group.extent_size)) (sym here)
    (used_below group there.0 there.1 leg'.0 leg'.1 t accepted there.3)))
one_way group (leg ∷ legs) [] s s' t accepted free free' here there =
    absurd (free' (subst (λ (x : Spot). IsUsed group x.on (x.sector / group.extent_size)) (sym there)
    (used_below group here.0 here.1 leg.0 leg.1 t accepted here.3)))
one_way group (leg ∷ legs) (leg' ∷ legs') s s' t accepted free free' here there =
    let same : SameAbove here.0 there.0 here.1 there.1 leg.0 leg'.0 leg.1 leg'.1 =
    one_above group here.0 there.0 here.1 there.1 leg.0 leg'.0 leg.1 leg'.1 t accepted here.3 there.3 in
    let spot : ℕ → ℕ → Spot = λ lv sector. record { on = on.Lv lv; sector = sector } in
    let above : spot here.0 here.1 ≡ spot there.0 there.1 =
    ap (λ (n : ℕ). spot n here.1) same.lv_is ∙ ap (λ (n : ℕ). spot there.0 n) same.sector_is in
    let rest : SameWay s s' legs legs' =
    one_way group legs legs' s s' (spot there.0 there.1) accepted free free' (subst (Leads group legs s) above here.2) there.2 in
    let pair : ℕ → ℕ → ℕ × ℕ = λ a b. (a, b) in
    let first : pair leg.0 leg.1 ≡ pair leg'.0 leg'.1 = ap (λ (n : ℕ). pair n leg.1) same.segment_is ∙ ap (pair leg'.0) same.leg_is in
    (rest.0, ap (λ (l : ℕ × ℕ). l ∷ legs) first ∙ ap (λ (l : List (ℕ × ℕ)). leg' ∷ l) rest.1)

-- a place is that of one sector, by one way
pub copies_apart : (group : Group) (s s' : Spot) (legs legs' : List (ℕ × ℕ)) (at : At) → IsAccepted group → IsFree group s → IsFree group s'
    → HasCopyAt group s legs at → HasCopyAt group s' legs' at → SameWay s s' legs legs'
copies_apart group s s' legs legs' at accepted free free' here there =
    let pv : here.pv ≡ there.pv = same_Some here.pv there.pv (sym here.is_pv ∙ there.is_pv) in
    let start : here.pv.1.pe_start ≡ there.pv.1.pe_start = ap (λ (p : List ℕ × Pv). p.1.pe_start) pv in
    let into : here.into ≡ there.into = omega (arith, here.at_is, there.at_is) in
    let low : ℕ → Spot = λ n. record { on = on.Pv at.pv; sector = n } in
    one_way group legs legs' s s' (low there.into) accepted free free' (subst (λ (n : ℕ). Leads group legs s (low n)) into here.lead)
    there.lead

-- one volume, by what its legs lie on
pub same_number : (lv lv' : ℕ) → ◌≡◌ {A = On} (on.Lv lv) (on.Lv lv') → lv ≡ lv'
same_number lv lv' same = cc
