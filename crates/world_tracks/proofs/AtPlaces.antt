-- A sector is at a place of a volume, or beside them all.
use Rattle.std.proofs.Common.{◌≡◌, ◌⊎◌, ℕ, zero, suc, List, [], ◌∷◌, Some, inl, inr, ⊎_elim, slice_get, ap, ◌∙◌}
use Rattle.std.proofs.lemmas.Bool.Decides.{eqb_tells}
use Rattle.std.proofs.lemmas.Option.{same_Some}
use Rattle.volume_history.specs.Placed.{Place, PlacedVolume}
use Rattle.world_history.specs.Shown.{places_keyed}

-- the sector has this place
pub record IsAtPlace (vs : List PlacedVolume) (place : Place) : Type 0 where
  pub key : ℕ
  pub x : ℕ
  pub there : slice_get (places_keyed vs key) x ≡ Some place

-- none has
abbrev pub IsBesideThese : List PlacedVolume → Place → Type 0
IsBesideThese vs place = (key x : ℕ) (p : Place) → slice_get (places_keyed vs key) x ≡ Some p → p ≡ place → ⊥

same_or_other : (p q : Place) → (p ≡ q) ⊎ (p ≡ q → ⊥)
same_or_other p q =
    ⊎_elim
    (λ disk. ⊎_elim (λ sector. inl (λ i. record { disk = disk.1 i; sector = sector.1 i }))
    (λ other. inr (λ e. other.1 (ap (λ (r : Place). r.sector) e))) (eqb_tells p.sector q.sector))
    (λ other. inr (λ e. other.1 (ap (λ (r : Place). r.disk) e)))
    (eqb_tells p.disk q.disk)

-- it is among these places, or none of them
abbrev IsIn : List Place → Place → Type 0
IsIn ps place = (x : ℕ) × (slice_get ps x ≡ Some place)

abbrev IsOut : List Place → Place → Type 0
IsOut ps place = (x : ℕ) (p : Place) → slice_get ps x ≡ Some p → p ≡ place → ⊥

in_places : (ps : List Place) (place : Place) → IsIn ps place ⊎ IsOut ps place
in_places [] place = inr none where
  none : IsOut [] place
  none x p at e = absurd cc
in_places (q ∷ ps) place =
    ⊎_elim (λ e. inl (0, ap Some e))
    (λ other. ⊎_elim (λ (h : IsIn ps place). inl (suc h.0, h.1)) (λ (out : IsOut ps place). inr (later other out)) (in_places ps place))
    (same_or_other q place)
  where
    later : (q ≡ place → ⊥) → IsOut ps place → IsOut (q ∷ ps) place
    later other out zero p at e = other (same_Some q p at ∙ e)
    later other out (suc x) p at e = out x p at e

pub at_or_beside : (vs : List PlacedVolume) (place : Place) → IsAtPlace vs place ⊎ IsBesideThese vs place
at_or_beside [] place = inr none where
  none : IsBesideThese [] place
  none key x p at e = absurd cc
at_or_beside (v ∷ vs) place =
    ⊎_elim (λ (h : IsIn v.places place). inl (record { key = 0; x = h.0; there = h.1 }))
    (λ (out : IsOut v.places place).
    ⊎_elim (λ (h : IsAtPlace vs place). inl (record { key = suc h.key; x = h.x; there = h.there }))
    (λ (rest : IsBesideThese vs place). inr (later out rest)) (at_or_beside vs place))
    (in_places v.places place)
  where
    later : IsOut v.places place → IsBesideThese vs place → IsBesideThese (v ∷ vs) place
    later out rest zero x p at e = out x p at e
    later out rest (suc key) x p at e = rest key x p at e
