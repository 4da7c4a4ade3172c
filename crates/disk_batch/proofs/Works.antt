-- Works one behind the other.
use Rattle.std.proofs.Common.{◌≡◌, ℕ, Bool, true, false, ◌||◌, IsTrue, ◌⊎◌, List, [], ◌∷◌, ◌++◌, inl, inr, refl, ap, ◌∙◌}
use Rattle.disk_model.specs.Brought.{writes}
use Rattle.disk_model.specs.Steps.{Work}
use Rattle.disk_model.specs.Submitting.{BringAt, writes_at}

-- what both bring each brings
pub bring_left : (ws vs : List Work) (pv sector : ℕ) (Q : List ℕ → Type 0) → BringAt (ws ++ vs) pv sector Q → BringAt ws pv sector Q
bring_left [] vs pv sector Q b = tt
bring_left (w ∷ ws) vs pv sector Q b = (b.0, bring_left ws vs pv sector Q b.1)

pub bring_right : (ws vs : List Work) (pv sector : ℕ) (Q : List ℕ → Type 0) → BringAt (ws ++ vs) pv sector Q → BringAt vs pv sector Q
bring_right [] vs pv sector Q b = b
bring_right (w ∷ ws) vs pv sector Q b = bring_right ws vs pv sector Q b.1

or_assoc : (a b c : Bool) → (a || (b || c)) ≡ ((a || b) || c)
or_assoc true b c = refl
or_assoc false b c = refl

-- and a sector that both write one of them writes
pub at_both : (ws vs : List Work) (pv sector : ℕ) → writes_at (ws ++ vs) pv sector ≡ (writes_at ws pv sector || writes_at vs pv sector)
at_both [] vs pv sector = refl
at_both (w ∷ ws) vs pv sector =
    ap (λ (b : Bool). writes w pv sector || b) (at_both ws vs pv sector)
    ∙ or_assoc (writes w pv sector) (writes_at ws pv sector) (writes_at vs pv sector)

pub or_false_left : (a b : Bool) → (a || b) ≡ false → a ≡ false
or_false_left true b e = e
or_false_left false b e = refl

pub or_false_right : (a b : Bool) → (a || b) ≡ false → b ≡ false
or_false_right true b e = cc
or_false_right false b e = e

pub or_either : (a b : Bool) → IsTrue (a || b) → IsTrue a ⊎ IsTrue b
or_either true b h = inl refl
or_either false b h = inr h
