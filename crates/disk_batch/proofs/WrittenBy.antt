-- What the writes of a batch bring to a sector.
use Rattle.std.proofs.Common.{◌≡◌, ℕ, Bool, true, false, ◌||◌, IsTrue, List, [], ◌∷◌, ◌++◌, map, inl, inr, ⊎_elim, refl, sym, subst}
use Rattle.sector_base.specs.declared.spans.Span.{Span}
use Rattle.sector_base.specs.Spans.{covers}
use Rattle.disk_model.specs.Steps.{value_at}
use Rattle.disk_model.specs.Submitting.{BringAt, writes_at}
use Rattle.disk_batch.specs.Writes.{IsWrittenBy, write_work}

-- by some of the writes
pub written_left : (puts more : List (Span × List (List ℕ))) (pv sector : ℕ) (value : List ℕ) → IsWrittenBy puts pv sector value
    → IsWrittenBy (puts ++ more) pv sector value
written_left [] more pv sector value h = absurd h
written_left (put ∷ puts) more pv sector value h = ⊎_elim (λ a. inl a) (λ b. inr (written_left puts more pv sector value b)) h

pub written_right : (puts more : List (Span × List (List ℕ))) (pv sector : ℕ) (value : List ℕ) → IsWrittenBy more pv sector value
    → IsWrittenBy (puts ++ more) pv sector value
written_right [] more pv sector value h = h
written_right (put ∷ puts) more pv sector value h = inr (written_right puts more pv sector value h)

-- what the writes bring has what each of them brings
pub written_has : (puts : List (Span × List (List ℕ))) (pv sector : ℕ) (Q : List ℕ → Type 0) → BringAt (map write_work puts) pv sector Q
    → (value : List ℕ) → IsWrittenBy puts pv sector value → Q value
written_has [] pv sector Q b value h = absurd h
written_has (put ∷ puts) pv sector Q b value h =
    ⊎_elim (λ here. subst Q (sym here.1) (b.0 here.0)) (λ later. written_has puts pv sector Q b.1 value later) h

-- and they bring only what they bring
bring_later : (puts all : List (Span × List (List ℕ))) (pv sector : ℕ)
    → ((value : List ℕ) → IsWrittenBy puts pv sector value → IsWrittenBy all pv sector value)
    → BringAt (map write_work puts) pv sector (IsWrittenBy all pv sector)
bring_later [] all pv sector among = tt
bring_later (put ∷ puts) all pv sector among =
    (λ inside. among (value_at put.0 put.1 sector) (inl (inside, refl)), bring_later puts all pv sector (λ value h. among value (inr h)))

pub bring_written : (puts : List (Span × List (List ℕ))) (pv sector : ℕ)
    → BringAt (map write_work puts) pv sector (IsWrittenBy puts pv sector)
bring_written puts pv sector = bring_later puts puts pv sector (λ value h. h)

pub bring_at_weaker : (puts : List (Span × List (List ℕ))) (pv sector : ℕ) (P Q : List ℕ → Type 0) → ((value : List ℕ) → P value → Q value)
    → BringAt (map write_work puts) pv sector P → BringAt (map write_work puts) pv sector Q
bring_at_weaker [] pv sector P Q w b = tt
bring_at_weaker (put ∷ puts) pv sector P Q w b =
    (λ inside. w (value_at put.0 put.1 sector) (b.0 inside), bring_at_weaker puts pv sector P Q w b.1)

not_first : (a b : Bool) → (a || b) ≡ false → IsTrue a → ⊥
not_first true b none h = absurd (let e : true ≡ false = none in cc)
not_first false b none h = absurd (let e : false ≡ true = h in cc)

not_later : (a b : Bool) → (a || b) ≡ false → b ≡ false
not_later true b none = cc
not_later false b none = none

-- a sector that no write covers is brought nothing
pub not_written : (puts : List (Span × List (List ℕ))) (pv sector : ℕ) (value : List ℕ) → writes_at (map write_work puts) pv sector ≡ false
    → IsWrittenBy puts pv sector value → ⊥
not_written [] pv sector value none h = h
not_written (put ∷ puts) pv sector value none h =
    ⊎_elim (λ here. not_first (covers put.0 pv sector) (writes_at (map write_work puts) pv sector) none here.0)
    (λ later. not_written puts pv sector value (not_later (covers put.0 pv sector) (writes_at (map write_work puts) pv sector) none)
    later) h
