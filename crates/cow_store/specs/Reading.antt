-- How a table is read, slot by slot.
use Rattle.std.specs.Prelude.{◌≡◌, ℕ, ◌-◌, List, [], length, map, take, drop, replicate, None, Some}
use Rattle.std.specs.List.{range_with_len}
use Rattle.cow_store.specs.declared.refusal.CowRefusal.{CowRefusal}
use Rattle.cow_store.specs.declared.refusal.CowRefusal.TheVariants.{BadEntry}
use Rattle.cow_store.specs.Opening.{first_bad}

-- so many entries were read, none of them bad, and all other slots are free
pub record IsReadTo (chunks count : ℕ) (read : ℕ → ℕ) (entries : List ℕ) : Type 0 where
  pub front : take count entries ≡ map read (range_with_len 0 count)
  pub rest : drop count entries ≡ replicate (length entries - count) 0
  pub good : first_bad chunks [] (take count entries) ≡ None

-- of so many entries this one is the first that is bad
abbrev pub IsFirstBad : ℕ → ℕ → (ℕ → ℕ) → CowRefusal → Type 0
IsFirstBad chunks slots read (BadEntry slot value) =
    first_bad chunks [] (map read (range_with_len 0 slots)) ≡ Some (slot, value)
IsFirstBad chunks slots read why = ⊥
