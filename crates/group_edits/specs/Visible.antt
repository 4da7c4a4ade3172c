-- The logical volumes that users see.
use Rattle.std.specs.Prelude.{◌≡◌, ℕ, ◌+◌, ◌&&◌, true, if◌then◌else◌, List, [], ◌∷◌, slice_get, Option, None, Some, IsSomeAnd}
use Rattle.std.specs.Str.{bytes_eq}
use Rattle.meta_model.specs.declared.group.Group.{Group}
use Rattle.meta_model.specs.declared.lv.Lv.{Lv}

-- the visible volume of this name among these, the first of which has this number: its number, and itself
abbrev pub visible_from : ℕ → List ℕ → List (List ℕ × Lv) → Option (ℕ × Lv)
visible_from number name [] = None
visible_from number name (row ∷ rows) =
    if row.1.status.visible && bytes_eq row.0 name then Some (number, row.1) else visible_from (number + 1) name rows

-- the visible volume of this name
unfoldable pub visible_named : Group → List ℕ → Option (ℕ × Lv)
visible_named group name = visible_from 0 name group.lvs

-- the volume with this number is visible
abbrev pub IsVisible : Group → ℕ → Type 0
IsVisible group number = IsSomeAnd (slice_get group.lvs number) (λ (row : List ℕ × Lv). row.1.status.visible ≡ true)
