-- Entries of rows, row by row.
use Rattle.std.proofs.Common.{◌≡◌, ℕ, ◌+◌, List, [], ◌∷◌, ◌++◌, length, take, Some, refl, sym, ap, ◌∙◌}
use Rattle.std.proofs.lemmas.List.{take_more, append-nil}
use Rattle.std.proofs.lemmas.Option.{slice_get_within, get_or_from_slice_get}
use Rattle.std.proofs.lemmas.Grind.{flat_map-append}
use Rattle.std.specs.Prelude.{codes, flat_map, slice_get}
use Rattle.meta_model.specs.declared.group.Group.{Group}
use Rattle.meta_model.specs.declared.lv.Lv.{Lv}
use Rattle.meta_print.specs.Layout.{section, lv_entries, lvs_entries}

-- one row more
pub rows_more : {X Y : Type 0} (f : X → List Y) (rows : List X) (at : ℕ) (row : X) → slice_get rows at ≡ Some row
    → flat_map f (take at rows) ++ f row ≡ flat_map f (take (at + 1) rows)
rows_more f rows at row stands =
    let more : take (at + 1) rows ≡ take at rows ++ row ∷ [] =
    take_more rows at row (slice_get_within rows at row stands)
    ∙ ap (λ x. take at rows ++ x ∷ []) (get_or_from_slice_get rows at row row stands) in
    sym (ap (flat_map f) more ∙ flat_map-append f (take at rows) (row ∷ [])
    ∙ ap (λ last. flat_map f (take at rows) ++ last) (append-nil (f row)))

-- the section of logical volumes, where there are some
pub lvs_section : (group : Group) (lvs : List (List ℕ × Lv)) → (length lvs ≡ 0 → ⊥)
    → section (codes "logical_volumes") (flat_map (lv_entries group) lvs) ≡ lvs_entries group lvs
lvs_section group [] some = absurd (some refl)
lvs_section group (lv ∷ lvs) some = refl
