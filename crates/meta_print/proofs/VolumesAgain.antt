-- What is printed of the volumes of a group is read again.
use Rattle.std.proofs.Common.{◌≡◌, ℕ, List, [], ◌∷◌, map, Ok, refl, ap, ◌∙◌}
use Rattle.std.specs.Prelude.{flat_map}
use Rattle.std.specs.List.{AllByRecursion as Each}
use Rattle.conf_text.specs.Entries.{ConfEntry}
use Rattle.conf_text.specs.Items.{Body, items}
use Rattle.meta_model.specs.Keys.{Items, Read}
use Rattle.meta_model.specs.PassedOver.{in_volumes}
use Rattle.meta_model.specs.Standing.{sections_of, named}
use Rattle.meta_print.specs.Layout.{section}
use Rattle.meta_print.proofs.Sections.{IsWhole, whole_all, whole_section, sections_items}
use Rattle.meta_print.proofs.Printable.{AreNames}

-- the sections of rows, and their items
abbrev pub row_sections : {A : Type 0} → (A → List ConfEntry) → List (List ℕ × A) → List ConfEntry
row_sections body rows = flat_map (λ row. section row.0 (body row.1)) rows

abbrev pub row_items : {A : Type 0} → (A → List ConfEntry) → List (List ℕ × A) → Items
row_items body rows = map (λ row. (row.0, Body (body row.1))) rows

abbrev pub row_bodies : {A : Type 0} → (A → List ConfEntry) → List (List ℕ × A) → List (List ℕ × List ConfEntry)
row_bodies body rows = map (λ row. (row.0, body row.1)) rows

-- each section of a row is whole
pub rows_whole : {A : Type 0} (body : A → List ConfEntry) → ((x : A) → IsWhole (body x)) → (rows : List (List ℕ × A))
    → IsWhole (row_sections body rows)
rows_whole body whole rows = whole_all (λ row. section row.0 (body row.1)) (λ row. whole_section row.0 (body row.1) (whole row.1)) rows

pub rows_items : {A : Type 0} (body : A → List ConfEntry) → ((x : A) → IsWhole (body x)) → (rows : List (List ℕ × A))
    → items (row_sections body rows) ≡ row_items body rows
rows_items body whole rows = sections_items (λ row. row.0) (λ row. body row.1) (λ row. whole row.1) rows

bodies_of : {A : Type 0} (body : A → List ConfEntry) (rows : List (List ℕ × A)) → sections_of (row_items body rows) ≡ row_bodies body rows
bodies_of body [] = refl
bodies_of body (row ∷ rows) = ap (λ found. (row.0, body row.1) ∷ found) (bodies_of body rows)

pub rows_bodies : {A : Type 0} (body : A → List ConfEntry) → ((x : A) → IsWhole (body x)) → (rows : List (List ℕ × A))
    → sections_of (items (row_sections body rows)) ≡ row_bodies body rows
rows_bodies body whole rows = ap sections_of (rows_items body whole rows) ∙ bodies_of body rows

pub rows_names : {A : Type 0} (body : A → List ConfEntry) (rows : List (List ℕ × A))
    → map (λ found. found.0) (row_bodies body rows) ≡ map (λ row. row.0) rows
rows_names body [] = refl
rows_names body (row ∷ rows) = ap (λ names. row.0 ∷ names) (rows_names body rows)

-- rows with names that are names, each of which is read again
pub rows_again : {A : Type 0} (read : Items → Read A) (body : A → List ConfEntry) (taken : List (List ℕ)) (rows : List (List ℕ × A))
    → AreNames taken (map (λ row. row.0) rows) → Each (λ (row : List ℕ × A). read (items (body row.1)) ≡ Ok row.1) rows
    → named read taken (row_bodies body rows) ≡ Ok rows
rows_again read body taken [] names h = refl
rows_again read body taken (row ∷ rows) names h = rw (names.0, names.1, h.0, rows_again read body (row.0 ∷ taken) rows names.2 h.1) refl

-- the keys of each are known
pub rows_known : {A : Type 0} (in_volume : List ℕ → Items → List (List ℕ)) (body : A → List ConfEntry) (path : List ℕ)
    (rows : List (List ℕ × A))
    → Each (λ (row : List ℕ × A). (path : List ℕ) → in_volume path (items (body row.1)) ≡ []) rows
    → in_volumes in_volume path (row_items body rows) ≡ []
rows_known in_volume body path [] h = refl
rows_known in_volume body path (row ∷ rows) h = rw (h.0, rows_known in_volume body path rows h.1) refl
