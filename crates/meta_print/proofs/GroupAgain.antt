-- What is printed of a group is read again.
use Rattle.std.proofs.Common.{◌≡◌, ℕ, List, [], ◌∷◌, ◌++◌, map, None, Ok, refl, sym, ap, ◌∙◌}
use Rattle.std.proofs.lemmas.List.{append-nil}
use Rattle.std.specs.Prelude.{codes, flat_map}
use Rattle.std.specs.List.{AllByRecursion as Each}
use Rattle.lvm_id.specs.LvmId.{hyphen_form}
use Rattle.conf_text.specs.Entries.{ConfEntry, One, Many, Number, Text}
use Rattle.conf_text.specs.Items.{Leaf, Body, items, lookup}
use Rattle.meta_model.specs.Keys.{Items, section as section_kind, optional}
use Rattle.meta_model.specs.PassedOver.{path_in, in_pv, in_lv, in_volumes, in_group}
use Rattle.meta_model.specs.Standing.{named, pv_of, lv_of, sections_of, group_in, Names}
use Rattle.meta_model.specs.declared.group.Group.{Group}
use Rattle.meta_model.specs.declared.pv.Pv.{Pv}
use Rattle.meta_model.specs.declared.lv.Lv.{Lv}
use Rattle.meta_print.specs.Layout.{text, words, number, section, pv_entries, lv_entries, lvs_entries, vg_words}
use Rattle.meta_print.proofs.Sections.{IsWhole, whole_none, whole_assign, whole_append, whole_section, section_item}
use Rattle.meta_print.proofs.Printable.{names_of, IsPv, IsLv, IsPrintable}
use Rattle.meta_print.proofs.WordsAgain.{texts_again, vg_known, vg_again}
use Rattle.meta_print.proofs.PvAgain.{pv_body, pv_whole, pv_again, pv_known}
use Rattle.meta_print.proofs.LvAgain.{lv_body, lv_whole, lv_read_again, lv_keys_known}
use Rattle.meta_print.proofs.VolumesAgain.{row_bodies, rows_whole, rows_items, rows_bodies, rows_names, rows_again, rows_known}

-- what stands in the section
abbrev pub group_body : Group → List ConfEntry
group_body group =
    text (codes "id") (hyphen_form group.id)
    ∷ number (codes "seqno") group.seqno
    ∷ text (codes "format") (codes "lvm2")
    ∷ words (codes "status") (vg_words group.status)
    ∷ words (codes "flags") []
    ∷ number (codes "extent_size") group.extent_size
    ∷ number (codes "max_lv") group.max_lv
    ∷ number (codes "max_pv") group.max_pv
    ∷ number (codes "metadata_copies") group.copies
    ∷ section (codes "physical_volumes") (flat_map pv_entries group.pvs)
    ++ lvs_entries group group.lvs

-- its items, with these behind the keys
abbrev pub group_items : Group → Items → Items
group_items group more =
    (codes "id", Leaf (One (Text (hyphen_form group.id))))
    ∷ (codes "seqno", Leaf (One (Number group.seqno)))
    ∷ (codes "format", Leaf (One (Text (codes "lvm2"))))
    ∷ (codes "status", Leaf (Many (map Text (vg_words group.status))))
    ∷ (codes "flags", Leaf (Many []))
    ∷ (codes "extent_size", Leaf (One (Number group.extent_size)))
    ∷ (codes "max_lv", Leaf (One (Number group.max_lv)))
    ∷ (codes "max_pv", Leaf (One (Number group.max_pv)))
    ∷ (codes "metadata_copies", Leaf (One (Number group.copies)))
    ∷ (codes "physical_volumes", Body (flat_map pv_entries group.pvs))
    ∷ more

abbrev pub lvs_items : Group → List (List ℕ × Lv) → Items
lvs_items group [] = []
lvs_items group (lv ∷ lvs) = (codes "logical_volumes", Body (flat_map (lv_entries group) (lv ∷ lvs))) ∷ []

pub pvs_whole : (pvs : List (List ℕ × Pv)) → IsWhole (flat_map pv_entries pvs)
pvs_whole pvs = rows_whole pv_body pv_whole pvs

pub lvs_whole : (group : Group) (lvs : List (List ℕ × Lv)) → IsWhole (flat_map (lv_entries group) lvs)
lvs_whole group lvs = rows_whole (lv_body group) (lv_whole group) lvs

lvs_entries-items : (group : Group) (lvs : List (List ℕ × Lv)) → items (lvs_entries group lvs) ≡ lvs_items group lvs
lvs_entries-items group [] = refl
lvs_entries-items group (lv ∷ lvs) =
    ap items (sym (append-nil (lvs_entries group (lv ∷ lvs))))
    ∙ section_item (codes "logical_volumes") (flat_map (lv_entries group) (lv ∷ lvs)) [] (lvs_whole group (lv ∷ lvs))

lvs_entries-whole : (group : Group) (lvs : List (List ℕ × Lv)) → IsWhole (lvs_entries group lvs)
lvs_entries-whole group [] = whole_none
lvs_entries-whole group (lv ∷ lvs) =
    whole_section (codes "logical_volumes") (flat_map (lv_entries group) (lv ∷ lvs)) (lvs_whole group (lv ∷ lvs))

pub group_body-items : (group : Group) → items (group_body group) ≡ group_items group (lvs_items group group.lvs)
group_body-items group =
    ap (λ (found : Items). (codes "id", Leaf (One (Text (hyphen_form group.id))))
    ∷ (codes "seqno", Leaf (One (Number group.seqno)))
    ∷ (codes "format", Leaf (One (Text (codes "lvm2"))))
    ∷ (codes "status", Leaf (Many (map Text (vg_words group.status))))
    ∷ (codes "flags", Leaf (Many []))
    ∷ (codes "extent_size", Leaf (One (Number group.extent_size)))
    ∷ (codes "max_lv", Leaf (One (Number group.max_lv)))
    ∷ (codes "max_pv", Leaf (One (Number group.max_pv)))
    ∷ (codes "metadata_copies", Leaf (One (Number group.copies)))
    ∷ found) (section_item (codes "physical_volumes") (flat_map pv_entries group.pvs) (lvs_entries group group.lvs) (pvs_whole group.pvs)
    ∙ ap (λ found. (codes "physical_volumes", Body (flat_map pv_entries group.pvs)) ∷ found) (lvs_entries-items group group.lvs))

pub group_whole : (group : Group) → IsWhole (group_body group)
group_whole group =
    whole_assign _ _ _ (whole_assign _ _ _ (whole_assign _ _ _
    (whole_assign _ _ _ (whole_assign _ _ _ (whole_assign _ _ _ (whole_assign _ _ _ (whole_assign _ _ _ (whole_assign _ _ _
    (whole_append (section (codes "physical_volumes") (flat_map pv_entries group.pvs)) (lvs_entries group group.lvs)
    (whole_section (codes "physical_volumes") (flat_map pv_entries group.pvs) (pvs_whole group.pvs))
    (lvs_entries-whole group group.lvs))))))))))

-- ---- the volumes

pvs_read : (pvs : List (List ℕ × Pv)) → Each (λ (pv : List ℕ × Pv). IsPv pv.1) pvs
    → Each (λ (row : List ℕ × Pv). pv_of (items (pv_body row.1)) ≡ Ok row.1) pvs
pvs_read [] h = tt
pvs_read (pv ∷ pvs) h = (pv_again pv.1 h.0.id_again.again, pvs_read pvs h.1)

lvs_read : (group : Group) (lvs : List (List ℕ × Lv)) → Each (λ (lv : List ℕ × Lv). IsLv group lv.1) lvs
    → Each (λ (row : List ℕ × Lv). lv_of (names_of group) (items (lv_body group row.1)) ≡ Ok row.1) lvs
lvs_read group [] h = tt
lvs_read group (lv ∷ lvs) h = (lv_read_again group lv.1 h.0, lvs_read group lvs h.1)

-- the logical volumes' section, where there is one
lvs_found : (group : Group) (lvs : List (List ℕ × Lv))
    → optional section_kind [] (codes "logical_volumes") (lvs_items group lvs) ≡ Ok (flat_map (lv_entries group) lvs)
lvs_found group [] = refl
lvs_found group (lv ∷ lvs) = refl

no_system : (group : Group) (lvs : List (List ℕ × Lv)) → lookup (codes "system_id") (lvs_items group lvs) ≡ None
no_system group [] = refl
no_system group (lv ∷ lvs) = refl

no_lock : (group : Group) (lvs : List (List ℕ × Lv)) → lookup (codes "lock_type") (lvs_items group lvs) ≡ None
no_lock group [] = refl
no_lock group (lv ∷ lvs) = refl

abbrev named_by : List (List ℕ × List ConfEntry) → List (List ℕ × List ConfEntry) → Names
named_by pvs lvs = record { pvs = map (λ found. found.0) pvs; lvs = map (λ found. found.0) lvs }

group_by : (group : Group) (more : Items) (lvs_body : List ConfEntry) (pvs lvs : List (List ℕ × List ConfEntry)) → IsPrintable group
    → optional section_kind [] (codes "logical_volumes") more ≡ Ok lvs_body
    → lookup (codes "system_id") more ≡ None → lookup (codes "lock_type") more ≡ None
    → sections_of (items (flat_map pv_entries group.pvs)) ≡ pvs → sections_of (items lvs_body) ≡ lvs
    → named pv_of [] pvs ≡ Ok group.pvs → named (lv_of (named_by pvs lvs)) [] lvs ≡ Ok group.lvs
    → group_in group.name (group_items group more) ≡ Ok group
group_by group more lvs_body pvs lvs h found no_system no_lock pv_sections lv_sections read_pvs read_lvs =
    rw (
      h.id_again.again,
      texts_again (vg_words group.status),
      (vg_known group.status).none,
      no_system,
      no_lock,
      found,
      pv_sections,
      lv_sections,
      read_pvs,
      read_lvs,
      vg_again group.status,
    ) refl

pub group_read_again : (group : Group) → IsPrintable group → group_in group.name (items (group_body group)) ≡ Ok group
group_read_again group h =
    let pvs : List (List ℕ × List ConfEntry) = row_bodies pv_body group.pvs in
    let lvs : List (List ℕ × List ConfEntry) = row_bodies (lv_body group) group.lvs in
    let names : named_by pvs lvs ≡ names_of group = rw (rows_names pv_body group.pvs, rows_names (lv_body group) group.lvs) refl in
    let read_lvs : named (lv_of (named_by pvs lvs)) [] lvs ≡ Ok group.lvs =
    ap (λ found. named (lv_of found) [] lvs) names
    ∙ rows_again (lv_of (names_of group)) (lv_body group) [] group.lvs h.lv_names (lvs_read group group.lvs h.each_lv)
    in
    ap (group_in group.name) (group_body-items group)
    ∙ group_by group (lvs_items group group.lvs) (flat_map (lv_entries group) group.lvs) pvs lvs h (lvs_found group group.lvs)
    (no_system group group.lvs) (no_lock group group.lvs)
    (rows_bodies pv_body pv_whole group.pvs) (rows_bodies (lv_body group) (lv_whole group) group.lvs)
    (rows_again pv_of pv_body [] group.pvs h.pv_names (pvs_read group.pvs h.each_pv)) read_lvs

-- ---- its keys are known

pvs_known : (pvs : List (List ℕ × Pv)) → Each (λ (row : List ℕ × Pv). (path : List ℕ) → in_pv path (items (pv_body row.1)) ≡ []) pvs
pvs_known [] = tt
pvs_known (pv ∷ pvs) = (λ path. pv_known path pv.1, pvs_known pvs)

lvs_known : (group : Group) (lvs : List (List ℕ × Lv)) → Each (λ (lv : List ℕ × Lv). IsLv group lv.1) lvs
    → Each (λ (row : List ℕ × Lv). (path : List ℕ) → in_lv path (items (lv_body group row.1)) ≡ []) lvs
lvs_known group [] h = tt
lvs_known group (lv ∷ lvs) h = (λ path. lv_keys_known group path lv.1 h.0.count_fits, lvs_known group lvs h.1)

-- the volumes' sections alone
lvs_item-known : (path : List ℕ) (body : List ConfEntry) → in_volumes in_lv (path_in path (codes "logical_volumes")) (items body) ≡ []
    → in_group path ((codes "logical_volumes", Body body) ∷ []) ≡ []
lvs_item-known path body known = rw known refl

lvs_items-known : (group : Group) (path : List ℕ) (lvs : List (List ℕ × Lv)) → Each (λ (lv : List ℕ × Lv). IsLv group lv.1) lvs
    → in_group path (lvs_items group lvs) ≡ []
lvs_items-known group path [] h = refl
lvs_items-known group path (lv ∷ lvs) h =
    lvs_item-known path (flat_map (lv_entries group) (lv ∷ lvs)) (
    ap (in_volumes in_lv (path_in path (codes "logical_volumes"))) (rows_items (lv_body group) (lv_whole group) (lv ∷ lvs))
    ∙ rows_known in_lv (lv_body group) (path_in path (codes "logical_volumes")) (lv ∷ lvs) (lvs_known group (lv ∷ lvs) h))

known_by : (group : Group) (path : List ℕ) (more : Items)
    → in_volumes in_pv (path_in path (codes "physical_volumes")) (items (flat_map pv_entries group.pvs)) ≡ [] → in_group path more ≡ []
    → in_group path (group_items group more) ≡ []
known_by group path more pvs others = rw (pvs, others) refl

pub group_keys_known : (group : Group) (path : List ℕ) → IsPrintable group → in_group path (items (group_body group)) ≡ []
group_keys_known group path h =
    ap (in_group path) (group_body-items group)
    ∙ known_by group path (lvs_items group group.lvs) (
    ap (in_volumes in_pv (path_in path (codes "physical_volumes"))) (rows_items pv_body pv_whole group.pvs)
    ∙ rows_known in_pv pv_body (path_in path (codes "physical_volumes")) group.pvs (pvs_known group.pvs))
    (lvs_items-known group path group.lvs h.each_lv)
