-- A row of a table that is read.
use Rattle.std.specs.Prelude.{ℕ, if◌then◌else◌, List, [], map, Ok, Err, is_none}
use Rattle.lvm_name.specs.Names.{is_among, any_name_refusal}
use Rattle.conf_text.specs.Entries.{ConfEntry}
use Rattle.conf_text.specs.Items.{items}
use Rattle.meta_model.specs.Keys.{Items, Read, ◌>>=◌}
use Rattle.meta_model.specs.Standing.{named, pv_of, lv_of}
use Rattle.meta_model.specs.declared.lv.Lv.{Lv}
use Rattle.meta_model.specs.declared.pv.Pv.{Pv}
use Rattle.meta_model.specs.declared.refusal.GroupRefusal.TheVariants.{BadName}

-- a name of a volume
abbrev pub name_of : List ℕ → Read (List ℕ)
name_of name = if is_none (any_name_refusal name) then Ok name else Err (BadName name)

-- a name of a volume that isn't taken
abbrev pub new_name_of : List (List ℕ) → List ℕ → Read (List ℕ)
new_name_of taken name = name_of name >>= λ name. if is_among taken name then Err (BadName name) else Ok name

-- a volume with its name, which isn't taken
abbrev pub row_of : {A : Type 0} → (Items → Read A) → List (List ℕ) → List ℕ × List ConfEntry → Read (List ℕ × A)
row_of read taken found = new_name_of taken found.0 >>= λ name. read (items found.1) >>= λ x. Ok (name, x)

-- the volumes of these sections
abbrev pub volumes_of : List (List ℕ × List ConfEntry) → List (List ℕ × List ConfEntry) → Read (List (List ℕ × Pv) × List (List ℕ × Lv))
volumes_of pvs lvs =
    named pv_of [] pvs >>= λ pvs_read.
    named (lv_of (record { pvs = map (λ found. found.0) pvs; lvs = map (λ found. found.0) lvs })) [] lvs >>= λ lvs_read.
    Ok (pvs_read, lvs_read)
