-- The key of the volume on a path: that which the world's table gives is that of the machine.
use Rattle.std.proofs.Common.{◌≡◌, ◌≤◌, ℕ, ◌+◌, ◌&&◌, Bool, true, false, cond, List, [], ◌∷◌, Option, Some, None, refl, sym, ap, ◌∙◌, arith}
use Rattle.std.specs.Prelude.{find, nat_eq, option_map}
use Rattle.std.specs.Option.{option_and_then, option_map_or}
use Rattle.std.specs.Str.{bytes_eq}
use Rattle.std.proofs.lemmas.Bool.{ne_eqb}
use Rattle.std.proofs.lemmas.Option.{same_Some}
use Rattle.command_table.specs.declared.command.Path.{Path}
use Rattle.lvm_script.specs.declared.line.Line.{Line}
use Rattle.data_lines.specs.DataLines.{volume_named}
use Rattle.list_laws.proofs.Bools.{eq_to}
use Rattle.disk_model.specs.Steps.{Image}
use Rattle.meta_model.specs.declared.group.Group.{Group}
use Rattle.meta_model.specs.declared.lv.Lv.{Lv}
use Rattle.vg_scan.specs.Versions.{Version}
use Rattle.group_edits.specs.Visible.{visible_from, visible_named}
use Rattle.line_table.specs.Machine.{key_of}
use Rattle.volume_history.specs.Legal.{key_in}
use Rattle.volume_history.specs.Placed.{PlacedVolume, placed_from, places_of, volumes_of}
use Rattle.volume_history.specs.Replay.{opening_volumes}
use Rattle.line_plans.specs.Judging.{number_on}
use Rattle.line_plans.specs.Plans.{key_of as key_at}
use Rattle.world_acts.specs.declared.volumes.VolumeRow.{VolumeRow}
use Rattle.world_acts.specs.declared.volumes.Volumes.{Volumes}
use Rattle.world_acts.specs.Volumes.{AreLaidOut, rows_at_opening, visible_rows}
use Rattle.world_history.specs.Entries.{key_told}
use Rattle.world_history.specs.Shown.{AreOfVersion, shown_state}

-- the key of the row with this number
abbrev row_key : List VolumeRow → ℕ → ℕ
row_key rows lv = option_map_or (λ (r : VolumeRow). r.key) (find (λ (r : VolumeRow). nat_eq r.lv lv) rows) 0

-- of the volume that was found
abbrev found_key : List VolumeRow → Option (ℕ × Lv) → Option ℕ
found_key rows o = option_map (row_key rows) (option_map (λ (v : ℕ × Lv). v.0) o)

-- what is found has no smaller number
found_from : (name : List ℕ) (number : ℕ) (rows : List (List ℕ × Lv)) (v : ℕ × Lv) → visible_from number name rows ≡ Some v → number ≤ v.0
found_from name number [] v found = absurd cc
found_from name number (row ∷ rows) v found =
    by (row.1.status.visible && bytes_eq row.0 name) found (λ made. found_from name (number + 1) rows v made) where
      by : (b : Bool) → cond b (Some (number, row.1)) (visible_from (number + 1) name rows) ≡ Some v
          → (visible_from (number + 1) name rows ≡ Some v → number + 1 ≤ v.0) → number ≤ v.0
      by true made later = let e : number ≡ v.0 = ap (λ (x : ℕ × Lv). x.0) (same_Some (number, row.1) v made) in omega (arith, e)
      by false made later = omega (arith, later made)

-- so an earlier row changes nothing
row_before : (key number : ℕ) (rows : List VolumeRow) (o : Option (ℕ × Lv)) → ((v : ℕ × Lv) → o ≡ Some v → number + 1 ≤ v.0)
    → found_key (record { key = key; lv = number } ∷ rows) o ≡ found_key rows o
row_before key number rows None past = refl
row_before key number rows (Some v) past =
    ap (λ (b : Bool). Some (option_map_or (λ (r : VolumeRow). r.key) (cond b (Some (record { key = key; lv = number }))
    (find (λ (r : VolumeRow). nat_eq r.lv v.0) rows)) 0))
    (ne_eqb number v.0 (λ e. let le : number + 1 ≤ v.0 = past v refl in omega (arith, e, le)))

named_from : (image : Image) (version : Version) (name : List ℕ) (key number : ℕ) (rows : List (List ℕ × Lv))
    → found_key (visible_rows key number rows) (visible_from number name rows)
    ≡ key_of (opening_volumes image key (placed_from version number rows)) name
named_from image version name key number [] = refl
named_from image version name key number (row ∷ rows) =
    by row.1.status.visible (bytes_eq row.0 name) refl (named_from image version name (key + 1) (number + 1) rows)
    (named_from image version name key (number + 1) rows)
  where
    own : VolumeRow
    own = record { key = key; lv = number }

    later : Option (ℕ × Lv)
    later = visible_from (number + 1) name rows

    placed : PlacedVolume
    placed = record { id = row.1.id; name = row.0; places = places_of version number row.1 }

    by : (seen same : Bool) → bytes_eq row.0 name ≡ same
        → found_key (visible_rows (key + 1) (number + 1) rows) later
        ≡ key_of (opening_volumes image (key + 1) (placed_from version (number + 1) rows)) name
        → found_key (visible_rows key (number + 1) rows) later
        ≡ key_of (opening_volumes image key (placed_from version (number + 1) rows)) name
        → found_key (cond seen (own ∷ visible_rows (key + 1) (number + 1) rows) (visible_rows key (number + 1) rows))
        (cond (seen && same) (Some (number, row.1)) later)
        ≡ key_of (opening_volumes image key (cond seen (placed ∷ placed_from version (number + 1) rows)
        (placed_from version (number + 1) rows))) name
    by true true same shown hidden =
        ap (λ (b : Bool). Some (option_map_or (λ (r : VolumeRow). r.key) (cond b (Some own)
        (find (λ (r : VolumeRow). nat_eq r.lv number) (visible_rows (key + 1) (number + 1) rows))) 0)) (eq_to number number refl)
        ∙ sym (ap (λ (b : Bool). cond b (Some key) (key_of (opening_volumes image (key + 1) (placed_from version (number + 1) rows)) name))
        same)
    by true false same shown hidden =
        row_before key number (visible_rows (key + 1) (number + 1) rows) later (found_from name (number + 1) rows) ∙ shown
        ∙ sym (ap (λ (b : Bool). cond b (Some key) (key_of (opening_volumes image (key + 1) (placed_from version (number + 1) rows)) name))
        same)
    by false same is shown hidden = hidden

-- on a path of a group that is there
path_shown : (volumes : Volumes) (version : Version) (image : Image) (path : Path)
    → volumes.rows.items ≡ visible_rows 0 0 version.group.lvs
    → option_map (key_at volumes) (number_on (Some version.group) path) ≡ key_in (shown_state (Some version) image) path
unfolding visible_named volumes_of
path_shown volumes version image path rows = by (bytes_eq version.group.name path.vg) where
  by : (b : Bool)
      → option_map (key_at volumes) (cond b (option_map (λ (v : ℕ × Lv). v.0) (visible_named version.group path.lv)) None)
      ≡ cond b (key_of (opening_volumes image 0 (volumes_of (Some version))) path.lv) None
  by true =
      ap (λ (l : List VolumeRow). found_key l (visible_from 0 path.lv version.group.lvs)) rows
      ∙ named_from image version path.lv 0 0 version.group.lvs
  by false = refl

-- and of any version
number_shown : (volumes : Volumes) (version : Option Version) (image : Image) (path : Path) → AreOfVersion volumes version
    → option_map (key_at volumes) (number_on volumes.group path) ≡ key_in (shown_state version image) path
number_shown volumes None image path of =
    ap (λ (o : Option Group). option_map (key_at volumes) (number_on o path)) of.group
number_shown volumes (Some version) image path of =
    ap (λ (o : Option Group). option_map (key_at volumes) (number_on o path)) of.group
    ∙ path_shown volumes version image path (of.rows ∙ ap rows_at_opening of.group)

-- the key that a line's path has in the world's table of volumes is that of the machine
pub named_shown : (volumes : Volumes) (sizes : List ℕ) (version : Option Version) (image : Image) → AreLaidOut volumes sizes
    → AreOfVersion volumes version → (line : Line)
    → key_told volumes line ≡ option_and_then (key_in (shown_state version image)) (volume_named line.command)
named_shown volumes sizes version image laid of line = by (volume_named line.command) where
  by : (o : Option Path)
      → option_map (key_at volumes) (option_and_then (number_on volumes.group) o)
      ≡ option_and_then (key_in (shown_state version image)) o
  by None = refl
  by (Some path) = number_shown volumes version image path of
