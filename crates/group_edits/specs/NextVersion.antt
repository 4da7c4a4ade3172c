-- The next version of a group with the same physical volumes.
use Rattle.std.specs.Prelude.{ℕ, ◌+◌, if◌then◌else◌, List, map}
use Rattle.std.specs.Str.{bytes_eq}
use Rattle.meta_model.specs.declared.group.Group.{Group}
use Rattle.meta_model.specs.declared.lv.Lv.{Lv}

-- the next version of a group
abbrev pub next_version : Group → Group
next_version group = record group { seqno = group.seqno + 1 }

-- with these logical volumes
abbrev pub with_lvs : Group → List (List ℕ × Lv) → Group
with_lvs group lvs = record (next_version group) { lvs = lvs }

-- the row is changed so, where the volume has this name
abbrev pub changed_if : List ℕ → (List ℕ × Lv → List ℕ × Lv) → List ℕ × Lv → List ℕ × Lv
changed_if name change row = if bytes_eq row.0 name then change row else row

-- the next version, where the volume of this name is changed so
abbrev pub with_changed : List ℕ → (List ℕ × Lv → List ℕ × Lv) → Group → Group
with_changed name change group = with_lvs group (map (changed_if name change) group.lvs)
