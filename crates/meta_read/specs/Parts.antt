-- A group, read in three parts.
use Rattle.std.specs.Prelude.{ℕ, List, [], ◌∷◌, ◌++◌, Ok, codes}
use Rattle.conf_text.specs.Items.{items}
use Rattle.meta_model.specs.Keys.{Items, Read, ◌>>=◌, number, words, section, required, optional, only_text, id, status}
use Rattle.meta_model.specs.Standing.{sections_of, vg_words, vg_status}
use Rattle.meta_model.specs.declared.refusal.GroupRefusal.TheVariants.{Foreign}
use Rattle.meta_model.specs.declared.group.Group.{Group}
use Rattle.meta_model.specs.declared.pv.Pv.{Pv}
use Rattle.meta_model.specs.declared.lv.Lv.{Lv}
use Rattle.meta_read.specs.declared.group.Head.{Head}
use Rattle.meta_read.specs.Rows.{volumes_of}

-- what stands first
abbrev pub head_of : Items → Read Head
head_of keys =
    id (codes "id") keys >>= λ id.
    required number (codes "seqno") keys >>= λ seqno.
    required number (codes "extent_size") keys >>= λ extent_size.
    required number (codes "max_lv") keys >>= λ max_lv.
    required number (codes "max_pv") keys >>= λ max_pv.
    status (vg_words ++ codes "PVMOVE" ∷ []) (codes "status") keys >>= λ status.
    Ok (record { id = id; seqno = seqno; status = vg_status status; extent_size = extent_size; max_lv = max_lv; max_pv = max_pv })

-- how many copies are wanted, of a group of this kind
abbrev pub copies_of : Items → Read ℕ
copies_of keys =
    only_text (codes "lvm2") (λ key. Foreign key) (codes "format") keys >>= λ _.
    only_text [] (λ key. Foreign key) (codes "system_id") keys >>= λ _.
    only_text (codes "none") (λ key. Foreign key) (codes "lock_type") keys >>= λ _.
    optional words [] (codes "flags") keys >>= λ _.
    optional number 0 (codes "metadata_copies") keys

-- the volumes
abbrev pub tables_of : Items → Read (List (List ℕ × Pv) × List (List ℕ × Lv))
tables_of keys =
    required section (codes "physical_volumes") keys >>= λ pv_entries.
    optional section [] (codes "logical_volumes") keys >>= λ lv_entries.
    volumes_of (sections_of (items pv_entries)) (sections_of (items lv_entries))

-- the group
abbrev pub group_by_parts : List ℕ → Items → Read Group
group_by_parts name keys =
    head_of keys >>= λ head.
    copies_of keys >>= λ copies.
    tables_of keys >>= λ volumes.
    Ok (record {
      name = name;
      id = head.id;
      seqno = head.seqno;
      status = head.status;
      extent_size = head.extent_size;
      max_lv = head.max_lv;
      max_pv = head.max_pv;
      copies = copies;
      pvs = volumes.0;
      lvs = volumes.1;
    })
