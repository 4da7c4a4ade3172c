-- A group read in parts is the group read key by key.
use Rattle.std.proofs.Common.{◌≡◌, ℕ, List, [], ◌∷◌, ◌++◌, Ok, Err, codes, refl}
use Rattle.conf_text.specs.Entries.{ConfEntry}
use Rattle.conf_text.specs.Items.{items}
use Rattle.meta_model.specs.Keys.{Items, Read, ◌>>=◌, number, words, section, required, optional, only_text, id, status}
use Rattle.meta_model.specs.Standing.{group_in, sections_of, vg_words, vg_status}
use Rattle.meta_model.specs.declared.refusal.GroupRefusal.TheVariants.{Foreign}
use Rattle.meta_model.specs.declared.group.Group.{Group}
use Rattle.meta_model.specs.declared.pv.Pv.{Pv}
use Rattle.meta_model.specs.declared.lv.Lv.{Lv}
use Rattle.meta_read.specs.declared.group.Head.{Head}
use Rattle.meta_read.specs.Parts.{group_by_parts}
use Rattle.meta_read.specs.Rows.{volumes_of}

abbrev Volumes : Type 0
Volumes = List (List ℕ × Pv) × List (List ℕ × Lv)

abbrev made : List ℕ → Head → ℕ → Volumes → Group
made name head copies volumes = record {
  name = name;
  id = head.id;
  seqno = head.seqno;
  status = head.status;
  extent_size = head.extent_size;
  max_lv = head.max_lv;
  max_pv = head.max_pv;
  copies = copies;
  pvs = volumes.0;
  lvs = volumes.1;
}

-- steps one after the other are the same in three parts
in_parts : (name : List ℕ) (one : Read (List ℕ)) (two three four five : Read ℕ) (six : Read (List (List ℕ)))
    (seven eight nine : Read (Unit {0})) (ten : Read (List (List ℕ))) (eleven : Read ℕ) (twelve thirteen : Read (List ConfEntry))
    (last : List ConfEntry → List ConfEntry → Read Volumes)
    → (one >>= λ id. two >>= λ seqno. three >>= λ extent_size. four >>= λ max_lv. five >>= λ max_pv. six >>= λ status.
    seven >>= λ _. eight >>= λ _. nine >>= λ _. ten >>= λ _. eleven >>= λ copies.
    twelve >>= λ pvs. thirteen >>= λ lvs. last pvs lvs >>= λ volumes.
    Ok (made name (record {
      id = id;
      seqno = seqno;
      status = vg_status status;
      extent_size = extent_size;
      max_lv = max_lv;
      max_pv = max_pv;
    }) copies volumes))
    ≡ ((one >>= λ id. two >>= λ seqno. three >>= λ extent_size. four >>= λ max_lv. five >>= λ max_pv. six >>= λ status.
    Ok (record { id = id; seqno = seqno; status = vg_status status; extent_size = extent_size; max_lv = max_lv; max_pv = max_pv }))
    >>= λ head. (seven >>= λ _. eight >>= λ _. nine >>= λ _. ten >>= λ _. eleven)
    >>= λ copies. (twelve >>= λ pvs. thirteen >>= λ lvs. last pvs lvs)
    >>= λ volumes. Ok (made name head copies volumes))
in_parts name (Err r) two three four five six seven eight nine ten eleven twelve thirteen last = refl
in_parts name (Ok a) (Err r) three four five six seven eight nine ten eleven twelve thirteen last = refl
in_parts name (Ok a) (Ok b) (Err r) four five six seven eight nine ten eleven twelve thirteen last = refl
in_parts name (Ok a) (Ok b) (Ok c) (Err r) five six seven eight nine ten eleven twelve thirteen last = refl
in_parts name (Ok a) (Ok b) (Ok c) (Ok d) (Err r) six seven eight nine ten eleven twelve thirteen last = refl
in_parts name (Ok a) (Ok b) (Ok c) (Ok d) (Ok e) (Err r) seven eight nine ten eleven twelve thirteen last = refl
in_parts name (Ok a) (Ok b) (Ok c) (Ok d) (Ok e) (Ok f) (Err r) eight nine ten eleven twelve thirteen last = refl
in_parts name (Ok a) (Ok b) (Ok c) (Ok d) (Ok e) (Ok f) (Ok g) (Err r) nine ten eleven twelve thirteen last = refl
in_parts name (Ok a) (Ok b) (Ok c) (Ok d) (Ok e) (Ok f) (Ok g) (Ok h) (Err r) ten eleven twelve thirteen last = refl
in_parts name (Ok a) (Ok b) (Ok c) (Ok d) (Ok e) (Ok f) (Ok g) (Ok h) (Ok i) (Err r) eleven twelve thirteen last = refl
in_parts name (Ok a) (Ok b) (Ok c) (Ok d) (Ok e) (Ok f) (Ok g) (Ok h) (Ok i) (Ok j) (Err r) twelve thirteen last = refl
in_parts name (Ok a) (Ok b) (Ok c) (Ok d) (Ok e) (Ok f) (Ok g) (Ok h) (Ok i) (Ok j) (Ok k) (Err r) thirteen last = refl
in_parts name (Ok a) (Ok b) (Ok c) (Ok d) (Ok e) (Ok f) (Ok g) (Ok h) (Ok i) (Ok j) (Ok k) (Ok l) (Err r) last = refl
in_parts name (Ok a) (Ok b) (Ok c) (Ok d) (Ok e) (Ok f) (Ok g) (Ok h) (Ok i) (Ok j) (Ok k) (Ok l) (Ok m) last = refl

pub group_in_parts : (name : List ℕ) (keys : Items) → group_in name keys ≡ group_by_parts name keys
group_in_parts name keys =
    in_parts name (id (codes "id") keys) (required number (codes "seqno") keys) (required number (codes "extent_size") keys)
    (required number (codes "max_lv") keys) (required number (codes "max_pv") keys)
    (status (vg_words ++ codes "PVMOVE" ∷ []) (codes "status") keys) (only_text (codes "lvm2") (λ key. Foreign key) (codes "format") keys)
    (only_text [] (λ key. Foreign key) (codes "system_id") keys)
    (only_text (codes "none") (λ key. Foreign key) (codes "lock_type") keys) (optional words [] (codes "flags") keys)
    (optional number 0 (codes "metadata_copies") keys)
    (required section (codes "physical_volumes") keys) (optional section [] (codes "logical_volumes") keys)
    (λ pv_entries lv_entries. volumes_of (sections_of (items pv_entries)) (sections_of (items lv_entries)))
