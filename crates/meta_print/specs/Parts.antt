-- Parts of the tree of a group that the code writes one by one.
use Rattle.std.specs.Prelude.{ℕ, not, ◌||◌, ◌==◌, nat_lt, if◌then◌else◌, List, [], ◌∷◌, codes, Option, Some, None}
use Rattle.lvm_id.specs.LvmId.{hyphen_form}
use Rattle.conf_text.specs.Entries.{ConfEntry}
use Rattle.meta_model.specs.declared.group.Group.{Group}
use Rattle.meta_print.specs.Layout.{number, text, words, vg_words}

-- the size of the stripes, where there are several or it isn't 0
abbrev pub stripe_entries : ℕ → ℕ → List ConfEntry
stripe_entries count stripe = if nat_lt 1 count || not (stripe == 0) then number (codes "stripe_size") stripe ∷ [] else []

-- how many extents were moved, where that is said
abbrev pub moved_entries : Option ℕ → List ConfEntry
moved_entries None = []
moved_entries (Some extents) = number (codes "extents_moved") extents ∷ []

-- the keys of a group, before its sections
abbrev pub group_keys : Group → List ConfEntry
group_keys group =
    text (codes "id") (hyphen_form group.id)
    ∷ number (codes "seqno") group.seqno
    ∷ text (codes "format") (codes "lvm2")
    ∷ words (codes "status") (vg_words group.status)
    ∷ words (codes "flags") []
    ∷ number (codes "extent_size") group.extent_size
    ∷ number (codes "max_lv") group.max_lv
    ∷ number (codes "max_pv") group.max_pv
    ∷ number (codes "metadata_copies") group.copies
    ∷ []
