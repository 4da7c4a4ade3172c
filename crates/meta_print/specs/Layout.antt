-- The metadata text of a group, as its tree: one layout, which lvm2 reads.
use Rattle.std.specs.Prelude.{ℕ, ◌+◌, Bool, true, false, not, ◌||◌, ◌==◌, nat_lt, if◌then◌else◌, List, [], ◌∷◌, ◌++◌, length, map, flat_map}
use Rattle.std.specs.Prelude.{Option, Some, None, codes, decimal, slice_index_or}
use Rattle.lvm_id.specs.LvmId.{hyphen_form}
use Rattle.conf_text.specs.Entries.{Conf, ConfEntry, Open, Close, Assign, One, Many, Scalar, Number, Text}
use Rattle.meta_model.specs.declared.group.Group.{Group}
use Rattle.meta_model.specs.declared.pv.Pv.{Pv}
use Rattle.meta_model.specs.declared.lv.Lv.{Lv}
use Rattle.meta_model.specs.declared.segment.On.{On}
use Rattle.meta_model.specs.declared.segment.On.TheVariants as on
use Rattle.meta_model.specs.declared.segment.Leg.{Leg}
use Rattle.meta_model.specs.declared.segment.SegKind.{SegKind}
use Rattle.meta_model.specs.declared.segment.SegKind.TheVariants.{Striped, Mirror}
use Rattle.meta_model.specs.declared.segment.Segment.{Segment}
use Rattle.meta_model.specs.Status.{VgStatus}
use Rattle.meta_model.specs.Status.{LvStatus}

-- ---- items

-- a key with a number
abbrev pub number : List ℕ → ℕ → ConfEntry
number key n = Assign key (One (Number n))

-- a key with a string
abbrev pub text : List ℕ → List ℕ → ConfEntry
text key s = Assign key (One (Text s))

-- a key with a list of words
abbrev pub words : List ℕ → List (List ℕ) → ConfEntry
words key ws = Assign key (Many (map Text ws))

-- a section with these entries
abbrev pub section : List ℕ → List ConfEntry → List ConfEntry
section name entries = Open name ∷ entries ++ Close ∷ []

-- the word, where it is set
abbrev pub word_if : Bool → List ℕ → List (List ℕ)
word_if true word = word ∷ []
word_if false word = []

-- ---- a physical volume

-- the section of a physical volume
abbrev pub pv_entries : List ℕ × Pv → List ConfEntry
pv_entries pv = section pv.0 (
    text (codes "id") (hyphen_form pv.1.id)
    ∷ text (codes "device") pv.1.device
    ∷ words (codes "status") (word_if pv.1.allocatable (codes "ALLOCATABLE"))
    ∷ words (codes "flags") (word_if pv.1.missing (codes "MISSING"))
    ∷ number (codes "dev_size") pv.1.dev_size
    ∷ number (codes "pe_start") pv.1.pe_start
    ∷ number (codes "pe_count") pv.1.pe_count
    ∷ [])

-- ---- a logical volume

-- the name of what a leg lies on
abbrev pub name_of : Group → On → List ℕ
name_of group (on.Pv number) = slice_index_or (map (λ pv. pv.0) group.pvs) number []
name_of group (on.Lv number) = slice_index_or (map (λ lv. lv.0) group.lvs) number []

-- the name of what a leg lies on, and its first extent there
abbrev pub pair_of : Group → Leg → List Scalar
pair_of group leg = Text (name_of group leg.on) ∷ Number leg.first ∷ []

-- the keys of a segment's kind
abbrev pub kind_entries : Group → SegKind → List ConfEntry
kind_entries group (Striped stripe legs) =
    text (codes "type") (codes "striped")
    ∷ number (codes "stripe_count") (length legs)
    ∷ (if nat_lt 1 (length legs) || not (stripe == 0) then number (codes "stripe_size") stripe ∷ [] else [])
    ++ Assign (codes "stripes") (Many (flat_map (pair_of group) legs))
    ∷ []
kind_entries group (Mirror region moved legs) =
    text (codes "type") (codes "mirror")
    ∷ number (codes "mirror_count") (length legs)
    ∷ number (codes "region_size") region
    ∷ moved_entries moved
    ++ Assign (codes "mirrors") (Many (flat_map (pair_of group) legs))
    ∷ []
  where
    moved_entries : Option ℕ → List ConfEntry
    moved_entries None = []
    moved_entries (Some extents) = number (codes "extents_moved") extents ∷ []

-- the segment with this number
abbrev pub segment_entries : Group → ℕ → Segment → List ConfEntry
segment_entries group at segment = section (codes "segment" ++ decimal at) (
    number (codes "start_extent") segment.start
    ∷ number (codes "extent_count") segment.count
    ∷ kind_entries group segment.kind)

-- the segments, numbered from this one on
abbrev pub segments_entries : Group → ℕ → List Segment → List ConfEntry
segments_entries group at [] = []
segments_entries group at (segment ∷ segments) = segment_entries group at segment ++ segments_entries group (at + 1) segments

-- the status words of a logical volume, in their order
abbrev pub lv_words : LvStatus → List (List ℕ)
lv_words status =
    word_if status.read (codes "READ")
    ++ word_if status.write (codes "WRITE")
    ++ word_if status.visible (codes "VISIBLE")
    ++ word_if status.fixed_minor (codes "FIXED_MINOR")
    ++ word_if status.pvmove (codes "PVMOVE")
    ++ word_if status.locked (codes "LOCKED")
    ++ word_if status.notsynced (codes "NOTSYNCED")

-- the section of a logical volume
abbrev pub lv_entries : Group → List ℕ × Lv → List ConfEntry
lv_entries group lv = section lv.0 (
    text (codes "id") (hyphen_form lv.1.id)
    ∷ words (codes "status") (lv_words lv.1.status)
    ∷ words (codes "flags") []
    ∷ number (codes "creation_time") lv.1.created
    ∷ text (codes "creation_host") lv.1.host
    ∷ number (codes "segment_count") (length lv.1.segments)
    ∷ segments_entries group 1 lv.1.segments)

-- ---- the group

-- the status words of a group, in their order
abbrev pub vg_words : VgStatus → List (List ℕ)
vg_words status =
    word_if status.resizeable (codes "RESIZEABLE") ++ word_if status.read (codes "READ") ++ word_if status.write (codes "WRITE")

-- the logical volumes, where there are any
abbrev pub lvs_entries : Group → List (List ℕ × Lv) → List ConfEntry
lvs_entries group [] = []
lvs_entries group (lv ∷ lvs) = section (codes "logical_volumes") (flat_map (lv_entries group) (lv ∷ lvs))

-- the section of the group
abbrev pub group_entries : Group → List ConfEntry
group_entries group = section group.name (
    text (codes "id") (hyphen_form group.id)
    ∷ number (codes "seqno") group.seqno
    ∷ text (codes "format") (codes "lvm2")
    ∷ words (codes "status") (vg_words group.status)
    ∷ words (codes "flags") []
    ∷ number (codes "extent_size") group.extent_size
    ∷ number (codes "max_lv") group.max_lv
    ∷ number (codes "max_pv") group.max_pv
    ∷ number (codes "metadata_copies") group.copies
    ∷ section (codes "physical_volumes") (flat_map pv_entries group.pvs)
    ++ lvs_entries group group.lvs)

-- what stands beside the group, at this time in seconds since 1970
abbrev pub trailer : ℕ → List ConfEntry
trailer now =
    text (codes "contents") (codes "Text Format Volume Group")
    ∷ number (codes "version") 1
    ∷ text (codes "description") []
    ∷ text (codes "creation_host") (codes "localhost")
    ∷ number (codes "creation_time") now
    ∷ []

-- the tree that is committed
abbrev pub tree_of : Group → ℕ → Conf
tree_of group now = group_entries group ++ trailer now

-- the tree of a backup, as vgcfgbackup(8) writes it
abbrev pub backup_of : Group → ℕ → Conf
backup_of group now = trailer now ++ group_entries group
