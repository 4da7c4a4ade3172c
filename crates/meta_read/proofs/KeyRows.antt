-- Keys of groups and of volumes that are absent, of another kind, refused, or passed over.
use Rattle.std.proofs.Common.{◌≡◌, ℕ, nat_eq, not, true, false, List, [], ◌∷◌, ◌++◌, map, filter, Option, Some, None, Ok, Err, codes, refl}
use Rattle.std.specs.Cmp.Lexicographic.{pointwise}
use Rattle.lvm_id.specs.LvmId.{hyphen_form}
use Rattle.conf_text.specs.Entries.{ConfEntry, Open, Close, Assign, One, Many, Number, Text, Scalar}
use Rattle.conf_text.specs.Items.{Node, Leaf, Body}
use Rattle.meta_model.specs.Keys.{Items, Read}
use Rattle.meta_model.specs.PassedOver.{in_group, in_lv, in_pv, in_segment, passed_over}
use Rattle.meta_model.specs.Standing.{Names, group_in, group_of, lv_of, named, pv_of, segment_of}
use Rattle.meta_model.specs.declared.refusal.GroupRefusal.{GroupRefusal}
use Rattle.meta_model.specs.declared.refusal.GroupRefusal.TheVariants.{Missing, WrongKind, UnknownStatus, UnknownSegment, Foreign}
use Rattle.meta_model.specs.declared.refusal.GroupRefusal.TheVariants.{CountDiffers, UnknownName, BadName, BadId}
use Rattle.meta_model.specs.declared.segment.On.TheVariants as on
use Rattle.meta_model.specs.declared.segment.Leg.{Leg}
use Rattle.meta_model.specs.declared.segment.SegKind.TheVariants.{Striped, Mirror}

-- a table: what a function gives of each
abbrev Gives : {A B : Type 0} → (A → B) → List (A × B) → Type 0
Gives f rows = map (λ row. f row.0) rows ≡ map (λ row. row.1) rows

-- ---- keys and what they have

abbrev number : ℕ → Node
number n = Leaf (One (Number n))

abbrev text : List ℕ → Node
text s = Leaf (One (Text s))

abbrev many : List Scalar → Node
many scalars = Leaf (Many scalars)

abbrev words : List (List ℕ) → Node
words ws = many (map Text ws)

-- a key of a section inside
abbrev key : List ℕ → Scalar → ConfEntry
key name scalar = Assign name (One scalar)

-- the keys but this one
abbrev without : List ℕ → Items → Items
without name keys = filter (λ item. not (pointwise nat_eq name item.0)) keys

-- this key has that now
abbrev with : List ℕ → Node → Items → Items
with name node keys = (name, node) ∷ without name keys

-- why it is refused
abbrev refusal : {A : Type 0} → Read A → Option GroupRefusal
refusal (Ok x) = None
refusal (Err why) = Some why

abbrev missing : List ℕ → Option GroupRefusal
missing name = Some (Missing name)

abbrev wrong_kind : List ℕ → Option GroupRefusal
wrong_kind name = Some (WrongKind name)

abbrev an_id : Node
an_id = text (codes "400000-0050-0000-0060-0000-0070-000000")

-- ---- a group's keys

abbrev group_keys : Items
group_keys =
    (codes "id", an_id)
    ∷ (codes "seqno", number 7)
    ∷ (codes "status", words (codes "WRITE" ∷ codes "PVMOVE" ∷ []))
    ∷ (codes "extent_size", number 8192)
    ∷ (codes "max_lv", number 3)
    ∷ (codes "max_pv", number 9)
    ∷ (codes "metadata_copies", number 2)
    ∷ (codes "physical_volumes", Body [])
    ∷ []

abbrev group_refusal : Items → Option GroupRefusal
group_refusal keys = refusal (group_in (codes "vg-a") keys)

abbrev group_with : List ℕ → Node → Option GroupRefusal
group_with name node = group_refusal (with name node group_keys)

group_without : Gives (λ (name : List ℕ). group_refusal (without name group_keys)) (
    (codes "id", missing (codes "id"))
    ∷ (codes "seqno", missing (codes "seqno"))
    ∷ (codes "extent_size", missing (codes "extent_size"))
    ∷ (codes "max_lv", missing (codes "max_lv"))
    ∷ (codes "max_pv", missing (codes "max_pv"))
    ∷ (codes "status", missing (codes "status"))
    ∷ (codes "physical_volumes", missing (codes "physical_volumes"))
    ∷ (codes "metadata_copies", None)
    ∷ []
    )
unfolding hyphen_form
group_without = refl

group_of_other_kinds : Gives (λ (found : List ℕ × Node). group_with found.0 found.1) (
    ((codes "id", number 4), wrong_kind (codes "id"))
    ∷ ((codes "seqno", many (Number 7 ∷ [])), wrong_kind (codes "seqno"))
    ∷ ((codes "status", many (Text (codes "WRITE") ∷ Number 1 ∷ [])), wrong_kind (codes "status"))
    ∷ ((codes "flags", number 1), wrong_kind (codes "flags"))
    ∷ ((codes "metadata_copies", text (codes "2")), wrong_kind (codes "metadata_copies"))
    ∷ ((codes "logical_volumes", number 1), wrong_kind (codes "logical_volumes"))
    ∷ []
    )
unfolding hyphen_form
group_of_other_kinds = refl

-- a character too few, and a hyphen in another place
bad_ids : Gives (λ (printed : List ℕ). group_with (codes "id") (text printed)) (
    (codes "400000-0050-0000-0060-0000-0070-00000", Some (BadId (codes "id")))
    ∷ (codes "4000000050-0000-0060-0000-0070-0000000", Some (BadId (codes "id")))
    ∷ []
    )
unfolding hyphen_form
bad_ids = refl

-- one word may stand for itself, and there may be none
group_words : Gives (group_with (codes "status")) (
    (words (codes "WRITE" ∷ codes "SHARED" ∷ []), Some (UnknownStatus (codes "SHARED")))
    ∷ (text (codes "x y"), Some (UnknownStatus (codes "x y")))
    ∷ (text (codes "READ"), None)
    ∷ (words [], None)
    ∷ []
    )
unfolding hyphen_form
group_words = refl

group_of_another_kind : Gives (λ (found : List ℕ × Node). group_with found.0 found.1) (
    ((codes "format", text (codes "lvm1")), Some (Foreign (codes "format")))
    ∷ ((codes "format", number 1), Some (Foreign (codes "format")))
    ∷ ((codes "format", text (codes "lvm2")), None)
    ∷ ((codes "system_id", text (codes "me")), Some (Foreign (codes "system_id")))
    ∷ ((codes "system_id", text []), None)
    ∷ ((codes "lock_type", text (codes "sanlock")), Some (Foreign (codes "lock_type")))
    ∷ ((codes "lock_type", text (codes "none")), None)
    ∷ []
    )
unfolding hyphen_form
group_of_another_kind = refl

-- the first of the table is refused, wherever it stands
first_of_the_table : group_refusal (with (codes "format") (number 1) (without (codes "seqno") group_keys)) ≡ missing (codes "seqno")
unfolding hyphen_form
first_of_the_table = refl

-- ---- the top level

-- keys, and a section with nothing in it
abbrev top_refusal : List ℕ → List ConfEntry → Option GroupRefusal
top_refusal name keys = refusal (group_of (keys ++ Open name ∷ Close ∷ []))

-- where nothing else is wrong, the section's first key is missing
top_keys : Gives (λ (found : List ℕ × Scalar). top_refusal (codes "vg-a") (key found.0 found.1 ∷ [])) (
    ((codes "version", Number 1), missing (codes "id"))
    ∷ ((codes "version", Number 2), wrong_kind (codes "version"))
    ∷ ((codes "version", Text (codes "1")), wrong_kind (codes "version"))
    ∷ ((codes "contents", Text (codes "x")), wrong_kind (codes "contents"))
    ∷ ((codes "contents", Text (codes "Text Format Volume Group")), missing (codes "id"))
    ∷ []
    )
unfolding group_of
top_keys = refl

group_names : Gives (λ (name : List ℕ). top_refusal name []) (
    (codes "vg-a", missing (codes "id"))
    ∷ (codes "-a", Some (BadName (codes "-a")))
    ∷ (codes "description", Some (BadName (codes "description")))
    ∷ []
    )
unfolding group_of
group_names = refl

keys_are_no_group : refusal (group_of (key (codes "version") (Number 1) ∷ [])) ≡ missing (codes "group")
unfolding group_of
keys_are_no_group = refl

-- ---- a physical volume's keys

abbrev pv_keys : Items
pv_keys =
    (codes "id", an_id)
    ∷ (codes "status", words [])
    ∷ (codes "flags", text (codes "MISSING"))
    ∷ (codes "pe_start", number 4096)
    ∷ (codes "pe_count", number 16)
    ∷ []

-- no device and no size of it is said
pv_with_defaults : pv_of pv_keys
    ≡ Ok (record {
      id = codes "40000000500000006000000070000000";
      device = [];
      allocatable = false;
      missing = true;
      dev_size = 0;
      pe_start = 4096;
      pe_count = 16;
    })
unfolding hyphen_form
pv_with_defaults = refl

pv_without : Gives (λ (name : List ℕ). refusal (pv_of (without name pv_keys))) (
    (codes "id", missing (codes "id"))
    ∷ (codes "pe_start", missing (codes "pe_start"))
    ∷ (codes "pe_count", missing (codes "pe_count"))
    ∷ (codes "status", missing (codes "status"))
    ∷ (codes "flags", None)
    ∷ []
    )
unfolding hyphen_form
pv_without = refl

pv_refused : Gives (λ (found : List ℕ × Node). refusal (pv_of (with found.0 found.1 pv_keys))) (
    ((codes "status", words (codes "READ" ∷ [])), Some (UnknownStatus (codes "READ")))
    ∷ ((codes "device", number 1), wrong_kind (codes "device"))
    ∷ ((codes "dev_size", text (codes "x")), wrong_kind (codes "dev_size"))
    ∷ []
    )
unfolding hyphen_form
pv_refused = refl

-- sections of these names, of which each may be read
abbrev of_names : List (List ℕ) → Option GroupRefusal
of_names names = refusal (named {A = Unit {0}} (λ _. Ok tt) [] (map (λ name. (name, [])) names))

-- a name of a volume, and each once
volume_names : Gives of_names (
    (codes "pv0" ∷ codes "pv1" ∷ [], None)
    ∷ (codes "-pv0" ∷ [], Some (BadName (codes "-pv0")))
    ∷ (codes ".." ∷ [], Some (BadName (codes "..")))
    ∷ (codes "pv0" ∷ codes "pv0" ∷ [], Some (BadName (codes "pv0")))
    ∷ []
    )
volume_names = refl

-- ---- a segment's keys

abbrev names : Names
names = record { pvs = codes "pv0" ∷ codes "pv1" ∷ []; lvs = codes "data" ∷ codes "pvmove0" ∷ [] }

abbrev pair : List ℕ → ℕ → List Scalar
pair name first = Text name ∷ Number first ∷ []

abbrev stripes : Items
stripes =
    (codes "start_extent", number 4)
    ∷ (codes "extent_count", number 6)
    ∷ (codes "type", text (codes "striped"))
    ∷ (codes "stripe_count", number 2)
    ∷ (codes "stripe_size", number 128)
    ∷ (codes "stripes", many (pair (codes "pv0") 4 ++ pair (codes "pvmove0") 7))
    ∷ []

abbrev mirrors : Items
mirrors =
    (codes "start_extent", number 0)
    ∷ (codes "extent_count", number 2)
    ∷ (codes "type", text (codes "mirror"))
    ∷ (codes "mirror_count", number 2)
    ∷ (codes "extents_moved", number 1)
    ∷ (codes "mirrors", many (pair (codes "pv1") 0 ++ pair (codes "pv0") 3))
    ∷ []

abbrev mirror_legs : List Leg
mirror_legs = record { on = on.Pv 1; first = 0 } ∷ record { on = on.Pv 0; first = 3 } ∷ []

-- a leg on a physical volume, and one on a logical one
stripes_read : segment_of names stripes
    ≡ Ok (record {
      start = 4;
      count = 6;
      kind = Striped 128 (record { on = on.Pv 0; first = 4 } ∷ record { on = on.Lv 1; first = 7 } ∷ []);
    })
stripes_read = refl

-- the size of a mirror's regions has a default
mirrors_read : segment_of names mirrors ≡ Ok (record { start = 0; count = 2; kind = Mirror 1024 (Some 1) mirror_legs })
mirrors_read = refl

-- and what was moved has none
nothing_moved : segment_of names (with (codes "region_size") (number 512) (without (codes "extents_moved") mirrors))
    ≡ Ok (record { start = 0; count = 2; kind = Mirror 512 None mirror_legs })
nothing_moved = refl

segment_without : Gives (λ (name : List ℕ). refusal (segment_of names (without name stripes))) (
    (codes "start_extent", missing (codes "start_extent"))
    ∷ (codes "extent_count", missing (codes "extent_count"))
    ∷ (codes "type", missing (codes "type"))
    ∷ (codes "stripe_count", missing (codes "stripe_count"))
    ∷ (codes "stripes", missing (codes "stripes"))
    ∷ (codes "stripe_size", missing (codes "stripe_size"))
    ∷ []
    )
segment_without = refl

abbrev unsized : Items
unsized = without (codes "stripe_size") stripes

abbrev one_leg : Items
one_leg = with (codes "stripe_count") (number 1) (with (codes "stripes") (many (pair (codes "pv0") 0)) unsized)

-- one stripe has no need of a size
one_stripe : segment_of names one_leg ≡ Ok (record { start = 4; count = 6; kind = Striped 0 (record { on = on.Pv 0; first = 0 } ∷ []) })
one_stripe = refl

stripes_refused : Gives (λ (node : Node). refusal (segment_of names (with (codes "stripes") node stripes))) (
    (many (pair (codes "pvx") 0 ++ pair (codes "pv0") 0), Some (UnknownName (codes "pvx")))
    ∷ (many (Text (codes "pv0") ∷ []), wrong_kind (codes "stripes"))
    ∷ (many (Number 0 ∷ Text (codes "pv0") ∷ []), wrong_kind (codes "stripes"))
    ∷ (text (codes "pv0"), wrong_kind (codes "stripes"))
    ∷ (many [], Some (CountDiffers 2 0))
    ∷ []
    )
stripes_refused = refl

more_stripes : refusal (segment_of names (with (codes "stripe_count") (number 3) stripes)) ≡ Some (CountDiffers 3 2)
more_stripes = refl

mirrors_refused : Gives (λ (found : List ℕ × Node). refusal (segment_of names (with found.0 found.1 mirrors))) (
    ((codes "mirror_count", number 1), Some (CountDiffers 1 2))
    ∷ ((codes "region_size", text (codes "x")), wrong_kind (codes "region_size"))
    ∷ ((codes "extents_moved", text (codes "1")), wrong_kind (codes "extents_moved"))
    ∷ ((codes "mirror_log", number 1), Some (UnknownSegment (codes "mirror_log")))
    ∷ ((codes "type", text (codes "raid1")), Some (UnknownSegment (codes "raid1")))
    ∷ []
    )
mirrors_refused = refl

-- a log is said last
regions_before_log : refusal (segment_of names (with (codes "mirror_log") (number 1) (with (codes "region_size") (text []) mirrors)))
    ≡ wrong_kind (codes "region_size")
regions_before_log = refl

-- ---- a logical volume's keys

-- a segment of four extents on pv0
abbrev segment : Node
segment =
    Body (
    key (codes "start_extent") (Number 0)
    ∷ key (codes "extent_count") (Number 4)
    ∷ key (codes "type") (Text (codes "striped"))
    ∷ key (codes "stripe_count") (Number 1)
    ∷ Assign (codes "stripes") (Many (pair (codes "pv0") 0))
    ∷ []
    )

abbrev lv_words : Node
lv_words = words (codes "READ" ∷ codes "PVMOVE" ∷ codes "LOCKED" ∷ codes "NOTSYNCED" ∷ codes "FIXED_MINOR" ∷ [])

abbrev lv_keys : Items
lv_keys =
    (codes "id", an_id)
    ∷ (codes "status", lv_words)
    ∷ (codes "creation_time", number 5)
    ∷ (codes "creation_host", text (codes "h"))
    ∷ (codes "segment_count", number 1)
    ∷ (codes "segment1", segment)
    ∷ []

-- one with the words of a move
lv_read : lv_of names lv_keys
    ≡ Ok (record {
      id = codes "40000000500000006000000070000000";
      status = record { read = true; write = false; visible = false; fixed_minor = true; pvmove = true; locked = true; notsynced = true };
      created = 5;
      host = codes "h";
      segments = record { start = 0; count = 4; kind = Striped 0 (record { on = on.Pv 0; first = 0 } ∷ []) } ∷ [];
    })
unfolding hyphen_form
lv_read = refl

lv_without : Gives (λ (name : List ℕ). refusal (lv_of names (without name lv_keys))) (
    (codes "id", missing (codes "id"))
    ∷ (codes "status", missing (codes "status"))
    ∷ (codes "segment_count", missing (codes "segment_count"))
    ∷ (codes "creation_time", None)
    ∷ (codes "creation_host", None)
    ∷ []
    )
unfolding hyphen_form
lv_without = refl

lv_refused : Gives (λ (found : List ℕ × Node). refusal (lv_of names (with found.0 found.1 lv_keys))) (
    ((codes "status", words (codes "CLUSTERED" ∷ [])), Some (UnknownStatus (codes "CLUSTERED")))
    ∷ ((codes "segment_count", number 1000000), Some (CountDiffers 1000000 1))
    ∷ ((codes "creation_time", text (codes "5")), wrong_kind (codes "creation_time"))
    ∷ ((codes "creation_host", number 5), wrong_kind (codes "creation_host"))
    ∷ []
    )
unfolding hyphen_form
lv_refused = refl

-- numbers from 1 on, without leading zeros
segment_names : Gives (λ (name : List ℕ). refusal (lv_of names (with name segment (without (codes "segment1") lv_keys)))) (
    (codes "segment99", None)
    ∷ (codes "segment01", Some (CountDiffers 1 0))
    ∷ (codes "segment0", Some (CountDiffers 1 0))
    ∷ (codes "segmentx", Some (CountDiffers 1 0))
    ∷ (codes "segment", Some (CountDiffers 1 0))
    ∷ []
    )
unfolding hyphen_form
segment_names = refl

-- ---- keys that are passed over

all_known : in_pv [] pv_keys ++ in_segment [] stripes ++ in_segment [] mirrors ++ in_group [] group_keys ++ in_lv [] lv_keys ≡ []
all_known = refl

unknown_in_pv : in_pv (codes "p") ((codes "x", number 1) ∷ pv_keys) ≡ codes "p/x" ∷ []
unknown_in_pv = refl

-- each kind of segment has keys of its own
stripes_of_mirror : in_segment (codes "p") ((codes "stripes", number 1) ∷ mirrors) ≡ codes "p/stripes" ∷ []
stripes_of_mirror = refl

-- one unknown key
abbrev one_key : List ℕ → List ConfEntry
one_key name = key name (Number 1) ∷ []

-- a section that is no segment is passed over whole, and a segment is looked through
abbrev lv_unknowns : Items
lv_unknowns =
    (codes "allocation_policy", text (codes "inherit"))
    ∷ (codes "tags", Body (one_key (codes "a")))
    ∷ (codes "segment1", Body (one_key (codes "b")))
    ∷ []

unknown_in_lv : in_lv (codes "p") lv_unknowns ≡ codes "p/allocation_policy" ∷ codes "p/tags" ∷ codes "p/segment1/b" ∷ []
unknown_in_lv = refl

abbrev group_unknowns : Items
group_unknowns =
    (codes "physical_volumes", Body (one_key (codes "x") ++ Open (codes "pv0") ∷ one_key (codes "y") ++ Close ∷ []))
    ∷ (codes "logical_volumes", Body (Open (codes "data") ∷ one_key (codes "z") ++ Close ∷ []))
    ∷ (codes "w", number 1)
    ∷ []

unknown_in_group : in_group (codes "vg-a") group_unknowns
    ≡ codes "vg-a/physical_volumes/x"
    ∷ codes "vg-a/physical_volumes/pv0/y"
    ∷ codes "vg-a/logical_volumes/data/z"
    ∷ codes "vg-a/w"
    ∷ []
unknown_in_group = refl

-- a key of the top level stands by itself
abbrev top_unknown : List ConfEntry
top_unknown = one_key (codes "x") ++ one_key (codes "version") ++ Open (codes "vg-a") ∷ one_key (codes "seqno") ++ Close ∷ []

unknown_at_top : passed_over top_unknown ≡ codes "x" ∷ []
unfolding passed_over
unknown_at_top = refl
