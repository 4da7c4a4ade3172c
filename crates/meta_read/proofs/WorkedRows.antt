-- Trees and what they stand for.
use Rattle.std.proofs.Common.{◌≡◌, ℕ, true, false, List, [], ◌∷◌, ◌++◌, map, Ok, Err, codes, refl}
use Rattle.lvm_id.specs.LvmId.{hyphen_form}
use Rattle.conf_text.specs.Entries.{Conf, ConfEntry, Open, Close, Assign, One, Many, Number, Text}
use Rattle.meta_model.specs.PassedOver.{passed_over}
use Rattle.meta_model.specs.Standing.{group_of}
use Rattle.meta_model.specs.declared.group.Group.{Group}
use Rattle.meta_model.specs.declared.lv.Lv.{Lv}
use Rattle.meta_model.specs.declared.refusal.GroupRefusal.TheVariants.{Missing, WrongKind, UnknownStatus, UnknownSegment, Foreign}
use Rattle.meta_model.specs.declared.refusal.GroupRefusal.TheVariants.{CountDiffers, UnknownName, BadName, BadId}
use Rattle.meta_model.specs.declared.segment.On.TheVariants as on
use Rattle.meta_model.specs.declared.segment.SegKind.TheVariants.{Striped}

abbrev number : List ℕ → ℕ → ConfEntry
number key n = Assign key (One (Number n))

abbrev text : List ℕ → List ℕ → ConfEntry
text key s = Assign key (One (Text s))

abbrev words : List ℕ → List (List ℕ) → ConfEntry
words key ws = Assign key (Many (map Text ws))

-- a group with one physical volume; these status words, these keys behind its number, and these entries at its end
abbrev tree : List (List ℕ) → List ConfEntry → List ConfEntry → Conf
tree status keys end =
    Open (codes "vg0") ∷ text (codes "id") (codes "400000-0050-0000-0060-0000-0070-000000") ∷ number (codes "seqno") 1 ∷ keys
    ++ text (codes "format") (codes "lvm2") ∷ words (codes "status") status ∷ words (codes "flags") []
    ∷ number (codes "extent_size") 8192 ∷ number (codes "max_lv") 0 ∷ number (codes "max_pv") 0 ∷ number (codes "metadata_copies") 0
    ∷ Open (codes "physical_volumes") ∷ Open (codes "pv0") ∷ text (codes "id") (codes "000000-0010-0000-0001-0000-0030-000000")
    ∷ text (codes "device") (codes "a") ∷ words (codes "status") (codes "ALLOCATABLE" ∷ [])
    ∷ words (codes "flags") [] ∷ number (codes "dev_size") 131072 ∷ number (codes "pe_start") 2048 ∷ number (codes "pe_count") 15 ∷ Close
    ∷ Close ∷ end
    ++ Close ∷ text (codes "contents") (codes "Text Format Volume Group") ∷ number (codes "version") 1 ∷ text (codes "description") []
    ∷ text (codes "creation_host") (codes "localhost") ∷ number (codes "creation_time") 0 ∷ []

abbrev all_words : List (List ℕ)
all_words = codes "RESIZEABLE" ∷ codes "READ" ∷ codes "WRITE" ∷ []

abbrev group : List (List ℕ × Lv) → Group
group lvs = record {
  name = codes "vg0";
  id = codes "40000000500000006000000070000000";
  seqno = 1;
  status = record { resizeable = true; read = true; write = true };
  extent_size = 8192;
  max_lv = 0;
  max_pv = 0;
  copies = 0;
  pvs = (
    codes "pv0",
    record {
      id = codes "00000000100000000100000030000000";
      device = codes "a";
      allocatable = true;
      missing = false;
      dev_size = 131072;
      pe_start = 2048;
      pe_count = 15;
    },
  ) ∷ [];
  lvs = lvs;
}

-- the whole text of a group with one physical volume
small_stands : group_of (tree all_words [] []) ≡ Ok (group [])
unfolding group_of hyphen_form
small_stands = refl

small_is_known : passed_over (tree all_words [] []) ≡ []
unfolding passed_over
small_is_known = refl

-- a key that nothing stands for is passed over
coloured_stands : group_of (tree all_words (text (codes "colour") (codes "red") ∷ []) []) ≡ Ok (group [])
unfolding group_of hyphen_form
coloured_stands = refl

colour_is_unknown : passed_over (tree all_words (text (codes "colour") (codes "red") ∷ []) []) ≡ codes "vg0/colour" ∷ []
unfolding passed_over
colour_is_unknown = refl

-- ---- a logical volume with one segment

abbrev volume : ℕ → List ConfEntry → List ConfEntry
volume said keys =
    Open (codes "logical_volumes") ∷ Open (codes "data") ∷ text (codes "id") (codes "500000-0050-0000-0060-0000-0070-000000")
    ∷ words (codes "status") (codes "READ" ∷ codes "VISIBLE" ∷ [])
    ∷ words (codes "flags") (codes "ACTIVATION_SKIP" ∷ []) ∷ text (codes "allocation_policy") (codes "inherit")
    ∷ number (codes "segment_count") said
    ∷ Open (codes "segment1") ∷ number (codes "start_extent") 0 ∷ number (codes "extent_count") 4 ∷ keys ++ Close ∷ Close ∷ Close ∷ []

abbrev linear : List ℕ → List ConfEntry
linear name =
    text (codes "type") (codes "striped") ∷ number (codes "stripe_count") 1 ∷ Assign (codes "stripes") (Many (Text name ∷ Number 7 ∷ []))
    ∷ []

-- `PVMOVE` of the group and an unknown flag decide nothing, and a policy is passed over
linear_stands : group_of (tree (codes "PVMOVE" ∷ all_words) [] (volume 1 (linear (codes "pv0"))))
    ≡ Ok (group ((
      codes "data",
      record {
        id = codes "50000000500000006000000070000000";
        status =
            record { read = true; write = false; visible = true; fixed_minor = false; pvmove = false; locked = false; notsynced = false };
        created = 0;
        host = [];
        segments = record { start = 0; count = 4; kind = Striped 0 (record { on = on.Pv 0; first = 7 } ∷ []) } ∷ [];
      },
    ) ∷ []))
unfolding group_of hyphen_form
linear_stands = refl

policy_is_unknown : passed_over (tree (codes "PVMOVE" ∷ all_words) [] (volume 1 (linear (codes "pv0"))))
    ≡ codes "vg0/logical_volumes/data/allocation_policy" ∷ []
unfolding passed_over
policy_is_unknown = refl

-- a volume may name itself, which another rule refuses
on_itself_stands : group_of (tree all_words [] (volume 1 (linear (codes "data"))))
    ≡ Ok (group ((
      codes "data",
      record {
        id = codes "50000000500000006000000070000000";
        status =
            record { read = true; write = false; visible = true; fixed_minor = false; pvmove = false; locked = false; notsynced = false };
        created = 0;
        host = [];
        segments = record { start = 0; count = 4; kind = Striped 0 (record { on = on.Lv 0; first = 7 } ∷ []) } ∷ [];
      },
    ) ∷ []))
unfolding group_of hyphen_form
on_itself_stands = refl

-- ---- refusals

none_is_missing : group_of [] ≡ Err (Missing (codes "group"))
unfolding group_of
none_is_missing = refl

second_is_refused : group_of (tree all_words [] [] ++ Open (codes "vg1") ∷ Close ∷ []) ≡ Err (WrongKind (codes "vg1"))
unfolding group_of
second_is_refused = refl

key_is_no_name : group_of (Open (codes "version") ∷ Close ∷ []) ≡ Err (BadName (codes "version"))
unfolding group_of
key_is_no_name = refl

short_id_is_refused : group_of (Open (codes "vg0") ∷ text (codes "id") (codes "x") ∷ Close ∷ []) ≡ Err (BadId (codes "id"))
unfolding group_of
short_id_is_refused = refl

word_is_refused : group_of (tree (codes "READ" ∷ codes "SHARED" ∷ []) [] []) ≡ Err (UnknownStatus (codes "SHARED"))
unfolding group_of hyphen_form
word_is_refused = refl

system_is_refused : group_of (tree all_words (text (codes "system_id") (codes "me") ∷ []) []) ≡ Err (Foreign (codes "system_id"))
unfolding group_of hyphen_form
system_is_refused = refl

type_is_refused : group_of (tree all_words [] (volume 1 (text (codes "type") (codes "raid1") ∷ []))) ≡ Err (UnknownSegment (codes "raid1"))
unfolding group_of hyphen_form
type_is_refused = refl

name_is_refused : group_of (tree all_words [] (volume 1 (linear (codes "pv1")))) ≡ Err (UnknownName (codes "pv1"))
unfolding group_of hyphen_form
name_is_refused = refl

count_is_refused : group_of (tree all_words [] (volume 1000000 (linear (codes "pv0")))) ≡ Err (CountDiffers 1000000 1)
unfolding group_of hyphen_form
count_is_refused = refl
