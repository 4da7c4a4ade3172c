-- Which tree stands for which group, key by key, in the order in which lvm2's metadata is examined here.
use Rattle.std.specs.Prelude.{◌≡◌, ℕ, Bool, false, not, ◌==◌, ◌&&◌, nat_eq, nat_lt, if◌then◌else◌, List, [], ◌∷◌, ◌++◌, map, take, drop}
use Rattle.std.specs.Prelude.{Option, Some, None, option_map, Ok, Err, codes, is_none, filter_map}
use Rattle.std.specs.Option.{option_or}
use Rattle.std.specs.Char.{is_ascii_digit}
use Rattle.std.specs.List.{list_all, position}
use Rattle.std.specs.Cmp.Lexicographic.{pointwise}
use Rattle.lvm_name.specs.Names.{is_among, group_name_refusal, any_name_refusal}
use Rattle.conf_text.specs.Entries.{Conf, ConfEntry}
use Rattle.conf_text.specs.Grammar.{IsTextOf}
use Rattle.conf_text.specs.Items.{items}
use Rattle.meta_model.specs.Keys.{Items, Read, ◌>>=◌, each, or_refused, number, text, words, pairs, section, required, optional, only}
use Rattle.meta_model.specs.Keys.{only_text, only_number, id, status, counted}
use Rattle.meta_model.specs.declared.refusal.GroupRefusal.TheVariants.{Missing, WrongKind, UnknownSegment, Foreign, UnknownName, BadName}
use Rattle.meta_model.specs.declared.group.Group.{Group}
use Rattle.meta_model.specs.declared.pv.Pv.{Pv}
use Rattle.meta_model.specs.declared.lv.Lv.{Lv}
use Rattle.meta_model.specs.declared.segment.On.{On}
use Rattle.meta_model.specs.declared.segment.On.TheVariants as on
use Rattle.meta_model.specs.declared.segment.Leg.{Leg}
use Rattle.meta_model.specs.declared.segment.SegKind.{SegKind}
use Rattle.meta_model.specs.declared.segment.SegKind.TheVariants.{Striped, Mirror}
use Rattle.meta_model.specs.declared.segment.Segment.{Segment}
use Rattle.meta_model.specs.Status.{VgStatus}
use Rattle.meta_model.specs.Status.{LvStatus}

-- the sections among the items
abbrev pub sections_of : Items → List (List ℕ × List ConfEntry)
sections_of found = filter_map (λ item. option_map (λ body. (item.0, body)) (section item.1)) found

-- Sections by their names, each read by its items. A name is one of a volume, and stands once.
abbrev pub named : {A : Type 0} → (Items → Read A) → List (List ℕ) → List (List ℕ × List ConfEntry) → Read (List (List ℕ × A))
named read taken [] = Ok []
named read taken (found ∷ more) =
    if is_none (any_name_refusal found.0) && not (is_among taken found.0)
    then (read (items found.1) >>= λ x. named read (found.0 ∷ taken) more >>= λ xs. Ok ((found.0, x) ∷ xs))
    else Err (BadName found.0)

-- ---- a physical volume

-- a physical volume, by its keys
abbrev pub pv_of : Items → Read Pv
pv_of keys =
    id (codes "id") keys >>= λ id.
    required number (codes "pe_start") keys >>= λ pe_start.
    required number (codes "pe_count") keys >>= λ pe_count.
    status (codes "ALLOCATABLE" ∷ []) (codes "status") keys >>= λ status.
    optional words [] (codes "flags") keys >>= λ flags.
    optional text [] (codes "device") keys >>= λ device.
    optional number 0 (codes "dev_size") keys >>= λ dev_size.
    Ok (record {
      id = id;
      device = device;
      allocatable = is_among status (codes "ALLOCATABLE");
      missing = is_among flags (codes "MISSING");
      dev_size = dev_size;
      pe_start = pe_start;
      pe_count = pe_count;
    })

-- ---- a logical volume

-- the names of the physical and of the logical volumes of a text
pub record Names : Type 0 where
  pub pvs : List (List ℕ)
  pub lvs : List (List ℕ)

-- what carries the name: a physical volume, and where none has it a logical one
abbrev pub on_named : Names → List ℕ → Option On
on_named names name =
    option_or (option_map (λ number. on.Pv number) (position (pointwise nat_eq name) names.pvs))
    (option_map (λ number. on.Lv number) (position (pointwise nat_eq name) names.lvs))

-- a leg: the name of what it lies on, and its first extent there
abbrev pub leg_of : Names → List ℕ × ℕ → Read Leg
leg_of names pair = or_refused (UnknownName pair.0) (on_named names pair.0) >>= λ on. Ok (record { on = on; first = pair.1 })

-- legs, as many as were said
abbrev pub legs : Names → ℕ → List ℕ → Items → Read (List Leg)
legs names said key keys = required pairs key keys >>= λ found. counted said found >>= λ found. each (leg_of names) found

-- a striped segment, by its keys
abbrev pub striped : Names → Items → Read SegKind
striped names keys =
    required number (codes "stripe_count") keys >>= λ said.
    legs names said (codes "stripes") keys >>= λ legs.
    (if nat_lt 1 said then required number (codes "stripe_size") keys else optional number 0 (codes "stripe_size") keys) >>= λ stripe.
    Ok (Striped stripe legs)

-- a mirror segment, by its keys
abbrev pub mirror : Names → Items → Read SegKind
mirror names keys =
    required number (codes "mirror_count") keys >>= λ said.
    legs names said (codes "mirrors") keys >>= λ legs.
    optional number 1024 (codes "region_size") keys >>= λ region.
    optional (λ node. option_map (λ n. Some n) (number node)) None (codes "extents_moved") keys >>= λ moved.
    only (λ _. false) (UnknownSegment (codes "mirror_log")) (codes "mirror_log") keys >>= λ _.
    Ok (Mirror region moved legs)

-- the kind of a segment, by its type
abbrev pub kind_of : Names → List ℕ → Items → Read SegKind
kind_of names type keys =
    if pointwise nat_eq type (codes "striped") then striped names keys
    else if pointwise nat_eq type (codes "mirror") then mirror names keys
    else Err (UnknownSegment type)

-- a segment, by its keys
abbrev pub segment_of : Names → Items → Read Segment
segment_of names keys =
    required number (codes "start_extent") keys >>= λ start.
    required number (codes "extent_count") keys >>= λ count.
    required text (codes "type") keys >>= λ type.
    kind_of names type keys >>= λ kind.
    Ok (record { start = start; count = count; kind = kind })

-- `segment` and a number from 1 on, without leading zeros
abbrev pub is_segment_name : List ℕ → Bool
is_segment_name name = pointwise nat_eq (take 7 name) (codes "segment") && is_from_one (drop 7 name)
  where
    is_from_one : List ℕ → Bool
    is_from_one [] = false
    is_from_one (digit ∷ digits) = not (digit == 48) && list_all is_ascii_digit (digit ∷ digits)

-- the segments' sections, in the order of the text
abbrev pub segments_of : Items → List (List ConfEntry)
segments_of keys = filter_map (λ found. if is_segment_name found.0 then Some found.1 else None) (sections_of keys)

-- the status words of a logical volume
abbrev pub lv_words : List (List ℕ)
lv_words = codes "READ" ∷ codes "WRITE" ∷ codes "VISIBLE" ∷ codes "FIXED_MINOR" ∷ codes "PVMOVE" ∷ codes "LOCKED" ∷ codes "NOTSYNCED" ∷ []

-- the status that these words give a logical volume
abbrev pub lv_status : List (List ℕ) → LvStatus
lv_status words = record {
  read = is_among words (codes "READ");
  write = is_among words (codes "WRITE");
  visible = is_among words (codes "VISIBLE");
  fixed_minor = is_among words (codes "FIXED_MINOR");
  pvmove = is_among words (codes "PVMOVE");
  locked = is_among words (codes "LOCKED");
  notsynced = is_among words (codes "NOTSYNCED");
}

-- a logical volume, by its keys and its segments
abbrev pub lv_of : Names → Items → Read Lv
lv_of names keys =
    id (codes "id") keys >>= λ id.
    status lv_words (codes "status") keys >>= λ status.
    required number (codes "segment_count") keys >>= λ said.
    counted said (segments_of keys) >>= λ bodies.
    optional words [] (codes "flags") keys >>= λ _.
    optional number 0 (codes "creation_time") keys >>= λ created.
    optional text [] (codes "creation_host") keys >>= λ host.
    each (λ body. segment_of names (items body)) bodies >>= λ segments.
    Ok (record { id = id; status = lv_status status; created = created; host = host; segments = segments })

-- ---- the group

-- the status words of a group
abbrev pub vg_words : List (List ℕ)
vg_words = codes "RESIZEABLE" ∷ codes "READ" ∷ codes "WRITE" ∷ []

-- the status that these words give a group
abbrev pub vg_status : List (List ℕ) → VgStatus
vg_status words =
    record {
      resizeable = is_among words (codes "RESIZEABLE");
      read = is_among words (codes "READ");
      write = is_among words (codes "WRITE");
    }

-- the group of a section with these keys, or the first that is refused; `PVMOVE` among its status words decides nothing
abbrev pub group_in : List ℕ → Items → Read Group
group_in name keys =
    id (codes "id") keys >>= λ id.
    required number (codes "seqno") keys >>= λ seqno.
    required number (codes "extent_size") keys >>= λ extent_size.
    required number (codes "max_lv") keys >>= λ max_lv.
    required number (codes "max_pv") keys >>= λ max_pv.
    status (vg_words ++ codes "PVMOVE" ∷ []) (codes "status") keys >>= λ status.
    only_text (codes "lvm2") (λ key. Foreign key) (codes "format") keys >>= λ _.
    only_text [] (λ key. Foreign key) (codes "system_id") keys >>= λ _.
    only_text (codes "none") (λ key. Foreign key) (codes "lock_type") keys >>= λ _.
    optional words [] (codes "flags") keys >>= λ _.
    optional number 0 (codes "metadata_copies") keys >>= λ copies.
    required section (codes "physical_volumes") keys >>= λ pv_entries.
    optional section [] (codes "logical_volumes") keys >>= λ lv_entries.
    volumes (sections_of (items pv_entries)) (sections_of (items lv_entries)) >>= λ volumes.
    Ok (record {
      name = name;
      id = id;
      seqno = seqno;
      status = vg_status status;
      extent_size = extent_size;
      max_lv = max_lv;
      max_pv = max_pv;
      copies = copies;
      pvs = volumes.0;
      lvs = volumes.1;
    })
  where
    volumes : List (List ℕ × List ConfEntry) → List (List ℕ × List ConfEntry) → Read (List (List ℕ × Pv) × List (List ℕ × Lv))
    volumes pvs lvs =
        named pv_of [] pvs >>= λ pvs_read.
        named (lv_of (record { pvs = map (λ found. found.0) pvs; lvs = map (λ found. found.0) lvs })) [] lvs >>= λ lvs_read.
        Ok (pvs_read, lvs_read)

-- the one section of the top level
abbrev pub only_section : List (List ℕ × List ConfEntry) → Read (List ℕ × List ConfEntry)
only_section [] = Err (Missing (codes "group"))
only_section (found ∷ []) = if is_none (group_name_refusal found.0) then Ok found else Err (BadName found.0)
only_section (found ∷ second ∷ more) = Err (WrongKind second.0)

-- the group that a tree stands for, or the first refusal
unfoldable pub group_of : Conf → Read Group
group_of tree =
    only_section (sections_of (items tree)) >>= λ found.
    only_text (codes "Text Format Volume Group") (λ key. WrongKind key) (codes "contents") (items tree) >>= λ _.
    only_number 1 (λ key. WrongKind key) (codes "version") (items tree) >>= λ _.
    group_in found.0 (items found.1)

-- the tree of some text stands for the group
pub record HasTree (group : Group) : Type 0 where
  pub text : List ℕ
  pub tree : Conf
  pub is_text : IsTextOf text tree
  pub stands : group_of tree ≡ Ok group
