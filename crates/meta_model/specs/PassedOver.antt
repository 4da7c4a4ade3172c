-- The keys of lvm2's metadata that nothing here stands for: they are passed over, and the next commit drops them.
use Rattle.std.specs.Prelude.{ℕ, false, nat_eq, if◌then◌else◌, List, [], ◌∷◌, ◌++◌, flat_map, codes}
use Rattle.std.specs.Option.{option_map_or, option_and_then}
use Rattle.std.specs.Cmp.Lexicographic.{pointwise}
use Rattle.lvm_name.specs.Names.{is_among, is_top_key}
use Rattle.conf_text.specs.Entries.{Conf}
use Rattle.conf_text.specs.Items.{Node, Leaf, Body, items, lookup}
use Rattle.meta_model.specs.Keys.{Items, text}
use Rattle.meta_model.specs.Standing.{is_segment_name}

-- the path of a name in the section with this path
abbrev pub path_in : List ℕ → List ℕ → List ℕ
path_in path name = path ++ 47 ∷ name

-- the path of the name, where it isn't among these
abbrev pub unless_known : List (List ℕ) → List ℕ → List ℕ → List (List ℕ)
unless_known known path name = if is_among known name then [] else path_in path name ∷ []

-- the keys of a physical volume
abbrev pub pv_keys : List (List ℕ)
pv_keys = codes "id" ∷ codes "pe_start" ∷ codes "pe_count" ∷ codes "status" ∷ codes "flags" ∷ codes "device" ∷ codes "dev_size" ∷ []

-- the paths that are passed over in a physical volume
abbrev pub in_pv : List ℕ → Items → List (List ℕ)
in_pv path keys = flat_map (λ item. unless_known pv_keys path item.0) keys

-- the keys of a segment, by its type
abbrev pub segment_keys : Items → List (List ℕ)
segment_keys keys =
    codes "start_extent" ∷ codes "extent_count" ∷ codes "type"
    ∷ (if option_map_or (pointwise nat_eq (codes "striped")) (option_and_then text (lookup (codes "type") keys)) false
    then codes "stripe_count" ∷ codes "stripes" ∷ codes "stripe_size" ∷ []
    else codes "mirror_count" ∷ codes "mirrors" ∷ codes "region_size" ∷ codes "extents_moved" ∷ codes "mirror_log" ∷ [])

-- the paths that are passed over in a segment
abbrev pub in_segment : List ℕ → Items → List (List ℕ)
in_segment path keys = flat_map (λ item. unless_known (segment_keys keys) path item.0) keys

-- the keys of a logical volume, beside its segments
abbrev pub lv_keys : List (List ℕ)
lv_keys = codes "id" ∷ codes "status" ∷ codes "segment_count" ∷ codes "flags" ∷ codes "creation_time" ∷ codes "creation_host" ∷ []

-- the paths that are passed over in a logical volume
abbrev pub in_lv : List ℕ → Items → List (List ℕ)
in_lv path keys = flat_map (λ item. of_item item.0 item.1) keys
  where
    of_item : List ℕ → Node → List (List ℕ)
    of_item name (Leaf value) = unless_known lv_keys path name
    of_item name (Body entries) =
        if is_segment_name name then in_segment (path_in path name) (items entries) else unless_known lv_keys path name

-- of sections whose names are those of volumes
abbrev pub in_volumes : (List ℕ → Items → List (List ℕ)) → List ℕ → Items → List (List ℕ)
in_volumes in_volume path keys = flat_map (λ item. of_item item.0 item.1) keys
  where
    of_item : List ℕ → Node → List (List ℕ)
    of_item name (Leaf value) = path_in path name ∷ []
    of_item name (Body entries) = in_volume (path_in path name) (items entries)

-- the keys of a group, beside its sections
abbrev pub group_keys : List (List ℕ)
group_keys =
    codes "id" ∷ codes "seqno" ∷ codes "extent_size" ∷ codes "max_lv" ∷ codes "max_pv" ∷ codes "status" ∷ codes "format"
    ∷ codes "system_id" ∷ codes "lock_type" ∷ codes "flags" ∷ codes "metadata_copies" ∷ []

-- the paths that are passed over in a group
abbrev pub in_group : List ℕ → Items → List (List ℕ)
in_group path keys = flat_map (λ item. of_item item.0 item.1) keys
  where
    of_item : List ℕ → Node → List (List ℕ)
    of_item name (Leaf value) = unless_known group_keys path name
    of_item name (Body entries) =
        if pointwise nat_eq name (codes "physical_volumes") then in_volumes in_pv (path_in path name) (items entries)
        else if pointwise nat_eq name (codes "logical_volumes") then in_volumes in_lv (path_in path name) (items entries)
        else unless_known group_keys path name

-- the paths of the keys that are passed over, in the order of the text
unfoldable pub passed_over : Conf → List (List ℕ)
passed_over tree = flat_map (λ item. of_item item.0 item.1) (items tree)
  where
    of_item : List ℕ → Node → List (List ℕ)
    of_item name (Leaf value) = if is_top_key name then [] else name ∷ []
    of_item name (Body entries) = in_group name (items entries)
