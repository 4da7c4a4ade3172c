-- The disks that the words of a command line name, by the pairs `-d NAME` at its front.
use Rattle.std.specs.Prelude.{Bool, true, not, ◌==◌, ◌&&◌, if◌then◌else◌, nat_le, List, [], ◌∷◌, length, Option, Some, None, codes}
use Rattle.std.specs.Prelude.{option_map, option_and_then}
use Rattle.std.specs.List.{list_any}
use Rattle.std.specs.Str.{bytes_eq}
use Rattle.command_table.specs.Options.{Word}
use Rattle.command_table.specs.Values.{is_disk_name}

-- the names of the pairs at the front of some words, and the words after the pairs
pub record Front : Type 0 where
  pub names : List Word
  pub rest : List Word

-- the word is exactly `-d`
abbrev pub is_disk_option : Word → Bool
is_disk_option word = bytes_eq word (codes "-d")

-- a front with one more pair before it
abbrev pub with_name : Word → Front → Front
with_name name front = record front { names = name ∷ front.names }

-- the front of some words; there is none where a `-d` of it has no name of a disk behind it
unfoldable pub front_of : List Word → Option Front
front_of [] = Some (record { names = []; rest = [] })
front_of (word ∷ []) = if is_disk_option word then None else Some (record { names = []; rest = word ∷ [] })
front_of (word ∷ name ∷ rest) =
    if is_disk_option word then (if is_disk_name name then option_map (with_name name) (front_of rest) else None)
    else Some (record { names = []; rest = word ∷ name ∷ rest })

-- no name stands twice
unfoldable pub all_differ : List Word → Bool
all_differ [] = true
all_differ (name ∷ names) = not (list_any (bytes_eq name) names) && all_differ names

-- the disks of a run: 1 to 64, all different
abbrev pub are_disks : List Word → Bool
are_disks names = not (length names == 0) && (nat_le (length names) 64 && all_differ names)

-- the front, where its names are those of the disks of a run
abbrev pub where_disks : Front → Option Front
where_disks front = if are_disks front.names then Some front else None

-- the front of a command line, which names disks
abbrev pub disks_front : List Word → Option Front
disks_front words = option_and_then where_disks (front_of words)

-- the disks that a command line names, whatever stands after the pairs
abbrev pub disks_named : List Word → Option (List Word)
disks_named words = option_map (λ front. front.names) (disks_front words)
