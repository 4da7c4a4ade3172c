-- The word that lets a run take disks that are in use.
use Rattle.std.specs.Prelude.{Bool, false, List, [], ◌∷◌, codes, if◌then◌else◌}
use Rattle.std.specs.Str.{bytes_eq}
use Rattle.command_table.specs.Options.{Word}

-- whether it is the first word
abbrev pub is_forced : List Word → Bool
is_forced [] = false
is_forced (word ∷ words) = bytes_eq word (codes "--force")

-- the other words: all of them where it isn't the first
abbrev pub behind_force : List Word → List Word
behind_force [] = []
behind_force (word ∷ words) = if bytes_eq word (codes "--force") then words else word ∷ words
