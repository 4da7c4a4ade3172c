-- The numbers of a group beside those of its volumes.
use Rattle.std.specs.Prelude.{◌≡◌, ◌≤◌, ◌%◌, ◌^◌}
use Rattle.meta_model.specs.declared.group.Group.{Group}
use Rattle.volume_rules.specs.Rules.{IsSmall}

-- the version, the extent size, the limits and the copies lie within their limits
abbrev pub OwnNumbersAreAllowed : Group → Type 0
OwnNumbersAreAllowed group =
    ((1 ≤ group.seqno) × (group.seqno ≤ 4294967295))
    × ((8 ≤ group.extent_size) × (group.extent_size ≤ 2 ^ 31) × (group.extent_size % 8 ≡ 0))
    × (IsSmall group.max_lv × IsSmall group.max_pv × IsSmall group.copies)
