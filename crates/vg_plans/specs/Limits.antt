-- How many volumes and segments a group may have.
use Rattle.std.specs.Prelude.{ℕ, ◌&&◌, ◌==◌, not, nat_lt, List, length, min, sum_by, Option}
use Rattle.std.specs.Option.{option_or}
use Rattle.line_answers.specs.declared.op_refusal.OpRefusal.{OpRefusal}
use Rattle.line_answers.specs.declared.op_refusal.OpRefusal.TheVariants.{TooMany}
use Rattle.meta_model.specs.declared.group.Group.{Group}
use Rattle.meta_model.specs.declared.lv.Lv.{Lv}
use Rattle.group_plan.specs.Judging.{refused_if}

-- there are more than so many
abbrev pub above_row : ℕ → ℕ → Option OpRefusal
above_row most count = refused_if (nat_lt most count) (TooMany count most)

-- there are more than a limit of the group allows, where it isn't 0
abbrev pub limit_row : ℕ → ℕ → Option OpRefusal
limit_row limit count = refused_if (not (limit == 0) && nat_lt limit count) (TooMany count limit)

-- how many segments the volumes have, at most what 64 bits hold
abbrev pub segment_count : List (List ℕ × Lv) → ℕ
segment_count lvs = min (sum_by (λ (lv : List ℕ × Lv). length lv.1.segments) lvs) 18446744073709551615

-- the first greatest number that the group exceeds: of its physical and of its logical volumes, of these by its own limits, and of
-- its segments
abbrev pub limits_row : Group → Option OpRefusal
limits_row group =
    option_or (above_row 64 (length group.pvs))
    (option_or (above_row 1024 (length group.lvs))
    (option_or (limit_row group.max_pv (length group.pvs))
    (option_or (limit_row group.max_lv (length group.lvs)) (above_row 16384 (segment_count group.lvs)))))
