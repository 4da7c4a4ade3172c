use Rattle.std.proofs.Common.{◌+◌, ◌*◌, take, sym, subst, arith}
use Rattle.std.specs.Prelude.{All}
use Rattle.std.proofs.lemmas.List.{length-take}
use Rattle.volume_rules.specs.declared.rule.Rule.TheVariants.{Apart, Volumes, Within}
use Rattle.volume_rules.specs.Rules.{VolumesAreFew}
use Rattle.vg_check.specs.Covers.{EndsWithin}
use Rattle.vg_check.proofs.Ends.{fewer, lvs_follow, lvs_small}
use Rattle.vg_check.proofs.UsedExtents.{front_long, front_sortable, front_apart, front_within, used_tells}
use Rattle.vg_check.proofs.moves.is_used_whole.Goals as goal

pub overflow_mul-on : goal.overflow_mul-on
overflow_mul-on c = let few : VolumesAreFew c.args.group.now = c.requires.below Volumes (omega arith) in omega (arith, few.lvs)

pub overflow_add-on : goal.overflow_add-on
overflow_add-on c = let few : VolumesAreFew c.args.group.now = c.requires.below Volumes (omega arith) in omega (arith, few.lvs)

pub slice_bounds-cover-end : goal.slice_bounds-cover-end
slice_bounds-cover-end c =
    omega (
      arith,
      front_long c.args.group.now c.sort_legs-count.new.runs c.sort_legs-count.result c.sort_legs-count.ensures.sorted
          c.sort_legs-count.ensures.count,
      length-take c.sort_legs-count.result c.sort_legs-count.new.runs,
    )

pub slice_bounds-cover-end-2 : goal.slice_bounds-cover-end-2
slice_bounds-cover-end-2 c =
    sym (front_long c.args.group.now c.sort_legs-count.new.runs c.sort_legs-count.result c.sort_legs-count.ensures.sorted
    c.sort_legs-count.ensures.count)

pub extents-requires-clause-follow : goal.extents-requires-clause-follow
extents-requires-clause-follow c =
    lvs_follow c.args.group.now c.args.number _ (fewer c.args.group.now 9 13 (omega arith) c.requires.below) c.lv.ensures.1

pub extents-requires-clause-small : goal.extents-requires-clause-small
extents-requires-clause-small c =
    lvs_small c.args.group.now c.args.number _ (fewer c.args.group.now 9 13 (omega arith) c.requires.below) c.lv.ensures.1

pub cover-requires-clause-sortable : goal.cover-requires-clause-sortable
cover-requires-clause-sortable c =
    front_sortable c.args.group.now c.sort_legs-count.new.runs c.sort_legs-count.result
    (fewer c.args.group.now 10 13 (omega arith) c.requires.below) c.sort_legs-count.ensures.sorted c.sort_legs-count.ensures.count

pub cover-requires-clause-apart : goal.cover-requires-clause-apart
cover-requires-clause-apart c =
    front_apart c.args.group.now c.sort_legs-count.new.runs c.sort_legs-count.result
    (fewer c.args.group.now 10 13 (omega arith) c.requires.below) (c.requires.below Apart (omega arith))
    c.sort_legs-count.ensures.sorted c.sort_legs-count.ensures.count

pub cover-requires-clause-within : goal.cover-requires-clause-within
cover-requires-clause-within c =
    subst (λ e. All (EndsWithin (2 * c.args.number + 1) e) (take c.sort_legs-count.result c.sort_legs-count.new.runs))
    (sym c.extents.ensures)
    (front_within c.args.group.now c.sort_legs-count.new.runs c.sort_legs-count.result c.args.number c.lv.result.now
    (c.requires.below Within (omega arith)) c.lv.ensures c.sort_legs-count.ensures.sorted c.sort_legs-count.ensures.count)

pub returns : goal.returns
returns c =
    used_tells c.args.group.now c.sort_legs-count.new.runs c.sort_legs-count.result c.args.number c.extents.result c.lv.result.now
    c.cover.result c.lv.ensures c.sort_legs-count.ensures.sorted c.sort_legs-count.ensures.count c.extents.ensures c.cover.ensures
