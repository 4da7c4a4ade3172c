use Rattle.std.proofs.Common.{List, ℕ, ◌*◌, ◌^◌, ◌<◌, refl, arith}
use Rattle.meta_model.specs.declared.lv.Lv.{Lv}
use Rattle.volume_rules.specs.Extents.{extents_of}
use Rattle.volume_rules.specs.Rules.{Follow}
use Rattle.list_laws.proofs.ItemWalks.{all_more, all_seen}
use Rattle.vg_check.proofs.follows.first_with_gap.Goals as goal

abbrev IsWhole : ℕ → List ℕ × Lv → Type 0
IsWhole extent_size row = Follow 0 row.1.segments × (extents_of row.1 * extent_size < 2 ^ 48)

pub loop-number-preserved : goal.loop-number-preserved
loop-number-preserved c =
    all_more (IsWhole c.args.extent_size) c.args.lvs.now c.loop-number.number _ c.loop-number.invariant c.get.ensures
    (c.if-not-is_whole.ensures.0 refl)

pub returns : goal.returns
returns c = all_seen (IsWhole c.args.extent_size) c.args.lvs.now c.loop-number.number c.loop-number.invariant (omega arith)
