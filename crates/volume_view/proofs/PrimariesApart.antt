-- Two sectors in no leg have different primary places, and those of visible volumes lie in no leg.
use Rattle.std.proofs.Common.{◌≡◌, ℕ, Some, refl, arith, IsTrue, IsFalse}
use Rattle.sector_base.specs.declared.places.At.{At}
use Rattle.meta_model.specs.declared.group.Group.{Group}
use Rattle.meta_model.specs.declared.segment.On.TheVariants as on
use Rattle.meta_model.specs.declared.lv.Lv.{Lv}
use Rattle.volume_rules.specs.Rules.{IsAccepted, IsLv}
use Rattle.volume_rules.specs.declared.rule.Rule.TheVariants.{Depth}
use Rattle.volume_view.specs.Places.{primary}
use Rattle.volume_view.specs.Copies.{sector_of}
use Rattle.volume_view.proofs.CopiesApart.{IsFree, copies_apart}
use Rattle.volume_view.proofs.GoingDown.{down_has_copy}

-- a visible volume lies in no leg
pub visible_is_free : (group : Group) (lv sector : ℕ) (volume : Lv) → IsAccepted group → IsLv group lv volume → IsTrue volume.status.visible
    → IsFree group (sector_of lv sector)
visible_is_free group lv sector volume accepted is visible used =
    let run = used.0 in
    let hidden : IsFalse volume.status.visible = (accepted Depth).hidden run.lv lv volume (run, used.1, refl, used.2.0) is in
    grind arith

-- two sectors of volumes that lie in no leg never share a primary place
pub primaries_apart : (group : Group) (lv lv' sector sector' : ℕ) (at : At) → IsAccepted group → IsFree group (sector_of lv sector)
    → IsFree group (sector_of lv' sector')
    → primary group lv sector ≡ Some at → primary group lv' sector' ≡ Some at → sector_of lv sector ≡ sector_of lv' sector'
unfolding primary
primaries_apart group lv lv' sector sector' at accepted free free' here there =
    let a = down_has_copy group 5 (on.Lv lv) sector at here in
    let b = down_has_copy group 5 (on.Lv lv') sector' at there in
    (copies_apart group (sector_of lv sector) (sector_of lv' sector') a.0 b.0 at accepted free free' a.1 b.1).0
