-- The volumes that legs name are hidden where each leg's is.
use Rattle.std.proofs.Common.{◌≡◌, ◌↔◌, ℕ, IsTrue, Bool, true, false, not, List, get_or, Some, refl, sym, ap, subst, ◌∙◌}
use Rattle.std.specs.Prelude.{All, slice_get}
use Rattle.std.proofs.lemmas.Bool.{false≢true}
use Rattle.std.proofs.lemmas.Option.{same_Some, slice_get-get_or}
use Rattle.meta_model.specs.declared.group.Group.{Group}
use Rattle.meta_model.specs.declared.lv.Lv.{Lv}
use Rattle.meta_model.specs.declared.segment.Leg.{Leg}
use Rattle.meta_model.specs.declared.segment.On.{On}
use Rattle.meta_model.specs.declared.segment.On.TheVariants as on
use Rattle.meta_model.specs.declared.segment.Segment.{Segment}
use Rattle.meta_model.specs.Runs.{legs_of}
use Rattle.volume_rules.specs.Rules.{IsLv}
use Rattle.volume_rules.proofs.LegRuns.{run_is, run_of, IsRunOf}
use Rattle.vg_check.specs.Hidden.{LvIsHidden, OnIsHidden, LegsAreHidden, VolumesBelowAreHidden}
use Rattle.list_laws.proofs.Fronts.{all_at}

not_true : (b : Bool) → not b ≡ true → b ≡ false
not_true true is = absurd (false≢true is)
not_true false is = refl

-- one volume
pub lv_hidden : (group : Group) (n : ℕ) (lv : Lv) → IsLv group n lv → IsTrue (not lv.status.visible) ↔ LvIsHidden group n
lv_hidden group n lv is = (
  λ test volume there. ap (λ (row : List ℕ × Lv). row.1.status.visible) (same_Some (there.0, volume) (is.0, lv) (sym there.1 ∙ is.1))
      ∙ not_true lv.status.visible test,
  λ hidden. ap not (hidden lv is),
)

-- all of them
pub hide_all : (group : Group) → ((n : ℕ) (row : List ℕ × Lv) → slice_get group.lvs n ≡ Some row → All (LegsAreHidden group) row.1.segments)
    → VolumesBelowAreHidden group
hide_all group each lv below volume lies there =
    let is : IsRunOf group.lvs 0 lies.0 = run_is group lies.0 lies.1 in
    let legs : LegsAreHidden group is.segment =
    all_at (LegsAreHidden group) is.volume.1.segments lies.0.segment is.segment (each is.nth is.volume is.is_volume) is.is_segment in
    let leg : OnIsHidden group is.leg.on =
    all_at (λ (l : Leg). OnIsHidden group l.on) (legs_of is.segment.kind) lies.0.leg is.leg legs is.is_leg in
    let hidden : LvIsHidden group below = subst (OnIsHidden group) (sym is.on_is ∙ lies.3) leg in
    hidden volume there

pub hide_each : (group : Group) (n : ℕ) (lv : Lv) → IsLv group n lv → VolumesBelowAreHidden group → All (LegsAreHidden group) lv.segments
hide_each group n lv is hides k d lt j e less = by_on leg.on refl where
  segment : Segment
  segment = get_or lv.segments k d

  leg : Leg
  leg = get_or (legs_of segment.kind) j e

  by_on : (o : On) → leg.on ≡ o → OnIsHidden group o
  by_on (on.Pv m) same = tt
  by_on (on.Lv m) same =
      let run =
      run_of group n (is.0, lv) k segment j leg is.1 (slice_get-get_or lv.segments k d lt)
      (slice_get-get_or (legs_of segment.kind) j e less) in
      λ volume there. hides n m volume (run.0, run.1, run.2, run.5 ∙ same) there
