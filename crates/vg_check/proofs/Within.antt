-- Legs that lie within their volumes, and those that don't.
use Rattle.std.proofs.Common.{◌≡◌, ℕ, suc, ◌+◌, ◌≤◌, ◌↔◌, IsTrue, leb, ltb, List, length, get_or, Some, sym, subst, ◌∙◌, arith}
use Rattle.std.specs.Prelude.{All, slice_get}
use Rattle.std.proofs.lemmas.Bool.{leb-true, le-leb}
use Rattle.std.proofs.lemmas.Option.{same_Some, slice_get_within, slice_get-get_or}
use Rattle.meta_model.specs.declared.group.Group.{Group}
use Rattle.meta_model.specs.declared.pv.Pv.{Pv}
use Rattle.meta_model.specs.declared.lv.Lv.{Lv}
use Rattle.meta_model.specs.declared.segment.On.TheVariants as on
use Rattle.meta_model.specs.Runs.{legs_of}
use Rattle.volume_rules.specs.Extents.{extents_of}
use Rattle.volume_rules.specs.Rules.{LegsLieWithin, LiesWithin}
use Rattle.volume_rules.specs.Legs.{runs_of, LegRun}
use Rattle.volume_rules.specs.Offences.{IsOffence}
use Rattle.volume_rules.specs.declared.rule.Rule.TheVariants.{Within}
use Rattle.volume_rules.proofs.LegRuns.{run_is, run_of, IsRunOf}
use Rattle.vg_check.specs.Outside.{LegLiesInside, LegsLieInside, HasLegOutside, SegmentFails}
use Rattle.list_laws.proofs.Fronts.{all_at}

pub pv_end : (group : Group) (n end : ℕ) (name : List ℕ) (pv : Pv) → slice_get group.pvs n ≡ Some (name, pv)
    → IsTrue (leb end pv.pe_count) ↔ LiesWithin group (on.Pv n) end
pv_end group n end name pv is = (
  λ test. (name, pv, is, leb-true end pv.pe_count test),
  λ within. le-leb end pv.pe_count (subst (λ (row : List ℕ × Pv). end ≤ row.1.pe_count)
      (same_Some (within.0, within.1) (name, pv) (sym within.2 ∙ is)) within.3),
)

pub no_pv : (group : Group) (n end : ℕ) (len : ℕ) → len ≡ length group.pvs → len ≤ n → IsTrue (ltb n len) ↔ LiesWithin group (on.Pv n) end
no_pv group n end len long past = (
  λ test. absurd (omega (arith, leb-true (suc n) len test)),
  λ within. absurd (omega (arith, slice_get_within group.pvs n (within.0, within.1) within.2)),
)

pub lv_end : (group : Group) (n end : ℕ) (name : List ℕ) (lv : Lv) → slice_get group.lvs n ≡ Some (name, lv)
    → IsTrue (leb end (extents_of lv)) ↔ LiesWithin group (on.Lv n) end
lv_end group n end name lv is = (
  λ test. (lv, (name, is), leb-true end (extents_of lv) test),
  λ within. le-leb end (extents_of lv) (subst (λ (row : List ℕ × Lv). end ≤ extents_of row.1)
      (same_Some (within.1.0, within.0) (name, lv) (sym within.1.1 ∙ is)) within.2),
)

pub no_lv : (group : Group) (n end : ℕ) (len : ℕ) → len ≡ length group.lvs → len ≤ n → IsTrue (ltb n len) ↔ LiesWithin group (on.Lv n) end
no_lv group n end len long past = (
  λ test. absurd (omega (arith, leb-true (suc n) len test)),
  λ within. absurd (omega (arith, slice_get_within group.lvs n (within.1.0, within.0) within.1.1)),
)

-- where the legs of each segment do, all do
pub all_within : (group : Group) → ((n : ℕ) (row : List ℕ × Lv) → slice_get group.lvs n ≡ Some row
    → All (LegsLieInside group) row.1.segments) → LegsLieWithin group
all_within group each k d lt = of_run (get_or (runs_of group) k d) (run_is group (get_or (runs_of group) k d) (k, lt, same)) where
  same : get_or (runs_of group) k (get_or (runs_of group) k d) ≡ get_or (runs_of group) k d
  same = same_Some _ _ (sym (slice_get-get_or (runs_of group) k (get_or (runs_of group) k d) lt) ∙ slice_get-get_or (runs_of group) k d lt)

  of_run : (run : LegRun) → IsRunOf group.lvs 0 run → LiesWithin group run.on (run.first + run.count)
  of_run run is =
      let inside : LegLiesInside group is.segment is.leg =
      all_at (LegLiesInside group is.segment) (legs_of is.segment.kind) run.leg is.leg
      (all_at (LegsLieInside group) is.volume.1.segments run.segment is.segment (each is.nth is.volume is.is_volume) is.is_segment)
      is.is_leg in
      subst (λ o. LiesWithin group o (run.first + run.count)) (sym is.on_is)
      (subst (λ (e : ℕ). LiesWithin group is.leg.on e) (omega (arith, is.first_is, is.count_is)) inside)

-- a segment that fails is an offence
pub fails_there : (group : Group) (n : ℕ) (row : List ℕ × Lv) (other : ℕ) → slice_get group.lvs n ≡ Some row
    → SegmentFails group row.1.segments other → IsOffence group Within n other
fails_there group n row other is fails =
    let outside : HasLegOutside group fails.0 = fails.2 in
    let run = run_of group n row other fails.0 outside.0 outside.1 is fails.1 outside.2 in (
      run.0,
      run.1,
      run.2,
      run.3,
      λ within. outside.3
          (subst (λ (e : ℕ). LiesWithin group outside.1.on e) (omega (arith, run.6, run.7))
          (subst (λ o. LiesWithin group o (run.0.first + run.0.count)) run.5 within)),
    )
