-- The next version of a group, in which new legs lie on free extents of physical volumes: those of one volume, or of a new one.
use Rattle.std.proofs.Common.{◌≡◌, ◌≤◌, ◌⊎◌, ℕ, ◌+◌, List, ◌++◌, Some, inl, inr, ⊎_elim, refl, sym, subst, arith}
use Rattle.std.specs.Prelude.{slice_get, All, AllPairs, Contains}
use Rattle.std.proofs.lemmas.List.Elements.{All-weaker, Contains-append_cases, Contains-append_left, Contains-append_right}
use Rattle.meta_model.specs.declared.group.Group.{Group}
use Rattle.meta_model.specs.declared.segment.On.{On}
use Rattle.meta_model.specs.declared.segment.On.TheVariants as on
use Rattle.volume_rules.specs.Legs.{IsInRun, IsUsed, LegRun, LieApart, runs_of}
use Rattle.volume_rules.specs.Rules.{LiesWithin}
use Rattle.group_edits.proofs.EditedLegs.{LegsAreAllowed, legs_kept}
use Rattle.group_edits.proofs.Edits.{Any, AnySegments, IsEdit, IsNewLeg, IsPlain, IsThere, KeepsVolumes, Row, StaysAs, WasLeg, any_stays}
use Rattle.group_edits.proofs.Renumbered.{row_is_same, same_on, unchanged}
use Rattle.group_edits.specs.NextVersion.{with_lvs}

-- ---- what is asked

-- the volume stays, and a hidden one as it was
abbrev pub Stays : Row → Row → Type 0
Stays row later = StaysAs same_on AnySegments row later

pub stays_same : (row : Row) → Stays row row
stays_same row = record { status = refl; hidden = λ hidden. sym (row_is_same row); segments = tt }

-- the run lies on a physical volume of the group, has an extent, and none of its extents is used
pub record IsNewRun (group : Group) (run : LegRun) : Type 0 where
  pub pv : ℕ
  pub on_pv : run.on ≡ on.Pv pv
  pub some : 1 ≤ run.count
  pub within : LiesWithin group run.on (run.first + run.count)
  pub unused : (on : On) (extent : ℕ) → IsInRun on extent run → IsUsed group on extent → ⊥

pub record IsGrown (group : Group) (lvs : List Row) : Type 0 where
  pub front : List LegRun
  pub more : List LegRun
  pub back : List LegRun
  pub was : runs_of group ≡ front ++ back
  pub is : runs_of (with_lvs group lvs) ≡ front ++ (more ++ back)
  pub new : All (IsNewRun group) more
  pub apart : AllPairs LieApart more
  pub stays : (n : ℕ) (row : Row) → slice_get group.lvs n ≡ Some row → (later : Row) × (slice_get lvs n ≡ Some later) × Stays row later
  pub came : (n : ℕ) (later : Row) → slice_get lvs n ≡ Some later
      → ((row : Row) × (slice_get group.lvs n ≡ Some row) × Stays row later) ⊎ IsPlain later

-- ---- it is an edit

module _ (group : Group) (lvs : List Row) (grown : IsGrown group lvs) where
  abbrev next : Group
  next = with_lvs group lvs

  run_there : (run : LegRun) → Contains (runs_of group) run → Contains (runs_of next) run
  run_there run within =
      subst (λ (runs : List LegRun). Contains runs run) (sym grown.is)
      (⊎_elim
      (λ first. Contains-append_left grown.front (grown.more ++ grown.back) run first)
      (λ last. Contains-append_right grown.front (grown.more ++ grown.back) run (Contains-append_right grown.more grown.back run last))
      (Contains-append_cases grown.front grown.back run (subst (λ (runs : List LegRun). Contains runs run) grown.was within)))

  run_back : (run : LegRun) → Contains (runs_of next) run → Contains (runs_of group) run ⊎ Contains grown.more run
  run_back run within =
      ⊎_elim
      (λ first. inl (old (Contains-append_left grown.front grown.back run first)))
      (λ later. ⊎_elim (λ new. inr new) (λ last. inl (old (Contains-append_right grown.front grown.back run last)))
      (Contains-append_cases grown.more grown.back run later))
      (Contains-append_cases grown.front (grown.more ++ grown.back) run (subst (λ (runs : List LegRun). Contains runs run) grown.is within))
    where
      old : Contains (grown.front ++ grown.back) run → Contains (runs_of group) run
      old there = subst (λ (runs : List LegRun). Contains runs run) (sym grown.was) there

  pub grown_volumes : KeepsVolumes group next same_on unchanged unchanged Any Any AnySegments
  grown_volumes = record {
    pv_is = λ n. refl;
    lv_is = λ n. refl;
    pv_apart = λ a b first second same. same;
    lv_apart = λ a b first second same. same;
    pv_there = λ n pv stays is. (pv, is, refl, refl);
    lv_there = λ n row stays is. grown.stays n row is;
    lv_from = λ m now is.
        ⊎_elim
        (λ old. inl (record { n = m; was = old.0; stays = tt; at = refl; there = old.1; kept = old.2 }))
        (λ plain. inr plain) (grown.came m now is);
    below = λ run within stays. any_stays run.on;
    above = λ run m within lies moves. tt;
  }

  new_leg : (run : LegRun) → IsNewRun group run → IsNewLeg group next same_on run
  new_leg run is = record {
    pv = is.pv;
    on_pv = is.on_pv;
    within =
        subst (λ (o : On). LiesWithin next o (run.first + run.count)) (sym is.on_pv)
        (subst (λ (o : On). LiesWithin group o (run.first + run.count)) is.on_pv is.within);
    unused = is.unused;
  }

  stays_leg : (run : LegRun) → Contains (runs_of group) run → WasLeg group same_on unchanged Any run
  stays_leg run within = record {
    was = run;
    within = within;
    stays = tt;
    lv = refl;
    segment = refl;
    leg = refl;
    lies = refl;
    first = refl;
    count = omega arith;
  }

  stands : (run : LegRun) → Contains (runs_of group) run → IsThere next same_on unchanged run
  stands run within = record { now = run; within = run_there run within; lv = refl; lies = refl; first = refl; count = refl }

  grown_edit : IsEdit group next same_on unchanged unchanged Any Any AnySegments
  grown_edit = record {
    volumes = grown_volumes;
    more = grown.more;
    new = All-weaker (IsNewRun group) (IsNewLeg group next same_on) new_leg grown.more grown.new;
    apart = grown.apart;
    leg_from = λ run within. ⊎_elim (λ old. inl (stays_leg run old)) (λ new. inr new) (run_back run within);
    leg_there = λ run m within stays lies. stands run within;
  }

  pub grown_legs : LegsAreAllowed group → LegsAreAllowed next
  grown_legs legs = legs_kept group next same_on unchanged unchanged Any Any AnySegments grown_edit legs
