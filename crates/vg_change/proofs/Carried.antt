-- Each exit of a line that is carried out.
use Rattle.std.proofs.Common.{◌≡◌, ◌≤◌, ◌<◌, ℕ, Bool, true, false, List, [], Option, Some, None, inl, inr, refl, sym, ap, subst, ◌∙◌}
use Rattle.std.specs.Prelude.{All, MatchResult, Result, Ok, Err, is_ok, is_some}
use Rattle.line_answers.specs.declared.op_refusal.OpRefusal.{OpRefusal}
use Rattle.lvm_script.specs.declared.line.Line.{Line}
use Rattle.disk_model.specs.Calls.{Reserves}
use Rattle.disk_model.specs.Faults.{HasSameFaults}
use Rattle.disk_model.specs.Idle.{IsIdleAgain}
use Rattle.disk_model.specs.Since.{BetweenRecords}
use Rattle.disk_model.specs.State.{IsLawful, State}
use Rattle.disk_model.specs.Steps.{Record}
use Rattle.extent_alloc.specs.declared.part.Part.{Part}
use Rattle.disk_batch.specs.InTurn.{Put, WritesInTurn}
use Rattle.group_plan.specs.Cleared.{unused_labels}
use Rattle.group_plan.specs.Judging.{first_refusal}
use Rattle.group_plan.specs.State.{IsState}
use Rattle.group_plan.specs.declared.refusal.PlanRefusal.{PlanRefusal}
use Rattle.group_plan.specs.declared.refusal.PlanRefusal.TheVariants as plan
use Rattle.group_plan.specs.declared.state.Change.{Change}
use Rattle.group_plan.specs.declared.state.GroupState.{GroupState}
use Rattle.lv_plans.specs.Allocating.{Asking, Takes, PlansWith}
use Rattle.group_ops.specs.Planning.{IsPlanned, asks_of, change_of, refusal_of, rows_of}
use Rattle.change_batches.specs.Batches.{change_batches, clear_batches, zero_batches}
use Rattle.change_batches.specs.Sound.{sizes_of, CanMake, FitsFields, IsReadAgain, LiesOn}
use Rattle.vg_change.specs.LineBatches.{batches_of, clears_of, zeros_of}
use Rattle.vg_change.specs.CarryingOut.{ClearsBehind, IsCarried, IsMade, IsUnclearedBy, KeepsImages, WritesBoth, clear_fault, fault_of}
use Rattle.vg_change.specs.CarryingOut.{made_at}
use Rattle.vg_change.specs.declared.fault.ChangeFault.{ChangeFault}
use Rattle.vg_change.specs.declared.fault.ChangeFault.TheVariants.{NoMemory, Failed}
use Rattle.vg_change.proofs.LineImages.{keeps_images}
use Rattle.vg_change.proofs.Sound.{can_make, lies_on}

-- ---- some parts with which it was judged

passes_with : (asks : Option Asking) (rows : List Part → List (Option OpRefusal)) (wanted : List Part → Change) (change : Change)
    → PlansWith asks rows wanted (Ok change)
    → (given : List Part) × Takes asks given × (first_refusal (rows given) ≡ None) × (change ≡ wanted given)
passes_with None rows wanted change plans = ([], refl, plans.0, plans.1)
passes_with (Some asking) rows wanted change plans = (plans.0, plans.1, plans.2.0, plans.2.1)

refused_with : (asks : Option Asking) (rows : List Part → List (Option OpRefusal)) (wanted : List Part → Change) (refusal : OpRefusal)
    → PlansWith asks rows wanted (Err (plan.Refused refusal))
    → (given : List Part) × Takes asks given × (first_refusal (rows given) ≡ Some refusal)
refused_with None rows wanted refusal plans = ([], refl, plans)
refused_with (Some asking) rows wanted refusal plans = (plans.0, plans.1, plans.2)

module _ (state : GroupState) (line : Line) (now : ℕ) where
  -- the line is planned so
  abbrev Plans : Result Change PlanRefusal → Type 0
  Plans = PlansWith (asks_of state line) (rows_of state line now) (change_of state line now)

  -- ---- nothing was written

  pub wanting : (old new : State) → new.told ≡ old.told → HasSameFaults old new → IsCarried state line now old (Err NoMemory) new
  wanting old new same faults = record {
    given = [];
    takes = λ judged. absurd judged;
    cause = faults;
    images = λ begun. absurd begun;
    told = λ told is. (told, same ∙ is, refl);
  }

  pub unplanned : (why : PlanRefusal) → Plans (Err why) → (old : State) → IsCarried state line now old (Err (fault_of why)) old
  unplanned plan.NoMemory plans old = wanting old old refl (λ pv. refl)
  unplanned (plan.Refused refusal) plans old =
      let p = refused_with (asks_of state line) (rows_of state line now) (change_of state line now) refusal plans in
      record {
        given = p.0;
        takes = λ judged. p.1;
        cause = (λ pv. refl, p.2);
        images = λ begun. absurd begun;
        told = λ told is. (told, is, refl);
      }

  -- ---- its batches were begun

  module _ (is : IsState state) (planned : IsPlanned line.id line.command) (change : Change) (plans : Plans (Ok change)) where
    passed : (given : List Part) × Takes (asks_of state line) given × (refusal_of state line now given ≡ None)
        × (change ≡ change_of state line now given)
    passed = passes_with (asks_of state line) (rows_of state line now) (change_of state line now) change plans

    pub made : CanMake state.areas change now
    made = subst (λ (c : Change). CanMake state.areas c now) (sym passed.3) (can_make state line now passed.0 is planned passed.1 passed.2)

    pub lies : LiesOn (sizes_of state.disks) state.areas change
    lies =
        subst (λ (c : Change). LiesOn (sizes_of state.disks) state.areas c) (sym passed.3)
        (lies_on state line now passed.0 is planned passed.1 passed.2)

    module _ (again : IsReadAgain state.areas change now) (fields : All FitsFields (unused_labels change.cleared state.disks))
        (old mid made_state new : State) (ops sectors : ℕ) (reserves : Reserves old ops sectors mid)
        (zeros : List (List Put)) (zeros_are : zeros ≡ zero_batches change) (puts : List (List Put))
        (writes : puts ≡ change_batches change state.areas now)
        (clears : List (List Put)) (clears_are : clears ≡ clear_batches change.cleared state.disks state.areas) where
      same_zeros : zeros ≡ zeros_of state line now passed.0
      same_zeros = zeros_are ∙ ap zero_batches passed.3

      same_puts : puts ≡ batches_of state line now passed.0
      same_puts = writes ∙ ap (λ (c : Change). change_batches c state.areas now) passed.3

      same_clears : clears ≡ clears_of state line now passed.0
      same_clears = clears_are ∙ ap (λ (c : Change). clear_batches c.cleared state.disks state.areas) passed.3

      written : (well : Bool) (after : Option Record) → BetweenRecords (WritesBoth zeros puts well) mid.told after
          → BetweenRecords (WritesBoth (zeros_of state line now passed.0) (batches_of state line now passed.0) well) old.told after
      written well after told =
          subst (λ (o : Option Record). BetweenRecords
          (WritesBoth (zeros_of state line now passed.0) (batches_of state line now passed.0) well) o after)
          (ap (λ (s : State). s.told) reserves.same)
          (subst (λ (l : List (List Put)). BetweenRecords (WritesBoth l (batches_of state line now passed.0) well) mid.told after)
          same_zeros
          (subst (λ (l : List (List Put)). BetweenRecords (WritesBoth zeros l well) mid.told after) same_puts told))

      faults_kept : HasSameFaults old mid
      faults_kept pv = ap (λ (s : State). s.faults pv) reserves.same

      images_kept : KeepsImages state line now passed.0
      images_kept = keeps_images state line now passed.0 is planned passed.1 passed.2 change passed.3 again fields

      -- an operation of its zeros or batches failed
      pub failed : (pv : ℕ) → mid.faults pv < new.faults pv → BetweenRecords (WritesBoth zeros puts false) mid.told new.told
          → IsCarried state line now old (Err (Failed pv)) new
      failed pv risen told = record {
        given = passed.0;
        takes = λ judged. passed.1;
        cause = (passed.2, subst (λ (n : ℕ). n < new.faults pv) (faults_kept pv) risen);
        images = λ begun. images_kept;
        told = inl (written false new.told told);
      }

      -- all of these were carried out, and the disks cleared, as far as that came
      module _ (lawful : IsLawful made_state) (again_made : IsIdleAgain mid made_state) (again_cleared : IsIdleAgain made_state new)
          (faults : HasSameFaults mid made_state) (first : BetweenRecords (WritesBoth zeros puts true) mid.told made_state.told) where
        abbrev behind : (well : Bool) → BetweenRecords (λ before after. WritesInTurn before clears well after) made_state.told new.told
            → ClearsBehind (zeros_of state line now passed.0) (batches_of state line now passed.0) (clears_of state line now passed.0) well
            old new
        behind well told = record {
          made = made_state;
          lawful = lawful;
          later = subst (λ (n : ℕ). n ≤ made_state.steps) (ap (λ (s : State). s.steps) reserves.same) again_made.later;
          sooner = again_cleared.later;
          first = written true made_state.told first;
          behind =
              subst (λ (l : List (List Put)). BetweenRecords (λ before after. WritesInTurn before l well after) made_state.told new.told)
              same_clears told;
        }

        commits_is : (commits : Bool) → commits ≡ is_some change.group → is_some (change_of state line now passed.0).group ≡ commits
        commits_is commits same = sym (same ∙ ap (λ (c : Change). is_some c.group) passed.3)

        faults_until : HasSameFaults old made_state
        faults_until pv = faults pv ∙ faults_kept pv

        done : (commits : Bool) → is_some (change_of state line now passed.0).group ≡ commits → (moment : ℕ)
            → IsMade commits made_state new moment → BetweenRecords (λ before after. WritesInTurn before clears true after) made_state.told
            new.told
            → IsCarried state line now old (Ok moment) new
        done commits same moment made_then told = record {
          given = passed.0;
          takes = λ judged. passed.1;
          cause = (λ pv. made_then.0 pv ∙ faults_until pv, passed.2);
          images = λ begun. images_kept;
          told = (behind true told, made_then.1 ∙ ap (λ (b : Bool). made_at b made_state.steps new.steps) (sym same));
        }

        uncleared : (commits : Bool) → is_some (change_of state line now passed.0).group ≡ commits → (pv : ℕ)
            → made_state.faults pv < new.faults pv → BetweenRecords (λ before after. WritesInTurn before clears false after) made_state.told
            new.told
            → IsCarried state line now old (Err (clear_fault commits pv made_state.steps)) new
        uncleared true same pv risen told = record {
          given = passed.0;
          takes = λ judged. passed.1;
          cause = (passed.2, subst (λ (n : ℕ). n < new.faults pv) (faults_until pv) risen);
          images = λ begun. images_kept;
          told = (behind false told, refl, same);
        }
        uncleared false same pv risen told = record {
          given = passed.0;
          takes = λ judged. passed.1;
          cause = (passed.2, subst (λ (n : ℕ). n < new.faults pv) (faults_until pv) risen);
          images = λ begun. images_kept;
          told = inr (same, behind false told);
        }

        pub cleared : (commits : Bool) → commits ≡ is_some change.group → (result : Result ℕ ChangeFault)
            → MatchResult result (IsMade commits made_state new) (IsUnclearedBy commits made_state new)
            → BetweenRecords (λ before after. WritesInTurn before clears (is_ok result) after) made_state.told new.told
            → IsCarried state line now old result new
        cleared commits same (Ok moment) made_then told = done commits (commits_is commits same) moment made_then told
        cleared commits same (Err fault) why told =
            subst (λ (f : ChangeFault). IsCarried state line now old (Err f) new) (sym why.2)
            (uncleared commits (commits_is commits same) why.0 why.1 told)
