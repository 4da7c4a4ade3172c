-- The allocator's refusal as a line's.
use Rattle.std.proofs.Common.{◌≡◌, ℕ, List, Option, Some, None, sym, ap, subst}
use Rattle.std.specs.Prelude.{option_and_then}
use Rattle.meta_model.specs.declared.group.Group.{Group}
use Rattle.extent_alloc.specs.Refusals.{IsReason, refusal_of}
use Rattle.extent_alloc.specs.declared.refusal.AllocRefusal.{AllocRefusal}
use Rattle.extent_alloc.specs.declared.refusal.AllocRefusal.TheVariants as alloc
use Rattle.extent_alloc.specs.declared.request.Request.{Request}
use Rattle.group_plan.specs.Judging.{IsRefusedBy}
use Rattle.group_plan.specs.declared.refusal.PlanRefusal.{PlanRefusal}
use Rattle.group_plan.specs.declared.refusal.PlanRefusal.TheVariants.{NoMemory, Refused}
use Rattle.group_plan.specs.declared.state.GroupState.{GroupState}
use Rattle.lv_plans.specs.Allocating.{shown_refusal, space_row}

-- it refuses nothing
pub space_none : (state : GroupState) (group : Group) (want : Request) → refusal_of group want ≡ None → space_row state group want ≡ None
unfolding space_row
space_none state group want none = ap (option_and_then (shown_refusal state.disk_of)) none

module _ (state : GroupState) (group : Group) (want : Request) (disk_of : List ℕ) (same : disk_of ≡ state.disk_of) where
  by_reason : (refusal : AllocRefusal) (e : PlanRefusal) → refusal_of group want ≡ Some refusal
      → IsRefusedBy (shown_refusal disk_of refusal) e → IsRefusedBy (space_row state group want) e
  unfolding space_row
  by_reason refusal e reason is =
      subst (λ (o : Option AllocRefusal). IsRefusedBy (option_and_then (shown_refusal state.disk_of) o) e) (sym reason)
      (subst (λ (l : List ℕ). IsRefusedBy (shown_refusal l refusal) e) same is)

  -- memory was wanting, or this is its first reason
  pub space_refused : (refusal : AllocRefusal) (e : PlanRefusal) → IsReason (refusal_of group want) refusal
      → IsRefusedBy (shown_refusal disk_of refusal) e → IsRefusedBy (space_row state group want) e
  space_refused alloc.NoMemory NoMemory reason is = tt
  space_refused alloc.NoMemory (Refused refusal) reason is = absurd cc
  space_refused (alloc.NotAllocatable pv) e reason is = by_reason (alloc.NotAllocatable pv) e reason is
  space_refused (alloc.NoSpace need free) e reason is = by_reason (alloc.NoSpace need free) e reason is
  space_refused (alloc.NoRun need longest) e reason is = by_reason (alloc.NoRun need longest) e reason is
  space_refused (alloc.TooFewPvs need fit) e reason is = by_reason (alloc.TooFewPvs need fit) e reason is
