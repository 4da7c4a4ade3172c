use Rattle.std.proofs.Common.{ℕ, Option, None, refl, sym, ap, subst, ◌∙◌}
use Rattle.std.specs.Prelude.{Err}
use Rattle.disk_model.proofs.IdleAgain.{again_nothing}
use Rattle.group_plan.specs.State.{IsState}
use Rattle.group_plan.specs.declared.state.GroupState.{GroupState}
use Rattle.group_ops.specs.Laws.{state_in}
use Rattle.group_ops.specs.Planning.{IsBackupOf}
use Rattle.group_ops.proofs.WholeState.{whole_is_state}
use Rattle.change_batches.specs.Sound.{sizes_of}
use Rattle.vg_change.proofs.Carried.{wanting}
use Rattle.vg_change.specs.CarryingOut.{IsCarried}
use Rattle.vg_change.specs.declared.fault.ChangeFault.TheVariants as fault
use Rattle.lvm_run.specs.declared.outcome.Outcome.{Outcome}
use Rattle.lvm_run.proofs.changing.change_found.Goals as goal

pub returns-in-Err : goal.returns-in-Err
returns-in-Err g c =
    let s0 = g.S.Shelf.state c.args.shelf.now in
    record {
      backup = None;
      result = Err fault.NoMemory;
      given_back = λ judged. absurd judged;
      is = refl;
      took_is = refl;
      again = again_nothing s0 c.requires.idle;
      carried = wanting (state_in c.args.found c.args.names.now None) c.args.line.now c.args.now s0 s0 refl (λ pv. refl);
    }

pub carry_out-requires-clause-state : goal.carry_out-requires-clause-state
carry_out-requires-clause-state g c =
    subst IsState (sym c.in-Ok.ensures.2) (whole_is_state c.args.found c.args.names.now c.in-Ok.ensures.0 c.requires.shape c.requires.whole
    c.requires.count c.requires.named)

pub carry_out-requires-clause-backup : goal.carry_out-requires-clause-backup
carry_out-requires-clause-backup g c =
    subst (λ (state : GroupState). IsBackupOf c.args.line.now.command state.backup) (sym c.in-Ok.ensures.2) c.in-Ok.ensures.1

pub carry_out-requires-clause-disks : goal.carry_out-requires-clause-disks
carry_out-requires-clause-disks g c = c.requires.sizes ∙ ap (λ (state : GroupState). sizes_of state.disks) (sym c.in-Ok.ensures.2)

pub returns : goal.returns
returns g c =
    let e = c.carry_out.ensures in
    let judged = c.in-Ok.ensures in
    record {
      backup = judged.0;
      result = c.carry_out.result;
      given_back = λ was. judged.1;
      is = ap (λ (r : Outcome × Option ℕ). r.0) c.outcome_of.ensures;
      took_is = ap (λ (r : Outcome × Option ℕ). r.1) c.outcome_of.ensures;
      again = e.again;
      carried =
          subst (λ (state : GroupState). IsCarried state c.args.line.now c.args.now (g.S.Shelf.state c.args.shelf.now) c.carry_out.result
          (g.S.Shelf.state c.carry_out.new.shelf)) judged.2 e.carried;
    }
