use Rattle.std.proofs.Common.{refl, sym, subst}
use Rattle.lvm_run.specs.Sessions.{IsScriptCause}
use Rattle.lvm_run.specs.Sourced.{source}
use Rattle.lvm_run.proofs.SessionCauses.{refused_cause, unread_cause}
use Rattle.lvm_run.proofs.session.read_lines.Goals as goal

pub returns-in-Err-clause-read : goal.returns-in-Err-clause-read
returns-in-Err-clause-read g c =
    let from = source (g.R.Source.left c.args.script.now) (g.R.Source.fault_count c.args.script.now) in
    let to = source (g.R.Source.left c.read_all.new.from) (g.R.Source.fault_count c.read_all.new.from) in
    record {
      cause = subst (IsScriptCause from to) (sym c.source_ending.ensures)
          (unread_cause from to c.in-Err.fault c.in-Err.ensures.long c.in-Err.ensures.failed);
      undrawn = refl;
    }

pub returns-in-Ok-session_script-clause-read : goal.returns-in-Ok-session_script-clause-read
returns-in-Ok-session_script-clause-read g c =
    let e = c.in-Ok.ensures in
    let its = c.in-Ok-session_script.ensures.script in
    record {
      text = c.in-Ok.text;
      gives = (e.text.0, e.text.1, e.ended, e.unfaulted);
      commands = its.0;
      meant = its.1;
      drawn = its.2;
    }

pub returns-clause-read : goal.returns-clause-read
returns-clause-read g c =
    let from = source (g.R.Source.left c.args.script.now) (g.R.Source.fault_count c.args.script.now) in
    let to = source (g.R.Source.left c.read_all.new.from) (g.R.Source.fault_count c.read_all.new.from) in
    let e = c.in-Ok.ensures in
    record {
      cause = subst (IsScriptCause from to) (sym c.script_ending.ensures)
          (refused_cause from to c.in-Ok.text (e.text.0, e.text.1, e.ended, e.unfaulted) c.in-Err-session_script.refusal
          c.in-Err-session_script.ensures.script);
      undrawn = c.in-Err-session_script.ensures.undrawn;
    }
