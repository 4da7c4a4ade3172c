use Rattle.std.proofs.Common.{subst, sym, take}
use Rattle.lvm_script.specs.declared.script_refusal.ScriptRefusal.{ScriptRefusal}
use Rattle.lvm_script.specs.Script.{IsScriptRefusal}
use Rattle.session_run.specs.SessionScript.{session_commands}
use Rattle.session_run.proofs.Refusing.{refused_first}
use Rattle.session_run.proofs.script.refusal_at.Goals as goal

pub returns : goal.returns
returns c =
    let text = c.args.text.now in
    let u = c.args.unrun in
    subst (λ (r : ScriptRefusal). IsScriptRefusal (session_commands text) r) (sym c.unwrap_or.ensures)
    (refused_first text (take u.before text) u.number u.place c.requires.first c.requires.before _ c.refusal_of.ensures
    c.fault_of-fault.result c.fault_of-fault.ensures)
