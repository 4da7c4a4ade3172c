use Rattle.std.proofs.Common.{◌≡◌, ℕ, Option, true, false, not, sym, ap, ◌∙◌}
use Rattle.std.specs.Prelude.{is_none}
use Rattle.group_plan.proofs.NamedPvs.{outside_here, outside_past}
use Rattle.group_plan.specs.Members.{is_outside}
use Rattle.group_plan.proofs.members.judge_members.Goals as goal

pub returns-then-is_none : goal.returns-then-is_none
returns-then-is_none c =
    let outside : is_outside c.args.state.now c.name-item.result ≡ true =
    ap (λ (o : Option ℕ). is_none o) (sym c.pv_named.ensures.number) ∙ ap not (c.is_none.ensures ∙ ap not c.if-is_none.true) in
    outside_here c.args.state.now c.args.names.now c.loop-name.name-index c.name-item.result c.loop-name-test.true c.name-item.is
    c.in_ok-name.name c.loop-name.invariant outside c.in_ok-name.ensures

pub loop-name-preserved : goal.loop-name-preserved
loop-name-preserved c =
    let listed : is_outside c.args.state.now c.name-item.result ≡ false =
    ap (λ (o : Option ℕ). is_none o) (sym c.pv_named.ensures.number) ∙ ap not (c.is_none.ensures ∙ ap not c.if-is_none.false) in
    outside_past c.args.state.now c.args.names.now c.loop-name.name-index c.name-item.result c.loop-name-test.true c.name-item.is
    c.loop-name.invariant listed
