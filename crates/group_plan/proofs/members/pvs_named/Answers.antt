use Rattle.std.proofs.Common.{ℕ, ◌+◌, List, drop, Some, None, sym, ap, ◌∙◌}
use Rattle.std.specs.Prelude.{filter_map}
use Rattle.group_plan.proofs.NamedPvs.{named_more}
use Rattle.group_plan.specs.Judging.{with_all}
use Rattle.group_plan.specs.Members.{pv_named}
use Rattle.group_plan.proofs.members.pvs_named.Goals as goal
use Rattle.group_plan.proofs.members.pvs_named.Goals.{in-Some, in_default}

pub loop-name-preserved : goal.loop-name-preserved
loop-name-preserved c =
    let rest : List ℕ = filter_map (pv_named c.args.state.now) (drop (c.loop-name.name-index + 1) c.args.names.now) in
    elim c.match-pv_named.branch [
      | in-Some w ↦
          ap (λ all. with_all all rest) (w.all-is ∙ w.insert.ensures)
          ∙ sym (named_more c.args.state.now c.args.names.now c.loop-name.name-index c.name-item.result c.loop-name-test.true c.name-item.is
          c.loop-name.all (Some w.in-Some.pv) (sym c.pv_named.ensures.number ∙ w.in-Some.is))
          ∙ c.loop-name.invariant
      | in_default w ↦
          ap (λ all. with_all all rest) w.all-is
          ∙ sym (named_more c.args.state.now c.args.names.now c.loop-name.name-index c.name-item.result c.loop-name-test.true c.name-item.is
          c.loop-name.all None (sym c.pv_named.ensures.number ∙ w.in_default.is))
          ∙ c.loop-name.invariant
    ]
