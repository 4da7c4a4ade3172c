use Rattle.std.proofs.Common.{Err, [], ◌∷◌, length, ap, ◌∙◌, length-append, subst, arith}
use Rattle.meta_model.specs.Tables.{Pushes}
use Rattle.group_edits.proofs.FreeNames.{free_after, free_not_taken, joined_next}
use Rattle.group_edits.proofs.join_pvs.push_all.Goals as goal

pub unreachable-requires : goal.unreachable-requires
unreachable-requires c =
    let pushed =
    subst (λ refusal. Pushes c.loop-pv.pvs c.in_ok-name.name c.in_ok-copy.copy (Err refusal) c.push.new.self) c.in-Err-Taken.field-0-is
    c.in-Err-Taken.ensures in
    free_not_taken c.loop-pv.pvs c.args.lvs.now c.in_ok-name.name
    (omega (arith, c.loop-pv.invariant.count, c.requires.few, c.loop-pv-test.true)) c.in_ok-name.ensures.name pushed.2

pub loop-pv-preserved : goal.loop-pv-preserved
loop-pv-preserved c = record {
  count =
      omega (
        arith,
        ap length c.in-Ok.ensures.0,
        length-append c.loop-pv.pvs ((c.in_ok-name.name, c.in_ok-copy.copy) ∷ []),
        c.loop-pv.invariant.count,
      );
  taken =
      free_after c.loop-pv.pvs c.push.new.self c.args.lvs.now c.in_ok-name.name c.in_ok-copy.copy c.in_ok-name.number
      (omega (arith, c.loop-pv.invariant.count, c.requires.few, c.loop-pv-test.true)) c.in_ok-name.ensures.name
      c.in_ok-name.ensures.number c.in-Ok.ensures.0;
  pushed =
      joined_next c.args.lvs.now c.loop-pv.pvs c.push.new.self c.args.more.now c.loop-pv.pv-index c.pv-item.result c.in_ok-name.name
      c.in_ok-copy.copy c.loop-pv-test.true c.pv-item.is c.in_ok-name.ensures.name c.in_ok-copy.ensures c.in-Ok.ensures.0
      ∙ c.loop-pv.invariant.pushed;
}
