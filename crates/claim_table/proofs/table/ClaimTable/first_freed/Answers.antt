use Rattle.std.proofs.Common.{sym, ◌∙◌, arith}
use Rattle.claim_table.proofs.Watched.{beside_step}
use Rattle.claim_table.proofs.table.ClaimTable.first_freed.Goals as goal

pub loop-at-preserved : goal.loop-at-preserved
loop-at-preserved c = record {
  within = omega (arith, c.loop-at-test.true);
  before =
      beside_step c.args.self.now c.args.claim.now c.args.self.now.deferred c.loop-at.at (omega (arith, c.loop-at-test.true, c.requires.within))
      (sym c.is_freed.ensures ∙ c.if-not-is_freed.true) c.loop-at.invariant.before;
}
