use Rattle.std.proofs.Common.{◌<◌, ◌≤◌, length, take, sym, ◌∙◌, arith}
use Rattle.std.proofs.lemmas.Bool.{not-true, not-false}
use Rattle.claim_table.specs.Steps.{no_claim}
use Rattle.claim_table.proofs.FreePieces.{ready_end, ready_here, ready_step}
use Rattle.claim_table.proofs.table.ClaimTable.first_of_all.Goals as goal

pub loop-at-preserved : goal.loop-at-preserved
loop-at-preserved c =
    let lt : c.loop-at.at < length c.args.self.now.deferred = omega arith in
    let passed =
    ready_step c.args.self.now c.args.self.now.deferred c.loop-at.at no_claim lt
    (not-true _ (sym c.is_blocked.ensures ∙ c.if-is_blocked.true)) in
    (omega (arith, passed, c.loop-at.invariant), omega arith)

pub returns-else-is_blocked : goal.returns-else-is_blocked
returns-else-is_blocked c =
    let lt : c.loop-at.at < length c.args.self.now.deferred = omega arith in
    let here =
    ready_here c.args.self.now c.args.self.now.deferred c.loop-at.at no_claim lt
    (not-false _ (sym c.is_blocked.ensures ∙ c.if-is_blocked.false)) in
    record { place = omega (arith, here, c.loop-at.invariant); within = c.loop-at.invariant.1 }

pub returns-after-loop-at : goal.returns-after-loop-at
returns-after-loop-at c =
    let past : length c.args.self.now.deferred ≤ c.loop-at.at = omega arith in
    let none = ready_end c.args.self.now (take c.loop-at.at c.args.self.now.deferred) c.args.self.now.deferred c.loop-at.at past in
    record { place = omega (arith, none, c.loop-at.invariant); within = c.loop-at.invariant.1 }
