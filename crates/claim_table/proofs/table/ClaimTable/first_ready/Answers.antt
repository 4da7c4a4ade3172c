use Rattle.std.proofs.Common.{◌≤◌, List, [], length, get_or, sym, ap, subst, ◌∙◌, arith}
use Rattle.std.proofs.lemmas.List.{get_or_default}
use Rattle.claim_table.specs.declared.claim.Claim.{Claim}
use Rattle.claim_table.specs.Claims.{Claims}
use Rattle.claim_table.specs.Conflict.{clash}
use Rattle.claim_table.specs.Steps.{no_claim}
use Rattle.claim_table.specs.Watched.{IsWatched}
use Rattle.claim_table.proofs.Watched.{first_found, here_still, left_step}
use Rattle.claim_table.proofs.table.ClaimTable.first_ready.Goals as goal

pub loop-claim-preserved : goal.loop-claim-preserved
loop-claim-preserved c = record {
  within = omega (arith, c.loop-claim.invariant.within, c.first_beside-first.ensures.within);
  looked =
      left_step c.args.self.now c.deref-claim-items.result.now c.args.self.now.deferred c.loop-claim.claim-index c.loop-claim.first
      c.first_beside-first.result (get_or c.deref-claim-items.result.now c.loop-claim.claim-index no_claim) c.loop-claim-test.true
      (get_or_default c.deref-claim-items.result.now c.loop-claim.claim-index no_claim
      (get_or c.deref-claim-items.result.now c.loop-claim.claim-index no_claim) c.loop-claim-test.true)
      c.first_beside-first.ensures.within c.first_beside-first.ensures.before c.loop-claim.invariant.looked;
  here =
      here_still c.args.self.now c.loop-claim.first c.first_beside-first.result c.first_beside-first.ensures.here c.loop-claim.invariant.here
      c.loop-claim.invariant.within;
}

pub returns-clause-place : goal.returns-clause-place
returns-clause-place c =
    let end : length c.self.inside.left.items ≤ c.loop-claim.claim-index =
    (let same = ap (λ (l : List Claim). length l) c.deref-claim-items.ensures.value in omega (arith, same, c.loop-claim-test.false)) in
    sym (first_found c.args.self.now c.self.inside.left.items c.loop-claim.first c.loop-claim.invariant.within
    (subst (λ (v : Claims). IsWatched v c.self.inside.left.items [] v.deferred) c.self.view_is (c.self.invariant.6 c.if-self.false))
    (λ j k y d lt below clashes. c.loop-claim.invariant.looked j k y d (omega (arith, end, lt)) below
    (ap (λ (l : List Claim). clash (get_or l j y) (get_or c.args.self.now.deferred k d)) c.deref-claim-items.ensures.value ∙ clashes))
    c.loop-claim.invariant.here)
