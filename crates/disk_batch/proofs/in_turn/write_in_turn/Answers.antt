use Rattle.std.proofs.Common.{◌≡◌, ◌+◌, ◌++◌, ◌∷◌, [], List, ℕ, All, reverse, sum_by, Some, refl, sym, ap, subst, ◌∙◌, arith}
use Rattle.std.proofs.lemmas.List.{reverse-reverse}
use Rattle.std.proofs.lemmas.List.Elements.{All-pop}
use Rattle.std.proofs.lemmas.List.Sorted.{All-permutation, sum_by-IsPermutation}
use Rattle.disk_model.specs.Idle.{SpendsAtMost}
use Rattle.disk_model.proofs.LastFault.{same_faults_both}
use Rattle.disk_batch.specs.declared.batch.Batch.{Batch}
use Rattle.disk_batch.specs.InTurn.{CanRun, ops_of, sectors_of}
use Rattle.disk_batch.proofs.InTurn.{turns_told_none}
use Rattle.disk_batch.proofs.TurningBatches.{spends_both, spends_none, sum_more, taken_off, turn_after, turn_failed}
use Rattle.disk_batch.proofs.in_turn.write_in_turn.Goals as goal

pub loop-rest-init : goal.loop-rest-init
loop-rest-init g c =
    let s = g.S.Shelf.state c.args.shelf.now in
    let all = c.args.batches.items in
    let rest = c.reverse.new.self.items in
    record {
      done = (
        [],
        ap reverse c.reverse.ensures.items ∙ reverse-reverse all,
        turns_told_none s.told s.told _ refl,
        spends_none s c.requires.idle,
      );
      faults = λ pv. refl;
      can_run = All-permutation (CanRun s.sizes) all rest c.reverse.ensures.permutation c.requires.can_run;
      ops = omega (arith, sum_by-IsPermutation ops_of all rest c.reverse.ensures.permutation, c.requires.ops);
      sectors = omega (arith, sum_by-IsPermutation sectors_of all rest c.reverse.ensures.permutation, c.requires.sectors);
    }

pub returns-in-Err-clause-told : goal.returns-in-Err-clause-told
returns-in-Err-clause-told g c =
    let done = c.loop-rest.invariant.done in
    let last = c.in-Err.ensures.last in
    turn_failed _ _ _ done.0 c.write_last.new.list.items c.loop-rest.rest.items c.args.batches.items last.batch done.1 last.last done.2
    last.told

pub loop-rest-preserved : goal.loop-rest-preserved
loop-rest-preserved g c =
    let s0 = g.S.Shelf.state c.args.shelf.now in
    let s1 = g.S.Shelf.state c.loop-rest.shelf in
    let s2 = g.S.Shelf.state c.write_last.new.shelf in
    let done = c.loop-rest.invariant.done in
    let last = c.in_default.ensures.last in
    let rest = c.write_last.new.list.items in
    let list = c.loop-rest.rest.items in
    let ops : sum_by ops_of list ≡ sum_by ops_of rest + ops_of last.batch =
    ap (λ (l : List Batch). sum_by ops_of l) last.last ∙ sum_more ops_of rest last.batch in
    let sectors : sum_by sectors_of list ≡ sum_by sectors_of rest + sectors_of last.batch =
    ap (λ (l : List Batch). sum_by sectors_of l) last.last ∙ sum_more sectors_of rest last.batch in
    record {
      done = (
        done.0 ++ last.batch ∷ [],
        taken_off done.0 rest list c.args.batches.items last.batch done.1 last.last,
        turn_after s0.told s1.told s2.told done.0 last.batch _ done.2 last.told,
        subst (λ (n : ℕ). SpendsAtMost s0 n (sum_by sectors_of (done.0 ++ last.batch ∷ [])) s2) (sym (sum_more ops_of done.0 last.batch))
            (subst (λ (n : ℕ). SpendsAtMost s0 (sum_by ops_of done.0 + ops_of last.batch) n s2)
            (sym (sum_more sectors_of done.0 last.batch))
            (spends_both s0 s1 s2 (sum_by ops_of done.0) (ops_of last.batch) (sum_by sectors_of done.0) (sectors_of last.batch) done.3
            last.spends)),
      );
      faults = same_faults_both s0 s1 s2 c.loop-rest.invariant.faults c.in_default.ensures.fault;
      can_run =
          subst (λ (l : List ℕ). All (CanRun l) rest) (sym last.spends.sizes)
          (All-pop (CanRun s1.sizes) list rest (Some last.batch) last.last c.loop-rest.invariant.can_run).0;
      ops = omega (arith, ops, last.spends.spare_ops, c.loop-rest.invariant.ops);
      sectors = omega (arith, sectors, last.spends.spare_sectors, c.loop-rest.invariant.sectors);
    }
