use Rattle.std.proofs.Common.{◌≡◌, ◌+◌, [], ◌∷◌, List, ℕ, true, false, is_ok, ap, subst, ◌∙◌, arith}
use Rattle.std.proofs.lemmas.Result.{err_from_is_err_and}
use Rattle.disk_model.specs.Puts.{one_sector}
use Rattle.disk_model.specs.Steps.{Flushing, Writing}
use Rattle.cow_store.specs.Layout.{zeros}
use Rattle.cow_store.specs.VolStates.{Operates}
use Rattle.cow_store.proofs.Clearing.{WritesZeros, cleared_failed, cleared_flushed, zeros_more}
use Rattle.cow_store.proofs.Goes.{operation_told}
use Rattle.cow_store.proofs.taking.clear_table.Goals as goal

pub returns-in_err-write_sector-clause-told : goal.returns-in_err-write_sector-clause-told
returns-in_err-write_sector-clause-told g c =
    let s1 = g.V.Vols.state c.loop-k.vols in
    let s2 = g.V.Vols.state c.write_sector.new.vols in
    let k = c.loop-k.k in
    let work = Writing (one_sector 1 (1 + k)) (zeros ∷ []) in
    let p = err_from_is_err_and c.from_residual.result c.from_residual.ensures.1 in
    let o : Operates s1 work false s2 =
    subst (λ (l : List ℕ). Operates s1 (Writing (one_sector 1 (1 + k)) (l ∷ [])) false s2) c.zeroed-zeros.ensures
    c.in_err-write_sector.ensures.operates in
    rw p.1
    (λ old e.
    let first = c.loop-k.invariant.told old e in (
      _,
      operation_told s1 work false s2 first.0 o first.1,
      cleared_failed c.args.tables (k + 1) old _ (zeros_more k old first.0 o.told.0 false o.told.1 first.2),
    ))

pub loop-k-preserved : goal.loop-k-preserved
loop-k-preserved g c =
    let s1 = g.V.Vols.state c.loop-k.vols in
    let s2 = g.V.Vols.state c.write_sector.new.vols in
    let k = c.loop-k.k in
    let work = Writing (one_sector 1 (1 + k)) (zeros ∷ []) in
    let o : Operates s1 work true s2 =
    subst (λ (l : List ℕ). Operates s1 (Writing (one_sector 1 (1 + k)) (l ∷ [])) true s2) c.zeroed-zeros.ensures
    c.in_ok-write_sector.ensures.operates in
    let kept = c.loop-k.invariant.spends in
    record {
      told = λ old e.
          let first = c.loop-k.invariant.told old e in (
            _,
            operation_told s1 work true s2 first.0 o first.1,
            zeros_more k old first.0 o.told.0 true o.told.1 first.2,
          );
      spends = record {
        spare = omega (arith, kept.spare, o.spare);
        faults = λ v. omega (arith, kept.faults v, ap (λ (n : ℕ). n) (o.faults v));
        sizes = o.sizes ∙ kept.sizes;
      };
    }

pub returns-clause-told : goal.returns-clause-told
returns-clause-told g c =
    let s1 = g.V.Vols.state c.loop-k.vols in
    let s2 = g.V.Vols.state c.flush_volume.new.vols in
    let well = is_ok c.flush_volume.result in
    let o = c.flush_volume.ensures.operates in
    let all : c.loop-k.k ≡ c.args.tables = omega (arith, c.loop-k-test.false, c.loop-k.auto.k-end) in
    λ old e.
    let first = c.loop-k.invariant.told old e in (
      _,
      operation_told s1 (Flushing 1) well s2 first.0 o first.1,
      cleared_flushed c.args.tables old first.0 o.told.0 well o.told.1 (subst (λ (n : ℕ). WritesZeros n true old first.0) all first.2),
    )
