use Rattle.std.proofs.Common.{Bool, [], ◌∷◌, true, false, cond, is_ok, ap, subst}
use Rattle.std.proofs.lemmas.Result.{err_from_is_err_and}
use Rattle.disk_model.specs.CarriesOut.{with_operation}
use Rattle.disk_model.specs.Since.{BetweenRecords, KeepsSectors}
use Rattle.disk_model.specs.Steps.{Flushing}
use Rattle.disk_model.proofs.KeptSectors.{keeps_told_both}
use Rattle.disk_model.proofs.StepsSince.{between_both}
use Rattle.cow_store.specs.Layout.{lengths_of}
use Rattle.cow_store.specs.VolStates.{Operates}
use Rattle.cow_store.specs.Writing.{FlushesBoth, WritesNone}
use Rattle.cow_store.proofs.Goes.{operation_told, told_by}
use Rattle.cow_store.proofs.OpenedStore.{flushes_both}
use Rattle.cow_store.proofs.SectorWrites.{flush_keeps, flush_writes_none, flushed_both, none_both}
use Rattle.cow_store.proofs.Setting.{on_well}
use Rattle.cow_store.proofs.vol_ops.flush_both.Goals as goal

pub returns-in_err-flush_volume-clause-told : goal.returns-in_err-flush_volume-clause-told
returns-in_err-flush_volume-clause-told g c =
    let s0 = g.V.Vols.state c.args.vols.now in
    let s1 = g.V.Vols.state c.flush_volume.new.vols in
    let p = err_from_is_err_and c.from_residual.result c.from_residual.ensures.1 in
    rw p.1
    (told_by s0 (Flushing 0) false s1 (λ t t'. KeepsSectors t [] t')
    (subst (λ (b : Bool). Operates s0 (Flushing 0) b s1) (ap is_ok c.in_err-flush_volume.was) c.flush_volume.ensures.operates)
    (λ t e tag fresh. flush_keeps t tag 0 false fresh))

pub returns-in_err-flush_volume-clause-stands : goal.returns-in_err-flush_volume-clause-stands
returns-in_err-flush_volume-clause-stands g c =
    let s0 = g.V.Vols.state c.args.vols.now in
    let s1 = g.V.Vols.state c.flush_volume.new.vols in
    let p = err_from_is_err_and c.from_residual.result c.from_residual.ensures.1 in
    rw p.1
    (told_by s0 (Flushing 0) false s1 (λ t t'. WritesNone (lengths_of s0.sizes) false t t')
    (subst (λ (b : Bool). Operates s0 (Flushing 0) b s1) (ap is_ok c.in_err-flush_volume.was) c.flush_volume.ensures.operates)
    (λ t e tag fresh. flush_writes_none (lengths_of s0.sizes) t tag 0 false fresh))

pub returns-clause-told : goal.returns-clause-told
returns-clause-told g c =
    let s0 = g.V.Vols.state c.args.vols.now in
    let s1 = g.V.Vols.state c.flush_volume.new.vols in
    let s2 = g.V.Vols.state c.flush_volume-2.new.vols in
    let well = is_ok c.flush_volume-2.result in
    flushed_both s0.told s2.told well
    (keeps_told_both (0 ∷ []) (cond well (1 ∷ []) []) s0.told s1.told s2.told
    (told_by s0 (Flushing 0) true s1 (λ t t'. KeepsSectors t (0 ∷ []) t')
    (subst (λ (b : Bool). Operates s0 (Flushing 0) b s1) (ap is_ok c.in_ok-flush_volume.was) c.flush_volume.ensures.operates)
    (λ t e tag fresh. flush_keeps t tag 0 true fresh))
    (told_by s1 (Flushing 1) well s2 (λ t t'. KeepsSectors t (cond well (1 ∷ []) []) t') c.flush_volume-2.ensures.operates
    (λ t e tag fresh. flush_keeps t tag 1 well fresh)))

pub returns-clause-stands : goal.returns-clause-stands
returns-clause-stands g c =
    let s0 = g.V.Vols.state c.args.vols.now in
    let s1 = g.V.Vols.state c.flush_volume.new.vols in
    let s2 = g.V.Vols.state c.flush_volume-2.new.vols in
    let well = is_ok c.flush_volume-2.result in
    let lengths = lengths_of s0.sizes in
    between_both (λ t t'. WritesNone lengths true t t') (λ t t'. WritesNone lengths well t t') (λ t t'. WritesNone lengths well t t')
    s0.told
    s1.told s2.told (λ a b c'. none_both lengths well a b c')
    (told_by s0 (Flushing 0) true s1 (λ t t'. WritesNone lengths true t t')
    (subst (λ (b : Bool). Operates s0 (Flushing 0) b s1) (ap is_ok c.in_ok-flush_volume.was) c.flush_volume.ensures.operates)
    (λ t e tag fresh. flush_writes_none lengths t tag 0 true fresh))
    (told_by s1 (Flushing 1) well s2 (λ t t'. WritesNone lengths well t t') c.flush_volume-2.ensures.operates
    (λ t e tag fresh. flush_writes_none lengths t tag 1 well fresh))

pub returns-clause-flushes : goal.returns-clause-flushes
returns-clause-flushes g c =
    let s0 = g.V.Vols.state c.args.vols.now in
    let s1 = g.V.Vols.state c.flush_volume.new.vols in
    let s2 = g.V.Vols.state c.flush_volume-2.new.vols in
    let first = c.in_ok-flush_volume.ensures.operates in
    on_well c.flush_volume-2.result (λ b. Operates s1 (Flushing 1) b s2) (BetweenRecords FlushesBoth s0.told s2.told)
    c.flush_volume-2.ensures.operates
    (λ second t e. (
      _,
      operation_told s1 (Flushing 1) true s2 (with_operation first.told.0 (Flushing 0) true first.told.1 t) second
          (operation_told s0 (Flushing 0) true s1 t first e),
      flushes_both t first.told.0 second.told.0 first.told.1 second.told.1,
    ))
