use Rattle.std.proofs.Common.{◌≡◌, ◌≤◌, ◌<◌, ℕ, ◌+◌, ◌-◌, ◌*◌, min, List, true, false, is_ok, ap, subst, sym, ◌∙◌, arith}
use Rattle.std.proofs.lemmas.Result.{err_from_is_err_and}
use Rattle.disk_model.specs.CarriesOut.{with_operation}
use Rattle.disk_model.specs.Since.{BetweenRecords}
use Rattle.disk_model.specs.Steps.{Flushing}
use Rattle.disk_model.proofs.StepsSince.{between_both}
use Rattle.cow_store.specs.Layout.{lengths_of, slots_in, used_sectors}
use Rattle.cow_store.specs.Writing.{CopiesChunk, CopiesSectors}
use Rattle.cow_store.proofs.Copies.{chunk_failed, chunk_flushed, copies_failed, copies_more}
use Rattle.cow_store.proofs.Goes.{operation_told}
use Rattle.cow_store.proofs.Room.{some_slot, used_fit}
use Rattle.cow_store.proofs.saving.copy_chunk.Goals as goal

pub slot_start_of-to-requires-clause-slots : goal.slot_start_of-to-requires-clause-slots
slot_start_of-to-requires-clause-slots g c =
    let store = (lengths_of (g.V.Vols.state c.args.vols.now).sizes).store in
    let some : c.args.slot < slots_in store = subst (λ (n : ℕ). c.args.slot < n) c.requires.slots c.requires.slot in
    let fits = used_fit store (some_slot store c.args.slot some) in
    let same : used_sectors c.args.slots ≡ used_sectors (slots_in store) = ap used_sectors c.requires.slots in
    omega (arith, fits, same, c.requires.fits)

pub loop-k-preserved : goal.loop-k-preserved
loop-k-preserved g c =
    let s0 = g.V.Vols.state c.args.vols.now in
    let s1 = g.V.Vols.state c.loop-k.vols in
    let s2 = g.V.Vols.state c.copy_sector.new.vols in
    let kept = c.loop-k.invariant in
    let e = c.in_ok-copy_sector.ensures in
    let from = 8 * c.args.chunk in
    let to = c.slot_start_of-to.result in
    let one : BetweenRecords (λ t t'. CopiesSectors (lengths_of s0.sizes) (from + c.loop-k.k) (to + c.loop-k.k) 1 true t t') s1.told
    s2.told =
    subst (λ (l : List ℕ). BetweenRecords (λ t t'. CopiesSectors (lengths_of l) (from + c.loop-k.k) (to + c.loop-k.k) 1 true t t') s1.told
    s2.told)
    kept.spends.sizes e.told in
    record {
      told =
          between_both (λ t t'. CopiesSectors (lengths_of s0.sizes) from to c.loop-k.k true t t')
          (λ t t'. CopiesSectors (lengths_of s0.sizes) (from + c.loop-k.k) (to + c.loop-k.k) 1 true t t')
          (λ t t'. CopiesSectors (lengths_of s0.sizes) from to (c.loop-k.k + 1) true t t') s0.told s1.told s2.told
          (λ a b d. copies_more (lengths_of s0.sizes) from to c.loop-k.k true a b d) kept.told one;
      spends = record {
        spare = omega (arith, kept.spends.spare, e.spends.spare);
        faults = λ v. omega (arith, kept.spends.faults v, e.spends.faults v);
        sizes = e.spends.sizes ∙ kept.spends.sizes;
      };
    }

pub returns-in_err-copy_sector-clause-told : goal.returns-in_err-copy_sector-clause-told
returns-in_err-copy_sector-clause-told g c =
    let s0 = g.V.Vols.state c.args.vols.now in
    let s1 = g.V.Vols.state c.loop-k.vols in
    let s2 = g.V.Vols.state c.copy_sector.new.vols in
    let kept = c.loop-k.invariant in
    let e = c.in_err-copy_sector.ensures in
    let from = 8 * c.args.chunk in
    let to = c.slot_start_of-to.result in
    let lengths = lengths_of s0.sizes in
    let p = err_from_is_err_and c.from_residual.result c.from_residual.ensures.1 in
    let one : BetweenRecords (λ t t'. CopiesSectors lengths (from + c.loop-k.k) (to + c.loop-k.k) 1 false t t') s1.told s2.told =
    subst (λ (l : List ℕ). BetweenRecords (λ t t'. CopiesSectors (lengths_of l) (from + c.loop-k.k) (to + c.loop-k.k) 1 false t t') s1.told
    s2.told)
    kept.spends.sizes e.told in
    let few : c.loop-k.k + 1 ≤ min 8 (lengths.origin - from) =
    omega (arith, c.loop-k-test.true, c.min-count.ensures, c.sectors-length.ensures) in
    rw (p.1, sym c.slot_start_of-to.ensures)
    (between_both (λ t t'. CopiesSectors lengths from to c.loop-k.k true t t')
    (λ t t'. CopiesSectors lengths (from + c.loop-k.k) (to + c.loop-k.k) 1 false t t')
    (λ t t'. CopiesChunk lengths from to (min 8 (lengths.origin - from)) false t t') s0.told s1.told s2.told
    (λ a b d first next. chunk_failed lengths from to (min 8 (lengths.origin - from)) a d
    (copies_failed lengths from to (c.loop-k.k + 1) (min 8 (lengths.origin - from)) a d few
    (copies_more lengths from to c.loop-k.k false a b d first next))) kept.told one)

pub returns-clause-told : goal.returns-clause-told
returns-clause-told g c =
    let s0 = g.V.Vols.state c.args.vols.now in
    let s1 = g.V.Vols.state c.loop-k.vols in
    let s2 = g.V.Vols.state c.flush_volume.new.vols in
    let kept = c.loop-k.invariant in
    let from = 8 * c.args.chunk in
    let to = c.slot_start_of-to.result in
    let lengths = lengths_of s0.sizes in
    let well = is_ok c.flush_volume.result in
    let all : c.loop-k.k ≡ min 8 (lengths.origin - from) =
    omega (arith, c.loop-k-test.false, c.loop-k.auto.k-end, c.min-count.ensures, c.sectors-length.ensures) in
    rw (sym c.slot_start_of-to.ensures)
    (λ old e.
    let first = kept.told old e in
    let o = c.flush_volume.ensures.operates in (
      _,
      operation_told s1 (Flushing 1) well s2 first.0 o first.1,
      subst (λ (n : ℕ). CopiesChunk lengths from to n well old (with_operation o.told.0 (Flushing 1) well o.told.1 first.0)) all
          (chunk_flushed lengths from to c.loop-k.k o.told.0 o.told.1 well old first.0 first.2),
    ))
