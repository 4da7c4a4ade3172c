-- What a commit on its way uses up.
use Rattle.std.proofs.Common.{◌≡◌, ℕ, List, Option, Some, None, IfSome, refl, sym, ap, subst, ◌∙◌, arith}
use Rattle.disk_model.specs.declared.ops.Done.{Done}
use Rattle.disk_model.specs.Calls.{Completes}
use Rattle.disk_model.specs.State.{State}
use Rattle.disk_batch.specs.declared.batch.Batch.{Batch}
use Rattle.disk_batch.specs.declared.batching.Batching.{Batching}
use Rattle.disk_batch.specs.declared.batching.BatchStep.{BatchStep}
use Rattle.disk_batch.specs.declared.batching.BatchStep.TheVariants as batch
use Rattle.disk_batch.specs.Alone.{sectors_ahead as sectors_of, steps_to_come}
use Rattle.disk_batch.specs.Batches.{Goes, Starts, disks_of, view_of, writes_of}
use Rattle.disk_batch.specs.Fits.{LiesOn}
use Rattle.disk_batch.specs.Views.{View, sectors_to_come, to_come}
use Rattle.disk_batch.proofs.Fitting.{goes_lie, starts_lie}
use Rattle.disk_batch.proofs.Growing.{WorksOn, alone_works, turns_works}
use Rattle.vg_commit.specs.declared.committing.ComStep.{ComStep}
use Rattle.vg_commit.specs.declared.committing.ComStep.TheVariants as published
use Rattle.vg_commit.specs.declared.precommitting.PreStep.{PreStep}
use Rattle.vg_commit.specs.declared.precommitting.PreStep.TheVariants as pre
use Rattle.vg_commit.specs.declared.precommitting.Precommitting.{Precommitting}
use Rattle.vg_commit.specs.Laws.{BeginsSpending, ComWithin, CommitsSpending, GoesSpending, PublishesSpending, SpendsAhead, StaysWithin}
use Rattle.vg_commit.specs.Phases.{ComFollows, FitsAhead, GoesOn, PreFollows, PreView, com_view, ops_after, ops_ahead, ops_if, ops_left}
use Rattle.vg_commit.specs.Phases.{pre_view, sectors_after, sectors_ahead, sectors_if, sectors_left}
use Rattle.vg_commit.specs.Preparing.{CanRun, ops_of, sectors_in}

-- a batch that can run starts
started : (old new : State) (batching : Batching) (b : Batch) → CanRun old.sizes b
    → Starts old (writes_of b) (disks_of b) (view_of batching) new
    → SpendsAhead old (ops_of b) (sectors_in b) (to_come (view_of batching)) (sectors_to_come (view_of batching)) new
started old new batching b can starts =
    let w = alone_works old new (disks_of b) batching (writes_of b) can.writes starts in
    record { sizes = w.sizes; spare_ops = w.spare_ops; spare_sectors = w.spare_sectors }

-- and what it is still to submit lies in the disks
lies_in : (old new : State) (batching : Batching) (b : Batch) → CanRun old.sizes b
    → Starts old (writes_of b) (disks_of b) (view_of batching) new → LiesOn new.sizes (view_of batching)
lies_in old new batching b can starts =
    starts_lie old new (writes_of b) (disks_of b) (view_of batching) can.writes can.lie can.within starts

-- a batch takes a completion of its own
batch_spends : (before old mid : State) (batching : Batching) (done : Done) (came : BatchStep) → Completes before done old
    → Goes old (view_of batching) done came mid
    → WorksOn before (to_come (view_of batching)) (sectors_to_come (view_of batching)) (steps_to_come came) (sectors_of came) mid
batch_spends before old mid batching done came completes goes =
    turns_works before before old mid (to_come (view_of batching)) (sectors_to_come (view_of batching)) (batch.Going batching) came done
    completes goes
    (record { sizes = refl; spare_ops = omega arith; spare_sectors = omega arith; steps = omega arith; later = omega arith })

-- what it is still to submit lies in the disks then, too
lies_still : (before old mid : State) (view : View) (done : Done) (next : Batching) → Completes before done old
    → Goes old view done (batch.Going next) mid → LiesOn before.sizes view → LiesOn mid.sizes (view_of next)
lies_still before old mid view done next completes goes lies =
    goes_lie old mid view done next (subst (λ (sizes : List ℕ). LiesOn sizes view) (sym completes.sizes) lies) goes

lies_as : (mid new : State) (view view' : View) → new.sizes ≡ mid.sizes → view' ≡ view → LiesOn mid.sizes view → LiesOn new.sizes view'
lies_as mid new view view' same kept lies =
    subst (λ (sizes : List ℕ). LiesOn sizes view') (sym same) (subst (λ (v : View). LiesOn mid.sizes v) (sym kept) lies)

can_still : (before new : State) (headers : Option Batch) → new.sizes ≡ before.sizes → IfSome headers (CanRun before.sizes)
    → IfSome headers (CanRun new.sizes)
can_still before new headers same can = subst (λ (sizes : List ℕ). IfSome headers (CanRun sizes)) (sym same) can

pub begins_spending : BeginsSpending
begins_spending prepared old new next can starts =
    let s : SpendsAhead old (ops_of prepared.texts) (sectors_in prepared.texts) (to_come (pre_view next).batch)
    (sectors_to_come (pre_view next).batch) new =
    started old new next.batching prepared.texts can.texts starts.0 in
    let headers : (pre_view next).headers ≡ Some prepared.headers = ap (λ (v : PreView). v.headers) starts.1 in
    let ops : ops_if (pre_view next).headers ≡ ops_of prepared.headers = ap ops_if headers in
    let sectors : sectors_if (pre_view next).headers ≡ sectors_in prepared.headers = ap sectors_if headers in (
      record { sizes = s.sizes; spare_ops = omega (arith, s.spare_ops, ops); spare_sectors = omega (arith, s.spare_sectors, sectors) },
      record {
        batch = lies_in old new next.batching prepared.texts can.texts starts.0;
        headers =
            subst (λ (b : Option Batch). IfSome b (CanRun new.sizes)) (sym headers)
            (subst (λ (sizes : List ℕ). CanRun sizes prepared.headers) (sym s.sizes) can.headers);
      },
    )

module _ (now : Precommitting) (before old mid new : State) (done : Done) (fits : FitsAhead before.sizes (pre_view now))
    (completes : Completes before done old) where
  abbrev Spends : PreStep → Type 0
  Spends step =
      SpendsAhead before (ops_ahead (pre_view now)) (sectors_ahead (pre_view now)) (ops_left step) (sectors_left step) new
      × StaysWithin new.sizes step

  -- the headers are started
  headers_start : (b : Option Batch) (next : Precommitting) → (pre_view now).headers ≡ b → GoesOn mid (pre_view now) b (pre.Going next) new
      → WorksOn before (to_come (pre_view now).batch) (sectors_to_come (pre_view now).batch) 0 0 mid → Spends (pre.Going next)
  headers_start (Some headers) next is f w =
      let can : CanRun mid.sizes headers =
      subst (λ (sizes : List ℕ). CanRun sizes headers) (sym w.sizes)
      (subst (λ (h : Option Batch). IfSome h (CanRun before.sizes)) is fits.headers) in
      let s : SpendsAhead mid (ops_of headers) (sectors_in headers) (to_come (pre_view next).batch)
      (sectors_to_come (pre_view next).batch) new =
      started mid new next.batching headers can f.0 in
      let none : (pre_view next).headers ≡ None = ap (λ (v : PreView). v.headers) f.1 in
      let ops : ops_if (pre_view now).headers ≡ ops_of headers = ap ops_if is in
      let sectors : sectors_if (pre_view now).headers ≡ sectors_in headers = ap sectors_if is in
      let ops' : ops_if (pre_view next).headers ≡ 0 = ap ops_if none in
      let sectors' : sectors_if (pre_view next).headers ≡ 0 = ap sectors_if none in (
        record {
          sizes = s.sizes ∙ w.sizes;
          spare_ops = omega (arith, s.spare_ops, w.spare_ops, ops, ops');
          spare_sectors = omega (arith, s.spare_sectors, w.spare_sectors, sectors, sectors');
        },
        record {
          batch = lies_in mid new next.batching headers can f.0;
          headers = subst (λ (h : Option Batch). IfSome h (CanRun new.sizes)) (sym none) tt;
        },
      )
  headers_start None next is f w = absurd f

  ready : (b : Option Batch) (r : _) → GoesOn mid (pre_view now) b (pre.Ready r) new
      → WorksOn before (to_come (pre_view now).batch) (sectors_to_come (pre_view now).batch) 0 0 mid → Spends (pre.Ready r)
  ready (Some headers) r f w = absurd f
  ready None r f w = let e : new.spare_ops ≡ mid.spare_ops = ap (λ (s : State). s.spare_ops) f.0 in
      let e' : new.spare_sectors ≡ mid.spare_sectors = ap (λ (s : State). s.spare_sectors) f.0 in (
        record {
          sizes = ap (λ (s : State). s.sizes) f.0 ∙ w.sizes;
          spare_ops = omega (arith, e, w.spare_ops);
          spare_sectors = omega (arith, e', w.spare_sectors);
        },
        tt,
      )

  spends : (came : BatchStep) (step : PreStep) → Goes old (pre_view now).batch done came mid → PreFollows mid (pre_view now) came step new
      → Spends step
  spends (batch.Going next') (pre.Going next) goes f =
      let w = batch_spends before old mid now.batching done (batch.Going next') completes goes in
      let e : new.spare_ops ≡ mid.spare_ops = ap (λ (s : State). s.spare_ops) f.0 in
      let e' : new.spare_sectors ≡ mid.spare_sectors = ap (λ (s : State). s.spare_sectors) f.0 in
      let same : new.sizes ≡ before.sizes = ap (λ (s : State). s.sizes) f.0 ∙ w.sizes in
      let come : to_come (pre_view next).batch ≡ to_come (view_of next') = ap (λ (v : PreView). to_come v.batch) f.1 in
      let come' : sectors_to_come (pre_view next).batch ≡ sectors_to_come (view_of next') =
      ap (λ (v : PreView). sectors_to_come v.batch) f.1 in
      let headers : (pre_view next).headers ≡ (pre_view now).headers = ap (λ (v : PreView). v.headers) f.1 in
      let ops : ops_if (pre_view next).headers ≡ ops_if (pre_view now).headers = ap ops_if headers in
      let sectors : sectors_if (pre_view next).headers ≡ sectors_if (pre_view now).headers = ap sectors_if headers in (
        record {
          sizes = same;
          spare_ops = omega (arith, e, w.spare_ops, come, ops);
          spare_sectors = omega (arith, e', w.spare_sectors, come', sectors);
        },
        record {
          batch =
              lies_as mid new (view_of next') (pre_view next).batch (ap (λ (s : State). s.sizes) f.0) (ap (λ (v : PreView). v.batch) f.1)
              (lies_still before old mid (pre_view now).batch done next' completes goes fits.batch);
          headers =
              subst (λ (h : Option Batch). IfSome h (CanRun new.sizes)) (sym headers)
              (can_still before new (pre_view now).headers same fits.headers);
        },
      )
  spends batch.Well (pre.Going next) goes f =
      headers_start (pre_view now).headers next refl f (batch_spends before old mid now.batching done batch.Well completes goes)
  spends batch.Well (pre.Ready r) goes f =
      ready (pre_view now).headers r f (batch_spends before old mid now.batching done batch.Well completes goes)
  spends (batch.Lost pv') (pre.Lost pv) goes f =
      let w = batch_spends before old mid now.batching done (batch.Lost pv') completes goes in
      let e : new.spare_ops ≡ mid.spare_ops = ap (λ (s : State). s.spare_ops) f.0 in
      let e' : new.spare_sectors ≡ mid.spare_sectors = ap (λ (s : State). s.spare_sectors) f.0 in (
        record {
          sizes = ap (λ (s : State). s.sizes) f.0 ∙ w.sizes;
          spare_ops = omega (arith, e, w.spare_ops);
          spare_sectors = omega (arith, e', w.spare_sectors);
        },
        tt,
      )
  spends batch.Well (pre.Lost pv) goes f = none_lost (pre_view now).headers f
    where
      none_lost : (b : Option Batch) → GoesOn mid (pre_view now) b (pre.Lost pv) new → Spends (pre.Lost pv)
      none_lost (Some headers) f' = absurd f'
      none_lost None f' = absurd f'
  spends (batch.Going next') (pre.Ready r) goes f = absurd f
  spends (batch.Going next') (pre.Lost pv) goes f = absurd f
  spends (batch.Lost pv') (pre.Going next) goes f = absurd f
  spends (batch.Lost pv') (pre.Ready r) goes f = absurd f

pub goes_spending : GoesSpending
goes_spending before old new now done step fits completes goes =
    spends now before old goes.mid new done fits completes goes.came step goes.goes goes.follows

pub publishes_spending : PublishesSpending
publishes_spending old new ready' next can starts =
    (started old new next.batching ready'.publish can starts.0, lies_in old new next.batching ready'.publish can starts.0)

pub commits_spending : CommitsSpending
commits_spending before old new now done step within completes goes = at goes.came step goes.goes goes.follows
  where
    at : (came : BatchStep) (step' : ComStep) → Goes old (com_view now).batch done came goes.mid
        → ComFollows goes.mid (com_view now) came step' new
        → SpendsAhead before (to_come (com_view now).batch) (sectors_to_come (com_view now).batch) (ops_after step') (sectors_after step')
        new
        × ComWithin new.sizes step'
    at (batch.Going next') (published.Going next) g f =
        let w = batch_spends before old goes.mid now.batching done (batch.Going next') completes g in
        let e : new.spare_ops ≡ goes.mid.spare_ops = ap (λ (s : State). s.spare_ops) f.0 in
        let e' : new.spare_sectors ≡ goes.mid.spare_sectors = ap (λ (s : State). s.spare_sectors) f.0 in
        let same : new.sizes ≡ before.sizes = ap (λ (s : State). s.sizes) f.0 ∙ w.sizes in
        let come : to_come (com_view next).batch ≡ to_come (view_of next') = ap (λ v. to_come v.batch) f.1 in
        let come' : sectors_to_come (com_view next).batch ≡ sectors_to_come (view_of next') = ap (λ v. sectors_to_come v.batch) f.1 in (
          record {
            sizes = same;
            spare_ops = omega (arith, e, w.spare_ops, come);
            spare_sectors = omega (arith, e', w.spare_sectors, come');
          },
          lies_as goes.mid new (view_of next') (com_view next).batch (ap (λ (s : State). s.sizes) f.0) (ap (λ v. v.batch) f.1)
              (lies_still before old goes.mid (com_view now).batch done next' completes g within),
        )
    at batch.Well (published.Whole committed) g f =
        let w = batch_spends before old goes.mid now.batching done batch.Well completes g in
        let e : new.spare_ops ≡ goes.mid.spare_ops = ap (λ (s : State). s.spare_ops) f.0 in
        let e' : new.spare_sectors ≡ goes.mid.spare_sectors = ap (λ (s : State). s.spare_sectors) f.0 in (
          record {
            sizes = ap (λ (s : State). s.sizes) f.0 ∙ w.sizes;
            spare_ops = omega (arith, e, w.spare_ops);
            spare_sectors = omega (arith, e', w.spare_sectors);
          },
          tt,
        )
    at (batch.Lost pv') (published.Fenced pv) g f =
        let w = batch_spends before old goes.mid now.batching done (batch.Lost pv') completes g in
        let e : new.spare_ops ≡ goes.mid.spare_ops = ap (λ (s : State). s.spare_ops) f.0 in
        let e' : new.spare_sectors ≡ goes.mid.spare_sectors = ap (λ (s : State). s.spare_sectors) f.0 in (
          record {
            sizes = ap (λ (s : State). s.sizes) f.0 ∙ w.sizes;
            spare_ops = omega (arith, e, w.spare_ops);
            spare_sectors = omega (arith, e', w.spare_sectors);
          },
          tt,
        )
    at (batch.Going next') (published.Whole committed) g f = absurd f
    at (batch.Going next') (published.Fenced pv) g f = absurd f
    at batch.Well (published.Going next) g f = absurd f
    at batch.Well (published.Fenced pv) g f = absurd f
    at (batch.Lost pv') (published.Going next) g f = absurd f
    at (batch.Lost pv') (published.Whole committed) g f = absurd f
