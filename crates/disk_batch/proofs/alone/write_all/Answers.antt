use Rattle.std.proofs.Common.{◌≡◌, Option, true, false, ap, subst, sym}
use Rattle.disk_model.specs.Since.{BetweenRecords}
use Rattle.disk_model.specs.State.{State}
use Rattle.disk_model.specs.Steps.{Record}
use Rattle.disk_batch.specs.declared.batching.BatchStep.{BatchStep}
use Rattle.disk_batch.specs.Alone.{IsOn}
use Rattle.disk_batch.specs.WriteAll.{WritesAll}
use Rattle.disk_batch.proofs.AloneRun.{alone_on, alone_within, completed_within, turns_fewer, turns_on}
use Rattle.disk_batch.proofs.Carrying.{CarriesTold, ends_lost, ends_well, starts_carries, turns_carries}
use Rattle.disk_batch.proofs.Faulting.{faults_start, turns_faults}
use Rattle.disk_batch.proofs.Growing.{alone_works, turns_works}
use Rattle.disk_batch.specs.Batches.{writes_of, disks_of, view_of}
use Rattle.disk_batch.proofs.alone.write_all.Goals as goal

pub loop-done-init : goal.loop-done-init
loop-done-init g c =
    let old = g.S.Shelf.state c.args.shelf.now in
    let new = g.S.Shelf.state c.start.new.shelf in
    let disks = disks_of c.args.batch in
    let puts = writes_of c.args.batch in
    record {
      on = alone_on old new disks c.start.result c.requires.idle puts c.requires.writes c.start.ensures;
      works = alone_works old new disks c.start.result puts c.requires.writes c.start.ensures;
      within =
          alone_within old new disks c.start.result c.requires.idle puts c.requires.writes c.requires.lie c.requires.disks
          c.args.batch.some_disk c.requires.ops c.requires.sectors c.start.ensures;
      faults = faults_start old new puts disks (view_of c.start.result) c.start.ensures;
      carries =
          starts_carries puts disks old new c.start.result (g.met.S.Shelf.lawful c.args.shelf.now) c.requires.idle c.requires.writes
          c.start.ensures;
    }

pub loop-done-preserved : goal.loop-done-preserved
loop-done-preserved g c =
    let first = g.S.Shelf.state c.args.shelf.now in
    let before = g.S.Shelf.state c.loop-done.shelf in
    let mid = g.S.Shelf.state c.settle.new.self in
    let new = g.S.Shelf.state c.turn-step.new.shelf in
    let step = c.loop-done.step in
    let next = c.turn-step.result in
    let done = c.in-Some.done in
    let completes = c.in-Some.ensures.cases in
    let turns = c.turn-step.ensures.turns in
    let kept = c.loop-done.invariant in
    record {
      on = turns_on before mid new step next done kept.on (completed_within before mid step done kept.within completes) completes turns;
      works = turns_works first before mid new _ _ step next done completes turns kept.works;
      within = c.turn-step.ensures.within;
      faults = turns_faults first before mid new step next done completes turns kept.faults;
      carries =
          turns_carries (writes_of c.args.batch) (disks_of c.args.batch) first before mid new step next done
          (g.met.S.Shelf.lawful c.settle.new.self) kept.on completes turns kept.carries;
    }

pub loop-done-smaller : goal.loop-done-smaller
loop-done-smaller g c =
    turns_fewer (g.S.Shelf.state c.loop-done.shelf) (g.S.Shelf.state c.settle.new.self) (g.S.Shelf.state c.turn-step.new.shelf)
    c.loop-done.step c.turn-step.result c.in-Some.done c.in-Some.ensures.cases c.turn-step.ensures.turns

pub returns-in-Well-clause-told : goal.returns-in-Well-clause-told
returns-in-Well-clause-told g c =
    let first = g.S.Shelf.state c.args.shelf.now in
    let last = g.S.Shelf.state c.loop-done.shelf in
    let puts = writes_of c.args.batch in
    let disks = disks_of c.args.batch in
    let kept = c.loop-done.invariant in
    let same : (g.S.Shelf.state c.settle.new.self).told ≡ last.told = ap (λ (s : State). s.told) c.in_default.ensures.cases.same in
    subst (λ (t : Option Record). BetweenRecords (λ before after. WritesAll before puts disks true after) first.told t) (sym same)
    (ends_well puts disks first last (g.met.S.Shelf.lawful c.args.shelf.now) (g.met.S.Shelf.lawful c.loop-done.shelf) c.requires.idle
    (subst (λ (s : BatchStep). IsOn s last) c.in-Well.is kept.on)
    (subst (λ (s : BatchStep). CarriesTold puts disks s first.told last.told) c.in-Well.is kept.carries))

pub returns-in-Lost-clause-told : goal.returns-in-Lost-clause-told
returns-in-Lost-clause-told g c =
    let first = g.S.Shelf.state c.args.shelf.now in
    let last = g.S.Shelf.state c.loop-done.shelf in
    let puts = writes_of c.args.batch in
    let disks = disks_of c.args.batch in
    let kept = c.loop-done.invariant in
    let same : (g.S.Shelf.state c.settle.new.self).told ≡ last.told = ap (λ (s : State). s.told) c.in_default.ensures.cases.same in
    subst (λ (t : Option Record). BetweenRecords (λ before after. WritesAll before puts disks false after) first.told t) (sym same)
    (ends_lost puts disks first last c.in-Lost.pv (g.met.S.Shelf.lawful c.args.shelf.now) (g.met.S.Shelf.lawful c.loop-done.shelf)
    c.requires.idle
    (subst (λ (s : BatchStep). CarriesTold puts disks s first.told last.told) c.in-Lost.is kept.carries))
