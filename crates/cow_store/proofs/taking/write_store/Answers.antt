use Rattle.std.proofs.Common.{◌≡◌, ◌<◌, ◌^◌, List, ℕ, true, ap, subst, ◌∙◌}
use Rattle.disk_model.specs.Since.{BetweenRecords}
use Rattle.disk_model.specs.CarriesOut.{with_operation}
use Rattle.disk_model.specs.Steps.{Flushing, Record}
use Rattle.disk_model.proofs.WhereTold.{told_at}
use Rattle.cow_store.specs.Beginning.{Takes}
use Rattle.cow_store.specs.Layout.{head_for, lengths_of}
use Rattle.cow_store.specs.VolStates.{AreOneByOne}
use Rattle.cow_store.specs.Writing.{ClearsTable, PutsSector}
use Rattle.cow_store.proofs.Goes.{operation_told}
use Rattle.cow_store.proofs.Setting.{on_well}
use Rattle.cow_store.proofs.TakenStore.{takes}
use Rattle.cow_store.proofs.taking.write_store.Goals as goal

pub returns-clause-takes : goal.returns-clause-takes
returns-clause-takes g c =
    let s0 = g.V.Vols.state c.args.vols.now in
    let s1 = g.V.Vols.state c.flush_volume.new.vols in
    let s3 = g.V.Vols.state c.clear_table.new.vols in
    let s4 = g.V.Vols.state c.put_sector-2.new.vols in
    let lengths = lengths_of s0.sizes in
    let flushed = c.in_ok-flush_volume.ensures.operates in
    let sizes : s3.sizes ≡ s0.sizes = c.in_ok-clear_table.ensures.spends.sizes ∙ c.in_ok-put_sector.ensures.spends.sizes ∙ flushed.sizes in
    let origin : c.sectors.result ≡ lengths.origin = c.sectors.ensures ∙ ap (λ (l : List ℕ). (lengths_of l).origin) sizes in
    on_well c.put_sector-2.result (λ b. BetweenRecords (PutsSector 0 c.new_head-head.result b) s3.told s4.told)
    (BetweenRecords (Takes lengths) s0.told s4.told) c.put_sector-2.ensures.told
    (λ put old e.
    let e1 = operation_told s0 (Flushing 0) true s1 old flushed e in
    let t1 : Record = with_operation flushed.told.0 (Flushing 0) true flushed.told.1 old in
    let first = c.in_ok-put_sector.ensures.told t1 e1 in
    let clear = c.in_ok-clear_table.ensures.told first.0 first.1 in
    let last = put clear.0 clear.1 in (
      last.0,
      last.1,
      takes lengths c.requires.large (subst (λ (n : ℕ). n < 2 ^ 64) origin c.sectors.type_inv) old first.0 clear.0 last.0 flushed.told.0
          flushed.told.1
          (told_at (λ t. AreOneByOne t.steps) s0.told old (g.met.V.Vols.lawful c.args.vols.now).one_by_one e)
          (subst (λ (l : List ℕ). PutsSector 0 l true t1 first.0) c.zeroed.ensures first.2)
          (subst (λ (n : ℕ). ClearsTable n true first.0 clear.0) c.requires.tables clear.2)
          (subst (λ (l : List ℕ). PutsSector 0 l true clear.0 last.0) (c.new_head-head.ensures ∙ ap head_for origin) last.2),
    ))
