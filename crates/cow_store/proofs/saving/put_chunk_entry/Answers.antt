use Rattle.std.proofs.Common.{◌≡◌, [], ◌∷◌, true, false, is_ok, sym, arith}
use Rattle.std.proofs.lemmas.Result.{err_from_is_err_and}
use Rattle.disk_model.specs.Puts.{one_sector}
use Rattle.disk_model.specs.Record.{IsRecord}
use Rattle.disk_model.specs.Steps.{Flushing, Reading, Writing, now_after}
use Rattle.disk_model.proofs.WhereTold.{told_at}
use Rattle.cow_store.specs.Layout.{entry_sector, lengths_of, with_entry}
use Rattle.cow_store.specs.VolStates.{Operates}
use Rattle.cow_store.specs.Writing.{PutsEntry}
use Rattle.cow_store.proofs.EntryPuts.{entry_flushed, entry_unread, entry_unwritten}
use Rattle.cow_store.proofs.Goes.{operation_told, told_by}
use Rattle.cow_store.proofs.saving.put_chunk_entry.Goals as goal

pub returns-in_err-sector-clause-told : goal.returns-in_err-sector-clause-told
returns-in_err-sector-clause-told g c =
    let s0 = g.V.Vols.state c.args.vols.now in
    let s1 = g.V.Vols.state c.read_sector.new.vols in
    let at = c.entry_sector_of-at.result in
    let p = err_from_is_err_and c.from_residual.result c.from_residual.ensures.1 in
    rw p.1
    (told_by s0 (Reading (one_sector 1 at)) false s1 (λ t t'. PutsEntry (lengths_of s0.sizes) c.args.chunk c.args.slot false t t')
    c.in_err-sector.ensures.operates
    (λ t e tag fresh. entry_unread (lengths_of s0.sizes) c.args.chunk c.args.slot tag at fresh t))

pub returns-in_err-write_sector-clause-told : goal.returns-in_err-write_sector-clause-told
returns-in_err-write_sector-clause-told g c =
    let s0 = g.V.Vols.state c.args.vols.now in
    let s1 = g.V.Vols.state c.read_sector.new.vols in
    let s2 = g.V.Vols.state c.write_sector.new.vols in
    let p = err_from_is_err_and c.from_residual-in_err-write_sector.result c.from_residual-in_err-write_sector.ensures.1 in
    let sector = c.in_ok-sector.sector in
    let slot = c.args.slot in
    let work = Writing (one_sector 1 (entry_sector slot)) (with_entry sector slot c.args.chunk ∷ []) in
    let read : Operates s0 (Reading (one_sector 1 (entry_sector slot))) true s1 =
    rw (sym c.entry_sector_of-at.ensures) c.in_ok-sector.ensures.operates in
    let written : Operates s1 work false s2 =
    rw (sym c.entry_sector_of-at.ensures, sym c.put_entry.ensures) c.in_err-write_sector.ensures.operates in
    rw p.1
    (λ old e.
    let e1 = operation_told s0 (Reading (one_sector 1 (entry_sector slot))) true s1 old read e in
    let value : sector ≡ now_after old.opened old.steps 1 (entry_sector slot) =
    told_at (λ t. sector ≡ now_after t.opened t.steps 1 (entry_sector slot)) s0.told old
    (rw (sym c.entry_sector_of-at.ensures) c.in_ok-sector.ensures.value) e in (
      _,
      operation_told s1 work false s2 _ written e1,
      entry_unwritten (lengths_of s0.sizes) c.args.chunk slot c.requires.slot (omega (arith, c.requires.chunk))
          (omega (arith, c.requires.chunk, c.sectors-length.ensures)) old
          (told_at (λ t. IsRecord t.steps) s0.told old (g.met.V.Vols.lawful c.args.vols.now).follows e) sector value
          (c.as_bytes-bytes.ensures.valid).long read.told.0 written.told.0 read.told.1 written.told.1,
    ))

pub returns-clause-told : goal.returns-clause-told
returns-clause-told g c =
    let s0 = g.V.Vols.state c.args.vols.now in
    let s1 = g.V.Vols.state c.read_sector.new.vols in
    let s2 = g.V.Vols.state c.write_sector.new.vols in
    let s3 = g.V.Vols.state c.flush_volume.new.vols in
    let sector = c.in_ok-sector.sector in
    let slot = c.args.slot in
    let well = is_ok c.flush_volume.result in
    let work = Writing (one_sector 1 (entry_sector slot)) (with_entry sector slot c.args.chunk ∷ []) in
    let read : Operates s0 (Reading (one_sector 1 (entry_sector slot))) true s1 =
    rw (sym c.entry_sector_of-at.ensures) c.in_ok-sector.ensures.operates in
    let written : Operates s1 work true s2 =
    rw (sym c.entry_sector_of-at.ensures, sym c.put_entry.ensures) c.in_ok-write_sector.ensures.operates in
    let flushed = c.flush_volume.ensures.operates in
    λ old e.
    let e1 = operation_told s0 (Reading (one_sector 1 (entry_sector slot))) true s1 old read e in
    let e2 = operation_told s1 work true s2 _ written e1 in
    let value : sector ≡ now_after old.opened old.steps 1 (entry_sector slot) =
    told_at (λ t. sector ≡ now_after t.opened t.steps 1 (entry_sector slot)) s0.told old
    (rw (sym c.entry_sector_of-at.ensures) c.in_ok-sector.ensures.value) e in (
      _,
      operation_told s2 (Flushing 1) well s3 _ flushed e2,
      entry_flushed (lengths_of s0.sizes) c.args.chunk slot c.requires.slot (omega (arith, c.requires.chunk))
          (omega (arith, c.requires.chunk, c.sectors-length.ensures)) old
          (told_at (λ t. IsRecord t.steps) s0.told old (g.met.V.Vols.lawful c.args.vols.now).follows e) sector value
          (c.as_bytes-bytes.ensures.valid).long read.told.0 written.told.0 read.told.1 written.told.1 flushed.told.0 well flushed.told.1,
    )
