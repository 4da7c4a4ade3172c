use Rattle.std.proofs.Common.{List, is_ok, subst, sym}
use Rattle.std.proofs.lemmas.Result.{err_from_is_err_and}
use Rattle.disk_model.specs.Record.{IsRecord}
use Rattle.disk_model.proofs.WhereTold.{told_at}
use Rattle.cow_store.specs.Layout.{lengths_of}
use Rattle.cow_store.specs.Writing.{PutsEntry}
use Rattle.cow_store.proofs.Saves.{chunk_saved, chunk_unsaved}
use Rattle.cow_store.proofs.saving.save_chunk.Goals as goal

pub returns-in_err-copy_chunk-clause-told : goal.returns-in_err-copy_chunk-clause-told
returns-in_err-copy_chunk-clause-told g c =
    let s0 = g.V.Vols.state c.args.vols.now in
    let lengths = lengths_of s0.sizes in
    let p = err_from_is_err_and c.from_residual.result c.from_residual.ensures.1 in
    rw p.1
    (λ old e.
    let first = c.in_err-copy_chunk.ensures.told old e in (
      first.0,
      first.1,
      chunk_unsaved lengths c.args.chunk c.args.slot old first.0
          (told_at (λ t. IsRecord t.steps) s0.told old (g.met.V.Vols.lawful c.args.vols.now).follows e)
          (rw (sym c.requires.slots) first.2),
    ))

pub returns-clause-told : goal.returns-clause-told
returns-clause-told g c =
    let s0 = g.V.Vols.state c.args.vols.now in
    let s1 = g.V.Vols.state c.copy_chunk.new.vols in
    let lengths = lengths_of s0.sizes in
    let well = is_ok c.put_chunk_entry.result in
    λ old e.
    let first = c.in_ok-copy_chunk.ensures.told old e in
    let next = c.put_chunk_entry.ensures.told first.0 first.1 in (
      next.0,
      next.1,
      chunk_saved lengths c.args.chunk c.args.slot old first.0
          (told_at (λ t. IsRecord t.steps) s0.told old (g.met.V.Vols.lawful c.args.vols.now).follows e) well next.0
          (rw (sym c.requires.slots) first.2)
          (subst (λ (l : List _). PutsEntry (lengths_of l) c.args.chunk c.args.slot well first.0 next.0)
          c.in_ok-copy_chunk.ensures.spends.sizes next.2),
    )
