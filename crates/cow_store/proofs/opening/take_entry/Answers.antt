use Rattle.std.proofs.Common.{◌+◌, ◌-◌, ◌∙◌, ℕ, List, is_some, ap, subst, sym, arith}
use Rattle.cow_store.specs.Reading.{IsReadTo}
use Rattle.cow_store.proofs.ReadTable.{bad_outside, bad_listed, bad_read, free_read, given_read, next_free}
use Rattle.cow_store.proofs.opening.take_entry.Goals as goal
use Rattle.cow_store.proofs.opening.take_entry.Goals.{then-chunk-chunks-via-then-chunk-chunks}
use Rattle.cow_store.proofs.opening.take_entry.Goals.{then-chunk-chunks-via-else-chunk-chunks+then-is_some}

pub returns-then-entry-eq0-clause-entry : goal.returns-then-entry-eq0-clause-entry
returns-then-entry-eq0-clause-entry c =
    λ read r is. free_read c.args.chunks c.args.slot read c.args.table.now c.requires.slot r c.args.entry c.if-entry-eq0.true is

pub returns-then-chunk-chunks-clause-entry : goal.returns-then-chunk-chunks-clause-entry
returns-then-chunk-chunks-clause-entry c =
    λ read r is.
    bad_read c.args.chunks c.args.slot read c.args.table.now c.requires.slot r c.args.entry c.if-entry-eq0.false
    (elim c.then-chunk-chunks.branch [
      | then-chunk-chunks-via-then-chunk-chunks w ↦ bad_outside c.args.chunks (c.args.entry - 1) _ w.if-chunk-chunks.true
      | then-chunk-chunks-via-else-chunk-chunks+then-is_some w ↦
          bad_listed c.args.chunks (c.args.entry - 1) _
          (sym (w.is_some.ensures ∙ ap (λ o. is_some o) w.slot_of.ensures) ∙ w.if-is_some.true)
    ]) is

pub put-requires-clause-free : goal.put-requires-clause-free
put-requires-clause-free c = next_free c.args.chunks c.args.slot c.requires.read.0 c.args.table.now c.requires.slot c.requires.read.1

pub returns-clause-entry : goal.returns-clause-entry
returns-clause-entry c =
    λ read r is.
    subst (λ (l : List ℕ). IsReadTo c.args.chunks (c.args.slot + 1) read l) (sym c.put.ensures)
    (given_read c.args.chunks c.args.slot read c.args.table.now c.requires.slot r c.args.entry c.if-entry-eq0.false
    (omega (arith, c.if-chunk-chunks.false))
    (sym (c.is_some.ensures ∙ ap (λ o. is_some o) c.slot_of.ensures) ∙ c.if-is_some.false) is)
