use Rattle.std.proofs.Common.{◌≡◌, ◌≤◌, ◌<◌, ◌+◌, ◌∙◌, ℕ, length, min, ap, subst, sym, arith}
use Rattle.std.proofs.lemmas.Result.{err_from_is_err_and}
use Rattle.sector_base.specs.Fields.{field}
use Rattle.cow_store.specs.Layout.{entry_place}
use Rattle.cow_store.specs.Reading.{IsFirstBad, IsReadTo}
use Rattle.cow_store.proofs.ReadTable.{place_from, some_read}
use Rattle.cow_store.proofs.opening.take_entries.Goals as goal

pub take_entry-requires-clause-read : goal.take_entry-requires-clause-read
take_entry-requires-clause-read c =
    let some =
    some_read c.args.chunks c.args.first (λ slot. field 8 c.args.sector.now (entry_place slot)) c.args.table.now c.requires.read in
    (some.0, c.loop-slot.invariant.entries some.0 some.1 (λ slot low high. some.2 slot low))

pub returns-in_err-take_entry-clause-entries : goal.returns-in_err-take_entry-clause-entries
returns-in_err-take_entry-clause-entries c =
    let p = err_from_is_err_and c.from_residual.result c.from_residual.ensures.1 in
    let low : c.args.first ≤ c.loop-slot.slot = c.loop-slot.auto.slot in
    let high : c.loop-slot.slot < c.args.first + 64 = omega (arith, c.loop-slot-test.true, c.min.ensures) in
    rw (p.1, p.2)
    (λ read r same.
    subst (λ (n : ℕ). IsFirstBad c.args.chunks n read c.in_err-take_entry.field-0.0) c.loop-slot.invariant.len
    (c.in_err-take_entry.ensures.entry read (c.loop-slot.invariant.entries read r same)
    (same c.loop-slot.slot low high
    ∙ ap (λ (n : ℕ). field 8 c.args.sector.now n) (place_from c.args.first c.loop-slot.slot c.requires.first low high)
    ∙ sym c.get_u64-entry.ensures)))

pub loop-slot-preserved : goal.loop-slot-preserved
loop-slot-preserved c =
    let low : c.args.first ≤ c.loop-slot.slot = c.loop-slot.auto.slot in
    let high : c.loop-slot.slot < c.args.first + 64 = omega (arith, c.loop-slot-test.true, c.min.ensures) in
    record {
      len = c.take_entry.ensures.len ∙ c.loop-slot.invariant.len;
      entries = λ read r same.
          c.in_ok-take_entry.ensures.entry read (c.loop-slot.invariant.entries read r same)
          (same c.loop-slot.slot low high
          ∙ ap (λ (n : ℕ). field 8 c.args.sector.now n) (place_from c.args.first c.loop-slot.slot c.requires.first low high)
          ∙ sym c.get_u64-entry.ensures);
    }

pub returns-clause-entries : goal.returns-clause-entries
returns-clause-entries c =
    let all : c.loop-slot.slot ≡ min (c.args.first + 64) (length c.args.table.now) =
    omega (arith, c.loop-slot-test.false, c.loop-slot.auto.slot-end, c.min.ensures, c.len.ensures, c.requires.some) in
    λ read r same.
    subst (λ (n : ℕ). IsReadTo c.args.chunks n read c.loop-slot.table) all (c.loop-slot.invariant.entries read r same)
