-- The entries before the slot were read.
use Rattle.std.proofs.Common.{◌≡◌, ◌≤◌, ◌<◌, ◌+◌, ℕ, length}
use Rattle.sector_base.specs.Fields.{field}
use Rattle.cow_store.specs.Layout.{entry_place}
use Rattle.cow_store.specs.Reading.{IsReadTo}
use Rattle.cow_store.proofs.opening.take_entries.Given as goal

abbrev pub invariant-loop-slot : goal.invariant-loop-slot
invariant-loop-slot l = record {
  len : length l.table ≡ length l.fn.table;
  entries : (read : ℕ → ℕ) → IsReadTo l.fn.chunks l.fn.first read l.fn.table
      → ((slot : ℕ) → l.fn.first ≤ slot → slot < l.fn.first + 64 → read slot ≡ field 8 l.fn.sector (entry_place slot))
      → IsReadTo l.fn.chunks l.slot read l.table;
}
