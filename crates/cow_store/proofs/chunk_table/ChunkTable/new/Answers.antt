use Rattle.std.proofs.Common.{◌≡◌, ℕ, rules, replicate, nat_eq, None, List, length, filter, ap, sym, ◌∙◌, arith}
use Rattle.std.specs.HashMap.{HashMap, IsEmpty, get}
use Rattle.std.specs.List.{position_or_len}
use Rattle.cow_store.specs.Entries.{is_free, slot_of}
use Rattle.cow_store.proofs.Slots.{all_free, first_is_free, none_given}
use Rattle.cow_store.proofs.chunk_table.ChunkTable.new.Goals as goal

none_in : {S : Type 0} (slots : HashMap ℕ ℕ S) (chunk : ℕ) → IsEmpty slots → get nat_eq slots chunk ≡ None
none_in slots chunk empty = search (rules, empty)

pub invariant_of-result : goal.invariant_of-result
invariant_of-result c =
    let items : c.in_ok-vec.field-0.items ≡ replicate c.args.slots 0 = c.in_ok-vec.ensures.items_if_clones_equal (λ y h. h) in
    record {
      each = λ chunk.
          none_in c.in_ok-with_capacity.field-0 chunk c.in_ok-with_capacity.ensures.empty
          ∙ sym (ap (λ (l : List ℕ). slot_of l chunk) items ∙ none_given c.args.slots chunk 0);
      room =
          omega (arith, ap (λ (l : List ℕ). length (filter is_free l)) items, all_free c.args.slots, c.in_ok-with_capacity.ensures.spare);
      first = first_is_free c.args.slots ∙ sym (ap (λ (l : List ℕ). position_or_len is_free l) items);
    }
