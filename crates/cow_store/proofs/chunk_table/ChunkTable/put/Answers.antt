use Rattle.std.proofs.Common.{◌≡◌, ◌<◌, ℕ, ◌+◌, true, false, cond, nat_eq, List, Option, Some, None, Result, Ok, Err, IsOk, ap, sym, ◌∙◌}
use Rattle.std.proofs.Common.{arith}
use Rattle.std.specs.List.{slice_get}
use Rattle.std.specs.HashMap.{spare}
use Rattle.cow_store.specs.Entries.{slot_of}
use Rattle.cow_store.proofs.Slots.{fewer_free, first_free_later, given_not_free, slot_given}
use Rattle.cow_store.proofs.chunk_table.ChunkTable.put.Goals as goal

not_both : {T E : Type 0} (r : Result T E) (e : E) → IsOk r → r ≡ Err e → ⊥
not_both (Ok x) e ok err = cc
not_both (Err f) e ok err = absurd (let h : false ≡ true = ok in cc)

pub unreachable-requires : goal.unreachable-requires
unreachable-requires c =
    let entries = c.self.inside.entries.items in
    let free : slice_get entries c.args.slot ≡ Some 0 = ap (λ (l : List ℕ). slice_get l c.args.slot) c.self.view_is ∙ c.requires.free in
    let room : 0 < spare c.self.inside.slots =
    omega (arith, c.self.invariant.room, fewer_free entries c.args.slot (c.args.chunk + 1) (given_not_free c.args.chunk) free) in
    not_both c.insert.result c.in-Err.field-0 (c.insert.ensures.succeeds room) c.in-Err.is

pub first_free-self-inside-requires : goal.first_free-self-inside-requires
first_free-self-inside-requires c =
    rw c.deref.ensures.value
    (omega (
      arith,
      c.self.invariant.first,
      first_free_later c.self.inside.entries.items c.args.slot (c.args.chunk + 1)
          (given_not_free c.args.chunk),
    ))

pub invariant_of-self : goal.invariant_of-self
invariant_of-self c =
    let entries = c.self.inside.entries.items in
    let free : slice_get entries c.args.slot ≡ Some 0 = ap (λ (l : List ℕ). slice_get l c.args.slot) c.self.view_is ∙ c.requires.free in
    let new : slot_of entries c.args.chunk ≡ None = ap (λ (l : List ℕ). slot_of l c.args.chunk) c.self.view_is ∙ c.requires.new in
    record {
      each = λ chunk.
          c.in-Ok.ensures.updates.0 chunk
          ∙ ap (λ (o : Option ℕ). cond (nat_eq c.args.chunk chunk) (Some c.args.slot) o) (c.self.invariant.each chunk)
          ∙ ap (λ (n : ℕ). cond (nat_eq c.args.chunk chunk) (Some n) (slot_of entries chunk)) (omega arith)
          ∙ sym (slot_given entries c.args.slot c.args.chunk chunk 0 free new);
      room =
          omega (
            arith,
            c.self.invariant.room,
            fewer_free entries c.args.slot (c.args.chunk + 1) (given_not_free c.args.chunk) free,
            c.insert.ensures.spare,
          );
      first = rw (sym c.deref.ensures.value) c.first_free-self-inside.ensures;
    }
