-- The text is compared as far as what is stored goes without its final zero.
use Rattle.std.proofs.Common.{◌≡◌, ◌↔◌, ℕ, ◌+◌, ◌%◌, IsTrue, List, eqb, length, subst}
use Rattle.std.proofs.lemmas.Bool.{eqb-true}
use Rattle.mda_ring.specs.Texts.{byte_in, taken_bytes, without_zero}
use Rattle.mda_ring.proofs.StoredTexts.{other_stored, same_stored}
use Rattle.mda_ring.proofs.text_read.is_stored_in.Goals as goal

pub returns-then-text-count : goal.returns-then-text-count
returns-then-text-count c =
    let locn = c.args.locn in
    let slice = c.as_slice-sectors.result.now in
    subst (λ (l : List (List ℕ)). IsTrue c.are_at.result ↔ (c.args.text.now ≡ without_zero (taken_bytes locn l)))
    c.as_slice-sectors.ensures.value
    (same_stored (λ j. byte_in slice (locn.offset % 512 + j)) locn.size c.kept_count-count.result c.args.text.now c.are_at.result
    c.requires.entry.has_bytes c.kept_count-count.ensures c.if-text-count.true c.are_at.ensures)

pub returns-else-text-count : goal.returns-else-text-count
returns-else-text-count c =
    let locn = c.args.locn in
    let text = c.args.text.now in
    let count = c.kept_count-count.result in
    let slice = c.as_slice-sectors.result.now in
    subst (λ (l : List (List ℕ)). IsTrue (eqb (length text) count) ↔ (text ≡ without_zero (taken_bytes locn l)))
    c.as_slice-sectors.ensures.value (
      (λ same. absurd (c.if-text-count.false (eqb-true (length text) count same))),
      (λ same. absurd (other_stored (λ j. byte_in slice (locn.offset % 512 + j)) locn.size count text c.requires.entry.has_bytes
          c.kept_count-count.ensures c.if-text-count.false same)),
    )
