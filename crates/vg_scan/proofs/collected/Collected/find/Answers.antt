-- The copy at this size and sum, where the sectors store its text.
use Rattle.std.proofs.Common.{◌≡◌, ℕ, ◌+◌, ◌%◌, List, length, Some, get_or, sym, ap, subst, ◌∙◌}
use Rattle.std.specs.Prelude.{slice_get}
use Rattle.std.specs.BTreeMap.{get}
use Rattle.std.proofs.lemmas.Option.{get_or_from_slice_get, slice_get_within}
use Rattle.std.proofs.lemmas.List.FromFn.{length-map-range_with_len}
use Rattle.mda_ring.specs.Texts.{byte_in, taken_bytes, without_zero}
use Rattle.scan_rules.specs.Readings.{AllRead}
use Rattle.scan_rules.specs.declared.readings.GroupCopy.{GroupCopy}
use Rattle.vg_scan.specs.Collected.{WasReadAt, key_cmp}
use Rattle.vg_scan.specs.Texts.{IsStored}
use Rattle.vg_scan.proofs.KnownTexts.{gives_number, known_again}
use Rattle.vg_scan.proofs.collected.Collected.find.Goals as goal

pub returns-then-is_stored_in : goal.returns-then-is_stored_in
returns-then-is_stored_in c =
    let locn = c.args.locn in
    let bytes : List ℕ = taken_bytes locn c.args.sectors.now in
    let long : length bytes ≡ locn.size = length-map-range_with_len (λ j. byte_in c.args.sectors.now (locn.offset % 512 + j)) 0 locn.size in
    let copies : List GroupCopy = c.self.inside.readings.copies in
    let all : List GroupCopy = c.args.self.now.copies in
    let i : ℕ = c.in_ok-number.number in
    let got : get key_cmp c.self.inside.numbers (locn.size, locn.sum) ≡ Some i =
    sym c.get.ensures.value ∙ sym c.copied.ensures ∙ c.in_ok-number.was in
    let was : WasReadAt copies (locn.size, locn.sum) i = c.self.invariant (locn.size, locn.sum) i got in
    let at : slice_get all i ≡ Some was.1 = ap (λ (r : AllRead). slice_get r.copies i) (sym c.self.view_is) ∙ was.3 in
    let same : c.in_ok-copy.copy.now ≡ was.1 =
    c.in_ok-copy.ensures.lookup.1 ∙ ap (λ (l : List GroupCopy). get_or l i c.in_ok-copy.copy.now) c.copies.ensures
    ∙ get_or_from_slice_get copies i was.1 c.in_ok-copy.copy.now was.3
    in
    let text : was.1.text ≡ without_zero bytes =
    ap (λ (copy : GroupCopy). copy.text) (sym same) ∙ sym c.as_bytes.ensures ∙ c.is_stored_in.ensures.0 c.if-is_stored_in.true in (
      slice_get_within all i was.1 at,
      subst (IsStored locn bytes) (sym (gives_number all i was.1 at))
          (known_again was.0 locn was.1 bytes was.4 (ap (λ (k : ℕ × ℕ). k.0) was.2) (ap (λ (k : ℕ × ℕ). k.1) was.2) long text),
    )
