use Rattle.std.proofs.Common.{◌≡◌, ◌+◌, ◌<◌, ◌^◌, ℕ, None, false, nat_lt, List, find, sym, subst, ◌∙◌, arith}
use Rattle.std.specs.List.{All}
use Rattle.std.proofs.lemmas.List.Elements.{All-weaker}
use Rattle.std.proofs.lemmas.Bool.Decides.{nat_tests}
use Rattle.pv_header.specs.declared.extent_list.Extent.{Extent}
use Rattle.pv_header.specs.Areas.{is_outside}
use Rattle.pv_header.proofs.Overlaps.{All-from_find}
use Rattle.pv_header.proofs.checks.check_areas.Goals as goal

-- areas that aren't outside end where 64 bits can say
ends_fit : (areas : List Extent) (disk_bytes : ℕ) → disk_bytes < 2 ^ 64 → find (is_outside disk_bytes) areas ≡ None
    → All (λ area. area.offset + area.size < 2 ^ 64) areas
ends_fit areas disk_bytes fits none =
    All-weaker (λ area. is_outside disk_bytes area ≡ false) (λ area. area.offset + area.size < 2 ^ 64)
    (λ area h. below area.offset area.size disk_bytes fits h) areas
    (All-from_find (is_outside disk_bytes) areas none)
  where
    below : (offset size disk_bytes : ℕ) → disk_bytes < 2 ^ 64 → nat_lt disk_bytes (offset + size) ≡ false → offset + size < 2 ^ 64
    below offset size disk_bytes fits h = grind (arith, nat_tests)

pub find_overlap-requires : goal.find_overlap-requires
find_overlap-requires c =
    subst (All (λ area. area.offset + area.size < 2 ^ 64)) (c.deref.ensures.value ∙ sym c.deref-2.ensures.value)
    (ends_fit c.deref.result.now c.args.disk_bytes (omega arith) (sym c.in_default.ensures))
