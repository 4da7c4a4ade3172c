use Rattle.std.proofs.Common.{ℕ, ◌<◌, slice_index}
use Rattle.std.specs.Prelude.{IsTrue}
use Rattle.lvm_id.specs.LvmId.{fits_plain}
use Rattle.lvm_id.proofs.parse.first_bad_char.Given as goal

-- the bytes so far fit
abbrev pub invariant-loop-place : goal.invariant-loop-place
invariant-loop-place l = (k : ℕ) → k < l.place → IsTrue (fits_plain k (slice_index l.text k))
