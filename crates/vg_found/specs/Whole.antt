-- Whether what was found is whole.
use Rattle.std.specs.Prelude.{◌≡◌, ◌≢◌, ℕ, Option, Some, find, []}
use Rattle.std.specs.List.{range_with_len}
use Rattle.std.specs.FinSet as set
use Rattle.std.specs.Ordering.{nat_cmp}
use Rattle.vg_found.specs.declared.found.Found.{Found}
use Rattle.vg_found.specs.declared.whole.NotWhole.{NotWhole}
use Rattle.vg_found.specs.declared.whole.NotWhole.TheVariants.{ReadFailed, Partial}

-- the least number in a set of disks
unfoldable pub first_of : set.FinSet nat_cmp → Option ℕ
first_of pvs = find (set.contains pvs) (range_with_len 0 64)

-- each disk was read, and each physical volume of the group is there
pub record IsWhole (found : Found) : Type 0 where
  pub read : found.unread ≡ set.empty
  pub there : found.missing ≡ []

-- the first disk that wasn't read, or where all were, that a physical volume is missing
abbrev pub IsNotWhole : Found → NotWhole → Type 0
IsNotWhole found (ReadFailed pv) = first_of found.unread ≡ Some pv
IsNotWhole found Partial = (found.unread ≡ set.empty) × (found.missing ≢ [])
