-- Lists in order.
use Rattle.std.specs.Prelude.{◌≡◌, ◌<◌, ◌≤◌, ℕ, AllPairs, List, false, length, slice_index_or}
use Rattle.std.specs.Ordering.{is_lt}
use Rattle.std.specs.declared.cmp.Ordering.{Ordering}

-- none of these stands behind one that is greater
abbrev pub IsAscending : {X : Type 0} → (X → X → Ordering) → List X → Type 0
IsAscending cmp xs = AllPairs (λ x y. is_lt (cmp y x) ≡ false) xs

-- before this place none is greater than the value, and from it on none is less
pub record StandsAt {X : Type 0} (cmp : X → X → Ordering) (xs : List X) (value : X) (at : ℕ) : Type 0 where
  pub within : at ≤ length xs
  pub before : (k : ℕ) (d : X) → k < at → is_lt (cmp value (slice_index_or xs k d)) ≡ false
  pub behind : (k : ℕ) (d : X) → at ≤ k → k < length xs → is_lt (cmp (slice_index_or xs k d) value) ≡ false
