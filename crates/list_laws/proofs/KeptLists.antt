-- What holds of the elements that a map of a list keeps.
use Rattle.std.proofs.Common.{◌≡◌, List, [], ◌∷◌, Option, Some, None, refl}
use Rattle.std.specs.Prelude.{filter_map, All}
use Rattle.std.specs.List.{cons_option}
use Rattle.std.proofs.lemmas.List.Elements.{All-nil, All-cons, All-head, All-tail}

-- what a map keeps of a list's elements has what follows for each
module _ {X Y : Type 0} (P : Y → Type 0) (Q : X → Type 0) (h : X → Option Y) (each : (x : X) (y : Y) → Q x → h x ≡ Some y → P y) where
  pub all_kept : (xs : List X) → All Q xs → All P (filter_map h xs)
  all_kept [] all = All-nil P
  all_kept (x ∷ xs) all = step (h x) refl (all_kept xs (All-tail Q x xs all)) where
    step : (o : Option Y) → h x ≡ o → All P (filter_map h xs) → All P (cons_option o (filter_map h xs))
    step None is rest = rest
    step (Some y) is rest = All-cons P y (filter_map h xs) (each x y (All-head Q x xs all) is) rest
