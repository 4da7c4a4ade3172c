-- The names so far are found.
use Rattle.std.proofs.Common.{◌≡◌, ℕ, List, nat_eq, take, position, option_map}
use Rattle.std.specs.Option.{option_or}
use Rattle.std.specs.Cmp.Lexicographic.{pointwise}
use Rattle.meta_model.specs.declared.segment.On.TheVariants.{Lv}
use Rattle.meta_read.specs.Places.{place_in, names_in}
use Rattle.meta_read.proofs.places.add_lvs.Given as goal

abbrev pub invariant-loop-number : goal.invariant-loop-number
invariant-loop-number l =
    (q : List ℕ) → place_in l.on.entries q ≡ option_or (place_in l.fn.on.entries q)
    (option_map (λ number. Lv number) (position (pointwise nat_eq q) (take l.number (names_in l.lvs))))
