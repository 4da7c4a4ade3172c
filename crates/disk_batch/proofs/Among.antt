-- What holds of some numbers, of all or of each that is among them.
use Rattle.std.proofs.Common.{ℕ, List, [], ◌∷◌, All, inl, inr, refl, subst}
use Rattle.std.proofs.lemmas.List.Elements.{All-cons, All-head, All-nil, All-tail}
use Rattle.disk_model.specs.InFlight.{IsAmong}

-- from each to all
pub all_of_each : (P : ℕ → Type 0) (ns : List ℕ) → ((n : ℕ) → IsAmong ns n → P n) → All P ns
all_of_each P [] each = All-nil P
all_of_each P (n ∷ ns) each = All-cons P n ns (each n (inl refl)) (all_of_each P ns (λ m among. each m (inr among)))

-- and from all to each
pub each_of_all : (P : ℕ → Type 0) (ns : List ℕ) (n : ℕ) → All P ns → IsAmong ns n → P n
each_of_all P [] n all among = absurd among
each_of_all P (m ∷ ns) n all (inl same) = subst P same (All-head P m ns all)
each_of_all P (m ∷ ns) n all (inr later) = each_of_all P ns n (All-tail P m ns all) later
