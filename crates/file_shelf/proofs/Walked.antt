-- Numbers that are walked: each is still to come, or something holds of it.
use Rattle.std.proofs.Common.{◌≡◌, ◌<◌, ℕ, zero, suc, List, [], ◌∷◌, length, get_or, Contains, ◌⊎◌, inl, inr, ⊎_elim, ap, subst, ◌∙◌, arith}
use Rattle.std.specs.BTreeMap.{BTreeMap, is_at, values}
use Rattle.std.specs.Option.{option_map}
use Rattle.std.proofs.lemmas.Map.Entries.{place_from_lookup}
use Rattle.std.proofs.lemmas.Option.{slice_get-map, slice_get_within, get_or_from_slice_get}
use Rattle.file_shelf.specs.declared.image.Node.{Node}
use Rattle.file_shelf.specs.Nodes.{node_cmp, AreNumbered}

-- each number below n is one of the rest, or P holds of it
abbrev pub Walked : (ℕ → Type 0) → ℕ → List ℕ → Type 0
Walked P n rest = (k : ℕ) → k < n → Contains rest k ⊎ P k

-- the first, or one of the others
first_or_rest : (x : ℕ) (xs : List ℕ) (k : ℕ) → Contains (x ∷ xs) k → (x ≡ k) ⊎ Contains xs k
first_or_rest x xs k (zero, within, is) = inl is
first_or_rest x xs k (suc i, within, is) = inr (i, omega (arith, within), is)

module _ (P : ℕ → Type 0) (n : ℕ) (rest : List ℕ) (was : Walked P n rest) where
  -- once it holds of the first of the rest
  pub walked_on : (x : ℕ) (more : List ℕ) → rest ≡ x ∷ more → P x → Walked P n more
  walked_on x more is holds k lt =
      let in_rest : Contains rest k → (x ≡ k) ⊎ Contains more k = λ there. first_or_rest x more k (subst (λ ns. Contains ns k) is there) in
      ⊎_elim (λ there. ⊎_elim (λ e. inr (subst P e holds)) inl (in_rest there)) inr (was k lt)

  -- and once no number is left
  pub walked_all : rest ≡ [] → (k : ℕ) → k < n → P k
  walked_all is k lt = ⊎_elim (λ there. absurd (omega (arith, (subst (λ ns. Contains ns k) is there).1))) (λ held. held) (was k lt)

-- each number of a list of nodes is one of those in the map
pub number_stands : (numbers : BTreeMap Node ℕ) (nodes : List Node) → AreNumbered numbers nodes
    → (k : ℕ) → k < length nodes → Contains (values numbers) k
number_stands numbers nodes is k within =
    let none : Node = record { device = 0; inode = 0 } in
    let at = place_from_lookup (is_at (node_cmp (get_or nodes k none))) numbers.entries k (is.0 k none within) in
    let there = slice_get-map (λ (e : Node × ℕ). e.1) numbers.entries at.0 ∙ ap (option_map (λ (e : Node × ℕ). e.1)) at.2 in
    (at.0, slice_get_within (values numbers) at.0 k there, get_or_from_slice_get (values numbers) at.0 k k there)
