-- The views of all seats, after one of them changed or one more came.
use Rattle.std.proofs.Common.{◌≡◌, ℕ, zero, suc, ◌+◌, ◌≤◌, ◌⊎◌, inl, ⊎_elim, Bool, true, false, List, [], ◌∷◌, ◌++◌, set, sym, refl, ap}
use Rattle.std.proofs.Common.{◌∙◌, subst, arith, replicate, append_assoc}
use mathlib.Core.Logic.{dite}
use mathlib.Core.Option.{some, some-ne-none, some-injective}
use mathlib.Core.List.{IsPrefix}
use native.Mathlib.Decide.{ℕ_discrete}
use lib.ListN.{get_elem?}
use Rattle.std.proofs.lemmas.List.{replicate_more}
use Rattle.atomic_table.proofs.Lists.{at_set, at_snoc, at_longer, set_else}
use Rattle.table_lock.specs.declared.event.LockEvent.{LockEvent}
use Rattle.table_lock.specs.declared.event.LockEvent.TheVariants.{Missed}
use Rattle.table_lock.specs.declared.view.SeatView.{SeatView}
use Rattle.table_lock.specs.Views.{weight, turns, EachBegins, IsSpent}
use Rattle.table_lock.specs.Rule.{IsKnown, IsSince}
use Rattle.table_lock.proofs.Prefixes.{prefix_trans, prefix_of_nothing}
use Rattle.table_lock.proofs.Totals.{total-at}

pub weight_none : (b : Bool) → weight b ≡ 0 → b ≡ false
weight_none true e = absurd (omega arith)
weight_none false e = refl

pub weight_one : (b : Bool) → weight b ≡ 1 → b ≡ true
weight_one true e = refl
weight_one false e = absurd (omega arith)

pub weight_most : (b : Bool) → weight b ≤ 1
weight_most true = omega arith
weight_most false = omega arith

pub at_here : {A : Type 0} (l : List A) (i : ℕ) (v w : A) → get_elem? l i ≡ some v → get_elem? (set l i w) i ≡ some w
at_here [] i v w e = absurd (some-ne-none v (sym e))
at_here (x ∷ xs) zero v w e = refl
at_here (x ∷ xs) (suc i) v w e = at_here xs i v w e

module _ {T : Type 0} where
  abbrev W : SeatView T → ℕ
  W v = weight v.has_turn

  -- what is known of seats without parts, and of seats that have the turn
  abbrev pub AllSpent : List (SeatView T) → Type 0
  AllSpent views = (k : ℕ) (v : SeatView T) → get_elem? views k ≡ some v → v.parts ≡ 0 → IsSpent v

  abbrev pub AllHeld : List (SeatView T) → List (LockEvent T) → Type 0
  AllHeld views h = (k : ℕ) (v : SeatView T) → get_elem? views k ≡ some v → v.has_turn ≡ true → IsSince v.history h

  abbrev pub Begins : SeatView T → List (LockEvent T) → Type 0
  Begins v h = IsPrefix v.history h × IsPrefix v.told h

  abbrev pub Knows : SeatView T → List (LockEvent T) → Type 0
  Knows v h = (v.history ≡ h) ⊎ (v.told ≡ h)

  pub each_set : (views : List (SeatView T)) (i : ℕ) (w : SeatView T) (h : List (LockEvent T)) → EachBegins views h → Begins w h
      → EachBegins (set views i w) h
  each_set views i w h all one k u at =
      ⊎_elim (λ t. subst (λ (x : SeatView T). Begins x h) t.1 one) (λ t. all k u t.1) (at_set views i k w u at)

  pub each_snoc : (views : List (SeatView T)) (w : SeatView T) (h : List (LockEvent T)) → EachBegins views h → Begins w h
      → EachBegins (views ++ w ∷ []) h
  each_snoc views w h all one k u at = ⊎_elim (λ t. all k u t) (λ t. subst (λ (x : SeatView T). Begins x h) t one) (at_snoc views w u k at)

  pub each_longer : (views : List (SeatView T)) (h more : List (LockEvent T)) → EachBegins views h → IsPrefix h more → EachBegins views more
  each_longer views h more all p k u at = let r = all k u at in (prefix_trans u.history h more r.0 p, prefix_trans u.told h more r.1 p)

  pub spent_set : (views : List (SeatView T)) (i : ℕ) (w : SeatView T) → AllSpent views → (w.parts ≡ 0 → IsSpent w)
      → AllSpent (set views i w)
  spent_set views i w all one k u at =
      ⊎_elim (λ t. subst (λ (x : SeatView T). x.parts ≡ 0 → IsSpent x) t.1 one) (λ t. all k u t.1) (at_set views i k w u at)

  pub spent_snoc : (views : List (SeatView T)) (w : SeatView T) → AllSpent views → (w.parts ≡ 0 → IsSpent w) → AllSpent (views ++ w ∷ [])
  spent_snoc views w all one k u at =
      ⊎_elim (λ t. all k u t) (λ t. subst (λ (x : SeatView T). x.parts ≡ 0 → IsSpent x) t one) (at_snoc views w u k at)

  pub held_set : (views : List (SeatView T)) (i : ℕ) (w : SeatView T) (h : List (LockEvent T)) → AllHeld views h
      → (w.has_turn ≡ true → IsSince w.history h) → AllHeld (set views i w) h
  held_set views i w h all one k u at =
      ⊎_elim (λ t. subst (λ (x : SeatView T). x.has_turn ≡ true → IsSince x.history h) t.1 one) (λ t. all k u t.1) (at_set views i k w u at)

  pub held_snoc : (views : List (SeatView T)) (w : SeatView T) (h : List (LockEvent T)) → AllHeld views h
      → (w.has_turn ≡ true → IsSince w.history h) → AllHeld (views ++ w ∷ []) h
  held_snoc views w h all one k u at =
      ⊎_elim (λ t. all k u t) (λ t. subst (λ (x : SeatView T). x.has_turn ≡ true → IsSince x.history h) t one) (at_snoc views w u k at)

  -- where no seat has the turn, nothing is asked of those that have it
  pub none_held : (views : List (SeatView T)) (h : List (LockEvent T)) → turns views ≡ 0 → AllHeld views h
  none_held views h empty k u at has = let le = total-at W views k u at in let one : W u ≡ 1 = ap weight has in absurd (omega arith)

  pub known_here : (views : List (SeatView T)) (i : ℕ) (v w : SeatView T) (h : List (LockEvent T)) → get_elem? views i ≡ some v
      → w.history ≡ h → IsKnown (set views i w) h
  known_here views i v w h at is = (i, w, at_here views i v w at, inl is)

  pub known_set : (views : List (SeatView T)) (i : ℕ) (v w : SeatView T) (h : List (LockEvent T)) → get_elem? views i ≡ some v
      → (Knows v h → Knows w h) → IsKnown views h → IsKnown (set views i w) h
  known_set views i v w h at more known = dite (ℕ_discrete known.0 i)
      (λ e. let same : known.1 ≡ v = some-injective known.1 v (sym known.2 ∙ (ap (λ (j : ℕ). get_elem? views j) e ∙ at)) in
      (i, w, at_here views i v w at, more (subst (λ (x : SeatView T). Knows x h) same known.3)))
      (λ ne. (known.0, known.1, set_else views i known.0 w ne ∙ known.2, known.3))

  pub known_snoc : (views : List (SeatView T)) (w : SeatView T) (h : List (LockEvent T)) → IsKnown views h → IsKnown (views ++ w ∷ []) h
  known_snoc views w h known = (known.0, known.1, at_longer views (w ∷ []) known.0 known.1 known.2, known.3)

  -- a seat that was told nothing knows what it has seen
  pub has_seen : (v : SeatView T) (h : List (LockEvent T)) → v.told ≡ [] → Begins v h → Knows v h → v.history ≡ h
  has_seen v h none begins knows = ⊎_elim (λ e. e)
      (λ e. let empty : h ≡ [] = sym e ∙ none in prefix_of_nothing v.history
      (subst (λ (l : List (LockEvent T)). IsPrefix v.history l) empty begins.0) ∙ sym empty) knows

  -- one more miss
  pub since_miss : (seen h : List (LockEvent T)) → IsSince seen h → IsSince seen (h ++ Missed ∷ [])
  since_miss seen h since = (
    since.0 + 1,
    ap (λ l. l ++ Missed ∷ []) since.1
        ∙ (append_assoc seen (replicate since.0 Missed) (Missed ∷ []) ∙ ap (λ l. seen ++ l) (replicate_more since.0 Missed)),
  )
