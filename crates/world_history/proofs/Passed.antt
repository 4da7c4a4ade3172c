-- The line that waits for all others is answered, once no other is open.
use Rattle.std.proofs.Common.{◌≡◌, ◌≤◌, ◌⊎◌, ℕ, zero, suc, Bool, true, false, cond, List, [], ◌∷◌, ◌++◌, Option, None, Some, inl, inr}
use Rattle.std.proofs.Common.{filter, get_or, IfSome, is_some, length, map, refl, sym, ap, subst, ◌∙◌, arith, true≢false}
use Rattle.std.proofs.lemmas.Option.{same_Some}
use Rattle.line_answers.specs.declared.answer.Answer.{Answer}
use Rattle.line_table.specs.Steps.{is_open}
use Rattle.volume_history.specs.Chronicles.{ChronicleEntry}
use Rattle.world_acts.specs.declared.open_line.OpenLine.{OpenLine}
use Rattle.world_acts.specs.declared.state.Core.{Core}
use Rattle.world_acts.specs.Acts.{Allowed, Passes, World, after, world}
use Rattle.world_acts.specs.OpenLines.{IsBarrier}
use Rattle.world_acts.specs.Orderly.{IsOrderly}
use Rattle.world_acts.specs.Steps.{taken_whole}
use Rattle.world_acts.proofs.LinesKept.{open_is}
use Rattle.world_acts.proofs.ShortActs.{with_others}
use Rattle.world_history.specs.Entries.{answered, entries_of}
use Rattle.world_history.specs.Told.{IsOnly, IsTold}
use Rattle.world_history.proofs.LineClosed.{close_told, closed_core}
use Rattle.world_history.proofs.OpenTold.{tail_of}
use Rattle.world_history.proofs.Quiet.{quiet_told}

-- one that is open is counted
pub some_open : (list : List (Option OpenLine)) (answers : List (ℕ × Option Answer)) (q : ℕ) → map is_some list ≡ map is_open answers
    → is_some (get_or list q None) ≡ true
    → 1 ≤ length (filter is_open answers)
some_open [] answers q same is = absurd (true≢false (sym is))
some_open (o ∷ list) [] q same is = cc
some_open (o ∷ list) (a ∷ answers) zero same is =
    let opened : is_open a ≡ true = sym (ap (λ (l : List Bool). get_or l 0 false) same) ∙ is in rw (opened) (omega arith)
some_open (o ∷ list) (a ∷ answers) (suc q) same is =
    elim (is_open a) as (λ b. 1 ≤ length (cond b (a ∷ filter is_open answers) (filter is_open answers))) [
      | true ↦ omega arith
      | false ↦ some_open list answers q (ap tail_of same) is
    ]

-- two of one
one_open : (list : List (Option OpenLine)) (answers : List (ℕ × Option Answer)) (n q : ℕ) → map is_some list ≡ map is_open answers
    → length (filter is_open answers) ≤ 1
    → is_some (get_or list n None) ≡ true
    → is_some (get_or list q None) ≡ true
    → q ≡ n
one_open [] answers n q same few is also = absurd (true≢false (sym is))
one_open (o ∷ list) [] n q same few is also = cc
one_open (o ∷ list) (a ∷ answers) zero zero same few is also = refl
one_open (o ∷ list) (a ∷ answers) zero (suc q) same few is also =
    let opened : is_open a ≡ true = sym (ap (λ (l : List Bool). get_or l 0 false) same) ∙ is in
    let more = some_open list answers q (ap tail_of same) also in
    absurd (omega (arith, more, (rw (opened) at few)))
one_open (o ∷ list) (a ∷ answers) (suc n) zero same few is also =
    let opened : is_open a ≡ true = sym (ap (λ (l : List Bool). get_or l 0 false) same) ∙ also in
    let more = some_open list answers n (ap tail_of same) is in
    absurd (omega (arith, more, (rw (opened) at few)))
one_open (o ∷ list) (a ∷ answers) (suc n) (suc q) same few is also =
    ap suc (one_open list answers n q (ap tail_of same) (fewer (is_open a) few) is also)
  where
    fewer : (b : Bool) → length (cond b (a ∷ filter is_open answers) (filter is_open answers)) ≤ 1 → length (filter is_open answers) ≤ 1
    fewer true few = omega (arith, few)
    fewer false few = few

module _ {start : ℕ} {coming : ℕ → ℕ → ℕ} {w : World} {es : List ChronicleEntry} (t : IsTold start coming w es) (o : IsOrderly w)
    (entered : (q x : ℕ) → coming q x ≡ 0) where
  pub pass_told : (n : ℕ) → Allowed w (Passes n) → IsTold start coming (after w (Passes n)) (entries_of w (Passes n) ++ es)
  pass_told n allowed =
      let c : Core = w.core in
      let u : World = world w.shelf (record c { barrier = None }) in
      let holds : IsBarrier c.opens n = subst (λ (x : Option ℕ). IfSome x (IsBarrier c.opens)) allowed.0 o.tidy.lines.holds in
      let only : IsOnly w n = λ q opened.
      one_open c.opens.list c.lines.answers n q o.tidy.lines.opened allowed.1 (ap is_some holds.is_open) opened in
      let told : IsTold start coming u es =
      quiet_told t coming u refl refl refl (omega arith) t.lines t.through
      (λ q x l at is wait. inr (alone q only (t.waits q x l at is wait))) in
      subst (λ (x : OpenLine). IsTold start coming
      (world w.shelf (closed_core u.core (taken_whole c.lines n x w.shelf.steps) n w.shelf.steps x)) (answered w.shelf.steps n x ++ es))
      (sym (open_is c.opens n holds.opened holds.is_open))
      (close_told told (with_others w c.pieces.claims c.failed None o tt) entered n holds.opened holds.is_open holds.alone
      (λ l is wait. only))
    where
      alone : (q : ℕ) → IsOnly w n → (w.core.barrier ≡ Some q) ⊎ IsOnly w q → IsOnly w q
      alone q only (inl holds) =
          subst (λ (k : ℕ). IsOnly w k) (same_Some n q (sym allowed.0 ∙ holds)) only
      alone q only (inr is) = is
