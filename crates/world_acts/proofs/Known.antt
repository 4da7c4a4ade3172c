-- Whose the operations in flight are: found by their tags, as operations come and go.
use Rattle.std.proofs.Common.{◌≡◌, ◌≤◌, ◌<◌, ℕ, Bool, true, false, cond, not, nat_eq, List, [], ◌∷◌, ◌++◌, All, Option}
use Rattle.std.proofs.Common.{None, Some, filter, find, option_map, refl, sym, ap, ◌∙◌, arith, true≢false}
use Rattle.std.proofs.lemmas.Bool.{eqb-false, eqb-true, eq-eqb, ne_eqb}
use Rattle.std.proofs.lemmas.List.Elements.{All-head, All-tail}
use Rattle.std.proofs.lemmas.Option.{none-some}
use Rattle.disk_model.specs.Record.{Operation}
use Rattle.disk_model.specs.State.{IsLawful, State}
use Rattle.disk_model.specs.Steps.{Work as DiskWork, Flushing}
use Rattle.flush_plan.specs.declared.records.Flush.{Flush}
use Rattle.piece_table.specs.declared.live.LivePiece.{LivePiece}
use Rattle.piece_table.specs.declared.live.Owner.{Owner}
use Rattle.piece_table.specs.Pieces.{flying_in, owner_at}
use Rattle.world_acts.specs.declared.state.Core.{Core}
use Rattle.world_acts.specs.Orderly.{AreKnown, AreOwned}
use Rattle.world_acts.specs.Owners.{flush_at, in_flight_at, owned_work, piece_work}
use Rattle.world_acts.proofs.PiecesKept.{flying_started}
use Rattle.world_acts.proofs.Tables.{removed}

module _ {X : Type 0} where
  pub find_none : (test : X → Bool) (xs : List X) → All (λ (x : X). test x ≡ false) xs → find test xs ≡ None
  find_none test [] none = refl
  find_none test (x ∷ xs) none =
      ap (λ (b : Bool). cond b (Some x) (find test xs)) (All-head (λ (y : X). test y ≡ false) x xs none)
      ∙ find_none test xs (All-tail (λ (y : X). test y ≡ false) x xs none)

  -- one more at the end
  pub find_last : (test : X → Bool) (xs : List X) (x : X) → find test xs ≡ None → test x ≡ true → find test (xs ++ x ∷ []) ≡ Some x
  find_last test [] x none passes = ap (λ (b : Bool). cond b (Some x) None) passes
  find_last test (y ∷ xs) x none passes =
      elim (test y) as (λ b. cond b (Some y) (find test xs) ≡ None → cond b (Some y) (find test (xs ++ x ∷ [])) ≡ Some x) [
        | true ↦ λ h. absurd (none-some y (sym h))
        | false ↦ λ h. find_last test xs x h passes
      ] none

  pub find_before : (test : X → Bool) (xs : List X) (x : X) → test x ≡ false → find test (xs ++ x ∷ []) ≡ find test xs
  find_before test [] x fails = ap (λ (b : Bool). cond b (Some x) None) fails
  find_before test (y ∷ xs) x fails = ap (λ (o : Option X). cond (test y) (Some y) o) (find_before test xs x fails)

  -- of those that pass another test
  pub find_left : (test keep : X → Bool) → ((x : X) → test x ≡ true → keep x ≡ true) → (xs : List X)
      → find test (filter keep xs) ≡ find test xs
  find_left test keep keeps [] = refl
  find_left test keep keeps (x ∷ xs) =
      elim (keep x) as (λ b. keep x ≡ b
      → find test (cond b (x ∷ filter keep xs) (filter keep xs)) ≡ cond (test x) (Some x) (find test xs)) [
        | true ↦ λ k. ap (λ (o : Option X). cond (test x) (Some x) o) (find_left test keep keeps xs)
        | false ↦ λ k.
            elim (test x) as (λ b. test x ≡ b → find test (filter keep xs) ≡ cond b (Some x) (find test xs)) [
              | true ↦ λ t. absurd (true≢false (sym (keeps x t) ∙ k))
              | false ↦ λ t. find_left test keep keeps xs
            ] refl
      ] refl

  pub find_gone : (test keep : X → Bool) → ((x : X) → test x ≡ true → keep x ≡ false) → (xs : List X) → find test (filter keep xs) ≡ None
  find_gone test keep drops [] = refl
  find_gone test keep drops (x ∷ xs) =
      elim (keep x) as (λ b. keep x ≡ b → find test (cond b (x ∷ filter keep xs) (filter keep xs)) ≡ None) [
        | true ↦ λ k.
            elim (test x) as (λ b. test x ≡ b → cond b (Some x) (find test (filter keep xs)) ≡ None) [
              | true ↦ λ t. absurd (true≢false (sym k ∙ drops x t))
              | false ↦ λ t. find_gone test keep drops xs
            ] refl
        | false ↦ λ k. find_gone test keep drops xs
      ] refl

-- a tag that was not given yet is in flight nowhere
pub fresh_unknown : (s : State) (tag : ℕ) → IsLawful s → s.next_tag ≤ tag → in_flight_at s.in_flight tag ≡ None
fresh_unknown s tag lawful fresh =
    ap (λ (o : Option Operation). option_map (λ (x : Operation). x.work) o)
    (find_none (λ (o : Operation). nat_eq o.tag tag) s.in_flight
    (λ k d within. ne_eqb _ tag (λ e. omega (arith, e, fresh, lawful.tags k d within))))

-- an operation more, and one less
pub known_more : (ops : List Operation) (tag : ℕ) (work : DiskWork) (q : ℕ) → nat_eq tag q ≡ false
    → in_flight_at (ops ++ record { tag = tag; work = work } ∷ []) q ≡ in_flight_at ops q
known_more ops tag work q apart =
    ap (λ (o : Option Operation). option_map (λ (x : Operation). x.work) o)
    (find_before (λ (o : Operation). nat_eq o.tag q) ops (record { tag = tag; work = work }) apart)

pub known_last : (ops : List Operation) (tag : ℕ) (work : DiskWork) → in_flight_at ops tag ≡ None
    → in_flight_at (ops ++ record { tag = tag; work = work } ∷ []) tag ≡ Some work
known_last ops tag work none = by (find (λ (o : Operation). nat_eq o.tag tag) ops) refl none
  where
    by : (o : Option Operation) → find (λ (o : Operation). nat_eq o.tag tag) ops ≡ o → option_map (λ (x : Operation). x.work) o ≡ None
        → in_flight_at (ops ++ record { tag = tag; work = work } ∷ []) tag ≡ Some work
    by None at none =
        ap (λ (o : Option Operation). option_map (λ (x : Operation). x.work) o)
        (find_last (λ (o : Operation). nat_eq o.tag tag) ops (record { tag = tag; work = work }) at (eq-eqb tag tag refl))
    by (Some o) at none = absurd (none-some o.work (sym none))

pub known_left : (ops : List Operation) (tag q : ℕ) → nat_eq tag q ≡ false
    → in_flight_at (filter (λ (o : Operation). not (nat_eq o.tag tag)) ops) q ≡ in_flight_at ops q
known_left ops tag q apart =
    ap (λ (o : Option Operation). option_map (λ (x : Operation). x.work) o)
    (find_left (λ (o : Operation). nat_eq o.tag q) (λ (o : Operation). not (nat_eq o.tag tag))
    (λ o is. ap not (ne_eqb o.tag tag (λ e. eqb-false tag q apart (sym e ∙ eqb-true o.tag q is)))) ops)

pub known_gone : (ops : List Operation) (tag : ℕ) → in_flight_at (filter (λ (o : Operation). not (nat_eq o.tag tag)) ops) tag ≡ None
known_gone ops tag =
    ap (λ (o : Option Operation). option_map (λ (x : Operation). x.work) o)
    (find_gone (λ (o : Operation). nat_eq o.tag tag) (λ (o : Operation). not (nat_eq o.tag tag)) (λ o is. ap not is) ops)

-- the piece of an owner is under way, and has an operation in flight
pub owner_flies : {lives : List (ℕ × LivePiece)} {owners : List (ℕ × Owner)} (tag : ℕ) (owner : Owner) → AreOwned lives owners
    → owner_at owners tag ≡ Some owner
    → 0 < flying_in lives owner.piece
owner_flies {lives} {owners} tag owner o at =
    let sums = (removed owners tag owner o.single at).summed (λ (e : ℕ × Owner). cond (nat_eq e.1.piece owner.piece) 1 0) in
    let one : ◌≡◌ {A = ℕ} (cond (nat_eq owner.piece owner.piece) 1 0) 1 =
    ap (λ (b : Bool). cond b 1 0) (eq-eqb owner.piece owner.piece refl) in
    omega (arith, sums, one, o.flying owner.piece)

-- what isn't in flight has no owner, and is no flush
pub unknown : (s : State) (c : Core) (tag : ℕ) → AreKnown s c → AreOwned c.pieces.lives c.pieces.owners
    → in_flight_at s.in_flight tag ≡ None
    → (owner_at c.pieces.owners tag ≡ None) × (flush_at c.waits.plan tag ≡ None)
unknown s c tag known owned none = by (owner_at c.pieces.owners tag) refl (sym (known.owned tag) ∙ none)
  where
    no_flush : (f : Option Flush) → option_map (λ (x : Flush). Flushing x.pv) f ≡ None → f ≡ None
    no_flush None none = refl
    no_flush (Some f) none = absurd (none-some (Flushing f.pv) (sym none))

    by : (o : Option Owner) → owner_at c.pieces.owners tag ≡ o
        → owned_work c.pieces.lives (piece_work c) (flush_at c.waits.plan tag) o ≡ None
        → (owner_at c.pieces.owners tag ≡ None) × (flush_at c.waits.plan tag ≡ None)
    by None at none = (at, no_flush (flush_at c.waits.plan tag) none)
    by (Some o) at none =
        let p = flying_started c.pieces.lives o.piece (owner_flies tag o owned at) in
        absurd (none-some _ (sym none ∙ ap (λ (l : Option LivePiece). option_map (piece_work c) l) p.2.at))
