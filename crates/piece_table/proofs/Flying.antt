-- The operations in flight stay counted.
use Rattle.std.proofs.Common.{◌≡◌, ◌<◌, ℕ, ◌+◌, ◌-◌, Bool, true, false, cond, nat_eq, ◌==◌, List, [], ◌∷◌, ◌++◌, Option, Some, refl, sym}
use Rattle.std.proofs.Common.{ap, ◌∙◌, subst, arith}
use Rattle.std.specs.Prelude.{count_by}
use Rattle.std.specs.Option.{option_map_or}
use Rattle.std.proofs.lemmas.Bool.{eq-eqb, eqb-true}
use Rattle.std.proofs.lemmas.List.Sums.{sum_by_push}
use Rattle.indexmap.specs.IndexMap.{swap_remove_entry}
use Rattle.piece_table.specs.declared.live.LivePiece.{LivePiece}
use Rattle.piece_table.specs.declared.live.Owner.{Owner}
use Rattle.piece_table.specs.declared.live.Stage.{Stage}
use Rattle.piece_table.specs.declared.live.Stage.TheVariants.{Started, Taken, Waiting}
use Rattle.piece_table.specs.Pieces.{AreFlying, flying_in, flying_of, is_started_stage, live_at, owner_at}
use Rattle.piece_table.specs.Steps.{with_flying}
use Rattle.piece_table.proofs.Claimed.{Changes}
use Rattle.piece_table.proofs.Entries.{count_left}

-- how many are a piece's
abbrev pub owned : List (ℕ × Owner) → ℕ → ℕ
owned owners n = count_by (λ (e : ℕ × Owner). e.1.piece == n) owners

abbrev flying_now : Option LivePiece → ℕ
flying_now o = option_map_or (λ (l : LivePiece). flying_of l.stage) o 0

-- where one piece has so many more or less
pub flying_change : (lives after : List (ℕ × LivePiece)) (n : ℕ) (now : Option LivePiece) (owners others : List (ℕ × Owner))
    → Changes lives n now after
    → flying_now now ≡ owned others n → ((q : ℕ) → nat_eq n q ≡ false → owned others q ≡ owned owners q) → AreFlying lives owners
    → AreFlying after others
flying_change lives after n now owners others change is rest old q =
    elim (nat_eq n q) as
    (λ b. nat_eq n q ≡ b → flying_in after q ≡ owned others q) [
      | true ↦ λ t.
          ap flying_now (change q ∙ ap (λ b. cond b now (live_at lives q)) t)
          ∙ subst (λ (r : ℕ). flying_now now ≡ owned others r) (eqb-true n q t) is
      | false ↦ λ t.
          ap flying_now (change q ∙ ap (λ b. cond b now (live_at lives q)) t) ∙ old q ∙ sym (rest q t)
    ] refl

-- as many as before
pub flying_same : (lives after : List (ℕ × LivePiece)) (n : ℕ) (now : Option LivePiece) (owners : List (ℕ × Owner))
    → Changes lives n now after → flying_now now ≡ flying_in lives n → AreFlying lives owners
    → AreFlying after owners
flying_same lives after n now owners change same old =
    flying_change lives after n now owners owners change (same ∙ old n) (λ q other. refl) old

-- one more, and one less
pub flying_more : (lives after : List (ℕ × LivePiece)) (n tag : ℕ) (primary : Bool) (now : Option LivePiece)
    (owners : List (ℕ × Owner)) → Changes lives n now after → flying_now now ≡ flying_in lives n + 1 → AreFlying lives owners
    → AreFlying after (owners ++ (tag, record { piece = n; primary = primary }) ∷ [])
flying_more lives after n tag primary now owners change more old =
    let e : ℕ × Owner = (tag, record { piece = n; primary = primary }) in
    flying_change lives after n now owners (owners ++ e ∷ []) change
    (let pushed : owned (owners ++ e ∷ []) n ≡ owned owners n + cond (nat_eq n n) 1 0 =
    sum_by_push (λ (x : ℕ × Owner). cond (x.1.piece == n) 1 0) owners e in
    let one : cond {A = ℕ} (nat_eq n n) 1 0 ≡ 1 = ap (λ b. cond {A = ℕ} b 1 0) (eq-eqb n n refl) in
    let was : flying_in lives n ≡ owned owners n = old n in
    omega (arith, pushed, one, more, was))
    (λ q other.
    let pushed : owned (owners ++ e ∷ []) q ≡ owned owners q + cond (nat_eq n q) 1 0 =
    sum_by_push (λ (x : ℕ × Owner). cond (x.1.piece == q) 1 0) owners e in
    let none : cond {A = ℕ} (nat_eq n q) 1 0 ≡ 0 = ap (λ b. cond {A = ℕ} b 1 0) other in
    omega (arith, pushed, none)) old

pub flying_less : (lives after : List (ℕ × LivePiece)) (tag : ℕ) (owner : Owner) (now : Option LivePiece) (owners : List (ℕ × Owner))
    → owner_at owners tag ≡ Some owner → Changes lives owner.piece now after → flying_now now + 1 ≡ flying_in lives owner.piece
    → AreFlying lives owners
    → AreFlying after (swap_remove_entry (nat_eq tag) owners)
flying_less lives after tag owner now owners is change less old =
    flying_change lives after owner.piece now owners (swap_remove_entry (nat_eq tag) owners) change
    (let taken : owned (swap_remove_entry (nat_eq tag) owners) owner.piece + cond (nat_eq owner.piece owner.piece) 1 0
    ≡ owned owners owner.piece = count_left (λ (o : Owner). o.piece == owner.piece) (nat_eq tag) owners owner is in
    let one : cond {A = ℕ} (nat_eq owner.piece owner.piece) 1 0 ≡ 1 = ap (λ b. cond {A = ℕ} b 1 0) (eq-eqb owner.piece owner.piece refl) in
    let was : flying_in lives owner.piece ≡ owned owners owner.piece = old owner.piece in
    omega (arith, taken, one, less, was))
    (λ q other.
    let taken : owned (swap_remove_entry (nat_eq tag) owners) q + cond (nat_eq owner.piece q) 1 0 ≡ owned owners q =
    count_left (λ (o : Owner). o.piece == q) (nat_eq tag) owners owner is in
    let none : cond {A = ℕ} (nat_eq owner.piece q) 1 0 ≡ 0 = ap (λ b. cond {A = ℕ} b 1 0) other in
    omega (arith, taken, none)) old

-- an operation's piece has one in flight
pub owner_flies : (lives : List (ℕ × LivePiece)) (tag : ℕ) (owner : Owner) (owners : List (ℕ × Owner))
    → owner_at owners tag ≡ Some owner → AreFlying lives owners
    → 0 < flying_in lives owner.piece
owner_flies lives tag owner owners is old =
    let taken : owned (swap_remove_entry (nat_eq tag) owners) owner.piece + cond (nat_eq owner.piece owner.piece) 1 0
    ≡ owned owners owner.piece = count_left (λ (o : Owner). o.piece == owner.piece) (nat_eq tag) owners owner is in
    let one : cond {A = ℕ} (nat_eq owner.piece owner.piece) 1 0 ≡ 1 = ap (λ b. cond {A = ℕ} b 1 0) (eq-eqb owner.piece owner.piece refl) in
    let was : flying_in lives owner.piece ≡ owned owners owner.piece = old owner.piece in
    omega (arith, taken, one, was)

-- stages with one more, and with one less
pub one_more : (s : Stage) → is_started_stage s ≡ true → flying_of (with_flying s (λ n. n + 1)) ≡ flying_of s + 1
one_more (Started flying lost) e = refl
one_more (Taken awaited) e = cc
one_more (Waiting sectors) e = cc

pub one_less : (s : Stage) → 0 < flying_of s → flying_of (with_flying s (λ n. n - 1)) + 1 ≡ flying_of s
one_less (Started flying lost) lt = omega (arith, lt)
one_less (Taken awaited) lt = absurd (omega (arith, lt))
one_less (Waiting sectors) lt = absurd (omega (arith, lt))
