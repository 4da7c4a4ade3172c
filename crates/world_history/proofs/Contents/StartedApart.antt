-- Started pieces of which one writes share no sector, and a world begins so.
use Rattle.std.proofs.Common.{◌≡◌, ◌<◌, ◌≤◌, ℕ, Bool, true, false, ◌&&◌, ◌||◌, List, length, get_or, Some, option_map, ⊎_elim}
use Rattle.std.proofs.Common.{refl, sym, ap, subst, ◌∙◌, arith, true≢false}
use Rattle.std.specs.List.{list_any}
use Rattle.std.proofs.lemmas.Bool.{cases_lt, eqb-true}
use Rattle.std.proofs.lemmas.List.Sums.{passes_at_first}
use Rattle.std.proofs.lemmas.Option.{same_Some}
use Rattle.list_laws.proofs.Positions.{any_within}
use Rattle.sector_base.specs.declared.places.Piece.{Piece}
use Rattle.claim_table.proofs.Apart.{clash_swap}
use Rattle.claim_table.specs.declared.claim.Claim.{Claim}
use Rattle.claim_table.specs.Claims.{Claims, IsApart}
use Rattle.claim_table.specs.Conflict.{clash}
use Rattle.claim_table.specs.Extents.{overlaps}
use Rattle.claim_table.specs.Steps.{has_number, no_claim, number_at}
use Rattle.piece_table.specs.declared.live.LivePiece.{LivePiece}
use Rattle.piece_table.specs.Pieces.{is_waiting_stage, live_at, no_pieces}
use Rattle.world_acts.specs.declared.state.Core.{Core}
use Rattle.world_acts.specs.Steps.{new_core}
use Rattle.world_history.specs.Apart.{AreApart}
use Rattle.world_history.proofs.Contents.HeldPieces.{AreHeld, among_started, not_deferred}
use Rattle.world_history.proofs.Contents.ClaimsApart.{apart_of, held_of}

-- among these is the claim of the piece with this number
record HasClaim (xs : List Claim) (number : ℕ) (piece : Piece) : Type 0 where
  place : ℕ
  within : place < length xs
  its_number : (get_or xs place no_claim).number ≡ number
  its_piece : (get_or xs place no_claim).piece ≡ piece

has_claim : (c : Core) → AreApart c → (number : ℕ) (l : LivePiece) → live_at c.pieces.lives number ≡ Some l
    → list_any (has_number number) c.pieces.claims.deferred ≡ false → HasClaim c.pieces.claims.started number l.piece
has_claim c a number l at free =
    let xs : List Claim = c.pieces.claims.started in
    let some : list_any (has_number number) xs ≡ true = among_started c.pieces number l (held_of c a) at free in
    let within : number_at xs number < length xs = any_within (has_number number) xs some in
    let d : Claim = get_or xs (number_at xs number) no_claim in
    let is : d.number ≡ number = eqb-true d.number number (passes_at_first (has_number number) xs no_claim within) in
    record {
      place = number_at xs number;
      within = within;
      its_number = is;
      its_piece =
          same_Some d.piece l.piece
          (sym (a.claimed.started (number_at xs number) no_claim within)
          ∙ ap (λ (n : ℕ). option_map (λ (m : LivePiece). m.piece) (live_at c.pieces.lives n)) is
          ∙ ap (option_map (λ (m : LivePiece). m.piece)) at);
    }

-- two of the claims, in whatever order
claims_apart : (claims : Claims) → IsApart claims → (i j : ℕ) → i < length claims.started → j < length claims.started → (i ≡ j → ⊥)
    → clash (get_or claims.started i no_claim) (get_or claims.started j no_claim) ≡ false
claims_apart claims apart i j here there other =
    ⊎_elim (λ (lt : i < j). apart.pairwise i j no_claim lt there)
    (λ (ge : j ≤ i). clash_swap (get_or claims.started i no_claim) (get_or claims.started j no_claim)
    ∙ apart.pairwise j i no_claim (omega (arith, ge, other)) here) (cases_lt i j)

abbrev pieces_clash : Piece → Piece → Bool
pieces_clash p q = (p.write || q.write) && overlaps p q

-- pieces that aren't deferred
pub undeferred_apart : (c : Core) → AreApart c → (number other : ℕ) (l m : LivePiece) → live_at c.pieces.lives number ≡ Some l
    → live_at c.pieces.lives other ≡ Some m → (number ≡ other → ⊥)
    → list_any (has_number number) c.pieces.claims.deferred ≡ false
    → list_any (has_number other) c.pieces.claims.deferred ≡ false
    → (l.piece.write || m.piece.write) ≡ true → overlaps l.piece m.piece ≡ false
undeferred_apart c a number other l m at there apart free free' writes =
    let xs : List Claim = c.pieces.claims.started in
    let x = has_claim c a number l at free in
    let y = has_claim c a other m there free' in
    let clear : clash (get_or xs x.place no_claim) (get_or xs y.place no_claim) ≡ false =
    claims_apart c.pieces.claims a.apart x.place y.place x.within y.within
    (λ e. apart (sym x.its_number ∙ ap (λ (k : ℕ). (get_or xs k no_claim).number) e ∙ y.its_number)) in
    second_false (l.piece.write || m.piece.write) (overlaps l.piece m.piece)
    ((λ i. pieces_clash (sym x.its_piece i) (sym y.its_piece i)) ∙ clear) writes
  where
    second_false : (b o : Bool) → (b && o) ≡ false → b ≡ true → o ≡ false
    second_false true o none is = none
    second_false false o none is = absurd (true≢false (sym is))

-- of one that was submitted that is so
pub submitted_free : (c : Core) → AreApart c → (number : ℕ) (l : LivePiece) → live_at c.pieces.lives number ≡ Some l
    → is_waiting_stage l.stage ≡ false
    → list_any (has_number number) c.pieces.claims.deferred ≡ false
submitted_free c a number l at submitted = not_deferred c.pieces number l (held_of c a) at submitted

-- no piece at all
none_held : AreHeld no_pieces
none_held = record {
  claimed = record {
    started = λ k d within. absurd (omega (arith, within));
    deferred = λ k d within. absurd (omega (arith, within));
    once = λ q. refl;
  };
  waiting = λ k d within. absurd (omega (arith, within));
  apart = record {
    pairwise = λ i j d lt within. absurd (omega (arith, within));
    outside = λ k d within. absurd (omega (arith, within));
  };
}

-- a core without pieces, as a new one is
pub none_apart : (c : Core) → c.pieces ≡ no_pieces → AreApart c
none_apart c none = apart_of c (subst AreHeld (sym none) none_held)

pub new_apart : (c : Core) (disks volumes : ℕ) → AreApart (new_core c disks volumes)
new_apart c disks volumes = none_apart (new_core c disks volumes) refl
