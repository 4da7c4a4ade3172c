-- No two writes in flight are of the same sector.
use Rattle.std.proofs.Common.{◌≡◌, ◌≤◌, ◌<◌, ◌⊎◌, ℕ, ◌+◌, Bool, true, false, cond, ◌==◌, nat_eq, nat_le, nat_lt, max, min, List}
use Rattle.std.proofs.Common.{Contains, Option, Some, All, count_by, inl, inr, refl, sym, ap, ◌∙◌, arith, true≢false, ⊎_elim}
use Rattle.std.specs.List.{list_any}
use Rattle.std.specs.Option.{option_map_or}
use Rattle.std.proofs.lemmas.Bool.{and_parts, cases_eq, eq-eqb, eqb-true, or_right}
use Rattle.std.proofs.lemmas.List.Elements.{All-contains}
use Rattle.std.proofs.lemmas.Option.{same_Some}
use Rattle.list_laws.proofs.Bools.{and_both, lt_true, true_le, true_lt}
use Rattle.sector_base.specs.declared.places.Piece.{Piece}
use Rattle.data_lines.specs.DataLines.{in_range}
use Rattle.claim_table.specs.Extents.{end_of, overlaps}
use Rattle.claim_table.specs.Steps.{has_number}
use Rattle.piece_table.specs.declared.live.LivePiece.{LivePiece}
use Rattle.piece_table.specs.declared.live.Owner.{Owner}
use Rattle.piece_table.specs.Pieces.{flying_in, flying_of, live_at, owner_at}
use Rattle.volume_history.specs.Chronicles.{piece_covers}
use Rattle.volume_history.specs.Placed.{Place}
use Rattle.world_acts.specs.Acts.{World}
use Rattle.world_acts.specs.Orderly.{AreOwned, IsOrderly}
use Rattle.world_acts.proofs.Tables.{at_number, none_counted, removed}
use Rattle.world_history.specs.Apart.{AreApart}
use Rattle.world_history.proofs.Contents.StartedApart.{submitted_free, undeferred_apart}
use Rattle.world_places.specs.Lives.{Leg, Live}
use Rattle.world_tracks.specs.Lives.{leg_of, live_of}
use Rattle.world_tracks.proofs.Lives.{InFlight}
use Rattle.world_tracks.proofs.LivesAre.{flies}
use Rattle.world_tracks.proofs.LivesLess.{is_left, owner_of, without}

-- pieces that cover the same sector overlap
pub both_cover : (p q : Piece) (key x : ℕ) → piece_covers p key x ≡ true → piece_covers q key x ≡ true → overlaps p q ≡ true
both_cover p q key x one other =
    let a = and_parts (p.volume == key) (in_range p.first p.count x) one in
    let b = and_parts (q.volume == key) (in_range q.first q.count x) other in
    let c = and_parts (nat_le p.first x) (nat_lt x (p.first + p.count)) a.1 in
    let d = and_parts (nat_le q.first x) (nat_lt x (q.first + q.count)) b.1 in
    let p_low : p.first ≤ x = true_le p.first x c.0 in
    let q_low : q.first ≤ x = true_le q.first x d.0 in
    let p_high : x < p.first + p.count = true_lt x (p.first + p.count) c.1 in
    let q_high : x < q.first + q.count = true_lt x (q.first + q.count) d.1 in
    and_both (p.volume == q.volume) (nat_lt (max p.first q.first) (min (end_of p) (end_of q)))
    (eq-eqb p.volume q.volume (eqb-true p.volume key a.0 ∙ sym (eqb-true q.volume key b.0)))
    (lt_true (max p.first q.first) (min (end_of p) (end_of q)) (omega (arith, p_low, q_low, p_high, q_high)))

module _ (w : World) (o : IsOrderly w) (a : AreApart w.core) {key x : ℕ} {place : Place} {l : Live} {leg : Leg}
    (f : InFlight w.core w.core.pieces.owners key x place l leg) where
  -- a piece that isn't deferred and covers the sector of a write in flight is that one's
  pub piece_is : (number : ℕ) (m : LivePiece) → live_at w.core.pieces.lives number ≡ Some m
      → list_any (has_number number) w.core.pieces.claims.deferred ≡ false
      → piece_covers m.piece key x ≡ true
      → number ≡ f.owner.piece
  piece_is number m at free covers = ⊎_elim (λ is. is) (λ other. absurd (true≢false (clashes other))) (cases_eq number f.owner.piece)
    where
      clashes : (number ≡ f.owner.piece → ⊥) → true ≡ false
      clashes other =
          sym (both_cover m.piece f.live.piece key x covers f.covers)
          ∙ undeferred_apart w.core a number f.owner.piece m f.live at f.at other free
          (submitted_free w.core a f.owner.piece f.live f.at (flies w f.tag f.owner f.live o f.owned f.at).submitted)
          (or_right m.piece.write f.live.piece.write f.write)

  -- so one with nothing in flight covers none
  pub none_there : (number : ℕ) (m : LivePiece) → live_at w.core.pieces.lives number ≡ Some m
      → list_any (has_number number) w.core.pieces.claims.deferred ≡ false
      → flying_in w.core.pieces.lives number ≡ 0
      → piece_covers m.piece key x ≡ false
  none_there number m at free none = by (piece_covers m.piece key x) refl
    where
      owned : nat_eq f.owner.piece number ≡ false
      owned =
          All-contains (λ (e : ℕ × Owner). nat_eq e.1.piece number ≡ false) w.core.pieces.owners (f.tag, f.owner)
          (none_counted (λ (e : ℕ × Owner). nat_eq e.1.piece number) w.core.pieces.owners (sym (o.tidy.owners.flying number) ∙ none))
          f.owned

      by : (b : Bool) → piece_covers m.piece key x ≡ b → b ≡ false
      by true covers =
          absurd (true≢false (sym (eq-eqb f.owner.piece number (sym (piece_is number m at free covers))) ∙ owned))
      by false covers = refl

-- two operations of one piece that has one at most
pub one_operation : (lives : List (ℕ × LivePiece)) (owners : List (ℕ × Owner)) → AreOwned lives owners → (s t : ℕ) (p q : Owner)
    → Contains owners (s, p)
    → Contains owners (t, q)
    → p.piece ≡ q.piece
    → flying_in lives p.piece ≤ 1
    → ◌≡◌ {A = ℕ × Owner} (s, p) (t, q)
one_operation lives owners owned s t p q one other same most = by (is_left owners s p owned.single at t q other)
  where
    at : owner_at owners s ≡ Some p
    at = owner_of owners s p owned.single one

    test : ℕ × Owner → Bool
    test e = nat_eq e.1.piece p.piece

    none : count_by test (without s owners) ≡ 0
    none =
        let sums = (removed owners s p owned.single at).summed (λ (e : ℕ × Owner). cond (test e) 1 0) in
        let mine : ◌≡◌ {A = ℕ} (cond (nat_eq p.piece p.piece) 1 0) 1 =
        ap (λ (b : Bool). cond b 1 0) (eq-eqb p.piece p.piece refl) in
        omega (arith, sums, mine, owned.flying p.piece, most)

    by : Contains (without s owners) (t, q) ⊎ ◌≡◌ {A = ℕ × Owner} (s, p) (t, q) → ◌≡◌ {A = ℕ × Owner} (s, p) (t, q)
    by (inl left) =
        absurd (true≢false (sym (eq-eqb q.piece p.piece (sym same))
        ∙ All-contains (λ (e : ℕ × Owner). test e ≡ false) (without s owners) (t, q)
        (none_counted test (without s owners) none) left))
    by (inr is) = is

-- where no piece has two operations in flight, the two are one
pub record AreOne (s t : ℕ) (l m : Live) (leg its : Leg) : Type 0 where
  pub tags : s ≡ t
  pub lives : l ≡ m
  pub legs : leg ≡ its

module _ (w : World) (o : IsOrderly w) (a : AreApart w.core) {key x : ℕ} {place there : Place} {l m : Live} {leg its : Leg}
    (f : InFlight w.core w.core.pieces.owners key x place l leg) (g : InFlight w.core w.core.pieces.owners key x there m its) where
  -- both are of one piece
  pub piece_in : f.owner.piece ≡ g.owner.piece
  piece_in =
      piece_is w o a g f.owner.piece f.live f.at
      (submitted_free w.core a f.owner.piece f.live f.at (flies w f.tag f.owner f.live o f.owned f.at).submitted) f.covers

  pub live_in : f.live ≡ g.live
  live_in = same_Some f.live g.live (sym f.at ∙ ap (λ (n : ℕ). live_at w.core.pieces.lives n) piece_in ∙ g.at)

  pub apart_in : All (λ (e : ℕ × LivePiece). flying_of e.1.stage ≤ 1) w.core.pieces.lives → AreOne f.tag g.tag l m leg its
  apart_in once =
      let most : flying_of f.live.stage ≤ 1 =
      at_number (λ (e : ℕ × LivePiece). flying_of e.1.stage ≤ 1) w.core.pieces.lives f.owner.piece f.live once f.at in
      let many : flying_in w.core.pieces.lives f.owner.piece ≡ flying_of f.live.stage =
      ap (λ (p : Option LivePiece). option_map_or (λ (k : LivePiece). flying_of k.stage) p 0) f.at in
      let same : ◌≡◌ {A = ℕ × Owner} (f.tag, f.owner) (g.tag, g.owner) =
      one_operation w.core.pieces.lives w.core.pieces.owners o.tidy.owners f.tag g.tag f.owner g.owner f.owned g.owned piece_in
      (omega (arith, most, many)) in
      record {
        tags = ap (λ (e : ℕ × Owner). e.0) same;
        lives = f.l_is ∙ (λ i. live_of w.core (same i).0 (same i).1.piece (live_in i)) ∙ sym g.l_is;
        legs = f.leg_is ∙ (λ i. leg_of w.core (same i).0 (live_in i)) ∙ sym g.leg_is;
      }
