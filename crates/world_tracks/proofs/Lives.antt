-- Who writes among the pieces with operations in flight.
use Rattle.std.proofs.Common.{◌≡◌, ◌⊎◌, ℕ, suc, Bool, true, false, ◌&&◌, ◌==◌, List, [], ◌∷◌, Contains, Option, None, Some, refl, sym, ap}
use Rattle.std.proofs.Common.{inl, inr, subst, ◌∙◌, arith, ⊎_elim, cond, true≢false}
use Rattle.std.proofs.lemmas.Bool.{and_parts, eq-eqb, eqb-true, or_left, or_right}
use Rattle.std.proofs.lemmas.List.Elements.{Contains-append_cases, Contains-append_left, Contains-append_right}
use Rattle.list_laws.proofs.Bools.{and_both, or_cases}
use Rattle.list_laws.proofs.Members.{In, has_member, in_list}
use Rattle.piece_table.specs.declared.live.LivePiece.{LivePiece}
use Rattle.piece_table.specs.declared.live.Owner.{Owner}
use Rattle.piece_table.specs.Pieces.{live_at}
use Rattle.volume_history.specs.Chronicles.{piece_covers}
use Rattle.volume_history.specs.Placed.{Place}
use Rattle.world_acts.specs.declared.state.Core.{Core}
use Rattle.world_places.specs.Changes.{EndsStay}
use Rattle.world_places.specs.Lives.{Flying, IsThere, IsWriting, Leg, Live, runs_at, writes_now}
use Rattle.world_places.specs.Nows.{has_ended}
use Rattle.world_tracks.specs.Lives.{leg_of, live_of, lives_in, lives_under}

-- ---- lists

-- the first of a list, or one behind it
pub either_first : {X : Type 0} (x y : X) (ys : List X) → Contains (y ∷ ys) x → (y ≡ x) ⊎ Contains ys x
either_first x y ys has = of (in_list (y ∷ ys) x has)
  where
    of : In (y ∷ ys) x → (y ≡ x) ⊎ Contains ys x
    of (inl here) = inl here
    of (inr later) = inr (has_member ys x later)

pub is_first : {X : Type 0} (x : X) (xs : List X) → Contains (x ∷ xs) x
is_first x xs = (0, omega arith, refl)

pub is_later : {X : Type 0} (x y : X) (ys : List X) → Contains ys x → Contains (y ∷ ys) x
is_later x y ys has = (suc has.0, omega (arith, has.1), has.2)

-- ---- the pieces in flight

-- one of these operations is of a piece that writes, which places see so
pub record PieceFlies (c : Core) (owners : List (ℕ × Owner)) (l : Live) : Type 0 where
  pub tag : ℕ
  pub owner : Owner
  pub owned : Contains owners (tag, owner)
  pub live : LivePiece
  pub at : live_at c.pieces.lives owner.piece ≡ Some live
  pub write : live.piece.write ≡ true
  pub l_is : l ≡ live_of c tag owner.piece live

-- the same of a piece, which may be none
record Under (c : Core) (tag number : ℕ) (o : Option LivePiece) (l : Live) : Type 0 where
  live : LivePiece
  at : o ≡ Some live
  write : live.piece.write ≡ true
  l_is : l ≡ live_of c tag number live

under : (c : Core) (tag number : ℕ) (o : Option LivePiece) (l : Live) → Contains (lives_under c tag number o) l
    → Under c tag number o l
under c tag number None l has = absurd (in_list [] l has)
under c tag number (Some live) l has = by live.piece.write refl has
  where
    by : (b : Bool) → live.piece.write ≡ b → Contains (cond b (live_of c tag number live ∷ []) []) l
        → Under c tag number (Some live) l
    by true write has =
        ⊎_elim (λ is. record { live = live; at = refl; write = write; l_is = sym is })
        (λ later. absurd (in_list [] l later)) (either_first l (live_of c tag number live) [] has)
    by false none has = absurd (in_list [] l has)

pub who_writes : (c : Core) (owners : List (ℕ × Owner)) (l : Live) → Contains (lives_in c owners) l → PieceFlies c owners l
who_writes c [] l has = absurd (in_list [] l has)
who_writes c (e ∷ owners) l has =
    ⊎_elim
    (λ here. let u = under c e.0 e.1.piece (live_at c.pieces.lives e.1.piece) l here in
    record {
      tag = e.0;
      owner = e.1;
      owned = is_first e owners;
      live = u.live;
      at = u.at;
      write = u.write;
      l_is = u.l_is;
    })
    (λ later. let w = who_writes c owners l later in
    record {
      tag = w.tag;
      owner = w.owner;
      owned = is_later (w.tag, w.owner) e owners w.owned;
      live = w.live;
      at = w.at;
      write = w.write;
      l_is = w.l_is;
    })
    (Contains-append_cases (lives_under c e.0 e.1.piece (live_at c.pieces.lives e.1.piece)) (lives_in c owners) l has)

-- and the other way
under_writes : (c : Core) (tag number : ℕ) (live : LivePiece) → live.piece.write ≡ true
    → Contains (lives_under c tag number (Some live)) (live_of c tag number live)
under_writes c tag number live write =
    subst (λ (b : Bool). Contains (cond b (live_of c tag number live ∷ []) []) (live_of c tag number live)) (sym write)
    (is_first (live_of c tag number live) [])

pub writes_in : (c : Core) (owners : List (ℕ × Owner)) (tag : ℕ) (owner : Owner) (live : LivePiece) → Contains owners (tag, owner)
    → live_at c.pieces.lives owner.piece ≡ Some live
    → live.piece.write ≡ true
    → Contains (lives_in c owners) (live_of c tag owner.piece live)
writes_in c [] tag owner live owned at write = absurd (in_list [] (tag, owner) owned)
writes_in c (e ∷ owners) tag owner live owned at write =
    ⊎_elim
    (λ here. Contains-append_left (lives_under c e.0 e.1.piece (live_at c.pieces.lives e.1.piece)) (lives_in c owners) l
    (subst (λ (f : ℕ × Owner). Contains (lives_under c f.0 f.1.piece (live_at c.pieces.lives f.1.piece)) l) (sym here)
    (subst (λ (o : Option LivePiece). Contains (lives_under c tag owner.piece o) l) (sym at)
    (under_writes c tag owner.piece live write))))
    (λ later. Contains-append_right (lives_under c e.0 e.1.piece (live_at c.pieces.lives e.1.piece)) (lives_in c owners) l
    (writes_in c owners tag owner live later at write))
    (either_first (tag, owner) e owners owned)
  where
    l : Live
    l = live_of c tag owner.piece live

-- ---- their legs

-- the leg is of a write in flight that covers the sector, at its place
pub record InFlight (c : Core) (owners : List (ℕ × Owner)) (key x : ℕ) (place : Place) (l : Live) (leg : Leg) : Type 0 where
  pub tag : ℕ
  pub owner : Owner
  pub owned : Contains owners (tag, owner)
  pub live : LivePiece
  pub at : live_at c.pieces.lives owner.piece ≡ Some live
  pub write : live.piece.write ≡ true
  pub l_is : l ≡ live_of c tag owner.piece live
  pub leg_is : leg ≡ leg_of c tag live
  pub covers : piece_covers live.piece key x ≡ true
  pub there : IsThere (live_of c tag owner.piece live) (leg_of c tag live) x place

only_leg : (leg own : Leg) → Contains (own ∷ []) leg → leg ≡ own
only_leg leg own has = ⊎_elim (λ is. sym is) (λ later. absurd (in_list [] leg later)) (either_first leg own [] has)

pub writing_in : (c : Core) (owners : List (ℕ × Owner)) {key x : ℕ} {place : Place} {l : Live} {leg : Leg}
    → IsWriting (lives_in c owners) key x place l leg
    → InFlight c owners key x place l leg
writing_in c owners {key} {x} {place} {l} {leg} w =
    let k : PieceFlies c owners l = who_writes c owners l w.live in
    let own : Live = live_of c k.tag k.owner.piece k.live in
    let is : leg ≡ leg_of c k.tag k.live =
    only_leg leg (leg_of c k.tag k.live) (subst (λ (m : Live). Contains m.legs leg) k.l_is w.leg_of) in
    record {
      tag = k.tag;
      owner = k.owner;
      owned = k.owned;
      live = k.live;
      at = k.at;
      write = k.write;
      l_is = k.l_is;
      leg_is = is;
      covers =
          (and_parts k.live.piece.write (piece_covers k.live.piece key x)
          (subst (λ (m : Live). writes_now m key x ≡ true) k.l_is w.writing)).1;
      there = subst (λ (m : Leg). IsThere own m x place) is (subst (λ (m : Live). IsThere m leg x place) k.l_is w.there);
    }

-- and the other way
pub in_writing : (c : Core) (owners : List (ℕ × Owner)) (key x : ℕ) (place : Place) (tag : ℕ) (owner : Owner) (live : LivePiece)
    → Contains owners (tag, owner)
    → live_at c.pieces.lives owner.piece ≡ Some live
    → live.piece.write ≡ true
    → piece_covers live.piece key x ≡ true
    → IsThere (live_of c tag owner.piece live) (leg_of c tag live) x place
    → IsWriting (lives_in c owners) key x place (live_of c tag owner.piece live) (leg_of c tag live)
in_writing c owners key x place tag owner live owned at write covers there = record {
  live = writes_in c owners tag owner live owned at write;
  writing = and_both live.piece.write (piece_covers live.piece key x) write covers;
  leg_of = is_first (leg_of c tag live) [];
  there = there;
}

pub flight_writes : {c : Core} {owners : List (ℕ × Owner)} {key x : ℕ} {place : Place} {l : Live} {leg : Leg}
    → InFlight c owners key x place l leg
    → IsWriting (lives_in c owners) key x place l leg
flight_writes {c} {owners} {key} {x} {place} {l} {leg} f =
    subst (λ (m : Live). IsWriting (lives_in c owners) key x place m leg) (sym f.l_is)
    (subst (λ (m : Leg). IsWriting (lives_in c owners) key x place (live_of c f.tag f.owner.piece f.live) m) (sym f.leg_is)
    (in_writing c owners key x place f.tag f.owner f.live f.owned f.at f.write f.covers f.there))

-- the same operation among others
pub among : {c : Core} {owners : List (ℕ × Owner)} {key x : ℕ} {place : Place} {l : Live} {leg : Leg} (others : List (ℕ × Owner))
    (f : InFlight c owners key x place l leg)
    → Contains others (f.tag, f.owner)
    → InFlight c others key x place l leg
among others f owned = record {
  tag = f.tag;
  owner = f.owner;
  owned = owned;
  live = f.live;
  at = f.at;
  write = f.write;
  l_is = f.l_is;
  leg_is = f.leg_is;
  covers = f.covers;
  there = f.there;
}

-- each of them flies
pub flying_in : (c : Core) (owners : List (ℕ × Owner)) {key x : ℕ} {place : Place} {l : Live} {leg : Leg}
    → IsWriting (lives_in c owners) key x place l leg
    → (tag : ℕ) × (leg.state ≡ Flying tag)
flying_in c owners w = let f = writing_in c owners w in (f.tag, ap (λ (m : Leg). m.state) f.leg_is)

-- so none has ended
pub none_ended : (c : Core) (owners : List (ℕ × Owner)) {key x : ℕ} {place : Place} {l : Live} {leg : Leg}
    → IsWriting (lives_in c owners) key x place l leg
    → has_ended leg.state ≡ false
none_ended c owners w = ap has_ended (flying_in c owners w).1

pub ends_stay : (c d : Core) (owners others : List (ℕ × Owner)) (key x : ℕ) (place : Place)
    → EndsStay (lives_in c owners) (lives_in d others) key x place
ends_stay c d owners others key x place = record {
  kept = λ l leg w ended. absurd (true≢false (sym ended ∙ none_ended c owners w));
  none = λ l leg w ended. absurd (true≢false (sym ended ∙ none_ended d others w));
}

-- ---- lines that have one

-- one of these operations is a write of the line that covers the sector
pub record LineFlies (c : Core) (owners : List (ℕ × Owner)) (n key x : ℕ) : Type 0 where
  pub tag : ℕ
  pub owner : Owner
  pub owned : Contains owners (tag, owner)
  pub live : LivePiece
  pub at : live_at c.pieces.lives owner.piece ≡ Some live
  pub line : live.line ≡ n
  pub write : live.piece.write ≡ true
  pub covers : piece_covers live.piece key x ≡ true

-- the same operation among others
pub line_among : {c : Core} {owners : List (ℕ × Owner)} {n key x : ℕ} (others : List (ℕ × Owner)) (f : LineFlies c owners n key x)
    → Contains others (f.tag, f.owner)
    → LineFlies c others n key x
line_among others f owned = record {
  tag = f.tag;
  owner = f.owner;
  owned = owned;
  live = f.live;
  at = f.at;
  line = f.line;
  write = f.write;
  covers = f.covers;
}

-- among pieces there is one
record Runs (lives : List Live) (n key x : ℕ) : Type 0 where
  live : Live
  has : Contains lives live
  line : live.line ≡ n
  writing : writes_now live key x ≡ true

who_runs : (lives : List Live) (n key x : ℕ) → runs_at lives n key x ≡ true → Runs lives n key x
who_runs [] n key x is = absurd (true≢false (sym is))
who_runs (l ∷ lives) n key x is =
    ⊎_elim
    (λ here. let both = and_parts (l.line == n) (writes_now l key x) here in
    record { live = l; has = is_first l lives; line = eqb-true l.line n both.0; writing = both.1 })
    (λ later. let r = who_runs lives n key x later in
    record { live = r.live; has = is_later r.live l lives r.has; line = r.line; writing = r.writing })
    (or_cases ((l.line == n) && writes_now l key x) (runs_at lives n key x) is)

one_runs : (lives : List Live) (n key x : ℕ) (l : Live) → Contains lives l → l.line ≡ n → writes_now l key x ≡ true
    → runs_at lives n key x ≡ true
one_runs [] n key x l has line writing = absurd (in_list [] l has)
one_runs (m ∷ lives) n key x l has line writing =
    ⊎_elim
    (λ here. or_left ((m.line == n) && writes_now m key x) (runs_at lives n key x)
    (subst (λ (k : Live). ((k.line == n) && writes_now k key x) ≡ true) (sym here)
    (and_both (l.line == n) (writes_now l key x) (eq-eqb l.line n line) writing)))
    (λ later. or_right ((m.line == n) && writes_now m key x) (runs_at lives n key x) (one_runs lives n key x l later line writing))
    (either_first l m lives has)

pub runs_in : (c : Core) (owners : List (ℕ × Owner)) (n key x : ℕ) → runs_at (lives_in c owners) n key x ≡ true
    → LineFlies c owners n key x
runs_in c owners n key x is =
    let r = who_runs (lives_in c owners) n key x is in
    let k : PieceFlies c owners r.live = who_writes c owners r.live r.has in
    record {
      tag = k.tag;
      owner = k.owner;
      owned = k.owned;
      live = k.live;
      at = k.at;
      line = ap (λ (m : Live). m.line) (sym k.l_is) ∙ r.line;
      write = k.write;
      covers =
          (and_parts k.live.piece.write (piece_covers k.live.piece key x)
          (subst (λ (m : Live). writes_now m key x ≡ true) k.l_is r.writing)).1;
    }

-- and the other way
pub in_runs : {c : Core} {owners : List (ℕ × Owner)} {n key x : ℕ} → LineFlies c owners n key x
    → runs_at (lives_in c owners) n key x ≡ true
in_runs {c} {owners} {n} {key} {x} f =
    one_runs (lives_in c owners) n key x (live_of c f.tag f.owner.piece f.live)
    (writes_in c owners f.tag f.owner f.live f.owned f.at f.write) f.line
    (and_both f.live.piece.write (piece_covers f.live.piece key x) f.write f.covers)
