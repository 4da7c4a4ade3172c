-- The pieces in flight where an operation of one has ended: its leg is so, and then it leaves.
use Rattle.std.proofs.Common.{◌&&◌, ◌==◌, ◌||◌, ◌∙◌, ◌∷◌, ◌≡◌, ◌⊎◌, ℕ, [], Contains, List, Some, ap, eq-eqb, inl, inr, refl, subst, sym}
use Rattle.std.proofs.Common.{true, ⊎_elim}
use Rattle.std.proofs.lemmas.Bool.{and_parts, or_left, or_right}
use Rattle.std.proofs.lemmas.Option.{same_Some}
use Rattle.list_laws.proofs.Bools.{and_both, or_cases}
use Rattle.list_laws.proofs.Members.{in_list}
use Rattle.piece_table.specs.Pieces.{live_at, owner_at}
use Rattle.piece_table.specs.declared.live.LivePiece.{LivePiece}
use Rattle.piece_table.specs.declared.live.Owner.{Owner}
use Rattle.volume_history.specs.Chronicles.{ChronicleEntry, piece_covers, settled_at}
use Rattle.volume_history.specs.Placed.{Place}
use Rattle.world_places.specs.Changes.{LegsFrom, RealStays}
use Rattle.world_places.specs.Lives.{IsThere, IsWriting, Leg, LegState, Live, runs_at}
use Rattle.world_acts.specs.declared.state.Core.{Core}
use Rattle.world_acts.proofs.Tables.{AreSingle}
use Rattle.world_tracks.specs.Lives.{leg_of, live_of, lives_in}
use Rattle.world_tracks.proofs.Lives.{LineFlies, either_first, in_runs, in_writing, is_first, is_later, line_among, runs_in}
use Rattle.world_tracks.proofs.LivesLess.{is_left, legs_less, owner_in, without}

-- the leg of this piece in this state, and the piece with it
abbrev pub leg_in : Core → ℕ → LivePiece → LegState → Leg
leg_in c tag live state = record (leg_of c tag live) { state = state }

abbrev pub live_in : Core → ℕ → ℕ → LivePiece → LegState → Live
live_in c tag number live state = record (live_of c tag number live) { legs = record (leg_of c tag live) { state = state } ∷ [] }

-- and the others beside it, without the operation of this tag
abbrev pub with_ended : Core → List (ℕ × Owner) → ℕ → ℕ → LivePiece → LegState → List Live
with_ended c owners tag number live state = live_in c tag number live state ∷ lives_in c (without tag owners)

-- legs that stay
pub legs_stay : (New : Live → Leg → Type 0) (lives : List Live) (key x : ℕ) (place : Place) → LegsFrom New lives lives key x place
legs_stay New lives key x place l leg w = inl (record { live = l; own = leg; writing = w; state = refl; value = refl })

-- the operation (tag, owner) of this piece is one of these
module _ (c : Core) (owners : List (ℕ × Owner)) (tag : ℕ) (owner : Owner) (live : LivePiece) (single : AreSingle owners)
    (at : owner_at owners tag ≡ Some owner) (there : live_at c.pieces.lives owner.piece ≡ Some live) where
  abbrev old : List Live
  old = lives_in c owners

  abbrev left : List Live
  left = lives_in c (without tag owners)

  -- a line that has a write in flight there has one among the others, or it is this one's
  runs_left : (n key x : ℕ) → runs_at old n key x ≡ true
      → (runs_at left n key x ≡ true)
      ⊎ ((((live.line == n) && (live.piece.write && piece_covers live.piece key x)) ≡ true)
      × (((live.line == n) && piece_covers live.piece key x) ≡ true))
  runs_left n key x runs =
      let f : LineFlies c owners n key x = runs_in c owners n key x runs in
      ⊎_elim (λ others. inl (in_runs (line_among (without tag owners) f others)))
      (λ its.
      let same : live ≡ f.live =
      same_Some live f.live (sym there ∙ ap (λ (e : ℕ × Owner). live_at c.pieces.lives e.1.piece) its ∙ f.at) in
      let line : (live.line == n) ≡ true = eq-eqb live.line n (ap (λ (l : LivePiece). l.line) same ∙ f.line) in
      let covers : piece_covers live.piece key x ≡ true = ap (λ (l : LivePiece). piece_covers l.piece key x) same ∙ f.covers in
      let write : live.piece.write ≡ true = ap (λ (l : LivePiece). l.piece.write) same ∙ f.write in
      inr (
        and_both (live.line == n) (live.piece.write && piece_covers live.piece key x) line
            (and_both live.piece.write (piece_covers live.piece key x) write covers),
        and_both (live.line == n) (piece_covers live.piece key x) line covers,
      ))
      (is_left owners tag owner single at f.tag f.owner f.owned)

  module _ (es : List ChronicleEntry) (key x : ℕ) where
    -- with its leg ended it is still there
    pub real_ended : (state : LegState) → RealStays es (lives_in c owners) es (with_ended c owners tag owner.piece live state) key x
    real_ended state n real =
        ⊎_elim (λ settled. or_left (settled_at es n key x) (runs_at (with_ended c owners tag owner.piece live state) n key x) settled)
        (λ runs. or_right (settled_at es n key x) (runs_at (with_ended c owners tag owner.piece live state) n key x)
        (⊎_elim
        (λ others. or_right ((live.line == n) && (live.piece.write && piece_covers live.piece key x)) (runs_at left n key x) others)
        (λ its. or_left ((live.line == n) && (live.piece.write && piece_covers live.piece key x)) (runs_at left n key x) its.0)
        (runs_left n key x runs)))
        (or_cases (settled_at es n key x) (runs_at old n key x) real)

    -- an entry that settles its piece
    module _ (e : ChronicleEntry)
        (settles : (n : ℕ) → settled_at (e ∷ es) n key x
        ≡ (((live.line == n) && piece_covers live.piece key x) || settled_at es n key x)) where
      by_entry : (n : ℕ) → ((live.line == n) && piece_covers live.piece key x) ≡ true → settled_at (e ∷ es) n key x ≡ true
      by_entry n is = settles n ∙ or_left ((live.line == n) && piece_covers live.piece key x) (settled_at es n key x) is

      still : (n : ℕ) → settled_at es n key x ≡ true → settled_at (e ∷ es) n key x ≡ true
      still n is = settles n ∙ or_right ((live.line == n) && piece_covers live.piece key x) (settled_at es n key x) is

      settled_on : (n : ℕ) → settled_at (e ∷ es) n key x ≡ true → (settled_at (e ∷ es) n key x || runs_at left n key x) ≡ true
      settled_on n is = or_left (settled_at (e ∷ es) n key x) (runs_at left n key x) is

      runs_on : (n : ℕ) → runs_at left n key x ≡ true → (settled_at (e ∷ es) n key x || runs_at left n key x) ≡ true
      runs_on n is = or_right (settled_at (e ∷ es) n key x) (runs_at left n key x) is

      -- so it may leave, from where it flew, from where its leg has ended, and where it has left
      pub real_settled : RealStays es (lives_in c owners) (e ∷ es) (lives_in c (without tag owners)) key x
      real_settled n real =
          ⊎_elim (λ settled. settled_on n (still n settled))
          (λ runs. ⊎_elim (λ others. runs_on n others) (λ its. settled_on n (by_entry n its.1)) (runs_left n key x runs))
          (or_cases (settled_at es n key x) (runs_at old n key x) real)

      pub real_left : RealStays es (lives_in c (without tag owners)) (e ∷ es) (lives_in c (without tag owners)) key x
      real_left n real =
          ⊎_elim (λ settled. settled_on n (still n settled)) (λ runs. runs_on n runs)
          (or_cases (settled_at es n key x) (runs_at left n key x) real)

      pub real_gone : (state : LegState)
          → RealStays es (with_ended c owners tag owner.piece live state) (e ∷ es) (lives_in c (without tag owners)) key x
      real_gone state n real =
          ⊎_elim (λ settled. settled_on n (still n settled))
          (λ runs. ⊎_elim
          (λ its. settled_on n (by_entry n (covers n its)))
          (λ others. runs_on n others)
          (or_cases ((live.line == n) && (live.piece.write && piece_covers live.piece key x)) (runs_at left n key x) runs))
          (or_cases (settled_at es n key x) (runs_at (with_ended c owners tag owner.piece live state) n key x) real)
        where
          covers : (n : ℕ) → ((live.line == n) && (live.piece.write && piece_covers live.piece key x)) ≡ true
              → ((live.line == n) && piece_covers live.piece key x) ≡ true
          covers n is =
              let both = and_parts (live.line == n) (live.piece.write && piece_covers live.piece key x) is in
              and_both (live.line == n) (piece_covers live.piece key x) both.0
              (and_parts live.piece.write (piece_covers live.piece key x) both.1).1

  -- ---- legs

  -- each leg there stood, or is the ended one
  pub legs_ended : (New : Live → Leg → Type 0) (state : LegState) (key x : ℕ) (place : Place)
      → New (live_in c tag owner.piece live state) (leg_in c tag live state)
      → LegsFrom New (lives_in c owners) (with_ended c owners tag owner.piece live state) key x place
  legs_ended New state key x place new l leg w =
      ⊎_elim
      (λ here. inr (subst (λ (m : Live). New m leg) here
      (subst (λ (m : Leg). New (live_in c tag owner.piece live state) m) (own here) new)))
      (λ later. legs_less c owners tag owner single at New key x place l leg
      (record { live = later; writing = w.writing; leg_of = w.leg_of; there = w.there }))
      (either_first l (live_in c tag owner.piece live state) left w.live)
    where
      own : live_in c tag owner.piece live state ≡ l → leg_in c tag live state ≡ leg
      own here =
          ⊎_elim (λ is. is) (λ later. absurd (in_list [] leg later))
          (either_first leg (leg_in c tag live state) [] (subst (λ (m : Live). Contains m.legs leg) (sym here) w.leg_of))

  -- once it has left, each stood
  pub legs_gone : (New : Live → Leg → Type 0) (state : LegState) (key x : ℕ) (place : Place)
      → LegsFrom New (with_ended c owners tag owner.piece live state) (lives_in c (without tag owners)) key x place
  legs_gone New state key x place l leg w =
      inl (record {
        live = l;
        own = leg;
        writing =
            record {
              live = is_later l (live_in c tag owner.piece live state) left w.live;
              writing = w.writing;
              leg_of = w.leg_of;
              there = w.there;
            };
        state = refl;
        value = refl;
      })

  -- the ended leg is there
  module _ (key x : ℕ) (place : Place) (write : live.piece.write ≡ true) (covers : piece_covers live.piece key x ≡ true)
      (stands : IsThere (live_of c tag owner.piece live) (leg_of c tag live) x place) where
    pub was_writing : IsWriting (lives_in c owners) key x place (live_of c tag owner.piece live) (leg_of c tag live)
    was_writing = in_writing c owners key x place tag owner live (owner_in owners tag owner at) there write covers stands

    pub has_written : (state : LegState)
        → IsWriting (with_ended c owners tag owner.piece live state) key x place (live_in c tag owner.piece live state)
        (leg_in c tag live state)
    has_written state = record {
      live = is_first (live_in c tag owner.piece live state) left;
      writing = and_both live.piece.write (piece_covers live.piece key x) write covers;
      leg_of = is_first (leg_in c tag live state) [];
      there = stands;
    }
