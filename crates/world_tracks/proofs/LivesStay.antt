-- The pieces in flight stay the same where their operations, volumes and lines do.
use Rattle.std.proofs.Common.{◌≡◌, ℕ, true, if◌then◌else◌, List, [], ◌∷◌, ◌++◌, Contains, Option, None, Some, option_map, slice_get}
use Rattle.std.proofs.Common.{inl, refl, sym, ap, subst, ◌∙◌}
use Rattle.std.proofs.lemmas.Option.{none-some, same_Some}
use Rattle.lvm_script.specs.declared.line.Line.{Line}
use Rattle.sector_base.specs.declared.places.Piece.{Piece}
use Rattle.piece_table.specs.declared.live.LivePiece.{LivePiece}
use Rattle.piece_table.specs.declared.live.Owner.{Owner}
use Rattle.piece_table.specs.Pieces.{live_at}
use Rattle.volume_history.specs.Chronicles.{ChronicleEntry}
use Rattle.volume_history.specs.Placed.{Place}
use Rattle.world_acts.specs.declared.state.Core.{Core}
use Rattle.world_acts.specs.declared.volumes.Volumes.{Volumes}
use Rattle.world_acts.specs.Owners.{values_of}
use Rattle.world_acts.specs.Volumes.{span_of}
use Rattle.world_places.specs.Changes.{AreIdle, LegsFrom, RealStays}
use Rattle.world_places.specs.Lives.{Flying, Leg, Live, Started}
use Rattle.world_tracks.specs.Lives.{lives_in, lives_under}
use Rattle.world_tracks.proofs.Lives.{is_first, is_later}

-- what places see of a piece: its line, and what it covers
abbrev pub seen_of : Option LivePiece → Option (ℕ × Piece)
seen_of o = option_map (λ (l : LivePiece). (l.line, l.piece)) o

-- what they see of one, where the volumes are these and its line is this one
abbrev live_seen : Volumes → Option Line → ℕ → ℕ → (ℕ × Piece) → Live
live_seen volumes line tag number seen = record {
  number = number;
  line = seen.0;
  piece = seen.1;
  sectors = values_of line seen.1;
  region = None;
  stage = Started;
  legs =
      record { pv = (span_of volumes seen.1).pv; first = (span_of volumes seen.1).first; primary = true; state = Flying tag } ∷ [];
}

one_same : (c d : Core) (tag number : ℕ) (l m : LivePiece) → d.volumes ≡ c.volumes
    → ◌≡◌ {A = ℕ × Piece} (m.line, m.piece) (l.line, l.piece)
    → slice_get d.lines.begun l.line ≡ slice_get c.lines.begun l.line
    → lives_under d tag number (Some m) ≡ lives_under c tag number (Some l)
one_same c d tag number l m volumes seen lines =
    let line : slice_get d.lines.begun m.line ≡ slice_get c.lines.begun l.line =
    ap (λ (s : ℕ × Piece). slice_get d.lines.begun s.0) seen ∙ lines in
    λ i. if (seen i).1.write then live_seen (volumes i) (line i) tag number (seen i) ∷ [] else []

under_same : (c d : Core) (tag number : ℕ) (o p : Option LivePiece) → d.volumes ≡ c.volumes → seen_of p ≡ seen_of o
    → ((l : LivePiece) → o ≡ Some l → slice_get d.lines.begun l.line ≡ slice_get c.lines.begun l.line)
    → lives_under d tag number p ≡ lives_under c tag number o
under_same c d tag number None None volumes seen lines = refl
under_same c d tag number None (Some m) volumes seen lines = absurd (none-some (m.line, m.piece) (sym seen))
under_same c d tag number (Some l) None volumes seen lines = absurd (none-some (l.line, l.piece) seen)
under_same c d tag number (Some l) (Some m) volumes seen lines =
    one_same c d tag number l m volumes (same_Some {A = ℕ × Piece} (m.line, m.piece) (l.line, l.piece) seen) (lines l refl)

-- the pieces of these operations are on the same lines, and cover the same
abbrev pub AreSeen : Core → Core → List (ℕ × Owner) → Type 0
AreSeen c d owners =
    (tag : ℕ) (owner : Owner) → Contains owners (tag, owner)
    → seen_of (live_at d.pieces.lives owner.piece) ≡ seen_of (live_at c.pieces.lives owner.piece)

-- and their lines are the same
abbrev pub HaveLines : Core → Core → List (ℕ × Owner) → Type 0
HaveLines c d owners =
    (tag : ℕ) (owner : Owner) (l : LivePiece) → Contains owners (tag, owner) → live_at c.pieces.lives owner.piece ≡ Some l
    → slice_get d.lines.begun l.line ≡ slice_get c.lines.begun l.line

pub lives_same : (c d : Core) (owners : List (ℕ × Owner)) → d.volumes ≡ c.volumes → AreSeen c d owners → HaveLines c d owners
    → lives_in d owners ≡ lives_in c owners
lives_same c d [] volumes seen lines = refl
lives_same c d (e ∷ owners) volumes seen lines =
    let first : lives_under d e.0 e.1.piece (live_at d.pieces.lives e.1.piece)
    ≡ lives_under c e.0 e.1.piece (live_at c.pieces.lives e.1.piece) =
    under_same c d e.0 e.1.piece (live_at c.pieces.lives e.1.piece) (live_at d.pieces.lives e.1.piece) volumes
    (seen e.0 e.1 (is_first e owners)) (λ l at. lines e.0 e.1 l (is_first e owners) at) in
    let rest : lives_in d owners ≡ lives_in c owners =
    lives_same c d owners volumes (λ tag owner owned. seen tag owner (is_later (tag, owner) e owners owned))
    (λ tag owner l owned at. lines tag owner l (is_later (tag, owner) e owners owned) at) in
    λ i. first i ++ rest i

-- ---- where they are the same

pub same_real : (es : List ChronicleEntry) (lives lives' : List Live) (key x : ℕ) → lives' ≡ lives
    → RealStays es lives es lives' key x
same_real es lives lives' key x same = subst (λ (ls : List Live). RealStays es lives es ls key x) (sym same) (λ n real. real)

pub same_legs : (New : Live → Leg → Type 0) (lives lives' : List Live) (key x : ℕ) (place : Place) → lives' ≡ lives
    → LegsFrom New lives lives' key x place
same_legs New lives lives' key x place same =
    subst (λ (ls : List Live). LegsFrom New lives ls key x place) (sym same)
    (λ l leg w. inl (record { live = l; own = leg; writing = w; state = refl; value = refl }))

pub same_idle : (lives lives' : List Live) (key x : ℕ) (place : Place) → lives' ≡ lives → AreIdle lives key x place
    → AreIdle lives' key x place
same_idle lives lives' key x place same idle = subst (λ (ls : List Live). AreIdle ls key x place) (sym same) idle
