-- One operation of a piece more.
use Rattle.std.proofs.Common.{◌≡◌, ◌⊎◌, ℕ, false, ◌&&◌, List, [], ◌∷◌, ◌++◌, Contains, Some, inl, inr, refl, sym}
use Rattle.std.proofs.Common.{ap, subst, ◌∙◌, ⊎_elim, true≢false}
use Rattle.std.proofs.lemmas.List.{append-nil, append_assoc}
use Rattle.std.proofs.lemmas.List.Elements.{Contains-append_cases, Contains-append_left}
use Rattle.std.proofs.lemmas.Bool.{or_left, or_right}
use Rattle.list_laws.proofs.Bools.{and_both, or_cases}
use Rattle.list_laws.proofs.Members.{in_list}
use Rattle.piece_table.specs.declared.live.LivePiece.{LivePiece}
use Rattle.piece_table.specs.declared.live.Owner.{Owner}
use Rattle.piece_table.specs.Pieces.{live_at}
use Rattle.volume_history.specs.Chronicles.{ChronicleEntry, piece_covers, settled_at}
use Rattle.volume_history.specs.Placed.{Place}
use Rattle.world_acts.specs.declared.state.Core.{Core}
use Rattle.world_places.specs.Changes.{LegsFrom, RealStays}
use Rattle.world_places.specs.Lives.{IsWriting, Leg, Live, runs_at}
use Rattle.world_tracks.specs.Lives.{lives_in, lives_under}
use Rattle.world_tracks.proofs.Lives.{InFlight, LineFlies, among, line_among, either_first, flight_writes, in_runs, runs_in, writing_in}

pub lives_both : (c : Core) (owners others : List (ℕ × Owner)) → lives_in c (owners ++ others) ≡ lives_in c owners ++ lives_in c others
lives_both c [] others = refl
lives_both c (e ∷ owners) others =
    let under : List Live = lives_under c e.0 e.1.piece (live_at c.pieces.lives e.1.piece) in
    ap (λ (l : List Live). under ++ l) (lives_both c owners others)
    ∙ sym (append_assoc under (lives_in c owners) (lives_in c others))

-- where a line has a write in flight, it still has one
pub real_from : (c : Core) (owners others : List (ℕ × Owner)) (es : List ChronicleEntry) (key x : ℕ)
    → ((n : ℕ) → LineFlies c owners n key x → LineFlies c others n key x)
    → RealStays es (lives_in c owners) es (lives_in c others) key x
real_from c owners others es key x still n real =
    ⊎_elim (λ settled. or_left (settled_at es n key x) (runs_at (lives_in c others) n key x) settled)
    (λ runs. or_right (settled_at es n key x) (runs_at (lives_in c others) n key x) (in_runs (still n (runs_in c owners n key x runs))))
    (or_cases (settled_at es n key x) (runs_at (lives_in c owners) n key x) real)

module _ (c : Core) (owners : List (ℕ × Owner)) (tag : ℕ) (owner : Owner) where
  -- with it
  abbrev pub more : List (ℕ × Owner)
  more = owners ++ (tag, owner) ∷ []

  pub lives_more : lives_in c (owners ++ (tag, owner) ∷ [])
      ≡ lives_in c owners ++ lives_under c tag owner.piece (live_at c.pieces.lives owner.piece)
  lives_more =
      lives_both c owners ((tag, owner) ∷ [])
      ∙ ap (λ (l : List Live). lives_in c owners ++ l) (append-nil (lives_under c tag owner.piece (live_at c.pieces.lives owner.piece)))

  -- a leg is one of before, or that of the new one's piece
  pub writing_more : {key x : ℕ} {place : Place} {l : Live} {leg : Leg}
      → IsWriting (lives_in c (owners ++ (tag, owner) ∷ [])) key x place l leg
      → IsWriting (lives_in c owners) key x place l leg ⊎ InFlight c ((tag, owner) ∷ []) key x place l leg
  writing_more {key} {x} {place} {l} {leg} w =
      let f = writing_in c more w in
      ⊎_elim (λ old. inl (flight_writes (among owners f old))) (λ new. inr (among ((tag, owner) ∷ []) f new))
      (Contains-append_cases owners ((tag, owner) ∷ []) (f.tag, f.owner) f.owned)

  pub real_more : (es : List ChronicleEntry) (key x : ℕ)
      → RealStays es (lives_in c owners) es (lives_in c (owners ++ (tag, owner) ∷ [])) key x
  real_more es key x =
      real_from c owners more es key x (λ n f. line_among more f (Contains-append_left owners ((tag, owner) ∷ []) (f.tag, f.owner) f.owned))

  -- where its piece doesn't write the sector, each leg there stood before
  pub legs_more : (New : Live → Leg → Type 0) (key x : ℕ) (place : Place)
      → ((l : LivePiece) → live_at c.pieces.lives owner.piece ≡ Some l → (l.piece.write && piece_covers l.piece key x) ≡ false)
      → LegsFrom New (lives_in c owners) (lives_in c (owners ++ (tag, owner) ∷ [])) key x place
  legs_more New key x place none l leg w =
      ⊎_elim (λ old. inl (record { live = l; own = leg; writing = old; state = refl; value = refl })) (λ new. absurd (other new))
      (writing_more w)
    where
      other : InFlight c ((tag, owner) ∷ []) key x place l leg → ⊥
      other f =
          let its : owner ≡ f.owner = ap (λ (e : ℕ × Owner). e.1) (only (f.tag, f.owner) f.owned) in
          true≢false
          (sym (and_both f.live.piece.write (piece_covers f.live.piece key x) f.write f.covers)
          ∙ none f.live (subst (λ (o : Owner). live_at c.pieces.lives o.piece ≡ Some f.live) (sym its) f.at))
        where
          only : (e : ℕ × Owner) → Contains ((tag, owner) ∷ []) e → ◌≡◌ {A = ℕ × Owner} (tag, owner) e
          only e has = ⊎_elim (λ is. is) (λ later. absurd (in_list [] e later)) (either_first e (tag, owner) [] has)
