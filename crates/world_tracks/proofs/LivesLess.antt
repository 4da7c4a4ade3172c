-- One operation of a piece (without tag owners).
use Rattle.std.proofs.Common.{◌≡◌, ◌⊎◌, ℕ, Bool, true, false, cond, ◌&&◌, nat_eq, List, Contains, None, Some, inl, inr}
use Rattle.std.proofs.Common.{refl, sym, ap, subst, ◌∙◌, true≢false}
use Rattle.std.specs.Cmp.{nat_eq_equiv}
use Rattle.std.proofs.lemmas.Bool.{eqb-true}
use Rattle.std.proofs.lemmas.Map.Views.{Contains-from_lookup, lookup-from_Contains}
use Rattle.std.proofs.lemmas.Option.{none-some, same_Some}
use Rattle.indexmap.specs.IndexMap.{swap_remove_entry}
use Rattle.list_laws.proofs.Bools.{and_both}
use Rattle.piece_table.specs.declared.live.LivePiece.{LivePiece}
use Rattle.piece_table.specs.declared.live.Owner.{Owner}
use Rattle.piece_table.specs.Pieces.{live_at, owner_at}
use Rattle.volume_history.specs.Chronicles.{ChronicleEntry, piece_covers}
use Rattle.volume_history.specs.Placed.{Place}
use Rattle.world_acts.specs.declared.state.Core.{Core}
use Rattle.world_acts.proofs.Tables.{AreSingle, Changes, removed}
use Rattle.world_places.specs.Changes.{EndsStay, LegsFrom, RealStays}
use Rattle.world_places.specs.Lives.{IsWriting, Leg, Live}
use Rattle.world_tracks.specs.Lives.{lives_in}
use Rattle.world_tracks.proofs.Lives.{among, line_among, ends_stay, flight_writes, writing_in}
use Rattle.world_tracks.proofs.LivesMore.{real_from}

-- an operation is found by its tag, and the other way
pub owner_of : (owners : List (ℕ × Owner)) (tag : ℕ) (owner : Owner) → AreSingle owners → Contains owners (tag, owner)
    → owner_at owners tag ≡ Some owner
owner_of owners tag owner single has = lookup-from_Contains nat_eq_equiv tag owner owners single has

pub owner_in : (owners : List (ℕ × Owner)) (tag : ℕ) (owner : Owner) → owner_at owners tag ≡ Some owner → Contains owners (tag, owner)
owner_in owners tag owner at = Contains-from_lookup eqb-true tag owner owners at

-- without it
abbrev pub without : ℕ → List (ℕ × Owner) → List (ℕ × Owner)
without tag owners = swap_remove_entry (nat_eq tag) owners

module _ (owners : List (ℕ × Owner)) (tag : ℕ) (owner : Owner) (single : AreSingle owners) (at : owner_at owners tag ≡ Some owner) where
  pub gone : Changes tag (Some owner) None owners (without tag owners)
  gone = removed owners tag owner single at

  -- each that is left was there
  pub was_there : (t : ℕ) (o : Owner) → Contains (without tag owners) (t, o) → Contains owners (t, o)
  was_there t o has = owner_in owners t o (by (nat_eq tag t) (sym (gone.found t) ∙ owner_of (without tag owners) t o gone.single has))
    where
      by : (b : Bool) → cond b None (owner_at owners t) ≡ Some o → owner_at owners t ≡ Some o
      by true is = absurd (none-some o is)
      by false is = is

  -- each that was there is left, or is that one
  pub is_left : (t : ℕ) (o : Owner) → Contains owners (t, o)
      → Contains (without tag owners) (t, o) ⊎ ◌≡◌ {A = ℕ × Owner} (tag, owner) (t, o)
  is_left t o has = by (nat_eq tag t) refl (gone.found t)
    where
      found : owner_at owners t ≡ Some o
      found = owner_of owners t o single has

      by : (b : Bool) → nat_eq tag t ≡ b → owner_at (without tag owners) t ≡ cond b None (owner_at owners t)
          → Contains (without tag owners) (t, o) ⊎ ◌≡◌ {A = ℕ × Owner} (tag, owner) (t, o)
      by true same left =
          let is : tag ≡ t = eqb-true tag t same in
          let its : owner ≡ o = same_Some owner o (sym at ∙ ap (λ (n : ℕ). owner_at owners n) is ∙ found) in inr (λ i. (is i, its i))
      by false other left = inl (owner_in (without tag owners) t o (left ∙ found))

module _ (c : Core) (owners : List (ℕ × Owner)) (tag : ℕ) (owner : Owner) (single : AreSingle owners)
    (at : owner_at owners tag ≡ Some owner) where
  abbrev fewer : List (ℕ × Owner)
  fewer = without tag owners

  -- each leg stood before
  pub writing_less : {key x : ℕ} {place : Place} {l : Live} {leg : Leg}
      → IsWriting (lives_in c (without tag owners)) key x place l leg
      → IsWriting (lives_in c owners) key x place l leg
  writing_less {key} {x} {place} {l} {leg} w =
      let f = writing_in c fewer w in
      flight_writes (among owners f (was_there owners tag owner single at f.tag f.owner f.owned))

  pub legs_less : (New : Live → Leg → Type 0) (key x : ℕ) (place : Place)
      → LegsFrom New (lives_in c owners) (lives_in c (without tag owners)) key x place
  legs_less New key x place l leg w =
      inl (record { live = l; own = leg; writing = writing_less w; state = refl; value = refl })

  -- where the one that ended didn't write the sector, the others are still there
  module _ (key x : ℕ)
      (none : (l : LivePiece) → live_at c.pieces.lives owner.piece ≡ Some l → (l.piece.write && piece_covers l.piece key x) ≡ false) where
    still : (t : ℕ) (o : Owner) (l : LivePiece) → Contains owners (t, o) → live_at c.pieces.lives o.piece ≡ Some l
        → l.piece.write ≡ true
        → piece_covers l.piece key x ≡ true
        → Contains fewer (t, o)
    still t o l has there write covers = by (is_left owners tag owner single at t o has)
      where
        by : Contains fewer (t, o) ⊎ ◌≡◌ {A = ℕ × Owner} (tag, owner) (t, o) → Contains fewer (t, o)
        by (inl left) = left
        by (inr its) =
            absurd (true≢false (sym (and_both l.piece.write (piece_covers l.piece key x) write covers)
            ∙ none l (subst (λ (e : ℕ × Owner). live_at c.pieces.lives e.1.piece ≡ Some l) (sym its) there)))

    pub writing_left : {place : Place} {l : Live} {leg : Leg} → IsWriting (lives_in c owners) key x place l leg
        → IsWriting (lives_in c (without tag owners)) key x place l leg
    writing_left {place} {l} {leg} w =
        let f = writing_in c owners w in
        flight_writes (among fewer f (still f.tag f.owner f.live f.owned f.at f.write f.covers))

    pub real_less : (es : List ChronicleEntry)
        → RealStays es (lives_in c owners) es (lives_in c (without tag owners)) key x
    real_less es =
        real_from c owners fewer es key x (λ n f. line_among fewer f (still f.tag f.owner f.live f.owned f.at f.write f.covers))

  -- legs whose write has ended stay, since there is none
  pub ends_less : (key x : ℕ) (place : Place)
      → EndsStay (lives_in c owners) (lives_in c (without tag owners)) key x place
  ends_less key x place = ends_stay c c owners fewer key x place
