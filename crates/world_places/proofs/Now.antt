-- What acts keep of what a read gives at a place.
use Rattle.std.proofs.Common.{◌≡◌, ◌⊎◌, ℕ, ◌-◌, ◌&&◌, ◌||◌, Bool, true, false, IsTrue, if◌then◌else◌, List, ◌∷◌, slice_index_or, inl, inr}
use Rattle.std.proofs.Common.{⊎_elim, refl, sym, ap, ◌∙◌}
use Rattle.std.proofs.lemmas.Bool.{true≢false}
use Rattle.sector_base.specs.Spans.{covers}
use Rattle.sector_base.specs.declared.spans.Span.{Span}
use Rattle.disk_model.specs.Steps.{Completed, Flushing, Image, Reading, Step, Submitted, Writing, now_after, value_at}
use Rattle.flush_plan.specs.Plans.{Plan}
use Rattle.line_table.specs.Machine.{PlainState, sector_of}
use Rattle.volume_history.proofs.EarlierMoments.{replay_stays}
use Rattle.volume_history.specs.Placed.{Place}
use Rattle.volume_history.specs.Replay.{plain_state}
use Rattle.world_places.specs.Changes.{EndsStay, IsTold, ends_elsewhere, stepped}
use Rattle.world_places.specs.Lives.{Bad, IsWriting, Leg, Live, Well, value_in}
use Rattle.world_places.specs.Nows.{IsNewThere, NowHolds, has_ended, now_of}
use Rattle.world_places.specs.Tracked.{Scene}

now_on : (opened : Image) (step : Step) (steps : List Step) (pv sector : ℕ) → ends_elsewhere step pv sector ≡ true
    → now_after opened (step ∷ steps) pv sector ≡ now_after opened steps pv sector
now_on opened (Submitted tag work) steps pv sector none = refl
now_on opened (Completed tag (Reading span) well fresh) steps pv sector none = refl
now_on opened (Completed tag (Flushing disk) well fresh) steps pv sector none = refl
now_on opened (Completed tag (Writing span sectors) well fresh) steps pv sector none = at (covers span pv sector) none
  where
    at : (c : Bool) → (if c then false else true) ≡ true
        → (if c && (well || slice_index_or fresh (sector - span.first) false) then value_at span sectors sector
        else now_after opened steps pv sector) ≡ now_after opened steps pv sector
    at true e = cc
    at false e = refl

-- a write that completes well gives its value; one that fails gives that or leaves what was
now_written : (opened : Image) (tag : ℕ) (span : Span) (sectors : List (List ℕ)) (fresh : List Bool) (steps : List Step) (pv sector : ℕ)
    → IsTrue (covers span pv sector)
    → now_after opened (Completed tag (Writing span sectors) true fresh ∷ steps) pv sector ≡ value_at span sectors sector
now_written opened tag span sectors fresh steps pv sector inside = rw inside refl

now_failed : (opened : Image) (tag : ℕ) (span : Span) (sectors : List (List ℕ)) (fresh : List Bool) (steps : List Step) (pv sector : ℕ)
    → (now_after opened (Completed tag (Writing span sectors) false fresh ∷ steps) pv sector ≡ now_after opened steps pv sector)
    ⊎ (now_after opened (Completed tag (Writing span sectors) false fresh ∷ steps) pv sector ≡ value_at span sectors sector)
now_failed opened tag span sectors fresh steps pv sector = at (covers span pv sector && slice_index_or fresh (sector - span.first) false)
  where
    at : (t : Bool)
        → ((if t then value_at span sectors sector else now_after opened steps pv sector) ≡ now_after opened steps pv sector)
        ⊎ ((if t then value_at span sectors sector else now_after opened steps pv sector) ≡ value_at span sectors sector)
    at true = inr refl
    at false = inl refl

module _ (g : Scene) (key x : ℕ) (place : Place) where
  -- a step that completes no write there, or an entry that leaves the sector as the machine has it
  pub now_kept : (g' : Scene) → now_of g' place ≡ now_of g place
      → sector_of (plain_state g'.origin g'.entries) key x ≡ sector_of (plain_state g.origin g.entries) key x
      → EndsStay g.lives g'.lives key x place → NowHolds g key x place → NowHolds g' key x place
  now_kept g' same machine ends h = record {
    now =
        ⊎_elim (λ n. inl (same ∙ n ∙ sym machine))
        (λ (n : IsNewThere g key x place). let s = ends.kept n.live n.leg n.writing n.ended in
        inr (record {
          live = s.live;
          leg = s.own;
          writing = s.writing;
          ended = ap has_ended s.state ∙ n.ended;
          value = same ∙ n.value ∙ sym s.value;
        })) h.now;
    well =
        λ l leg k w e. let s = ends.none l leg w (ap has_ended e) in same ∙ h.well s.live s.own k s.writing (s.state ∙ e) ∙ s.value;
  }

  pub now_by_step : (step : Step) (lives' : List Live) (plan' : Plan) → IsTold g
      → ends_elsewhere step place.disk place.sector ≡ true → EndsStay g.lives lives' key x place → NowHolds g key x place
      → NowHolds (stepped g step lives' plan') key x place
  now_by_step step lives' plan' told none ends h =
      now_kept (stepped g step lives' plan') (now_on g.origin.told.opened step g.origin.told.steps place.disk place.sector none)
      (ap (λ (s : PlainState). sector_of s key x) (replay_stays step g.origin g.entries told.first told.upto)) ends h

  -- the write of a started piece completes well there: every leg there that has ended has its value
  pub now_by_written : (tag : ℕ) (span : Span) (sectors : List (List ℕ)) (fresh : List Bool) (lives' : List Live) (plan' : Plan)
      (l0 : Live) (leg0 : Leg) → IsTrue (covers span place.disk place.sector) → value_at span sectors place.sector ≡ value_in l0 x
      → IsWriting lives' key x place l0 leg0 → has_ended leg0.state ≡ true
      → ((l : Live) (leg : Leg) → IsWriting lives' key x place l leg → has_ended leg.state ≡ true → value_in l x ≡ value_in l0 x)
      → NowHolds (stepped g (Completed tag (Writing span sectors) true fresh) lives' plan') key x place
  now_by_written tag span sectors fresh lives' plan' l0 leg0 inside value writing ended only =
      let now = now_written g.origin.told.opened tag span sectors fresh g.origin.told.steps place.disk place.sector inside in
      record {
        now = inr (record { live = l0; leg = leg0; writing = writing; ended = ended; value = now ∙ value });
        well = λ l leg k w e. now ∙ value ∙ sym (only l leg w (ap has_ended e));
      }

  -- it completes badly, where what stood was the machine's, and none there has completed well
  pub now_by_bad : (tag : ℕ) (span : Span) (sectors : List (List ℕ)) (fresh : List Bool) (lives' : List Live) (plan' : Plan)
      (l0 : Live) (leg0 : Leg) → IsTold g → value_at span sectors place.sector ≡ value_in l0 x
      → IsWriting lives' key x place l0 leg0 → leg0.state ≡ Bad
      → ((l : Live) (leg : Leg) (k : ℕ) → IsWriting lives' key x place l leg → leg.state ≡ Well k → ⊥)
      → now_of g place ≡ sector_of (plain_state g.origin g.entries) key x
      → NowHolds (stepped g (Completed tag (Writing span sectors) false fresh) lives' plan') key x place
  now_by_bad tag span sectors fresh lives' plan' l0 leg0 told value writing bad none was =
      let step : Step = Completed tag (Writing span sectors) false fresh in
      let same = replay_stays step g.origin g.entries told.first told.upto in
      record {
        now =
            ⊎_elim (λ old. inl (old ∙ was ∙ sym (ap (λ (s : PlainState). sector_of s key x) same)))
            (λ new. inr (record { live = l0; leg = leg0; writing = writing; ended = ap has_ended bad; value = new ∙ value }))
            (now_failed g.origin.told.opened tag span sectors fresh g.origin.told.steps place.disk place.sector);
        well = λ l leg k w e. absurd (none l leg k w e);
      }

-- the piece takes place or fails, so the machine has what a read gives, and no other has ended there
pub now_settled : (g : Scene) (key x : ℕ) (place : Place) → now_of g place ≡ sector_of (plain_state g.origin g.entries) key x
    → ((l : Live) (leg : Leg) → IsWriting g.lives key x place l leg → has_ended leg.state ≡ false) → NowHolds g key x place
now_settled g key x place same none = record {
  now = inl same;
  well = λ l leg k w e. absurd (true≢false (sym (ap has_ended e) ∙ none l leg w));
}
