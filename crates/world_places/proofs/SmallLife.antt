-- A cached write from its line to the answer of a later flush line, act by act: the premises of all laws can be met.
use Rattle.std.proofs.Common.{◌≡◌, ◌≤◌, ℕ, zero, suc, ◌==◌, ◌&&◌, ◌||◌, Bool, true, false, List, [], ◌∷◌, Contains, Option, Some, None, inl}
use Rattle.std.proofs.Common.{inr, ⊎_elim, refl, sym, ap, subst, ◌∙◌, arith}
use Rattle.std.proofs.lemmas.Bool.{true≢false}
use Rattle.list_laws.proofs.Bools.{and_cases, eq_of, or_cases}
use Rattle.sector_base.specs.declared.places.Piece.{Piece}
use Rattle.sector_base.specs.declared.spans.Span.{Span}
use Rattle.line_answers.specs.declared.answer.Answer.TheVariants as answer
use Rattle.lvm_script.specs.declared.line.Line.{Line}
use Rattle.data_lines.specs.DataLines.{is_flush, number_sector}
use Rattle.disk_model.specs.CrashValues.{HasCompleted}
use Rattle.disk_model.specs.Steps.{Completed, Flushing, Submitted, Writing}
use Rattle.flush_plan.proofs.Orderly.{orderly_new}
use Rattle.flush_plan.specs.Plans.{Plan, marks_of}
use Rattle.flush_plan.specs.Steps.{after_flushed, after_submitted, after_wrote, new_plan}
use Rattle.volume_view.specs.InSegments.{leg_spot, met}
use Rattle.volume_view.specs.Places.{primary}
use Rattle.volume_history.proofs.SmallGroups.{filling, flushing, holding}
use Rattle.volume_history.specs.Candidates.{base}
use Rattle.volume_history.specs.Chronicles.{Answered, Begun, ChronicleEntry, Origin, Took, origin_on, settled_at}
use Rattle.volume_history.specs.Cuts.{FlushesVolume}
use Rattle.volume_history.specs.Parts.{PlaceHolds}
use Rattle.volume_history.specs.Placed.{Place, place_of, volumes_of}
use Rattle.volume_history.specs.Runs.{zero_piece}
use Rattle.world_places.proofs.Acknowledging.{tracked_by_ok}
use Rattle.world_places.proofs.Beginning.{place_of_tracked, tracked_at_open}
use Rattle.world_places.proofs.Entries.{tracked_by_begun, tracked_by_take, tracked_by_took}
use Rattle.world_places.proofs.Now.{now_by_step, now_by_written, now_settled}
use Rattle.world_places.proofs.Pieces.{tracked_by_flush, tracked_by_flushed, tracked_by_lives, tracked_by_write, tracked_by_written}
use Rattle.world_places.specs.Changes.{IsTold}
use Rattle.world_places.specs.Lives.{Flying, IsWriting, Leg, LegState, Live, Started, Waiting, Well, Written, runs_at, value_in}
use Rattle.world_places.specs.Nows.{NowHolds, has_ended}
use Rattle.world_places.specs.Tracked.{Scene, Tracked}
use Rattle.world_places.specs.Waiting.{IsWaitedBy}

-- the only sector of a volume, which holds 9s
abbrev place : Place
place = record { disk = 0; sector = 10 }

abbrev origin : Origin
origin =
    record {
      told = record { opened = λ pv sector. 9 ∷ []; steps = [] };
      first = 0;
      start = 0;
      sizes = 99 ∷ [];
      names = (0 ∷ []) ∷ [];
      clock = 0;
      version = Some holding;
    }

abbrev piece : Piece
piece = record { volume = 0; first = 0; count = 1; write = true }

abbrev span : Span
span = record { pv = 0; first = 10; count = 1 }

abbrev sectors : List (List ℕ)
sectors = number_sector 7 ∷ []

abbrev leg_in : LegState → Leg
leg_in state = record { pv = 0; first = 10; primary = true; state = state }

abbrev live_in : LegState → Live
live_in state =
    record {
      number = 0;
      line = 0;
      piece = piece;
      sectors = sectors;
      region = None;
      stage = Started;
      legs = leg_in state ∷ [];
    }

abbrev note : Written
note = record { line = 0; number = 0; piece = piece; pv = 0; first = 10; place = 1; begun = 1; primary = true }

abbrev scene : Origin → List ChronicleEntry → List Live → List Written → Plan → Scene
scene o es lives written plan = record { origin = o; entries = es; lives = lives; written = written; plan = plan }

-- what a list of one contains
one : {A : Type 0} (a b : A) → Contains (a ∷ []) b → a ≡ b
one a b (zero, lt, e) = e
one a b (suc i, lt, e) = absurd (omega (arith, lt))

none_in : {A : Type 0} (b : A) → Contains [] b → ⊥
none_in b (i, lt, e) = absurd (omega (arith, lt))

first_in : {A : Type 0} (a : A) → Contains (a ∷ []) a
first_in a = (0, omega arith, refl)

-- the leg that writes is this one
leg_is : (state : LegState) (l : Live) (leg : Leg) → IsWriting (live_in state ∷ []) 0 0 place l leg → leg_in state ≡ leg
leg_is state l leg w =
    one (leg_in state) leg (subst (λ (k : Live). Contains k.legs leg) (sym (one (live_in state) l w.live)) w.leg_of)

state_is : (state : LegState) (l : Live) (leg : Leg) → IsWriting (live_in state ∷ []) 0 0 place l leg → leg.state ≡ state
state_is state l leg w = ap (λ (k : Leg). k.state) (sym (leg_is state l leg w))

value_is : (state : LegState) (l : Live) (leg : Leg) → IsWriting (live_in state ∷ []) 0 0 place l leg → value_in l 0 ≡ number_sector 7
value_is state l leg w = ap (λ (k : Live). value_in k 0) (sym (one (live_in state) l w.live))

writing : (state : LegState) → IsWriting (live_in state ∷ []) 0 0 place (live_in state) (leg_in state)
writing state = record { live = first_in (live_in state); writing = refl; leg_of = first_in (leg_in state); there = (refl, refl) }

-- ---- steps, entries and plans

abbrev asked : Origin
asked = origin_on (Submitted 0 (Writing span sectors)) origin

abbrev done : Origin
done = origin_on (Completed 0 (Writing span sectors) true []) asked

abbrev flies : Origin
flies = origin_on (Submitted 1 (Flushing 0)) done

abbrev flushed : Origin
flushed = origin_on (Completed 1 (Flushing 0) true []) flies

abbrev begun : List ChronicleEntry
begun = Begun 0 0 (filling 0 1 7) (Some 0) ∷ []

abbrev took : List ChronicleEntry
took = Took 2 0 piece ∷ begun

abbrev answered : List ChronicleEntry
answered = Answered 2 0 answer.Fine ∷ took

abbrev both : List ChronicleEntry
both = Begun 2 1 flushing (Some 0) ∷ answered

abbrev took_both : List ChronicleEntry
took_both = Took 4 1 (zero_piece 0) ∷ both

abbrev plan0 : Plan
plan0 = new_plan 1

abbrev plan1 : Plan
plan1 = after_wrote plan0 0 0

abbrev plan2 : Plan
plan2 = after_submitted plan1 0 1

abbrev plan3 : Plan
plan3 = after_flushed plan2 1

-- ---- acts

opened : Tracked (scene origin [] [] [] plan0) 0 0 place
unfolding volumes_of place_of primary met leg_spot
opened =
    tracked_at_open (scene origin [] [] [] plan0) 0 0 place refl (λ l leg w. absurd (none_in l w.live))
    (record { each = λ write value may. may.1 })

begins : Tracked (scene origin begun [] [] plan0) 0 0 place
begins = tracked_by_begun (scene origin [] [] [] plan0) 0 0 place 0 0 (filling 0 1 7) (Some 0) refl refl opened

told_at_begin : (lives : List Live) (plan : Plan) → IsTold (scene origin begun lives [] plan)
told_at_begin lives plan = record { first = omega arith; upto = (omega arith, tt) }

starts : Tracked (scene origin begun (live_in Waiting ∷ []) [] plan0) 0 0 place
starts =
    tracked_by_lives (scene origin begun [] [] plan0) 0 0 place (told_at_begin [] plan0) (live_in Waiting ∷ []) []
    (λ n r. absurd (let e : false ≡ true = r in cc)) (λ l leg w. inr (inl (state_is Waiting l leg w)))
    (λ w kept at. absurd (none_in w kept))
    begins

writes : Tracked (scene asked begun (live_in (Flying 0) ∷ []) [] plan0) 0 0 place
writes =
    tracked_by_write (scene origin begun (live_in Waiting ∷ []) [] plan0) 0 0 place (told_at_begin (live_in Waiting ∷ []) plan0)
    (live_in (Flying 0) ∷ []) (live_in Waiting)
    (record {
      line = filling 0 1 7;
      begun = refl;
      writing = refl;
      unanswered = refl;
      covers = refl;
      value = refl;
      unsettled = refl;
    }) 0 span sectors refl refl
    (record { each = λ write value may. inr (subst (λ (w : Option ℕ). HasCompleted [] w) (sym may.0) tt) }) (λ n r. r)
    (λ l leg w. inl (state_is (Flying 0) l leg w, value_is (Flying 0) l leg w)) starts

completes : Tracked (scene done begun (live_in (Well 1) ∷ []) [] plan1) 0 0 place
completes =
    tracked_by_written (scene asked begun (live_in (Flying 0) ∷ []) [] plan0) 0 0 place
    (record { first = omega arith; upto = (omega arith, tt) }) (live_in (Well 1) ∷ []) (live_in (Flying 0)) (leg_in (Flying 0)) 0 0
    (Writing span sectors) [] (orderly_new 1) refl (writing (Flying 0)) refl (λ n r. r)
    (λ l leg w. inr (state_is (Well 1) l leg w, value_is (Well 1) l leg w)) writes

takes : Tracked (scene done took [] (note ∷ []) plan1) 0 0 place
unfolding volumes_of place_of primary met leg_spot
takes =
    tracked_by_take (scene done begun (live_in (Well 1) ∷ []) [] plan1) 0 0 place 2 0 piece [] (note ∷ []) (live_in (Well 1))
    (leg_in (Well 1)) 1 note refl (writing (Well 1)) refl refl (first_in note) (refl, refl, refl) (refl, refl) (omega arith)
    real (λ l leg w. absurd (none_in l w.live)) (λ w kept at. absurd (none_in w kept)) completes
  where
    -- the piece that ran is settled
    real : (n : ℕ) → (false || runs_at (live_in (Well 1) ∷ []) n 0 0) ≡ true
        → (settled_at (Took 2 0 piece ∷ begun) n 0 0 || runs_at [] n 0 0) ≡ true
    real zero r = refl
    real (suc n) r = absurd (other r)
      where
        other : runs_at (live_in (Well 1) ∷ []) (suc n) 0 0 ≡ true → ⊥
        other h =
            ⊎_elim
            (λ (t : ((0 == suc n) && true) ≡ true).
            let e : 0 ≡ suc n = eq_of 0 (suc n) (and_cases (0 == suc n) true t).0 in absurd (omega (arith, e)))
            (λ (t : false ≡ true). absurd (cc))
            (or_cases ((0 == suc n) && true) false h)

-- the fill's answer makes nothing last
answers : Tracked (scene done answered [] (note ∷ []) plan1) 0 0 place
answers = tracked_by_ok (scene done took [] (note ∷ []) plan1) 0 0 place 2 0 (refl, refl, tt) none takes
  where
    -- whether the line that was begun flushes
    flushes_line : Option (Line × Option ℕ) → Bool
    flushes_line None = false
    flushes_line (Some l) = is_flush l.0.command

    not_flush : FlushesVolume took 0 0 → ⊥
    not_flush f = absurd (let e : true ≡ false = sym f.flushes ∙ sym (ap flushes_line f.begun) in cc)

    none : (w : Written) → Contains (note ∷ []) w → IsWaitedBy took 0 w → w.place ≤ (marks_of plan1 w.pv).stable
    none w kept waits =
        ⊎_elim (λ own. absurd (let e : false ≡ true = own.1 in cc))
        (λ later. absurd (not_flush (subst (λ (k : Written). FlushesVolume took 0 k.piece.volume) (sym (one note w kept)) later.0))) waits

begins_flush : Tracked (scene done both [] (note ∷ []) plan1) 0 0 place
begins_flush = tracked_by_begun (scene done answered [] (note ∷ []) plan1) 0 0 place 2 1 flushing (Some 0) refl refl answers

asks_flush : Tracked (scene flies both [] (note ∷ []) plan2) 0 0 place
asks_flush =
    tracked_by_flush (scene done both [] (note ∷ []) plan1) 0 0 place
    (record { first = omega arith; upto = (omega arith, (omega arith, (omega arith, (omega arith, tt)))) }) 1 0 begins_flush

ends_flush : Tracked (scene flushed both [] (note ∷ []) plan3) 0 0 place
ends_flush =
    tracked_by_flushed (scene flies both [] (note ∷ []) plan2) 0 0 place
    (record { first = omega arith; upto = (omega arith, (omega arith, (omega arith, (omega arith, tt)))) }) 1 0 [] refl refl (omega arith)
    asks_flush

takes_flush : Tracked (scene flushed took_both [] (note ∷ []) plan3) 0 0 place
takes_flush =
    tracked_by_took (scene flushed both [] (note ∷ []) plan3) 0 0 place 4 1 (zero_piece 0) [] (note ∷ []) refl refl
    (λ n r. still ((1 == n) && false) (settled_at both n 0 0) r) (λ l leg w. absurd (none_in l w.live)) (λ w kept at. inl kept) ends_flush
  where
    -- what was settled is
    still : (other settled : Bool) → (settled || false) ≡ true → ((other || settled) || false) ≡ true
    still true settled r = refl
    still false settled r = r

-- the flush line's answer makes it last
acknowledges : Tracked (scene flushed (Answered 4 1 answer.Fine ∷ took_both) [] (note ∷ []) plan3) 0 0 place
acknowledges =
    tracked_by_ok (scene flushed took_both [] (note ∷ []) plan3) 0 0 place 4 1 (refl, refl, (refl, refl, tt))
    (λ w kept waits. subst (λ (k : Written). k.place ≤ (marks_of plan3 k.pv).stable) (one note w kept) (omega arith)) takes_flush

-- from then on its base is the write, and each value that may be left has a source no older
based : base flushed (Answered 4 1 answer.Fine ∷ took_both) 0 0 ≡ took
based = refl

holds : PlaceHolds flushed (Answered 4 1 answer.Fine ∷ took_both) 0 0 place
holds =
    place_of_tracked (scene flushed (Answered 4 1 answer.Fine ∷ took_both) [] (note ∷ []) plan3) 0 0 place
    (λ l kept w. absurd (none_in l kept)) acknowledges

-- ---- what a read gives along that life

read_starts : NowHolds (scene origin begun (live_in Waiting ∷ []) [] plan0) 0 0 place
unfolding volumes_of place_of primary met leg_spot
read_starts =
    now_settled (scene origin begun (live_in Waiting ∷ []) [] plan0) 0 0 place refl (λ l leg w. ap has_ended (state_is Waiting l leg w))

-- while the write flies, what the machine has; once it has completed, the piece's value
read_flies : NowHolds (scene asked begun (live_in (Flying 0) ∷ []) [] plan0) 0 0 place
read_flies =
    now_by_step (scene origin begun (live_in Waiting ∷ []) [] plan0) 0 0 place (Submitted 0 (Writing span sectors))
    (live_in (Flying 0) ∷ []) plan0 (told_at_begin (live_in Waiting ∷ []) plan0) refl
    (record {
      kept = λ l leg w e. absurd (true≢false (sym e ∙ ap has_ended (state_is Waiting l leg w)));
      none = λ l leg w e. absurd (true≢false (sym e ∙ ap has_ended (state_is (Flying 0) l leg w)));
    }) read_starts

read_done : NowHolds (scene done begun (live_in (Well 1) ∷ []) [] plan1) 0 0 place
read_done =
    now_by_written (scene asked begun (live_in (Flying 0) ∷ []) [] plan0) 0 0 place 0 span sectors [] (live_in (Well 1) ∷ []) plan1
    (live_in (Well 1)) (leg_in (Well 1)) refl refl (writing (Well 1)) refl (λ l leg w e. value_is (Well 1) l leg w)

-- and then the machine has that
read_took : NowHolds (scene done took [] (note ∷ []) plan1) 0 0 place
unfolding volumes_of place_of primary met leg_spot
read_took = now_settled (scene done took [] (note ∷ []) plan1) 0 0 place refl (λ l leg w. absurd (none_in l w.live))
