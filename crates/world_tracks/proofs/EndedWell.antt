-- The write of a piece has completed well, and it takes place: its sectors are tracked with a new note, and all others as before.
use Rattle.std.proofs.Common.{◌&&◌, ◌+◌, ◌-◌, ◌<◌, ◌==◌, ◌∙◌, ◌∷◌, ◌≡◌, ◌≤◌, ℕ, [], Bool, IsTrue, List, Option, Some, ap, arith, drop}
use Rattle.std.proofs.Common.{false, inl, length, nat_le, nat_lt, refl, slice_get, slice_index_or, subst, sym, take, true}
use Rattle.std.proofs.lemmas.Bool.{and_parts, eqb-true}
use Rattle.std.proofs.lemmas.Bool.Decides.{nat_tests}
use Rattle.std.proofs.lemmas.List.FromFn.{length-map-range_with_len}
use Rattle.std.proofs.lemmas.Option.{same_Some}
use Rattle.list_laws.proofs.Bools.{true_le, true_lt}
use Rattle.sector_base.specs.Spans.{covers}
use Rattle.sector_base.specs.declared.spans.Span.{Span}
use Rattle.lvm_script.specs.declared.line.Line.{Line}
use Rattle.disk_model.specs.Brought.{writes}
use Rattle.disk_model.specs.Operations.{work_of}
use Rattle.disk_model.specs.State.{State}
use Rattle.disk_model.specs.Steps.{Completed, Record, Step, step_on}
use Rattle.disk_model.specs.declared.ops.Done.{Done}
use Rattle.disk_model.specs.declared.ops.Op.{Op}
use Rattle.disk_model.specs.declared.ops.Op.TheVariants.{Write as WriteOp}
use Rattle.flush_plan.specs.Plans.{IsOrderly as IsOrderlyPlan, Plan}
use Rattle.flush_plan.specs.Steps.{after_wrote}
use Rattle.line_table.specs.Machine.{PlainState, sector_of}
use Rattle.piece_table.specs.Pieces.{live_at}
use Rattle.piece_table.specs.declared.live.LivePiece.{LivePiece}
use Rattle.volume_history.specs.Candidates.{writes_line}
use Rattle.volume_history.specs.Chronicles.{ChronicleEntry, Origin, Took, begun_in, count_begun, piece_covers}
use Rattle.volume_history.specs.Placed.{Place, values_on, volumes_of}
use Rattle.volume_history.specs.Replay.{plain_state}
use Rattle.world_places.specs.Changes.{IsIdle, behind, stepped}
use Rattle.world_places.specs.Lives.{IsThere, Leg, Live, Well, Written, value_in}
use Rattle.world_places.specs.Tracked.{Scene, Tracked}
use Rattle.data_lines.specs.DataLines.{in_range, value_for}
use Rattle.world_acts.specs.Acts.{World}
use Rattle.world_acts.specs.Orderly.{IsOrderly}
use Rattle.world_acts.specs.Owners.{values_of}
use Rattle.world_acts.specs.Volumes.{span_of}
use Rattle.world_acts.specs.declared.state.Core.{Core}
use Rattle.world_history.specs.Contents.{origin_with}
use Rattle.world_history.specs.Shown.{Shows, StandsIn, now_of, places_keyed, shown_state}
use Rattle.world_history.proofs.Contents.EndedWorld.{IsWritten, is_written}
use Rattle.world_history.proofs.Contents.EndedWrite.{PlacesDiffer}
use Rattle.world_history.proofs.Contents.Spans.{written_well}
use Rattle.world_history.proofs.Contents.Values.{shown_each}
use Rattle.world_tracks.specs.Lives.{leg_of, live_of, lives_in, scene_of}
use Rattle.world_tracks.specs.Tracks.{AreTracked, PlaceLaws}
use Rattle.world_tracks.proofs.EndedFacts.{EndedBy}
use Rattle.world_tracks.proofs.EndedLives.{has_written, leg_in, legs_ended, legs_gone, legs_stay, live_in, real_ended, real_gone, real_left}
use Rattle.world_tracks.proofs.EndedLives.{was_writing, with_ended}
use Rattle.world_tracks.proofs.EndedRead.{arrives, scene_told}
use Rattle.world_tracks.proofs.Lives.{is_first, is_later}
use Rattle.world_tracks.proofs.LivesLess.{legs_less, real_less, without}
use Rattle.world_tracks.proofs.Replanned.{tracked_replanned}

covers_place : (span : Span) (i : ℕ) → i < span.count → IsTrue (covers span span.pv (span.first + i))
covers_place span i lt = grind (arith, nat_tests)

and_false : (c : Bool) → (c && false) ≡ false
and_false true = refl
and_false false = refl

module _ (laws : PlaceLaws) (b : Origin) {w : World} {es : List ChronicleEntry} {told : Record} {done : Done} {now : State} {number : ℕ}
    (o : IsOrderly w) (count : count_begun es ≡ length w.core.lines.begun)
    (x : EndedBy w es told done now number) (shows : Shows (origin_with b told) es) (notes : List Written)
    (tracked : AreTracked b told w.core es notes) (fresh : List Bool) (span : Span) (sectors : List (List ℕ))
    (op : done.op ≡ WriteOp span sectors) (good : done.well ≡ true) (stands : StandsIn b.version x.piece.live.piece span)
    (differ : PlacesDiffer b)
    (landed : Shows (origin_with b (step_on (Completed done.tag (work_of done.op) done.well fresh) told))
    (Took now.steps x.piece.live.line x.piece.live.piece ∷ es)) where
  abbrev live : LivePiece
  live = x.piece.live

  abbrev step : Step
  step = Completed done.tag (work_of done.op) done.well fresh

  abbrev g : Scene
  g = scene_of (origin_with b told) w.core es notes

  abbrev left : List Live
  left = lives_in w.core (without done.tag w.core.pieces.owners)

  -- its place in the plan's order, and its note
  abbrev mark : ℕ
  mark = w.core.waits.plan.held + 1

  abbrev pub ended_note : Written
  ended_note = record {
    line = x.piece.live.line;
    number = number;
    piece = x.piece.live.piece;
    pv = span.pv;
    first = (span_of w.core.volumes x.piece.live.piece).first;
    place = w.core.waits.plan.held + 1;
    begun = length w.core.lines.begun;
    primary = true;
  }

  -- its leg has completed
  abbrev wells : List Live
  wells = with_ended w.core w.core.pieces.owners done.tag x.owner.piece x.piece.live (Well mark)

  abbrev its : Live
  its = live_in w.core done.tag x.owner.piece x.piece.live (Well mark)

  abbrev its_leg : Leg
  its_leg = leg_in w.core done.tag x.piece.live (Well mark)

  abbrev took : ChronicleEntry
  took = Took now.steps x.piece.live.line x.piece.live.piece

  written : IsWritten x.piece span sectors
  written = is_written x.piece span sectors (ap work_of op)

  many : length sectors ≡ live.piece.count
  many =
      ap (λ (l : List (List ℕ)). length l) written.brings
      ∙ length-map-range_with_len (value_for x.piece.line.command) live.piece.first live.piece.count

  -- the plan notes it
  abbrev noting : Plan
  noting = after_wrote w.core.waits.plan number span.pv

  orderly : IsOrderlyPlan (record w.core.waits.plan { last = [] })
  orderly = record {
    last = λ i d lt. absurd (omega (arith, lt));
    marks = o.tidy.flushes.reached;
    flushes = o.tidy.flushes.after;
  }

  module _ (key y : ℕ) (p : Place) (at : slice_get (places_keyed (volumes_of b.version) key) y ≡ Some p) (plan : Plan)
      (marks : plan.marks ≡ noting.marks) (flushes : plan.flushes ≡ noting.flushes) where
    -- ---- a sector of the piece

    module _ (its_own : piece_covers live.piece key y ≡ true) where
      abbrev i : ℕ
      i = y - live.piece.first

      keyed : live.piece.volume ≡ key
      keyed = eqb-true live.piece.volume key (and_parts (live.piece.volume == key) (in_range live.piece.first live.piece.count y) its_own).0

      within : (nat_le live.piece.first y ≡ true) × (nat_lt y (live.piece.first + live.piece.count) ≡ true)
      within =
          and_parts (nat_le live.piece.first y) (nat_lt y (live.piece.first + live.piece.count))
          (and_parts (live.piece.volume == key) (in_range live.piece.first live.piece.count y) its_own).1

      low : live.piece.first ≤ y
      low = true_le live.piece.first y within.0

      high : y < live.piece.first + live.piece.count
      high = true_lt y (live.piece.first + live.piece.count) within.1

      inside : y - live.piece.first < live.piece.count
      inside = let a = low in let c = high in omega (arith, a, c)

      from : live.piece.first + (y - live.piece.first) ≡ y
      from = let a = low in omega (arith, a)

      -- it stands in the span
      place : ◌≡◌ {A = Place} p (record { disk = span.pv; sector = span.first + (y - live.piece.first) })
      place =
          same_Some {A = Place} p (record { disk = span.pv; sector = span.first + (y - live.piece.first) })
          (sym at ∙ ap (λ (k : ℕ). slice_get (places_keyed (volumes_of b.version) k) y) (sym keyed)
          ∙ ap (λ (k : ℕ). slice_get (places_keyed (volumes_of b.version) live.piece.volume) k) (sym from)
          ∙ stands.there (y - live.piece.first) inside)

      disk : p.disk ≡ span.pv
      disk = ap (λ (q : Place). q.disk) place

      there : IsThere (live_of w.core done.tag x.owner.piece x.piece.live) (leg_of w.core done.tag x.piece.live) y p
      there = (
        ap (λ (s : Span). s.pv) (sym written.span_is) ∙ sym disk,
        ap (λ (s : Span). s.first + (y - live.piece.first)) (sym written.span_is) ∙ ap (λ (q : Place). q.sector) (sym place),
      )

      writes_there : IsTrue (writes (work_of done.op) p.disk p.sector)
      writes_there =
          subst (λ (z : Op). IsTrue (writes (work_of z) p.disk p.sector)) (sym op)
          (subst (λ (q : Place). IsTrue (covers span q.disk q.sector)) (sym place)
          (covers_place span (y - live.piece.first) (let lt = inside in omega (arith, lt, stands.many))))

      -- its write has completed well there
      has_come : Tracked (stepped g step wells plan) key y p
      has_come =
          let bare : Plan = record w.core.waits.plan { last = [] } in
          let before : Scene = record g { plan = bare } in
          let then : Tracked (stepped before (Completed done.tag (work_of done.op) true fresh) wells (after_wrote bare number p.disk)) key y
          p =
          laws.written before key y p wells (live_of w.core done.tag x.owner.piece x.piece.live) (leg_of w.core done.tag x.piece.live)
          done.tag number (work_of done.op) fresh
          (record { first = shows.so_far.first; upto = shows.so_far.upto }) orderly writes_there
          (was_writing w.core w.core.pieces.owners done.tag x.owner x.piece.live x.single x.at x.there key y p written.write its_own there)
          refl (real_ended w.core w.core.pieces.owners done.tag x.owner x.piece.live x.single x.at x.there es key y (Well mark))
          (legs_ended w.core w.core.pieces.owners done.tag x.owner x.piece.live x.single x.at x.there
          (λ l leg. (leg.state ≡ Well mark) × (value_in l y ≡ value_in (live_of w.core done.tag x.owner.piece x.piece.live) y)) (Well mark)
          key y p (refl, refl))
          (tracked_replanned g bare refl refl key y p (tracked key y p at)) in
          tracked_replanned (stepped before step wells (after_wrote bare number span.pv)) plan marks flushes key y p
          (subst (λ (c : Bool). Tracked (stepped before (Completed done.tag (work_of done.op) c fresh) wells
          (after_wrote bare number span.pv)) key y p) (sym good)
          (subst (λ (d : ℕ). Tracked (stepped before (Completed done.tag (work_of done.op) true fresh) wells
          (after_wrote bare number d)) key y p) disk then))

      -- and the machine has its value
      value : sector_of (plain_state (origin_with b (step_on step told)) (took ∷ es)) key y ≡ value_in its y
      value =
          ap (λ (s : PlainState). sector_of s key y) landed.machine
          ∙ ap (λ (k : ℕ). sector_of (shown_state b.version (now_of (step_on step told))) k y) (sym keyed)
          ∙ ap (λ (k : ℕ). sector_of (shown_state b.version (now_of (step_on step told))) live.piece.volume k) (sym from)
          ∙ sym (shown_each (volumes_of b.version) live.piece stands.inside (now_of (step_on step told)) (y - live.piece.first) inside)
          ∙ ap (λ (l : List (List ℕ)). slice_index_or l (y - live.piece.first) []) shown
          ∙ ap (λ (l : List (List ℕ)). slice_index_or l (y - live.piece.first) [])
          (written.brings ∙ ap (λ (l : Option Line). values_of l live.piece) (sym x.piece.listed))
        where
          shown : take live.piece.count (drop live.piece.first
              (values_on (now_of (step_on step told)) (places_keyed (volumes_of b.version) live.piece.volume))) ≡ sectors
          shown =
              subst (λ (z : Op). take live.piece.count (drop live.piece.first
              (values_on (now_of (step_on (Completed done.tag (work_of z) done.well fresh) told))
              (places_keyed (volumes_of b.version) live.piece.volume))) ≡ sectors) (sym op)
              (written_well (volumes_of b.version) live.piece stands.inside span stands.there stands.many differ told.opened told.steps
              done.tag sectors done.well fresh good many)

      own_takes : Tracked (behind (stepped g step wells plan) took left (ended_note ∷ notes)) key y p
      own_takes =
          laws.takes (stepped g step wells plan) key y p now.steps live.line live.piece left (ended_note ∷ notes) its its_leg mark
          ended_note x.unanswered
          (has_written w.core w.core.pieces.owners done.tag x.owner x.piece.live x.single x.at x.there key y p written.write its_own there
          (Well mark)) refl value
          (is_first ended_note notes) (refl, refl, sym count) (sym disk, there.1) (omega arith)
          (real_gone w.core w.core.pieces.owners done.tag x.owner x.piece.live x.single x.at x.there es key y took (λ n. refl) (Well mark))
          (legs_gone w.core w.core.pieces.owners done.tag x.owner x.piece.live x.single x.at x.there IsIdle (Well mark) key y p)
          (λ v kept on. inl (is_later v ended_note notes kept)) has_come

    -- ---- another

    module _ (other : piece_covers live.piece key y ≡ false) where
      none : (l : LivePiece) → live_at w.core.pieces.lives x.owner.piece ≡ Some l → (l.piece.write && piece_covers l.piece key y) ≡ false
      none l there =
          let same : live ≡ l = same_Some live l (sym x.there ∙ there) in
          ap (λ (c : Bool). l.piece.write && c) (ap (λ (m : LivePiece). piece_covers m.piece key y) (sym same) ∙ other)
          ∙ and_false l.piece.write

      stays : Tracked (stepped g step left plan) key y p
      stays =
          tracked_replanned (stepped g step left noting) plan marks flushes key y p
          (subst (λ (c : Bool). Tracked (stepped g (Completed done.tag (work_of done.op) c fresh) left noting) key y p) (sym good)
          (laws.other g key y p left done.tag number span.pv (work_of done.op) fresh (scene_told b told w.core es notes shows)
          (real_less w.core w.core.pieces.owners done.tag x.owner x.single x.at key y none es)
          (legs_less w.core w.core.pieces.owners done.tag x.owner x.single x.at IsIdle key y p) (tracked key y p at)))

      other_takes : Tracked (behind (stepped g step left plan) took left (ended_note ∷ notes)) key y p
      other_takes =
          laws.took (stepped g step left plan) key y p now.steps live.line live.piece left (ended_note ∷ notes) x.unanswered
          (ap (λ (c : Bool). c && writes_line (begun_in es live.line)) other)
          (real_left w.core w.core.pieces.owners done.tag x.owner x.piece.live x.single x.at x.there es key y took (λ n. refl))
          (legs_stay IsIdle left key y p)
          (λ v kept on. inl (is_later v ended_note notes kept)) stays

    takes : Tracked (record {
      origin = origin_with b (step_on step told);
      entries = took ∷ es;
      lives = left;
      written = ended_note ∷ notes;
      plan = plan;
    }) key y p
    takes = by (piece_covers live.piece key y) refl
      where
        by : (c : Bool) → piece_covers live.piece key y ≡ c
            → Tracked (record {
              origin = origin_with b (step_on step told);
              entries = took ∷ es;
              lives = left;
              written = ended_note ∷ notes;
              plan = plan;
            }) key y p
        by true is = own_takes is
        by false is = other_takes is

  -- with its note, where the plan then has the marks and the flushes of that which notes the write
  pub well_tracked : (d : Core) → lives_in d d.pieces.owners ≡ lives_in w.core (without done.tag w.core.pieces.owners)
      → d.waits.plan.marks ≡ (after_wrote w.core.waits.plan number span.pv).marks
      → d.waits.plan.flushes ≡ (after_wrote w.core.waits.plan number span.pv).flushes
      → AreTracked b (step_on (Completed done.tag (work_of done.op) done.well fresh) told) d
      (Took now.steps x.piece.live.line x.piece.live.piece ∷ es) (ended_note ∷ notes)
  well_tracked d lives marks flushes key y p at =
      arrives left d.waits.plan d lives refl (takes key y p at d.waits.plan marks flushes)
