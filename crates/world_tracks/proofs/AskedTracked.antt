-- What is tracked stays so where an operation of a piece is submitted.
use Rattle.std.proofs.Common.{◌≡◌, ◌≤◌, ◌<◌, ◌⊎◌, ℕ, ◌+◌, ◌-◌, ◌&&◌, Bool, true, false, not, nat_eq, nat_le, nat_lt, cond, IsTrue}
use Rattle.std.proofs.Common.{List, [], ◌∷◌, ◌++◌, length, Contains, Option, None, Some, IfSome, slice_get, slice_index_or}
use Rattle.std.proofs.Common.{inl, ⊎_elim, refl, sym, ap, subst, ◌∙◌, arith, true≢false}
use Rattle.std.specs.List.{list_any}
use Rattle.std.specs.Option.{option_map_or}
use Rattle.std.proofs.lemmas.Bool.{and_parts, eq-eqb, or_left}
use Rattle.std.proofs.lemmas.Bool.Decides.{nat_tests}
use Rattle.std.proofs.lemmas.List.Elements.{All-weaker, Contains-append_right}
use Rattle.std.proofs.lemmas.Option.{same_Some}
use Rattle.list_laws.proofs.Bools.{and_both, lt_true, true_le, true_lt}
use Rattle.list_laws.proofs.Members.{in_list}
use Rattle.sector_base.specs.declared.places.Piece.{Piece}
use Rattle.sector_base.specs.declared.spans.Span.{Span}
use Rattle.sector_base.specs.Spans.{covers}
use Rattle.claim_table.specs.Steps.{has_number}
use Rattle.data_lines.specs.DataLines.{in_range}
use Rattle.disk_model.specs.Brought.{writes}
use Rattle.disk_model.specs.Durability.{OnlyLeavesOrCompleted}
use Rattle.disk_model.specs.Operations.{work_of}
use Rattle.disk_model.specs.Record.{Operation, in_flight_after}
use Rattle.disk_model.specs.State.{State}
use Rattle.disk_model.specs.Steps.{Flushing, Reading, Record, Step, Submitted, Work as DiskWork, Writing, step_on, value_at}
use Rattle.disk_model.specs.declared.ops.Op.{Op}
use Rattle.disk_model.proofs.WritesInFlight.{alone_completed}
use Rattle.piece_table.specs.declared.live.LivePiece.{LivePiece}
use Rattle.piece_table.specs.declared.live.Owner.{Owner}
use Rattle.piece_table.specs.declared.live.Stage.{Stage}
use Rattle.piece_table.specs.declared.live.Stage.TheVariants.{Started, Waiting as Unsubmitted}
use Rattle.piece_table.specs.Pieces.{Pieces, flying_in, flying_of, is_waiting, is_waiting_stage, live_at}
use Rattle.piece_table.specs.Steps.{live_of as piece_of_number, with_flying, with_stage}
use Rattle.volume_history.specs.Chronicles.{ChronicleEntry, Origin, piece_covers}
use Rattle.volume_history.specs.Placed.{Place, volumes_of}
use Rattle.volume_history.proofs.EarlierMoments.{upto_longer}
use Rattle.vg_scan.specs.Versions.{Version}
use Rattle.world_acts.specs.declared.state.Core.{Core}
use Rattle.world_acts.specs.Acts.{Allowed, Asks, AsksFlush, World, after}
use Rattle.world_acts.specs.Counts.{is_taken}
use Rattle.world_acts.specs.Orderly.{IsOrderly}
use Rattle.world_acts.specs.Owners.{in_flight_at, line_of, piece_work, values_of}
use Rattle.world_acts.specs.Volumes.{IsPlaced, span_of}
use Rattle.world_acts.proofs.PiecesKept.{start_waits}
use Rattle.world_acts.proofs.Tables.{Changes, at_number, changes_both, own_at}
use Rattle.world_history.specs.Contents.{Holds, origin_with}
use Rattle.world_history.specs.Shown.{StandsIn, places_keyed}
use Rattle.world_history.specs.Told.{IsTold as IsToldOf}
use Rattle.world_history.proofs.Contents.Flown.{IsDone, flown, writes_none}
use Rattle.world_history.proofs.Contents.Keyed.{places_differ}
use Rattle.world_history.proofs.Contents.Standing.{stands_in}
use Rattle.world_history.proofs.Contents.StartedApart.{submitted_free, undeferred_apart}
use Rattle.world_history.proofs.Contents.Tagged.{each_tagged}
use Rattle.world_places.specs.Changes.{IsIdle, IsTold, stepped}
use Rattle.world_places.specs.Lives.{Flying, IsWriting, Leg, Live, Written, value_in}
use Rattle.world_places.specs.Tracked.{Scene, Tracked}
use Rattle.world_tracks.specs.Lives.{live_of, lives_in, scene_of}
use Rattle.world_tracks.specs.Tracks.{AreTracked, PlaceLaws}
use Rattle.world_tracks.proofs.ActWaits.{HasPiece, startable, stage_change}
use Rattle.world_tracks.proofs.Lives.{InFlight, either_first, in_runs, is_first, writing_in}
use Rattle.world_tracks.proofs.LivesAre.{is_live}
use Rattle.world_tracks.proofs.LivesMore.{legs_more, real_more, writing_more}
use Rattle.world_tracks.proofs.LivesStay.{lives_same}
use Rattle.world_tracks.proofs.OthersApart.{both_cover, none_there}
use Rattle.world_tracks.proofs.QuietTracked.{lines_same, lives_kept, scene_told, seen_changed, tracked_planned}

-- ---- places

-- a span covers what lies in it
in_span : (span : Span) (pv sector : ℕ) → IsTrue (covers span pv sector)
    → (span.pv ≡ pv) × (span.first ≤ sector) × (sector < span.first + span.count)
in_span span pv sector is = (grind (arith, nat_tests), grind (arith, nat_tests), grind (arith, nat_tests))

module _ (version : Option Version) (piece : Piece) (span : Span) (stands : StandsIn version piece span)
    (differ : (key x other y : ℕ) (p : Place) → slice_get (places_keyed (volumes_of version) key) x ≡ Some p
    → slice_get (places_keyed (volumes_of version) other) y ≡ Some p → (key ≡ other) × (x ≡ y))
    (key x : ℕ) (p : Place) (at : slice_get (places_keyed (volumes_of version) key) x ≡ Some p) where
  -- a piece whose span covers the place of a sector covers the sector
  pub span_covers : IsTrue (covers span p.disk p.sector) → piece_covers piece key x ≡ true
  span_covers is =
      let on = in_span span p.disk p.sector is in
      let i : ℕ = p.sector - span.first in
      let lt : i < piece.count = omega (arith, on.1, on.2, stands.many) in
      let sector : span.first + i ≡ p.sector = omega (arith, on.1) in
      let place : ◌≡◌ {A = Place} (record { disk = span.pv; sector = span.first + i }) p =
      ap {B = Place} (λ (d : ℕ). record { disk = d; sector = span.first + i }) on.0
      ∙ ap {B = Place} (λ (s : ℕ). record { disk = p.disk; sector = s }) sector in
      let same = differ key x piece.volume (piece.first + i) p at (stands.there i lt ∙ ap Some place) in
      and_both (nat_eq piece.volume key) (in_range piece.first piece.count x) (eq-eqb piece.volume key (sym same.0))
      (and_both (nat_le piece.first x) (nat_lt x (piece.first + piece.count))
      (le_is piece.first x (omega (arith, same.1))) (lt_true x (piece.first + piece.count) (omega (arith, same.1, lt))))
    where
      le_is : (a c : ℕ) → a ≤ c → nat_le a c ≡ true
      le_is a c le = grind (arith, nat_tests)

  -- and the place of a sector that it covers is in its span
  pub covered_place : piece_covers piece key x ≡ true
      → (span.pv ≡ p.disk) × (span.first + (x - piece.first) ≡ p.sector) × (piece.first ≤ x)
  covered_place covers =
      let a = and_parts (nat_eq piece.volume key) (in_range piece.first piece.count x) covers in
      let c = and_parts (nat_le piece.first x) (nat_lt x (piece.first + piece.count)) a.1 in
      let low : piece.first ≤ x = true_le piece.first x c.0 in
      let high : x < piece.first + piece.count = true_lt x (piece.first + piece.count) c.1 in
      let volume : piece.volume ≡ key = eqb_is piece.volume key a.0 in
      let back : piece.first + (x - piece.first) ≡ x = omega (arith, low) in
      let its : ◌≡◌ {A = Place} (record { disk = span.pv; sector = span.first + (x - piece.first) }) p =
      same_Some {A = Place} (record { disk = span.pv; sector = span.first + (x - piece.first) }) p
      (sym (stands.there (x - piece.first) (omega (arith, low, high)))
      ∙ (λ i. slice_get (places_keyed (volumes_of version) (volume i)) (back i)) ∙ at) in
      (ap (λ (q : Place). q.disk) its, ap (λ (q : Place). q.sector) its, low)
    where
      eqb_is : (a c : ℕ) → nat_eq a c ≡ true → a ≡ c
      eqb_is a c is = grind (arith, nat_tests)

-- ---- pieces

-- one of which nothing was submitted flies nowhere, and hasn't taken place
waiting_flies : (s : Stage) → is_waiting_stage s ≡ true → (flying_of s ≡ 0) × (is_taken s ≡ false)
waiting_flies (Unsubmitted sectors) is = (refl, refl)
waiting_flies s is = absurd (true≢false (sym is))

not_true : (x : Bool) → not x ≡ true → x ≡ false
not_true true is = absurd (true≢false (sym is))
not_true false is = refl

-- what one does that writes
writing_work : (c : Core) (l : LivePiece) → l.piece.write ≡ true
    → piece_work c l ≡ Writing (span_of c.volumes l.piece) (values_of (line_of c l) l.piece)
writing_work c l write =
    ap (λ (b : Bool). cond b (Writing (span_of c.volumes l.piece) (values_of (line_of c l) l.piece)) (Reading (span_of c.volumes l.piece)))
    write

-- ---- an operation is submitted

module _ {start : ℕ} {coming : ℕ → ℕ → ℕ} {w : World} {es : List ChronicleEntry} (laws : PlaceLaws) (b : Origin) (told : Record)
    (notes : List Written) (o : IsOrderly w) (history : IsToldOf start coming w es) (is : w.shelf.told ≡ Some told) (h : Holds b told w es)
    (t : AreTracked b told w.core es notes) where
  abbrev c : Core
  c = w.core

  abbrev g : Scene
  g = scene_of (origin_with b told) w.core es notes

  g_told : IsTold (scene_of (origin_with b told) w.core es notes)
  g_told = scene_told b told w.core es notes h.shows.so_far

  stands : (number : ℕ) (l : LivePiece) → live_at w.core.pieces.lives number ≡ Some l
      → StandsIn b.version l.piece (span_of w.core.volumes l.piece)
  stands number l at =
      stands_in w.core.volumes w.shelf.sizes b.version o.backed.places.laid h.volumes l.piece
      (at_number (λ (x : ℕ × LivePiece). IsPlaced w.core.volumes w.shelf.sizes x.1.piece) w.core.pieces.lives number l
      o.backed.places.placed at)

  differ : (key x other y : ℕ) (p : Place) → slice_get (places_keyed (volumes_of b.version) key) x ≡ Some p
      → slice_get (places_keyed (volumes_of b.version) other) y ≡ Some p
      → (key ≡ other) × (x ≡ y)
  differ = places_differ w.core.volumes w.shelf.sizes b.version o.backed.places.laid h.volumes

  -- the piece, of which nothing was submitted, and that isn't deferred
  module _ (number : ℕ) (l : LivePiece) (at : live_at w.core.pieces.lives number ≡ Some l) (waits : is_waiting_stage l.stage ≡ true)
      (free : list_any (has_number number) w.core.pieces.claims.deferred ≡ false) (tag : ℕ) where
    abbrev own : Owner
    own = record { piece = number; primary = true }

    abbrev owners' : List (ℕ × Owner)
    owners' = w.core.pieces.owners ++ (tag, own) ∷ []

    abbrev step : Step
    step = Submitted tag (piece_work w.core l)

    none_flies : flying_in w.core.pieces.lives number ≡ 0
    none_flies =
        ap (λ (x : Option LivePiece). option_map_or (λ (m : LivePiece). flying_of m.stage) x 0) at ∙ (waiting_flies l.stage waits).0

    module _ (key x : ℕ) (p : Place) (sector : slice_get (places_keyed (volumes_of b.version) key) x ≡ Some p) where
      -- where the piece doesn't write the sector
      asked_elsewhere : (l.piece.write && piece_covers l.piece key x) ≡ false
          → Tracked (stepped (scene_of (origin_with b told) w.core es notes) (Submitted tag (piece_work w.core l))
          (lives_in w.core (w.core.pieces.owners ++ (tag, record { piece = number; primary = true }) ∷ [])) w.core.waits.plan) key x p
      asked_elsewhere none =
          laws.lives (stepped g step (lives_in w.core w.core.pieces.owners) w.core.waits.plan) key x p (lives_in w.core owners') notes
          (record {
            first = omega (arith, g_told.first);
            upto = upto_longer (length told.steps) (length (step_on step told).steps) es (omega arith) g_told.upto;
          })
          (real_more w.core w.core.pieces.owners tag own es key x)
          (legs_more w.core w.core.pieces.owners tag own IsIdle key x p
          (λ m there. ap (λ (y : LivePiece). y.piece.write && piece_covers y.piece key x) (same_Some m l (sym there ∙ at)) ∙ none))
          (λ note kept there. inl kept)
          (laws.steps g key x p step g_told quiet (t key x p sector))
        where
          quiet : writes (piece_work w.core l) p.disk p.sector ≡ false
          quiet =
              writes_none w.core l p.disk p.sector
              (λ write on. true≢false
              (sym (and_both l.piece.write (piece_covers l.piece key x) write
              (span_covers b.version l.piece (span_of w.core.volumes l.piece) (stands number l at) differ key x p sector on)) ∙ none))

      -- where it does: it is the only write there
      module _ (write : l.piece.write ≡ true) (covers : piece_covers l.piece key x ≡ true) where
        abbrev l0 : Live
        l0 = live_of w.core tag number l

        there : ((span_of w.core.volumes l.piece).pv ≡ p.disk)
            × ((span_of w.core.volumes l.piece).first + (x - l.piece.first) ≡ p.sector)
            × (l.piece.first ≤ x)
        there =
            covered_place b.version l.piece (span_of w.core.volumes l.piece) (stands number l at) differ key x p sector covers

        -- nothing in flight writes there
        none_writes : (q : ℕ) (work : DiskWork) → in_flight_at w.shelf.in_flight q ≡ Some work → writes work p.disk p.sector ≡ false
        none_writes q work flying =
            ⊎_elim (λ f. ap (λ (y : DiskWork). writes y p.disk p.sector) f.1) (λ (d : IsDone w.core work). other d)
            (flown w.shelf w.core q work o.backed.known o.tidy.owners flying)
          where
            other : (d : IsDone w.core work) → writes work p.disk p.sector ≡ false
            other d =
                ap (λ (y : DiskWork). writes y p.disk p.sector) d.does
                ∙ writes_none w.core d.live p.disk p.sector
                (λ too on. true≢false
                (sym (both_cover l.piece d.live.piece key x covers
                (span_covers b.version d.live.piece (span_of w.core.volumes d.live.piece) (stands d.number d.live d.at) differ key x p
                sector on))
                ∙ undeferred_apart w.core h.apart number d.number l d.live at d.at
                (λ same. true≢false (sym waits
                ∙ ap (λ (y : LivePiece). is_waiting_stage y.stage)
                (same_Some l d.live (sym at ∙ ap (λ (n : ℕ). live_at w.core.pieces.lives n) same ∙ d.at)) ∙ d.stage))
                free (submitted_free w.core h.apart d.number d.live d.at d.stage) (or_left l.piece.write d.live.piece.write write)))

        completed : OnlyLeavesOrCompleted told p.disk p.sector (λ v. v ≡ value_in (live_of w.core tag number l) x)
        completed =
            alone_completed told w.shelf.in_flight p.disk p.sector (λ v. v ≡ value_in l0 x)
            (subst (λ (y : Option Record). IfSome y (λ (r : Record). w.shelf.in_flight ≡ in_flight_after r.steps)) is
            o.backed.lawful.in_flight)
            (All-weaker (λ (f : Operation). in_flight_at w.shelf.in_flight f.tag ≡ Some f.work)
            (λ (f : Operation). writes f.work p.disk p.sector ≡ false) (λ f flying. none_writes f.tag f.work flying) w.shelf.in_flight
            (each_tagged w.shelf.in_flight o.backed.lawful.order))

        -- the legs there are its own
        its_legs : (m : Live) (leg : Leg)
            → IsWriting (lives_in w.core (w.core.pieces.owners ++ (tag, record { piece = number; primary = true }) ∷ [])) key x p m leg
            → ((leg.state ≡ Flying tag) × (value_in m x ≡ value_in (live_of w.core tag number l) x)) ⊎ IsIdle m leg
        its_legs m leg writing =
            ⊎_elim (λ old. absurd (others (writing_in w.core w.core.pieces.owners old))) (λ new. inl (mine new))
            (writing_more w.core w.core.pieces.owners tag own writing)
          where
            others : InFlight w.core w.core.pieces.owners key x p m leg → ⊥
            others f = true≢false (sym covers ∙ none_there w o h.apart f number l at free none_flies)

            mine : InFlight w.core ((tag, record { piece = number; primary = true }) ∷ []) key x p m leg
                → (leg.state ≡ Flying tag) × (value_in m x ≡ value_in (live_of w.core tag number l) x)
            mine f =
                let e : ◌≡◌ {A = ℕ × Owner} (tag, own) (f.tag, f.owner) = only (f.tag, f.owner) f.owned in
                let same : f.live ≡ l =
                same_Some f.live l (sym f.at
                ∙ ap (λ (n : ℕ × Owner). live_at w.core.pieces.lives n.1.piece) (sym e) ∙ at) in (
                  ap (λ (y : Leg). y.state) f.leg_is ∙ ap (λ (n : ℕ × Owner). Flying n.0) (sym e),
                  ap (λ (y : Live). value_in y x) f.l_is ∙ ap (λ (y : LivePiece). value_in (live_of w.core tag number y) x) same,
                )
              where
                only : (e : ℕ × Owner) → Contains ((tag, own) ∷ []) e → ◌≡◌ {A = ℕ × Owner} (tag, own) e
                only e has = ⊎_elim (λ its. its) (λ later. absurd (in_list [] e later)) (either_first e (tag, own) [] has)

        value : value_at (span_of w.core.volumes l.piece) (values_of (line_of w.core l) l.piece) p.sector
            ≡ value_in (live_of w.core tag number l) x
        value =
            let same : p.sector - (span_of w.core.volumes l.piece).first ≡ x - l.piece.first = omega (arith, there.1) in
            ap (λ (k : ℕ). slice_index_or (values_of (line_of w.core l) l.piece) k []) same

        asked_there : Tracked (stepped (scene_of (origin_with b told) w.core es notes) (Submitted tag (piece_work w.core l))
            (lives_in w.core (w.core.pieces.owners ++ (tag, record { piece = number; primary = true }) ∷ [])) w.core.waits.plan) key x p
        asked_there =
            subst (λ (work : DiskWork). Tracked (stepped g (Submitted tag work) (lives_in w.core owners') w.core.waits.plan) key x p)
            (sym (writing_work w.core l write))
            (laws.submitted g key x p (lives_in w.core owners') l0 tag (span_of w.core.volumes l.piece)
            (values_of (line_of w.core l) l.piece) g_told
            (is_live o history number l at (waiting_flies l.stage waits).1 write tag key x covers)
            (in_runs {c = w.core} {owners = owners'} {n = l.line} (record {
              tag = tag;
              owner = own;
              owned = Contains-append_right w.core.pieces.owners ((tag, own) ∷ []) (tag, own) (is_first (tag, own) []);
              live = l;
              at = at;
              line = refl;
              write = write;
              covers = covers;
            }))
            value completed (real_more w.core w.core.pieces.owners tag own es key x) its_legs (t key x p sector))

      asked_at : Tracked (stepped (scene_of (origin_with b told) w.core es notes) (Submitted tag (piece_work w.core l))
          (lives_in w.core (w.core.pieces.owners ++ (tag, record { piece = number; primary = true }) ∷ [])) w.core.waits.plan) key x p
      asked_at = by (l.piece.write && piece_covers l.piece key x) refl
        where
          by : (y : Bool) → (l.piece.write && piece_covers l.piece key x) ≡ y
              → Tracked (stepped g (Submitted tag (piece_work w.core l)) (lives_in w.core owners') w.core.waits.plan) key x p
          by true writes_it =
              let both = and_parts l.piece.write (piece_covers l.piece key x) writes_it in asked_there both.0 both.1
          by false none = asked_elsewhere none

  -- the piece has one operation more, whether it reads or writes
  module _ (number : ℕ) (op : Op) (tag : ℕ) (now : State) (may : Allowed w (Asks number op tag now)) where
    abbrev d : Core
    d = (after w (Asks number op tag now)).core

    abbrev more : List (ℕ × Owner)
    more = w.core.pieces.owners ++ (tag, record { piece = number; primary = true }) ∷ []

    abbrev it : HasPiece w number
    it = (startable w number o may.2).piece

    stage : is_waiting_stage it.live.stage ≡ true
    stage =
        sym (ap (λ (y : Option LivePiece). option_map_or (λ (m : LivePiece). is_waiting_stage m.stage) y false) it.at)
        ∙ start_waits w.core.pieces number may.2

    free : list_any (has_number number) w.core.pieces.claims.deferred ≡ false
    free =
        not_true (list_any (has_number number) w.core.pieces.claims.deferred)
        (and_parts (is_waiting w.core.pieces number) (not (list_any (has_number number) w.core.pieces.claims.deferred)) may.2).1

    does : work_of op ≡ piece_work w.core it.live
    does = may.3 ∙ ap (piece_work w.core) it.is

    first : Changes number (Some it.live) (Some (record it.live { stage = Started 0 None })) w.core.pieces.lives
        (with_stage w.core.pieces number (Started 0 None)).lives
    first = stage_change w.core.pieces number it.live (Started 0 None) o.tidy.pieces.single it.at

    abbrev begun : Pieces
    begun = with_stage w.core.pieces number (Started 0 None)

    change : Changes number (Some it.live)
        (Some (record it.live { stage = with_flying (piece_of_number begun number).stage (λ n. n + 1) })) w.core.pieces.lives d.pieces.lives
    change =
        changes_both first
        (stage_change begun number (record it.live { stage = Started 0 None })
        (with_flying (piece_of_number begun number).stage (λ n. n + 1)) first.single (own_at first))

    same : lives_in d d.pieces.owners ≡ lives_in w.core more
    same = lives_same w.core d more refl (seen_changed w.core d more change (λ q owner owned e. refl)) (lines_same w.core d more refl)

    pub asks_tracked : AreTracked b (step_on (Submitted tag (work_of op)) told) (after w (Asks number op tag now)).core es notes
    asks_tracked key x p at =
        subst (λ (lives : List Live). Tracked (stepped g (Submitted tag (work_of op)) lives w.core.waits.plan) key x p) (sym same)
        (subst (λ (work : DiskWork). Tracked (stepped g (Submitted tag work) (lives_in w.core more) w.core.waits.plan) key x p) (sym does)
        (asked_at number it.live it.at stage free tag key x p at))

  -- a flush is submitted
  pub asks_flush_tracked : (pv tag : ℕ) (now : State)
      → AreTracked b (step_on (Submitted tag (Flushing pv)) told) (after w (AsksFlush pv tag now)).core es notes
  asks_flush_tracked pv tag now =
      let d : Core = (after w (AsksFlush pv tag now)).core in
      tracked_planned b (step_on (Submitted tag (Flushing pv)) told) w.core d es notes d.waits.plan
      (lives_kept w.core d refl refl (λ tag owner owned. refl) (λ tag owner m owned there. refl)) refl
      (λ key x p at. laws.flushes g key x p tag pv g_told (t key x p at))
