-- A write that takes place is noted: of a line that is through its piece waits until it lasts.
use Rattle.std.proofs.Common.{◌≡◌, ◌≤◌, ◌<◌, ℕ, zero, suc, ◌+◌, ◌*◌, Bool, true, false, cond, List, [], ◌∷◌, ◌++◌, length, map, nat_lt}
use Rattle.std.proofs.Common.{Contains, All, Option, None, Some, inr, is_some, refl, sym, ap, subst, ◌∙◌, arith, true≢false}
use Rattle.std.specs.Option.{option_map_or}
use Rattle.std.proofs.lemmas.Bool.{cond_both}
use Rattle.std.proofs.lemmas.List.{get_or-set_same, length-map}
use Rattle.std.proofs.lemmas.List.Elements.{Contains-append_left, Contains-append_right, Contains-push}
use Rattle.line_table.specs.Steps.{is_open}
use Rattle.meta_model.specs.declared.group.Group.{Group}
use Rattle.seg_place.specs.Sectors.{sectors_of}
use Rattle.flush_plan.specs.declared.records.Marks.{Marks}
use Rattle.flush_plan.specs.Plans.{IsWithin, flight_of, marks_of, no_marks}
use Rattle.flush_waits.specs.declared.ticket.Waiter.TheVariants as waiter
use Rattle.flush_waits.specs.declared.ticket.Waiting.{Waiting}
use Rattle.flush_waits.specs.declared.waits.Awaited.{Awaited}
use Rattle.flush_waits.specs.declared.waits.Awaited.TheVariants.{Served, Unserved}
use Rattle.flush_waits.specs.Steps.{after_wrote, with_waiting}
use Rattle.flush_waits.specs.Waits.{DiskWaits, awaited, dirty_at, disk_waits, none_waits, serves}
use Rattle.piece_table.specs.declared.live.LivePiece.{LivePiece}
use Rattle.piece_table.specs.declared.live.Stage.TheVariants.{Taken}
use Rattle.piece_table.specs.Steps.{live_of, without_ticket}
use Rattle.world_places.specs.Lives.{Written}
use Rattle.world_acts.specs.declared.open_line.OpenLine.{OpenLine}
use Rattle.world_acts.specs.declared.state.Core.{Core}
use Rattle.world_acts.specs.declared.volumes.Volumes.{Volumes}
use Rattle.world_acts.specs.Acts.{Allowed, World, Writes, after}
use Rattle.world_acts.specs.OpenLines.{open_at}
use Rattle.world_acts.specs.Orderly.{IsOrderly}
use Rattle.world_acts.specs.Steps.{after_leaves, after_stays, after_written}
use Rattle.world_acts.specs.Volumes.{IsPlaced, has_sector, lv_of}
use Rattle.world_acts.proofs.Awaiting.{unended}
use Rattle.world_acts.proofs.LinesKept.{open_within}
use Rattle.world_acts.proofs.PlanKept.{marks_reach, reached_wrote}
use Rattle.world_acts.proofs.Tables.{at_number, changes_both, own_at, removed, some_of}
use Rattle.world_tracks.specs.Notes.{AreWaited, IsNoted, OthersLast, OwnLasts, flushes_at, through_at}
use Rattle.world_tracks.proofs.ActWaits.{HasFree, stage_change, started, ticket_change}
use Rattle.world_tracks.proofs.QuietWaits.{Carries, carries_piece, through_same, waited_carried, were_finished, were_itself}
use Rattle.world_tracks.proofs.WaitSteps.{WaitsGo, goes_both, goes_forgot, goes_noted, goes_wait, goes_wrote, waiters}

-- the note of a write: its piece's line, the place that it gets, and how many lines were begun
abbrev pub note_of : World → ℕ → ℕ → ℕ → Written
note_of w number pv first = record {
  line = (live_of w.core.pieces number).line;
  number = number;
  piece = (live_of w.core.pieces number).piece;
  pv = pv;
  first = first;
  place = w.core.waits.plan.held + 1;
  begun = length w.core.lines.begun;
  primary = true;
}

-- what holds of a new item and of the others
pub with_note : (P : Written → Type 0) (notes : List Written) (note : Written) → P note → ((w : Written) → Contains notes w → P w)
    → (w : Written) → Contains (note ∷ notes) w → P w
with_note P notes note here later w (zero, lt, at) = subst P at here
with_note P notes note here later w (suc k, lt, at) = later w (k, omega (arith, lt), at)

-- one note more
waited_more : {d : Core} {but : ℕ → Bool} {notes : List Written} (note : Written) → AreWaited d but notes → IsNoted d note
    → ((opened : OpenLine) → through_at d note.line ≡ true → OwnLasts d note opened)
    → ((n : ℕ) (opened : OpenLine) → open_at d.opens n ≡ Some opened → n < note.begun)
    → AreWaited d but (note ∷ notes)
waited_more {d} {but} {notes} note a is own below = record {
  tickets = a.tickets;
  noted = with_note (λ w. IsNoted d w) notes note is a.noted;
  own =
      with_note (λ w. (opened : OpenLine) → open_at d.opens w.line ≡ Some opened → through_at d w.line ≡ true → OwnLasts d w opened)
      notes note (λ opened at through. own opened through) a.own;
  others =
      with_note (λ w. (n : ℕ) (opened : OpenLine) → but n ≡ false → open_at d.opens n ≡ Some opened → flushes_at d n ≡ true
      → w.piece.volume ≡ opened.key → w.begun ≤ n → OthersLast d n w opened) notes note
      (λ n opened free at flushes volume begun. let lt : n < note.begun = below n opened at in absurd (omega (arith, begun, lt)))
      a.others;
}

-- an open line was begun
pub open_begun : (w : World) (n : ℕ) (opened : OpenLine) → IsOrderly w → open_at w.core.opens n ≡ Some opened
    → n < length w.core.lines.begun
open_begun w n opened o at =
    let c : Core = w.core in
    let lt : n < length c.opens.list = open_within c.opens n opened at in
    let here : length (map is_some c.opens.list) ≡ length c.opens.list = length-map c.opens.list is_some in
    let there : length (map is_open c.lines.answers) ≡ length c.lines.answers = length-map c.lines.answers is_open in
    let same : length (map is_some c.opens.list) ≡ length (map is_open c.lines.answers) =
    ap (λ (l : List Bool). length l) o.tidy.lines.opened in
    omega (arith, lt, here, there, same, o.tidy.lines.many)

-- a volume that has sectors is there
has_lv : (volumes : Volumes) (key x : ℕ) → has_sector volumes key x ≡ true → is_some (lv_of volumes key) ≡ true
has_lv volumes key x is = by volumes.group is
  where
    of : (group : Group) (lv : Option ℕ) → option_map_or (λ (n : ℕ). nat_lt x (sectors_of group n)) lv false ≡ true → is_some lv ≡ true
    of group None is = absurd (true≢false (sym is))
    of group (Some n) is = refl

    by : (g : Option Group)
        → option_map_or (λ (group : Group). option_map_or (λ (n : ℕ). nat_lt x (sectors_of group n)) (lv_of volumes key) false) g false
        ≡ true
        → is_some (lv_of volumes key) ≡ true
    by None is = absurd (true≢false (sym is))
    by (Some group) is = of group (lv_of volumes key) is

-- one that waits where a flush serves it, or where none does yet
waits_there : (d : DiskWaits) (it : Waiting) (b : Bool) → Contains (waiters (with_waiting d it (cond b Served Unserved))) it
waits_there d it true = Contains-append_left (d.served ++ it ∷ []) d.next it (Contains-push d.served it)
waits_there d it false = Contains-append_right d.served (d.next ++ it ∷ []) it (Contains-push d.next it)

-- what the write makes of the places
module _ (w : World) (number pv : ℕ) (o : IsOrderly w) (may : Allowed w (Writes number pv)) where
  abbrev pub its_core : Core
  its_core = after_written w.core number pv w.shelf.steps

  abbrev pub its_place : ℕ
  its_place = (marks_of its_core.waits.plan pv).written

  abbrev pub its_marks : Marks
  its_marks = record (marks_of w.core.waits.plan pv) { written = w.core.waits.plan.held + 1 }

  -- the disk is one
  pub within : pv < length w.core.waits.disks
  within = let disk = may.2 in omega (arith, disk, o.backed.places.many)

  -- its marks, and the place, are those of the write
  pub marked : marks_of its_core.waits.plan pv ≡ its_marks
  marked =
      get_or-set_same w.core.waits.plan.marks pv its_marks no_marks
      (let lt = within in omega (arith, lt, o.tidy.flushes.marks))

  pub placed : its_place ≡ w.core.waits.plan.held + 1
  placed = ap (λ (m : Marks). m.written) marked

  -- the volume's place on the disk is that of the write
  dirtied : its_place ≡ dirty_at its_core.waits (live_of w.core.pieces number).piece.volume pv
  dirtied =
      let c : Core = w.core in
      let x : HasFree w number = started w number o may.0 in
      let is : IsPlaced c.volumes w.shelf.sizes x.piece.live.piece =
      at_number (λ (e : ℕ × LivePiece). IsPlaced c.volumes w.shelf.sizes e.1.piece) c.pieces.lives number x.piece.live
      o.backed.places.placed x.piece.at in
      let lv = some_of (lv_of c.volumes x.piece.live.piece.volume)
      (has_lv c.volumes x.piece.live.piece.volume x.piece.live.piece.first is.1.inside) in
      let n : ℕ = length c.waits.disks in
      let key : x.piece.live.piece.volume * n ≡ (live_of c.pieces number).piece.volume * n =
      ap (λ (l : LivePiece). l.piece.volume * n) (sym x.piece.is) in
      let room : x.piece.live.piece.volume * n + n ≤ length c.waits.dirty =
      o.tidy.flushes.dirty x.piece.live.piece.volume lv.0 lv.1 in
      let lt = within in
      sym (get_or-set_same c.waits.dirty ((live_of c.pieces number).piece.volume * n + pv) its_place 0
      (omega (arith, key, room, lt)))

  -- what waited does so still
  went : WaitsGo w.core.waits its_core.waits
  went =
      goes_both (goes_wrote w.core.waits number pv)
      (goes_noted (after_wrote w.core.waits number pv) (live_of w.core.pieces number).piece.volume pv its_place
      (let place = placed in omega (arith, place)))

  -- the note is one
  noted : {d : Core} (first : ℕ) → d.lines.begun ≡ w.core.lines.begun → WaitsGo its_core.waits d.waits
      → IsNoted d (note_of w number pv first)
  noted {d} first begun go =
      let x : HasFree w number = started w number o may.0 in
      let many : length d.lines.begun ≡ length w.core.lines.begun = ap length begun in
      let place = placed in
      let dirty = dirtied in
      let lt : (live_of w.core.pieces number).line < length w.core.lines.begun =
      open_begun w (live_of w.core.pieces number).line x.piece.opened o x.piece.is_open in
      record {
        held = go.rises.held;
        last = go.rises.last (note_of w number pv first) (omega arith) (omega (arith, place, dirty));
        begun = omega (arith, many);
        line = omega (arith, lt, many);
      }

  module _ (but : ℕ → Bool) (notes : List Written) (a : AreWaited w.core but notes) (first : ℕ) where
    -- the piece stays, and waits
    stays : AreWaited (after_stays its_core number pv its_place) but (note_of w number pv first ∷ notes)
    stays =
        let c : Core = w.core in
        let d : Core = after_stays its_core number pv its_place in
        let x : HasFree w number = started w number o may.0 in
        let it : Waiting = record { waiter = waiter.Piece number; place = its_place } in
        let y : DiskWaits = disk_waits its_core.waits pv in
        let one = ticket_change c.pieces number x.piece.live o.tidy.pieces.single x.piece.at in
        let two =
        stage_change (without_ticket c.pieces number) number (record x.piece.live { ticket = None }) (Taken 1) one.single (own_at one) in
        let change = changes_both one two in
        let go : WaitsGo its_core.waits d.waits = goes_wait its_core.waits it pv in
        let k : Carries c d =
        carries_piece o.tidy refl (goes_both went go) (were_itself c.opens) change x.free (λ taken. absurd (true≢false taken)) in
        let reached : All (IsWithin its_core.waits.plan.held) its_core.waits.plan.marks =
        reached_wrote c.waits.plan number pv o.tidy.flushes.reached in
        let m : IsWithin c.waits.plan.held (marks_of c.waits.plan pv) = marks_reach c.waits.plan o.tidy.flushes.reached pv in
        let ended : (marks_of its_core.waits.plan pv).ended ≡ (marks_of c.waits.plan pv).ended = ap (λ (z : Marks). z.ended) marked in
        let place = placed in
        let awaits : awaited its_core.waits pv its_place ≡ cond (serves (flight_of its_core.waits.plan pv) its_place) Served Unserved =
        unended its_core.waits pv its_place reached (omega (arith, ended, m.2, place)) in
        let there : Contains (waiters (disk_waits d.waits pv)) it =
        subst (λ (z : DiskWaits). Contains (waiters z) it)
        (ap (λ (z : Awaited). with_waiting y it z) (sym awaits)
        ∙ sym (get_or-set_same its_core.waits.disks pv (with_waiting y it (awaited its_core.waits pv its_place)) none_waits within))
        (waits_there y it (serves (flight_of its_core.waits.plan pv) its_place)) in
        waited_more (note_of w number pv first) (waited_carried k a) (noted first refl go)
        (λ opened through. inr (inr (record {
          number = number;
          live = record x.piece.live { ticket = None; stage = Taken 1 };
          at = own_at change;
          line = ap (λ (l : LivePiece). l.line) (sym x.piece.is);
          who = it;
          its = refl;
          waits = record { there = there; late = omega (arith, place) };
        })))
        (λ n opened at. open_begun w n (k.lines n opened at).opened o (k.lines n opened at).is_open)

    -- of a line that isn't through it leaves
    leaves : is_some (live_of w.core.pieces number).ticket ≡ false
        → AreWaited (after_leaves its_core number pv) but (note_of w number pv first ∷ notes)
    leaves none =
        let c : Core = w.core in
        let d : Core = after_leaves its_core number pv in
        let x : HasFree w number = started w number o may.0 in
        let go : WaitsGo its_core.waits d.waits = goes_forgot its_core.waits number pv in
        let k : Carries c d =
        carries_piece o.tidy refl (goes_both went go)
        (were_finished c.opens (live_of c.pieces number).line x.piece.opened x.piece.is_open)
        (removed c.pieces.lives number x.piece.live o.tidy.pieces.single x.piece.at) x.free tt in
        let have : is_some x.piece.live.ticket ≡ through_at c x.piece.live.line =
        a.tickets number x.piece.live x.piece.at x.free in
        let not_through : through_at d (live_of c.pieces number).line ≡ false =
        through_same c d refl (live_of c.pieces number).line
        ∙ ap (λ (l : LivePiece). through_at c l.line) x.piece.is ∙ sym have
        ∙ ap (λ (l : LivePiece). is_some l.ticket) (sym x.piece.is) ∙ none in
        waited_more (note_of w number pv first) (waited_carried k a) (noted first refl go)
        (λ opened through. absurd (true≢false (sym through ∙ not_through)))
        (λ n opened at. open_begun w n (k.lines n opened at).opened o (k.lines n opened at).is_open)

    -- in both cases the notes are waited for
    pub waited_writes : AreWaited (after w (Writes number pv)).core but (note_of w number pv first ∷ notes)
    waited_writes =
        cond_both (is_some (live_of w.core.pieces number).ticket) (after_stays its_core number pv its_place)
        (after_leaves its_core number pv) (λ (d : Core). AreWaited d but (note_of w number pv first ∷ notes)) (λ is. stays) leaves
