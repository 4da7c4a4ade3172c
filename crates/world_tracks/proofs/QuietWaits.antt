-- What notes wait for goes over from one core to a later one.
use Rattle.std.proofs.Common.{◌≡◌, ◌≤◌, ◌<◌, ℕ, ◌+◌, Bool, true, false, cond, nat_eq, List, length, get_or, Contains, Option}
use Rattle.std.proofs.Common.{None, Some, IfSome, count_by, inl, inr, ⊎_elim, is_some, slice_get, refl, sym, ap, subst, ◌∙◌, arith}
use Rattle.std.proofs.Common.{true≢false, ◌-◌}
use Rattle.std.specs.Option.{option_map_or}
use Rattle.std.proofs.lemmas.Bool.{cases_lt, cond_both, eq-eqb, eqb-true}
use Rattle.std.proofs.lemmas.List.{get_or_past}
use Rattle.std.proofs.lemmas.List.Elements.{Contains-append_cases}
use Rattle.std.proofs.lemmas.List.Sums.{get_or-le-sum_by}
use Rattle.std.proofs.lemmas.Option.{none-some, same_Some}
use Rattle.line_answers.specs.declared.answer.Answer.{Answer}
use Rattle.lvm_script.specs.declared.line.Line.{Line}
use Rattle.data_lines.specs.DataLines.{is_flush, is_through}
use Rattle.flush_waits.specs.declared.ticket.Waiter.{Waiter}
use Rattle.flush_waits.specs.declared.ticket.Waiter.TheVariants as waiter
use Rattle.flush_waits.specs.declared.ticket.Waiting.{Waiting}
use Rattle.flush_waits.specs.Waits.{DiskWaits, none_waits}
use Rattle.piece_table.specs.declared.live.LivePiece.{LivePiece}
use Rattle.piece_table.specs.declared.live.Stage.{Stage}
use Rattle.piece_table.specs.declared.live.Stage.TheVariants.{Started, Taken, Waiting as Unsubmitted}
use Rattle.piece_table.specs.Pieces.{live_at}
use Rattle.world_places.specs.Lives.{Written}
use Rattle.world_acts.specs.declared.open_line.OpenLine.{OpenLine}
use Rattle.world_acts.specs.declared.state.Core.{Core}
use Rattle.world_acts.specs.Counts.{awaited_at, awaited_of, is_line, is_piece, is_taken, waiting}
use Rattle.world_acts.specs.OpenLines.{Opens, after_added, after_closed, after_failure, after_filled, after_finished, filled}
use Rattle.world_acts.specs.OpenLines.{is_pv_failed, open_at}
use Rattle.world_acts.specs.OpenLines.{open_of, with_open}
use Rattle.world_acts.specs.Orderly.{IsTidy}
use Rattle.world_acts.proofs.LinesKept.{hit, open_is}
use Rattle.world_acts.proofs.Tables.{Changes, other_at}
use Rattle.world_acts.proofs.WaitsKept.{waiting_on}
use Rattle.world_tracks.specs.Notes.{AreWaited, IsNoted, LineWaits, OthersLast, OwnLasts, PieceWaits, flushes_at, through_at}
use Rattle.world_tracks.proofs.WaitSteps.{WaitsGo, WaitsRise, set_keeps, waiters}

-- ---- open lines

-- the line was open, of the same volume, and where it had failed it has
pub record WasOpen (old : Opens) (n : ℕ) (p : OpenLine) : Type 0 where
  pub opened : OpenLine
  pub is_open : open_at old n ≡ Some opened
  pub key : p.key ≡ opened.key
  pub failed : is_some opened.failure ≡ true → is_some p.failure ≡ true

-- and so each line that is open now
abbrev pub LinesWere : Opens → Opens → Type 0
LinesWere old new = (n : ℕ) (p : OpenLine) → open_at new n ≡ Some p → WasOpen old n p

-- the same lines
pub were_itself : (opens : Opens) → LinesWere opens opens
were_itself opens n p at = record { opened = p; is_open = at; key = refl; failed = λ f. f }

-- two steps
pub were_both : (old mid new : Opens) → LinesWere old mid → LinesWere mid new → LinesWere old new
were_both old mid new a b n p at =
    let y : WasOpen mid n p = b n p at in
    let x : WasOpen old n y.opened = a n y.opened y.is_open in
    record { opened = x.opened; is_open = x.is_open; key = y.key ∙ x.key; failed = λ f. y.failed (x.failed f) }

-- an open line is another now, of the same volume
were_set : (opens : Opens) (line : ℕ) (o p : OpenLine) → open_at opens line ≡ Some o → p.key ≡ (open_of opens line).key
    → (is_some (open_of opens line).failure ≡ true → is_some p.failure ≡ true) → LinesWere opens (with_open opens line p)
were_set opens line o p at key failed n q is =
    let same : open_of opens line ≡ o = open_is opens line o at in
    set_keeps (λ (x : Option OpenLine). (r : OpenLine) → x ≡ Some r → WasOpen opens n r) opens.list line n (Some p) None
    (were_itself opens n)
    (λ e r is. subst (λ (x : OpenLine). WasOpen opens n x) (same_Some p r is)
    (subst (λ (k : ℕ). WasOpen opens k p) e
    (record {
      opened = o;
      is_open = at;
      key = key ∙ ap (λ (x : OpenLine). x.key) same;
      failed = λ f. failed (ap (λ (x : OpenLine). is_some x.failure) same ∙ f);
    }))) q is

-- one more is left of it, or one less
pub were_added : (opens : Opens) (line : ℕ) (o : OpenLine) → open_at opens line ≡ Some o → LinesWere opens (after_added opens line)
were_added opens line o at =
    were_set opens line o (record (open_of opens line) { left = (open_of opens line).left + 1 }) at refl (λ f. f)

pub were_finished : (opens : Opens) (line : ℕ) (o : OpenLine) → open_at opens line ≡ Some o → LinesWere opens (after_finished opens line)
were_finished opens line o at =
    were_set opens line o (record (open_of opens line) { left = (open_of opens line).left - 1 }) at refl (λ f. f)

-- it has read
pub were_filled : (opens : Opens) (line first : ℕ) (sectors : List (List ℕ)) (o : OpenLine) → open_at opens line ≡ Some o
    → LinesWere opens (after_filled opens line first sectors)
were_filled opens line first sectors o at =
    were_set opens line o (record (open_of opens line) { work = filled (open_of opens line).work first sectors }) at refl (λ f. f)

-- it has failed
pub were_failed : (opens : Opens) (line : ℕ) (why : Answer) (o : OpenLine) → open_at opens line ≡ Some o
    → LinesWere opens (after_failure opens line why)
were_failed opens line why o at =
    let p : OpenLine = record (open_of opens line) { failure = Some why } in
    cond_both (is_pv_failed (open_of opens line).failure) opens (with_open opens line p) (λ (x : Opens). LinesWere opens x)
    (λ is. were_itself opens) (λ is. were_set opens line o p at refl (λ f. refl))

-- it is answered
pub were_closed : (opens : Opens) (line : ℕ) → LinesWere opens (after_closed opens line)
were_closed opens line n q is =
    set_keeps (λ (x : Option OpenLine). (r : OpenLine) → x ≡ Some r → WasOpen opens n r) opens.list line n None None
    (were_itself opens n) (λ e r is. absurd (none-some r is)) q is

-- ---- counts

-- what is there and passes the test is counted
there_counted : (test : Waiting → Bool) (xs : List Waiting) (x : Waiting) → Contains xs x → test x ≡ true → 0 < count_by test xs
there_counted test xs x (k, lt, at) passes =
    let most : hit (test (get_or xs k x)) ≤ count_by test xs = get_or-le-sum_by (λ (y : Waiting). hit (test y)) xs k x lt in
    let one : ◌≡◌ {A = ℕ} (hit (test (get_or xs k x))) 1 = ap (λ (y : Waiting). hit (test y)) at ∙ ap hit passes in
    omega (arith, most, one)

-- and so is what waits on a disk
pub waits_counted : (disks : List DiskWaits) (pv : ℕ) (who : Waiting) (test : Waiting → Bool)
    → Contains (waiters (get_or disks pv none_waits)) who → test who ≡ true → 0 < waiting test disks
waits_counted disks pv who test there passes =
    let d : DiskWaits = get_or disks pv none_waits in
    let some : 0 < waiting_on test d =
    ⊎_elim
    (λ (h : Contains d.served who). let one : 0 < count_by test d.served = there_counted test d.served who h passes in omega (arith, one))
    (λ (h : Contains d.next who). let one : 0 < count_by test d.next = there_counted test d.next who h passes in omega (arith, one))
    (Contains-append_cases d.served d.next who there) in
    ⊎_elim
    (λ (lt : pv < length disks). let most : waiting_on test d ≤ waiting test disks =
    get_or-le-sum_by (waiting_on test) disks pv none_waits lt in omega (arith, most, some))
    (λ (ge : length disks ≤ pv). let none : waiting_on test d ≡ 0 = ap (waiting_on test) (get_or_past disks pv none_waits ge) in
    absurd (omega (arith, some, none)))
    (cases_lt pv (length disks))

-- whom it is of
pub of_piece : (who : Waiting) (number : ℕ) → who.waiter ≡ waiter.Piece number → is_piece number who ≡ true
of_piece who number its = ap (λ (x : Waiter). is_piece number (record who { waiter = x })) its ∙ eq-eqb number number refl

pub of_line : (who : Waiting) (line : ℕ) → who.waiter ≡ waiter.Line line → is_line line who ≡ true
of_line who line its = ap (λ (x : Waiter). is_line line (record who { waiter = x })) its ∙ eq-eqb line line refl

-- a piece that waits awaits a flush
pub piece_awaits : (c : Core) (w : Written) → IsTidy c → (is : PieceWaits c w) → 0 < awaited_at c.pieces.lives is.number
piece_awaits c w t is =
    let some : 0 < waiting (is_piece is.number) c.waits.disks =
    waits_counted c.waits.disks w.pv is.who (is_piece is.number) is.waits.there (of_piece is.who is.number is.its) in
    omega (arith, some, t.counts.awaited is.number)

-- ---- pieces

-- a piece that hasn't taken place has a ticket exactly where its line is through
abbrev pub HaveTickets : Core → Type 0
HaveTickets c =
    (number : ℕ) (l : LivePiece) → live_at c.pieces.lives number ≡ Some l → is_taken l.stage ≡ false
    → is_some l.ticket ≡ through_at c l.line

-- a piece that awaits a flush stays
abbrev pub AwaitingStay : Core → Core → Type 0
AwaitingStay c d =
    (q : ℕ) (l : LivePiece) → live_at c.pieces.lives q ≡ Some l → 0 < awaited_at c.pieces.lives q
    → (m : LivePiece) × (live_at d.pieces.lives q ≡ Some m) × (m.line ≡ l.line)

-- what was begun tells of lines
pub through_same : (c d : Core) → d.lines.begun ≡ c.lines.begun → (n : ℕ) → through_at d n ≡ through_at c n
through_same c d begun n =
    ap (λ (l : List Line). option_map_or (λ (x : Line). is_through x.command) (slice_get l n) false) begun

pub flushes_same : (c d : Core) → d.lines.begun ≡ c.lines.begun → (n : ℕ) → flushes_at d n ≡ flushes_at c n
flushes_same c d begun n =
    ap (λ (l : List Line). option_map_or (λ (x : Line). is_flush x.command) (slice_get l n) false) begun

-- where the pieces are the same
pub tickets_same : (c d : Core) → d.lines.begun ≡ c.lines.begun → d.pieces.lives ≡ c.pieces.lives → HaveTickets c → HaveTickets d
tickets_same c d begun lives have q l at free =
    have q l (ap (λ (x : List (ℕ × LivePiece)). live_at x q) (sym lives) ∙ at) free ∙ sym (through_same c d begun l.line)

pub awaiting_same : (c d : Core) → d.pieces.lives ≡ c.pieces.lives → AwaitingStay c d
awaiting_same c d lives q l at some = (l, ap (λ (x : List (ℕ × LivePiece)). live_at x q) lives ∙ at, refl)

-- where one changes
pub tickets_changed : {number : ℕ} {was is : Option LivePiece} (c d : Core) → d.lines.begun ≡ c.lines.begun
    → Changes number was is c.pieces.lives d.pieces.lives
    → (HaveTickets c → IfSome is (λ l. is_taken l.stage ≡ false → is_some l.ticket ≡ through_at c l.line))
    → HaveTickets c → HaveTickets d
tickets_changed {number} {was} {is} c d begun change own have q l at free =
    by (nat_eq number q) refl (change.found q) ∙ sym (through_same c d begun l.line)
  where
    here : (x : Option LivePiece) → IfSome x (λ l. is_taken l.stage ≡ false → is_some l.ticket ≡ through_at c l.line) → x ≡ Some l
        → is_some l.ticket ≡ through_at c l.line
    here None its same = absurd (none-some l same)
    here (Some m) its same =
        subst (λ (y : LivePiece). is_taken y.stage ≡ false → is_some y.ticket ≡ through_at c y.line) (same_Some m l same) its free

    by : (b : Bool) → nat_eq number q ≡ b → live_at d.pieces.lives q ≡ cond b is (live_at c.pieces.lives q)
        → is_some l.ticket ≡ through_at c l.line
    by true t found = here is (own have) (sym found ∙ at)
    by false t found = have q l (sym found ∙ at) free

-- one that awaits nothing may leave
pub awaiting_changed : {number : ℕ} {was is : Option LivePiece} (c d : Core) → Changes number was is c.pieces.lives d.pieces.lives
    → awaited_at c.pieces.lives number ≡ 0 → AwaitingStay c d
awaiting_changed {number} {was} {is} c d change none q l at some =
    elim (nat_eq number q) as (λ b. nat_eq number q ≡ b → (m : LivePiece) × (live_at d.pieces.lives q ≡ Some m) × (m.line ≡ l.line)) [
      | true ↦ λ t.
          let its : awaited_at c.pieces.lives q ≡ 0 =
          subst (λ (n : ℕ). awaited_at c.pieces.lives n ≡ 0) (eqb-true number q t) none in absurd (omega (arith, some, its))
      | false ↦ λ t. (l, other_at change q t ∙ at, refl)
    ] refl

-- a piece that hasn't taken place awaits nothing
pub awaits_none : (lives : List (ℕ × LivePiece)) (number : ℕ) (l : LivePiece) → live_at lives number ≡ Some l → is_taken l.stage ≡ false
    → awaited_at lives number ≡ 0
awaits_none lives number l at free =
    ap (λ (x : Option LivePiece). option_map_or (λ (y : LivePiece). awaited_of y.stage) x 0) at ∙ none l.stage free
  where
    none : (stage : Stage) → is_taken stage ≡ false → awaited_of stage ≡ 0
    none (Unsubmitted sectors) is = refl
    none (Started flying lost) is = refl
    none (Taken awaited) is = absurd (true≢false is)

-- ---- all of it

-- what a later core has of an earlier one
pub record Carries (c d : Core) : Type 0 where
  pub begun : d.lines.begun ≡ c.lines.begun
  pub rises : WaitsRise c.waits d.waits
  pub lines : LinesWere c.opens d.opens
  pub tickets : HaveTickets c → HaveTickets d
  pub own : (w : Written) (p : OpenLine) → open_at d.opens w.line ≡ Some p → PieceWaits c w → OwnLasts d w p
  pub others : (n : ℕ) (w : Written) (p : OpenLine) → open_at d.opens n ≡ Some p → LineWaits c n w → OthersLast d n w p

-- then the notes are waited for
pub waited_carried : {c d : Core} {but : ℕ → Bool} {notes : List Written} → Carries c d → AreWaited c but notes → AreWaited d but notes
waited_carried {c} {d} {but} {notes} k a = record {
  tickets = k.tickets a.tickets;
  noted =
      λ w has. let n : IsNoted c w = a.noted w has in
      let many : length d.lines.begun ≡ length c.lines.begun = ap (λ (l : List Line). length l) k.begun in
      record {
        held = omega (arith, n.held, k.rises.held);
        last = k.rises.last w n.held n.last;
        begun = omega (arith, n.begun, many);
        line = omega (arith, n.line, many);
      };
  own =
      λ w has p at through. let was : WasOpen c.opens w.line p = k.lines w.line p at in
      ⊎_elim (λ lasts. inl (k.rises.lasts w lasts))
      (⊎_elim (λ failed. inr (inl (was.failed failed))) (λ waits. k.own w p at waits))
      (a.own w has was.opened was.is_open (sym (through_same c d k.begun w.line) ∙ through));
  others =
      λ w has n p free at flushes volume begun. let was : WasOpen c.opens n p = k.lines n p at in
      ⊎_elim (λ lasts. inl (k.rises.lasts w lasts))
      (⊎_elim (λ failed. inr (inl (was.failed failed))) (λ waits. k.others n w p at waits))
      (a.others w has n was.opened free was.is_open (sym (flushes_same c d k.begun n) ∙ flushes) (volume ∙ was.key) begun);
}

-- where all that waits does so still
pub carries_quiet : {c d : Core} → IsTidy c → d.lines.begun ≡ c.lines.begun → WaitsGo c.waits d.waits → LinesWere c.opens d.opens
    → (HaveTickets c → HaveTickets d) → AwaitingStay c d → Carries c d
carries_quiet {c} {d} t begun go lines tickets stay = record {
  begun = begun;
  rises = go.rises;
  lines = lines;
  tickets = tickets;
  own =
      λ w p at is. let m = stay is.number is.live is.at (piece_awaits c w t is) in
      inr (inr (record {
        number = is.number;
        live = m.0;
        at = m.1;
        line = m.2 ∙ is.line;
        who = is.who;
        its = is.its;
        waits = go.waits w is.who is.waits;
      }));
  others = λ n w p at is. inr (inr (record { who = is.who; its = is.its; waits = go.waits w is.who is.waits }));
}

-- and the pieces are the same
pub carries_lines : {c d : Core} → IsTidy c → d.lines.begun ≡ c.lines.begun → WaitsGo c.waits d.waits → LinesWere c.opens d.opens
    → d.pieces.lives ≡ c.pieces.lives → Carries c d
carries_lines {c} {d} t begun go lines lives =
    carries_quiet t begun go lines (tickets_same c d begun lives) (awaiting_same c d lives)

-- or one changes, which hasn't taken place
pub carries_piece : {number : ℕ} {l : LivePiece} {is : Option LivePiece} {c d : Core} → IsTidy c → d.lines.begun ≡ c.lines.begun
    → WaitsGo c.waits d.waits → LinesWere c.opens d.opens → Changes number (Some l) is c.pieces.lives d.pieces.lives
    → is_taken l.stage ≡ false
    → IfSome is (λ m. is_taken m.stage ≡ false → (is_some m.ticket ≡ is_some l.ticket) × (m.line ≡ l.line)) → Carries c d
carries_piece {number} {l} {is} {c} {d} t begun go lines change free same =
    carries_quiet t begun go lines (tickets_changed c d begun change (λ have. own have is same))
    (awaiting_changed c d change (awaits_none c.pieces.lives number l change.was free))
  where
    own : HaveTickets c → (x : Option LivePiece)
        → IfSome x (λ m. is_taken m.stage ≡ false → (is_some m.ticket ≡ is_some l.ticket) × (m.line ≡ l.line))
        → IfSome x (λ m. is_taken m.stage ≡ false → is_some m.ticket ≡ through_at c m.line)
    own have None same = tt
    own have (Some m) same =
        λ taken. (same taken).0 ∙ have number l change.was free ∙ ap (λ (n : ℕ). through_at c n) (sym (same taken).1)
