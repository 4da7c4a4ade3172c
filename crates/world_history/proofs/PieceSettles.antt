-- A piece of an open line takes place, or fails: that is in order, and the sectors of its line settle.
use Rattle.std.proofs.Common.{◌≡◌, ◌≤◌, ◌<◌, ◌⊎◌, All, ℕ, ◌+◌, Bool, true, false, not, ◌&&◌, ◌||◌, ◌==◌, nat_lt, IsTrue, List, ◌∷◌, length}
use Rattle.std.proofs.Common.{Option, None, Some, inl, inr, is_some, option_map, unwrap_or, refl, sym, ap, subst, ◌∙◌, arith, true≢false}
use Rattle.std.proofs.lemmas.Bool.{eq-eqb}
use Rattle.std.proofs.lemmas.Option.{same_Some}
use Rattle.sector_base.specs.declared.places.Piece.{Piece}
use Rattle.command_table.specs.declared.command.Command.{Command}
use Rattle.command_table.specs.declared.command.Command.TheVariants as command
use Rattle.line_answers.specs.declared.answer.Answer.{Answer}
use Rattle.lvm_script.specs.declared.line.Line.{Line}
use Rattle.list_laws.proofs.Bools.{and_both, lt_true, or_cases}
use Rattle.data_lines.specs.DataLines.{covers_sector, in_range, is_data, is_flush, is_read, is_through, writes}
use Rattle.flush_waits.specs.Waits.{DiskWaits}
use Rattle.piece_table.specs.declared.live.LivePiece.{LivePiece}
use Rattle.piece_table.specs.Pieces.{live_at}
use Rattle.volume_history.specs.Chronicles.{ChronicleEntry, Failed, Took, answer_in, begun_in, count_begun, has_took, is_number, is_open}
use Rattle.volume_history.specs.Chronicles.{moment_of, pending, piece_covers, settled_at, took_at}
use Rattle.volume_history.specs.Legal.{MakesPending, is_in_order, is_new_piece, same}
use Rattle.volume_history.specs.Runs.{journal_of}
use Rattle.world_acts.specs.declared.open_line.OpenLine.{OpenLine}
use Rattle.world_acts.specs.declared.open_line.Work.{Work}
use Rattle.world_acts.specs.declared.open_line.Work.TheVariants.{Read, Whole, Write}
use Rattle.world_acts.specs.Acts.{IsPartOf, World}
use Rattle.world_acts.specs.Counts.{is_line, is_taken, waiting}
use Rattle.world_acts.specs.OpenLines.{is_whole, open_at}
use Rattle.world_acts.specs.Orderly.{IsLive, IsOrderly}
use Rattle.world_acts.specs.Rooms.{one}
use Rattle.world_acts.specs.Volumes.{IsPlaced}
use Rattle.world_acts.proofs.LinesKept.{hit}
use Rattle.world_acts.proofs.Tables.{at_number, removed}
use Rattle.world_history.specs.Told.{IsLineTold, IsLost, IsOfThrough, IsTold, IsWorkOf, LineTold, answer_at, begun_list, is_to_come}
use Rattle.world_history.specs.Told.{to_come}
use Rattle.world_history.proofs.EntryLists.{all_passed, in_range_at, took_settled}
use Rattle.world_history.proofs.OneLine.{LineIs, Standing, elsewhere, here, standing}
use Rattle.world_history.proofs.OpenTold.{open_told}
use Rattle.world_history.proofs.Quiet.{line_still, waits_back, were_open}

-- ---- the entry

-- the entry tells that a piece of a line took place, or failed
pub record TellsPiece (e : ChronicleEntry) (moment n : ℕ) (piece : Piece) (well : Bool) : Type 0 where
  pub moment_is : moment_of e ≡ moment
  pub pending_is : (es : List ChronicleEntry) → pending (e ∷ es) ≡ pending es
  pub count_is : (es : List ChronicleEntry) → count_begun (e ∷ es) ≡ count_begun es
  pub begun_is : (es : List ChronicleEntry) (q : ℕ) → begun_in (e ∷ es) q ≡ begun_in es q
  pub list_is : (es : List ChronicleEntry) → begun_list (e ∷ es) ≡ begun_list es
  pub answer_is : (es : List ChronicleEntry) (q : ℕ) → answer_in (e ∷ es) q ≡ answer_in es q
  pub settled_is :
      (es : List ChronicleEntry) (q key x : ℕ)
      → settled_at (e ∷ es) q key x ≡ (((n == q) && piece_covers piece key x) || settled_at es q key x)
  pub took_is :
      (es : List ChronicleEntry) (q key x : ℕ)
      → took_at (e ∷ es) q key x ≡ ((well && ((n == q) && piece_covers piece key x)) || took_at es q key x)
  pub has_is : (es : List ChronicleEntry) (q : ℕ) → (n == q) ≡ false → has_took (e ∷ es) q ≡ has_took es q
  pub may :
      (es : List ChronicleEntry) (l : Line × Option ℕ) → is_open es n ≡ true → begun_in es n ≡ Some l → is_data l.0.command ≡ true
      → is_new_piece es n l.0 l.1 piece ≡ true
      → IsTrue (is_in_order es e)
  pub makes : (es : List ChronicleEntry) → MakesPending es e

pub tells_took : (moment n : ℕ) (piece : Piece) → TellsPiece (Took moment n piece) moment n piece true
tells_took moment n piece = record {
  moment_is = refl;
  pending_is = λ es. refl;
  count_is = λ es. refl;
  begun_is = λ es q. refl;
  list_is = λ es. refl;
  answer_is = λ es q. refl;
  settled_is = λ es q key x. refl;
  took_is = λ es q key x. refl;
  has_is = λ es q apart. rw (apart) refl;
  may = λ es l opened begun reads new. and_both (is_open es n) _ opened (rw (begun, reads) new);
  makes = λ es. tt;
}

pub tells_failed : (moment n : ℕ) (piece : Piece) → TellsPiece (Failed moment n piece) moment n piece false
tells_failed moment n piece = record {
  moment_is = refl;
  pending_is = λ es. refl;
  count_is = λ es. refl;
  begun_is = λ es q. refl;
  list_is = λ es. refl;
  answer_is = λ es q. refl;
  settled_is = λ es q key x. refl;
  took_is = λ es q key x. refl;
  has_is = λ es q apart. refl;
  may = λ es l opened begun reads new. and_both (is_open es n) _ opened (rw (begun, reads) new);
  makes = λ es. tt;
}

-- of another line it tells nothing
pub passes_by : {e : ChronicleEntry} {moment n : ℕ} {piece : Piece} {well : Bool} (tells : TellsPiece e moment n piece well)
    {coming : ℕ → ℕ} {lives : List (ℕ × LivePiece)} {disks : List DiskWaits} {es : List ChronicleEntry} (q : ℕ) (x : OpenLine)
    → (n == q) ≡ false
    → LineTold coming lives disks es q x
    → LineTold coming lives disks (e ∷ es) q x
passes_by {e} {moment} {n} {piece} {well} tells {es = es} q x apart l =
    let settled : (key y : ℕ) → settled_at (e ∷ es) q key y ≡ settled_at es q key y =
    λ key y. tells.settled_is es q key y ∙ rw (apart) refl in
    let took : (key y : ℕ) → took_at (e ∷ es) q key y ≡ took_at es q key y = λ key y. tells.took_is es q key y ∙ untook key y in (
      l.0,
      tells.begun_is es q ∙ l.1,
      record {
        keyed = l.2.keyed;
        does = l.2.does;
        some = l.2.some;
        once = λ y. let s : one (settled_at (e ∷ es) q x.key y) ≡ one (settled_at es q x.key y) = ap one (settled x.key y) in
            let was = l.2.once y in omega (arith, s, was);
        took = λ none y is. took x.key y ∙ l.2.took none y (sym (settled x.key y) ∙ is);
        lost = λ some part plain. let k = l.2.lost some part plain in
            record {
              sector = k.sector;
              covered = k.covered;
              settled = settled x.key k.sector ∙ k.settled;
              not_taken = took x.key k.sector ∙ k.not_taken;
            };
        none = λ whole. tells.has_is es q apart ∙ l.2.none whole;
        still = l.2.still;
      },
    )
  where
    untook : (key y : ℕ) → ((well && ((n == q) && piece_covers piece key y)) || took_at es q key y) ≡ took_at es q key y
    untook key y = rw (apart) (both well)
      where
        both : (b : Bool) → ((b && false) || took_at es q key y) ≡ took_at es q key y
        both true = refl
        both false = refl

-- ---- the piece

-- a line of which this is a piece reads or writes, as the piece does
pub record IsDataLine (command : Command) (key : Option ℕ) (work : Work) (piece : Piece) : Type 0 where
  pub is_of_data : is_data command ≡ true
  pub stands : is_some key ≡ true
  pub writes_is : same piece.write (writes command) ≡ true
  pub part : is_whole work ≡ false

pub read_line : (c : Command) → is_read c ≡ true → (is_data c ≡ true) × (writes c ≡ false)
read_line (command.Read path first count) is = (refl, refl)
read_line c is = absurd (true≢false (sym is))

pub write_line : (c : Command) → writes c ≡ true → is_data c ≡ true
write_line (command.Fill path first count value through) is = refl
write_line (command.Write path first hex through) is = refl
write_line c is = absurd (true≢false (sym is))

pub no_flush : (c : Command) → is_data c ≡ true → is_flush c ≡ false
no_flush (command.Flush path) is = absurd (true≢false (sym is))
no_flush c is = refl

pub data_line : (c : Command) (key : Option ℕ) (work : Work) (failure : Option Answer) (piece : Piece) → IsWorkOf c key work failure
    → IsPartOf work piece
    → IsDataLine c key work piece
data_line c key (Read first buffer) failure piece does part =
    let is = read_line c does.0 in
    record { is_of_data = is.0; stands = does.1; writes_is = (λ i. same (part.0 i) (is.1 i)); part = refl }
data_line c key Write failure piece does part =
    record { is_of_data = write_line c does.0; stands = does.1; writes_is = (λ i. same (part i) (does.0 i)); part = refl }
data_line c key (Whole answer) failure piece does part = absurd part

-- ---- counts

hit_one : (a b : Bool) → (a ≡ true → b ≡ false) → one (a || b) ≡ hit a + one b
hit_one true b apart = let none : one b ≡ 0 = ap one (apart refl) in omega (arith, none)
hit_one false b apart = omega arith

hit_true : (b : Bool) → b ≡ true → hit b ≡ 1
hit_true b is = ap hit is

one_most : (b : Bool) → one b ≤ 1
one_most true = omega arith
one_most false = omega arith

pub one_true : (b : Bool) → 1 ≤ one b → b ≡ true
one_true true some = refl
one_true false some = absurd (omega (arith, some))

one_false : (b : Bool) → one b ≡ 0 → b ≡ false
one_false true none = absurd (omega (arith, none))
one_false false none = refl

-- what a piece that hasn't taken place counts for
pub weighs : (number q x : ℕ) (l : LivePiece) → is_taken l.stage ≡ false
    → hit (is_to_come q x (number, l)) ≡ hit ((l.line == q) && in_range l.piece.first l.piece.count x)
weighs number q x l untaken =
    ap (λ (b : Bool). hit ((l.line == q) && (not b && in_range l.piece.first l.piece.count x))) untaken

-- and one that took place
pub weighs_none : (number q x : ℕ) (l : LivePiece) → is_taken l.stage ≡ true → hit (is_to_come q x (number, l)) ≡ 0
weighs_none number q x l taken =
    ap (λ (b : Bool). hit ((l.line == q) && (not b && in_range l.piece.first l.piece.count x))) taken ∙ none (l.line == q)
  where
    none : (b : Bool) → hit (b && false) ≡ 0
    none true = refl
    none false = refl

or_second : (a b : Bool) → b ≡ true → (a || b) ≡ true
or_second true b is = refl
or_second false b is = is

-- ---- what settles

module _ {start : ℕ} {coming : ℕ → ℕ → ℕ} {w : World} {es : List ChronicleEntry} (t : IsTold start coming w es) (o : IsOrderly w)
    (number : ℕ) (old : LivePiece) (at : live_at w.core.pieces.lives number ≡ Some old) (untaken : is_taken old.stage ≡ false) where
  abbrev n : ℕ
  n = old.line

  abbrev piece : Piece
  piece = old.piece

  abbrev live : IsLive w.core.lines.begun w.core.opens w.core.pieces.next (number, old)
  live =
      at_number (IsLive w.core.lines.begun w.core.opens w.core.pieces.next) w.core.pieces.lives number old o.tidy.pieces.each at

  abbrev pub opened : OpenLine
  opened = live.of_line.opened

  pub opened_at : open_at w.core.opens n ≡ Some opened
  opened_at = live.of_line.is_open

  abbrev pub told : LineTold (coming n) w.core.pieces.lives w.core.waits.disks es n opened
  told = t.lines n opened opened_at

  abbrev line : Line
  line = told.0.0

  abbrev is : IsLineTold (coming n) w.core.pieces.lives w.core.waits.disks es n line told.0.1 opened.key opened.work opened.failure
  is = told.2

  pub part_of : IsPartOf opened.work piece
  part_of = live.of_line.part

  pub kind : IsDataLine line.command told.0.1 opened.work piece
  kind = data_line line.command told.0.1 opened.work opened.failure piece is.does live.of_line.part

  -- it counts for each of its sectors
  counts : (x : ℕ) → in_range piece.first piece.count x ≡ true → 1 ≤ to_come n x w.core.pieces.lives
  counts x within =
      let c = removed w.core.pieces.lives number old o.tidy.pieces.single at in
      let s = c.summed (λ (e : ℕ × LivePiece). hit (is_to_come n x e)) in
      let one : hit ((n == n) && in_range piece.first piece.count x) ≡ 1 = rw (eq-eqb n n refl, within) refl in
      omega (arith, s, weighs number n x old untaken, one)

  -- so they are its line's, and haven't settled
  covers : (x : ℕ) → in_range piece.first piece.count x ≡ true
      → (covers_sector line.command x ≡ true) × (settled_at es n opened.key x ≡ false)
  covers x within =
      let once : one (settled_at es n opened.key x) + (to_come n x w.core.pieces.lives + coming n x)
      ≡ one (not (is_whole opened.work) && covers_sector line.command x) =
      is.once x in
      let part : one (not (is_whole opened.work) && covers_sector line.command x) ≡ one (covers_sector line.command x) =
      ap (λ (b : Bool). one (not b && covers_sector line.command x)) kind.part in (
        one_true (covers_sector line.command x) (omega (arith, once, part, counts x within)),
        one_false (settled_at es n opened.key x)
            (omega (arith, once, part, counts x within, one_most (covers_sector line.command x))),
      )

  key_is : told.0.1 ≡ Some opened.key
  key_is = some_key told.0.1 opened.key kind.stands is.keyed
    where
      some_key : (key : Option ℕ) (own : ℕ) → is_some key ≡ true → own ≡ unwrap_or key 0 → key ≡ Some own
      some_key None own stands keyed = absurd (true≢false (sym stands))
      some_key (Some k) own stands keyed = ap Some (sym keyed)

  some_sectors : 0 < piece.count
  some_sectors =
      (at_number (λ (e : ℕ × LivePiece). IsPlaced w.core.volumes w.shelf.sizes e.1.piece) w.core.pieces.lives number old
      o.backed.places.placed at).1.some

  -- the piece covers a sector where its range does
  range_covers : (x : ℕ) → piece_covers piece opened.key x ≡ in_range piece.first piece.count x
  range_covers x =
      ap (λ (b : Bool). b && in_range piece.first piece.count x) (eq-eqb piece.volume opened.key live.of_line.key)

  pub new_piece : is_new_piece es n line told.0.1 piece ≡ true
  new_piece =
      let first : is_number told.0.1 piece.volume ≡ true =
      ap (λ (k : Option ℕ). is_number k piece.volume) key_is ∙ eq-eqb opened.key piece.volume (sym live.of_line.key) in
      and_both (is_number told.0.1 piece.volume && same piece.write (writes line.command) && nat_lt 0 piece.count) _
      (and_both (is_number told.0.1 piece.volume && same piece.write (writes line.command)) (nat_lt 0 piece.count)
      (and_both (is_number told.0.1 piece.volume) (same piece.write (writes line.command)) first kind.writes_is)
      (lt_true 0 piece.count some_sectors))
      (all_passed (λ x. covers_sector line.command x && not (settled_at es n piece.volume x)) piece.first piece.count (λ x within.
      let both = covers x within in
      and_both (covers_sector line.command x) (not (settled_at es n piece.volume x)) both.0
      (ap (λ (k : ℕ). not (settled_at es n k x)) live.of_line.key ∙ ap not both.1)))

  -- a sector of the piece
  pub lost_sector : {e : ChronicleEntry} {moment : ℕ} → TellsPiece e moment n piece false → IsLost (e ∷ es) n opened.key line.command
  lost_sector {e} tells =
      let x : ℕ = piece.first in
      let within : in_range piece.first piece.count x ≡ true =
      (let e : piece.first + 0 ≡ piece.first = omega arith in
      subst (λ (y : ℕ). in_range piece.first piece.count y ≡ true) e (in_range_at piece.first piece.count 0 some_sectors)) in
      let both = covers x within in
      record {
        sector = x;
        covered = both.0;
        settled =
            tells.settled_is es n opened.key x
            ∙ rw (eq-eqb n n refl, range_covers x, within) refl;
        not_taken = tells.took_is es n opened.key x ∙ untook (took_at es n opened.key x) refl both.1;
      }
    where
      untook : (b : Bool) → took_at es n opened.key piece.first ≡ b → settled_at es n opened.key piece.first ≡ false → b ≡ false
      untook true took unsettled = absurd (true≢false (sym (took_settled es n opened.key piece.first took) ∙ unsettled))
      untook false took unsettled = refl

  -- ---- what stays told

  -- where the piece isn't to come any more, and no more waits
  module _ {e : ChronicleEntry} {well : Bool} (tells : TellsPiece e w.shelf.steps n piece well) (v : World)
      (gone : (q x : ℕ)
      → to_come q x v.core.pieces.lives + hit ((n == q) && in_range piece.first piece.count x) ≡ to_come q x w.core.pieces.lives)
      (waits : (q : ℕ) → waiting (is_line q) v.core.waits.disks ≤ waiting (is_line q) w.core.waits.disks) where
    abbrev lives : List (ℕ × LivePiece)
    lives = v.core.pieces.lives

    abbrev disks : List DiskWaits
    disks = v.core.waits.disks

    -- a sector that was lost still is
    pub lost_still : IsLost es n opened.key line.command → IsLost (e ∷ es) n opened.key line.command
    lost_still lost = record {
      sector = lost.sector;
      covered = lost.covered;
      settled =
          tells.settled_is es n opened.key lost.sector
          ∙ or_second ((n == n) && piece_covers piece opened.key lost.sector) (settled_at es n opened.key lost.sector) lost.settled;
      not_taken =
          tells.took_is es n opened.key lost.sector
          ∙ rw (eq-eqb n n refl, range_covers lost.sector, apart (in_range piece.first piece.count lost.sector) refl)
          (untook well (took_at es n opened.key lost.sector) lost.not_taken);
    }
      where
        apart : (b : Bool) → in_range piece.first piece.count lost.sector ≡ b → b ≡ false
        apart true within = absurd (true≢false (sym lost.settled ∙ (covers lost.sector within).1))
        apart false within = refl

        untook : (b c : Bool) → c ≡ false → ((b && false) || c) ≡ false
        untook true c is = is
        untook false c is = is

    -- of another line
    other_told : (q : ℕ) (x : OpenLine) → (n == q) ≡ false → LineTold (coming q) w.core.pieces.lives w.core.waits.disks es q x
        → LineTold (coming q) lives disks (e ∷ es) q x
    other_told q x apart l =
        line_still x
        (λ y. let g = gone q y in
        let none : hit ((n == q) && in_range piece.first piece.count y) ≡ 0 = rw (apart) refl in
        omega (arith, g, none)) (waits q) (passes_by tells q x apart l)

    -- of its own line
    pub own_told : (p : OpenLine) → p.key ≡ opened.key → is_whole p.work ≡ false → IsWorkOf line.command told.0.1 p.work p.failure
        → (p.failure ≡ None → (opened.failure ≡ None) × (well ≡ true))
        → (is_some p.failure ≡ true → is_through line.command ≡ false → IsLost (e ∷ es) n opened.key line.command)
        → LineTold (coming n) lives disks (e ∷ es) n p
    own_told p keyed part does well_is lost = (
      told.0,
      tells.begun_is es n ∙ told.1,
      subst (λ (k : ℕ). IsLineTold (coming n) lives disks (e ∷ es) n line told.0.1 k p.work p.failure) (sym keyed)
          (record {
            keyed = is.keyed;
            does = does;
            some = is.some;
            once =
                λ x. let here : bool_of x ≡ in_range piece.first piece.count x = rw (eq-eqb n n refl) (range_covers x) in
                let new : one (settled_at (e ∷ es) n opened.key x)
                ≡ hit (in_range piece.first piece.count x) + one (settled_at es n opened.key x) =
                ap one (tells.settled_is es n opened.key x ∙ ap (λ (b : Bool). b || settled_at es n opened.key x) here)
                ∙ hit_one (in_range piece.first piece.count x) (settled_at es n opened.key x) (λ within. (covers x within).1) in
                let g : to_come n x lives + hit ((n == n) && in_range piece.first piece.count x) ≡ to_come n x w.core.pieces.lives =
                gone n x in
                let mine : hit ((n == n) && in_range piece.first piece.count x) ≡ hit (in_range piece.first piece.count x) =
                rw (eq-eqb n n refl) refl in
                let was : one (settled_at es n opened.key x) + (to_come n x w.core.pieces.lives + coming n x)
                ≡ one (not (is_whole opened.work) && covers_sector line.command x) =
                is.once x in
                let whole : one (not (is_whole p.work) && covers_sector line.command x)
                ≡ one (not (is_whole opened.work) && covers_sector line.command x) =
                ap (λ (b : Bool). one (not b && covers_sector line.command x)) (part ∙ sym kind.part) in
                omega (arith, new, g, mine, was, whole);
            took = λ none x settled. let wells = well_is none in
                taken x wells (or_cases (bool_of x) (settled_at es n opened.key x) (sym (tells.settled_is es n opened.key x) ∙ settled));
            lost = λ some whole plain. lost some plain;
            none = λ whole. absurd (true≢false (sym whole ∙ part));
            still =
                λ still. let was = is.still (inl (no_flush line.command kind.is_of_data)) in let most = waits n in omega (arith, was, most);
          }),
    )
      where
        bool_of : ℕ → Bool
        bool_of x = (n == n) && piece_covers piece opened.key x

        taken : (x : ℕ) → (opened.failure ≡ None) × (well ≡ true) → (bool_of x ≡ true) ⊎ (settled_at es n opened.key x ≡ true)
            → took_at (e ∷ es) n opened.key x ≡ true
        taken x wells (inl mine) = tells.took_is es n opened.key x ∙ rw (wells.1, mine) refl
        taken x wells (inr settled) =
            tells.took_is es n opened.key x
            ∙ or_second (well && bool_of x) (took_at es n opened.key x) (is.took wells.0 x settled)

    -- all of it
    pub piece_told : (p : OpenLine) → journal_of (e ∷ es) ≡ v.core.lines.journal → v.core.lines.begun ≡ w.core.lines.begun
        → v.core.lines.answers ≡ w.core.lines.answers
        → w.shelf.steps ≤ v.shelf.steps
        → v.core.barrier ≡ w.core.barrier
        → All (IsOfThrough v.core.lines.begun) lives
        → LineIs n (Some p) w.core.opens v.core.opens
        → LineTold (coming n) lives disks (e ∷ es) n p
        → IsTold start coming v (e ∷ es)
    piece_told p journal begun answers steps barrier through is_now own = record {
      journal = journal;
      ordered = (
        record {
          moments = let most = t.moment in omega (arith, most, tells.moment_is);
          order = tells.may es told.0 (open_told t o n opened opened_at) told.1 kind.is_of_data new_piece;
          makes = tells.makes es;
        },
        t.ordered,
      );
      moment = omega (arith, steps, tells.moment_is);
      committed = tells.pending_is es ∙ t.committed;
      count = tells.count_is es ∙ t.count ∙ ap (λ (l : List Line). length l) (sym begun);
      begun = tells.list_is es ∙ t.begun ∙ sym begun;
      answers =
          λ q. ap (λ (a : Option (ℕ × Answer)). option_map (λ x. x.1) a) (tells.answer_is es q) ∙ t.answers q
          ∙ ap (λ (l : List (ℕ × Option Answer)). answer_at l q) (sym answers);
      lines = λ q x at. line_of q x (standing is_now q x at);
      through = through;
      waits = waits_back t v begun barrier (were_open opened opened_at is_now);
    }
      where
        line_of : (q : ℕ) (x : OpenLine) → Standing n q (Some p) w.core.opens x → LineTold (coming q) lives disks (e ∷ es) q x
        line_of q x (here same is_p) =
            subst (λ (k : ℕ). LineTold (coming k) lives disks (e ∷ es) k x) same
            (subst (λ (y : OpenLine). LineTold (coming n) lives disks (e ∷ es) n y) (same_Some p x is_p) own)
        line_of q x (elsewhere apart at) = other_told q x apart (t.lines q x at)
