-- A line that begins.
use Rattle.std.proofs.Common.{◌≡◌, ◌<◌, ℕ, zero, suc, ◌+◌, Bool, true, List, [], ◌∷◌, ◌++◌, length, get_or, map, Option, None, Some}
use Rattle.std.proofs.Common.{option_map, slice_get, is_some, All, IfSome, sum_by, if◌then◌else◌, refl, sym, ap, ◌∙◌, arith}
use Rattle.std.specs.Option.{option_map_or}
use Rattle.std.proofs.lemmas.List.{get_or_append_left, length-map, length_push, map-append}
use Rattle.std.proofs.lemmas.List.Elements.{All-weaker}
use Rattle.std.proofs.lemmas.List.Sums.{sum_by_push}
use Rattle.std.proofs.lemmas.Option.{slice_get-get_or}
use Rattle.list_laws.proofs.Inserted.{slice_get-pushed}
use Rattle.line_answers.specs.declared.answer.Answer.{Answer}
use Rattle.lvm_script.specs.declared.line.Line.{Line}
use Rattle.disk_model.specs.Steps.{Reading, Writing}
use Rattle.line_table.specs.declared.journal.JournalEntry.{JournalEntry}
use Rattle.line_table.specs.Steps.{is_open, last_moment}
use Rattle.piece_table.specs.declared.live.LivePiece.{LivePiece}
use Rattle.piece_table.specs.declared.live.Owner.{Owner}
use Rattle.piece_table.specs.Pieces.{live_at, owner_at}
use Rattle.world_acts.specs.declared.state.Core.{Core}
use Rattle.world_acts.specs.declared.open_line.OpenLine.{OpenLine}
use Rattle.world_acts.specs.Acts.{Allowed, Begins, World, after}
use Rattle.world_acts.specs.Counts.{line_entries}
use Rattle.world_acts.specs.OpenLines.{IsBarrier, Opens, after_begun, open_at}
use Rattle.world_acts.specs.Orderly.{AreOpen, IsLive, IsOrderly}
use Rattle.world_acts.specs.Owners.{flush_at, piece_work, values_of}
use Rattle.world_acts.specs.Rooms.{line_room}
use Rattle.world_acts.specs.Steps.{after_begins}
use Rattle.world_acts.specs.Volumes.{span_of}
use Rattle.world_acts.proofs.LinesKept.{open_within}
use Rattle.world_acts.proofs.PiecesKept.{work_kept}
use Rattle.world_acts.proofs.RoomsKept.{spare_more}
use Rattle.world_acts.proofs.Tables.{at_number}

pub last_pushed : (es : List JournalEntry) (e : JournalEntry) → last_moment (es ++ e ∷ []) ≡ e.moment
last_pushed [] e = refl
last_pushed (x ∷ []) e = refl
last_pushed (x ∷ y ∷ es) e = last_pushed (y ∷ es) e

-- the open lines, with one more of which nothing is left
left_pushed : (list : List (Option OpenLine)) (opened : OpenLine) → opened.left ≡ 0 → (q : ℕ)
    → option_map_or (λ (o : OpenLine). o.left) (get_or (list ++ Some opened ∷ []) q None) 0
    ≡ option_map_or (λ (o : OpenLine). o.left) (get_or list q None) 0
left_pushed [] opened none zero = none
left_pushed [] opened none (suc q) = refl
left_pushed (o ∷ list) opened none zero = refl
left_pushed (o ∷ list) opened none (suc q) = left_pushed list opened none q

still_open : (opens : Opens) (opened : OpenLine) (line : ℕ) (o : OpenLine) → open_at opens line ≡ Some o
    → open_at (after_begun opens opened) line ≡ Some o
still_open opens opened line o at = get_or_append_left opens.list (Some opened ∷ []) None line (open_within opens line o at) ∙ at

barrier_begun : (opens : Opens) (opened : OpenLine) (barrier : Option ℕ) → IfSome barrier (IsBarrier opens)
    → IfSome barrier (IsBarrier (after_begun opens opened))
barrier_begun opens opened None is = tt
barrier_begun opens opened (Some b) is = record {
  opened = is.opened;
  is_open = still_open opens opened b is.opened is.is_open;
  whole = is.whole;
  alone = is.alone;
}

-- an open line was begun
pub open_begun : {begun : List Line} {answers : List (ℕ × Option Answer)} {opens : Opens} {barrier : Option ℕ} (line : ℕ) (o : OpenLine)
    → AreOpen begun answers opens barrier
    → open_at opens line ≡ Some o
    → line < length begun
open_begun {begun} {answers} {opens} line o are at =
    let within : line < length opens.list = open_within opens line o at in
    let a : length (map is_some opens.list) ≡ length opens.list = length-map opens.list is_some in
    let b : length (map is_open answers) ≡ length answers = length-map answers is_open in
    let same : length (map is_some opens.list) ≡ length (map is_open answers) = ap (λ (l : List Bool). length l) are.opened in
    omega (arith, are.many)

line_kept : (begun : List Line) (line : Line) (at : ℕ) → at < length begun → slice_get (begun ++ line ∷ []) at ≡ slice_get begun at
line_kept begun line at within =
    let e : slice_get begun at ≡ Some (get_or begun at line) = slice_get-get_or begun at line within in
    slice_get-pushed begun (line ∷ []) at (get_or begun at line) e ∙ sym e

live_begun : {begun : List Line} {answers : List (ℕ × Option Answer)} {opens : Opens} {barrier : Option ℕ} {next : ℕ} (line : Line)
    (opened : OpenLine) (e : ℕ × LivePiece)
    → AreOpen begun answers opens barrier
    → IsLive begun opens next e
    → IsLive (begun ++ line ∷ []) (after_begun opens opened) next e
live_begun {begun} {answers} {opens} line opened e are is =
    let f = is.of_line in
    let kept : slice_get (begun ++ line ∷ []) e.1.line ≡ slice_get begun e.1.line =
    line_kept begun line e.1.line (open_begun e.1.line f.opened are f.is_open) in
    record {
      below = is.below;
      of_line = record { opened = f.opened; is_open = still_open opens opened e.1.line f.opened f.is_open; key = f.key; part = f.part };
      sectors = record {
        many = is.sectors.many;
        brought = λ waits writes. is.sectors.brought waits writes ∙ ap (λ (l : Option Line). values_of l e.1.piece) (sym kept);
      };
      awaits = is.awaits;
    }

-- what a piece does is the same
work_begun : (c : Core) (line : Line) (opened : OpenLine) (moment : ℕ) (l : LivePiece) → l.line < length c.lines.begun
    → piece_work (after_begins c line opened moment) l ≡ piece_work c l
work_begun c line opened moment l within =
    ap (λ (x : Option Line). if l.piece.write then Writing (span_of c.volumes l.piece) (values_of x l.piece) else Reading
    (span_of c.volumes l.piece))
    (line_kept c.lines.begun line l.line within)

works_begun : (c : Core) (line : Line) (opened : OpenLine) (moment number : ℕ) → AreOpen c.lines.begun c.lines.answers c.opens c.barrier
    → All (IsLive c.lines.begun c.opens c.pieces.next) c.pieces.lives
    → option_map (piece_work (after_begins c line opened moment)) (live_at c.pieces.lives number)
    ≡ option_map (piece_work c) (live_at c.pieces.lives number)
works_begun c line opened moment number are each = by (live_at c.pieces.lives number) refl
  where
    by : (o : Option LivePiece) → live_at c.pieces.lives number ≡ o
        → option_map (piece_work (after_begins c line opened moment)) o ≡ option_map (piece_work c) o
    by None at = refl
    by (Some l) at =
        let is : IsLive c.lines.begun c.opens c.pieces.next (number, l) =
        at_number (IsLive c.lines.begun c.opens c.pieces.next) c.pieces.lives number l each at in
        ap Some
        (work_begun c line opened moment l (open_begun l.line is.of_line.opened are is.of_line.is_open))

-- the works of two cores are compared at an owner
at_owner : (c d : Core) (owner : Option Owner)
    → ((number : ℕ) → option_map (piece_work d) (live_at c.pieces.lives number) ≡ option_map (piece_work c) (live_at c.pieces.lives number))
    → IfSome owner (λ x. option_map (piece_work d) (live_at c.pieces.lives x.piece)
    ≡ option_map (piece_work c) (live_at c.pieces.lives x.piece))
at_owner c d None same = tt
at_owner c d (Some x) same = same x.piece

pub after_begin : (w : World) (line : Line) (opened : OpenLine) → IsOrderly w → Allowed w (Begins line opened)
    → IsOrderly (after w (Begins line opened))
after_begin w line opened o may =
    let c : Core = w.core in
    let t = o.tidy in
    let b = o.backed in
    let pushed : sum_by line_entries (c.opens.list ++ Some opened ∷ []) ≡ sum_by line_entries c.opens.list + line_entries (Some opened) =
    sum_by_push line_entries c.opens.list (Some opened) in
    let d : Core = after_begins c line opened w.shelf.steps in
    record {
      tidy = record {
        lines = record {
          many = length_push c.lines.begun line ∙ ap (λ (n : ℕ). n + 1) t.lines.many
              ∙ sym (length_push c.lines.answers (line.number, None));
          opened =
              map-append is_some c.opens.list (Some opened ∷ []) ∙ ap (λ (l : List Bool). l ++ true ∷ []) t.lines.opened
              ∙ sym (map-append is_open c.lines.answers ((line.number, None) ∷ []));
          holds = barrier_begun c.opens opened c.barrier t.lines.holds;
        };
        pieces = record {
          single = t.pieces.single;
          each =
              All-weaker (IsLive c.lines.begun c.opens c.pieces.next)
              (IsLive (c.lines.begun ++ line ∷ []) (after_begun c.opens opened) c.pieces.next) (λ e is. live_begun line opened e t.lines is)
              c.pieces.lives t.pieces.each;
        };
        owners = t.owners;
        counts = record { left = λ q. left_pushed c.opens.list opened may.none q ∙ t.counts.left q; awaited = t.counts.awaited };
        room =
            spare_more c d (line_room opened) t.room refl
            (record {
              ops = omega arith;
              sectors = omega arith;
              writes = omega arith;
              waits = omega arith;
              entries =
                  omega (arith, pushed);
            })
            (record {
              counted = may.counted;
              writes = omega (arith, t.room.writes);
              waits = omega (arith, t.room.waits);
              entries = omega (arith, may.entry);
              owners = omega (arith, t.room.owners);
            });
        flushes = t.flushes;
      };
      backed = record {
        lawful = b.lawful;
        known = record {
          owned =
              λ tag. b.known.owned tag
              ∙ sym (work_kept c.pieces.lives c.pieces.lives (piece_work c) (piece_work d) (flush_at c.waits.plan tag)
              (owner_at c.pieces.owners tag)
              (at_owner c d (owner_at c.pieces.owners tag)
              (λ number. works_begun c line opened w.shelf.steps number t.lines t.pieces.each)));
          apart = b.known.apart;
        };
        places = b.places;
        spare_ops = omega (arith, b.spare_ops);
        spare_sectors = omega (arith, b.spare_sectors);
        moments = let last : last_moment d.lines.journal ≡ w.shelf.steps = last_pushed c.lines.journal _ in omega arith;
      };
    }
