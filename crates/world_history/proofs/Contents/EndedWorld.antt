-- An operation of a piece has ended, and what it came to is settled: what holds of a world's contents still does.
use Rattle.std.proofs.Common.{◌≡◌, ℕ, Bool, true, false, List, [], map, Option, refl, sym, ap, ◌∙◌, true≢false}
use Rattle.std.specs.List.{range_with_len}
use Rattle.sector_base.specs.declared.spans.Span.{Span}
use Rattle.lvm_script.specs.declared.line.Line.{Line}
use Rattle.command_table.specs.declared.command.Command.{Command}
use Rattle.command_table.specs.declared.command.Command.TheVariants as command
use Rattle.std.proofs.lemmas.Bool.{cond_both}
use Rattle.data_lines.specs.DataLines.{is_read, value_for, writes}
use Rattle.line_answers.specs.declared.answer.Answer.{Answer}
use Rattle.disk_model.specs.Steps.{Flushing, Reading, Work as DiskWork, Writing}
use Rattle.volume_history.specs.Chronicles.{ChronicleEntry}
use Rattle.world_acts.specs.declared.open_line.Work.{Work}
use Rattle.world_acts.specs.declared.open_line.Work.TheVariants.{Read, Whole, Write}
use Rattle.world_acts.specs.Acts.{IsPartOf, World}
use Rattle.world_acts.specs.Owners.{line_of, values_of}
use Rattle.world_acts.specs.Volumes.{span_of}
use Rattle.world_history.specs.Told.{IsWorkOf}
use Rattle.world_history.proofs.Contents.EndedPiece.{EndedPiece}

-- a piece that wrote is of a line that writes, at its span, what that brings
pub record IsWritten {w : World} {es : List ChronicleEntry} {work : DiskWork} {number : ℕ} (e : EndedPiece w es work number) (span : Span)
    (sectors : List (List ℕ)) : Type 0 where
  pub write : e.live.piece.write ≡ true
  pub span_is : span ≡ span_of w.core.volumes e.live.piece
  pub brings : sectors ≡ map (value_for e.line.command) (range_with_len e.live.piece.first e.live.piece.count)
  pub writing : writes e.line.command ≡ true
  pub works : e.opened.work ≡ Write

-- one that read
pub record WasRead {w : World} {es : List ChronicleEntry} {work : DiskWork} {number : ℕ} (e : EndedPiece w es work number) (span : Span)
    : Type 0 where
  pub write : e.live.piece.write ≡ false
  pub span_is : span ≡ span_of w.core.volumes e.live.piece
  pub reading : writes e.line.command ≡ false

module _ {w : World} {es : List ChronicleEntry} {work : DiskWork} {number : ℕ} (e : EndedPiece w es work number) where
  -- a piece that writes is of a line that does
  wrote_works : (x : Work) → IsPartOf x e.live.piece → e.live.piece.write ≡ true → x ≡ Write
  wrote_works (Read start buffer) part is = absurd (true≢false (sym is ∙ part.0))
  wrote_works Write part is = refl
  wrote_works (Whole a) part is = absurd part

  wrote_line : (x : Work) → x ≡ Write → IsWorkOf e.line.command e.key x e.opened.failure → writes e.line.command ≡ true
  wrote_line Write is does = does.0
  wrote_line (Read start buffer) is does = absurd (no_write is)
    where
      no_write : {start : ℕ} {buffer : List (List ℕ)} → ◌≡◌ {A = Work} (Read start buffer) Write → ⊥
      no_write same = true≢false (ap writing same)
        where
          writing : Work → Bool
          writing (Read start buffer) = true
          writing x = false
  wrote_line (Whole a) is does = absurd (no_write is)
    where
      no_write : {a : Answer} → ◌≡◌ {A = Work} (Whole a) Write → ⊥
      no_write same = true≢false (ap writing same)
        where
          writing : Work → Bool
          writing (Whole a) = true
          writing x = false

  -- a piece that reads is of a line that reads
  read_line : (x : Work) → IsPartOf x e.live.piece → e.live.piece.write ≡ false → IsWorkOf e.line.command e.key x e.opened.failure
      → writes e.line.command ≡ false
  read_line (Read start buffer) part is does = reads_only e.line.command does.0
    where
      reads_only : (c : Command) → is_read c ≡ true → writes c ≡ false
      reads_only (command.Read path first count) is = refl
      reads_only c is = absurd (true≢false (sym is))
  read_line Write part is does = absurd (true≢false (sym part ∙ is))
  read_line (Whole a) part is does = absurd part

  pub piece_writes : e.live.piece.write ≡ true → writes e.line.command ≡ true
  piece_writes is = wrote_line e.opened.work (wrote_works e.opened.work e.part is) e.does

  pub piece_reads : e.live.piece.write ≡ false → writes e.line.command ≡ false
  piece_reads is = read_line e.opened.work e.part is e.does

  pub is_written : (span : Span) (sectors : List (List ℕ)) → work ≡ Writing span sectors → IsWritten e span sectors
  is_written span sectors is =
      cond_both e.live.piece.write (Writing (span_of w.core.volumes e.live.piece) (values_of (line_of w.core e.live) e.live.piece))
      (Reading (span_of w.core.volumes e.live.piece)) (λ (x : DiskWork). Writing span sectors ≡ x → IsWritten e span sectors)
      (λ write same. record {
        write = write;
        span_is = ap span_in same;
        brings =
            ap sectors_in same ∙ ap (λ (l : Option Line). values_of l e.live.piece) e.listed;
        writing = wrote_line e.opened.work (wrote_works e.opened.work e.part write) e.does;
        works = wrote_works e.opened.work e.part write;
      })
      (λ read same. absurd (true≢false (ap is_writing same))) (sym is ∙ e.did)
    where
      span_in : DiskWork → Span
      span_in (Reading s) = s
      span_in (Writing s values) = s
      span_in (Flushing pv) = record { pv = 0; first = 0; count = 0 }

      sectors_in : DiskWork → List (List ℕ)
      sectors_in (Writing s values) = values
      sectors_in x = []

      is_writing : DiskWork → Bool
      is_writing (Writing s values) = true
      is_writing x = false

  pub was_read : (span : Span) → work ≡ Reading span → WasRead e span
  was_read span is =
      cond_both e.live.piece.write (Writing (span_of w.core.volumes e.live.piece) (values_of (line_of w.core e.live) e.live.piece))
      (Reading (span_of w.core.volumes e.live.piece)) (λ (x : DiskWork). Reading span ≡ x → WasRead e span)
      (λ write same. absurd (true≢false (ap is_reading same)))
      (λ read same. record {
        write = read;
        span_is = ap span_in same;
        reading = read_line e.opened.work e.part read e.does;
      }) (sym is ∙ e.did)
    where
      span_in : DiskWork → Span
      span_in (Reading s) = s
      span_in (Writing s values) = s
      span_in (Flushing pv) = record { pv = 0; first = 0; count = 0 }

      is_reading : DiskWork → Bool
      is_reading (Reading s) = true
      is_reading x = false
