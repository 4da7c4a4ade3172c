-- A run at whose end no command is pending.
use Rattle.std.proofs.Common.{◌≡◌, ℕ, false, List, Option, sym, ap, ◌∙◌}
use Rattle.std.proofs.lemmas.Bool.{true≢false}
use Rattle.std.specs.Prelude.{is_some}
use Rattle.command_table.specs.Options.{Word}
use Rattle.disk_model.specs.Steps.{Image, Record}
use Rattle.vg_scan.specs.Versions.{Version}
use Rattle.volume_history.specs.Chronicles.{ChronicleEntry, pending}
use Rattle.volume_history.specs.Laws.{Tells}
use Rattle.volume_history.specs.Runs.{journal_of, lines_of}
use Rattle.line_history.proofs.Origins.{origin_of}
use Rattle.line_history.specs.Histories.{HasRunHistory}

pub none_pending : (handed : Record) (base : Image) (sizes : List ℕ) (names : List Word) (clock : ℕ) (ended : Record) (start : ℕ)
    (version : Option Version) (es : List ChronicleEntry)
    → Tells (origin_of handed start sizes names clock version ended) es → is_some (pending es) ≡ false
    → HasRunHistory handed base sizes names clock ended (journal_of es) (lines_of es es)
none_pending handed base sizes names clock ended start version es told none = record {
  history = told.history;
  last = λ some. absurd (true≢false (sym some ∙ (ap (λ (l : List ChronicleEntry). is_some (pending l)) told.entries_is ∙ none)));
}
