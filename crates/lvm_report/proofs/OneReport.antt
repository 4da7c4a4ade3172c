-- A disk has one report.
use Rattle.std.proofs.Common.{◌≡◌, ℕ, List, sym, ap, ◌∙◌}
use Rattle.disk_contents.proofs.OneFinding.{one_finding}
use Rattle.lvm_report.specs.Report.{IsReport, report_of}

-- a disk has one report
pub one_report : (sector_at : ℕ → List ℕ) (disk : ℕ) (a b : List ℕ) → IsReport sector_at disk a → IsReport sector_at disk b → a ≡ b
one_report sector_at disk a b is is' = is.2 ∙ ap report_of (one_finding sector_at disk is.0 is'.0 is.1 is'.1) ∙ sym is'.2
