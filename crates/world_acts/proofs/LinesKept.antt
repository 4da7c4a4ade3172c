-- Open lines that stay open: what a step of one leaves of all.
use Rattle.std.proofs.Common.{◌≡◌, ◌<◌, ℕ, zero, suc, ◌+◌, ◌-◌, Bool, true, false, cond, nat_eq, nat_lt, List, [], ◌∷◌, length, get_or}
use Rattle.std.proofs.Common.{map, set, Option, None, Some, is_some, IfSome, sum_by, unwrap_or, refl, sym, ap, subst, ◌∙◌, arith}
use Rattle.std.specs.Option.{option_map_or}
use Rattle.std.proofs.lemmas.Bool.{eqb-true, eqb-false, ltb-true, ltb-false}
use Rattle.std.proofs.lemmas.List.{get_or-set_other, get_or-set_same, get_or_past}
use Rattle.std.proofs.lemmas.List.Sums.{sum_by-set}
use Rattle.std.proofs.lemmas.Option.{none-some, same_Some}
use Rattle.sector_base.specs.declared.places.Piece.{Piece}
use Rattle.line_answers.specs.declared.answer.Answer.{Answer}
use Rattle.lvm_script.specs.declared.line.Line.{Line}
use Rattle.piece_table.specs.declared.live.LivePiece.{LivePiece}
use Rattle.world_acts.specs.declared.open_line.OpenLine.{OpenLine}
use Rattle.world_acts.specs.Acts.{IsPartOf}
use Rattle.world_acts.specs.Counts.{line_entries}
use Rattle.world_acts.specs.OpenLines.{IsBarrier, Opens, after_added, after_failure, after_finished, is_pv_failed, is_whole, left_of}
use Rattle.world_acts.specs.OpenLines.{no_open, open_at, open_of, with_open}
use Rattle.world_acts.specs.Orderly.{AreOpen, IsLive, IsOfLine}
use Rattle.world_acts.specs.Rooms.{work_entries}

-- one, where the test is true, and never
abbrev pub hit : Bool → ℕ
hit b = cond b 1 0

abbrev pub never : Bool → ℕ
never b = 0

-- what stays of an open line
pub record StaysOpen (o p : OpenLine) : Type 0 where
  pub key : p.key ≡ o.key
  pub part : (piece : Piece) → IsPartOf o.work piece → IsPartOf p.work piece
  pub whole : is_whole p.work ≡ is_whole o.work
  pub entries : work_entries p.work ≡ work_entries o.work

-- each open line stays open, with this much more and less left of the one line, and of the others
pub record LinesStay (line : ℕ) (more less : Bool → ℕ) (old new : Opens) : Type 0 where
  pub kept : map is_some new.list ≡ map is_some old.list
  pub left : (q : ℕ) → left_of new q + less (nat_eq line q) ≡ left_of old q + more (nat_eq line q)
  pub lines : (q : ℕ) (o : OpenLine) → open_at old q ≡ Some o → (p : OpenLine) × (open_at new q ≡ Some p) × StaysOpen o p
  pub entries : sum_by line_entries new.list ≡ sum_by line_entries old.list

stays_itself : (o : OpenLine) → StaysOpen o o
stays_itself o = record { key = refl; part = λ piece is. is; whole = refl; entries = refl }

kept_some : {X : Type 0} (xs : List (Option X)) (i : ℕ) (x y : X) → get_or xs i None ≡ Some x
    → map is_some (set xs i (Some y)) ≡ map is_some xs
kept_some [] i x y at = refl
kept_some (o ∷ xs) zero x y at = ap (λ (b : Bool). b ∷ map is_some xs) (sym (ap is_some at))
kept_some (o ∷ xs) (suc i) x y at = ap (λ (l : List Bool). is_some o ∷ l) (kept_some xs i x y at)

pub open_within : (opens : Opens) (line : ℕ) (o : OpenLine) → open_at opens line ≡ Some o → line < length opens.list
open_within opens line o at =
    elim (nat_lt line (length opens.list)) as (λ b. nat_lt line (length opens.list) ≡ b → line < length opens.list) [
      | true ↦ λ t. ltb-true _ _ t
      | false ↦ λ t. absurd (none-some o (sym (get_or_past opens.list line None (ltb-false _ _ t)) ∙ at))
    ] refl

-- an open line is another now
pub line_stays : (opens : Opens) (line : ℕ) (more less : Bool → ℕ) (o p : OpenLine) → open_at opens line ≡ Some o → StaysOpen o p
    → p.left + less true ≡ o.left + more true
    → less false ≡ more false
    → LinesStay line more less opens (with_open opens line p)
line_stays opens line more less o p at stays here others =
    let within : line < length opens.list = open_within opens line o at in
    record {
      kept = kept_some opens.list line o p at;
      left =
          λ q. elim (nat_eq line q) as (λ b. nat_eq line q ≡ b → left_of (with_open opens line p) q + less b ≡ left_of opens q + more b) [
            | true ↦ λ t. subst (λ (n : ℕ). left_of (with_open opens line p) n + less true ≡ left_of opens n + more true)
                (eqb-true line q t)
                (let new : left_of (with_open opens line p) line ≡ p.left =
                ap (λ (x : Option OpenLine). option_map_or (λ (y : OpenLine). y.left) x 0)
                (get_or-set_same opens.list line (Some p) None within) in
                let old : left_of opens line ≡ o.left = ap (λ (x : Option OpenLine). option_map_or (λ (y : OpenLine). y.left) x 0) at in
                omega arith)
            | false ↦ λ t.
                let same : left_of (with_open opens line p) q ≡ left_of opens q =
                ap (λ (x : Option OpenLine). option_map_or (λ (y : OpenLine). y.left) x 0)
                (get_or-set_other opens.list line q (Some p) None (λ e. eqb-false line q t (sym e))) in
                omega arith
          ] refl;
      lines =
          λ q x is. elim (nat_eq line q) as (λ b. nat_eq line q ≡ b
          → (y : OpenLine) × (open_at (with_open opens line p) q ≡ Some y) × StaysOpen x y) [
            | true ↦ λ t. (
              p,
              subst (λ (n : ℕ). open_at (with_open opens line p) n ≡ Some p) (eqb-true line q t)
                  (get_or-set_same opens.list line (Some p) None within),
              subst (λ (y : OpenLine). StaysOpen y p)
                  (same_Some o x (sym at ∙ ap (λ (n : ℕ). open_at opens n) (eqb-true line q t) ∙ is)) stays,
            )
            | false ↦ λ t. (
              x,
              get_or-set_other opens.list line q (Some p) None (λ e. eqb-false line q t (sym e)) ∙ is,
              stays_itself x,
            )
          ] refl;
      entries =
          let sums : sum_by line_entries (set opens.list line (Some p)) + line_entries (get_or opens.list line None)
          ≡ sum_by line_entries opens.list + line_entries (Some p) =
          sum_by-set line_entries opens.list line (Some p) None within in
          let was : line_entries (get_or opens.list line None) ≡ work_entries o.work = ap line_entries at in
          let is : work_entries p.work ≡ work_entries o.work = stays.entries in omega arith;
    }

-- the steps of an open line
pub open_is : (opens : Opens) (line : ℕ) (o : OpenLine) → open_at opens line ≡ Some o → open_of opens line ≡ o
open_is opens line o at = ap (λ (x : Option OpenLine). unwrap_or x no_open) at

pub line_added : (opens : Opens) (line : ℕ) (o : OpenLine) → open_at opens line ≡ Some o
    → LinesStay line hit never opens (after_added opens line)
line_added opens line o at =
    subst (λ (x : OpenLine). LinesStay line hit never opens (with_open opens line (record x { left = x.left + 1 })))
    (sym (open_is opens line o at))
    (line_stays opens line hit never o (record o { left = o.left + 1 }) at
    (record { key = refl; part = λ piece is. is; whole = refl; entries = refl }) (omega arith) refl)

pub line_finished : (opens : Opens) (line : ℕ) (o : OpenLine) → open_at opens line ≡ Some o → 0 < o.left
    → LinesStay line never hit opens (after_finished opens line)
line_finished opens line o at some =
    subst (λ (x : OpenLine). LinesStay line never hit opens (with_open opens line (record x { left = x.left - 1 })))
    (sym (open_is opens line o at))
    (line_stays opens line never hit o (record o { left = o.left - 1 }) at
    (record { key = refl; part = λ piece is. is; whole = refl; entries = refl }) (omega arith) refl)

pub lines_same : (line : ℕ) (opens : Opens) → LinesStay line never never opens opens
lines_same line opens = record { kept = refl; left = λ q. refl; lines = λ q o at. (o, at, stays_itself o); entries = refl }

pub line_failed : (opens : Opens) (line : ℕ) (o : OpenLine) (why : Answer) → open_at opens line ≡ Some o
    → LinesStay line never never opens (after_failure opens line why)
line_failed opens line o why at =
    elim (is_pv_failed (open_of opens line).failure) as (λ b. LinesStay line never never opens
    (cond b opens (with_open opens line (record (open_of opens line) { failure = Some why })))) [
      | true ↦ lines_same line opens
      | false ↦
          subst (λ (x : OpenLine). LinesStay line never never opens (with_open opens line (record x { failure = Some why })))
          (sym (open_is opens line o at))
          (line_stays opens line never never o (record o { failure = Some why }) at
          (record { key = refl; part = λ piece is. is; whole = refl; entries = refl }) (omega arith) refl)
    ]

-- two steps
stays_both : (o p q : OpenLine) → StaysOpen o p → StaysOpen p q → StaysOpen o q
stays_both o p q a b = record {
  key = b.key ∙ a.key;
  part = λ piece is. b.part piece (a.part piece is);
  whole = b.whole ∙ a.whole;
  entries = b.entries ∙ a.entries;
}

pub lines_both : {line : ℕ} {less : Bool → ℕ} {old mid new : Opens} → LinesStay line never never old mid → LinesStay line never less mid new
    → LinesStay line never less old new
lines_both {line} {less} {old} {mid} {new} a b = record {
  kept = b.kept ∙ a.kept;
  left =
      λ q. let x : left_of mid q + 0 ≡ left_of old q + 0 = a.left q in
      let y : left_of new q + less (nat_eq line q) ≡ left_of mid q + 0 = b.left q in omega arith;
  lines =
      λ q o at. let x = a.lines q o at in
      let y = b.lines q x.0 x.1 in
      (y.0, y.1, stays_both o x.0 y.0 x.2 y.2);
  entries = b.entries ∙ a.entries;
}

-- the line that waits for all others, and the pieces of lines
barrier_stays : {line : ℕ} {more less : Bool → ℕ} {old new : Opens} (barrier : Option ℕ) → LinesStay line more less old new
    → IfSome barrier (λ b. more (nat_eq line b) ≡ 0)
    → IfSome barrier (IsBarrier old)
    → IfSome barrier (IsBarrier new)
barrier_stays None stay none is = tt
barrier_stays {line} {more} {less} {old} {new} (Some b) stay none is =
    let p = stay.lines b is.opened is.is_open in
    record {
      opened = p.0;
      is_open = p.1;
      whole = p.2.whole ∙ is.whole;
      alone =
          let left : left_of new b + less (nat_eq line b) ≡ left_of old b + more (nat_eq line b) = stay.left b in
          let now : left_of new b ≡ p.0.left = ap (λ (x : Option OpenLine). option_map_or (λ (y : OpenLine). y.left) x 0) p.1 in
          let was : left_of old b ≡ is.opened.left =
          ap (λ (x : Option OpenLine). option_map_or (λ (y : OpenLine). y.left) x 0) is.is_open in
          omega (arith, none, is.alone);
    }

pub never_more : (line : ℕ) (barrier : Option ℕ) → IfSome barrier (λ b. never (nat_eq line b) ≡ 0)
never_more line None = tt
never_more line (Some b) = refl

pub open_stays : {line : ℕ} {more less : Bool
    → ℕ} {old new : Opens} {begun : List Line} {answers : List (ℕ × Option Answer)} {barrier : Option ℕ}
    → LinesStay line more less old new
    → IfSome barrier (λ b. more (nat_eq line b) ≡ 0)
    → AreOpen begun answers old barrier
    → AreOpen begun answers new barrier
open_stays {line} {more} {less} {old} {new} {begun} {answers} {barrier} stay none are = record {
  many = are.many;
  opened = stay.kept ∙ are.opened;
  holds = barrier_stays barrier stay none are.holds;
}

pub of_line_stays : {line : ℕ} {more less : Bool → ℕ} {old new : Opens} (l : LivePiece) → LinesStay line more less old new → IsOfLine old l
    → IsOfLine new l
of_line_stays l stay is =
    let p = stay.lines l.line is.opened is.is_open in
    record { opened = p.0; is_open = p.1; key = is.key ∙ sym p.2.key; part = p.2.part l.piece is.part }

pub live_stays : {line : ℕ} {more less : Bool → ℕ} {old new : Opens} {begun : List Line} {next : ℕ} (e : ℕ × LivePiece)
    → LinesStay line more less old new
    → IsLive begun old next e
    → IsLive begun new next e
live_stays e stay is = record { below = is.below; of_line = of_line_stays e.1 stay is.of_line; sectors = is.sectors; awaits = is.awaits }
