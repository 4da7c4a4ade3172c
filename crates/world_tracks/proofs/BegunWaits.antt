-- A line that is begun, and one whose preparation ends: what it waits for of the notes from before it.
use Rattle.std.proofs.Common.{◌≡◌, ◌≤◌, ◌<◌, ℕ, ◌+◌, Bool, true, false, nat_eq, List, [], ◌∷◌, ◌++◌, length, map, Contains, Option}
use Rattle.std.proofs.Common.{None, Some, inl, inr, ⊎_elim, is_some, slice_get, refl, sym, ap, subst, ◌∙◌, arith}
use Rattle.std.specs.Option.{option_map_or}
use Rattle.std.proofs.lemmas.Bool.{cases_lt, eqb-false, eqb-true}
use Rattle.std.proofs.lemmas.List.{get_or_append_left, length-map, length_push}
use Rattle.std.proofs.lemmas.Option.{slice_get-get_or}
use Rattle.lvm_script.specs.declared.line.Line.{Line}
use Rattle.data_lines.specs.DataLines.{is_flush, is_through}
use Rattle.line_table.specs.Steps.{is_open}
use Rattle.flush_plan.specs.Plans.{marks_of}
use Rattle.flush_waits.specs.declared.ticket.Waiter.TheVariants as waiter
use Rattle.flush_waits.specs.Waits.{dirty_at, disk_waits}
use Rattle.world_places.specs.Lives.{Written}
use Rattle.world_acts.specs.declared.open_line.OpenLine.{OpenLine}
use Rattle.world_acts.specs.declared.state.Core.{Core}
use Rattle.world_acts.specs.Acts.{Act, Allowed, World, Writes, after}
use Rattle.world_acts.specs.OpenLines.{open_at, open_of}
use Rattle.world_acts.specs.Orderly.{IsOrderly}
use Rattle.world_acts.specs.Steps.{after_begins}
use Rattle.world_acts.proofs.Lasting.{lasts_act}
use Rattle.world_acts.proofs.LinesKept.{open_is, open_within}
use Rattle.io_core.specs.Beginning.{AwaitsAll, AwaitsOn}
use Rattle.io_core.specs.Rest.{just, no_one}
use Rattle.io_core.proofs.LiveLines.{live_open}
use Rattle.world_tracks.specs.Notes.{AreOnDisks, AreWaited, IsNoted, OthersLast, PieceWaits, flushes_at, through_at}
use Rattle.world_tracks.proofs.NewNote.{note_of, open_begun, with_note}
use Rattle.world_tracks.proofs.WaitSteps.{waiters}

-- ---- a line is begun

-- what was begun under a number is, with one line more
pub begun_before : (begun : List Line) (line : Line) (n : ℕ) → n < length begun → slice_get (begun ++ line ∷ []) n ≡ slice_get begun n
begun_before begun line n lt =
    let long : length (begun ++ line ∷ []) ≡ length begun + 1 = length_push begun line in
    slice_get-get_or (begun ++ line ∷ []) n line (omega (arith, lt, long))
    ∙ ap Some (get_or_append_left begun (line ∷ []) line n lt) ∙ sym (slice_get-get_or begun n line lt)

module _ (w : World) (line : Line) (opened : OpenLine) (barrier : Option ℕ) (o : IsOrderly w) where
  -- with another line that waits for all others, or none
  abbrev pub begins : Core
  begins = record (after_begins w.core line opened w.shelf.steps) { barrier = barrier }

  -- as many were begun as are known
  pub many : length w.core.opens.list ≡ length w.core.lines.begun
  many =
      let c : Core = w.core in
      let here : length (map is_some c.opens.list) ≡ length c.opens.list = length-map c.opens.list is_some in
      let there : length (map is_open c.lines.answers) ≡ length c.lines.answers = length-map c.lines.answers is_open in
      let same : length (map is_some c.opens.list) ≡ length (map is_open c.lines.answers) =
      ap (λ (l : List Bool). length l) o.tidy.lines.opened in
      omega (arith, here, there, same, o.tidy.lines.many)

  -- one more was begun
  longer : length begins.lines.begun ≡ length w.core.lines.begun + 1
  longer = length_push w.core.lines.begun line

  -- what lines are that were begun before stays
  through_before : (n : ℕ) → n < length w.core.lines.begun → through_at begins n ≡ through_at w.core n
  through_before n lt =
      ap (λ (x : Option Line). option_map_or (λ (l : Line). is_through l.command) x false) (begun_before w.core.lines.begun line n lt)

  flushes_before : (n : ℕ) → n < length w.core.lines.begun → flushes_at begins n ≡ flushes_at w.core n
  flushes_before n lt =
      ap (λ (x : Option Line). option_map_or (λ (l : Line). is_flush l.command) x false) (begun_before w.core.lines.begun line n lt)

  pub open_before : (n : ℕ) → n < length w.core.lines.begun → open_at begins.opens n ≡ open_at w.core.opens n
  open_before n lt =
      let long = many in get_or_append_left w.core.opens.list (Some opened ∷ []) None n (omega (arith, lt, long))

  -- an open line is the new one, or was begun before
  pub was_begun : (n : ℕ) (p : OpenLine) → open_at begins.opens n ≡ Some p → nat_eq n (length w.core.lines.begun) ≡ false
      → n < length w.core.lines.begun
  was_begun n p at other =
      let lt : n < length begins.opens.list = open_within begins.opens n p at in
      let long : length begins.opens.list ≡ length w.core.opens.list + 1 = length_push w.core.opens.list (Some opened) in
      let count = many in
      below n (length w.core.lines.begun) (omega (arith, lt, long, count)) (eqb-false n (length w.core.lines.begun) other)
    where
      below : (n m : ℕ) → n < m + 1 → (n ≡ m → ⊥) → n < m
      below n m most other = ⊎_elim (λ (lt : n < m). lt) (λ (ge : m ≤ n). absurd (other (omega (arith, most, ge)))) (cases_lt n m)

  -- pieces wait as before
  piece_stays : (x : Written) → PieceWaits w.core x → PieceWaits begins x
  piece_stays x is = record {
    number = is.number;
    live = is.live;
    at = is.at;
    line = is.line;
    who = is.who;
    its = is.its;
    waits = is.waits;
  }

  -- the new one is exempt, and what was exempt is
  pub waited_begins : (but but' : ℕ → Bool) (notes : List Written)
      → ((q : ℕ) → but' q ≡ false → (but q ≡ false) × (nat_eq q (length w.core.lines.begun) ≡ false))
      → AreWaited w.core but notes → AreWaited begins but' notes
  waited_begins but but' notes exempt a = record {
    tickets =
        λ q l at free. let its = live_open w q l o at in
        let lt : l.line < length w.core.lines.begun = open_begun w l.line its.opened o its.is_open in
        a.tickets q l at free ∙ sym (through_before l.line lt);
    noted =
        λ x has. let n : IsNoted w.core x = a.noted x has in
        let long = longer in
        record { held = n.held; last = n.last; begun = omega (arith, n.begun, long); line = omega (arith, n.line, long) };
    own =
        λ x has p at through. let n : IsNoted w.core x = a.noted x has in
        ⊎_elim (λ lasts. inl lasts) (⊎_elim (λ failed. inr (inl failed)) (λ waits. inr (inr (piece_stays x waits))))
        (a.own x has p (sym (open_before x.line n.line) ∙ at) (sym (through_before x.line n.line) ∙ through));
    others =
        λ x has n p free at flushes volume before. let e = exempt n free in
        let lt : n < length w.core.lines.begun = was_begun n p at e.1 in
        ⊎_elim (λ lasts. inl lasts)
        (⊎_elim (λ failed. inr (inl failed)) (λ waits. inr (inr (record { who = waits.who; its = waits.its; waits = waits.waits }))))
        (a.others x has n p e.0 (sym (open_before n lt) ∙ at) (sym (flushes_before n lt) ∙ flushes) volume before);
  }

  -- with none exempt before
  pub waited_begun : (notes : List Written) → AreWaited w.core no_one notes → AreWaited begins (just (length w.core.lines.begun)) notes
  waited_begun notes a = waited_begins no_one (just (length w.core.lines.begun)) notes (λ q is. (refl, is)) a

-- ---- its preparation ends

-- what was written to its volume before lasts, or it waits for that, or has failed
awaits_note : (c : Core) (n : ℕ) (x : Written) (p : OpenLine) → open_at c.opens n ≡ Some p → x.piece.volume ≡ p.key → IsNoted c x
    → AwaitsOn c n x.pv → OthersLast c n x p
awaits_note c n x p at volume noted awaits =
    let is : open_of c.opens n ≡ p = open_is c.opens n p at in
    let last : dirty_at c.waits x.piece.volume x.pv ≡ dirty_at c.waits (open_of c.opens n).key x.pv =
    ap (λ (key : ℕ). dirty_at c.waits key x.pv) (volume ∙ ap (λ (y : OpenLine). y.key) (sym is)) in
    ⊎_elim
    (λ (lasts : dirty_at c.waits (open_of c.opens n).key x.pv ≤ (marks_of c.waits.plan x.pv).stable).
    inl (omega (arith, noted.last, last, lasts)))
    (⊎_elim (λ (failed : is_some (open_of c.opens n).failure ≡ true).
    inr (inl (ap (λ (y : OpenLine). is_some y.failure) (sym is) ∙ failed)))
    (λ (there : Contains (waiters (disk_waits c.waits x.pv))
    (record { waiter = waiter.Line n; place = dirty_at c.waits (open_of c.opens n).key x.pv })).
    inr (inr (record {
      who = record { waiter = waiter.Line n; place = dirty_at c.waits (open_of c.opens n).key x.pv };
      its = refl;
      waits = record { there = there; late = omega (arith, noted.last, last) };
    })))) awaits

-- no line is exempt any more
pub waited_prepared : (c : Core) (n : ℕ) (notes : List Written) → AreOnDisks (length c.waits.disks) notes
    → AreWaited c (just n) notes → (flushes_at c n ≡ true → AwaitsAll c n) → AreWaited c no_one notes
waited_prepared c n notes lie a awaits = record {
  tickets = a.tickets;
  noted = a.noted;
  own = a.own;
  others =
      λ x has q p free at flushes volume before. elim (nat_eq q n) as (λ b. nat_eq q n ≡ b → OthersLast c q x p) [
        | true ↦ λ t.
            let e : q ≡ n = eqb-true q n t in
            subst (λ (k : ℕ). OthersLast c k x p) (sym e)
            (awaits_note c n x p (ap (λ (k : ℕ). open_at c.opens k) (sym e) ∙ at) volume (a.noted x has)
            (awaits (ap (λ (k : ℕ). flushes_at c k) (sym e) ∙ flushes) x.pv (lie x has)))
        | false ↦ λ t. a.others x has q p t at flushes volume before
      ] refl;
}

-- ---- notes stay on disks

-- each act keeps the disks, and a write adds a note on one
pub lie_act : (w : World) (a : Act) (notes : List Written) → Allowed w a → AreOnDisks (length w.shelf.sizes) notes
    → AreOnDisks (length (after w a).shelf.sizes) notes
lie_act w a notes may lie x has =
    let same : length (after w a).shelf.sizes ≡ length w.shelf.sizes = ap (λ (l : List ℕ). length l) (lasts_act w a may).sizes in
    let lt : x.pv < length w.shelf.sizes = lie x has in omega (arith, lt, same)

pub lie_writes : (w : World) (number pv first : ℕ) (notes : List Written) → Allowed w (Writes number pv)
    → AreOnDisks (length w.shelf.sizes) notes
    → AreOnDisks (length (after w (Writes number pv)).shelf.sizes) (note_of w number pv first ∷ notes)
lie_writes w number pv first notes may lie =
    lie_act w (Writes number pv) (note_of w number pv first ∷ notes) may
    (with_note (λ x. x.pv < length w.shelf.sizes) notes (note_of w number pv first) may.2 lie)
