-- The answer ok keeps a place tracked.
use Rattle.std.proofs.Common.{◌≡◌, ◌≤◌, ℕ, ◌==◌, Bool, true, false, if◌then◌else◌, List, [], ◌∷◌, Option, Some, None, inl, inr, ⊎_elim}
use Rattle.std.proofs.Common.{refl, sym, ap, subst, ◌∙◌, arith}
use Rattle.list_laws.proofs.Bools.{and_cases, eq_of}
use Rattle.sector_base.specs.declared.places.Piece.{Piece}
use Rattle.line_answers.specs.declared.answer.Answer.TheVariants as answer
use Rattle.lvm_script.specs.declared.line.Line.{Line}
use Rattle.data_lines.specs.DataLines.{in_range}
use Rattle.disk_model.specs.Durability.{OnlyLeaves}
use Rattle.flush_plan.specs.Plans.{marks_of}
use Rattle.volume_history.proofs.Answers.{base_by_ok, numbered_older}
use Rattle.volume_history.proofs.Bases.{each_cut_map}
use Rattle.volume_history.specs.Candidates.{base, is_through_line, is_write, writes_line}
use Rattle.volume_history.specs.Chronicles.{Answered, Begun, Changed, ChronicleEntry, Failed, GivenUp, Opened, Took, begun_in, count_begun}
use Rattle.volume_history.specs.Chronicles.{piece_covers}
use Rattle.volume_history.specs.Cuts.{AreNumbered, FlushesVolume, IsAckedBy}
use Rattle.volume_history.specs.Placed.{Place}
use Rattle.world_places.proofs.Carried.{sourced_map, waits_on}
use Rattle.world_places.proofs.Coming.{comes_map, only_map}
use Rattle.world_places.specs.Changes.{behind}
use Rattle.world_places.specs.Lives.{Written}
use Rattle.world_places.specs.Tracked.{CutAt, IsAwaited, IsNoteOf, Scene, Sourced, Tracked}
use Rattle.world_places.specs.Waiting.{IsWaitedBy, WaitsForNone}

-- a line that was begun by then is known by its number
begun_later : (all es : List ChronicleEntry) (k : ℕ) (l : Line × Option ℕ) → AreNumbered all es → begun_in es k ≡ Some l
    → begun_in all k ≡ Some l
begun_later all [] k l are b = cc
begun_later all (Begun m n line key ∷ es) k l are b = at (n == k) refl b (begun_later all es k l are.2)
  where
    at : (t : Bool) → t ≡ (n == k) → (if t then Some (line, key) else begun_in es k) ≡ Some l
        → (begun_in es k ≡ Some l → begun_in all k ≡ Some l) → begun_in all k ≡ Some l
    at true e b rest = ap (λ (i : ℕ). begun_in all i) (sym (eq_of n k (sym e))) ∙ are.1 ∙ b
    at false e b rest = rest b
begun_later all (Opened m n version ∷ es) k l are b = begun_later all es k l are b
begun_later all (Took m n piece ∷ es) k l are b = begun_later all es k l are b
begun_later all (Changed m n version ∷ es) k l are b = begun_later all es k l are b
begun_later all (GivenUp m n ∷ es) k l are b = begun_later all es k l are b
begun_later all (Failed m n piece ∷ es) k l are b = begun_later all es k l are b
begun_later all (Answered m n answer ∷ es) k l are b = begun_later all es k l are b

through_later : (all es : List ChronicleEntry) (k : ℕ) → AreNumbered all es → is_through_line (begun_in es k) ≡ true
    → is_through_line (begun_in all k) ≡ true
through_later all es k are t = at (begun_in es k) refl t
  where
    at : (b : Option (Line × Option ℕ)) → b ≡ begun_in es k → is_through_line b ≡ true → is_through_line (begun_in all k) ≡ true
    at None e t = cc
    at (Some l) e t = ap is_through_line (begun_later all es k l are (sym e)) ∙ t

module _ (g : Scene) (key x : ℕ) (place : Place) where
  -- a noted write that the answer would make last is one for which the line waits
  waited : (n : ℕ) (e : ChronicleEntry) (older : List ChronicleEntry) (note : Written) → AreNumbered g.entries older
      → is_write key x e older ≡ true → IsNoteOf note e older → IsAckedBy g.entries n key e older → IsWaitedBy g.entries n note
  waited n (Took m k piece) older note are w its by =
      ⊎_elim
      (λ own. inl (
        its.0 ∙ sym own.0,
        ap (λ (i : ℕ). is_through_line (begun_in g.entries i)) own.0 ∙ through_later g.entries older k are own.1,
      ))
      (λ later.
      let covers : piece_covers piece key x ≡ true = (and_cases (piece_covers piece key x) (writes_line (begun_in older k)) w).0 in
      let of_volume = (and_cases (piece.volume == key) (in_range piece.first piece.count x) covers).0 in
      let volume : note.piece.volume ≡ key = ap (λ (p : Piece). p.volume) its.1 ∙ eq_of piece.volume key of_volume in
      let begun : note.begun ≡ count_begun older = its.2 in
      let before : count_begun older ≤ n = later.0 in
      inr (subst (λ (v : ℕ). FlushesVolume g.entries n v) (sym volume) later.1, omega (arith, begun, before)))
      by
  waited n (Begun m k line key') older note are w its by = absurd by
  waited n (Opened m k version) older note are w its by = absurd by
  waited n (Changed m k version) older note are w its by = absurd by
  waited n (GivenUp m k) older note are w its by = absurd by
  waited n (Failed m k piece) older note are w its by = absurd by
  waited n (Answered m k answer) older note are w its by = absurd by

  -- so its flush has completed well, where the line waits for none
  lasts : (n : ℕ) (e : ChronicleEntry) (older : List ChronicleEntry) → AreNumbered g.entries older → WaitsForNone g n
      → is_write key x e older ≡ true → IsAckedBy g.entries n key e older → (c : CutAt g place key x e older)
      → c.mark ≤ (marks_of g.plan place.disk).stable
  lasts n e older are none w by c =
      ⊎_elim (λ le. le)
      (λ (a : IsAwaited g place x c.mark e older).
      let stable : a.note.place ≤ (marks_of g.plan a.note.pv).stable = none a.note a.kept (waited n e older a.note are w a.its by) in
      let late = a.late in
      let same : (marks_of g.plan a.note.pv).stable ≡ (marks_of g.plan place.disk).stable =
      ap (λ (d : ℕ). (marks_of g.plan d).stable) a.noted.0 in
      omega (arith, stable, late, same))
      c.waits

  -- ok of any line, where it waits for no write
  pub tracked_by_ok : (m n : ℕ) → AreNumbered g.entries g.entries → WaitsForNone g n → Tracked g key x place
      → Tracked (behind g (Answered m n answer.Fine) g.lives g.written) key x place
  tracked_by_ok m n are none h =
      let g' : Scene = behind g (Answered m n answer.Fine) g.lives g.written in
      let up : (based : List ChronicleEntry) (v : List ℕ) → Sourced g based key x v → Sourced g' based key x v =
      λ based. sourced_map g g' based key x (λ j l b. b) (λ j r. r) refl in
      record {
        holds =
            base_by_ok g.origin g.entries m n key x
            (λ (based : List ChronicleEntry). OnlyLeaves g.origin.told place.disk place.sector (Sourced g' based key x)) false false
            g.entries (λ f. f) (λ f. let e : false ≡ true = f in cc) are
            (only_map g.origin.told place.disk place.sector (Sourced g (base g.origin g.entries key x) key x)
            (Sourced g' (base g.origin g.entries key x) key x) (up (base g.origin g.entries key x)) h.holds)
            (each_cut_map g.origin g.origin key x (AreNumbered g.entries) (CutAt g place key x)
            (λ e older. IsAckedBy g.entries n key e older
            → OnlyLeaves g.origin.told place.disk place.sector (Sourced g' (e ∷ older) key x))
            (λ e older s. numbered_older g.entries e older s) g.entries are (λ e older s. refl)
            (λ e older s w c by.
            only_map g.origin.told place.disk place.sector (Sourced g (e ∷ older) key x) (Sourced g' (e ∷ older) key x)
            (up (e ∷ older)) (c.comes.stable (lasts n e older (numbered_older g.entries e older s) none w by c)))
            h.cuts);
        cuts = (
          λ w. absurd (let e : false ≡ true = w in cc),
          each_cut_map g.origin g.origin key x (λ (es : List ChronicleEntry). Unit {0}) (CutAt g place key x) (CutAt g' place key x)
              (λ e older s. tt) g.entries tt (λ e older s. refl)
              (λ e older s w c. record {
                mark = c.mark;
                comes =
                    comes_map g.plan g.origin.told place.disk place.sector c.mark (Sourced g (e ∷ older) key x)
                    (Sourced g' (e ∷ older) key x) (up (e ∷ older)) c.comes;
                waits = waits_on g g' place x c.mark e older (omega arith) (λ w kept at. inl kept) c.waits;
              }) h.cuts,
        );
        runs = λ l leg w. h.runs l leg w;
      }
