-- An open line of which nothing is left and that has not failed waits for none of the noted writes.
use Rattle.std.proofs.Common.{◌≡◌, ◌≤◌, ◌<◌, ℕ, true, false, List, Contains, Option, None, Some, ⊎_elim, is_some, slice_get}
use Rattle.std.proofs.Common.{unwrap_or, refl, sym, ap, subst, ◌∙◌, arith, true≢false}
use Rattle.std.specs.Option.{option_map_or}
use Rattle.std.proofs.lemmas.Option.{some_pair_parts}
use Rattle.lvm_script.specs.declared.line.Line.{Line}
use Rattle.data_lines.specs.DataLines.{is_flush, is_through}
use Rattle.flush_plan.specs.Plans.{Plan, marks_of}
use Rattle.volume_history.specs.Candidates.{is_through_line}
use Rattle.volume_history.specs.Chronicles.{begun_in}
use Rattle.volume_history.specs.Cuts.{FlushesVolume}
use Rattle.world_places.specs.Lives.{Written}
use Rattle.world_places.specs.Tracked.{Scene}
use Rattle.world_places.specs.Waiting.{WaitsForNone}
use Rattle.world_acts.specs.declared.open_line.OpenLine.{OpenLine}
use Rattle.world_acts.specs.declared.state.Core.{Core}
use Rattle.world_acts.specs.Counts.{is_line, waiting}
use Rattle.world_acts.specs.OpenLines.{left_of, open_at}
use Rattle.world_acts.specs.Orderly.{IsTidy}
use Rattle.io_core.specs.Rest.{no_one}
use Rattle.io_core.proofs.LiveLines.{left_tidy}
use Rattle.world_tracks.specs.Notes.{AreWaited, Lasts, LineWaits, PieceWaits, flushes_at, through_at}
use Rattle.world_tracks.proofs.QuietWaits.{of_line, waits_counted}

-- a line of which nothing is left, that has not failed
pub record IsThrough (c : Core) (n : ℕ) (opened : OpenLine) : Type 0 where
  pub is_open : open_at c.opens n ≡ Some opened
  pub left : opened.left ≡ 0
  pub failure : opened.failure ≡ None

module _ (c : Core) (n : ℕ) (opened : OpenLine) (t : IsTidy c) (d : IsThrough c n opened) where
  none_left : left_of c.opens n ≡ 0
  none_left = ap (λ (x : Option OpenLine). option_map_or (λ (o : OpenLine). o.left) x 0) d.is_open ∙ d.left

  none_failed : is_some opened.failure ≡ true → ⊥
  none_failed is = true≢false (sym is ∙ ap is_some d.failure)

  -- none of its pieces waits, nor does it
  no_piece : (x : Written) → x.line ≡ n → PieceWaits c x → ⊥
  no_piece x own is =
      let some : 0 < left_of c.opens is.live.line = left_tidy c is.number is.live t is.at in
      let same : left_of c.opens is.live.line ≡ left_of c.opens n = ap (λ (k : ℕ). left_of c.opens k) (is.line ∙ own) in
      let none = none_left in omega (arith, some, same, none)

  no_line : (x : Written) → LineWaits c n x → ⊥
  no_line x is =
      let some : 0 < waiting (is_line n) c.waits.disks =
      waits_counted c.waits.disks x.pv is.who (is_line n) is.waits.there (of_line is.who n is.its) in
      let none = none_left in omega (arith, some, t.counts.left n, none)

  -- a write of its own lasts where it is through, and one to the volume that it flushes from before it
  own_lasts : (notes : List Written) → AreWaited c no_one notes → (x : Written) → Contains notes x → x.line ≡ n → through_at c n ≡ true
      → Lasts c.waits x
  own_lasts notes a x has own through =
      ⊎_elim (λ lasts. lasts) (⊎_elim (λ failed. absurd (none_failed failed)) (λ waits. absurd (no_piece x own waits)))
      (a.own x has opened (ap (λ (k : ℕ). open_at c.opens k) own ∙ d.is_open) (ap (λ (k : ℕ). through_at c k) own ∙ through))

  other_lasts : (notes : List Written) → AreWaited c no_one notes → (x : Written) → Contains notes x → flushes_at c n ≡ true
      → x.piece.volume ≡ opened.key → x.begun ≤ n → Lasts c.waits x
  other_lasts notes a x has flushes volume begun =
      ⊎_elim (λ lasts. lasts) (⊎_elim (λ failed. absurd (none_failed failed)) (λ waits. absurd (no_line x waits)))
      (a.others x has n opened refl d.is_open flushes volume begun)

  -- so all for which it would wait lasts
  pub waits_for_none : (notes : List Written) → AreWaited c no_one notes → (g : Scene) (line : Line) (key : Option ℕ) → g.written ≡ notes
      → g.plan ≡ c.waits.plan
      → begun_in g.entries n ≡ Some (line, key)
      → slice_get c.lines.begun n ≡ Some line
      → opened.key ≡ unwrap_or key 0
      → WaitsForNone g n
  waits_for_none notes a g line key written plan begun listed its x has waited =
      subst (λ (p : Plan). x.place ≤ (marks_of p x.pv).stable) (sym plan)
      (⊎_elim
      (λ (by : (x.line ≡ n) × (is_through_line (begun_in g.entries n) ≡ true)).
      own_lasts notes a x there by.0
      (ap (λ (y : Option Line). option_map_or (λ (l : Line). is_through l.command) y false) listed
      ∙ sym (ap (λ (y : Option (Line × Option ℕ)). is_through_line y) begun) ∙ by.1))
      (λ (by : FlushesVolume g.entries n x.piece.volume × (x.begun ≤ n)).
      let parts = some_pair_parts line by.0.line key (Some x.piece.volume) (sym begun ∙ by.0.begun) in
      other_lasts notes a x there
      (ap (λ (y : Option Line). option_map_or (λ (l : Line). is_flush l.command) y false) listed
      ∙ ap (λ (l : Line). is_flush l.command) parts.0 ∙ by.0.flushes)
      (sym (its ∙ ap (λ (k : Option ℕ). unwrap_or k 0) parts.1)) by.1)
      waited)
    where
      there : Contains notes x
      there = subst (λ (l : List Written). Contains l x) written has
