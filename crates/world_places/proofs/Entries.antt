-- What entries keep of a tracked place.
use Rattle.std.proofs.Common.{◌≡◌, ◌≤◌, ℕ, ◌==◌, Bool, true, false, if◌then◌else◌, List, ◌∷◌, Contains, Option, Some, None, inl, inr}
use Rattle.std.proofs.Common.{⊎_elim, refl, sym, ap, subst, ◌∙◌, arith}
use Rattle.std.proofs.lemmas.Bool.{or_left, or_right, true≢false}
use Rattle.list_laws.proofs.Bools.{eq_of, or_cases}
use Rattle.sector_base.specs.declared.places.Piece.{Piece}
use Rattle.line_answers.specs.declared.answer.Answer.{Answer}
use Rattle.lvm_script.specs.declared.line.Line.{Line}
use Rattle.disk_model.specs.Durability.{OnlyLeaves}
use Rattle.line_table.specs.Machine.{sector_of}
use Rattle.vg_scan.specs.Versions.{Version}
use Rattle.volume_history.proofs.Bases.{base_moves, each_cut_map}
use Rattle.volume_history.specs.Candidates.{base, bears, is_write}
use Rattle.volume_history.specs.Chronicles.{Answered, Begun, Changed, ChronicleEntry, Failed, GivenUp, Opened, Took, begun_in, is_answered}
use Rattle.volume_history.specs.Chronicles.{settled_at}
use Rattle.volume_history.specs.Commands.{is_fine}
use Rattle.volume_history.specs.Cuts.{EachCut, Unless}
use Rattle.volume_history.specs.Placed.{Place}
use Rattle.volume_history.specs.Replay.{plain_state}
use Rattle.volume_history.specs.Sources.{Base}
use Rattle.world_places.proofs.Carried.{idle_leg, sourced_map, stood_leg, waits_on}
use Rattle.world_places.proofs.Coming.{comes_map, only_map}
use Rattle.world_places.specs.Changes.{IsIdle, LegsFrom, NotesStay, RealStays, behind}
use Rattle.world_places.specs.Lives.{IsNotedAt, IsWriting, Leg, LegState, Live, Well, Written, runs_at, value_in}
use Rattle.world_places.specs.Tracked.{CutAt, IsNoteOf, LegAt, Scene, Sourced, Tracked}

-- what is settled stays so
settled_on : (e : ChronicleEntry) (es : List ChronicleEntry) (key x n : ℕ) → settled_at es n key x ≡ true
    → settled_at (e ∷ es) n key x ≡ true
settled_on (Begun m k line key') es key x n h = h
settled_on (Opened m k version) es key x n h = h
settled_on (Took m k piece) es key x n h = or_right _ _ h
settled_on (Changed m k version) es key x n h = h
settled_on (GivenUp m k) es key x n h = h
settled_on (Failed m k piece) es key x n h = or_right _ _ h
settled_on (Answered m k answer) es key x n h = h

module _ (g : Scene) (key x : ℕ) (place : Place) where
  -- an entry that moves no base; where it is a write of the sector, that has come so far
  tracked_by_entry : (e : ChronicleEntry) (lives' : List Live) (written' : List Written)
      → base g.origin (e ∷ g.entries) key x ≡ base g.origin g.entries key x → bears g.origin key x e g.entries ≡ false
      → ((n : ℕ) (line : Line) → begun_in g.entries n ≡ Some (line, Some key) → begun_in (e ∷ g.entries) n ≡ Some (line, Some key))
      → RealStays g.entries g.lives (e ∷ g.entries) lives' key x → LegsFrom IsIdle g.lives lives' key x place
      → NotesStay g.written written' g.plan x place
      → (is_write key x e g.entries ≡ true → CutAt (behind g e lives' written') place key x e g.entries)
      → Tracked g key x place → Tracked (behind g e lives' written') key x place
  tracked_by_entry e lives' written' moved unborn begun real legs notes head h =
      let g' : Scene = behind g e lives' written' in
      let up : (based : List ChronicleEntry) (v : List ℕ) → Sourced g based key x v → Sourced g' based key x v =
      λ based. sourced_map g g' based key x begun real refl in
      record {
        holds =
            subst (λ (b : List ChronicleEntry). OnlyLeaves g.origin.told place.disk place.sector (Sourced g' b key x)) (sym moved)
            (only_map g.origin.told place.disk place.sector (Sourced g (base g.origin g.entries key x) key x)
            (Sourced g' (base g.origin g.entries key x) key x) (up (base g.origin g.entries key x)) h.holds);
        cuts =
            subst (λ (b : Bool). Unless b ((is_write key x e g.entries ≡ true → CutAt g' place key x e g.entries)
            × EachCut (CutAt g' place key x) g.origin key x g.entries)) (sym unborn) (
              head,
              each_cut_map g.origin g.origin key x (λ (es : List ChronicleEntry). Unit {0}) (CutAt g place key x) (CutAt g' place key x)
                  (λ e older s. tt) g.entries tt (λ e older s. refl)
                  (λ e older s w c. record {
                    mark = c.mark;
                    comes =
                        comes_map g.plan g.origin.told place.disk place.sector c.mark (Sourced g (e ∷ older) key x)
                        (Sourced g' (e ∷ older) key x) (up (e ∷ older)) c.comes;
                    waits = waits_on g g' place x c.mark e older (omega arith) notes c.waits;
                  }) h.cuts,
            );
        runs =
            λ l leg w. ⊎_elim (λ old. stood_leg g.plan g.origin.told g.lives key x place l leg h.runs old)
            (λ idle. idle_leg g.plan g.origin.told place (value_in l x) l leg idle) (legs l leg w);
      }

  -- all that runs and is noted stays
  legs_same : LegsFrom IsIdle g.lives g.lives key x place
  legs_same l leg w = inl (record { live = l; own = leg; writing = w; state = refl; value = refl })

  real_same : (e : ChronicleEntry) → RealStays g.entries g.lives (e ∷ g.entries) g.lives key x
  real_same e n r =
      ⊎_elim (λ s. or_left _ _ (settled_on e g.entries key x n s)) (λ s. or_right _ _ s)
      (or_cases (settled_at g.entries n key x) (runs_at g.lives n key x) r)

  -- a line is begun
  pub tracked_by_begun : (m n : ℕ) (line : Line) (k : Option ℕ) → begun_in g.entries n ≡ None → is_answered g.entries n ≡ false
      → Tracked g key x place → Tracked (behind g (Begun m n line k) g.lives g.written) key x place
  tracked_by_begun m n line k new open' h =
      tracked_by_entry (Begun m n line k) g.lives g.written (base_moves g.origin g.entries key x (Begun m n line k) open') refl
      (λ j l b. at j l b (n == j) refl) (real_same (Begun m n line k)) legs_same (λ w kept at. inl kept)
      (λ w. absurd (let e : false ≡ true = w in cc)) h
    where
      none_some : (p : Line × Option ℕ) → None ≡ Some p → ⊥
      none_some p e = cc

      at : (j : ℕ) (l : Line) → begun_in g.entries j ≡ Some (l, Some key) → (t : Bool) → t ≡ (n == j)
          → (if t then Some (line, k) else begun_in g.entries j) ≡ Some (l, Some key)
      at j l b true e =
          absurd (none_some (l, Some key) (sym new ∙ ap (λ (i : ℕ). begun_in g.entries i) (eq_of n j (sym e)) ∙ b))
      at j l b false e = b

  -- a commit is opened, given up, or has made a version in which the sector isn't born
  pub tracked_by_opened : (m n : ℕ) (version : Option Version) → Tracked g key x place
      → Tracked (behind g (Opened m n version) g.lives g.written) key x place
  tracked_by_opened m n version h =
      tracked_by_entry (Opened m n version) g.lives g.written (base_moves g.origin g.entries key x (Opened m n version) tt) refl
      (λ j l b. b) (real_same (Opened m n version)) legs_same (λ w kept at. inl kept) (λ w. absurd (let e : false ≡ true = w in cc)) h

  pub tracked_by_given_up : (m n : ℕ) → Tracked g key x place → Tracked (behind g (GivenUp m n) g.lives g.written) key x place
  tracked_by_given_up m n h =
      tracked_by_entry (GivenUp m n) g.lives g.written (base_moves g.origin g.entries key x (GivenUp m n) tt) refl (λ j l b. b)
      (real_same (GivenUp m n)) legs_same (λ w kept at. inl kept) (λ w. absurd (let e : false ≡ true = w in cc)) h

  pub tracked_by_changed : (m n : ℕ) (version : Option Version) → bears g.origin key x (Changed m n version) g.entries ≡ false
      → Tracked g key x place → Tracked (behind g (Changed m n version) g.lives g.written) key x place
  tracked_by_changed m n version unborn h =
      tracked_by_entry (Changed m n version) g.lives g.written (base_moves g.origin g.entries key x (Changed m n version) unborn) unborn
      (λ j l b. b) (real_same (Changed m n version)) legs_same (λ w kept at. inl kept) (λ w. absurd (let e : false ≡ true = w in cc)) h

  -- a piece fails, whose operations have all ended
  pub tracked_by_failed : (m n : ℕ) (piece : Piece) (lives' : List Live)
      → RealStays g.entries g.lives (Failed m n piece ∷ g.entries) lives' key x → LegsFrom IsIdle g.lives lives' key x place
      → Tracked g key x place → Tracked (behind g (Failed m n piece) lives' g.written) key x place
  tracked_by_failed m n piece lives' real legs h =
      tracked_by_entry (Failed m n piece) lives' g.written (base_moves g.origin g.entries key x (Failed m n piece) tt) refl (λ j l b. b)
      real legs (λ w kept at. inl kept) (λ w. absurd (let e : false ≡ true = w in cc)) h

  -- a piece takes place that doesn't write the sector, or a line without pieces
  pub tracked_by_took : (m n : ℕ) (piece : Piece) (lives' : List Live) (written' : List Written) → is_answered g.entries n ≡ false
      → is_write key x (Took m n piece) g.entries ≡ false → RealStays g.entries g.lives (Took m n piece ∷ g.entries) lives' key x
      → LegsFrom IsIdle g.lives lives' key x place → NotesStay g.written written' g.plan x place
      → Tracked g key x place → Tracked (behind g (Took m n piece) lives' written') key x place
  tracked_by_took m n piece lives' written' open' none real legs notes h =
      tracked_by_entry (Took m n piece) lives' written' (base_moves g.origin g.entries key x (Took m n piece) open') refl (λ j l b. b)
      real legs notes (λ w. absurd (true≢false (sym w ∙ none))) h

  -- a piece takes place that writes the sector: its write has completed well there, and is noted
  pub tracked_by_take : (m n : ℕ) (piece : Piece) (lives' : List Live) (written' : List Written) (l0 : Live) (leg0 : Leg) (k : ℕ)
      (note : Written) → is_answered g.entries n ≡ false → IsWriting g.lives key x place l0 leg0 → leg0.state ≡ Well k
      → sector_of (plain_state g.origin (Took m n piece ∷ g.entries)) key x ≡ value_in l0 x
      → Contains written' note → IsNoteOf note (Took m n piece) g.entries → IsNotedAt note x place → k ≤ note.place
      → RealStays g.entries g.lives (Took m n piece ∷ g.entries) lives' key x → LegsFrom IsIdle g.lives lives' key x place
      → NotesStay g.written written' g.plan x place
      → Tracked g key x place → Tracked (behind g (Took m n piece) lives' written') key x place
  tracked_by_take m n piece lives' written' l0 leg0 k note open' writing well value kept its noted late real legs notes h =
      let g' : Scene = behind g (Took m n piece) lives' written' in
      tracked_by_entry (Took m n piece) lives' written' (base_moves g.origin g.entries key x (Took m n piece) open') refl (λ j l b. b)
      real legs notes
      (λ w. record {
        mark = k;
        comes =
            comes_map g.plan g.origin.told place.disk place.sector k (λ v. v ≡ value_in l0 x)
            (Sourced g' (Took m n piece ∷ g.entries) key x) (λ v own. (Base, tt, value ∙ sym own))
            (subst (λ (s : LegState). LegAt g.plan g.origin.told place (value_in l0 x) s) well (h.runs l0 leg0 writing));
        waits = inr (record { note = note; kept = kept; its = its; noted = noted; late = late });
      }) h

  -- an answer that isn't ok
  pub tracked_by_answer : (m n : ℕ) (answer : Answer) → is_answered g.entries n ≡ false → is_fine answer ≡ false → Tracked g key x place
      → Tracked (behind g (Answered m n answer) g.lives g.written) key x place
  tracked_by_answer m n answer open' bad h =
      tracked_by_entry (Answered m n answer) g.lives g.written
      (base_moves g.origin g.entries key x (Answered m n answer) (open', bad)) refl (λ j l b. b) (real_same (Answered m n answer))
      legs_same (λ w kept at. inl kept) (λ w. absurd (let e : false ≡ true = w in cc)) h
