-- What entries and steps leave of the command that is pending.
use Rattle.std.proofs.Common.{◌≡◌, ℕ, ◌==◌, All, Bool, true, false, if◌then◌else◌, List, ◌∷◌, Option, Some, None, get_or}
use Rattle.std.proofs.Common.{refl, sym, ap, subst, ◌∙◌}
use Rattle.std.proofs.lemmas.Bool.{true≢false}
use Rattle.std.proofs.lemmas.List.Elements.{All-nil, All-take}
use Rattle.list_laws.proofs.Bools.{eq_of}
use Rattle.command_table.specs.Commands.{CommandKind, VolumeAdded, kind_of}
use Rattle.disk_model.proofs.Durable.{only_leaves_on}
use Rattle.disk_model.specs.Brought.{brings}
use Rattle.disk_model.specs.Durability.{OnlyLeaves}
use Rattle.disk_model.specs.Steps.{Step}
use Rattle.data_lines.specs.DataLines.{zero_sector}
use Rattle.lvm_script.specs.declared.line.Line.{Line}
use Rattle.vg_scan.specs.Versions.{Version}
use Rattle.volume_history.proofs.EarlierMoments.{force_stays}
use Rattle.volume_history.specs.Chronicles.{Answered, Begun, Changed, ChronicleEntry, Failed, GivenUp, Opened, Origin, Took, begun_in}
use Rattle.volume_history.specs.Chronicles.{in_force, origin_on, pending}
use Rattle.volume_history.specs.Parts.{IsZeroAt}
use Rattle.volume_history.specs.Placed.{Place, volumes_of}
use Rattle.volume_history.specs.Replay.{places_named}
use Rattle.pending_versions.specs.Births.{LineChanges, born_places, line_births, line_zeros, zero_places}
use Rattle.pending_versions.specs.Laws.{BringsNone}
use Rattle.pending_versions.specs.Pending.{AreSettled, OwesPending, PendingHolds, PendingPart, is_of_commit, pending_births}

-- ---- entries

-- the pending line isn't one that is begun under a new number
other_line : (o : Origin) (es : List ChronicleEntry) (m n : ℕ) (line : Line) (key : Option ℕ) → begun_in es n ≡ None
    → (p : ℕ × Option Version) → PendingHolds o es p.0 p.1 → begun_in (Begun m n line key ∷ es) p.0 ≡ begun_in es p.0
other_line o es m n line key new p part = by (n == p.0) refl
  where
    by : (t : Bool) → (n == p.0) ≡ t → (if t then Some (line, key) else begun_in es p.0) ≡ begun_in es p.0
    by true is =
        absurd (subst (λ (b : Option (Line × Option ℕ)). LineChanges b (in_force o es) p.1)
        (ap (begun_in es) (sym (eq_of n p.0 is)) ∙ new) part.makes)
    by false is = refl

-- one of another line than the pending one
begun_on : (o : Origin) (es : List ChronicleEntry) (m n : ℕ) (line : Line) (key : Option ℕ) → begun_in es n ≡ None
    → (P : Option (ℕ × Option Version)) → PendingPart o es P → PendingPart o (Begun m n line key ∷ es) P
begun_on o es m n line key new None part = tt
begun_on o es m n line key new (Some p) part =
    let same = other_line o es m n line key new p part in
    record {
      makes = subst (λ (b : Option (Line × Option ℕ)). LineChanges b (in_force o es) p.1) (sym same) part.makes;
      zero = subst (λ (b : Option (Line × Option ℕ)). All (IsZeroAt o) (line_zeros b p.1)) (sym same) part.zero;
    }

-- that says nothing of lines and versions
same_on : (o : Origin) (es : List ChronicleEntry) (e : ChronicleEntry) → ((n : ℕ) → begun_in (e ∷ es) n ≡ begun_in es n)
    → in_force o (e ∷ es) ≡ in_force o es → (P : Option (ℕ × Option Version)) → PendingPart o es P → PendingPart o (e ∷ es) P
same_on o es e lines force None part = tt
same_on o es e lines force (Some p) part = record {
  makes =
      subst (λ (b : Option (Line × Option ℕ)). LineChanges b (in_force o (e ∷ es)) p.1) (sym (lines p.0))
      (subst (λ (v : Option Version). LineChanges (begun_in es p.0) v p.1) (sym force) part.makes);
  zero = subst (λ (b : Option (Line × Option ℕ)). All (IsZeroAt o) (line_zeros b p.1)) (sym (lines p.0)) part.zero;
}

pub entry_keeps : (o : Origin) (es : List ChronicleEntry) (e : ChronicleEntry) → OwesPending o es e → PendingPart o es (pending es)
    → PendingPart o (e ∷ es) (pending (e ∷ es))
entry_keeps o es (Begun m n line key) owes part = begun_on o es m n line key owes (pending es) part
entry_keeps o es (Opened m n version) owes part = record { makes = owes.makes; zero = owes.zero }
entry_keeps o es (Took m n piece) owes part = same_on o es (Took m n piece) (λ k. refl) refl (pending es) part
entry_keeps o es (Changed m n version) owes part = tt
entry_keeps o es (GivenUp m n) owes part = tt
entry_keeps o es (Failed m n piece) owes part = same_on o es (Failed m n piece) (λ k. refl) refl (pending es) part
entry_keeps o es (Answered m n answer) owes part = same_on o es (Answered m n answer) (λ k. refl) refl (pending es) part

births_begun : (o : Origin) (es : List ChronicleEntry) (m n : ℕ) (line : Line) (key : Option ℕ) → begun_in es n ≡ None
    → (P : Option (ℕ × Option Version)) → PendingPart o es P
    → pending_births o (Begun m n line key ∷ es) P ≡ pending_births o es P
births_begun o es m n line key new None part = refl
births_begun o es m n line key new (Some p) part =
    ap (λ (b : Option (Line × Option ℕ)). line_births b (in_force o es) p.1) (other_line o es m n line key new p part)

-- that keeps lines and the version in force keeps births
births_same : (o : Origin) (es : List ChronicleEntry) (e : ChronicleEntry) → ((n : ℕ) → begun_in (e ∷ es) n ≡ begun_in es n)
    → in_force o (e ∷ es) ≡ in_force o es → (P : Option (ℕ × Option Version)) → pending_births o (e ∷ es) P ≡ pending_births o es P
births_same o es e lines force None = refl
births_same o es e lines force (Some p) =
    ap (λ (b : Option (Line × Option ℕ)). line_births b (in_force o (e ∷ es)) p.1) (lines p.0)
    ∙ ap (λ (v : Option Version). line_births (begun_in es p.0) v p.1) force

pub births_stay : (o : Origin) (es : List ChronicleEntry) (e : ChronicleEntry) → is_of_commit e ≡ false → OwesPending o es e
    → PendingPart o es (pending es) → pending_births o (e ∷ es) (pending (e ∷ es)) ≡ pending_births o es (pending es)
births_stay o es (Begun m n line key) none owes part = births_begun o es m n line key owes (pending es) part
births_stay o es (Opened m n version) none owes part = absurd (true≢false none)
births_stay o es (Took m n piece) none owes part = births_same o es (Took m n piece) (λ k. refl) refl (pending es)
births_stay o es (Changed m n version) none owes part = absurd (true≢false none)
births_stay o es (GivenUp m n) none owes part = absurd (true≢false none)
births_stay o es (Failed m n piece) none owes part = births_same o es (Failed m n piece) (λ k. refl) refl (pending es)
births_stay o es (Answered m n answer) none owes part = births_same o es (Answered m n answer) (λ k. refl) refl (pending es)

-- ---- steps

-- the zeros are among what is born
zeros_too : (kind : CommandKind) (before after : Option Version) (P : Place → Type 0) → All P (born_places kind before after)
    → All P (zero_places kind after)
zeros_too (VolumeAdded lv) before after P all = All-take P 8 (places_named (volumes_of after) lv) all
zeros_too _ before after P all = All-nil P

line_zeros_too : (b : Option (Line × Option ℕ)) (before after : Option Version) (P : Place → Type 0)
    → All P (line_births b before after) → All P (line_zeros b after)
line_zeros_too None before after P all = All-nil P
line_zeros_too (Some l) before after P all = zeros_too (kind_of l.0.command) before after P all

zero_on : (step : Step) (o : Origin) (place : Place) → brings step place.disk place.sector ≡ false → IsZeroAt o place
    → IsZeroAt (origin_on step o) place
zero_on step o place none zero =
    let only : OnlyLeaves o.told place.disk place.sector (λ v. v ≡ zero_sector) = record { each = zero.each } in
    record { each = (only_leaves_on o.told place.disk place.sector (λ v. v ≡ zero_sector) step none only).each }

pub settled_on : (step : Step) (o : Origin) (places : List Place) → BringsNone step places → AreSettled o places
    → AreSettled (origin_on step o) places
settled_on step o places none settled k d lt =
    let one = settled k d lt in
    record {
      value = one.value;
      only =
          only_leaves_on o.told (get_or places k d).disk (get_or places k d).sector (λ v. v ≡ one.value) step (none k d lt) one.only;
    }

pub step_keeps : (step : Step) (o : Origin) (es : List ChronicleEntry) → BringsNone step (pending_births o es (pending es))
    → PendingPart o es (pending es) → PendingPart (origin_on step o) es (pending es)
step_keeps step o es none part = by (pending es) none part
  where
    by : (P : Option (ℕ × Option Version)) → BringsNone step (pending_births o es P) → PendingPart o es P
        → PendingPart (origin_on step o) es P
    by None none part = tt
    by (Some p) none part =
        let away = line_zeros_too (begun_in es p.0) (in_force o es) p.1 (λ (q : Place). brings step q.disk q.sector ≡ false) none in
        record {
          makes =
              subst (λ (v : Option Version). LineChanges (begun_in es p.0) v p.1) (sym (force_stays step o es)) part.makes;
          zero = λ k d lt. zero_on step o (get_or (line_zeros (begun_in es p.0) p.1) k d) (away k d lt) (part.zero k d lt);
        }
