-- At the Took of a command that creates no sector the pending part becomes the primaries.
use Rattle.std.proofs.Common.{◌≡◌, ℕ, true, false, List, [], ◌∷◌, Option, Some, None, inl, inr, refl, sym, subst, ◌∙◌}
use Rattle.disk_model.specs.Steps.{Image}
use Rattle.vg_scan.specs.Versions.{Version}
use Rattle.line_table.specs.Machine.{PlainState, PlainStep, PlainVolume, plain_after}
use Rattle.lvm_script.specs.declared.line.Line.{Line}
use Rattle.volume_history.proofs.CommandKinds.{bearless, command_bears}
use Rattle.volume_history.proofs.Places.{place_by_entry}
use Rattle.volume_history.specs.Candidates.{is_born, no_image, pending_step, place_at}
use Rattle.volume_history.specs.Chronicles.{Changed, ChronicleEntry, Origin, begun_in, in_force, now_at}
use Rattle.volume_history.specs.Parts.{NextHolds, NextPlaces, PlaceHolds, Primaries}
use Rattle.volume_history.specs.Placed.{Place, PlacedVolume, volumes_of}
use Rattle.volume_history.specs.Replay.{line_step, plain_state}

-- the same of a line that was begun
abbrev pub IsBearlessLine : Option (Line × Option ℕ) → Type 0
IsBearlessLine None = Unit {0}
IsBearlessLine (Some l) = command_bears l.0.command ≡ false

step_needs_none : (b : Option (Line × Option ℕ)) → IsBearlessLine b → (before after : Option Version) (state : PlainState) (i j : Image)
    → line_step b before after state i ≡ line_step b before after state j
step_needs_none None none before after state i j = refl
step_needs_none (Some l) none before after state i j = (bearless l.0.command none).step before after state i j

no_births : (b : Option (Line × Option ℕ)) → IsBearlessLine b → (before after : Option Version) (state : PlainState) (i : Image) (key x : ℕ)
    → is_born (line_step b before after state i) state key x ≡ false
no_births None none before after state i key x = refl
no_births (Some l) none before after state i key x = (bearless l.0.command none).births before after state i key x

module _ (o : Origin) (es : List ChronicleEntry) (m n : ℕ) (version : Option Version) (none : IsBearlessLine (begun_in es n)) where
  abbrev step : PlainStep
  step = pending_step o es n version

  born_never : (key x : ℕ) → is_born step (plain_state o es) key x ≡ false
  born_never key x = no_births (begun_in es n) none (in_force o es) version (plain_state o es) no_image key x

  taken_place : (key x : ℕ) (place : Place) → NextHolds o es step key x place → PlaceHolds o (Changed m n version ∷ es) key x place
  taken_place key x place (inl b) = absurd (let c : true ≡ false = sym b.0 ∙ born_never key x in cc)
  taken_place key x place (inr h) = place_by_entry o es key x place (Changed m n version) (born_never key x) tt h.1

  taken_places : (vs : List PlacedVolume) (ps : List PlainVolume) → NextPlaces o es step vs ps
      → Primaries o (Changed m n version ∷ es) vs ps
  taken_places [] [] next = tt
  taken_places (v ∷ vs) (p ∷ ps) next =
      (next.0, next.1, λ x lt. taken_place p.key x (place_at v.places x) (next.2 x lt), taken_places vs ps next.3)
  taken_places [] (p ∷ ps) next = absurd next
  taken_places (v ∷ vs) [] next = absurd next

  -- whatever places the new version gives its sectors: a move's checkpoint and end, an abort, a reduction, a removal
  pub primaries_at_take : NextPlaces o es step (volumes_of version) (plain_after (plain_state o es) step).volumes
      → Primaries o (Changed m n version ∷ es) (volumes_of version) (plain_state o (Changed m n version ∷ es)).volumes
  primaries_at_take next =
      subst (λ (s : PlainStep). Primaries o (Changed m n version ∷ es) (volumes_of version) (plain_after (plain_state o es) s).volumes)
      (step_needs_none (begun_in es n) none (in_force o es) version (plain_state o es) no_image (now_at o m))
      (taken_places (volumes_of version) (plain_after (plain_state o es) step).volumes next)
