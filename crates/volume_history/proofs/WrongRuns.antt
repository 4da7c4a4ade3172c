-- Wrong runs are refused: a command that is answered before its header is flushed, a fill through to the disks that is answered before
-- its sectors are, and a line that flushes a volume and is answered before its disk is.
use Rattle.std.proofs.Common.{◌≡◌, ◌<◌, ℕ, zero, suc, true, slice_index_or, List, [], ◌∷◌, Contains, Option, Some, None, inl, ⊎_elim, refl}
use Rattle.std.proofs.Common.{ap, subst, ◌∙◌, arith}
use Rattle.std.specs.Hash.{le_bytes}
use Rattle.line_answers.specs.declared.answer.Answer.TheVariants as answer
use Rattle.data_lines.specs.DataLines.{number_sector}
use Rattle.disk_model.specs.Steps.{Submitted, Record, Writing}
use Rattle.volume_view.specs.InSegments.{leg_spot, met}
use Rattle.volume_view.specs.Places.{primary}
use Rattle.vg_scan.specs.Versions.{FindsVersion, Version}
use Rattle.volume_history.proofs.Phases.{finds_with}
use Rattle.volume_history.proofs.FlushedRun.{entries_by, origin_with, sector, writes}
use Rattle.volume_history.proofs.SmallGroups.{filling_through, holding, making, version_1}
use Rattle.volume_history.proofs.SmallRun.{header, new_header, opened, origin_of}
use Rattle.volume_history.specs.Candidates.{IsConsistent, IsConsistentMoment, ShowsInForce, ShowsPending}
use Rattle.volume_history.specs.Chronicles.{Answered, Begun, Chronicle, Took, in_force, left_out, origin_at, pending}
use Rattle.volume_history.specs.Placed.{place_of, volumes_of}
use Rattle.volume_history.specs.Single.{done_entries, none_out}

-- the answer stands at the moment when the write was submitted
abbrev early_told : Record
early_told = record { opened = opened; steps = Submitted 1 (Writing header (new_header ∷ [])) ∷ [] }

abbrev early : Chronicle
early = record { origin = origin_of early_told; entries = done_entries (origin_of early_told) making 0 (Some version_1) }

-- where a scan of what was opened finds no group, and nothing else
module _ (no_group : FindsVersion (99 ∷ []) opened none_out None)
    (one : (v : Option Version) → FindsVersion (99 ∷ []) opened none_out v → None ≡ v) where
  differ : (v : Option Version) → None ≡ v → v ≡ Some version_1 → ⊥
  differ None e f = cc
  differ (Some w) e f = cc

  wrong : IsConsistent (origin_at 1 (origin_of early_told)) (done_entries (origin_of early_told) making 0 (Some version_1)) opened → ⊥
  wrong c =
      ⊎_elim
      (λ force. differ c.version (one c.version
      (finds_with (99 ∷ []) opened (left_out (origin_at 1 (origin_of early_told))
      (done_entries (origin_of early_told) making 0 (Some version_1)) 1) none_out c.version (λ pv. refl) c.scan)) force.0)
      (λ none. none)
      c.shows

  pub early_refused : IsConsistentMoment early 1 → ⊥
  early_refused is = wrong (is opened (λ pv sector. (None, inl (refl, refl))))

-- a fill of a volume of one sector, through to the disks and answered when its write was submitted
abbrev unflushed : Chronicle
unflushed = record {
  origin = origin_with (Submitted 1 (Writing sector (number_sector 7 ∷ [])) ∷ []);
  entries =
      Answered 1 0 answer.Fine ∷ Took 1 0 (record { volume = 0; first = 0; count = 1; write = true })
      ∷ Begun 0 0 (filling_through 0 1 7) (Some 0) ∷ [];
}

-- a cached fill whose write has completed, and a line behind it that is answered as if it had flushed the disk
abbrev unasked : Chronicle
unasked = record { origin = origin_with writes; entries = entries_by 2 }

different : (n : ℕ) → n ≡ 7 → n ≡ 0 → ⊥
different n e f = omega (arith, e, f)

seven : (k : ℕ) → k < 1 → slice_index_or {A = List ℕ} (number_sector 7 ∷ []) k (0 ∷ []) ≡ 0 ∷ [] → ⊥
unfolding le_bytes
seven zero lt e = different (slice_index_or (number_sector 7) 0 0) refl (ap (λ (l : List ℕ). slice_index_or l 0 0) e)
seven (suc k) lt e = absurd (omega (arith, lt))

-- a crash may leave what stood there, which isn't 7
lost_wrong : (c : Chronicle) → in_force c.origin c.entries ≡ Some holding → pending c.entries ≡ None
    → (ShowsInForce c.origin c.entries opened (Some holding) → Contains {X = List ℕ} (number_sector 7 ∷ []) (0 ∷ []))
    → IsConsistent c.origin c.entries opened → ⊥
lost_wrong c force none shows is =
    ⊎_elim
    (λ f. let has = shows (subst (λ (v : Option Version). ShowsInForce c.origin c.entries opened v) (f.0 ∙ force) f) in
    seven has.0 has.1 has.2)
    (λ p. subst (λ (q : Option (ℕ × Option Version)). ShowsPending c.origin c.entries opened is.version q) none p)
    is.shows

pub unflushed_refused : IsConsistentMoment unflushed 1 → ⊥
unfolding volumes_of place_of primary met leg_spot
unflushed_refused is =
    lost_wrong unflushed refl refl (λ f. f.2.2 0 (omega arith)) (is opened (λ pv sector. (None, inl (refl, refl))))

pub unasked_refused : IsConsistentMoment unasked 2 → ⊥
unfolding volumes_of place_of primary met leg_spot
unasked_refused is = lost_wrong unasked refl refl (λ f. f.2.2 0 (omega arith)) (is opened (λ pv sector. (None, inl (refl, refl))))
