-- What the batches of a commit bring to its areas, and what the areas show by what their sectors may read as.
use Rattle.std.proofs.Common.{◌≡◌, ◌<◌, ℕ, zero, suc, true, false, IsTrue, List, [], ◌∷◌, length, map, get_or, Option, inl, inr, sym, ◌∙◌}
use Rattle.std.proofs.Common.{arith}
use Rattle.std.proofs.lemmas.Bool.{cases_Bool, false_from_ne_true, or_left, or_right, true≢false}
use Rattle.sector_base.specs.Spans.{covers}
use Rattle.disk_model.specs.Durability.{AllLeave, EachOnlyLeaves, OnlyLeaves}
use Rattle.disk_model.specs.Steps.{Record}
use Rattle.disk_model.specs.Submitting.{BringAt}
use Rattle.disk_batch.specs.InTurn.{Put}
use Rattle.disk_batch.specs.Rounds.{WriteTargets}
use Rattle.disk_batch.specs.Writes.{IsWrittenBy, disks_in, write_work}
use Rattle.disk_batch.proofs.WrittenBy.{bring_at_weaker, bring_written}
use Rattle.disk_batch.proofs.WritesOnImages.{written_at as is_written}
use Rattle.mda_header.specs.declared.header.Locn.{Locn}
use Rattle.mda_ring.specs.declared.area.Area.{Area}
use Rattle.vg_commit.specs.CommitHolds.{Commit, IsEither, IsNew, IsOld, IsOldWithTexts, IsSound, headers_in, is_header, is_own, is_text}
use Rattle.vg_commit.specs.CommitHolds.{publish_in, texts_in}
use Rattle.vg_commit.specs.Commits.{MakeCommit, written_at}
use Rattle.vg_commit.specs.Laws.{ShowsEither, ShowsNew, ShowsOld, WritesItsAreas}
use Rattle.vg_commit.specs.Preparing.{area_disks}
use Rattle.vg_commit.specs.SectorReading.{AllRead, AreSized, Reading, new_reading, old_reading}
use Rattle.vg_commit.specs.Written.{area_span, in_areas}
use Rattle.vg_commit.proofs.AreaPuts.{entry_inside, is_placed}
use Rattle.vg_commit.proofs.AreasCommit.{header_area, make_commit, one_header, publish_area, rooms, text_area, written_some}
use Rattle.vg_commit.proofs.Disks.{headers_on, no_area, texts_on}
use Rattle.vg_commit.proofs.ShownSectors.{HasOneHeader, images_show, images_show_either}

-- a sector of an area is one of the areas'
among_areas : (areas : List (Area × Option Locn)) (d : Area × Option Locn) (k pv sector : ℕ) → k < length areas
    → covers (area_span (get_or areas k d).0) pv sector ≡ true → in_areas areas pv sector ≡ true
among_areas [] d k pv sector within h = absurd (omega arith)
among_areas (a ∷ areas) d zero pv sector within h = or_left (covers (area_span a.0) pv sector) (in_areas areas pv sector) h
among_areas (a ∷ areas) d (suc k) pv sector within h =
    or_right (covers (area_span a.0) pv sector) (in_areas areas pv sector) (among_areas areas d k pv sector (omega arith) h)

-- of a sector of no area a reading asks nothing
outside : (reading : Reading) (areas : List (Area × Option Locn)) (pv sector : ℕ) (value : List ℕ) → in_areas areas pv sector ≡ false
    → AllRead reading areas pv sector value
outside reading areas pv sector value out k d within inside =
    absurd (true≢false (sym (among_areas areas d k pv sector within inside) ∙ out))

module _ (c : Commit) where
  -- so what is asked of the areas' sectors is asked of all
  each_leaves : (Now : ℕ → ℕ → List ℕ → Type 0) → ((pv sector : ℕ) (value : List ℕ) → is_own c pv sector ≡ false → Now pv sector value)
      → (told : Record) → AllLeave (is_own c) Now told → EachOnlyLeaves Now told
  each_leaves Now free told leaves pv sector =
      elim (cases_Bool (is_own c pv sector)) [
        | inl own ↦ leaves pv sector own
        | inr out ↦ record { each = λ write value may. free pv sector value out }
      ]

  pub weaker : (P Q : ℕ → ℕ → List ℕ → Type 0) → ((pv sector : ℕ) (value : List ℕ) → P pv sector value → Q pv sector value)
      → (told : Record) → AllLeave (is_own c) P told → AllLeave (is_own c) Q told
  weaker P Q w told leaves pv sector own =
      record { each = λ write value may. w pv sector value ((leaves pv sector own).each write value may) }

  pub with_texts_old : (pv sector : ℕ) (value : List ℕ) → IsOldWithTexts c pv sector value → IsOld c pv sector value
  with_texts_old pv sector value h = h.0

  pub with_texts_either : (pv sector : ℕ) (value : List ℕ) → IsOldWithTexts c pv sector value → IsEither c pv sector value
  with_texts_either pv sector value h = (inl h.0, λ no. (h.0, h.1 no))

  module _ (sound : IsSound c) where
    pub make : MakeCommit (IsOld c) (IsNew c) (texts_in c) (headers_in c) (publish_in c) (disks_in c.flush) (disks_in (area_disks c.areas))
    make =
        make_commit c.text c.areas c.bytes sound.committed.take sound.committed.apart sound.room sound.read (disks_in c.flush)
        (disks_in (area_disks c.areas))
        (texts_on c.areas c.flush sound.committed.on_disks) (headers_on c.areas c.flush sound.committed.on_disks) no_area

    -- ---- what the batches bring

    brings : (puts : List Put) (Q : ℕ → ℕ → List ℕ → Type 0)
        → ((pv sector : ℕ) (value : List ℕ) → IsWrittenBy puts pv sector value → Q pv sector value) → (pv sector : ℕ)
        → BringAt (map write_work puts) pv sector (Q pv sector)
    brings puts Q w pv sector =
        bring_at_weaker puts pv sector (IsWrittenBy puts pv sector) (Q pv sector) (w pv sector) (bring_written puts pv sector)

    pub headers_allowed : (pv sector : ℕ) (value : List ℕ) → IsWrittenBy (headers_in c) pv sector value → IsOldWithTexts c pv sector value
    headers_allowed pv sector value by =
        (make.headers_old pv sector value by, λ no. absurd (true≢false (sym (is_written (headers_in c) pv sector value by) ∙ no)))

    pub publish_allowed : (pv sector : ℕ) (value : List ℕ) → IsWrittenBy (publish_in c) pv sector value → IsEither c pv sector value
    publish_allowed pv sector value by = (
      inr (make.publish_new pv sector value by),
      λ no. absurd (true≢false (sym (is_written (publish_in c) pv sector value by) ∙ (make.same_headers pv sector ∙ no))),
    )

    pub text_targets : WriteTargets (is_own c) (is_text c) (IsOld c) (IsNew c) (map write_work (texts_in c))
    text_targets = record {
      allowed = λ pv sector own. brings (texts_in c) (IsOld c) make.texts_old pv sector;
      wanted = λ pv sector own. brings (texts_in c) (IsNew c) make.texts_new pv sector;
      targets = λ pv sector own aim. aim;
      others = λ pv sector own not. not;
    }

    pub header_targets : WriteTargets (is_own c) (is_header c) (IsOldWithTexts c) (IsOld c) (map write_work (headers_in c))
    header_targets = record {
      allowed = λ pv sector own. brings (headers_in c) (IsOldWithTexts c) headers_allowed pv sector;
      wanted = λ pv sector own. brings (headers_in c) (IsOld c) make.headers_old pv sector;
      targets = λ pv sector own aim. aim;
      others = λ pv sector own not. not;
    }

    pub publish_targets : WriteTargets (is_own c) (is_header c) (IsEither c) (IsNew c) (map write_work (publish_in c))
    publish_targets = record {
      allowed = λ pv sector own. brings (publish_in c) (IsEither c) publish_allowed pv sector;
      wanted = λ pv sector own. brings (publish_in c) (IsNew c) make.publish_new pv sector;
      targets = λ pv sector own aim. make.same_headers pv sector ∙ aim;
      others = λ pv sector own not. make.same_headers pv sector ∙ not;
    }

    -- once the texts are there
    pub texts_there : (told : Record) → AllLeave (is_own c) (IsOld c) told
        → ((pv sector : ℕ) → IsTrue (is_own c pv sector) → IsTrue (is_text c pv sector) → OnlyLeaves told pv sector (IsNew c pv sector))
        → AllLeave (is_own c) (IsOldWithTexts c) told
    texts_there told leaves brought pv sector own = record {
      each = λ write value may. (
        (leaves pv sector own).each write value may,
        λ no.
            elim (cases_Bool (is_text c pv sector)) [
              | inl is ↦ (brought pv sector own is).each write value may
              | inr none ↦ make.rest pv sector value no none
            ],
      );
    }

    -- and once the new headers are
    pub headers_there : (told : Record) → AllLeave (is_own c) (IsEither c) told
        → ((pv sector : ℕ) → IsTrue (is_own c pv sector) → IsTrue (is_header c pv sector) → OnlyLeaves told pv sector (IsNew c pv sector))
        → AllLeave (is_own c) (IsNew c) told
    headers_there told leaves brought pv sector own = record {
      each = λ write value may.
          elim (cases_Bool (is_header c pv sector)) [
            | inl is ↦ (brought pv sector own is).each write value may
            | inr none ↦ (((leaves pv sector own).each write value may).1 none).1
          ];
    }

    -- ---- what the areas show

    sized_new : AreSized (new_reading c.text) c.areas
    sized_new k d within =
        entry_inside c.text (get_or c.areas k d)
        (is_placed c.text (get_or c.areas k d) (sound.committed.take k d within) (rooms c.text c.areas sound.room k d within))

    one : HasOneHeader (is_header c) c.areas
    one k d within sector inside is =
        one_header c.text c.areas c.bytes sound.committed.take sound.committed.apart sound.room sound.read k d within sector inside is

    pub shows_old : (told : Record) → AreSized (old_reading c.bytes) c.areas → AllLeave (is_own c) (IsOld c) told → ShowsOld c told
    shows_old told sized leaves =
        images_show (old_reading c.bytes) c.areas sound.committed.take sized told
        (each_leaves (IsOld c) (λ pv sector value out. outside (old_reading c.bytes) c.areas pv sector value out) told leaves)

    pub shows_new : (told : Record) → AllLeave (is_own c) (IsNew c) told → ShowsNew c told
    shows_new told leaves =
        images_show (new_reading c.text) c.areas sound.committed.take sized_new told
        (each_leaves (IsNew c) (λ pv sector value out. outside (new_reading c.text) c.areas pv sector value out) told leaves)

    pub shows_either : (told : Record) → AreSized (old_reading c.bytes) c.areas → AllLeave (is_own c) (IsEither c) told → ShowsEither c told
    shows_either told sized leaves =
        images_show_either (old_reading c.bytes) (new_reading c.text) c.areas (is_header c) sound.committed.take sized sized_new one told
        (each_leaves (IsEither c)
        (λ pv sector value out.
        let old : IsOld c pv sector value = outside (old_reading c.bytes) c.areas pv sector value out in
        (inl old, λ no. (old, outside (new_reading c.text) c.areas pv sector value out))) told leaves)

    -- ---- it writes sectors of its areas alone

    not_here : (puts : List Put) (pv sector : ℕ) → is_own c pv sector ≡ false
        → ((value : List ℕ) → IsWrittenBy puts pv sector value
        → (k : ℕ) × (k < length c.areas) × (covers (area_span (get_or c.areas k no_area).0) pv sector ≡ true))
        → written_at puts pv sector ≡ false
    not_here puts pv sector out where' =
        false_from_ne_true (written_at puts pv sector) (λ is.
        let some = written_some puts pv sector is in
        let w = where' some.0 some.1 in
        true≢false (sym (among_areas c.areas no_area w.0 pv sector w.1 w.2) ∙ out))

    writes_own : (pv sector : ℕ) → is_own c pv sector ≡ false
        → (is_text c pv sector ≡ false) × (is_header c pv sector ≡ false) × (written_at (publish_in c) pv sector ≡ false)
    writes_own pv sector out = (
      not_here (texts_in c) pv sector out (λ value by. text_area c.text c.areas c.bytes sound.committed.take sound.committed.apart
          sound.room sound.read no_area pv sector value by),
      not_here (headers_in c) pv sector out (λ value by. header_area c.text c.areas c.bytes sound.committed.take sound.committed.apart
          sound.room sound.read no_area pv sector value by),
      not_here (publish_in c) pv sector out (λ value by. publish_area c.text c.areas c.bytes sound.committed.take sound.committed.apart
          sound.room sound.read no_area pv sector value by),
    )

pub writes_its_areas : WritesItsAreas
writes_its_areas c sound pv sector out = writes_own c sound pv sector out
