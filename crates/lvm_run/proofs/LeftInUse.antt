-- A session leaves what is in use.
use Rattle.std.proofs.Common.{◌≡◌, ◌≢◌, ◌<◌, ℕ, Bool, false, List, [], ◌∷◌, length, All, Option, None, Some, refl, sym, subst}
use Rattle.std.specs.Prelude.{MatchOption, Result, Ok, Err, IfOk, IfErr}
use Rattle.std.proofs.lemmas.List.Elements.{All-nil}
use Rattle.sector_base.specs.declared.spans.Span.{Span}
use Rattle.disk_model.specs.Order.{WritesNothing}
use Rattle.disk_model.specs.Since.{BetweenRecords, writes_submitted}
use Rattle.disk_model.specs.State.{State}
use Rattle.disk_model.specs.Steps.{Image, Step, Record, Submitted, Completed, Reading, Writing, Flushing}
use Rattle.vg_found.specs.declared.found.Found.{Found}
use Rattle.vg_scan.specs.Scans.{HoldsNow, IsScanOf}
use Rattle.disk_use.specs.Unlisted.{AreListed, IsUnlisted}
use Rattle.disk_use.specs.Uses.{IsFree}
use Rattle.disk_use.proofs.Listed.{free_listed}
use Rattle.disk_use.proofs.Looking.{now_weaker}
use Rattle.lvm_run.specs.InUse.{AreAllFree, LeavesInUse}
use Rattle.lvm_run.specs.Scan.{IsOpened, OpensDisks}

abbrev Write : Type 0
Write = Span × List (List ℕ)

-- nothing was done
pub left_same : (old : State) → LeavesInUse old old
left_same old = λ pv before told lt used.
    (before, told, record { since = []; steps = refl; none = All-nil (λ (w : Write). w.0.pv ≢ pv) })

-- ---- the disks were flushed and read

none_written : (steps : List Step) → WritesNothing steps → writes_submitted steps ≡ []
none_written [] nothing = refl
none_written (Submitted tag (Reading span) ∷ steps) nothing = none_written steps nothing
none_written (Submitted tag (Writing span sectors) ∷ steps) nothing = absurd nothing
none_written (Submitted tag (Flushing pv) ∷ steps) nothing = none_written steps nothing
none_written (Completed tag op well fresh ∷ steps) nothing = none_written steps nothing

pub left_opened : (passes : Bool) (old new : State) → BetweenRecords (λ a b. OpensDisks old.sizes a passes b) old.told new.told
    → LeavesInUse old new
left_opened passes old new told = λ pv before there lt used.
    let o = told before there in (
      o.0,
      o.1,
      record {
        since = o.2.since;
        steps = o.2.steps;
        none = subst (All (λ (w : Write). w.0.pv ≢ pv)) (sym (none_written o.2.since o.2.nothing)) (All-nil (λ (w : Write). w.0.pv ≢ pv));
      },
    )

-- ---- none is in use

abbrev Free : List ℕ → Image → Type 0
Free sizes image = (pv : ℕ) → pv < length sizes → IsFree false image sizes pv

-- as what was found says
pub all_free : (old new : State) (found : Found) → IsOpened old found new → AreListed found → AreAllFree old
all_free old new found opened listed =
    now_weaker old.told (λ image. IsScanOf image old.sizes found) (Free old.sizes)
    (λ image scan. free_listed image old.sizes found scan opened.whole.read opened.shape listed) opened.now

pub left_free_all : (old new : State) → AreAllFree old → LeavesInUse old new
left_free_all old new free = λ pv before told lt used.
    absurd (used (subst (λ (t : Option Record). HoldsNow t (Free old.sizes)) told free pv lt))

-- what a session that isn't forced asks of what was found
pub asked_of : (forced : Bool) → forced ≡ false → (found whole : Found) → found ≡ whole → (first : Option ℕ)
    → MatchOption first (AreListed found) (IsUnlisted found)
    → MatchOption first (forced ≡ false → AreListed whole) (λ pv. (forced ≡ false) × IsUnlisted whole pv)
asked_of forced unforced found whole same None all = λ _. subst AreListed same all
asked_of forced unforced found whole same (Some pv) one = (unforced, subst (λ (f : Found). IsUnlisted f pv) same one)

-- ---- whatever a call came to

pub ok_so : {A B : Type 0} {P : Type 0} (r : Result A B) → P → IfOk r (λ _. P)
ok_so (Ok a) p = p
ok_so (Err b) p = tt

pub err_so : {A B : Type 0} {P : Type 0} (r : Result A B) → P → IfErr r (λ _. P)
err_so (Ok a) p = tt
err_so (Err b) p = p
