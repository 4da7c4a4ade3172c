-- A run of a session's script, from a world that was opened on what was found, has one history, each moment of which is consistent, with
-- the causes of its answers.
use Rattle.std.proofs.Common.{◌≡◌, ◌∙◌, List, [], Some, sym, subst}
use Rattle.std.proofs.lemmas.Option.{same_Some}
use Rattle.disk_model.proofs.NowStands.{now_base}
use Rattle.disk_model.proofs.WhereTold.{told_at}
use Rattle.disk_model.specs.Durability.{IsBase}
use Rattle.disk_model.specs.Record.{IsRecord}
use Rattle.disk_model.specs.State.{IsLawful, State}
use Rattle.disk_model.specs.Steps.{Image, Record}
use Rattle.piece_split.specs.Laws.{PiecesCoverRequest}
use Rattle.volume_history.specs.Chronicles.{ChronicleEntry, Origin}
use Rattle.volume_history.specs.Laws.{HistoriesGrow}
use Rattle.world_acts.specs.Acts.{world}
use Rattle.world_history.specs.Causes.{AreCaused}
use Rattle.world_history.specs.Contents.{HasContents, origin_with}
use Rattle.world_history.proofs.Both.{keeps_both}
use Rattle.world_history.proofs.Contents.Opening.{opened_holds}
use Rattle.world_tracks.specs.Histories.{RunsKeepHistories}
use Rattle.world_tracks.specs.Kept.{HasTracks, HasTracksBut, HaveOneValue}
use Rattle.world_tracks.specs.Tracks.{PlaceLaws}
use Rattle.world_tracks.proofs.AnsweredTracked.{NumbersHold}
use Rattle.world_tracks.proofs.Causes.Carried.{HasCauses, HasCausesBut}
use Rattle.world_tracks.proofs.Causes.Keeps.{keeps_causes}
use Rattle.world_tracks.proofs.Causes.Opened.{opened_causes}
use Rattle.world_tracks.proofs.ConsistentNow.{MomentLaws}
use Rattle.world_tracks.proofs.Kept.{keeps_tracks}
use Rattle.world_tracks.proofs.Opened.{opened_tracks}
use Rattle.world_tracks.proofs.RunMoments.{run_consistent}

-- where each sector has one possible value a read gives that
one_value : (o : Origin) (base : Image) → IsRecord o.told.steps → IsBase o.told base → HaveOneValue o o.told
one_value o base is stands key x p there = record {
  each = λ write value may. (stands p.disk p.sector).each write value may ∙ sym (now_base o.told base is stands p.disk p.sector);
}

-- what a lawful shelf has told is a record
told_record : (s : State) → IsLawful s → (told : Record) → s.told ≡ Some told → IsRecord told.steps
told_record s lawful told is = told_at (λ (t : Record). IsRecord t.steps) s.told told lawful.follows is

-- of the same that is told
told_caused : (o : Origin) (es : List ChronicleEntry) (told now : Record) → told ≡ now → AreCaused (origin_with o told) es
    → AreCaused (origin_with o now) es
told_caused o es told now same are = subst (λ (r : Record). AreCaused (origin_with o r) es) same are

pub run_history : {S : Type 0} (state : S → State) → PiecesCoverRequest → HistoriesGrow → PlaceLaws → MomentLaws → NumbersHold
    → RunsKeepHistories state
run_history state law grow places moments numbers start script session found disks allows ended wanted refused opened kept flying run o base
    is starts has stands past =
    let w = world (state start.shelf) start.core in
    let c : HasContents o w [] = opened_holds o w found disks opened starts is flying in
    run_consistent state law start script session found disks allows ended wanted refused opened kept run moments o base has
    (λ line w es. HasTracksBut line o w es × HasCausesBut line o w es) (λ w es. HasTracks o w es × HasCauses o w es)
    (λ line w es k. record { contents = k.0.contents; notes = k.0.notes; tracked = k.0.tracked })
    (λ w es k. record { contents = k.0.contents; notes = k.0.notes; tracked = k.0.tracked })
    (λ w es k told then. told_caused o es k.1.told told (same_Some k.1.told told (sym k.1.is ∙ then)) k.1.knows.answered)
    (keeps_both (keeps_tracks grow places numbers o starts.names) (keeps_causes o)) is starts.start (
      opened_tracks places o w found disks opened c
          (subst (HaveOneValue o) (same_Some o.told c.told (sym is ∙ c.is))
          (one_value o base (told_record (state start.shelf) kept.orderly.backed.lawful o.told is) stands)),
      opened_causes o w found disks opened c,
    ) stands past
