-- A new volume whose first sectors may hold zeros alone.
use Rattle.std.proofs.Common.{◌≡◌, ◌≤◌, ◌<◌, ℕ, ◌+◌, true, List, [], ◌∷◌, ◌++◌, length, Option, sym, ap, subst, ◌∙◌, arith}
use Rattle.std.specs.Prelude.{nat_lt, false, Bool, ◌&&◌}
use Rattle.std.proofs.lemmas.Bool.{ltb-true, true≢false}
use Rattle.command_table.specs.declared.command.Command.TheVariants.{Lvcreate}
use Rattle.command_table.specs.declared.command.NewVolume.{NewVolume}
use Rattle.disk_model.specs.Steps.{Image}
use Rattle.line_table.specs.Machine.{PlainState, PlainStep, Created, PlainVolume}
use Rattle.vg_scan.specs.Versions.{Version}
use Rattle.volume_history.proofs.ComingFrom.{other_equal}
use Rattle.volume_history.specs.Candidates.{is_born, is_zeroed, place_at}
use Rattle.volume_history.specs.Changing.{ChangesVolumes}
use Rattle.volume_history.specs.Chronicles.{Origin, now_at}
use Rattle.volume_history.specs.Parts.{IsZeroAt}
use Rattle.volume_history.specs.Placed.{PlacedVolume, values_on, volumes_of}
use Rattle.volume_history.specs.Replay.{opening_state, opening_volumes, places_named, zeroed}
use Rattle.volume_history.specs.Reshaping.{AllZeroed}
use Rattle.volume_history.specs.Single.{ZeroesStand}

-- where no sector of the volumes that stood is born, only those of the last one are asked
zeroed_last : (o : Origin) (step : PlainStep) (state : PlainState) (opening : Image) (k : ℕ) (vs : List PlacedVolume) (v : PlacedVolume)
    (p : PlainVolume)
    → ((key x : ℕ) → k ≤ key → key < k + length vs → is_born step state key x ≡ false)
    → ((x : ℕ) → x < length v.places → is_born step state p.key x ≡ true → is_zeroed step x ≡ true → IsZeroAt o (place_at v.places x))
    → AllZeroed o step state (vs ++ v ∷ []) (opening_volumes opening k vs ++ p ∷ [])
zeroed_last o step state opening k [] v p old own = (own, tt)
zeroed_last o step state opening k (w ∷ vs) v p old own = (
  λ x lt born zero. absurd (true≢false (sym born ∙ old k x (omega arith) (omega arith))),
  zeroed_last o step state opening (k + 1) vs v p (λ key x le lt. old key x (omega (arith, le)) (omega (arith, lt))) own,
)

pub new_zeroes_stand : (o : Origin) (new : NewVolume) (version : Option Version) (is : ChangesVolumes (Lvcreate new) o.version version)
    → ((x : ℕ) → x < length is.0.places → x < 8 → IsZeroAt o (place_at is.0.places x)) → ZeroesStand o (Lvcreate new) version
new_zeroes_stand o new version is zero image =
    let state : PlainState = opening_state o in
    let vs : List PlacedVolume = volumes_of o.version in
    let sectors : List (List ℕ) = zeroed 8 (values_on image (places_named (volumes_of version) new.lv)) in
    let step : PlainStep = Created new.lv sectors in
    let own : PlainVolume = record { key = length vs; name = new.lv; sectors = sectors } in
    subst (λ (l : List PlacedVolume). AllZeroed o step state l (state.volumes ++ own ∷ [])) (sym is.2)
    (zeroed_last o step state (now_at o o.first) 0 vs is.0 own
    (λ key x le lt. ap (λ (b : Bool). b && nat_lt x (length sectors)) (other_equal (length vs) key (omega (arith, lt))))
    (λ x lt born low. zero x lt (ltb-true x 8 low)))
