-- A version that a command makes of another is shown while it is pending, and once it is made, where no place of a volume is
-- touched and what it creates has one value.
use Rattle.std.proofs.Common.{◌≡◌, ℕ, ◌+◌, Bool, true, false, if◌then◌else◌, slice_index_or, List, [], ◌∷◌, Option, inl, inr, ⊎_elim, refl}
use Rattle.std.proofs.Common.{sym, ap, subst, ◌∙◌}
use Rattle.std.proofs.lemmas.Bool.{true≢false}
use Rattle.command_table.specs.declared.command.Command.{Command}
use Rattle.data_lines.specs.DataLines.{zero_sector}
use Rattle.disk_model.specs.CrashValues.{MayLeave}
use Rattle.disk_model.specs.Steps.{Image}
use Rattle.line_table.specs.Machine.{PlainState, PlainStep, PlainVolume, plain_after, sector_of, sectors_of}
use Rattle.group_ops.specs.Planning.{zeroes}
use Rattle.vg_scan.specs.Versions.{Version}
use Rattle.volume_history.proofs.CommandKinds.{none_zeroed}
use Rattle.volume_history.specs.Single.{ZeroesStand}
use Rattle.volume_history.proofs.Quiet.{OwnSectors, own_sectors, untouched_at, value_on, values_length}
use Rattle.volume_history.specs.Candidates.{base, is_born, is_zeroed, no_image, place_at}
use Rattle.volume_history.specs.Chronicles.{ChronicleEntry, Origin, now_at}
use Rattle.volume_history.specs.Parts.{IsZeroAt, NextPlaces, PlaceHolds, Primaries}
use Rattle.volume_history.specs.Placed.{Place, PlacedVolume, volumes_of}
use Rattle.volume_history.specs.Quiet.{AllUntouched}
use Rattle.volume_history.specs.Replay.{command_step, opening_state, opening_volumes, plain_state}
use Rattle.volume_history.specs.Reshaping.{AllCome, AllZeroed, MakesVersion, StoodAt, born_value}
use Rattle.volume_history.specs.Sources.{Base}

-- ---- what stood

-- a sector that stood has at its place what the machine has, whatever a crash leaves
module _ (o : Origin) where
  abbrev first_image : Image
  first_image = now_at o o.first

  stood_value : (k : ℕ) (vs : List PlacedVolume) (whole : List PlainVolume) → AllUntouched first_image vs o.told
      → OwnSectors whole (opening_volumes first_image k vs) → (key x : ℕ) (place : Place) → StoodAt vs k key x place
      → (write : Option ℕ) (value : List ℕ) → MayLeave o.told.opened o.told.steps place.disk place.sector write value
      → slice_index_or (sectors_of whole key) x [] ≡ value
  stood_value k [] whole untouched own key x place stood write value may = absurd stood
  stood_value k (v ∷ vs) whole untouched own key x place (inl here) write value may =
      ap (λ (n : ℕ). slice_index_or (sectors_of whole n) x []) (sym here.0)
      ∙ ap (λ (s : List (List ℕ)). slice_index_or s x []) own.0
      ∙ value_on first_image v.places x here.1
      ∙ sym (untouched_at first_image v.places o.told x here.1 untouched.0 write value
      (subst (λ (p : Place). MayLeave o.told.opened o.told.steps p.disk p.sector write value) (sym here.2) may))
  stood_value k (v ∷ vs) whole untouched own key x place (inr later) write value may =
      stood_value (k + 1) vs whole untouched.1 own.1 key x place later write value may

  -- a history without births and writes: the base of each sector is the opening
  abbrev pub HasNoBase : List ChronicleEntry → Type 0
  HasNoBase es = (key x : ℕ) → base o es key x ≡ []

  pub stood_holds : (es : List ChronicleEntry) (key x : ℕ) → base o es key x ≡ [] → AllUntouched first_image (volumes_of o.version) o.told
      → (place : Place) → StoodAt (volumes_of o.version) 0 key x place → PlaceHolds o es key x place
  stood_holds es key x none untouched place stood = record {
    each = λ write value may. (
      Base,
      tt,
      ap (λ (b : List ChronicleEntry). sector_of (plain_state o b) key x) none
          ∙ stood_value 0 (volumes_of o.version) (opening_volumes first_image 0 (volumes_of o.version)) untouched
          (own_sectors first_image 0 (volumes_of o.version)) key x place stood write value may,
    );
  }

  -- ---- the version in force

  in_force_from : (es : List ChronicleEntry) (k : ℕ) (vs : List PlacedVolume) (whole : List PlacedVolume)
      → ((key x : ℕ) (place : Place) → StoodAt vs k key x place → StoodAt whole 0 key x place)
      → ((key x : ℕ) (place : Place) → StoodAt whole 0 key x place → PlaceHolds o es key x place)
      → Primaries o es vs (opening_volumes first_image k vs)
  in_force_from es k [] whole sub holds = tt
  in_force_from es k (v ∷ vs) whole sub holds = (
    refl,
    values_length first_image v.places,
    λ x lt. holds k x (place_at v.places x) (sub k x (place_at v.places x) (inl (refl, lt, refl))),
    in_force_from es (k + 1) vs whole (λ key x place stood. sub key x place (inr stood)) holds,
  )

  pub opening_primaries : (es : List ChronicleEntry) → HasNoBase es → AllUntouched first_image (volumes_of o.version) o.told
      → Primaries o es (volumes_of o.version) (opening_state o).volumes
  opening_primaries es none untouched =
      in_force_from es 0 (volumes_of o.version) (volumes_of o.version) (λ key x place stood. stood)
      (λ key x place stood. stood_holds es key x (none key x) untouched place stood)

  -- ---- the pending version

  module _ (es : List ChronicleEntry) (none : HasNoBase es) (opening : plain_state o es ≡ opening_state o)
      (untouched : AllUntouched first_image (volumes_of o.version) o.told) (step : PlainStep) where
    next_from : (vs : List PlacedVolume) (ps : List PlainVolume) → AllCome (volumes_of o.version) (opening_state o) step no_image vs ps
        → AllZeroed o step (opening_state o) vs ps → NextPlaces o es step vs ps
    next_from [] [] come zeroed = tt
    next_from [] (p ∷ ps) come zeroed = absurd come
    next_from (v ∷ vs) [] come zeroed = absurd come
    next_from (v ∷ vs) (p ∷ ps) come zeroed = (
      come.0,
      come.1,
      λ x lt.
          ⊎_elim
          (λ born. inl (born_now p.key x born.0, λ zero. zeroed.0 x lt born.0 zero))
          (λ stood. inr (born_now' p.key x stood.0, stood_holds es p.key x (none p.key x) untouched (place_at v.places x) stood.1))
          (come.2 x lt),
      next_from vs ps come.3 zeroed.1,
    )
      where
        born_now : (key x : ℕ) → is_born step (opening_state o) key x ≡ true → is_born step (plain_state o es) key x ≡ true
        born_now key x is = ap (λ (s : PlainState). is_born step s key x) opening ∙ is

        born_now' : (key x : ℕ) → is_born step (opening_state o) key x ≡ false → is_born step (plain_state o es) key x ≡ false
        born_now' key x is = ap (λ (s : PlainState). is_born step s key x) opening ∙ is

  pub next_places : (es : List ChronicleEntry) → HasNoBase es → plain_state o es ≡ opening_state o
      → AllUntouched first_image (volumes_of o.version) o.told → (c : Command) (next : Option Version) → MakesVersion c o.version next
      → AllZeroed o (command_step c o.version next (opening_state o) no_image) (opening_state o) (volumes_of next)
      (plain_after (opening_state o) (command_step c o.version next (opening_state o) no_image)).volumes
      → NextPlaces o es (command_step c o.version next (opening_state o) no_image) (volumes_of next)
      (plain_after (opening_state o) (command_step c o.version next (opening_state o) no_image)).volumes
  next_places es none opening untouched c next makes zeroed =
      next_from es none opening untouched (command_step c o.version next (opening_state o) no_image) (volumes_of next)
      (plain_after (opening_state o) (command_step c o.version next (opening_state o) no_image)).volumes
      (makes.volumes first_image no_image) zeroed

  -- ---- the version that was made

  module _ (es : List ChronicleEntry) (none : HasNoBase es) (untouched : AllUntouched first_image (volumes_of o.version) o.told)
      (done : List ChronicleEntry) (step : PlainStep) (image : Image)
      (born_base : (key x : ℕ) → is_born step (opening_state o) key x ≡ true
      → sector_of (plain_state o (base o done key x)) key x ≡ sector_of (plain_after (opening_state o) step) key x)
      (old_base : (key x : ℕ) → is_born step (opening_state o) key x ≡ false → base o done key x ≡ []) where
    made_from : (vs : List PlacedVolume) (ps : List PlainVolume) → AllCome (volumes_of o.version) (opening_state o) step image vs ps
        → AllUntouched image vs o.told → AllZeroed o step (opening_state o) vs ps → Primaries o done vs ps
    made_from [] [] come after zeroed = tt
    made_from [] (p ∷ ps) come after zeroed = absurd come
    made_from (v ∷ vs) [] come after zeroed = absurd come
    made_from (v ∷ vs) (p ∷ ps) come after zeroed = (
      come.0,
      come.1,
      λ x lt.
          ⊎_elim
          (λ born. record {
            each =
                λ write value may. (
                  Base,
                  tt,
                  born_base p.key x born.0 ∙ born.1
                      ∙ of_value x (place_at v.places x) (is_zeroed step x) refl (zeroed.0 x lt born.0)
                      (untouched_at image v.places o.told x lt after.0 write value may) write may,
                );
          })
          (λ stood. stood_holds done p.key x (old_base p.key x stood.0) untouched (place_at v.places x) stood.1)
          (come.2 x lt),
      made_from vs ps come.3 after.1 zeroed.1,
    )
      where
        of_value : (x : ℕ) (place : Place) {value : List ℕ} (z : Bool) → is_zeroed step x ≡ z → (is_zeroed step x ≡ true → IsZeroAt o place)
            → value ≡ image place.disk place.sector → (write : Option ℕ)
            → MayLeave o.told.opened o.told.steps place.disk place.sector write value → born_value step image x place ≡ value
        of_value x place {value} true is zero_at shown write may =
            ap (λ (b : Bool). if b then zero_sector else image place.disk place.sector) is ∙ sym ((zero_at is).each write value may)
        of_value x place false is zero_at shown write may =
            ap (λ (b : Bool). if b then zero_sector else image place.disk place.sector) is ∙ sym shown

  pub made_primaries : (es : List ChronicleEntry) → HasNoBase es → AllUntouched first_image (volumes_of o.version) o.told
      → (done : List ChronicleEntry) (step : PlainStep) (image : Image)
      → ((key x : ℕ) → is_born step (opening_state o) key x ≡ true
      → sector_of (plain_state o (base o done key x)) key x ≡ sector_of (plain_after (opening_state o) step) key x)
      → ((key x : ℕ) → is_born step (opening_state o) key x ≡ false → base o done key x ≡ [])
      → (vs : List PlacedVolume) (ps : List PlainVolume) → AllCome (volumes_of o.version) (opening_state o) step image vs ps
      → AllUntouched image vs o.told → AllZeroed o step (opening_state o) vs ps → Primaries o done vs ps
  made_primaries es none untouched done step image born_base old_base vs ps come after zeroed =
      made_from es none untouched done step image born_base old_base vs ps come after zeroed

-- where no sector is born as a zero nothing is asked of zeros
zeroed_by : (o : Origin) (before : List PlacedVolume) (step : PlainStep) (state : PlainState) (image : Image)
    → ((x : ℕ) → is_zeroed step x ≡ false) → (vs : List PlacedVolume) (ps : List PlainVolume) → AllCome before state step image vs ps
    → AllZeroed o step state vs ps
zeroed_by o before step state image none [] [] come = tt
zeroed_by o before step state image none [] (p ∷ ps) come = absurd come
zeroed_by o before step state image none (v ∷ vs) [] come = absurd come
zeroed_by o before step state image none (v ∷ vs) (p ∷ ps) come =
    ((λ x lt born zero. absurd (true≢false (sym zero ∙ none x))), zeroed_by o before step state image none vs ps come.3)

pub zeroes_stand : (o : Origin) (c : Command) (version : Option Version) → zeroes c ≡ false → MakesVersion c o.version version
    → ZeroesStand o c version
zeroes_stand o c version none makes image =
    let state : PlainState = opening_state o in
    let step : PlainStep = command_step c o.version version state image in
    zeroed_by o (volumes_of o.version) step state image (λ x. none_zeroed c none o.version version state image x) (volumes_of version)
    (plain_after state step).volumes (makes.volumes (now_at o o.first) image)
