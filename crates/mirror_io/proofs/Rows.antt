-- A mirror of three legs, and what is used of it in each state.
use Rattle.std.proofs.Common.{◌≡◌, true, false, None, Some, List, [], ◌∷◌, refl}
use Rattle.sector_base.specs.declared.places.At.{At}
use Rattle.region_log.specs.declared.region.Region.TheVariants.{Unsynced, Copying, Synced}
use Rattle.mirror_io.specs.Legs.{legs_for, next_leg}

abbrev primary : At
primary = record { pv = 0; sector = 2048 }

abbrev others : List At
others = record { pv = 1; sector = 4096 } ∷ record { pv = 2; sector = 384 } ∷ []

writes_all : legs_for primary others Synced true ≡ primary ∷ record { pv = 1; sector = 4096 } ∷ record { pv = 2; sector = 384 } ∷ []
writes_all = refl

reads_one : legs_for primary others Synced false ≡ primary ∷ []
reads_one = refl

writes_one : legs_for primary others Unsynced true ≡ primary ∷ []
writes_one = refl

copied_alone : legs_for primary others Copying true ≡ primary ∷ []
copied_alone = refl

reads_second : next_leg primary others Synced 1 ≡ Some (record { pv = 1; sector = 4096 })
reads_second = refl

reads_third : next_leg primary others Synced 2 ≡ Some (record { pv = 2; sector = 384 })
reads_third = refl

all_tried : next_leg primary others Synced 3 ≡ None
all_tried = refl

may_differ : next_leg primary others Unsynced 1 ≡ None
may_differ = refl

being_copied : next_leg primary others Copying 1 ≡ None
being_copied = refl
