-- Volumes in memory keep the laws of volumes.
use Rattle.disk_model.specs.State.{State, IsLawful}
use Rattle.cow_store.specs.MemVols.{IsBetweenCalls, volumes_of}
use Rattle.cow_store.specs.VolStates.{AreLawful}

-- they do by the laws of the shelf
pub lawful_volumes : (shelf : State) → IsLawful shelf → IsBetweenCalls shelf → AreLawful (volumes_of shelf)
lawful_volumes shelf lawful between = record {
  follows = lawful.follows;
  one_by_one = between.one_by_one;
  opened = lawful.opened;
  written = lawful.written;
}
