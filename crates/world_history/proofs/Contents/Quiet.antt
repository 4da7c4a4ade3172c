-- Acts that add no entry: nothing is told, or a step that leaves what a read gives.
use Rattle.std.proofs.Common.{◌≡◌, List, Some, option_map, sym, ap, subst, ◌∙◌}
use Rattle.disk_model.specs.Record.{Operation}
use Rattle.disk_model.specs.Steps.{Record, Step, step_on}
use Rattle.volume_history.specs.Chronicles.{ChronicleEntry, Origin}
use Rattle.volume_history.specs.Laws.{HistoriesGrow}
use Rattle.world_acts.specs.declared.volumes.Volumes.{Volumes}
use Rattle.world_acts.specs.Acts.{World}
use Rattle.world_acts.specs.Owners.{in_flight_at}
use Rattle.io_core.specs.Rest.{SameLines}
use Rattle.world_history.specs.Alone.{AreAlone}
use Rattle.world_history.specs.Apart.{AreApart}
use Rattle.world_history.specs.Contents.{HasContents, origin_with}
use Rattle.world_history.specs.Shown.{AreOfVersion, now_of}
use Rattle.world_history.proofs.Contents.Entered.{shows_step}
use Rattle.world_history.proofs.Contents.Lines.{brought_on, brought_same}

-- nothing is told, and the same lines are open
pub quiet_holds : (o : Origin) (w v : World) (es : List ChronicleEntry) → v.shelf.told ≡ w.shelf.told
    → v.shelf.in_flight ≡ w.shelf.in_flight
    → v.core.volumes ≡ w.core.volumes
    → SameLines w.core.opens v.core.opens
    → AreApart v.core
    → HasContents o w es
    → HasContents o v es
quiet_holds o w v es told flying volumes lines apart c = record {
  told = c.told;
  is = told ∙ c.is;
  holds = record {
    shows = c.holds.shows;
    brought = brought_same (origin_with o c.told) es w v volumes lines c.holds.brought;
    alone =
        λ tag span at. c.holds.alone tag span (ap (λ (ops : List Operation). in_flight_at ops tag) (sym flying) ∙ at);
    apart = apart;
    volumes = subst (λ (x : Volumes). AreOfVersion x o.version) (sym volumes) c.holds.volumes;
  };
}

-- a step is told that leaves what a read gives
pub stepped_holds : (grow : HistoriesGrow) (o : Origin) (w v : World) (es : List ChronicleEntry) (step : Step)
    → v.shelf.told ≡ option_map (step_on step) w.shelf.told
    → ((told : Record) → now_of (step_on step told) ≡ now_of told)
    → v.core.volumes ≡ w.core.volumes
    → SameLines w.core.opens v.core.opens
    → AreApart v.core
    → ((told : Record) → w.shelf.told ≡ Some told → AreAlone w.shelf told → AreAlone v.shelf (step_on step told))
    → HasContents o w es
    → HasContents o v es
stepped_holds grow o w v es step told still volumes lines apart alone c =
    let s = c.holds.shows in
    record {
      told = step_on step c.told;
      is = told ∙ ap (option_map (step_on step)) c.is;
      holds = record {
        shows = shows_step grow (origin_with o c.told) es step (still c.told) s;
        brought =
            brought_on (origin_with o c.told) es step v s.so_far.first s.so_far.upto
            (brought_same (origin_with o c.told) es w v volumes lines c.holds.brought);
        alone = alone c.told c.is c.holds.alone;
        apart = apart;
        volumes = subst (λ (x : Volumes). AreOfVersion x o.version) (sym volumes) c.holds.volumes;
      };
    }
