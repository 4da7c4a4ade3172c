-- Traces of a world: which events it went through, that lines were begun as early as they might be, and where memory was wanted.
use Rattle.std.specs.Prelude.{◌≡◌, Bool, false, Option, None, List, [], ◌∷◌, ◌++◌}
use Rattle.io_session.specs.Events.{Event, Begins, RefusesLine, Completes, refused_after, wanted_after}

-- an event with the world before it
pub record TraceStep (W L : Type 0) : Type 0 where
  pub before : W
  pub event : Event L

module _ {W L : Type 0} where
  -- the one world came from the other by these events, the newest first
  abbrev pub IsTrace : (W → Event L → W → Type 0) → W → List (TraceStep W L) → W → Type 0
  IsTrace makes start [] world = world ≡ start
  IsTrace makes start (s ∷ steps) world = makes s.before s.event world × IsTrace makes start steps s.before

  -- whether memory was wanted in one of these events
  abbrev pub was_wanted : List (TraceStep W L) → Bool
  was_wanted [] = false
  was_wanted (s ∷ steps) = wanted_after s.event (was_wanted steps)

  -- the line that came back in one of these events, if one did
  abbrev pub refused_in : List (TraceStep W L) → Option L
  refused_in [] = None
  refused_in (s ∷ steps) = refused_after s.event (refused_in steps)

  -- the line is that of the script which comes behind those that the world has begun
  abbrev pub IsNextOf : (W → List L) → List L → W → L → Type 0
  IsNextOf begun script world line = (later : List L) × (script ≡ begun world ++ line ∷ later)

  -- the event came in time: unless memory was wanted before, the next line of the script is begun or comes back, and that line
  -- might not begin before an operation completes
  abbrev pub IsTimelyAt : (W → List L) → (W → L → Bool) → List L → Bool → W → Event L → Type 0
  IsTimelyAt begun allows script wanted world (Begins line) = (wanted ≡ false) × IsNextOf begun script world line
  IsTimelyAt begun allows script wanted world (RefusesLine line) = (wanted ≡ false) × IsNextOf begun script world line
  IsTimelyAt begun allows script wanted world Completes =
      wanted ≡ false → (line : L) → IsNextOf begun script world line → allows world line ≡ false
  IsTimelyAt begun allows script wanted world _ = Unit {0}

  -- each event came in time
  abbrev pub IsTimely : (W → List L) → (W → L → Bool) → List L → List (TraceStep W L) → Type 0
  IsTimely begun allows script [] = Unit {0}
  IsTimely begun allows script (s ∷ steps) =
      IsTimelyAt begun allows script (was_wanted steps) s.before s.event × IsTimely begun allows script steps

-- The world came from the one at the start by events, each in time for the script: its lines were begun in order until memory
-- was wanted, and no operation completed while the next line might begin. So it is told whether memory was wanted, and which line
-- came back.
pub record HasTimelyTrace {W L : Type 0} (begun : W → List L) (allows : W → L → Bool) (makes : W → Event L → W → Type 0)
    (start : W) (script : List L) (world : W) (wanted : Bool) (refused : Option L) : Type 0 where
  pub steps : List (TraceStep W L)
  pub trace : IsTrace makes start steps world
  pub timely : IsTimely begun allows script steps
  pub told : was_wanted steps ≡ wanted
  pub told_line : refused_in steps ≡ refused
