-- Acts that follow one another: none, one, those of two lists, and what each of them keeps.
use Rattle.std.proofs.Common.{◌≡◌, ℕ, Bool, true, false, not, All, List, [], ◌∷◌, ◌++◌, Option, None, Some, refl, sym, ap, subst, ◌∙◌}
use Rattle.std.proofs.Common.{true≢false}
use Rattle.std.specs.Option.{option_or}
use Rattle.std.proofs.lemmas.Bool.{and_parts, eq-eqb}
use Rattle.std.proofs.lemmas.List.Elements.{All-append, All-cons, All-head, All-nil, All-tail, All-weaker}
use Rattle.sector_base.specs.declared.places.Piece.{Piece}
use Rattle.line_answers.specs.declared.answer.Answer.TheVariants.{PvFailed, ReadFailed}
use Rattle.disk_model.specs.declared.ops.Op.{Op}
use Rattle.disk_model.specs.declared.ops.Op.TheVariants.{Flush as FlushOp, Read as ReadOp, Write as WriteOp}
use Rattle.claim_table.specs.declared.claim.By.{By}
use Rattle.claim_table.specs.declared.claim.Entry.{Entry}
use Rattle.claim_table.specs.declared.claim.Entry.TheVariants.{Deferred, Started}
use Rattle.world_acts.specs.Acts.{Act, Allowed, Answers, Asks, AsksFlush, Awaits, Begins, Ends, EndsFlush, Enters, Fails, Grows, Holds}
use Rattle.world_acts.specs.Acts.{LineFails, Marks, Passes, Prepares, Reaches, Readies, Reads, Releases, Runs, SettlesAndGoes, Starts}
use Rattle.world_acts.specs.Acts.{Wakes}
use Rattle.world_acts.specs.Acts.{World, Writes, flushing, goes_on, settles, settling}
use Rattle.world_acts.specs.Acts.{after, carries_on, first_deferral, follows, opens_event, owes_more, pieces_entered, prepares, starts}

pub reaches_none : (may : Act → Bool) (w : World) → Reaches may w w
reaches_none may w = record { acts = []; all = All-nil (λ (a : Act). may a ≡ true); run = refl }

pub reaches_act : (may : Act → Bool) (w : World) (a : Act) → may a ≡ true → Allowed w a → Reaches may w (after w a)
reaches_act may w a passes allowed = record {
  acts = a ∷ [];
  all = All-cons (λ (b : Act). may b ≡ true) a [] passes (All-nil (λ (b : Act). may b ≡ true));
  run = (allowed, refl);
}

runs_both : (first later : List Act) (w v u : World) → Runs w first v → Runs v later u → Runs w (first ++ later) u
runs_both [] later w v u run rest = subst (λ (x : World). Runs x later u) run rest
runs_both (a ∷ first) later w v u run rest = (run.0, runs_both first later (after w a) v u run.1 rest)

pub reaches_both : (may : Act → Bool) (w v u : World) → Reaches may w v → Reaches may v u → Reaches may w u
reaches_both may w v u first later = record {
  acts = first.acts ++ later.acts;
  all = All-append (λ (a : Act). may a ≡ true) first.acts later.acts first.all later.all;
  run = runs_both first.acts later.acts w v u first.run later.run;
}

-- acts that pass one test pass another
pub reaches_weaker : (may most : Act → Bool) (w v : World) → ((a : Act) → may a ≡ true → most a ≡ true) → Reaches may w v
    → Reaches most w v
reaches_weaker may most w v passes goes = record {
  acts = goes.acts;
  all = All-weaker (λ (a : Act). may a ≡ true) (λ (a : Act). most a ≡ true) passes goes.acts goes.all;
  run = goes.run;
}

-- what follows goes on with what was, and that may also carry a line on
pub follows_go : (w v : World) → Reaches follows w v → Reaches goes_on w v
follows_go w v goes = reaches_weaker follows goes_on w v (λ a is. (and_parts (goes_on a) (not (settles a)) is).0) goes

pub going_carried : (w v : World) → Reaches goes_on w v → Reaches carries_on w v
going_carried w v goes =
    reaches_weaker goes_on carries_on w v (λ a is. (and_parts (not (opens_event a)) (not (owes_more a)) is).0) goes

pub reaches_carried : (w v : World) → Reaches follows w v → Reaches carries_on w v
reaches_carried w v goes = going_carried w v (follows_go w v goes)

-- ---- what an operation came to

-- these acts go on, and those behind them
settled_on : (acts : List Act) (w v : World) → All (λ (a : Act). goes_on a ≡ true) acts → SettlesAndGoes acts w v → Reaches goes_on w v
settled_on acts w v all s =
    reaches_both goes_on w s.mid v (record { acts = acts; all = all; run = s.settles }) (follows_go s.mid v s.goes)

one_goes : (a : Act) → goes_on a ≡ true → All (λ (b : Act). goes_on b ≡ true) (a ∷ [])
one_goes a is = All-cons (λ (b : Act). goes_on b ≡ true) a [] is (All-nil (λ (b : Act). goes_on b ≡ true))

pub settling_goes : (number : ℕ) (op : Op) (well : Bool) → All (λ (a : Act). goes_on a ≡ true) (settling number op well)
settling_goes number (WriteOp span sectors) true = one_goes (Writes number span.pv) refl
settling_goes number (WriteOp span sectors) false =
    All-cons (λ (b : Act). goes_on b ≡ true) (Marks span.pv) (Fails number (PvFailed span.pv) ∷ []) refl
    (one_goes (Fails number (PvFailed span.pv)) refl)
settling_goes number (ReadOp span sectors) true = one_goes (Reads number sectors) refl
settling_goes number (ReadOp span sectors) false = one_goes (Fails number (ReadFailed span.pv)) refl
settling_goes number (FlushOp pv) well = All-nil (λ (b : Act). goes_on b ≡ true)

pub piece_goes : (number : ℕ) (op : Op) (well : Bool) (w v : World) → SettlesAndGoes (settling number op well) w v → Reaches goes_on w v
piece_goes number op well w v s = settled_on (settling number op well) w v (settling_goes number op well) s

pub flushing_goes : (op : Op) (well : Bool) → All (λ (a : Act). goes_on a ≡ true) (flushing op well)
flushing_goes (FlushOp pv) true = All-nil (λ (b : Act). goes_on b ≡ true)
flushing_goes (FlushOp pv) false = one_goes (Marks pv) refl
flushing_goes (WriteOp span sectors) well = All-nil (λ (b : Act). goes_on b ≡ true)
flushing_goes (ReadOp span sectors) well = All-nil (λ (b : Act). goes_on b ≡ true)

pub flush_goes : (op : Op) (well : Bool) (w v : World) → SettlesAndGoes (flushing op well) w v → Reaches goes_on w v
flush_goes op well w v s = settled_on (flushing op well) w v (flushing_goes op well) s

-- and more may follow
pub settled_further : {acts : List Act} (w v u : World) → SettlesAndGoes acts w v → Reaches follows v u → SettlesAndGoes acts w u
settled_further w v u s more = record { mid = s.mid; settles = s.settles; goes = reaches_both follows s.mid v u s.goes more }

-- the start of a piece follows, and is of its line
start_follows : (a : Act) → starts a ≡ true → follows a ≡ true
start_follows (Starts number) is = refl
start_follows (Asks number op tag now) is = refl
start_follows (Fails number (PvFailed pv)) is = refl
start_follows a is = absurd (true≢false (sym is))

start_prepares : (line : ℕ) (a : Act) → starts a ≡ true → prepares line a ≡ true
start_prepares line (Starts number) is = refl
start_prepares line (Asks number op tag now) is = refl
start_prepares line (Fails number (PvFailed pv)) is = refl
start_prepares line a is = absurd (true≢false (sym is))

start_enters : (a : Act) (acts : List Act) → starts a ≡ true
    → (pieces_entered (a ∷ acts) ≡ pieces_entered acts) × (first_deferral (a ∷ acts) ≡ first_deferral acts)
start_enters (Starts number) acts is = (refl, refl)
start_enters (Asks number op tag now) acts is = (refl, refl)
start_enters (Fails number (PvFailed pv)) acts is = (refl, refl)
start_enters a acts is = absurd (true≢false (sym is))

none_enters : (acts : List Act) → All (λ (a : Act). starts a ≡ true) acts → (pieces_entered acts ≡ []) × (first_deferral acts ≡ None)
none_enters [] all = (refl, refl)
none_enters (a ∷ acts) all =
    let first = start_enters a acts (All-head (λ (b : Act). starts b ≡ true) a acts all) in
    let rest = none_enters acts (All-tail (λ (b : Act). starts b ≡ true) a acts all) in
    (first.0 ∙ rest.0, first.1 ∙ rest.1)

pub starts_follow : (w v : World) → Reaches starts w v → Reaches follows w v
starts_follow w v goes = reaches_weaker starts follows w v start_follows goes

pub starts_go : (w v : World) → Reaches starts w v → Reaches goes_on w v
starts_go w v goes = follows_go w v (starts_follow w v goes)

-- ---- a line is prepared

prepare_carries : (line : ℕ) (a : Act) → prepares line a ≡ true → carries_on a ≡ true
prepare_carries line (Enters n piece sectors ticket entry) is = refl
prepare_carries line (Awaits n pv) is = refl
prepare_carries line (LineFails n why) is = refl
prepare_carries line (Starts number) is = refl
prepare_carries line (Asks number op tag now) is = refl
prepare_carries line (Fails number (PvFailed pv)) is = refl
prepare_carries line a is = absurd (true≢false (sym is))

pub prepared_carried : (line : ℕ) (pieces : List Piece) (first : Option By) (w v : World) → Prepares line pieces first w v
    → Reaches carries_on w v
prepared_carried line pieces first w v p = reaches_weaker (prepares line) carries_on w v (prepare_carries line) p.reaches

pub prepares_none : (line : ℕ) (w : World) → Prepares line [] None w w
unfolding reaches_none
prepares_none line w = record { reaches = reaches_none (prepares line) w; entered = refl; deferred = refl }

pub prepares_starts : (line : ℕ) (w v : World) → Reaches starts w v → Prepares line [] None w v
unfolding reaches_weaker
prepares_starts line w v goes = record {
  reaches = reaches_weaker starts (prepares line) w v (start_prepares line) goes;
  entered = (none_enters goes.acts goes.all).0;
  deferred = (none_enters goes.acts goes.all).1;
}

-- what a piece that enters waits for
abbrev pub deferral : Entry → Option By
deferral Started = None
deferral (Deferred by) = Some by

entry_deferral : (line : ℕ) (piece : Piece) (sectors : List (List ℕ)) (ticket : Option (Unit {0})) (entry : Entry) (acts : List Act)
    → first_deferral (Enters line piece sectors ticket entry ∷ acts) ≡ option_or (deferral entry) (first_deferral acts)
entry_deferral line piece sectors ticket Started acts = refl
entry_deferral line piece sectors ticket (Deferred by) acts = refl

pub prepares_enter : (w : World) (line : ℕ) (piece : Piece) (sectors : List (List ℕ)) (ticket : Option (Unit {0})) (entry : Entry)
    → Allowed w (Enters line piece sectors ticket entry)
    → Prepares line (piece ∷ []) (deferral entry) w (after w (Enters line piece sectors ticket entry))
unfolding reaches_act
prepares_enter w line piece sectors ticket entry allowed = record {
  reaches = reaches_act (prepares line) w (Enters line piece sectors ticket entry) (eq-eqb line line refl) allowed;
  entered = refl;
  deferred = entry_deferral line piece sectors ticket entry [] ∙ or_none (deferral entry);
}
  where
    or_none : (o : Option By) → option_or o None ≡ o
    or_none None = refl
    or_none (Some by) = refl

pub prepares_act : (w : World) (line : ℕ) (a : Act) → prepares line a ≡ true → pieces_entered (a ∷ []) ≡ []
    → first_deferral (a ∷ []) ≡ None
    → Allowed w a
    → Prepares line [] None w (after w a)
unfolding reaches_act
prepares_act w line a passes none first allowed = record {
  reaches = reaches_act (prepares line) w a passes allowed;
  entered = none;
  deferred = first;
}

entered_both : (acts later : List Act)
    → (pieces_entered (acts ++ later) ≡ pieces_entered acts ++ pieces_entered later)
    × (first_deferral (acts ++ later) ≡ option_or (first_deferral acts) (first_deferral later))
entered_both [] later = (refl, refl)
entered_both (Enters line piece sectors ticket Started ∷ acts) later =
    let rest = entered_both acts later in
    (ap (λ (ps : List Piece). piece ∷ ps) rest.0, rest.1)
entered_both (Enters line piece sectors ticket (Deferred by) ∷ acts) later =
    (ap (λ (ps : List Piece). piece ∷ ps) (entered_both acts later).0, refl)
entered_both (Begins line opened ∷ acts) later = entered_both acts later
entered_both (Awaits line pv ∷ acts) later = entered_both acts later
entered_both (LineFails line why ∷ acts) later = entered_both acts later
entered_both (Answers line ∷ acts) later = entered_both acts later
entered_both (Holds line ∷ acts) later = entered_both acts later
entered_both (Passes line ∷ acts) later = entered_both acts later
entered_both (Wakes ∷ acts) later = entered_both acts later
entered_both (Starts number ∷ acts) later = entered_both acts later
entered_both (Asks number op tag now ∷ acts) later = entered_both acts later
entered_both (Ends done now ∷ acts) later = entered_both acts later
entered_both (Marks pv ∷ acts) later = entered_both acts later
entered_both (Fails number why ∷ acts) later = entered_both acts later
entered_both (Writes number pv ∷ acts) later = entered_both acts later
entered_both (Reads number sectors ∷ acts) later = entered_both acts later
entered_both (AsksFlush pv tag now ∷ acts) later = entered_both acts later
entered_both (EndsFlush done now ∷ acts) later = entered_both acts later
entered_both (Releases pv ∷ acts) later = entered_both acts later
entered_both (Readies now ∷ acts) later = entered_both acts later
entered_both (Grows v ∷ acts) later = entered_both acts later

pub prepares_both : (line : ℕ) (pieces others all : List Piece) (first later : Option By) (w v u : World) → pieces ++ others ≡ all
    → Prepares line pieces first w v
    → Prepares line others later v u
    → Prepares line all (option_or first later) w u
unfolding reaches_both
prepares_both line pieces others all first later w v u is p q =
    let both = entered_both p.reaches.acts q.reaches.acts in
    record {
      reaches = reaches_both (prepares line) w v u p.reaches q.reaches;
      entered =
          both.0 ∙ ap (λ (ps : List Piece). ps ++ pieces_entered q.reaches.acts) p.entered
          ∙ ap (λ (ps : List Piece). pieces ++ ps) q.entered ∙ is;
      deferred = both.1 ∙ (λ i. option_or (p.deferred i) (q.deferred i));
    }

-- what each act keeps that passes the test, all of them keep
module _ (may : Act → Bool) (P : World → Type 0)
    (step : (w : World) (a : Act) → may a ≡ true → Allowed w a → P w → P (after w a)) where
  runs_keep : (acts : List Act) (w v : World) → All (λ (a : Act). may a ≡ true) acts → Runs w acts v → P w → P v
  runs_keep [] w v all run is = subst P (sym run) is
  runs_keep (a ∷ acts) w v all run is =
      runs_keep acts (after w a) v (All-tail (λ (b : Act). may b ≡ true) a acts all) run.1
      (step w a (All-head (λ (b : Act). may b ≡ true) a acts all) run.0 is)

  pub reaches_keep : (w v : World) → Reaches may w v → P w → P v
  reaches_keep w v goes is = runs_keep goes.acts w v goes.all goes.run is
