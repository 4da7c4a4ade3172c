-- What is appended later changes no earlier moment.
use Rattle.std.proofs.Common.{◌≡◌, ◌≤◌, ◌<◌, ℕ, zero, suc, ◌+◌, ◌-◌, Bool, if◌then◌else◌, List, [], ◌∷◌, length, drop, Option, ⊎_elim, refl}
use Rattle.std.proofs.Common.{sym, ap, subst, ◌∙◌, arith}
use Rattle.std.proofs.lemmas.Bool.{cases_lt}
use Rattle.std.proofs.lemmas.List.{length-drop}
use Rattle.disk_model.specs.Steps.{Image, Step, now_after}
use Rattle.vg_scan.specs.Versions.{Version}
use Rattle.line_table.specs.Machine.{PlainState, plain_after}
use Rattle.lvm_script.specs.declared.line.Line.{Line}
use Rattle.sector_base.specs.declared.places.Piece.{Piece}
use Rattle.list_laws.proofs.Bools.{lt_false, lt_true}
use Rattle.volume_history.specs.Candidates.{IsConsistentMoment, IsConsistentNow}
use Rattle.volume_history.specs.Chronicles.{Answered, AreUpto, Begun, Changed, Chronicle, ChronicleEntry, Failed, GivenUp, Opened, Origin}
use Rattle.volume_history.specs.Chronicles.{Took, begun_in, chronicle_at, in_force, moment_of, now_at, origin_at, origin_on, steps_upto}
use Rattle.volume_history.specs.Chronicles.{upto, with_entry, with_step}
use Rattle.volume_history.specs.Placed.{group_name, volumes_of}
use Rattle.volume_history.specs.Replay.{failed_step, line_step, opening_volumes, plain_state, took_step}

-- an entry of a later moment
pub entry_stays : (e : ChronicleEntry) (c : Chronicle) (moment : ℕ) → moment < moment_of e
    → chronicle_at moment (with_entry e c) ≡ chronicle_at moment c
entry_stays e c moment later =
    ap (λ (b : Bool). record {
      origin = origin_at moment c.origin;
      entries = if b then upto moment c.entries else e ∷ upto moment c.entries;
    }) (lt_true moment (moment_of e) later)

-- a step
pub step_stays : (step : Step) (c : Chronicle) (moment : ℕ) → moment ≤ length c.origin.told.steps
    → chronicle_at moment (with_step step c) ≡ chronicle_at moment c
step_stays step c moment upto' =
    let e : suc (length c.origin.told.steps) - moment ≡ suc (length c.origin.told.steps - moment) = omega arith in
    ap (λ (k : ℕ). record {
      origin = record c.origin { told = record { opened = c.origin.told.opened; steps = drop k (step ∷ c.origin.told.steps) } };
      entries = upto moment c.entries;
    }) e

-- so a moment that was consistent stays so
pub past_stays_entry : (e : ChronicleEntry) (c : Chronicle) (moment : ℕ) → moment < moment_of e
    → IsConsistentMoment c moment → IsConsistentMoment (with_entry e c) moment
past_stays_entry e c moment later is = subst (λ (d : Chronicle). IsConsistentNow d) (sym (entry_stays e c moment later)) is

pub past_stays_step : (step : Step) (c : Chronicle) (moment : ℕ) → moment ≤ length c.origin.told.steps
    → IsConsistentMoment c moment → IsConsistentMoment (with_step step c) moment
past_stays_step step c moment upto' is = subst (λ (d : Chronicle). IsConsistentNow d) (sym (step_stays step c moment upto')) is

pub all_upto : (moment : ℕ) (es : List ChronicleEntry) → AreUpto moment es → upto moment es ≡ es
all_upto moment [] are = refl
all_upto moment (e ∷ es) are =
    ap (λ (b : Bool). if b then upto moment es else e ∷ upto moment es) (lt_false moment (moment_of e) are.0)
    ∙ ap (λ (l : List ChronicleEntry). e ∷ l) (all_upto moment es are.1)

-- now is the last moment
pub now_is : (c : Chronicle) → AreUpto (length c.origin.told.steps) c.entries → chronicle_at (length c.origin.told.steps) c ≡ c
now_is c are =
    let e : length c.origin.told.steps - length c.origin.told.steps ≡ 0 = omega arith in
    ap (λ (k : ℕ). record {
      origin = record c.origin
          { told = record { opened = c.origin.told.opened; steps = drop k c.origin.told.steps } };
      entries = upto (length c.origin.told.steps) c.entries;
    }) e
    ∙ ap (λ (l : List ChronicleEntry). record { origin = c.origin; entries = l }) (all_upto _ c.entries are)

pub upto_longer : (moment later : ℕ) (es : List ChronicleEntry) → moment ≤ later → AreUpto moment es → AreUpto later es
upto_longer moment later [] le are = tt
upto_longer moment later (e ∷ es) le are = (omega (arith, are.0), upto_longer moment later es le are.1)

-- every moment is consistent where the earlier ones were and the last one is
pub every_moment_step : (step : Step) (c : Chronicle) (from : ℕ) → AreUpto (length c.origin.told.steps) c.entries
    → ((m : ℕ) → from ≤ m → m ≤ length c.origin.told.steps → IsConsistentMoment c m)
    → IsConsistentNow (with_step step c)
    → (m : ℕ) → from ≤ m → m ≤ suc (length c.origin.told.steps) → IsConsistentMoment (with_step step c) m
every_moment_step step c from are so_far now m ge le =
    ⊎_elim
    (λ (new : length c.origin.told.steps < m).
    let e : suc (length c.origin.told.steps) ≡ m = omega arith in
    subst (λ (k : ℕ). IsConsistentMoment (with_step step c) k) e
    (subst (λ (d : Chronicle). IsConsistentNow d)
    (sym (now_is (with_step step c) (upto_longer (length c.origin.told.steps) (suc (length c.origin.told.steps)) c.entries (omega arith)
    are))) now))
    (λ (old : m ≤ length c.origin.told.steps). past_stays_step step c m old (so_far m ge old))
    (cases_lt (length c.origin.told.steps) m)

-- an entry more: the earlier moments stay, and now is anew
pub every_moment_entry : (e : ChronicleEntry) (c : Chronicle) (from : ℕ) → AreUpto (length c.origin.told.steps) c.entries
    → moment_of e ≡ length c.origin.told.steps
    → ((m : ℕ) → from ≤ m → m ≤ length c.origin.told.steps → IsConsistentMoment c m)
    → IsConsistentNow (with_entry e c)
    → (m : ℕ) → from ≤ m → m ≤ length c.origin.told.steps → IsConsistentMoment (with_entry e c) m
every_moment_entry e c from are at so_far now m ge le =
    ⊎_elim
    (λ (old : m < length c.origin.told.steps). past_stays_entry e c m (subst (λ (k : ℕ). m < k) (sym at) old) (so_far m ge le))
    (λ (new : length c.origin.told.steps ≤ m).
    let same : length c.origin.told.steps ≡ m = omega arith in
    let by : moment_of e ≤ length c.origin.told.steps = omega (arith, at) in
    subst (λ (k : ℕ). IsConsistentMoment (with_entry e c) k) same
    (subst (λ (d : Chronicle). IsConsistentNow d) (sym (now_is (with_entry e c) (by, are))) now))
    (cases_lt m (length c.origin.told.steps))

-- steps_upto of what was told later
pub steps_stay : (step : Step) (o : Origin) (moment : ℕ) → moment ≤ length o.told.steps
    → steps_upto (origin_on step o) moment ≡ steps_upto o moment
steps_stay step o moment le =
    let e : suc (length o.told.steps) - moment ≡ suc (length o.told.steps - moment) = omega arith in
    ap (λ (k : ℕ). drop k (step ∷ o.told.steps)) e

pub now_stays : (step : Step) (o : Origin) (moment : ℕ) → moment ≤ length o.told.steps → now_at (origin_on step o) moment ≡ now_at o moment
now_stays step o moment le = ap (λ (l : List Step). now_after o.told.opened l) (steps_stay step o moment le)

-- the version in force needs no content
pub force_stays : (step : Step) (o : Origin) (es : List ChronicleEntry) → in_force (origin_on step o) es ≡ in_force o es
force_stays step o [] = refl
force_stays step o (Begun m n line key ∷ es) = force_stays step o es
force_stays step o (Opened m n version ∷ es) = force_stays step o es
force_stays step o (Took m n piece ∷ es) = force_stays step o es
force_stays step o (Changed m n version ∷ es) = refl
force_stays step o (GivenUp m n ∷ es) = force_stays step o es
force_stays step o (Failed m n piece ∷ es) = force_stays step o es
force_stays step o (Answered m n answer ∷ es) = force_stays step o es

-- the machine depends on the steps up to the entries' moments alone
abbrev line_after : Option (Line × Option ℕ) → Option Version → Option Version → Image → PlainState → PlainState
line_after b version before image state = plain_after state (line_step b before version state image)

abbrev failed_after : Option (Line × Option ℕ) → Piece → Option Version → Image → PlainState → PlainState
failed_after b piece before image state = plain_after state (failed_step b before state image piece)

pub replay_stays : (step : Step) (o : Origin) (es : List ChronicleEntry) → o.first ≤ length o.told.steps → AreUpto (length o.told.steps) es
    → plain_state (origin_on step o) es ≡ plain_state o es
replay_stays step o [] first are =
    ap (λ (i : Image). record {
      group = group_name o.version;
      volumes = opening_volumes i 0 (volumes_of o.version);
      next_key = length (volumes_of o.version);
    }) (now_stays step o o.first first)
replay_stays step o (Begun m n line key ∷ es) first are = replay_stays step o es first are.1
replay_stays step o (Opened m n version ∷ es) first are = replay_stays step o es first are.1
replay_stays step o (Took m n piece ∷ es) first are =
    ap (λ (s : PlainState). plain_after s (took_step (begun_in es n) piece)) (replay_stays step o es first are.1)
replay_stays step o (Changed m n version ∷ es) first are =
    ap (λ (f : Option Version). line_after (begun_in es n) version f (now_at (origin_on step o) m) (plain_state (origin_on step o) es))
    (force_stays step o es)
    ∙ ap (λ (i : Image). line_after (begun_in es n) version (in_force o es) i (plain_state (origin_on step o) es))
    (now_stays step o m are.0)
    ∙ ap (λ (s : PlainState). line_after (begun_in es n) version (in_force o es) (now_at o m) s) (replay_stays step o es first are.1)
replay_stays step o (GivenUp m n ∷ es) first are = replay_stays step o es first are.1
replay_stays step o (Failed m n piece ∷ es) first are =
    ap (λ (f : Option Version). failed_after (begun_in es n) piece f (now_at (origin_on step o) m) (plain_state (origin_on step o) es))
    (force_stays step o es)
    ∙ ap (λ (i : Image). failed_after (begun_in es n) piece (in_force o es) i (plain_state (origin_on step o) es))
    (now_stays step o m are.0)
    ∙ ap (λ (s : PlainState). failed_after (begun_in es n) piece (in_force o es) (now_at o m) s) (replay_stays step o es first are.1)
replay_stays step o (Answered m n answer ∷ es) first are = replay_stays step o es first are.1

drop_nil : (k : ℕ) → drop {A = Step} k [] ≡ []
drop_nil zero = refl
drop_nil (suc k) = refl

-- dropped twice
drop_twice : (a b : ℕ) (xs : List Step) → drop a (drop b xs) ≡ drop (a + b) xs
drop_twice a zero xs = ap (λ (k : ℕ). drop k xs) (omega arith)
drop_twice a (suc b) [] = drop_nil a ∙ sym (drop_nil (a + suc b))
drop_twice a (suc b) (x ∷ xs) = let e : a + suc b ≡ suc (a + b) = omega arith in drop_twice a b xs ∙ ap (λ (k : ℕ). drop k (x ∷ xs)) (sym e)

-- how much was told by a moment
pub told_length : (o : Origin) (m : ℕ) → m ≤ length o.told.steps → length (origin_at m o).told.steps ≡ m
told_length o m le = omega (arith, length-drop (length o.told.steps - m) o.told.steps, le)

-- the record up to a moment is the same seen from a later one
pub steps_before : (o : Origin) (k m : ℕ) → k ≤ m → m ≤ length o.told.steps → steps_upto (origin_at m o) k ≡ steps_upto o k
steps_before o k m le by =
    let e : (m - k) + (length o.told.steps - m) ≡ length o.told.steps - k = omega (arith, le, by) in
    ap (λ (n : ℕ). drop (n - k) (drop (length o.told.steps - m) o.told.steps)) (told_length o m by)
    ∙ drop_twice (m - k) (length o.told.steps - m) o.told.steps
    ∙ ap (λ (n : ℕ). drop n o.told.steps) e

-- and so is what a read gave
pub now_before : (o : Origin) (k m : ℕ) → k ≤ m → m ≤ length o.told.steps → now_at (origin_at m o) k ≡ now_at o k
now_before o k m le by = ap (λ (l : List Step). now_after o.told.opened l) (steps_before o k m le by)
