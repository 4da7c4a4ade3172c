-- The moments of the history of one line: before it, while it runs, while its commit runs, and from its answer on.
use Rattle.std.proofs.Common.{◌≡◌, ◌≤◌, ◌<◌, ℕ, ◌-◌, Bool, if◌then◌else◌, List, [], ◌∷◌, ◌++◌, length, drop, Option, inl, ⊎_elim, refl, sym}
use Rattle.std.proofs.Common.{ap, subst, ◌∙◌, arith}
use Rattle.std.proofs.lemmas.Bool.{cases_lt}
use Rattle.disk_model.specs.Moments.{at_moment}
use Rattle.disk_model.specs.Steps.{Image}
use Rattle.vg_scan.specs.Versions.{FindsVersion, Version}
use Rattle.line_table.specs.Machine.{PlainState}
use Rattle.list_laws.proofs.Bools.{lt_true}
use Rattle.volume_history.proofs.Consistent.{parts_make_consistent}
use Rattle.volume_history.proofs.EarlierMoments.{all_upto, now_before}
use Rattle.volume_history.proofs.Reshaped.{HasNoBase, opening_primaries}
use Rattle.volume_history.specs.Candidates.{IsConsistentMoment, IsConsistentNow}
use Rattle.volume_history.specs.Chronicles.{AreUpto, Chronicle, ChronicleEntry, Origin, in_force, left_out, moment_of, now_at, origin_at}
use Rattle.volume_history.specs.Chronicles.{pending, upto}
use Rattle.volume_history.specs.Parts.{NextPart, Primaries, ScansPart}
use Rattle.volume_history.specs.Placed.{group_name, volumes_of}
use Rattle.volume_history.specs.Quiet.{AllUntouched}
use Rattle.volume_history.specs.Replay.{opening_state, plain_state}
use Rattle.volume_history.specs.Single.{IsStill, end_of, none_out}

-- all of these entries are of this moment
abbrev pub AllAt : ℕ → List ChronicleEntry → Type 0
AllAt moment [] = Unit {0}
AllAt moment (e ∷ es) = (moment_of e ≡ moment) × AllAt moment es

-- at an earlier one they are passed over
upto_over : (m k : ℕ) (late early : List ChronicleEntry) → AllAt k late → m < k → upto m (late ++ early) ≡ upto m early
upto_over m k [] early at lt = refl
upto_over m k (e ∷ late) early at lt =
    ap (λ (b : Bool). if b then upto m (late ++ early) else e ∷ upto m (late ++ early))
    (lt_true m (moment_of e) (subst (λ (j : ℕ). m < j) (sym at.0) lt))
    ∙ upto_over m k late early at.1 lt

upto_none : (m k : ℕ) (es : List ChronicleEntry) → AllAt k es → m < k → upto m es ≡ []
upto_none m k [] at lt = refl
upto_none m k (e ∷ es) at lt =
    ap (λ (b : Bool). if b then upto m es else e ∷ upto m es) (lt_true m (moment_of e) (subst (λ (j : ℕ). m < j) (sym at.0) lt))
    ∙ upto_none m k es at.1 lt

-- from it on they are there
at_upto : (m k : ℕ) (es : List ChronicleEntry) → AllAt k es → k ≤ m → AreUpto m es
at_upto m k [] at le = tt
at_upto m k (e ∷ es) at le = (omega (arith, at.0, le), at_upto m k es at.1 le)

both_upto : (m : ℕ) (late early : List ChronicleEntry) → AreUpto m late → AreUpto m early → AreUpto m (late ++ early)
both_upto m [] early a b = b
both_upto m (e ∷ late) early a b = (a.0, both_upto m late early a.1 b)

-- what makes a moment with these entries consistent
pub record IsPhase (o : Origin) (es : List ChronicleEntry) (m : ℕ) : Type 0 where
  pub scans : ScansPart (origin_at m o) es
  pub primaries : Primaries (origin_at m o) es (volumes_of (in_force (origin_at m o) es)) (plain_state (origin_at m o) es).volumes
  pub name : group_name (in_force (origin_at m o) es) ≡ (plain_state (origin_at m o) es).group
  pub next : NextPart (origin_at m o) es (pending es)

-- a scan finds the same where the same disks are left out
pub finds_with : (sizes : List ℕ) (image : Image) (out out' : ℕ → Bool) (version : Option Version) → ((pv : ℕ) → out pv ≡ out' pv)
    → FindsVersion sizes image out version → FindsVersion sizes image out' version
finds_with sizes image out out' version same f =
    record { found = f.found; scan = f.scan; left = λ pv lt. f.left pv lt ∙ same pv; whole = f.whole; version_is = f.version_is }

-- what is told at the last moment is all
pub told_at_end : (o : Origin) → at_moment (end_of o) o.told ≡ o.told
told_at_end o =
    let e : length o.told.steps - length o.told.steps ≡ 0 = omega arith in
    ap (λ (k : ℕ). record { opened = o.told.opened; steps = drop k o.told.steps }) e

-- no place of the volumes in force is touched at a moment
pub untouched_then : (o : Origin) → IsStill o → (m : ℕ) → o.first ≤ m → m ≤ end_of o
    → AllUntouched (now_at (origin_at m o) o.first) (volumes_of o.version) (at_moment m o.told)
untouched_then o still m ge le =
    subst (λ (i : Image). AllUntouched i (volumes_of o.version) (at_moment m o.told)) (sym (now_before o o.first m ge le))
    (still.untouched m ge le)

-- a phase in which the version of the start is in force, and no sector of it has another base than the opening
pub opening_phase : (o : Origin) → IsStill o → (es : List ChronicleEntry) (m : ℕ) → o.first ≤ m → m ≤ end_of o
    → HasNoBase (origin_at m o) es → plain_state (origin_at m o) es ≡ opening_state (origin_at m o)
    → in_force (origin_at m o) es ≡ o.version
    → ScansPart (origin_at m o) es → NextPart (origin_at m o) es (pending es) → IsPhase o es m
opening_phase o still es m ge le none opening force scans next = record {
  scans = scans;
  primaries =
      subst (λ (v : Option Version). Primaries (origin_at m o) es (volumes_of v) (plain_state (origin_at m o) es).volumes) (sym force)
      (subst (λ (s : PlainState). Primaries (origin_at m o) es (volumes_of o.version) s.volumes) (sym opening)
      (opening_primaries (origin_at m o) es none (untouched_then o still m ge le)));
  name = ap (λ (v : Option Version). group_name v) force ∙ sym (ap (λ (s : PlainState). s.group) opening);
  next = next;
}

-- before the line
pub phase_before : (o : Origin) → IsStill o → (m : ℕ) → o.first ≤ m → m ≤ o.start → m ≤ end_of o → IsPhase o [] m
phase_before o still m ge le last =
    opening_phase o still [] m ge last (λ key x. refl) refl refl
    (λ image is. inl (finds_with o.sizes image none_out (left_out (origin_at m o) [] (length (origin_at m o).told.steps)) o.version
    (λ pv. refl) (still.before m ge le image is))) tt

-- The moments of a line that begins at the start, opens its commit at one moment, makes it at another, and is answered at the end:
-- its entries of each, and what makes each phase consistent.
pub record HasPhases (o : Origin) (late behind middle early : List ChronicleEntry) (opened made : ℕ) : Type 0 where
  pub from : o.start ≤ opened
  pub on : opened ≤ made
  pub to : made ≤ end_of o
  pub at_end : AllAt (end_of o) late
  pub at_made : AllAt made behind
  pub at_opened : AllAt opened middle
  pub at_start : AllAt o.start early
  pub begun : (m : ℕ) → o.start ≤ m → m < opened → IsPhase o early m
  pub running : (m : ℕ) → opened ≤ m → m < made → IsPhase o (middle ++ early) m
  pub kept : (m : ℕ) → made ≤ m → m < end_of o → IsPhase o (behind ++ (middle ++ early)) m
  pub after : IsPhase o (late ++ (behind ++ (middle ++ early))) (end_of o)

module _ (o : Origin) (still : IsStill o) (late behind middle early : List ChronicleEntry) (opened made : ℕ)
    (p : HasPhases o late behind middle early opened made) where
  abbrev whole : Chronicle
  whole = record { origin = o; entries = late ++ (behind ++ (middle ++ early)) }

  phase_is : (m : ℕ) (es : List ChronicleEntry) → upto m whole.entries ≡ es → IsPhase o es m → IsConsistentMoment whole m
  phase_is m es e is =
      subst (λ (l : List ChronicleEntry). IsConsistentNow (record { origin = origin_at m o; entries = l })) (sym e)
      (parts_make_consistent (record { origin = origin_at m o; entries = es }) is.scans is.primaries is.name is.next)

  early_upto : (m : ℕ) → o.start ≤ m → AreUpto m early
  early_upto m started = at_upto m o.start early p.at_start started

  middle_upto : (m : ℕ) → opened ≤ m → AreUpto m (middle ++ early)
  middle_upto m on =
      both_upto m middle early (at_upto m opened middle p.at_opened on) (early_upto m (let from = p.from in omega (arith, from, on)))

  behind_upto : (m : ℕ) → made ≤ m → AreUpto m (behind ++ (middle ++ early))
  behind_upto m on =
      both_upto m behind (middle ++ early) (at_upto m made behind p.at_made on)
      (middle_upto m (let opens = p.on in omega (arith, opens, on)))

  -- before the end, before it was made, before it was opened
  unanswered : (m : ℕ) → m < end_of o → upto m whole.entries ≡ upto m (behind ++ (middle ++ early))
  unanswered m lt = upto_over m (end_of o) late (behind ++ (middle ++ early)) p.at_end lt

  unmade : (m : ℕ) → m < end_of o → m < made → upto m whole.entries ≡ upto m (middle ++ early)
  unmade m lt before = unanswered m lt ∙ upto_over m made behind (middle ++ early) p.at_made before

  unopened : (m : ℕ) → m < end_of o → m < made → m < opened → upto m whole.entries ≡ upto m early
  unopened m lt before first = unmade m lt before ∙ upto_over m opened middle early p.at_opened first

  -- each moment is consistent
  pub each_moment : (m : ℕ) → o.first ≤ m → m ≤ end_of o → IsConsistentMoment whole m
  each_moment m ge le =
      ⊎_elim
      (λ (lt : m < end_of o).
      ⊎_elim
      (λ (before : m < made).
      ⊎_elim
      (λ (first : m < opened).
      ⊎_elim
      (λ (early_on : m < o.start). phase_is m [] (unopened m lt before first ∙ upto_none m o.start early p.at_start early_on)
      (phase_before o still m ge (omega (arith, early_on)) le))
      (λ (on : o.start ≤ m). phase_is m early (unopened m lt before first ∙ all_upto m early (early_upto m on)) (p.begun m on first))
      (cases_lt m o.start))
      (λ (on : opened ≤ m). phase_is m (middle ++ early) (unmade m lt before ∙ all_upto m (middle ++ early) (middle_upto m on))
      (p.running m on before))
      (cases_lt m opened))
      (λ (on : made ≤ m). phase_is m (behind ++ (middle ++ early))
      (unanswered m lt ∙ all_upto m (behind ++ (middle ++ early)) (behind_upto m on)) (p.kept m on lt))
      (cases_lt m made))
      (λ (on : end_of o ≤ m).
      let e : end_of o ≡ m = omega (arith, on, le) in
      let to = p.to in
      phase_is m (late ++ (behind ++ (middle ++ early)))
      (all_upto m (late ++ (behind ++ (middle ++ early)))
      (both_upto m late (behind ++ (middle ++ early)) (at_upto m (end_of o) late p.at_end on) (behind_upto m (omega (arith, to, on)))))
      (subst (λ (k : ℕ). IsPhase o (late ++ (behind ++ (middle ++ early))) k) e p.after))
      (cases_lt m (end_of o))

-- where nothing is made before the end
pub all_moments : (o : Origin) → IsStill o → (late middle early : List ChronicleEntry) (opened : ℕ) → o.start ≤ opened → opened ≤ end_of o
    → AllAt (end_of o) late → AllAt opened middle → AllAt o.start early → ((m : ℕ) → o.start ≤ m → m < opened → IsPhase o early m)
    → ((m : ℕ) → opened ≤ m → m < end_of o → IsPhase o (middle ++ early) m) → IsPhase o (late ++ (middle ++ early)) (end_of o) → (m : ℕ)
    → o.first ≤ m → m ≤ end_of o
    → IsConsistentMoment (record { origin = o; entries = late ++ (middle ++ early) }) m
all_moments o still late middle early opened from to at_end at_opened at_start begun running after =
    each_moment o still late [] middle early opened (end_of o)
    (record {
      from = from;
      on = to;
      to = omega arith;
      at_end = at_end;
      at_made = tt;
      at_opened = at_opened;
      at_start = at_start;
      begun = begun;
      running = running;
      kept = λ m ge lt. absurd (omega (arith, ge, lt));
      after = after;
    })
