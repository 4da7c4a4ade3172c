-- A history that leaves the volumes as they are is consistent where no place of a volume is written.
use Rattle.std.proofs.Common.{◌≡◌, ◌≤◌, ◌<◌, ℕ, zero, suc, ◌+◌, ◌==◌, ◌||◌, Bool, true, false, if◌then◌else◌, slice_index_or, List, [], ◌∷◌}
use Rattle.std.proofs.Common.{length, Option, Some, None, refl, sym, ap, subst, ◌∙◌, arith}
use Rattle.std.proofs.lemmas.Bool.{and_left, and_right}
use Rattle.std.proofs.lemmas.Bool.Decides.{nat_tests}
use Rattle.disk_model.specs.CrashValues.{MayLeave}
use Rattle.disk_model.specs.Moments.{at_moment}
use Rattle.disk_model.specs.Steps.{Image, Record}
use Rattle.vg_scan.specs.Versions.{Version}
use Rattle.line_table.specs.Machine.{Nothing, PlainState, PlainStep, PlainVolume, plain_after, sector_of, sectors_of}
use Rattle.lvm_script.specs.declared.line.Line.{Line}
use Rattle.sector_base.specs.declared.places.Piece.{Piece}
use Rattle.list_laws.proofs.Bools.{eq_to}
use Rattle.data_lines.specs.DataLines.{writes}
use Rattle.volume_history.proofs.CommandKinds.{quiet_command}
use Rattle.volume_history.proofs.Consistent.{next_by_keeps, parts_make_consistent}
use Rattle.volume_history.proofs.EarlierMoments.{now_before}
use Rattle.volume_history.specs.Candidates.{IsConsistentMoment, IsConsistentNow, base_from, is_acked, is_born, is_flush_of, is_write}
use Rattle.volume_history.specs.Candidates.{no_image, place_at, writes_line}
use Rattle.volume_history.specs.Chronicles.{Answered, Begun, Changed, Chronicle, ChronicleEntry, Failed, GivenUp, Opened, Origin, Took}
use Rattle.volume_history.specs.Chronicles.{begun_in, chronicle_at, in_force, now_at, pending, piece_covers}
use Rattle.volume_history.specs.Parts.{KeepsAll, Primaries, ScansPart}
use Rattle.volume_history.specs.Placed.{Place, PlacedVolume, values_on, volumes_of}
use Rattle.volume_history.specs.Quiet.{AllUntouched, AreQuiet, AreUntouched, IsQuiet, IsQuietMoment, IsQuietNext, is_quiet}
use Rattle.volume_history.specs.Replay.{failed_step, line_step, opening_state, opening_volumes, plain_state, took_step}
use Rattle.volume_history.specs.Sources.{Base}

-- what is known of a line that is quiet, or of none
pub record QuietLine (b : Option (Line × Option ℕ)) : Type 0 where
  pub step : (before after : Option Version) (state : PlainState) (image : Image)
      → (plain_after state (line_step b before after state image)).volumes ≡ state.volumes
  pub births : (before after : Option Version) (state : PlainState) (image : Image) (key x : ℕ)
      → is_born (line_step b before after state image) state key x ≡ false
  pub writes : writes_line b ≡ false

quiet_line : (line : Line) (key : Option ℕ) → is_quiet line.command ≡ true → QuietLine (Some (line, key))
quiet_line line key q = let c = quiet_command line.command q in record { step = c.step; births = c.births; writes = c.writes_is }

quiet_none : QuietLine None
quiet_none = record { step = λ b a s i. refl; births = λ b a s i k x. refl; writes = refl }

-- the line of each number is quiet
pub begun_quiet : (es : List ChronicleEntry) (n : ℕ) → AreQuiet es → QuietLine (begun_in es n)
begun_quiet [] n q = quiet_none
begun_quiet (Begun m n' line key ∷ es) n q = at (n' == n) (begun_quiet es n q.1)
  where
    at : (t : Bool) → QuietLine (begun_in es n) → QuietLine (if t then Some (line, key) else begun_in es n)
    at true rest = quiet_line line key q.0
    at false rest = rest
begun_quiet (Opened m n' version ∷ es) n q = begun_quiet es n q
begun_quiet (Took m n' piece ∷ es) n q = begun_quiet es n q
begun_quiet (Changed m n' version ∷ es) n q = begun_quiet es n q
begun_quiet (GivenUp m n' ∷ es) n q = begun_quiet es n q
begun_quiet (Failed m n' piece ∷ es) n q = begun_quiet es n q
begun_quiet (Answered m n' answer ∷ es) n q = begun_quiet es n q

no_step : (t : Bool) (s : PlainStep) → t ≡ false → (if t then s else Nothing) ≡ Nothing
no_step true s e = cc
no_step false s e = refl

-- a line that writes nothing takes no step with a piece
pub took_nothing : (b : Option (Line × Option ℕ)) (piece : Piece) → writes_line b ≡ false → took_step b piece ≡ Nothing
took_nothing None piece w = refl
took_nothing (Some l) piece w = no_step (writes l.0.command) _ w

failed_nothing : (b : Option (Line × Option ℕ)) (version : Option Version) (state : PlainState) (image : Image) (piece : Piece)
    → writes_line b ≡ false → failed_step b version state image piece ≡ Nothing
failed_nothing None version state image piece w = refl
failed_nothing (Some l) version state image piece w = no_step (writes l.0.command) _ w

-- the machine's volumes stay those of the opening
pub quiet_volumes : (o : Origin) (es : List ChronicleEntry) → AreQuiet es → (plain_state o es).volumes ≡ (opening_state o).volumes
quiet_volumes o [] q = refl
quiet_volumes o (Begun m n line key ∷ es) q = quiet_volumes o es q.1
quiet_volumes o (Opened m n version ∷ es) q = quiet_volumes o es q
quiet_volumes o (Took m n piece ∷ es) q =
    ap (λ (s : PlainStep). (plain_after (plain_state o es) s).volumes) (took_nothing (begun_in es n) piece (begun_quiet es n q).writes)
    ∙ quiet_volumes o es q
quiet_volumes o (Changed m n version ∷ es) q =
    (begun_quiet es n q).step (in_force o es) version (plain_state o es) (now_at o m) ∙ quiet_volumes o es q
quiet_volumes o (GivenUp m n ∷ es) q = quiet_volumes o es q
quiet_volumes o (Failed m n piece ∷ es) q =
    ap (λ (s : PlainStep). (plain_after (plain_state o es) s).volumes)
    (failed_nothing (begun_in es n) (in_force o es) (plain_state o es) (now_at o m) piece (begun_quiet es n q).writes)
    ∙ quiet_volumes o es q
quiet_volumes o (Answered m n answer ∷ es) q = quiet_volumes o es q

-- and the base of each sector is the opening
pub quiet_base : (o : Origin) (all : List ChronicleEntry) (flushed : Bool) (key x : ℕ) (es : List ChronicleEntry) → AreQuiet es
    → base_from o all flushed key x es ≡ []
quiet_base o all flushed key x [] q = refl
quiet_base o all flushed key x (Begun m n line k ∷ es) q =
    quiet_base o all (flushed || is_flush_of all key (Begun m n line k)) key x es q.1
quiet_base o all flushed key x (Opened m n version ∷ es) q = quiet_base o all (flushed || false) key x es q
quiet_base o all flushed key x (Took m n piece ∷ es) q =
    ap (λ (b : Bool). if b then Took m n piece ∷ es else base_from o all (flushed || false) key x es)
    (and_left (is_write key x (Took m n piece) es) (is_acked all flushed (Took m n piece) es)
    (and_right (piece_covers piece key x) (writes_line (begun_in es n)) (begun_quiet es n q).writes))
    ∙ quiet_base o all (flushed || false) key x es q
quiet_base o all flushed key x (Changed m n version ∷ es) q =
    ap (λ (b : Bool). if b || false then Changed m n version ∷ es else base_from o all (flushed || false) key x es)
    ((begun_quiet es n q).births (in_force o es) version (plain_state o es) no_image key x)
    ∙ quiet_base o all (flushed || false) key x es q
quiet_base o all flushed key x (GivenUp m n ∷ es) q = quiet_base o all (flushed || false) key x es q
quiet_base o all flushed key x (Failed m n piece ∷ es) q = quiet_base o all (flushed || false) key x es q
quiet_base o all flushed key x (Answered m n answer ∷ es) q = quiet_base o all (flushed || false) key x es q

-- the opening's volumes have different keys, so each is found by its own
abbrev pub KeysFrom : ℕ → List PlainVolume → Type 0
KeysFrom k [] = Unit {0}
KeysFrom k (p ∷ ps) = (k ≤ p.key) × KeysFrom k ps

keys_from : (image : Image) (k j : ℕ) (vs : List PlacedVolume) → k ≤ j → KeysFrom k (opening_volumes image j vs)
keys_from image k j [] le = tt
keys_from image k j (v ∷ vs) le = (le, keys_from image k (j + 1) vs (omega (arith, le)))

abbrev pub OwnSectors : List PlainVolume → List PlainVolume → Type 0
OwnSectors whole [] = Unit {0}
OwnSectors whole (p ∷ ps) = (sectors_of whole p.key ≡ p.sectors) × OwnSectors whole ps

own_more : (q : PlainVolume) (whole ps : List PlainVolume) → KeysFrom (q.key + 1) ps → OwnSectors whole ps → OwnSectors (q ∷ whole) ps
own_more q whole [] keys own = tt
own_more q whole (p ∷ ps) keys own = (
  ap (λ (b : Bool). if b then q.sectors else sectors_of whole p.key) (other q.key p.key keys.0) ∙ own.0,
  own_more q whole ps keys.1 own.1,
)
  where
    other : (a b : ℕ) → a + 1 ≤ b → (a == b) ≡ false
    other a b le = grind (arith, nat_tests)

pub own_sectors : (image : Image) (k : ℕ) (vs : List PlacedVolume) → OwnSectors (opening_volumes image k vs) (opening_volumes image k vs)
own_sectors image k [] = tt
own_sectors image k (v ∷ vs) = (
  ap (λ (b : Bool). if b then values_on image v.places else sectors_of (opening_volumes image (k + 1) vs) k) (eq_to k k refl),
  own_more (record { key = k; name = v.name; sectors = values_on image v.places }) (opening_volumes image (k + 1) vs)
      (opening_volumes image (k + 1) vs) (keys_from image (k + 1) (k + 1) vs (omega arith)) (own_sectors image (k + 1) vs),
)

-- what stands at the place of a sector
pub value_on : (image : Image) (places : List Place) (x : ℕ) → x < length places
    → slice_index_or (values_on image places) x [] ≡ image (place_at places x).disk (place_at places x).sector
value_on image [] x lt = absurd (omega (arith, lt))
value_on image (p ∷ ps) zero lt = refl
value_on image (p ∷ ps) (suc x) lt = value_on image ps x (omega (arith, lt))

pub values_length : (image : Image) (places : List Place) → length places ≡ length (values_on image places)
values_length image [] = refl
values_length image (p ∷ ps) = ap suc (values_length image ps)

-- at an untouched place nothing else is possible
pub untouched_at : (image : Image) (places : List Place) (told : Record) (x : ℕ) → x < length places → AreUntouched image places told
    → (write : Option ℕ) (value : List ℕ) → MayLeave told.opened told.steps (place_at places x).disk (place_at places x).sector write value
    → value ≡ image (place_at places x).disk (place_at places x).sector
untouched_at image [] told x lt are = absurd (omega (arith, lt))
untouched_at image (p ∷ ps) told zero lt are = are.0
untouched_at image (p ∷ ps) told (suc x) lt are = untouched_at image ps told x (omega (arith, lt)) are.1

-- so the primaries hold
quiet_places : (o : Origin) (es : List ChronicleEntry) (k : ℕ) (vs : List PlacedVolume) → AreQuiet es
    → AllUntouched (now_at o o.first) vs o.told
    → OwnSectors (opening_state o).volumes (opening_volumes (now_at o o.first) k vs)
    → Primaries o es vs (opening_volumes (now_at o o.first) k vs)
quiet_places o es k [] q untouched own = tt
quiet_places o es k (v ∷ vs) q untouched own =
    let image = now_at o o.first in (
      refl,
      values_length image v.places,
      λ x lt. record {
        each = λ write value may. (
          Base,
          tt,
          ap (λ (b : List ChronicleEntry). sector_of (plain_state o b) k x) (quiet_base o es false k x es q)
              ∙ ap (λ (s : List (List ℕ)). slice_index_or s x []) own.0
              ∙ value_on image v.places x lt
              ∙ sym (untouched_at image v.places o.told x lt untouched.0 write value may),
        );
      },
      quiet_places o es (k + 1) vs q untouched.1 own.1,
    )

pub quiet_primaries : (o : Origin) (es : List ChronicleEntry) → IsQuiet o es → AllUntouched (now_at o o.first) (volumes_of o.version) o.told
    → Primaries o es (volumes_of (in_force o es)) (plain_state o es).volumes
quiet_primaries o es quiet untouched =
    subst (λ (vs : List PlacedVolume). Primaries o es vs (plain_state o es).volumes) (sym quiet.volumes)
    (subst (λ (ps : List PlainVolume). Primaries o es (volumes_of o.version) ps) (sym (quiet_volumes o es quiet.lines))
    (quiet_places o es 0 (volumes_of o.version) quiet.lines untouched (own_sectors (now_at o o.first) 0 (volumes_of o.version))))

quiet_keeps : (o : Origin) (es : List ChronicleEntry) (P : Option (ℕ × Option Version)) → IsQuiet o es → IsQuietNext o es P
    → KeepsAll o es P
quiet_keeps o es None quiet next = tt
quiet_keeps o es (Some p) quiet next =
    let line = begun_quiet es p.0 quiet.lines in
    record {
      volumes = next.0 ∙ sym quiet.volumes;
      machine = line.step (in_force o es) p.1 (plain_state o es) no_image;
      births = λ key x. line.births (in_force o es) p.1 (plain_state o es) no_image key x;
      name = next.1;
    }

-- a quiet history is consistent now, where scans find its versions and no place of a volume is touched
pub quiet_now : (c : Chronicle) → IsQuiet c.origin c.entries → ScansPart c.origin c.entries
    → AllUntouched (now_at c.origin c.origin.first) (volumes_of c.origin.version) c.origin.told → IsConsistentNow c
quiet_now c quiet scans untouched =
    let primaries = quiet_primaries c.origin c.entries quiet untouched in
    parts_make_consistent c scans primaries quiet.name
    (next_by_keeps c.origin c.entries (pending c.entries) (quiet_keeps c.origin c.entries (pending c.entries) quiet quiet.next) primaries)

-- and so it was at a moment
pub quiet_consistent : (c : Chronicle) (moment : ℕ) → c.origin.first ≤ moment → moment ≤ length c.origin.told.steps → IsQuietMoment c moment
    → IsConsistentMoment c moment
quiet_consistent c moment ge le is =
    quiet_now (chronicle_at moment c) is.quiet is.scans
    (subst (λ (i : Image). AllUntouched i (volumes_of c.origin.version) (at_moment moment c.origin.told))
    (sym (now_before c.origin c.origin.first moment ge le)) is.untouched)
