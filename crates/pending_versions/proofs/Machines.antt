-- The machine is one of the version in force at the opening, and stays one.
use Rattle.std.proofs.Common.{◌≡◌, ◌≤◌, ℕ, ◌+◌, Bool, true, false, ◌==◌, if◌then◌else◌, List, [], ◌∷◌, ◌++◌, length, map, take, drop}
use Rattle.std.proofs.Common.{Option, Some, None, refl, sym, subst, ◌∙◌, arith}
use Rattle.std.specs.List.{range_with_len}
use Rattle.std.proofs.lemmas.List.{length-append, length-drop, length-map, length-take, length-take-le}
use Rattle.std.proofs.lemmas.List.FromFn.{length-range_with_len}
use Rattle.sector_base.specs.declared.places.Piece.{Piece}
use Rattle.list_laws.proofs.Bools.{eq_of}
use Rattle.command_table.specs.Commands.{kind_of}
use Rattle.data_lines.specs.DataLines.{value_for, writes}
use Rattle.disk_model.specs.Steps.{Image, Step}
use Rattle.line_table.specs.Machine.{Nothing, PlainState, PlainVolume, Wrote, name_of, plain_after, put_at, sectors_of, with_key}
use Rattle.lvm_script.specs.declared.line.Line.{Line}
use Rattle.vg_scan.specs.Versions.{Version}
use Rattle.volume_history.specs.Chronicles.{Answered, Begun, Changed, ChronicleEntry, Failed, GivenUp, Opened, Origin, Took, begun_in}
use Rattle.volume_history.specs.Chronicles.{AreUpto, in_force, now_at, origin_on}
use Rattle.volume_history.proofs.EarlierMoments.{force_stays, replay_stays}
use Rattle.volume_history.specs.Placed.{Place, PlacedVolume, values_on, volumes_of}
use Rattle.volume_history.specs.Replay.{failed_step, line_step, opening_volumes, places_named, plain_state, shown_at, took_step}
use Rattle.volume_history.specs.Reshaping.{state_before}
use Rattle.pending_versions.proofs.Keys.{rest_stays}
use Rattle.pending_versions.proofs.Remade.{changes_remake}
use Rattle.pending_versions.specs.Births.{LineChanges}
use Rattle.pending_versions.specs.Machines.{AreKeyed, AreOf, HoldShown, IsInForce, IsMachineOf, IsShown, LiesWithin}
use Rattle.pending_versions.specs.Pending.{OwesMachine}

-- ---- at the opening

opened_of : (image : Image) (k : ℕ) (vs : List PlacedVolume) → AreOf vs (opening_volumes image k vs)
opened_of image k [] = tt
opened_of image k (v ∷ vs) = (refl, sym (length-map v.places (λ (p : Place). image p.disk p.sector)), opened_of image (k + 1) vs)

opened_keys : (image : Image) (k next : ℕ) (vs : List PlacedVolume) → k + length vs ≡ next → AreKeyed k next (opening_volumes image k vs)
opened_keys image k next [] is = omega (arith, is)
opened_keys image k next (v ∷ vs) is = (omega arith, opened_keys image (k + 1) next vs (omega (arith, is)))

opened_shown : (image : Image) (k : ℕ) (vs : List PlacedVolume) → HoldShown image vs (opening_volumes image k vs)
opened_shown image k [] = tt
opened_shown image k (v ∷ vs) = (refl, opened_shown image (k + 1) vs)

pub opening_is_shown : (version : Option Version) (image : Image) → IsShown version image (state_before version image)
opening_is_shown version image = record {
  machine = record {
    group = refl;
    volumes = opened_of image 0 (volumes_of version);
    keys = opened_keys image 0 (length (volumes_of version)) (volumes_of version) (omega arith);
  };
  holds = opened_shown image 0 (volumes_of version);
}

-- ---- a piece that lies within its volume

put_length : (first : ℕ) (values old : List (List ℕ)) → first + length values ≤ length old
    → length (put_at first values old) ≡ length old
put_length first values old fits =
    let a : length (put_at first values old) ≡ length (take first old ++ values) + length (drop (first + length values) old) =
    length-append (take first old ++ values) (drop (first + length values) old) in
    let b : length (take first old ++ values) ≡ length (take first old) + length values = length-append (take first old) values in
    let c : length (take first old) ≡ first = length-take-le first old (omega (arith, fits)) in
    let d = length-drop (first + length values) old in
    omega (arith, a, b, c, d, fits)

module _ (key first : ℕ) (values : List (List ℕ)) where
  abbrev put : PlainVolume → PlainVolume
  put p = record p { sectors = put_at first values p.sectors }

  wrote_of : (from next : ℕ) (vs : List PlacedVolume) (ps : List PlainVolume) → AreKeyed from next ps
      → first + length values ≤ length (sectors_of ps key)
      → AreOf vs ps → AreOf vs (with_key key put ps)
  wrote_of from next [] [] keys fits of = tt
  wrote_of from next [] (p ∷ ps) keys fits of = absurd of
  wrote_of from next (v ∷ vs) [] keys fits of = absurd of
  wrote_of from next (v ∷ vs) (p ∷ ps) keys fits of =
      by (λ le. wrote_of (p.key + 1) next vs ps keys.1 le of.2) (p.key == key) refl fits
    where
      by : (first + length values ≤ length (sectors_of ps key) → AreOf vs (with_key key put ps)) → (b : Bool) → (p.key == key) ≡ b
          → first + length values ≤ length (if b then p.sectors else sectors_of ps key)
          → AreOf (v ∷ vs) ((if p.key == key then put p else p) ∷ with_key key put ps)
      by rest true is le =
          let mine : p.key ≡ key = eq_of p.key key is in
          let stay : with_key key put ps ≡ ps =
          rest_stays key (key + 1) next put ps (omega arith) (subst (λ (k : ℕ). AreKeyed (k + 1) next ps) mine keys.1) in
          subst (λ (b : Bool). AreOf (v ∷ vs) ((if b then put p else p) ∷ with_key key put ps)) (sym is)
          (of.0, of.1 ∙ sym (put_length first values p.sectors le), subst (λ (l : List PlainVolume). AreOf vs l) (sym stay) of.2)
      by rest false is le =
          subst (λ (b : Bool). AreOf (v ∷ vs) ((if b then put p else p) ∷ with_key key put ps)) (sym is) (of.0, of.1, rest le)

  wrote_keys : (from next : ℕ) (ps : List PlainVolume) → AreKeyed from next ps → AreKeyed from next (with_key key put ps)
  wrote_keys from next [] keys = keys
  wrote_keys from next (p ∷ ps) keys = by (p.key == key) (wrote_keys (p.key + 1) next ps keys.1) where
    by : (b : Bool) → AreKeyed (p.key + 1) next (with_key key put ps)
        → AreKeyed from next ((if b then put p else p) ∷ with_key key put ps)
    by true rest = (keys.0, rest)
    by false rest = (keys.0, rest)

  wrote_machine : (version : Option Version) (state : PlainState) → first + length values ≤ length (sectors_of state.volumes key)
      → IsMachineOf version state → IsMachineOf version (plain_after state (Wrote key first values))
  wrote_machine version state fits machine = record {
    group = machine.group;
    volumes = wrote_of 0 state.next_key (volumes_of version) state.volumes machine.keys fits machine.volumes;
    keys = wrote_keys 0 state.next_key state.volumes machine.keys;
  }

took_machine : (b : Option (Line × Option ℕ)) (version : Option Version) (state : PlainState) (piece : Piece)
    → LiesWithin state.volumes piece → IsMachineOf version state → IsMachineOf version (plain_after state (took_step b piece))
took_machine None version state piece fits machine = machine
took_machine (Some l) version state piece fits machine = by (writes l.0.command)
  where
    values : List (List ℕ)
    values = map (value_for l.0.command) (range_with_len piece.first piece.count)

    many : length values ≡ piece.count
    many =
        length-map (range_with_len piece.first piece.count) (value_for l.0.command) ∙ length-range_with_len piece.first piece.count

    by : (b : Bool) → IsMachineOf version (plain_after state (if b then Wrote piece.volume piece.first values else Nothing))
    by true = wrote_machine piece.volume piece.first values version state (omega (arith, fits, many)) machine
    by false = machine

failed_machine : (b : Option (Line × Option ℕ)) (version : Option Version) (state : PlainState) (image : Image) (piece : Piece)
    → LiesWithin state.volumes piece → IsMachineOf version state
    → IsMachineOf version (plain_after state (failed_step b version state image piece))
failed_machine None version state image piece fits machine = machine
failed_machine (Some l) version state image piece fits machine = by (writes l.0.command)
  where
    values : List (List ℕ)
    values = shown_at version state image piece

    few : length values ≤ piece.count
    few =
        let e = length-take piece.count
        (drop piece.first (values_on image (places_named (volumes_of version) (name_of state.volumes piece.volume)))) in omega (arith, e)

    by : (b : Bool) → IsMachineOf version (plain_after state (if b then Wrote piece.volume piece.first values else Nothing))
    by true = wrote_machine piece.volume piece.first values version state (omega (arith, fits, few)) machine
    by false = machine

-- a commit
pub changed_machine : (b : Option (Line × Option ℕ)) (before after : Option Version) (state : PlainState) (image : Image)
    → LineChanges b before after → IsMachineOf before state → IsMachineOf after (plain_after state (line_step b before after state image))
changed_machine None before after state image changes machine = absurd changes
changed_machine (Some l) before after state image changes machine =
    (changes_remake (kind_of l.0.command) before after changes.1 changes.0 state machine image).machine

pub machine_stays : (o : Origin) (es : List ChronicleEntry) (e : ChronicleEntry) → OwesMachine o es e → IsInForce o es
    → IsInForce o (e ∷ es)
machine_stays o es (Begun m n line key) owes machine = machine
machine_stays o es (Opened m n version) owes machine = machine
machine_stays o es (Took m n piece) owes machine = took_machine (begun_in es n) (in_force o es) (plain_state o es) piece owes machine
machine_stays o es (Changed m n version) owes machine =
    changed_machine (begun_in es n) (in_force o es) version (plain_state o es) (now_at o m) owes machine
machine_stays o es (GivenUp m n) owes machine = machine
machine_stays o es (Failed m n piece) owes machine =
    failed_machine (begun_in es n) (in_force o es) (plain_state o es) (now_at o m) piece owes machine
machine_stays o es (Answered m n answer) owes machine = machine

-- a step that is told changes none of that
pub machine_on : (step : Step) (o : Origin) (es : List ChronicleEntry) → o.first ≤ length o.told.steps
    → AreUpto (length o.told.steps) es → IsInForce o es → IsInForce (origin_on step o) es
machine_on step o es first upto machine =
    subst (λ (v : Option Version). IsMachineOf v (plain_state (origin_on step o) es)) (sym (force_stays step o es))
    (subst (λ (s : PlainState). IsMachineOf (in_force o es) s) (sym (replay_stays step o es first upto)) machine)
