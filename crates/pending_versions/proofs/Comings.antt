-- Volumes that a command leaves as they are, or of which it changes one, come from those before.
use Rattle.std.proofs.Common.{◌≡◌, ◌≤◌, ◌<◌, ℕ, ◌+◌, ◌==◌, false, List, [], ◌∷◌, ◌++◌, length, Option, slice_index_or, inl, inr}
use Rattle.std.proofs.Common.{refl, sym, subst, arith}
use Rattle.command_table.specs.Commands.{CommandKind}
use Rattle.disk_model.specs.Steps.{Image}
use Rattle.line_table.specs.Machine.{PlainState, PlainVolume}
use Rattle.vg_scan.specs.Versions.{Version}
use Rattle.volume_history.specs.Candidates.{is_born, place_at}
use Rattle.volume_history.specs.Placed.{Place, PlacedVolume, group_name, volumes_of}
use Rattle.pending_versions.proofs.Keys.{above, below, keys_both, keys_end, keys_from}
use Rattle.pending_versions.proofs.Named.{IsNamed}
use Rattle.pending_versions.specs.Coming.{Comes, EachComes, Remakes, StandsAt, StaysAt, made_of, open_step}
use Rattle.pending_versions.specs.Machines.{AreKeyed, AreOf}

-- ---- where sectors stand in a part of the volumes

pub stands_left : (us ws : List PlacedVolume) (qs rs : List PlainVolume) (key x : ℕ) (place : Place) (value : List ℕ)
    → StandsAt us qs key x place value → StandsAt (us ++ ws) (qs ++ rs) key x place value
stands_left [] ws qs rs key x place value stands = absurd stands
stands_left (u ∷ us) ws [] rs key x place value stands = absurd stands
stands_left (u ∷ us) ws (q ∷ qs) rs key x place value (inl here) = inl here
stands_left (u ∷ us) ws (q ∷ qs) rs key x place value (inr later) = inr (stands_left us ws qs rs key x place value later)

pub stands_right : (us ws : List PlacedVolume) (qs rs : List PlainVolume) → AreOf us qs → (key x : ℕ) (place : Place) (value : List ℕ)
    → StandsAt ws rs key x place value → StandsAt (us ++ ws) (qs ++ rs) key x place value
stands_right [] ws [] rs of key x place value stands = stands
stands_right [] ws (q ∷ qs) rs of key x place value stands = absurd of
stands_right (u ∷ us) ws [] rs of key x place value stands = absurd of
stands_right (u ∷ us) ws (q ∷ qs) rs of key x place value stands = inr (stands_right us ws qs rs of.2 key x place value stands)

module _ (kind : CommandKind) (before after : Option Version) (state : PlainState) (image : Image) where
  -- these volumes are among those of the version
  abbrev pub Among : List PlacedVolume → List PlainVolume → Type 0
  Among vs ps =
      (key x : ℕ) (place : Place) (value : List ℕ) → StandsAt vs ps key x place value
      → StandsAt (volumes_of before) state.volumes key x place value

  -- none of its sectors is born
  abbrev pub IsUnborn : ℕ → Type 0
  IsUnborn key = (x : ℕ) → is_born (open_step kind before after state) state key x ≡ false

  -- a sector that stays
  pub stays : (v : PlacedVolume) (vs : List PlacedVolume) (p : PlainVolume) (ps : List PlainVolume) (x : ℕ) → x < length v.places
      → is_born (open_step kind before after state) state p.key x ≡ false → Among (v ∷ vs) (p ∷ ps)
      → StaysAt kind before after state p.key x (place_at v.places x) (slice_index_or p.sectors x [])
  stays v vs p ps x lt unborn among = record {
    unborn = unborn;
    stood =
        among p.key x (place_at v.places x) (slice_index_or p.sectors x [])
        (inl (record { keyed = refl; inside = lt; there = refl; value_is = refl }));
  }

  -- volumes with keys in this range, of which none is born
  pub come_kept : (from next : ℕ) (vs : List PlacedVolume) (ps : List PlainVolume) → AreOf vs ps → AreKeyed from next ps
      → ((key : ℕ) → from ≤ key → key < next → IsUnborn key) → Among vs ps → EachComes kind before after state image vs ps
  come_kept from next [] [] of keys unborn among = tt
  come_kept from next [] (p ∷ ps) of keys unborn among = absurd of
  come_kept from next (v ∷ vs) [] of keys unborn among = absurd of
  come_kept from next (v ∷ vs) (p ∷ ps) of keys unborn among =
      let end = keys_end (p.key + 1) next ps keys.1 in (
        (of.0, of.1, λ x lt. inr (stays v vs p ps x lt (unborn p.key keys.0 (omega (arith, end)) x) among)),
        come_kept (p.key + 1) next vs ps of.2 keys.1 (λ key le lt. unborn key (omega (arith, le, keys.0)) lt)
            (λ key x place value stands. among key x place value (inr stands)),
      )

  -- two lists, one behind the other
  pub come_both : (vs us : List PlacedVolume) (ps qs : List PlainVolume) → EachComes kind before after state image vs ps
      → EachComes kind before after state image us qs → EachComes kind before after state image (vs ++ us) (ps ++ qs)
  come_both [] us [] qs a b = b
  come_both [] us (p ∷ ps) qs a b = absurd a
  come_both (v ∷ vs) us [] qs a b = absurd a
  come_both (v ∷ vs) us (p ∷ ps) qs a b = (a.0, come_both vs us ps qs a.1 b)

  -- they are of the version
  pub of_comes : (vs : List PlacedVolume) (ps : List PlainVolume) → EachComes kind before after state image vs ps → AreOf vs ps
  of_comes [] [] come = tt
  of_comes [] (p ∷ ps) come = absurd come
  of_comes (v ∷ vs) [] come = absurd come
  of_comes (v ∷ vs) (p ∷ ps) come = (come.0.0, come.0.1, of_comes vs ps come.1)

  -- so the version is remade, where these are its volumes and those the machine's
  pub remade : (vs : List PlacedVolume) (ps : List PlainVolume) → volumes_of after ≡ vs
      → (made_of kind before after state image).volumes ≡ ps → EachComes kind before after state image vs ps
      → group_name after ≡ (made_of kind before after state image).group
      → AreKeyed 0 (made_of kind before after state image).next_key ps → Remakes kind before after state image
  remade vs ps placed plain come group keys =
      let all : EachComes kind before after state image (volumes_of after) (made_of kind before after state image).volumes =
      subst (λ (l : List PlacedVolume). EachComes kind before after state image l (made_of kind before after state image).volumes)
      (sym placed) (subst (λ (l : List PlainVolume). EachComes kind before after state image vs l) (sym plain) come) in
      record {
        machine = record {
          group = group;
          volumes = of_comes (volumes_of after) (made_of kind before after state image).volumes all;
          keys =
              subst (λ (l : List PlainVolume). AreKeyed 0 (made_of kind before after state image).next_key l) (sym plain) keys;
        };
        volumes = all;
      }

  -- ---- one volume is changed, or gone

  module _ (name : List ℕ) (key : ℕ) (n : IsNamed name key 0 state.next_key (volumes_of before) state.volumes)
      (unborn : (other : ℕ) → (key == other) ≡ false → IsUnborn other) where
    pub low_among : Among n.before n.low
    low_among k x place value stands =
        subst (λ (l : List PlacedVolume). StandsAt l state.volumes k x place value) (sym n.placed)
        (subst (λ (l : List PlainVolume). StandsAt (n.before ++ n.v ∷ n.behind) l k x place value) (sym n.plain)
        (stands_left n.before (n.v ∷ n.behind) n.low (n.p ∷ n.high) k x place value stands))

    pub own_among : Among (n.v ∷ n.behind) (n.p ∷ n.high)
    own_among k x place value stands =
        subst (λ (l : List PlacedVolume). StandsAt l state.volumes k x place value) (sym n.placed)
        (subst (λ (l : List PlainVolume). StandsAt (n.before ++ n.v ∷ n.behind) l k x place value) (sym n.plain)
        (stands_right n.before (n.v ∷ n.behind) n.low (n.p ∷ n.high) n.of_before k x place value stands))

    come_low : EachComes kind before after state image n.before n.low
    come_low =
        come_kept 0 key n.before n.low n.of_before n.keys_low (λ other le lt. unborn other (above key other (omega (arith, lt)))) low_among

    come_high : EachComes kind before after state image n.behind n.high
    come_high =
        come_kept (key + 1) state.next_key n.behind n.high n.of_behind n.keys_high (λ other le lt. unborn other (below key other le))
        (λ k x place value stands. own_among k x place value (inr stands))

    pub come_changed : (v : PlacedVolume) (p : PlainVolume) → Comes kind before after state image v p
        → EachComes kind before after state image (n.before ++ v ∷ n.behind) (n.low ++ p ∷ n.high)
    come_changed v p one =
        come_both n.before (v ∷ n.behind) n.low (p ∷ n.high) come_low (one, come_high)

    pub keys_changed : (p : PlainVolume) → p.key ≡ key → AreKeyed 0 state.next_key (n.low ++ p ∷ n.high)
    keys_changed p same =
        keys_both 0 key state.next_key n.low (p ∷ n.high) n.keys_low
        (omega (arith, same), subst (λ (k : ℕ). AreKeyed (k + 1) state.next_key n.high) (sym same) n.keys_high)

    pub come_without : EachComes kind before after state image (n.before ++ n.behind) (n.low ++ n.high)
    come_without = come_both n.before n.behind n.low n.high come_low come_high

    pub keys_without : AreKeyed 0 state.next_key (n.low ++ n.high)
    keys_without =
        keys_both 0 key state.next_key n.low n.high n.keys_low
        (keys_from (key + 1) key state.next_key n.high (omega arith) n.keys_high)
