-- What a step tells of its seat.
use Rattle.std.proofs.Common.{◌≡◌, ◌<◌, ◌+◌, ℕ, true, false, List, [], ◌∷◌, ◌++◌, Option, Some, IfSome, ap, sym, ◌∙◌, subst}
use mathlib.Core.List.{IsPrefix}
use Rattle.atomic_table.specs.Table.{Me, rest}
use Rattle.table_lock.specs.declared.event.LockEvent.{LockEvent}
use Rattle.table_lock.specs.declared.event.LockEvent.TheVariants.{Given, Taken, Missed}
use Rattle.table_lock.specs.declared.view.SeatView.{SeatView}
use Rattle.table_lock.specs.History.{last_value, IsOpenedWith, story_at, GivesBack}
use Rattle.table_lock.specs.Views.{slots_of}
use Rattle.table_lock.specs.Rule.{TakesTurn, MissesTurn, FreesTurn, SettlesHistory}
use Rattle.table_lock.proofs.Histories.{opened_longer, story_longer, adds_longer, gives_longer, gives_last, taken_value}
use Rattle.table_lock.proofs.Keeps.{head_value}

-- a seat that has the turn put the value into its slot
pub filled : {T : Type 0} (m n : Me (Option T) (SeatView T)) (value : T) → m.1 ≡ slots_of m.0.has_turn → m.0.has_turn ≡ true
    → n ≡ (m.0, (0, Some value) ∷ rest m.1) → n.1 ≡ (0, Some value) ∷ []
filled {T} m n value carries has e =
    ap (λ (x : Me (Option T) (SeatView T)). x.1) e ∙ ap (λ (l : List (ℕ × Option T)). (0, Some value) ∷ rest l) (carries ∙ ap slots_of has)

module _ {T O E : Type 0} (origin : T → O) (story : T → List E) where
  abbrev M : Type 0
  M = Me (Option T) (SeatView T)

  abbrev H : Type 0
  H = List (LockEvent T)

  -- a seat that missed the turn
  pub missed_seat : (first : T) (m n : M) → IsOpenedWith first m.0.history → MissesTurn origin story m n
      → IsOpenedWith first n.0.history × (n.0.parts ≡ m.0.parts) × (n.0.moves ≡ m.0.moves + 1)
      × IsPrefix (story_at story m.0.history) (story_at story n.0.history)
  missed_seat first m n opening t =
      let new : n.0.history ≡ t.after = ap (λ (x : M). x.0.history) t.is in
      let longer = adds_longer origin story m.0.history t.after Missed t.adds in (
        subst (IsOpenedWith first) (sym new) (opened_longer first m.0.history t.after longer opening),
        ap (λ (x : M). x.0.parts) t.is,
        ap (λ (x : M). x.0.moves) t.is,
        subst (λ (l : H). IsPrefix (story_at story m.0.history) (story_at story l)) (sym new)
            (story_longer origin story m.0.history t.after longer t.adds.legal),
      )

  -- a seat that took the turn, and then the value out of its slot
  pub taken_seat : (first : T) (m mid n : M) (result : Option T) → IsOpenedWith first m.0.history → TakesTurn origin story m mid
      → mid.1 ≡ (0, result) ∷ rest mid.1 → n.0 ≡ mid.0
      → IsOpenedWith first n.0.history × (n.0.parts ≡ m.0.parts) × (n.0.moves ≡ m.0.moves + 1)
      × IsPrefix (story_at story m.0.history) (story_at story n.0.history)
      × IfSome result (λ v. (last_value n.0.history ≡ Some v) × (story_at story n.0.history ≡ story v) × (origin v ≡ origin first))
  taken_seat first m mid n result opening t slot same =
      let view = same ∙ ap (λ (x : M). x.0) t.is in
      let new : n.0.history ≡ t.after = ap (λ (v : SeatView T). v.history) view in
      let longer = adds_longer origin story m.0.history t.after Taken t.adds in
      let out : Some t.value ≡ result = head_value (Some t.value) result (sym (ap (λ (x : M). x.1) t.is) ∙ slot) in
      let r = taken_value origin story first m.0.history t.after t.value opening t.adds t.last in (
        subst (IsOpenedWith first) (sym new) (opened_longer first m.0.history t.after longer opening),
        ap (λ (v : SeatView T). v.parts) view,
        ap (λ (v : SeatView T). v.moves) view,
        subst (λ (l : H). IsPrefix (story_at story m.0.history) (story_at story l)) (sym new)
            (story_longer origin story m.0.history t.after longer t.adds.legal),
        subst (λ (o : Option T). IfSome o (λ v. (last_value n.0.history ≡ Some v) × (story_at story n.0.history ≡ story v)
            × (origin v ≡ origin first))) out
            (subst (λ (l : H). (last_value l ≡ Some t.value) × (story_at story l ≡ story t.value) × (origin t.value ≡ origin first))
            (sym new) r),
      )

  -- what is known of a seat that gave a value
  pub record GaveValue (first : T) (m n : M) (value : T) : Type 0 where
    pub opening : IsOpenedWith first n.0.history
    pub parts : n.0.parts ≡ m.0.parts
    pub moves : n.0.moves ≡ m.0.moves + 1
    pub idle : n.0.has_turn ≡ false
    pub slots : n.1 ≡ []
    pub some_parts : 0 < n.0.parts
    pub untold : n.0.told ≡ []
    pub gives : GivesBack origin story m.0.history value n.0.history
    pub last : last_value n.0.history ≡ Some value
    pub alone : m.0.parts ≡ 64 → n.0.history ≡ m.0.history ++ Given value ∷ []

  -- a seat that gave the value in its slot
  pub gave_seat : (first : T) (m mid n : M) (value : T) → IsOpenedWith first m.0.history → 0 < m.0.parts → m.0.told ≡ [] → mid.0 ≡ m.0
      → FreesTurn origin story mid value n → GaveValue first m n value
  gave_seat first m mid n value opening some_parts untold same t =
      let new : n.0.history ≡ t.after = ap (λ (x : M). x.0.history) t.is in
      let gives = subst (λ (v : SeatView T). GivesBack origin story v.history value t.after) same t.gives in
      let parts : n.0.parts ≡ m.0.parts = ap (λ (x : M). x.0.parts) t.is ∙ ap (λ (v : SeatView T). v.parts) same in
      let all_told : mid.0.told ≡ [] = ap (λ (v : SeatView T). v.told) same ∙ untold in record {
        opening =
            subst (IsOpenedWith first) (sym new) (opened_longer first m.0.history t.after
            (gives_longer origin story m.0.history t.after value gives) opening);
        parts = parts;
        moves = ap (λ (x : M). x.0.moves) t.is ∙ ap (λ (v : SeatView T). v.moves + 1) same;
        idle = ap (λ (x : M). x.0.has_turn) t.is;
        slots = ap (λ (x : M). x.1) t.is;
        some_parts = subst (λ (k : ℕ). 0 < k) (sym parts) some_parts;
        untold = ap (λ (x : M). x.0.told) t.is ∙ all_told;
        gives = subst (λ (l : H). GivesBack origin story m.0.history value l) (sym new) gives;
        last = ap last_value new ∙ gives_last origin story m.0.history t.after value gives;
        alone =
            λ all. new ∙ (t.alone (ap (λ (v : SeatView T). v.parts) same ∙ all) all_told
            ∙ ap (λ (v : SeatView T). v.history ++ Given value ∷ []) same);
      }

  -- a seat that took in what another had seen
  pub joined_seat : (m n : M) (own told : H) → SettlesHistory origin story m n → m.0.history ≡ own → m.0.told ≡ told
      → IsPrefix (story_at story own) (story_at story n.0.history) × IsPrefix (story_at story told) (story_at story n.0.history)
  joined_seat m n own told t is_own is_told =
      let new : n.0.history ≡ t.both = ap (λ (x : M). x.0.history) t.is in
      let first = subst (λ (l : H). IsPrefix l t.both) is_own t.own in
      let second = subst (λ (l : H). IsPrefix l t.both) is_told t.told in
      subst (λ (l : H). IsPrefix (story_at story own) (story_at story l) × IsPrefix (story_at story told) (story_at story l)) (sym new)
      (story_longer origin story own t.both first t.legal, story_longer origin story told t.both second t.legal)
