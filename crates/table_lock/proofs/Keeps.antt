-- Each step keeps the rule.
use Rattle.std.proofs.Common.{◌≡◌, ℕ, ◌+◌, ◌<◌, ◌≤◌, ◌⊎◌, inl, inr, ⊎_elim, Bool, true, false, eqb, List, [], ◌∷◌, ◌++◌, length, get_or}
use Rattle.std.proofs.Common.{set, sym, refl, ap, ◌∙◌, subst, arith, eq-eqb, ne_eqb, Option, Some, None, unwrap_or, replicate}
use Rattle.std.proofs.Common.{length-append}
use mathlib.Core.Logic.{dite}
use mathlib.Core.Option.{none, some, some-ne-none, some-injective}
use mathlib.Core.List.{IsPrefix}
use native.Mathlib.Decide.{ℕ_discrete, dec_le}
use lib.ListN.{get_elem?}
use prog.Atomic.{either}
use Rattle.std.specs.Option.{option_map_or}
use Rattle.atomic_table.specs.Table.{State, Me, rest, step, Act, Valid, carried_after, keeps, takes, gives, stepped, Allows, Splits, Joins}
use Rattle.atomic_table.specs.Table.{opening, Final, Seen}
use Rattle.atomic_table.proofs.Lists.{set_here, set_else}
use Rattle.table_lock.specs.declared.event.LockEvent.{LockEvent}
use Rattle.table_lock.specs.declared.event.LockEvent.TheVariants.{Given, Taken, Missed}
use Rattle.table_lock.specs.declared.view.SeatView.{SeatView}
use Rattle.table_lock.specs.History.{is_taken, last_value, IsOpenedWith, story_at, Continues, Follows, IsLegal, Adds}
use Rattle.table_lock.specs.Views.{weight, turns, view, first_view, less_one_part, one_part, joined_views, spent_view, EachBegins}
use Rattle.table_lock.specs.Rule.{IsKnown, IsKept, Takes, FreesTurn, Frees, Settles}
use Rattle.table_lock.proofs.Prefixes.{prefix_self, prefix_shorter, prefix_both, prefix_of_nothing}
use Rattle.table_lock.proofs.Totals.{total-set, total-snoc, total-two, some_one}
use Rattle.table_lock.proofs.Histories.{turn-append, value-append, value_kept, legal-append, prefix_legal, last_origin}
use Rattle.table_lock.proofs.Views.{weight_none, weight_one, weight_most, at_here, Begins, Knows, each_set, each_snoc, each_longer}
use Rattle.table_lock.proofs.Views.{spent_set, spent_snoc, held_set, held_snoc, none_held, known_here, known_set, known_snoc, has_seen}
use Rattle.table_lock.proofs.Views.{since_miss}

value_in : {T : Type 0} → Option T → List (ℕ × Option T) → Option T
value_in d [] = d
value_in d (x ∷ xs) = x.1

-- the first slot has one value
pub head_value : {T : Type 0} (x y : Option T) {xs ys : List (ℕ × Option T)} → (◌≡◌ {A = List (ℕ × Option T)} ((0, x) ∷ xs) ((0, y) ∷ ys))
    → x ≡ y
unfolding value_in
head_value x y e = ap (value_in x) e

same_value : {T : Type 0} (x y : T) → (◌≡◌ {A = List (ℕ × Option T)} ((0, Some x) ∷ []) ((0, Some y) ∷ [])) → x ≡ y
same_value x y e = ap (λ o. unwrap_or o x) (head_value (Some x) (Some y) e)

module _ {T O E : Type 0} (origin : T → O) (story : T → List E) where
  abbrev V : Type 0
  V = SeatView T

  abbrev H : Type 0
  H = List (LockEvent T)

  abbrev St : Type 0
  St = State (Option T) (SeatView T)

  abbrev M : Type 0
  M = Me (Option T) (SeatView T)

  abbrev W : V → ℕ
  W v = weight v.has_turn

  abbrev P : V → ℕ
  P v = v.parts

  abbrev N : V → ℕ
  N v = v.moves

  opens : (value : T) → IsKept origin story (opening (0 ∷ []) (Some value ∷ []) (first_view value))
  opens value =
      let w : V = first_view value in
      let h : H = Given value ∷ [] in record {
        history = h;
        legal = (refl, tt, tt);
        begins = each_snoc [] w h (λ k u at. absurd (some-ne-none u (sym at))) (prefix_self h, (h, refl));
        known = (0, w, refl, inl refl);
        moves = refl;
        word = refl;
        turn = refl;
        home = λ _. (value, refl, refl);
        held = none_held (w ∷ []) h refl;
        parts = refl;
        spent = spent_snoc [] w (λ k u at. absurd (some-ne-none u (sym at))) (λ e. absurd (omega arith));
      }

  -- the same of a copy of the value, and of slots that were filled
  pub opens_with : (key value : T) (xs : List (Option T)) → key ≡ value → xs ≡ Some value ∷ []
      → IsKept origin story (opening (0 ∷ []) xs (first_view key))
  opens_with key value xs same items =
      subst (λ (ys : List (Option T)). IsKept origin story (opening (0 ∷ []) ys (first_view key)))
      (ap (λ (x : T). Some x ∷ []) same ∙ sym items) (opens key)

  word_is : (s : St) → (k : IsKept origin story s) → get_or s.words 0 0 ≡ weight (is_taken k.history)
  word_is s k = ap (λ ws. get_or ws 0 0) k.word

  word_set : (s : St) (n : ℕ) (b : Bool) → IsKept origin story s → n ≡ weight b → set s.words 0 n ≡ weight b ∷ []
  word_set s n b k e = ap (λ ws. set ws 0 n) k.word ∙ ap (λ j. j ∷ []) e

  -- a seat with all parts that hasn't the turn: nobody has
  nobody : (s : St) → (k : IsKept origin story s) → (id : ℕ) (v : V) → get_elem? s.views id ≡ some v → v.parts ≡ 64 → v.has_turn ≡ false
      → is_taken k.history ≡ false
  nobody s k id v at all idle = weight_none (is_taken k.history) (sym k.turn ∙ dite (ℕ_discrete (turns s.views) 0) (λ e. e) (λ ne.
      let r = some_one (λ (x : V). x.has_turn) s.views (omega arith) in
      dite (ℕ_discrete r.0 id)
      (λ e. let same : some r.1 ≡ some v = sym r.2 ∙ (ap (λ (j : ℕ). get_elem? s.views j) e ∙ at) in
      absurd (cc (ap (λ (x : V). x.has_turn) (some-injective r.1 v same), r.3, idle)))
      (λ apart.
      let two = total-two P s.views r.0 id r.1 v apart r.2 at in
      let whole = k.parts in
      absurd (cc ((k.spent r.0 r.1 r.2 (omega arith)).idle, r.3)))))

  -- and it has seen all
  saw_all : (s : St) → (k : IsKept origin story s) → (id : ℕ) (v : V) → get_elem? s.views id ≡ some v → v.parts ≡ 64 → v.told ≡ []
      → v.history ≡ k.history
  saw_all s k id v at all untold =
      let known = k.known in
      let begins = k.begins id v at in
      dite (ℕ_discrete known.0 id)
      (λ e. let same : known.1 ≡ v = some-injective known.1 v (sym known.2 ∙ (ap (λ (j : ℕ). get_elem? s.views j) e ∙ at)) in
      has_seen v k.history untold begins (subst (λ (x : V). Knows x k.history) same known.3))
      (λ apart.
      let two = total-two P s.views known.0 id known.1 v apart known.2 at in
      let whole = k.parts in
      let none = k.spent known.0 known.1 known.2 (omega arith) in
      let empty : k.history ≡ [] = ⊎_elim (λ e. sym e ∙ none.unseen) (λ e. sym e ∙ none.untold) known.3 in
      prefix_of_nothing v.history (subst (λ (l : H). IsPrefix v.history l) empty begins.0) ∙ sym empty)

  -- a seat adds to the history
  added : (s : St) → (k : IsKept origin story s) → (id : ℕ) (v : V) (e : LockEvent T) → get_elem? s.views id ≡ some v
      → IsLegal origin story (k.history ++ e ∷ []) → Adds origin story v.history e (k.history ++ e ∷ [])
  added s k id v e at legal = let p = (k.begins id v at).0 in record { between = p.0; is = ap (λ l. l ++ e ∷ []) (sym p.1); legal = legal }

  -- what the others know is still part of the history
  begins_more : (s : St) → (k : IsKept origin story s) → (id : ℕ) (v : V) (e : LockEvent T) (w : V) → get_elem? s.views id ≡ some v
      → w.history ≡ k.history ++ e ∷ [] → w.told ≡ v.told → EachBegins (set s.views id w) (k.history ++ e ∷ [])
  begins_more s k id v e w at seen told =
      let more : H = k.history ++ e ∷ [] in
      let all = each_longer s.views k.history more k.begins (e ∷ [], refl) in
      each_set s.views id w more all (
        subst (λ (l : H). IsPrefix l more) (sym seen) (prefix_self more),
        subst (λ (l : H). IsPrefix l more) (sym told) (all id v at).1,
      )

  -- the turn was free
  won : (s : St) (id : ℕ) (m : M) → (k : IsKept origin story s) → 0 < m.0.parts → m.0.has_turn ≡ false → get_elem? s.views id ≡ some m.0
      → (free : is_taken k.history ≡ false)
      → IsKept origin story (stepped s 0 1 id m.1 (view m.0.parts true (k.history ++ Taken ∷ []) m.0.told (m.0.moves + 1))
      (takes 0 (Some (k.home free).0)))
  won s id m k some_parts idle at free =
      let h : H = k.history in
      let more : H = h ++ Taken ∷ [] in
      let w : V = view m.0.parts true more m.0.told (m.0.moves + 1) in
      let sum = total-set W s.views id m.0 w at in
      let sum_parts = total-set P s.views id m.0 w at in
      let sum_moves = total-set N s.views id m.0 w at in
      let was : W m.0 ≡ 0 = ap weight idle in
      let empty : turns s.views ≡ 0 = k.turn ∙ ap weight free in
      let taken : is_taken more ≡ true = turn-append true h (Taken ∷ []) in
      let one : turns (set s.views id w) ≡ 1 = omega arith in
      let long = length-append h (Taken ∷ []) in
      let moved = k.moves in let whole = k.parts in record {
        history = more;
        legal = legal-append origin story true None h (Taken ∷ []) k.legal (free, tt);
        begins = begins_more s k id m.0 Taken w at refl refl;
        known = known_here s.views id m.0 w more at refl;
        moves = omega arith;
        word = word_set s 1 true k refl ∙ ap (λ b. weight b ∷ []) (sym taken);
        turn = one ∙ ap weight (sym taken);
        home = λ e. absurd (cc (taken, e));
        held = held_set s.views id w more (none_held s.views more empty) (λ _. (0, sym (append_none more)));
        parts = omega arith;
        spent = spent_set s.views id w k.spent (λ e. absurd (omega arith));
      }
    where
      append_none : (l : H) → l ++ [] ≡ l
      append_none [] = refl
      append_none (x ∷ xs) = ap (λ ys. x ∷ ys) (append_none xs)

  -- the turn was taken
  missed : (s : St) (id : ℕ) (m : M) → (k : IsKept origin story s) → 0 < m.0.parts → m.0.has_turn ≡ false → get_elem? s.views id ≡ some m.0
      → (out : is_taken k.history ≡ true)
      → IsKept origin story (stepped s 0 (get_or s.words 0 0) id m.1
      (view m.0.parts m.0.has_turn (k.history ++ Missed ∷ []) m.0.told (m.0.moves + 1)) keeps)
  missed s id m k some_parts idle at out =
      let h : H = k.history in
      let more : H = h ++ Missed ∷ [] in
      let w : V = view m.0.parts m.0.has_turn more m.0.told (m.0.moves + 1) in
      let sum = total-set W s.views id m.0 w at in
      let sum_parts = total-set P s.views id m.0 w at in
      let sum_moves = total-set N s.views id m.0 w at in
      let same : is_taken more ≡ is_taken h = turn-append true h (Missed ∷ []) in
      let turn : turns (set s.views id w) ≡ turns s.views = omega arith in
      let long = length-append h (Missed ∷ []) in
      let moved = k.moves in let whole = k.parts in record {
        history = more;
        legal = legal-append origin story true None h (Missed ∷ []) k.legal (out, tt);
        begins = begins_more s k id m.0 Missed w at refl refl;
        known = known_here s.views id m.0 w more at refl;
        moves = omega arith;
        word = word_set s (get_or s.words 0 0) (is_taken h) k (word_is s k) ∙ ap (λ b. weight b ∷ []) (sym same);
        turn = turn ∙ (k.turn ∙ ap weight (sym same));
        home = λ e. absurd (cc (same, out, e));
        held = held_set s.views id w more (λ j u found has. since_miss u.history h (k.held j u found has)) (λ has. absurd (cc (idle, has)));
        parts = omega arith;
        spent = spent_set s.views id w k.spent (λ e. absurd (omega arith));
      }

  pub takes_turn : (slots id : ℕ) (m : M) → 0 < m.0.parts → m.0.has_turn ≡ false
      → Allows (IsKept origin story) slots id m 0 (λ n. either (eqb n 0) 1 n) (Takes origin story (step slots 0 0 1 none) m)
  takes_turn slots id m some_parts idle s k wide at _ =
      let x : ℕ = get_or s.words 0 0 in
      let h : H = k.history in
      let most = weight_most (is_taken h) in
      let is = word_is s k in
      dite (ℕ_discrete x 0)
      (λ zero_word.
      let free : is_taken h ≡ false = weight_none (is_taken h) (sym is ∙ zero_word) in
      let home = k.home free in
      let more : H = h ++ Taken ∷ [] in
      let w : V = view m.0.parts true more m.0.told (m.0.moves + 1) in
      let legal = legal-append origin story true None h (Taken ∷ []) k.legal (free, tt) in (
        w,
        takes 0 (Some home.0),
        home.1,
        subst (λ b. IsKept origin story (stepped s 0 (either b 1 x) id m.1 w (takes 0 (Some home.0)))) (sym (eq-eqb x 0 zero_word))
            (won s id m k some_parts idle at free),
        (
          (λ _. record {
            after = more;
            value = home.0;
            is = refl;
            adds = added s k id m.0 Taken at legal;
            last = value-append None h (Taken ∷ []) ∙ home.2;
            alone = λ all untold. ap (λ l. l ++ Taken ∷ []) (sym (saw_all s k id m.0 at all untold));
          }),
          λ not. absurd (not zero_word),
        ),
      ))
      (λ not_zero.
      let out : is_taken h ≡ true = weight_one (is_taken h) (omega arith) in
      let more : H = h ++ Missed ∷ [] in
      let w : V = view m.0.parts m.0.has_turn more m.0.told (m.0.moves + 1) in
      let legal = legal-append origin story true None h (Missed ∷ []) k.legal (out, tt) in (
        w,
        keeps,
        tt,
        subst (λ b. IsKept origin story (stepped s 0 (either b 1 x) id m.1 w keeps)) (sym (ne_eqb x 0 not_zero))
            (missed s id m k some_parts idle at out),
        (
          (λ zero_word. absurd (not_zero zero_word)),
          λ _. record {
            after = more;
            is = refl;
            adds = added s k id m.0 Missed at legal;
            others = λ all. absurd (cc (nobody s k id m.0 at all idle, out));
          },
        ),
      ))

  -- what a seat gives continues the value that was given last
  follows : (s : St) → (k : IsKept origin story s) → (id : ℕ) (v : V) (first value : T) → get_elem? s.views id ≡ some v → v.has_turn ≡ true
      → IsOpenedWith first v.history → origin value ≡ origin first
      → IsPrefix (story_at story v.history) (story value) → Follows origin story (last_value k.history) value
  follows s k id v first value at has opening from longer =
      let p = (k.begins id v at).0 in
      let since = k.held id v at has in
      let r = last_origin origin story first v.history opening (prefix_legal origin story v.history k.history p k.legal) in
      let same : last_value k.history ≡ Some r.0 =
      ap last_value since.1 ∙ (value-append None v.history (replicate since.0 Missed)
      ∙ (value_kept (last_value v.history) since.0 ∙ r.1)) in
      let grows : IsPrefix (story r.0) (story value) =
      subst (λ (l : Option T). IsPrefix (option_map_or story l []) (story value)) r.1 longer in
      let one : Continues origin story r.0 value = record { same = from ∙ sym r.2; longer = grows } in
      subst (λ (l : Option T). Follows origin story l value) (sym same) one

  pub sets_free : (slots id : ℕ) (m : M) (first value : T) → 0 < slots → m.1 ≡ (0, Some value) ∷ [] → 0 < m.0.parts → m.0.has_turn ≡ true
      → IsOpenedWith first m.0.history → origin value ≡ origin first
      → IsPrefix (story_at story m.0.history) (story value)
      → Allows (IsKept origin story) slots id m 0 (λ _. 0) (λ _. Frees origin story (step slots 0 0 0 none) m 0)
  sets_free slots id m first value room is some_parts has opening from longer s k wide at _ =
      let h : H = k.history in
      let more : H = h ++ Given value ∷ [] in
      let w : V = view m.0.parts false more m.0.told (m.0.moves + 1) in
      let sum = total-set W s.views id m.0 w at in
      let sum_parts = total-set P s.views id m.0 w at in
      let sum_moves = total-set N s.views id m.0 w at in
      let was : W m.0 ≡ 1 = ap weight has in
      let most = weight_most (is_taken h) in
      let turn = k.turn in
      let out : is_taken h ≡ true = weight_one (is_taken h) (omega arith) in
      let free : is_taken more ≡ false = turn-append true h (Given value ∷ []) in
      let empty : turns (set s.views id w) ≡ 0 = omega arith in
      let long = length-append h (Given value ∷ []) in
      let legal =
      legal-append origin story true None h (Given value ∷ []) k.legal
      (out, follows s k id m.0 first value at has opening from longer, tt) in
      let since = k.held id m.0 at has in
      let moved = k.moves in let whole = k.parts in
      let Kept : List (ℕ × Option T) → Type 0 = λ c. IsKept origin story (stepped s 0 0 id c w gives) in (
        w,
        gives,
        tt,
        subst Kept (sym is) (record {
          history = more;
          legal = legal;
          begins = begins_more s k id m.0 (Given value) w at refl refl;
          known = known_here s.views id m.0 w more at refl;
          moves = omega arith;
          word = word_set s 0 false k refl ∙ ap (λ b. weight b ∷ []) (sym free);
          turn = empty ∙ ap weight (sym free);
          home = λ _. (value, set_here s.homes 0 (some (Some value)) (omega arith), value-append None h (Given value ∷ []));
          held = none_held (set s.views id w) more empty;
          parts = omega arith;
          spent = spent_set s.views id w k.spent (λ e. absurd (omega arith));
        }),
        λ v same. subst (λ (x : T). FreesTurn origin story m x (w, carried_after m.1 gives)) (same_value value v (sym is ∙ same)) (record {
          after = more;
          is = ap (λ (c : List (ℕ × Option T)). (w, rest c)) is;
          gives = record { misses = since.0; is = ap (λ l. l ++ Given value ∷ []) since.1; legal = legal };
          alone = λ all untold. ap (λ l. l ++ Given value ∷ []) (sym (saw_all s k id m.0 at all untold));
        }),
      )

  pub splits : (id : ℕ) (v : V) → 2 ≤ v.parts → v.has_turn ≡ false → Splits (IsKept origin story) id v (less_one_part v) (one_part v)
  splits id v two idle s k at =
      let h : H = k.history in
      let w : V = less_one_part v in let new : V = one_part v in
      let mid : List V = set s.views id w in
      let views : List V = mid ++ new ∷ [] in
      let sum = total-set W s.views id v w at in let sum2 = total-snoc W mid new in
      let p = total-set P s.views id v w at in let p2 = total-snoc P mid new in
      let n = total-set N s.views id v w at in let n2 = total-snoc N mid new in
      let same : turns views ≡ turns s.views = omega arith in
      let moved = k.moves in let whole = k.parts in
      let own = k.begins id v at in record {
        history = h;
        legal = k.legal;
        begins = each_snoc mid new h (each_set s.views id w h k.begins own) (own.0, (h, refl));
        known = known_snoc mid new h (known_set s.views id v w h at (λ knows. knows) k.known);
        moves = omega arith;
        word = k.word;
        turn = same ∙ k.turn;
        home = k.home;
        held = held_snoc mid new h (held_set s.views id w h k.held (λ has. absurd (cc (idle, has)))) (λ has. absurd (cc (has)));
        parts = omega arith;
        spent = spent_snoc mid new (spent_set s.views id w k.spent (λ e. absurd (omega arith))) (λ e. absurd (omega arith));
      }

  -- after a join some seat knows the whole history still, or was told it
  known_joined : (views : List V) (id : ℕ) (v : V) (other : ℕ) (w : V) (h : H) → get_elem? views id ≡ some v → ¬ (other ≡ id)
      → get_elem? views other ≡ some w → v.told ≡ [] → w.told ≡ [] → Begins v h → Begins w h
      → IsKnown views h → IsKnown (set (set views id (joined_views v w)) other spent_view) h
  known_joined views id v other w h at apart there untold untold' own theirs known =
      let both : V = joined_views v w in
      let mid : List V = set views id both in
      let here : get_elem? (set mid other spent_view) id ≡ some both =
      set_else mid other id spent_view (λ e. apart (sym e)) ∙ at_here views id v both at in
      dite (ℕ_discrete known.0 other)
      (λ e. let same : known.1 ≡ w = some-injective known.1 w (sym known.2 ∙ (ap (λ (j : ℕ). get_elem? views j) e ∙ there)) in
      (id, both, here, inr (has_seen w h untold' theirs (subst (λ (x : V). Knows x h) same known.3))))
      (λ not_other. dite (ℕ_discrete known.0 id)
      (λ e. let same : known.1 ≡ v = some-injective known.1 v (sym known.2 ∙ (ap (λ (j : ℕ). get_elem? views j) e ∙ at)) in
      (id, both, here, inl (has_seen v h untold own (subst (λ (x : V). Knows x h) same known.3))))
      (λ not_id. (
        known.0,
        known.1,
        set_else mid other known.0 spent_view not_other ∙ (set_else views id known.0 both not_id ∙ known.2),
        known.3,
      )))

  pub joins : (id : ℕ) (v : V) (other : ℕ) (w : V) → 0 < v.parts → v.has_turn ≡ false → w.has_turn ≡ false → v.told ≡ [] → w.told ≡ []
      → Joins (IsKept origin story) id v other w (joined_views v w) spent_view
  joins id v other w some_parts idle idle' untold untold' s k at apart at' =
      let h : H = k.history in
      let both : V = joined_views v w in
      let mid : List V = set s.views id both in
      let views : List V = set mid other spent_view in
      let sum = total-set W s.views id v both at in let sum2 = total-set W mid other w spent_view at' in
      let p = total-set P s.views id v both at in let p2 = total-set P mid other w spent_view at' in
      let n = total-set N s.views id v both at in let n2 = total-set N mid other w spent_view at' in
      let none' : W w ≡ 0 = ap weight idle' in
      let same : turns views ≡ turns s.views = omega arith in
      let there : get_elem? s.views other ≡ some w = sym (set_else s.views id other both apart) ∙ at' in
      let here : get_elem? mid id ≡ some both = at_here s.views id v both at in
      let own = k.begins id v at in
      let theirs = k.begins other w there in
      let moved = k.moves in let whole = k.parts in record {
        history = h;
        legal = k.legal;
        begins = each_set mid other spent_view h (each_set s.views id both h k.begins (own.0, theirs.0)) ((h, refl), (h, refl));
        known = known_joined s.views id v other w h at apart there untold untold' own theirs k.known;
        moves = omega arith;
        word = k.word;
        turn = same ∙ k.turn;
        home = k.home;
        held =
            held_set mid other spent_view h (held_set s.views id both h k.held (λ has. absurd (cc (idle, has)))) (λ has. absurd (cc (has)));
        parts = omega arith;
        spent =
            spent_set mid other spent_view (spent_set s.views id both k.spent (λ e. absurd (omega arith)))
            (λ _. record { idle = refl; unseen = refl; untold = refl });
      }

  -- a seat that was told a history keeps the longer one
  settled : (s : St) (slots id : ℕ) (m : M) → m.0.has_turn ≡ false → (k : IsKept origin story s) → get_elem? s.views id ≡ some m.0
      → (both : H) → (both ≡ m.0.history) ⊎ (both ≡ m.0.told) → IsPrefix m.0.history both → IsPrefix m.0.told both
      → IsPrefix both k.history
      → (w : V) × (a : Act (Option T)) × Valid s.homes m.1 a × IsKept origin story (stepped s 0 (get_or s.words 0 0) id m.1 w a)
      × Settles origin story (step slots 0 0 0 none) m (get_or s.words 0 0) (w, carried_after m.1 a)
  settled s slots id m idle k at both one own told below =
      let h : H = k.history in
      let w : V = view m.0.parts m.0.has_turn both [] m.0.moves in
      let sum = total-set W s.views id m.0 w at in
      let sum_parts = total-set P s.views id m.0 w at in
      let sum_moves = total-set N s.views id m.0 w at in
      let same : turns (set s.views id w) ≡ turns s.views = omega arith in
      let moved = k.moves in let whole = k.parts in (
        w,
        keeps,
        tt,
        record {
          history = h;
          legal = k.legal;
          begins = each_set s.views id w h k.begins (below, (h, refl));
          known = known_set s.views id m.0 w h at
              (⊎_elim (λ e. inl (prefix_both both h below (subst (λ (l : H). IsPrefix l both) e own)))
              (λ e. inl (prefix_both both h below (subst (λ (l : H). IsPrefix l both) e told)))) k.known;
          moves = omega arith;
          word = word_set s (get_or s.words 0 0) (is_taken h) k (word_is s k);
          turn = same ∙ k.turn;
          home = k.home;
          held = held_set s.views id w h k.held (λ has. absurd (cc (idle, has)));
          parts = omega arith;
          spent =
              spent_set s.views id w k.spent (λ e. let none = k.spent id m.0 at
              e in record { idle = idle; unseen = ⊎_elim (λ is. is ∙ none.unseen) (λ is. is ∙ none.untold) one; untold = refl });
        },
        record { both = both; is = refl; one = one; own = own; told = told; legal = prefix_legal origin story both h below k.legal },
      )

  pub settles : (slots id : ℕ) (m : M) → m.0.has_turn ≡ false
      → Allows (IsKept origin story) slots id m 0 (λ n. n) (Settles origin story (step slots 0 0 0 none) m)
  settles slots id m idle s k wide at _ =
      let begins = k.begins id m.0 at in
      dite (dec_le (length m.0.history) (length m.0.told))
      (λ le. settled s slots id m idle k at m.0.told (inr refl) (prefix_shorter m.0.history m.0.told k.history begins.0 begins.1 le)
      (prefix_self m.0.told) begins.1)
      (λ more. settled s slots id m idle k at m.0.history (inl refl) (prefix_self m.0.history)
      (prefix_shorter m.0.told m.0.history k.history begins.1 begins.0 (omega arith)) begins.0)

  -- at the end the slot has the value that was given last, which the closing seat has seen
  pub closes : (id : ℕ) (v : V) (ws : List ℕ) (xs : List (Option T)) (first : T) → v.parts ≡ 64 → v.has_turn ≡ false → v.told ≡ []
      → IsOpenedWith first v.history → Final (Seen (IsKept origin story) id v) ws xs
      → (value : T) × (get_elem? xs 0 ≡ some (Some value)) × (last_value v.history ≡ Some value) × (origin value ≡ origin first)
  closes id v ws xs first all idle untold opening f =
      let s = f.0 in let k = f.1.0 in let at = f.1.1 in
      let home = k.home (nobody s k id v at all idle) in
      let last : last_value v.history ≡ Some home.0 = ap last_value (saw_all s k id v at all untold) ∙ home.2 in
      let r =
      last_origin origin story first v.history opening (prefix_legal origin story v.history k.history (k.begins id v at).0 k.legal) in
      let same : home.0 ≡ r.0 = ap (λ o. unwrap_or o r.0) (sym last ∙ r.1) in
      (home.0, f.4 0 (Some home.0) home.1, last, ap origin same ∙ r.2)
