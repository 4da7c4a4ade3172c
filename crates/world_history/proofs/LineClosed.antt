-- A line is answered, and closed.
use Rattle.std.proofs.Common.{◌≡◌, ◌≤◌, ◌<◌, ◌⊎◌, All, ℕ, Bool, true, false, cond, not, ◌&&◌, ◌||◌, ◌==◌, nat_lt, List, []}
use Rattle.std.proofs.Common.{◌∷◌, ◌++◌, Option, None, Some, inl, inr, is_none, is_some, length, option_map, slice_get, unwrap_or, refl}
use Rattle.std.proofs.Common.{sym, ap, subst, ◌∙◌, arith, true≢false}
use Rattle.std.specs.Option.{option_map_or}
use Rattle.std.proofs.lemmas.Bool.{eq-eqb, eqb-false, eqb-true}
use Rattle.std.proofs.lemmas.List.{get_or-set_other, get_or-set_same}
use Rattle.std.proofs.lemmas.Option.{none-some}
use Rattle.command_table.specs.declared.command.Command.{Command}
use Rattle.line_answers.specs.declared.answer.Answer.{Answer}
use Rattle.line_answers.specs.declared.answer.Answer.TheVariants as answer
use Rattle.lvm_script.specs.declared.line.Line.{Line}
use Rattle.list_laws.proofs.Bools.{and_both, eq_to}
use Rattle.data_lines.specs.DataLines.{covers_sector, is_flush}
use Rattle.line_table.specs.Steps as lines
use Rattle.line_table.specs.declared.journal.EntryKind.TheVariants as entry
use Rattle.line_table.specs.declared.journal.JournalEntry.{JournalEntry}
use Rattle.volume_history.specs.Chronicles.{Answered, ChronicleEntry, Took, answer_in, begun_in, count_begun, has_took, is_number}
use Rattle.volume_history.specs.Chronicles.{has_answer, is_open, open_among, pending, settled_at}
use Rattle.volume_history.specs.Commands.{commits, is_good, is_move, is_refused, is_wait}
use Rattle.volume_history.specs.Legal.{AllOrdered, IsOrdered, is_alone, is_line_piece, is_zero_piece, last_moment, may_answer}
use Rattle.volume_history.specs.Legal.{may_answer_command, may_answer_flush, may_take, same}
use Rattle.volume_history.specs.Runs.{journal_of, zero_piece}
use Rattle.world_acts.specs.declared.open_line.OpenLine.{OpenLine}
use Rattle.world_acts.specs.declared.open_line.Work.{Work}
use Rattle.world_acts.specs.declared.open_line.Work.TheVariants.{Read, Whole, Write}
use Rattle.world_acts.specs.declared.state.Core.{Core}
use Rattle.world_acts.specs.Acts.{Allowed, Answers, World, after, world}
use Rattle.world_acts.specs.OpenLines.{after_closed, answer_of, is_whole, left_of, open_at, work_answer}
use Rattle.world_acts.specs.Orderly.{IsOrderly}
use Rattle.world_acts.specs.Rooms.{fewer, line_room, one}
use Rattle.world_acts.specs.Steps.{taken_whole}
use Rattle.world_acts.proofs.Begun.{open_begun}
use Rattle.world_acts.proofs.LinesKept.{open_is}
use Rattle.world_acts.proofs.Tables.{some_of}
use Rattle.world_history.specs.Entries.{answered, entries_of}
use Rattle.world_history.specs.Told.{IsOfThrough, IsOnly, IsTold, IsWholeLine, IsWorkOf, LineTold, answer_at, begun_list, to_come}
use Rattle.world_history.proofs.EntryLists.{every_open}
use Rattle.world_history.proofs.OneLine.{Standing, elsewhere, here, is_closed, standing}
use Rattle.world_history.proofs.OpenTold.{open_told, told_open}
use Rattle.world_history.proofs.PieceSettles.{one_true, passes_by, tells_took}
use Rattle.world_history.proofs.LineActs.{line_begun}
use Rattle.world_history.proofs.LineAnswered.{IsEnding, good_unrefused, may_end, or_first, or_last, whole_answer}
use Rattle.world_history.proofs.Quiet.{waits_back, were_open}
use Rattle.world_history.proofs.Stages.{come_within}

-- a line that takes place as a whole, and didn't fail
record TakesWhole (command : Command) (key : Option ℕ) (work : Work) (failure : Option Answer) : Type 0 where
  reply : Answer
  is : unwrap_or failure (work_answer work) ≡ reply
  whole : IsWholeLine command key reply None
  wholly : is_whole work ≡ true

takes_whole : (c : Command) (key : Option ℕ) (work : Work) (failure : Option Answer) → IsWorkOf c key work failure
    → (is_whole work && is_none failure) ≡ true
    → TakesWhole c key work failure
takes_whole c key (Read start buffer) failure does is = cc
takes_whole c key Write failure does is = cc
takes_whole c key (Whole a) (Some why) does is = cc
takes_whole c key (Whole a) None (inl refused) is = absurd (none-some (answer.Refused refused.why) refused.is)
takes_whole c key (Whole a) None (inr whole) is = record { reply = a; is = refl; whole = whole; wholly = refl }

-- the piece that it takes place with
line_piece : (l : Line) (key : Option ℕ) (own : ℕ) → commits l.command ≡ false → (is_flush l.command ≡ true → is_some key ≡ true)
    → (is_flush l.command ≡ false → key ≡ None)
    → own ≡ unwrap_or key 0
    → is_line_piece l key (zero_piece own) ≡ true
line_piece l key own kept stands none keyed = by (is_flush l.command) refl
  where
    number : (k : Option ℕ) → is_some k ≡ true → own ≡ unwrap_or k 0 → is_number k own ≡ true
    number None some keyed = absurd (true≢false (sym some))
    number (Some k) some keyed = eq_to k own (sym keyed)

    zero_of : (k : ℕ) → (k == k) ≡ true → is_zero_piece k (zero_piece k) ≡ true
    zero_of k is = rw (is) refl

    by : (b : Bool) → is_flush l.command ≡ b → is_line_piece l key (zero_piece own) ≡ true
    by true flushes =
        rw (flushes) (and_both (is_number key own) (is_zero_piece own (zero_piece own)) (number key (stands flushes) keyed)
        (zero_of own (eq-eqb own own refl)))
    by false plain =
        let zero : own ≡ 0 = keyed ∙ ap (λ (k : Option ℕ). unwrap_or k 0) (none plain) in
        rw (plain, kept) (ap (λ (k : ℕ). is_zero_piece 0 (zero_piece k)) zero)

-- the core after the line was answered, as it was open
abbrev pub closed_core : Core → lines.Lines → ℕ → ℕ → OpenLine → Core
closed_core c table n moment x = record c {
  lines = lines.after_answer table n (answer_of x) moment;
  opens = after_closed c.opens n;
  owed = fewer c.owed (line_room x);
}

-- a line of which nothing is left
module _ {start : ℕ} {coming : ℕ → ℕ → ℕ} {w : World} {es : List ChronicleEntry} (t : IsTold start coming w es) (o : IsOrderly w)
    (entered : (q x : ℕ) → coming q x ≡ 0) (n : ℕ) (x : OpenLine) (at : open_at w.core.opens n ≡ Some x) (nothing : x.left ≡ 0) where
  abbrev its : LineTold (coming n) w.core.pieces.lives w.core.waits.disks es n x
  its = t.lines n x at

  -- nothing of it is to come
  none_comes : (y : ℕ) → to_come n y w.core.pieces.lives ≡ 0
  none_comes y =
      let most = come_within n y w.core.pieces.lives in
      let left : left_of w.core.opens n ≡ x.left = ap (λ (z : Option OpenLine). option_map_or (λ (q : OpenLine). q.left) z 0) at in
      let counted = o.tidy.counts.left n in omega (arith, most, left, counted, nothing)

  pub line_ending : IsEnding es n its.0.0 its.0.1 x.key x.work x.failure
  line_ending = record {
    keyed = its.2.keyed;
    some = its.2.some;
    settled =
        λ part y covered. let once = its.2.once y in
        let all : one (not (is_whole x.work) && covers_sector its.0.0.command y) ≡ 1 = rw (part, covered) refl in
        one_true (settled_at es n x.key y) (omega (arith, once, all, none_comes y, entered n y));
    took = its.2.took;
    lost = its.2.lost;
    none = its.2.none;
  }

module _ {start : ℕ} {coming : ℕ → ℕ → ℕ} {w : World} {es : List ChronicleEntry} (t : IsTold start coming w es) (o : IsOrderly w)
    (entered : (q x : ℕ) → coming q x ≡ 0) (n : ℕ) (x : OpenLine) (at : open_at w.core.opens n ≡ Some x) (nothing : x.left ≡ 0)
    (alone : (l : Line) → slice_get w.core.lines.begun n ≡ Some l → is_wait l.command ≡ true → IsOnly w n) where
  abbrev c : Core
  c = w.core

  abbrev l : LineTold (coming n) c.pieces.lives c.waits.disks es n x
  l = t.lines n x at

  abbrev moment : ℕ
  moment = w.shelf.steps

  ending : IsEnding es n l.0.0 l.0.1 x.key x.work x.failure
  ending = line_ending t o entered n x at nothing

  -- what stands before the answer: the entries so far, or with one more of the line
  record IsBefore (before : List ChronicleEntry) (table : lines.Lines) : Type 0 where
    journal : journal_of before ≡ table.journal
    ordered : AllOrdered start before
    moments : last_moment start before ≤ moment
    committed : pending before ≡ None
    count : count_begun before ≡ count_begun es
    begun : (q : ℕ) → begun_in before q ≡ begun_in es q
    list : begun_list before ≡ begun_list es
    answers : (q : ℕ) → answer_in before q ≡ answer_in es q
    others :
        (q : ℕ) (y : OpenLine) → (n == q) ≡ false → LineTold (coming q) c.pieces.lives c.waits.disks es q y
        → LineTold (coming q) c.pieces.lives c.waits.disks before q y
    may : may_answer before n (Some l.0) (answer_of x) ≡ true

  closed_told : (before : List ChronicleEntry) (table : lines.Lines) → table.begun ≡ c.lines.begun → table.answers ≡ c.lines.answers
      → IsBefore before table
      → IsTold start coming (world w.shelf (closed_core c table n moment x)) (Answered moment n (answer_of x) ∷ before)
  closed_told before table begun answers b =
      let v : World = world w.shelf (closed_core c table n moment x) in
      let now = is_closed c.opens n x at in
      let opened : is_open before n ≡ true =
      (λ i. nat_lt n (b.count i) && not (has_answer (λ a. true) (b.answers n i))) ∙ open_told t o n x at in
      record {
        journal =
            ap (λ (j : List JournalEntry). j ++ record { kind = entry.Answered; line = n; piece = zero_piece 0; moment = moment } ∷ [])
            b.journal;
        ordered = (
          record {
            moments = b.moments;
            order =
                and_both (is_open before n) _ opened
                (ap (λ (k : Option (Line × Option ℕ)). may_answer before n k (answer_of x)) (b.begun n ∙ l.1) ∙ b.may);
            makes = tt;
          },
          b.ordered,
        );
        moment = omega arith;
        committed = b.committed;
        count = b.count ∙ t.count ∙ ap (λ (k : List Line). length k) (sym begun);
        begun = b.list ∙ t.begun ∙ sym begun;
        answers = λ q. answered_at q;
        lines = λ q y is. line_of q y (standing now q y is);
        through = subst (λ (k : List Line). All (IsOfThrough k) c.pieces.lives) (sym begun) t.through;
        waits = waits_back t v begun refl (were_open x at now);
      }
    where
      within : n < length table.answers
      within =
          let below = open_begun n x o.tidy.lines at in
          let many : length table.answers ≡ length c.lines.answers = ap (λ (k : List (ℕ × Option Answer)). length k) answers in
          omega (arith, below, many, o.tidy.lines.many)

      answered_at : (q : ℕ)
          → option_map (λ (a : ℕ × Answer). a.1) (answer_in (Answered moment n (answer_of x) ∷ before) q)
          ≡ answer_at (lines.after_answer table n (answer_of x) moment).answers q
      answered_at q = by (n == q) refl
        where
          by : (b' : Bool) → (n == q) ≡ b'
              → option_map (λ (a : ℕ × Answer). a.1) (answer_in (Answered moment n (answer_of x) ∷ before) q)
              ≡ answer_at (lines.after_answer table n (answer_of x) moment).answers q
          by true e =
              rw (e) refl
              ∙ sym (ap (λ (z : ℕ × Option Answer). z.1) (get_or-set_same table.answers n _ lines.no_line within))
              ∙ ap (λ (k : ℕ). answer_at (lines.after_answer table n (answer_of x) moment).answers k) (eqb-true n q e)
          by false e =
              rw (e) refl ∙ ap (λ (k : Option (ℕ × Answer)). option_map (λ (a : ℕ × Answer). a.1) k) (b.answers q) ∙ t.answers q
              ∙ ap (λ (k : List (ℕ × Option Answer)). answer_at k q) (sym answers)
              ∙ sym (ap (λ (z : ℕ × Option Answer). z.1) (get_or-set_other table.answers n q _ lines.no_line
              (λ s. eqb-false n q e (sym s))))

      line_of : (q : ℕ) (y : OpenLine) → Standing n q None c.opens y
          → LineTold (coming q) c.pieces.lives c.waits.disks (Answered moment n (answer_of x) ∷ before) q y
      line_of q y (here same is) = absurd (none-some y is)
      line_of q y (elsewhere apart is) =
          let k = b.others q y apart (t.lines q y is) in (
            k.0,
            k.1,
            record {
              keyed = k.2.keyed;
              does = k.2.does;
              some = k.2.some;
              once = k.2.once;
              took = k.2.took;
              lost = λ some part plain. let z = k.2.lost some part plain in
                  record { sector = z.sector; covered = z.covered; settled = z.settled; not_taken = z.not_taken };
              none = k.2.none;
              still = k.2.still;
            },
          )

  -- where it takes place just before
  whole_before : (is_whole x.work && is_none x.failure) ≡ true
      → IsBefore (Took moment n (zero_piece x.key) ∷ es) (lines.after_took c.lines n (lines.no_piece x.key) moment)
  whole_before is =
      let k = takes_whole l.0.0.command l.0.1 x.work x.failure l.2.does is in
      let none : has_took es n ≡ false = l.2.none k.wholly in
      let first : IsOrdered start es (Took moment n (zero_piece x.key)) = record {
        moments = t.moment;
        order =
            and_both (is_open es n) _ (open_told t o n x at)
            (ap (λ (z : Option (Line × Option ℕ)). may_take es n z (zero_piece x.key)) l.1
            ∙ rw (k.whole.other)
            (and_both (is_line_piece l.0.0 l.0.1 (zero_piece x.key)) (not (has_took es n))
            (line_piece l.0.0 l.0.1 x.key k.whole.kept k.whole.stands k.whole.none l.2.keyed) (ap not none)));
        makes = tt;
      } in
      record {
        journal =
            ap (λ (j : List JournalEntry). j ++ record { kind = entry.Took; line = n; piece = zero_piece x.key; moment = moment } ∷ [])
            t.journal;
        ordered = (first, t.ordered);
        moments = omega arith;
        committed = t.committed;
        count = refl;
        begun = λ q. refl;
        list = refl;
        answers = λ q. refl;
        others = λ q y apart k. passes_by (tells_took moment n (zero_piece x.key)) q y apart k;
        may =
            subst (λ (a : Answer). may_answer (Took moment n (zero_piece x.key) ∷ es) n (Some l.0) a ≡ true) (sym k.is)
            (whole_answer (Took moment n (zero_piece x.key) ∷ es) n l.0.0 l.0.1 t.committed k.reply k.whole.other k.whole.says
            (says_whole k.reply k.whole.good (first, t.ordered))
            (flush_answer l.0.1 k.reply k.whole.stands));
      }
    where
      says_whole : (a : Answer) → is_good a ≡ true → AllOrdered start (Took moment n (zero_piece x.key) ∷ es)
          → may_answer_command (Took moment n (zero_piece x.key) ∷ es) n l.0.0 a ≡ true
      says_whole a good all =
          let entries : List ChronicleEntry = Took moment n (zero_piece x.key) ∷ es in
          let has : has_took entries n ≡ true = or_first (n == n) (has_took es n) (eq-eqb n n refl) in
          and_both ((not (is_good a) || has_took entries n) && (not (is_refused a) || is_move l.0.0.command || not (has_took entries n))) _
          (and_both (not (is_good a) || has_took entries n) _ (or_last (not (is_good a)) (has_took entries n) has)
          (or_first (not (is_refused a) || is_move l.0.0.command) _
          (or_first (not (is_refused a)) (is_move l.0.0.command) (ap not (good_unrefused a good)))))
          (waits (is_wait l.0.0.command) refl)
        where
          waits : (b : Bool) → is_wait l.0.0.command ≡ b
              → (not b || is_alone (open_among (Took moment n (zero_piece x.key) ∷ es) (Took moment n (zero_piece x.key) ∷ es)) n) ≡ true
          waits true wait =
              let only = alone l.0.0 (line_begun t n l.0 l.1) wait in
              every_open (λ z. z.0 == n) start (Took moment n (zero_piece x.key) ∷ es) (Took moment n (zero_piece x.key) ∷ es) all
              (λ k z below begun unanswered. eq_to k n (only k (told_open t o k below unanswered)))
          waits false plain = refl

      flush_answer : (key : Option ℕ) (a : Answer) → (is_flush l.0.0.command ≡ true → is_some key ≡ true)
          → may_answer_flush l.0.0.command key a ≡ true
      flush_answer key a stands = by (is_flush l.0.0.command) refl
        where
          by : (b : Bool) → is_flush l.0.0.command ≡ b → (not b || (is_some key || is_refused a)) ≡ true
          by true flushes = or_first (is_some key) (is_refused a) (stands flushes)
          by false plain = refl

  ends_before : (is_whole x.work && is_none x.failure) ≡ false → IsBefore es c.lines
  ends_before not_whole = record {
    journal = t.journal;
    ordered = t.ordered;
    moments = t.moment;
    committed = t.committed;
    count = refl;
    begun = λ q. refl;
    list = refl;
    answers = λ q. refl;
    others = λ q y apart k. k;
    may = may_end es n l.0.0 l.0.1 t.committed x.key x.work x.failure l.2.does ending not_whole;
  }

  -- the line is answered, and closed
  pub close_told : IsTold start coming (world w.shelf (closed_core c (taken_whole c.lines n x moment) n moment x))
      (answered moment n x ++ es)
  close_told =
      elim (is_whole x.work && is_none x.failure) as (λ b. (is_whole x.work && is_none x.failure) ≡ b
      → IsTold start coming
      (world w.shelf
      (closed_core c (cond b (lines.after_took c.lines n (lines.no_piece x.key) moment) c.lines) n moment x))
      ((Answered moment n (answer_of x) ∷ cond b (Took moment n (zero_piece x.key) ∷ []) []) ++ es)) [
        | true ↦ λ is.
            closed_told (Took moment n (zero_piece x.key) ∷ es) (lines.after_took c.lines n (lines.no_piece x.key) moment) refl refl
            (whole_before is)
        | false ↦ λ is. closed_told es c.lines refl refl (ends_before is)
      ] refl

-- ---- the acts

module _ {start : ℕ} {coming : ℕ → ℕ → ℕ} {w : World} {es : List ChronicleEntry} (t : IsTold start coming w es) (o : IsOrderly w)
    (entered : (q x : ℕ) → coming q x ≡ 0) where
  pub answer_told : (n : ℕ) → Allowed w (Answers n) → IsTold start coming (after w (Answers n)) (entries_of w (Answers n) ++ es)
  answer_told n allowed =
      let c : Core = w.core in
      let found : (x : OpenLine) × (open_at c.opens n ≡ Some x) = some_of (open_at c.opens n) allowed.0 in
      let left : left_of c.opens n ≡ found.0.left =
      ap (λ (z : Option OpenLine). option_map_or (λ (q : OpenLine). q.left) z 0) found.1 in
      subst (λ (x : OpenLine). IsTold start coming
      (world w.shelf (closed_core c (taken_whole c.lines n x w.shelf.steps) n w.shelf.steps x)) (answered w.shelf.steps n x ++ es))
      (sym (open_is c.opens n found.0 found.1))
      (close_told t o entered n found.0 found.1 (sym left ∙ allowed.1)
      (λ l is wait. only (t.waits n found.0 l found.1 is wait)))
    where
      only : (w.core.barrier ≡ Some n) ⊎ IsOnly w n → IsOnly w n
      only (inl holds) = absurd (allowed.2 holds)
      only (inr is) = is
