-- A line is answered: that is in order, and a line that takes place as a whole does so just before.
use Rattle.std.proofs.Common.{◌≡◌, ℕ, Bool, true, false, not, ◌&&◌, ◌||◌, List}
use Rattle.std.proofs.Common.{Option, None, Some, inl, inr, is_none, is_some, unwrap_or, refl, sym, ap, subst, ◌∙◌, true≢false}
use Rattle.std.specs.Prelude.{if◌then◌else◌}
use Rattle.std.proofs.lemmas.Option.{same_Some}
use Rattle.command_table.specs.declared.command.Command.{Command}
use Rattle.command_table.specs.declared.command.Command.TheVariants as command
use Rattle.line_answers.specs.declared.answer.Answer.{Answer}
use Rattle.line_answers.specs.declared.answer.Answer.TheVariants as answer
use Rattle.lvm_script.specs.declared.line.Line.{Line}
use Rattle.list_laws.proofs.Bools.{and_both}
use Rattle.data_lines.specs.DataLines.{covers_sector, is_data, is_flush, is_read, is_through, range_of, volume_named, writes}
use Rattle.volume_history.specs.Chronicles.{ChronicleEntry, has_took, pending, settled_at, took_at}
use Rattle.volume_history.specs.Commands.{is_good, is_list, is_move, is_refused, is_wait, may_say}
use Rattle.volume_history.specs.Legal.{each_sector, may_answer, may_answer_command, may_answer_data, may_answer_flush, same, tells_taken}
use Rattle.world_acts.specs.declared.open_line.Work.{Work}
use Rattle.world_acts.specs.declared.open_line.Work.TheVariants.{Read, Whole, Write}
use Rattle.world_acts.specs.OpenLines.{is_whole, work_answer}
use Rattle.world_history.specs.Told.{IsLost, IsWorkOf}
use Rattle.world_history.proofs.EntryLists.{all_passed, none_passed, untaken}
use Rattle.world_history.proofs.PieceSettles.{read_line, write_line}

-- ---- tests

pub or_first : (a b : Bool) → a ≡ true → (a || b) ≡ true
or_first true b is = refl
or_first false b is = cc

pub or_last : (a b : Bool) → b ≡ true → (a || b) ≡ true
or_last true b is = refl
or_last false b is = is

same_false : (b : Bool) → b ≡ false → same false b ≡ true
same_false b is = ap not is

writes_say : (c : Command) → writes c ≡ true → not (is_read c || is_list c) ≡ true
writes_say (command.Fill path first count value through) is = refl
writes_say (command.Write path first hex through) is = refl
writes_say c is = absurd (true≢false (sym is))

named_waits : (c : Command) → is_some (volume_named c) ≡ true → is_wait c ≡ false
named_waits command.Wait is = absurd (true≢false (sym is))
named_waits c is = refl

named_flushes : (c : Command) → is_some (volume_named c) ≡ true → is_data c ≡ false → is_flush c ≡ true
named_flushes (command.Flush path) is plain = refl
named_flushes (command.Read path first count) is plain = cc
named_flushes (command.Fill path first count value through) is plain = cc
named_flushes (command.Write path first hex through) is plain = cc
named_flushes c is plain = absurd (true≢false (sym is))

pub flush_waits : (c : Command) → is_flush c ≡ true → is_wait c ≡ false
flush_waits (command.Flush path) is = refl
flush_waits c is = absurd (true≢false (sym is))

pub good_unrefused : (a : Answer) → is_good a ≡ true → is_refused a ≡ false
good_unrefused (answer.Refused refusal) is = absurd (true≢false (sym is))
good_unrefused a is = refl

-- each sector of a line, and one that fails the test
each_all : (test : ℕ → ℕ → Bool) (l : Line) (key : ℕ) → ((x : ℕ) → covers_sector l.command x ≡ true → test key x ≡ true)
    → each_sector test l (Some key) ≡ true
each_all test l key each = by (range_of l.command) refl
  where
    by : (r : Option (ℕ × ℕ)) → range_of l.command ≡ r → each_sector test l (Some key) ≡ true
    by None is = rw (is) refl
    by (Some r) is = rw (is) (all_passed (test key) r.0 r.1 (λ x within. each x (rw (is) within)))

each_none : (test : ℕ → ℕ → Bool) (l : Line) (key x : ℕ) → covers_sector l.command x ≡ true → test key x ≡ false
    → each_sector test l (Some key) ≡ false
each_none test l key x covered fails = by (range_of l.command) refl covered
  where
    by : (r : Option (ℕ × ℕ)) → range_of l.command ≡ r → covers_sector l.command x ≡ true → each_sector test l (Some key) ≡ false
    by None is covered = absurd (true≢false (sym covered ∙ rw (is) refl))
    by (Some r) is covered = rw (is) (none_passed (test key) r.0 r.1 x (rw (is) at covered) fails)

-- ---- the answer

-- what is known of a line of which nothing is left
pub record IsEnding (es : List ChronicleEntry) (n : ℕ) (l : Line) (key : Option ℕ) (own : ℕ) (work : Work) (failure : Option Answer) : Type
    0 where
  pub keyed : own ≡ unwrap_or key 0
  pub some : is_data l.command ≡ true → (x : ℕ) × (covers_sector l.command x ≡ true)
  pub settled : is_whole work ≡ false → (x : ℕ) → covers_sector l.command x ≡ true → settled_at es n own x ≡ true
  pub took : failure ≡ None → (x : ℕ) → settled_at es n own x ≡ true → took_at es n own x ≡ true
  pub lost : is_some failure ≡ true → is_whole work ≡ false → is_through l.command ≡ false → IsLost es n own l.command
  pub none : is_whole work ≡ true → has_took es n ≡ false

module _ (es : List ChronicleEntry) (n : ℕ) (l : Line) (key : Option ℕ) (committed : pending es ≡ None) where
  -- a line that reads or writes may answer so
  data_answer : (a : Answer) → is_data l.command ≡ true → may_say l.command a ≡ true → may_answer_data es n l key a ≡ true
      → may_answer es n (Some (l, key)) a ≡ true
  data_answer a reads says may = and_both (may_say l.command a) _ says (rw (reads) may)

  -- one that ends, where each of its sectors settled
  ended_data : (own : ℕ) (a : Answer) → key ≡ Some own → is_data l.command ≡ true → may_say l.command a ≡ true → is_refused a ≡ false
      → ((x : ℕ) → covers_sector l.command x ≡ true → settled_at es n own x ≡ true)
      → tells_taken l.command a (each_sector (took_at es n) l (Some own)) ≡ true
      → may_answer es n (Some (l, key)) a ≡ true
  ended_data own a stands reads says unrefused settled taken =
      data_answer a reads says
      (rw (stands, unrefused)
      (and_both (tells_taken l.command a (each_sector (took_at es n) l (Some own))) (each_sector (settled_at es n) l (Some own)) taken
      (each_all (settled_at es n) l own settled)))

  -- done, or not
  told_good : (own : ℕ) (a : Answer) → is_good a ≡ true
      → ((x : ℕ) → covers_sector l.command x ≡ true → took_at es n own x ≡ true)
      → tells_taken l.command a (each_sector (took_at es n) l (Some own)) ≡ true
  told_good own a good took = by (is_through l.command)
    where
      all : each_sector (took_at es n) l (Some own) ≡ true
      all = each_all (took_at es n) l own took

      by : (b : Bool)
          → (if b then not (is_good a) || each_sector (took_at es n) l (Some own) else
          same (is_good a) (each_sector (took_at es n) l (Some own))) ≡ true
      by true = or_last (not (is_good a)) (each_sector (took_at es n) l (Some own)) all
      by false = rw (good) all

  told_bad : (a : Answer) (own : Option ℕ) → is_good a ≡ false
      → (is_through l.command ≡ false → each_sector (took_at es n) l own ≡ false)
      → tells_taken l.command a (each_sector (took_at es n) l own) ≡ true
  told_bad a own bad lost = by (is_through l.command) refl
    where
      by : (b : Bool) → is_through l.command ≡ b
          → (if b then not (is_good a) || each_sector (took_at es n) l own else same (is_good a) (each_sector (took_at es n) l own)) ≡ true
      by true is = or_first (not (is_good a)) (each_sector (took_at es n) l own) (ap not bad)
      by false is = rw (bad) (same_false (each_sector (took_at es n) l own) (lost is))

  -- a line that takes place as a whole may answer so
  pub whole_answer : (a : Answer) → is_data l.command ≡ false → may_say l.command a ≡ true → may_answer_command es n l a ≡ true
      → may_answer_flush l.command key a ≡ true
      → may_answer es n (Some (l, key)) a ≡ true
  whole_answer a other says may flush =
      and_both (may_say l.command a) _ says
      (rw (other)
      (and_both (may_answer_command es n l a && may_answer_flush l.command key a) _
      (and_both (may_answer_command es n l a) (may_answer_flush l.command key a) may flush) (rw (committed) refl)))

  -- it is refused
  refused_answer : (a : Answer) → is_refused a ≡ true → is_good a ≡ false → is_some (volume_named l.command) ≡ true
      → may_say l.command a ≡ true
      → (is_data l.command ≡ true → (x : ℕ) × (covers_sector l.command x ≡ true))
      → has_took es n ≡ false
      → may_answer es n (Some (l, key)) a ≡ true
  refused_answer a refused bad names says some none = by (is_data l.command) refl
    where
      untook : (own : Option ℕ) → is_data l.command ≡ true → each_sector (took_at es n) l own ≡ false
      untook None reads = refl
      untook (Some own) reads =
          let x = some reads in each_none (took_at es n) l own x.0 x.1 (untaken es n own x.0 none)

      by : (b : Bool) → is_data l.command ≡ b → may_answer es n (Some (l, key)) a ≡ true
      by true reads =
          data_answer a reads says
          (and_both (tells_taken l.command a (each_sector (took_at es n) l key)) _ (told_bad a key bad (λ plain. untook key reads))
          (rw (refused) (or_first (not (has_took es n)) _ (ap not none))))
      by false other =
          whole_answer a other says
          (and_both ((not (is_good a) || has_took es n) && (not (is_refused a) || is_move l.command || not (has_took es n))) _
          (and_both (not (is_good a) || has_took es n) _ (or_first (not (is_good a)) (has_took es n) (ap not bad))
          (or_last (not (is_refused a) || is_move l.command) (not (has_took es n)) (ap not none)))
          (or_first (not (is_wait l.command)) _ (ap not (named_waits l.command names))))
          (or_last (not (is_flush l.command)) _ (or_last (is_some key) (is_refused a) refused))

  -- it failed
  lost_answer : (a : Answer) → is_good a ≡ false → is_refused a ≡ false → is_flush l.command ≡ true → is_data l.command ≡ false
      → is_some key ≡ true
      → may_say l.command a ≡ true
      → may_answer es n (Some (l, key)) a ≡ true
  lost_answer a bad unrefused flushes other stands says =
      whole_answer a other says
      (and_both ((not (is_good a) || has_took es n) && (not (is_refused a) || is_move l.command || not (has_took es n))) _
      (and_both (not (is_good a) || has_took es n) _ (or_first (not (is_good a)) (has_took es n) (ap not bad))
      (or_first (not (is_refused a) || is_move l.command) _ (or_first (not (is_refused a)) (is_move l.command) (ap not unrefused))))
      (or_first (not (is_wait l.command)) _ (ap not (flush_waits l.command flushes))))
      (or_last (not (is_flush l.command)) _ (or_first (is_some key) (is_refused a) stands))

  key_some : (k : Option ℕ) (own : ℕ) → is_some k ≡ true → own ≡ unwrap_or k 0 → k ≡ Some own
  key_some None own stands keyed = absurd (true≢false (sym stands))
  key_some (Some k) own stands keyed = ap Some (sym keyed)

  -- a line that didn't take place as a whole, or failed, may be answered so
  pub may_end : (own : ℕ) (work : Work) (failure : Option Answer) → IsWorkOf l.command key work failure
      → IsEnding es n l key own work failure
      → (is_whole work && is_none failure) ≡ false
      → may_answer es n (Some (l, key)) (unwrap_or failure (work_answer work)) ≡ true
  may_end own (Read start buffer) None does k not_whole =
      ended_data own (answer.Read buffer) (key_some key own does.1 k.keyed) (read_line l.command does.0).0 does.0 refl (k.settled refl)
      (told_good own (answer.Read buffer) refl (λ x covered. k.took refl x (k.settled refl x covered)))
  may_end own Write None does k not_whole =
      ended_data own answer.Fine (key_some key own does.1 k.keyed) (write_line l.command does.0) (writes_say l.command does.0) refl
      (k.settled refl)
      (told_good own answer.Fine refl (λ x covered. k.took refl x (k.settled refl x covered)))
  may_end own (Read start buffer) (Some why) does k not_whole =
      ended_data own why (key_some key own does.1 k.keyed) (read_line l.command does.0).0 does.2.says does.2.unrefused (k.settled refl)
      (told_bad why (Some own) does.2.bad (λ plain. let lost = k.lost refl refl plain in
      each_none (took_at es n) l own lost.sector lost.covered lost.not_taken))
  may_end own Write (Some why) does k not_whole =
      ended_data own why (key_some key own does.1 k.keyed) (write_line l.command does.0) does.2.says does.2.unrefused (k.settled refl)
      (told_bad why (Some own) does.2.bad (λ plain. let lost = k.lost refl refl plain in
      each_none (took_at es n) l own lost.sector lost.covered lost.not_taken))
  may_end own (Whole a) None does k not_whole = cc
  may_end own (Whole a) (Some why) (inl refused) k not_whole =
      let is : why ≡ answer.Refused refused.why = same_Some why (answer.Refused refused.why) refused.is in
      subst (λ (x : Answer). may_answer es n (Some (l, key)) x ≡ true) (sym is)
      (refused_answer (answer.Refused refused.why) refl refl refused.names (ap not (named_waits l.command refused.names)) k.some
      (k.none refl))
  may_end own (Whole a) (Some why) (inr whole) k not_whole =
      lost_answer why whole.lost.1.bad whole.lost.1.unrefused whole.lost.0 whole.other (whole.stands whole.lost.0) whole.lost.1.says
