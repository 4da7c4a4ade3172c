-- What a plan says after any events is what the events say.
use Rattle.std.proofs.Common.{◌≡◌, ◌<◌, ◌≤◌, ℕ, ◌+◌, Bool, true, false, cond, ◌&&◌, ◌||◌, nat_eq, nat_le, List, [], ◌∷◌, length}
use Rattle.std.proofs.Common.{get_or, set, max, refl, sym, ap, subst, ◌∙◌, arith}
use Rattle.std.specs.Prelude.{All, AllPairs, MatchOption, None, Option, Some, remove}
use Rattle.std.specs.List.{list_any}
use Rattle.std.proofs.lemmas.List.Folds.{list_any_at}
use Rattle.std.specs.List.{IsDistinct}
use Rattle.std.specs.Map.{keys_of, lookup}
use Rattle.std.specs.Option.{option_map, option_map_or}
use Rattle.std.proofs.lemmas.Bool.{and_left, and_parts, and_right, eqb-true, eq-eqb, le-leb, lt-leb}
use Rattle.std.proofs.lemmas.List.{length-set, length-replicate}
use Rattle.std.proofs.lemmas.List.Elements.{All-nil, All-push}
use Rattle.std.proofs.lemmas.List.Quantifiers.{all_pairs_push, all_pairs_remove}
use Rattle.list_laws.proofs.Positions.{all_remove, any_within}
use Rattle.flush_plan.specs.declared.records.Marks.{Marks}
use Rattle.flush_plan.specs.declared.records.Write.{Write}
use Rattle.flush_plan.specs.declared.records.Flush.{Flush}
use Rattle.flush_plan.specs.History.{Event, Reserved, Wrote, Forgot, Submitted, Flushed, Lost, MayBeTold, MayBeToldAll, EndedIsEndedAfter}
use Rattle.flush_plan.specs.History.{StableIsFlushedAfter, after_event, flight_of, has_ended, has_flushed, is_disk, is_forgotten}
use Rattle.flush_plan.specs.History.{is_write, plan_after, since_write}
use Rattle.flush_plan.specs.Plans.{Plan, IsOrderly, flush_at, flush_of, is_in_flight, marks_of, no_marks, same_write}
use Rattle.flush_plan.specs.Steps.{after_wrote, after_forgot, after_submitted, after_flushed, after_lost}
use Rattle.flush_plan.proofs.Flights.{lookup_put, lookup_other, mark_kept, mark_other, mark_written, passes_at, tags_left, tags_swap}
use Rattle.flush_plan.proofs.Flights.{up_to_greater}
use Rattle.flush_plan.proofs.Forgotten.{lookup_left, orderly_by_forgot, same_swap, single_left, single_none, single_put}
use Rattle.flush_plan.proofs.Orderly.{marks_within, orderly_new, orderly_by_reserve, orderly_by_wrote, orderly_by_submitted}
use Rattle.flush_plan.proofs.Orderly.{orderly_by_flushed, orderly_by_lost}

-- a plan over so many disks: its places are those of writes, no two of which are the same, each flush is of one of the disks,
-- and no two have one tag
pub record IsKept (disks : ℕ) (plan : Plan) : Type 0 where
  pub orderly : IsOrderly plan
  pub single : IsDistinct same_write (keys_of plan.last)
  pub many : length plan.marks ≡ disks
  pub within : All (λ (f : Flush). f.pv < disks) plan.flushes
  pub unlike : AllPairs (λ (f g : Flush). nat_eq f.tag g.tag ≡ false) plan.flushes

-- none passes where it isn't in flight
none_in_flight : (tag : ℕ) (flushes : List Flush) → list_any (λ f. nat_eq f.tag tag) flushes ≡ false → (k : ℕ) (d : Flush)
    → k < length flushes → nat_eq (get_or flushes k d).tag tag ≡ false
none_in_flight tag flushes none k d lt =
    elim (nat_eq (get_or flushes k d).tag tag) as (λ b. nat_eq (get_or flushes k d).tag tag ≡ b → b ≡ false) [
      | true ↦ λ h. sym (list_any_at (λ (f : Flush). nat_eq f.tag tag) flushes k d lt h) ∙ none
      | false ↦ λ h. refl
    ] refl

kept_step : (disks : ℕ) (plan : Plan) (e : Event) → IsKept disks plan → MayBeTold plan e → IsKept disks (after_event plan e)
kept_step disks plan (Reserved writes flushes) h may =
    record {
      orderly = orderly_by_reserve plan (max writes plan.spare) (max flushes plan.spare_flushes) h.orderly;
      single = h.single;
      many = h.many;
      within = h.within;
      unlike = h.unlike;
    }
kept_step disks plan (Wrote number pv) h may =
    record {
      orderly = orderly_by_wrote plan number pv h.orderly;
      single = single_put plan.last (record { number = number; pv = pv }) (plan.held + 1) h.single;
      many = length-set plan.marks pv _ ∙ h.many;
      within = h.within;
      unlike = h.unlike;
    }
kept_step disks plan (Forgot number pv) h may =
    record {
      orderly = orderly_by_forgot plan number pv h.orderly;
      single = single_left plan.last (record { number = number; pv = pv }) h.single;
      many = h.many;
      within = h.within;
      unlike = h.unlike;
    }
kept_step disks plan (Submitted pv tag) h may = record {
  orderly = orderly_by_submitted plan pv tag h.orderly;
  single = h.single;
  many = h.many;
  within =
      All-push (λ (f : Flush). f.pv < disks) plan.flushes (record { tag = tag; pv = pv; after = plan.held }) h.within
      (omega (arith, may.0, h.many));
  unlike =
      all_pairs_push (λ (f g : Flush). nat_eq f.tag g.tag ≡ false) plan.flushes (record { tag = tag; pv = pv; after = plan.held }) h.unlike
      (none_in_flight tag plan.flushes may.2);
}
kept_step disks plan (Flushed tag) h may =
    let at : flush_at plan tag < length plan.flushes = any_within (λ (f : Flush). nat_eq f.tag tag) plan.flushes may in
    record {
      orderly = orderly_by_flushed plan tag may h.orderly;
      single = h.single;
      many = length-set plan.marks (flush_of plan tag).pv _ ∙ h.many;
      within = all_remove (λ (f : Flush). f.pv < disks) plan.flushes (flush_at plan tag) at h.within;
      unlike = all_pairs_remove (λ (f g : Flush). nat_eq f.tag g.tag ≡ false) plan.flushes (flush_at plan tag) at h.unlike;
    }
kept_step disks plan (Lost tag) h may =
    let at : flush_at plan tag < length plan.flushes = any_within (λ (f : Flush). nat_eq f.tag tag) plan.flushes may in
    record {
      orderly = orderly_by_lost plan tag may h.orderly;
      single = h.single;
      many = length-set plan.marks (flush_of plan tag).pv _ ∙ h.many;
      within = all_remove (λ (f : Flush). f.pv < disks) plan.flushes (flush_at plan tag) at h.within;
      unlike = all_pairs_remove (λ (f g : Flush). nat_eq f.tag g.tag ≡ false) plan.flushes (flush_at plan tag) at h.unlike;
    }

pub kept : (disks : ℕ) (events : List Event) → MayBeToldAll disks events → IsKept disks (plan_after disks events)
kept disks [] may =
    record {
      orderly = orderly_new disks;
      single = single_none;
      many = length-replicate disks no_marks;
      within = All-nil (λ (f : Flush). f.pv < disks);
      unlike = λ i j d lt within. absurd (omega arith);
    }
kept disks (e ∷ before) may = kept_step disks (plan_after disks before) e (kept disks before may.1) may.0

-- a write that has completed at this place, and what happened since
pub record HasSince (plan : Plan) (number pv place : ℕ) (since : List Event) : Type 0 where
  pub found : lookup (same_write (record { number = number; pv = pv })) plan.last ≡ Some place
  pub held : place ≤ plan.held
  pub stable : nat_le place (marks_of plan pv).stable ≡ has_flushed pv since
  pub ended : nat_le place (marks_of plan pv).ended ≡ has_ended pv since
  pub flying : All (λ (f : Flush). (nat_le place f.after && nat_eq f.pv pv) ≡ is_disk pv (flight_of f.tag since)) plan.flushes

-- the write completes
since_begins : (disks : ℕ) (plan : Plan) (number pv : ℕ) → IsKept disks plan
    → HasSince (after_wrote plan number pv) number pv (plan.held + 1) []
since_begins disks plan number pv h =
    let m = marks_within plan h.orderly pv in
    let same : (marks_of (after_wrote plan number pv) pv).stable ≡ (marks_of plan pv).stable =
    mark_kept (λ (x : Marks). x.stable) plan.marks pv (record (marks_of plan pv) { written = plan.held + 1 }) no_marks refl pv in
    let same_end : (marks_of (after_wrote plan number pv) pv).ended ≡ (marks_of plan pv).ended =
    mark_kept (λ (x : Marks). x.ended) plan.marks pv (record (marks_of plan pv) { written = plan.held + 1 }) no_marks refl pv in
    record {
      found = lookup_put plan.last (record { number = number; pv = pv }) (plan.held + 1);
      held = omega arith;
      stable = lt-leb (plan.held + 1) (marks_of (after_wrote plan number pv) pv).stable (omega (arith, same, m.1, m.2));
      ended = lt-leb (plan.held + 1) (marks_of (after_wrote plan number pv) pv).ended (omega (arith, same_end, m.2));
      flying =
          λ k d lt. let early : (get_or plan.flushes k d).after
          ≤ plan.held = h.orderly.flushes k d lt in and_left (nat_le (plan.held + 1) (get_or plan.flushes k d).after)
          (nat_eq (get_or plan.flushes k d).pv pv) (lt-leb (plan.held + 1) (get_or plan.flushes k d).after (omega (arith, early)));
    }

-- where another write is after one is forgotten
left_other : (disks : ℕ) (plan : Plan) (number pv own disk : ℕ) → IsKept disks plan → (nat_eq number own && nat_eq pv disk) ≡ false
    → lookup (same_write (record { number = number; pv = pv })) (after_forgot plan own disk).last
    ≡ lookup (same_write (record { number = number; pv = pv })) plan.last
left_other disks plan number pv own disk kept_so other =
    let w : Write = record { number = own; pv = disk } in
    let q : Write = record { number = number; pv = pv } in
    let apart : same_write w q ≡ false = same_swap w q ∙ other in
    lookup_left plan.last w q kept_so.single ∙ ap (λ (b : Bool). cond b None (lookup (same_write q) plan.last)) apart

-- another write completes
since_wrote : (plan : Plan) (number pv place : ℕ) (since : List Event) (own disk : ℕ) → HasSince plan number pv place since
    → (nat_eq number own && nat_eq pv disk) ≡ false → HasSince (after_wrote plan own disk) number pv place (Wrote own disk ∷ since)
since_wrote plan number pv place since own disk h other = record {
  found = lookup_other plan.last (record { number = own; pv = disk }) (record { number = number; pv = pv }) (plan.held + 1) other ∙ h.found;
  held = omega (arith, h.held);
  stable =
      ap (λ (n : ℕ). nat_le place n) (mark_kept (λ (x : Marks). x.stable) plan.marks disk
      (record (marks_of plan disk) { written = plan.held + 1 }) no_marks refl pv) ∙ h.stable;
  ended =
      ap (λ (n : ℕ). nat_le place n) (mark_kept (λ (x : Marks). x.ended) plan.marks disk
      (record (marks_of plan disk) { written = plan.held + 1 }) no_marks refl pv) ∙ h.ended;
  flying = h.flying;
}

-- another write is forgotten
since_forgot : (disks : ℕ) (plan : Plan) (number pv place : ℕ) (since : List Event) (own disk : ℕ) → IsKept disks plan
    → HasSince plan number pv place since → (nat_eq number own && nat_eq pv disk) ≡ false
    → HasSince (after_forgot plan own disk) number pv place (Forgot own disk ∷ since)
since_forgot disks plan number pv place since own disk kept_so h other = record {
  found = left_other disks plan number pv own disk kept_so other ∙ h.found;
  held = h.held;
  stable = h.stable;
  ended = h.ended;
  flying = h.flying;
}

-- a flush is submitted
since_submitted : (plan : Plan) (number pv place : ℕ) (since : List Event) (disk tag : ℕ) → HasSince plan number pv place since
    → is_in_flight plan tag ≡ false → HasSince (after_submitted plan disk tag) number pv place (Submitted disk tag ∷ since)
since_submitted plan number pv place since disk tag h fresh =
    let f : Flush = record { tag = tag; pv = disk; after = plan.held } in
    record {
      found = h.found;
      held = h.held;
      stable = h.stable;
      ended = h.ended;
      flying =
          All-push (λ (g : Flush). (nat_le place g.after && nat_eq g.pv pv) ≡ is_disk pv (flight_of g.tag (Submitted disk tag ∷ since)))
          plan.flushes f
          (λ k d lt. let apart : nat_eq tag (get_or plan.flushes k d).tag
          ≡ false = tags_swap (get_or plan.flushes k d).tag tag (none_in_flight tag plan.flushes fresh k d lt) in rw (apart)
          (h.flying k d lt))
          (rw (eq-eqb tag tag refl, le-leb place plan.held h.held) refl);
    }

-- those that are left when a flush ends
left_flying : (plan : Plan) (pv place : ℕ) (since : List Event) (tag : ℕ) (e : Event)
    → ((other : ℕ) → nat_eq tag other ≡ false → flight_of other (e ∷ since) ≡ flight_of other since)
    → (disks : ℕ) → IsKept disks plan → is_in_flight plan tag ≡ true
    → All (λ (f : Flush). (nat_le place f.after && nat_eq f.pv pv) ≡ is_disk pv (flight_of f.tag since)) plan.flushes
    → All (λ (f : Flush). (nat_le place f.after && nat_eq f.pv pv) ≡ is_disk pv (flight_of f.tag (e ∷ since)))
    (remove plan.flushes (flush_at plan tag))
left_flying plan pv place since tag e passed disks h flies all k d within =
    let at : flush_at plan tag < length plan.flushes = any_within (λ (f : Flush). nat_eq f.tag tag) plan.flushes flies in
    let left : List Flush = remove plan.flushes (flush_at plan tag) in
    let own : (get_or plan.flushes (flush_at plan tag) d).tag ≡ tag =
    eqb-true (get_or plan.flushes (flush_at plan tag) d).tag tag (passes_at (λ (f : Flush). nat_eq f.tag tag) plan.flushes d flies) in
    let apart : nat_eq tag (get_or left k d).tag ≡ false =
    subst (λ (n : ℕ). nat_eq n (get_or left k d).tag ≡ false) own (tags_left plan.flushes (flush_at plan tag) at h.unlike k d within) in
    all_remove (λ (f : Flush). (nat_le place f.after && nat_eq f.pv pv) ≡ is_disk pv (flight_of f.tag since)) plan.flushes
    (flush_at plan tag) at all k d within
    ∙ sym (ap (λ (o : Option ℕ). is_disk pv o) (passed (get_or left k d).tag apart))

-- what the flush that ends was, by the events
own_flight : (plan : Plan) (number pv place : ℕ) (since : List Event) (tag : ℕ) → HasSince plan number pv place since
    → is_in_flight plan tag ≡ true → (nat_le place (flush_of plan tag).after && nat_eq (flush_of plan tag).pv pv)
    ≡ is_disk pv (flight_of tag since)
own_flight plan number pv place since tag h flies =
    let at : flush_at plan tag < length plan.flushes = any_within (λ (f : Flush). nat_eq f.tag tag) plan.flushes flies in
    let own : (flush_of plan tag).tag ≡ tag =
    eqb-true (flush_of plan tag).tag tag (passes_at (λ (f : Flush). nat_eq f.tag tag) plan.flushes _ flies) in
    h.flying (flush_at plan tag) _ at ∙ ap (λ (n : ℕ). is_disk pv (flight_of n since)) own

-- one of two tests, where the other passes
and_true : (a b : Bool) → b ≡ true → (a && b) ≡ a
and_true true b h = h
and_true false b h = refl

-- a mark that a flush which ends has moved
moved_mark : (f : Marks → ℕ) (disks : ℕ) (plan : Plan) (number pv place : ℕ) (since : List Event) (tag : ℕ) (m : Marks) (old : Bool)
    → IsKept disks plan → HasSince plan number pv place since → is_in_flight plan tag ≡ true
    → f m ≡ max (f (marks_of plan (flush_of plan tag).pv)) (flush_of plan tag).after → nat_le place (f (marks_of plan pv)) ≡ old
    → nat_le place (f (get_or (set plan.marks (flush_of plan tag).pv m) pv no_marks)) ≡ (is_disk pv (flight_of tag since) || old)
moved_mark f disks plan number pv place since tag m old kept_so h flies greater before =
    let at : flush_at plan tag < length plan.flushes = any_within (λ (g : Flush). nat_eq g.tag tag) plan.flushes flies in
    let within : (flush_of plan tag).pv < length plan.marks =
    omega (arith, kept_so.within (flush_at plan tag) (record { tag = 0; pv = 0; after = 0 }) at, kept_so.many) in
    let own = own_flight plan number pv place since tag h flies in
    elim (nat_eq (flush_of plan tag).pv pv) as (λ b. nat_eq (flush_of plan tag).pv pv ≡ b
    → nat_le place (f (get_or (set plan.marks (flush_of plan tag).pv m) pv no_marks)) ≡ (is_disk pv (flight_of tag since) || old)) [
      | true ↦ λ t.
          let here : (flush_of plan tag).pv ≡ pv = eqb-true (flush_of plan tag).pv pv t in
          let written : f (get_or (set plan.marks (flush_of plan tag).pv m) pv no_marks)
          ≡ max (f (marks_of plan pv)) (flush_of plan tag).after =
          subst (λ (p : ℕ). f (get_or (set plan.marks (flush_of plan tag).pv m) p no_marks)
          ≡ max (f (marks_of plan p)) (flush_of plan tag).after) here
          (ap f (mark_written plan.marks (flush_of plan tag).pv m no_marks within) ∙ greater) in
          let covers : nat_le place (flush_of plan tag).after ≡ is_disk pv (flight_of tag since) =
          sym (and_true (nat_le place (flush_of plan tag).after) (nat_eq (flush_of plan tag).pv pv) t) ∙ own in
          ap (λ (n : ℕ). nat_le place n) written ∙ up_to_greater place (f (marks_of plan pv)) (flush_of plan tag).after
          ∙ ap (λ (b : Bool). b || nat_le place (f (marks_of plan pv))) covers
          ∙ ap (λ (b : Bool). is_disk pv (flight_of tag since) || b) before
      | false ↦ λ t.
          let kept_mark : f (get_or (set plan.marks (flush_of plan tag).pv m) pv no_marks) ≡ f (marks_of plan pv) =
          ap f (mark_other plan.marks (flush_of plan tag).pv pv m no_marks t) in
          let not_own : is_disk pv (flight_of tag since) ≡ false =
          sym own ∙ and_right (nat_le place (flush_of plan tag).after) (nat_eq (flush_of plan tag).pv pv) t in
          ap (λ (n : ℕ). nat_le place n) kept_mark ∙ before ∙ ap (λ (b : Bool). b || old) (sym not_own)
    ] refl

-- a flush completes well
since_flushed : (disks : ℕ) (plan : Plan) (number pv place : ℕ) (since : List Event) (tag : ℕ) → IsKept disks plan
    → HasSince plan number pv place since → is_in_flight plan tag ≡ true
    → HasSince (after_flushed plan tag) number pv place (Flushed tag ∷ since)
since_flushed disks plan number pv place since tag kept_so h flies =
    let m : Marks =
    record (marks_of plan (flush_of plan tag).pv) {
      ended = max (marks_of plan (flush_of plan tag).pv).ended (flush_of plan tag).after;
      stable = max (marks_of plan (flush_of plan tag).pv).stable (flush_of plan tag).after;
    } in
    record {
      found = h.found;
      held = h.held;
      stable =
          moved_mark (λ (x : Marks). x.stable) disks plan number pv place since tag m (has_flushed pv since) kept_so h flies refl
          h.stable;
      ended = moved_mark (λ (x : Marks). x.ended) disks plan number pv place since tag m (has_ended pv since) kept_so h flies refl h.ended;
      flying =
          left_flying plan pv place since tag (Flushed tag) (λ other apart. ap (λ (b : Bool). cond b None (flight_of other since)) apart)
          disks kept_so flies h.flying;
    }

-- a flush fails
since_lost : (disks : ℕ) (plan : Plan) (number pv place : ℕ) (since : List Event) (tag : ℕ) → IsKept disks plan
    → HasSince plan number pv place since → is_in_flight plan tag ≡ true → HasSince (after_lost plan tag) number pv place (Lost tag ∷ since)
since_lost disks plan number pv place since tag kept_so h flies =
    let m : Marks =
    record (marks_of plan (flush_of plan tag).pv) {
      ended = max (marks_of plan (flush_of plan tag).pv).ended (flush_of plan tag).after;
    } in
    record {
      found = h.found;
      held = h.held;
      stable =
          ap (λ (n : ℕ). nat_le place n)
          (mark_kept (λ (x : Marks). x.stable) plan.marks (flush_of plan tag).pv m no_marks refl pv) ∙ h.stable;
      ended = moved_mark (λ (x : Marks). x.ended) disks plan number pv place since tag m (has_ended pv since) kept_so h flies refl h.ended;
      flying =
          left_flying plan pv place since tag (Lost tag) (λ other apart. ap (λ (b : Bool). cond b None (flight_of other since)) apart) disks
          kept_so flies h.flying;
    }

-- what is known of a write after the events: none is held, or what happened since
abbrev IsTold : ℕ → ℕ → Plan → Option (List Event) → Type 0
IsTold number pv plan o =
    MatchOption o (lookup (same_write (record { number = number; pv = pv })) plan.last ≡ None)
    (λ since. (place : ℕ) × HasSince plan number pv place since)

-- an event that neither completes nor forgets it
told_step : (disks : ℕ) (plan : Plan) (number pv : ℕ) (e : Event) (o : Option (List Event)) → IsKept disks plan → MayBeTold plan e
    → is_write number pv e ≡ false → is_forgotten number pv e ≡ false → IsTold number pv plan o
    → IsTold number pv (after_event plan e) (option_map (λ since. e ∷ since) o)
told_step disks plan number pv (Reserved writes flushes) None h may other stays told = told
told_step disks plan number pv (Reserved writes flushes) (Some since) h may other stays told =
    (told.0, record { found = told.1.found; held = told.1.held; stable = told.1.stable; ended = told.1.ended; flying = told.1.flying })
told_step disks plan number pv (Forgot own disk) None h may other stays told = left_other disks plan number pv own disk h stays ∙ told
told_step disks plan number pv (Forgot own disk) (Some since) h may other stays told =
    (told.0, since_forgot disks plan number pv told.0 since own disk h told.1 stays)
told_step disks plan number pv (Wrote own disk) None h may other stays told =
    lookup_other plan.last (record { number = own; pv = disk }) (record { number = number; pv = pv }) (plan.held + 1) other ∙ told
told_step disks plan number pv (Wrote own disk) (Some since) h may other stays told =
    (told.0, since_wrote plan number pv told.0 since own disk told.1 other)
told_step disks plan number pv (Submitted disk tag) None h may other stays told = told
told_step disks plan number pv (Submitted disk tag) (Some since) h may other stays told =
    (told.0, since_submitted plan number pv told.0 since disk tag told.1 may.2)
told_step disks plan number pv (Flushed tag) None h may other stays told = told
told_step disks plan number pv (Flushed tag) (Some since) h may other stays told =
    (told.0, since_flushed disks plan number pv told.0 since tag h told.1 may)
told_step disks plan number pv (Lost tag) None h may other stays told = told
told_step disks plan number pv (Lost tag) (Some since) h may other stays told =
    (told.0, since_lost disks plan number pv told.0 since tag h told.1 may)

-- one that is
told_write : (disks : ℕ) (plan : Plan) (number pv : ℕ) (e : Event) → IsKept disks plan → is_write number pv e ≡ true
    → IsTold number pv (after_event plan e) (Some [])
told_write disks plan number pv (Reserved writes flushes) h own = cc
told_write disks plan number pv (Forgot other disk) h own = cc
told_write disks plan number pv (Wrote other disk) h own =
    let parts = and_parts (nat_eq number other) (nat_eq pv disk) own in
    let same : number ≡ other = eqb-true number other parts.0 in
    let there : pv ≡ disk = eqb-true pv disk parts.1 in
    subst (λ (n : ℕ). IsTold n pv (after_wrote plan other disk) (Some [])) (sym same)
    (subst (λ (p : ℕ). IsTold other p (after_wrote plan other disk) (Some [])) (sym there)
    (plan.held + 1, since_begins disks plan other disk h))
told_write disks plan number pv (Submitted disk tag) h own = cc
told_write disks plan number pv (Flushed tag) h own = cc
told_write disks plan number pv (Lost tag) h own = cc

-- and one that forgets it
told_forgot : (disks : ℕ) (plan : Plan) (number pv : ℕ) (e : Event) → IsKept disks plan → is_forgotten number pv e ≡ true
    → IsTold number pv (after_event plan e) None
told_forgot disks plan number pv (Reserved writes flushes) h own = cc
told_forgot disks plan number pv (Wrote other disk) h own = cc
told_forgot disks plan number pv (Forgot other disk) h own =
    let w : Write = record { number = other; pv = disk } in
    let q : Write = record { number = number; pv = pv } in
    let same : same_write w q ≡ true = same_swap w q ∙ own in
    lookup_left plan.last w q h.single ∙ ap (λ (b : Bool). cond b None (lookup (same_write q) plan.last)) same
told_forgot disks plan number pv (Submitted disk tag) h own = cc
told_forgot disks plan number pv (Flushed tag) h own = cc
told_forgot disks plan number pv (Lost tag) h own = cc

told : (disks : ℕ) (events : List Event) (number pv : ℕ) → MayBeToldAll disks events
    → IsTold number pv (plan_after disks events) (since_write number pv events)
told disks [] number pv may = refl
told disks (e ∷ before) number pv may =
    elim (is_write number pv e) as (λ b. is_write number pv e ≡ b
    → IsTold number pv (plan_after disks (e ∷ before))
    (cond b (Some []) (cond (is_forgotten number pv e) None (option_map (λ since. e ∷ since) (since_write number pv before))))) [
      | true ↦ λ own. told_write disks (plan_after disks before) number pv e (kept disks before may.1) own
      | false ↦ λ other.
          elim (is_forgotten number pv e) as (λ b. is_forgotten number pv e ≡ b
          → IsTold number pv (plan_after disks (e ∷ before))
          (cond b None (option_map (λ since. e ∷ since) (since_write number pv before)))) [
            | true ↦ λ own. told_forgot disks (plan_after disks before) number pv e (kept disks before may.1) own
            | false ↦ λ stays. told_step disks (plan_after disks before) number pv e (since_write number pv before)
                (kept disks before may.1) may.0 other stays (told disks before number pv may.1)
          ] refl
    ] refl

-- what is told is what is answered
answered : (f : Marks → ℕ) (has : ℕ → List Event → Bool) (number pv : ℕ) (plan : Plan) (o : Option (List Event))
    → IsTold number pv plan o
    → ((since : List Event) (place : ℕ) → HasSince plan number pv place since → nat_le place (f (marks_of plan pv)) ≡ has pv since)
    → option_map_or (λ place. nat_le place (f (marks_of plan pv))) (lookup (same_write (record { number = number; pv = pv })) plan.last)
    false ≡ option_map_or (has pv) o false
answered f has number pv plan None told_none says =
    ap (λ (o : Option ℕ). option_map_or (λ place. nat_le place (f (marks_of plan pv))) o false) told_none
answered f has number pv plan (Some since) told_since says =
    ap (λ (o : Option ℕ). option_map_or (λ place. nat_le place (f (marks_of plan pv))) o false) told_since.1.found
    ∙ says since told_since.0 told_since.1

pub stable_is_flushed_after : StableIsFlushedAfter
stable_is_flushed_after disks events number pv may =
    answered (λ (x : Marks). x.stable) has_flushed number pv (plan_after disks events) (since_write number pv events)
    (told disks events number pv may) (λ since place h. h.stable)

pub ended_is_ended_after : EndedIsEndedAfter
ended_is_ended_after disks events number pv may =
    answered (λ (x : Marks). x.ended) has_ended number pv (plan_after disks events) (since_write number pv events)
    (told disks events number pv may) (λ since place h. h.ended)
