-- An operation that has completed: whose it was, and what holds as its piece, or its flush, comes to its end.
use Rattle.std.proofs.Common.{◌≡◌, ◌≤◌, ◌<◌, ℕ, zero, suc, ◌+◌, ◌-◌, Bool, true, false, cond, nat_eq, not, ◌||◌, List, [], ◌∷◌, length}
use Rattle.std.proofs.Common.{get_or, AllPairs, Option, None, Some, find, is_some, option_map, position, slice_get, unwrap_or}
use Rattle.std.proofs.Common.{inl, inr, refl, sym, ap, subst, ◌∙◌, arith, true≢false}
use Rattle.std.specs.Prelude.{remove}
use Rattle.std.specs.List.{list_any, position_or_len}
use Rattle.std.specs.Option.{option_and_then, option_map_or}
use Rattle.std.proofs.lemmas.Bool.{eq-eqb, eqb-false, le-ltb, lt-ltb, ne_eqb}
use Rattle.std.proofs.lemmas.List.Elements.{All-contains}
use Rattle.std.proofs.lemmas.List.Sums.{position_or_len_is}
use Rattle.std.proofs.lemmas.Option.{none-some, same_Some, slice_get-get_or}
use Rattle.list_laws.proofs.Inserted.{first_pairs, later_pairs, none_at}
use Rattle.list_laws.proofs.Members.{In, has_member, in_list}
use Rattle.list_laws.proofs.Positions.{any_within}
use Rattle.disk_model.specs.declared.ops.Done.{Done}
use Rattle.disk_model.specs.declared.ops.Op.{Op}
use Rattle.disk_model.specs.declared.ops.Op.TheVariants.{Flush as FlushOp, Read as ReadOp, Write as WriteOp}
use Rattle.disk_model.specs.Calls.{Completes, MakesReady}
use Rattle.disk_model.specs.Operations.{Lies, work_of}
use Rattle.disk_model.specs.Record.{Operation}
use Rattle.disk_model.specs.State.{IsLawful, State}
use Rattle.disk_model.specs.Steps.{Flushing, disk_of_work}
use Rattle.flush_plan.specs.declared.records.Flush.{Flush}
use Rattle.flush_plan.specs.Plans as plan
use Rattle.flush_plan.specs.Plans.{flight_of, is_in_flight}
use Rattle.flush_waits.specs.Steps as waits
use Rattle.flush_waits.specs.Waits.{Waits}
use Rattle.piece_table.specs.declared.live.LivePiece.{LivePiece}
use Rattle.piece_table.specs.declared.live.Owner.{Owner}
use Rattle.piece_table.specs.declared.live.Stage.TheVariants.{Started}
use Rattle.piece_table.specs.Pieces.{Pieces, flying_at, flying_in, flying_of, is_started, is_started_stage, live_at, owner_at}
use Rattle.piece_table.specs.Steps as pieces
use Rattle.piece_table.specs.Steps.{live_of, no_live, with_flying}
use Rattle.world_acts.specs.declared.state.Core.{Core}
use Rattle.world_acts.specs.Acts.{Act, SettlesAndGoes, World, flushed_acts, flushing, piece_at, settling, world}
use Rattle.world_acts.specs.Orderly.{IsOrderly}
use Rattle.world_acts.specs.Owners.{flush_at, in_flight_at, owned_work, piece_work}
use Rattle.world_acts.specs.Steps.{after_ends, after_flushed}
use Rattle.world_acts.proofs.Ending.{after_end}
use Rattle.world_acts.proofs.Flushing.{after_end_flush, flush_flies}
use Rattle.world_acts.proofs.Known.{owner_flies}
use Rattle.world_acts.proofs.PiecesKept.{flying_started, piece_replaced, with_piece}
use Rattle.world_acts.proofs.Tables.{Changes, at_number, own_at}
use Rattle.io_core.specs.Events.{Follows}
use Rattle.io_core.specs.Rest.{AreReleasedBut, IsCalm, IsKept, just, no_one}
use Rattle.io_core.proofs.Calm.{asked_changed, asked_same, unfinished_same}

-- ---- what is in flight

-- what completes once more was made ready completes from before
pub completes_ready : (old mid new : State) (done : Done) → MakesReady old mid → Completes mid done new → Completes old done new
completes_ready old mid new done makes completes =
    let whole : Completes (record old { ready = mid.ready }) done new = subst (λ (s : State). Completes s done new) makes.same completes in
    record {
      was = whole.was;
      lies = whole.lies;
      in_flight = whole.in_flight;
      fewer = whole.fewer;
      ready = λ t h other. whole.ready t (makes.ready t h) other;
      told = whole.told;
      reads = whole.reads;
      spare_ops = whole.spare_ops;
      spare_sectors = whole.spare_sectors;
      steps = whole.steps;
      next = whole.next;
      faults = whole.faults;
      sizes = whole.sizes;
    }

pub ready_both : (old mid new : State) → MakesReady old mid → MakesReady mid new → MakesReady old new
ready_both old mid new first then =
    record {
      ready = λ t h. then.ready t (first.ready t h);
      same = then.same ∙ ap (λ (s : State). record s { ready = new.ready }) first.same;
    }

find_by_tag : (ops : List Operation) (o : Operation) → AllPairs (λ (p q : Operation). p.tag < q.tag) ops → In ops o
    → find (λ (p : Operation). nat_eq p.tag o.tag) ops ≡ Some o
find_by_tag [] o pairs is = absurd is
find_by_tag (p ∷ ops) o pairs (inl is) =
    ap (λ (b : Bool). cond b (Some p) (find (λ (q : Operation). nat_eq q.tag o.tag) ops))
    (eq-eqb p.tag o.tag (ap (λ (q : Operation). q.tag) is)) ∙ ap (λ (q : Operation). Some q) is
find_by_tag (p ∷ ops) o pairs (inr later) =
    let before : p.tag < o.tag =
    All-contains (λ (q : Operation). p.tag < q.tag) ops o (first_pairs (λ (x y : Operation). x.tag < y.tag) p ops pairs)
    (has_member ops o later) in
    let apart : nat_eq p.tag o.tag ≡ false = ne_eqb p.tag o.tag (λ e. omega (arith, before, e)) in
    ap (λ (b : Bool). cond b (Some p) (find (λ (q : Operation). nat_eq q.tag o.tag) ops)) apart
    ∙ find_by_tag ops o (later_pairs (λ (x y : Operation). x.tag < y.tag) p ops pairs) later

-- the work that completes is what is in flight under its tag
completing : (s now : State) (done : Done) → IsLawful s → Completes s done now → in_flight_at s.in_flight done.tag ≡ Some (work_of done.op)
completing s now done lawful completes =
    ap (λ (o : Option Operation). option_map (λ (p : Operation). p.work) o)
    (find_by_tag s.in_flight (record { tag = done.tag; work = work_of done.op }) lawful.order (in_list s.in_flight _ completes.was))

-- ---- a piece's operation

-- what is asked as the piece comes to its end
pub record EndsPiece (now : State) (c : Core) (number : ℕ) (op : Op) : Type 0 where
  pub orderly : IsOrderly (world now c)
  pub started : is_started c.pieces number ≡ true
  pub landed : flying_at c.pieces number ≡ 0
  pub work : work_of op ≡ piece_work c (live_of c.pieces number)
  pub lies : Lies now.sizes op
  pub calm : IsCalm (just number) no_one c

landed_from : (before now : State) (c : Core) (done : Done) (owner : Owner) → IsKept (world before c) → Completes before done now
    → IsLawful now
    → owner_at c.pieces.owners done.tag ≡ Some owner
    → EndsPiece now (record c { pieces = pieces.after_lands c.pieces done.tag owner.piece }) owner.piece done.op
landed_from before now c done owner kept completes lawful owns =
    let w : World = world before c in
    let o : IsOrderly w = kept.orderly in
    let t = o.tidy in
    let number : ℕ = owner.piece in
    let d : Core = record c { pieces = pieces.after_lands c.pieces done.tag number } in
    let flies : 0 < flying_in c.pieces.lives number = owner_flies done.tag owner t.owners owns in
    let p = flying_started c.pieces.lives number flies in
    let old : LivePiece = record { line = p.2.line; piece = p.2.piece; stage = Started p.0 p.1; ticket = p.2.ticket } in
    let new : LivePiece = record { line = p.2.line; piece = p.2.piece; stage = Started (p.0 - 1) p.1; ticket = p.2.ticket } in
    let is : live_of c.pieces number ≡ old = ap (λ (x : Option LivePiece). unwrap_or x no_live) p.2.at in
    let one : p.0 ≤ 1 =
    at_number (λ (e : ℕ × LivePiece). flying_of e.1.stage ≤ 1) c.pieces.lives number old kept.plain.once p.2.at in
    let same : with_piece c.pieces.lives number new ≡ d.pieces.lives =
    sym (ap (λ (x : LivePiece). with_piece c.pieces.lives number (record x { stage = with_flying x.stage (λ n. n - 1) })) is) in
    let change : Changes number (Some old) (Some new) c.pieces.lives d.pieces.lives =
    subst (λ (l : List (ℕ × LivePiece)). Changes number (Some old) (Some new) c.pieces.lives l) same
    (piece_replaced c.pieces.lives number old new t.pieces.single p.2.at) in
    let at : live_at d.pieces.lives number ≡ Some new = own_at change in
    let now_is : live_of d.pieces number ≡ new = ap (λ (x : Option LivePiece). unwrap_or x no_live) at in
    let number_is : piece_at c done.tag ≡ number = ap (λ (x : Option Owner). option_map_or (λ (y : Owner). y.piece) x 0) owns in
    let expects : Some (work_of done.op) ≡ Some (piece_work c old) =
    sym (completing before now done o.backed.lawful completes) ∙ o.backed.known.owned done.tag
    ∙ ap (λ (x : Option Owner). owned_work c.pieces.lives (piece_work c) (flush_at c.waits.plan done.tag) x) owns
    ∙ ap (λ (x : Option LivePiece). option_map (piece_work c) x) p.2.at in
    let calm = kept.rest.settled.calm in
    record {
      orderly =
          subst (λ (n : ℕ). IsOrderly (world now (after_ends c done.tag n))) number_is
          (after_end w done now o (completes, lawful, ap is_some owns));
      started = ap (λ (x : Option LivePiece). option_map_or (λ (l : LivePiece). is_started_stage l.stage) x false) at;
      landed =
          let none : flying_at d.pieces number ≡ p.0 - 1 =
          ap (λ (x : Option LivePiece). option_map_or (λ (l : LivePiece). flying_of l.stage) x 0) at in
          omega (arith, none, one);
      work = same_Some (work_of done.op) (piece_work c old) expects ∙ sym (ap (λ (l : LivePiece). piece_work d l) now_is);
      lies = subst (λ (sizes : List ℕ). Lies sizes done.op) (sym completes.sizes) completes.lies;
      calm = record {
        quiet = record {
          asked =
              asked_changed no_one (just number) c d change (λ q apart deferred. deferred) (λ q apart not. refl)
              (λ not. absurd (true≢false (sym (eq-eqb number number refl) ∙ not))) calm.quiet.asked;
          unfinished = unfinished_same no_one no_one c d refl refl (λ q not. not) calm.quiet.unfinished;
        };
        others = calm.others;
      };
    }

pub ends_piece : (before now : State) (c : Core) (done : Done) (owner : Owner) (p : Pieces) → IsKept (world before c)
    → Completes before done now
    → IsLawful now
    → owner_at c.pieces.owners done.tag ≡ Some owner
    → p ≡ pieces.after_lands c.pieces done.tag owner.piece
    → EndsPiece now (record c { pieces = p }) owner.piece done.op
ends_piece before now c done owner p kept completes lawful owns is =
    subst (λ (x : Pieces). EndsPiece now (record c { pieces = x }) owner.piece done.op) (sym is)
    (landed_from before now c done owner kept completes lawful owns)

pub follows_piece : (before now : State) (c : Core) (done : Done) (owner : Owner) (p : Pieces) (v : World) → Completes before done now
    → IsLawful now
    → owner_at c.pieces.owners done.tag ≡ Some owner
    → p ≡ pieces.after_lands c.pieces done.tag owner.piece
    → SettlesAndGoes (settling owner.piece done.op done.well) (world now (record c { pieces = p })) v
    → Follows (world before c) done now v
follows_piece before now c done owner p v completes lawful owns is ends =
    let number_is : piece_at c done.tag ≡ owner.piece = ap (λ (x : Option Owner). option_map_or (λ (y : Owner). y.piece) x 0) owns in
    let acts : List Act = settling owner.piece done.op done.well in
    record {
      piece = Some owner.piece;
      whose = sym (ap (option_map (λ (x : Owner). x.piece)) owns);
      allowed = (completes, lawful, ap is_some owns);
      ends =
          subst (λ (n : ℕ). SettlesAndGoes acts (world now (after_ends c done.tag n)) v) (sym number_is)
          (subst (λ (x : Pieces). SettlesAndGoes acts (world now (record c { pieces = x })) v) is ends);
    }

-- ---- a flush

-- it is in flight, and the operation is that flush
pub record IsFlushOf (c : Core) (done : Done) : Type 0 where
  pub flush : Flush
  pub found : flush_at c.waits.plan done.tag ≡ Some flush
  pub work : work_of done.op ≡ Flushing flush.pv

pub flush_of_done : (before now : State) (c : Core) (done : Done) → IsKept (world before c) → Completes before done now
    → owner_at c.pieces.owners done.tag ≡ None
    → IsFlushOf c done
flush_of_done before now c done kept completes none =
    let o = kept.orderly in
    by (flush_at c.waits.plan done.tag) refl
    (sym (completing before now done o.backed.lawful completes) ∙ o.backed.known.owned done.tag
    ∙ ap (λ (x : Option Owner). owned_work c.pieces.lives (piece_work c) (flush_at c.waits.plan done.tag) x) none)
  where
    by : (f : Option Flush) → flush_at c.waits.plan done.tag ≡ f
        → Some (work_of done.op) ≡ option_map (λ (x : Flush). Flushing x.pv) f
        → IsFlushOf c done
    by None at is = absurd (none-some (work_of done.op) (sym is))
    by (Some f) at is = record { flush = f; found = at; work = same_Some (work_of done.op) (Flushing f.pv) is }

-- no read or write
pub no_read : (c : Core) (done : Done) (span : _) (buffer : List (List ℕ)) → IsFlushOf c done → done.op ≡ ReadOp span buffer → ⊥
no_read c done span buffer is op = cc (sym is.work ∙ ap work_of op)

pub no_write : (c : Core) (done : Done) (span : _) (sectors : List (List ℕ)) → IsFlushOf c done → done.op ≡ WriteOp span sectors → ⊥
no_write c done span sectors is op = cc (sym is.work ∙ ap work_of op)

-- it is the one that is found by its place
found_at : (tag : ℕ) (fs : List Flush) (f d : Flush) → find (λ (g : Flush). nat_eq g.tag tag) fs ≡ Some f
    → get_or fs (position_or_len (λ (g : Flush). nat_eq g.tag tag) fs) d ≡ f
found_at tag [] f d at = absurd (none-some f at)
found_at tag (g ∷ fs) f d at =
    elim (nat_eq g.tag tag) as
    (λ b. cond b (Some g) (find (λ (x : Flush). nat_eq x.tag tag) fs) ≡ Some f
    → get_or (g ∷ fs) (cond (not b) (1 + position_or_len (λ (x : Flush). nat_eq x.tag tag) fs) 0) d ≡ f) [
      | true ↦ λ h. same_Some g f h
      | false ↦ λ h.
          let next : 1 + position_or_len (λ (x : Flush). nat_eq x.tag tag) fs ≡ suc (position_or_len (λ (x : Flush). nat_eq x.tag tag) fs) =
          omega arith in
          rw (next) (found_at tag fs f d h)
    ] at

-- whether a flush of a disk is in flight
any_flight : (fs : List Flush) (pv : ℕ) → option_and_then (slice_get fs) (position (λ (f : Flush). nat_eq f.pv pv) fs) ≡ None
    → list_any (λ (f : Flush). nat_eq f.pv pv) fs ≡ false
any_flight fs pv none = by (list_any (λ (f : Flush). nat_eq f.pv pv) fs) refl
  where
    by : (b : Bool) → list_any (λ (f : Flush). nat_eq f.pv pv) fs ≡ b → b ≡ false
    by false is = refl
    by true is =
        let d : Flush = record { tag = 0; pv = 0; after = 0 } in
        let at : ℕ = position_or_len (λ (f : Flush). nat_eq f.pv pv) fs in
        let within : at < length fs = any_within (λ (f : Flush). nat_eq f.pv pv) fs is in
        let some : option_and_then (slice_get fs) (position (λ (f : Flush). nat_eq f.pv pv) fs) ≡ Some (get_or fs at d) =
        ap (λ (b : Bool). option_and_then (slice_get fs) (cond b (Some at) None)) (lt-ltb at (length fs) within)
        ∙ slice_get-get_or fs at d within in
        absurd (none-some (get_or fs at d) (sym none ∙ some))

no_flight : (fs : List Flush) (pv : ℕ) → list_any (λ (f : Flush). nat_eq f.pv pv) fs ≡ false
    → option_and_then (slice_get fs) (position (λ (f : Flush). nat_eq f.pv pv) fs) ≡ None
no_flight fs pv none =
    let d : Flush = record { tag = 0; pv = 0; after = 0 } in
    let at : ℕ = position_or_len (λ (f : Flush). nat_eq f.pv pv) fs in
    let past : at ≡ length fs =
    position_or_len_is (λ (f : Flush). nat_eq f.pv pv) fs (length fs) d (omega arith)
    (λ k lt. none_at (λ (f : Flush). nat_eq f.pv pv) fs k d none lt) (λ lt. absurd (omega (arith, lt))) in
    ap (λ (b : Bool). option_and_then (slice_get fs) (cond b (Some at) None)) (le-ltb at (length fs) (omega (arith, past)))

-- none passes a test, where none does without one that fails it
none_before : (p : Flush → Bool) (fs : List Flush) (at : ℕ) (d : Flush) → p (get_or fs at d) ≡ false → list_any p (remove fs at) ≡ false
    → list_any p fs ≡ false
none_before p [] at d fails none = refl
none_before p (f ∷ fs) zero d fails none = ap (λ (b : Bool). b || list_any p fs) fails ∙ none
none_before p (f ∷ fs) (suc at) d fails none =
    elim (p f) as (λ b. (b || list_any p (remove fs at)) ≡ false → (b || list_any p fs) ≡ false) [
      | true ↦ λ h. absurd (true≢false h)
      | false ↦ λ h. none_before p fs at d fails h
    ] none

-- what is asked as what the flush served waits no more
pub record EndsFlushOf (now : State) (c : Core) (pv : ℕ) : Type 0 where
  pub orderly : IsOrderly (world now c)
  pub disk : pv < length c.waits.disks
  pub ended : flight_of c.waits.plan pv ≡ None
  pub calm : IsCalm no_one no_one c
  pub released : AreReleasedBut pv c

pub flush_is_in_flight : (before now : State) (c : Core) (done : Done) → IsKept (world before c) → Completes before done now
    → owner_at c.pieces.owners done.tag ≡ None
    → is_in_flight c.waits.plan done.tag ≡ true
flush_is_in_flight before now c done kept completes none = flush_flies before c done now kept.orderly.backed.known completes none

after_plan_flushes : (ws : Waits) (tag : ℕ) (well : Bool)
    → (waits.after_ended ws tag well).plan.flushes ≡ remove ws.plan.flushes (plan.flush_at ws.plan tag)
after_plan_flushes ws tag true = refl
after_plan_flushes ws tag false = refl

flushed_from : (before now : State) (c : Core) (done : Done) (pv : ℕ) → IsKept (world before c) → Completes before done now → IsLawful now
    → owner_at c.pieces.owners done.tag ≡ None
    → done.op ≡ FlushOp pv
    → flight_of (waits.after_ended c.waits done.tag done.well).plan (plan.flush_of c.waits.plan done.tag).pv ≡ None
    → EndsFlushOf now (after_flushed c done.tag done.well) pv
flushed_from before now c done pv kept completes lawful none op ended =
    let o = kept.orderly in
    let d : Core = after_flushed c done.tag done.well in
    let f : IsFlushOf c done = flush_of_done before now c done kept completes none in
    let its : (plan.flush_of c.waits.plan done.tag).pv ≡ pv =
    ap (λ (x : Flush). x.pv) (found_at done.tag c.waits.plan.flushes f.flush (record { tag = 0; pv = 0; after = 0 }) f.found)
    ∙ ap disk_of_work (sym f.work ∙ ap work_of op) in
    let calm = kept.rest.settled.calm in
    record {
      orderly = after_end_flush (world before c) done now o (completes, lawful, none);
      disk =
          let lies : pv < length before.sizes = subst (λ (x : Op). Lies before.sizes x) op completes.lies in
          omega (arith, lies, o.backed.places.many);
      ended = subst (λ (n : ℕ). flight_of d.waits.plan n ≡ None) its ended;
      calm = record {
        quiet = record {
          asked = asked_same no_one no_one c d refl (λ q not deferred. deferred) (λ q not. not) calm.quiet.asked;
          unfinished = unfinished_same no_one no_one c d refl refl (λ q not. not) calm.quiet.unfinished;
        };
        others = calm.others;
      };
      released =
          λ other apart grounded.
          let test : Flush → Bool = λ (g : Flush). nat_eq g.pv other in
          let left : list_any test (remove c.waits.plan.flushes (plan.flush_at c.waits.plan done.tag)) ≡ false =
          ap (λ (l : List Flush). list_any test l) (sym (after_plan_flushes c.waits done.tag done.well))
          ∙ any_flight d.waits.plan.flushes other grounded in
          let fails : nat_eq (plan.flush_of c.waits.plan done.tag).pv other ≡ false =
          ne_eqb (plan.flush_of c.waits.plan done.tag).pv other (λ e. eqb-false other pv apart (sym e ∙ its)) in
          kept.rest.settled.released other
          (no_flight c.waits.plan.flushes other
          (none_before test c.waits.plan.flushes (plan.flush_at c.waits.plan done.tag) (record { tag = 0; pv = 0; after = 0 }) fails left));
    }

pub ends_flush : (before now : State) (c : Core) (done : Done) (pv : ℕ) (p : Pieces) (ws : Waits) → IsKept (world before c)
    → Completes before done now
    → IsLawful now
    → owner_at c.pieces.owners done.tag ≡ None
    → done.op ≡ FlushOp pv
    → p ≡ c.pieces
    → ws ≡ waits.after_ended c.waits done.tag done.well
    → flight_of ws.plan (plan.flush_of c.waits.plan done.tag).pv ≡ None
    → EndsFlushOf now (record c { pieces = p; waits = ws }) pv
ends_flush before now c done pv p ws kept completes lawful none op same is ended =
    subst (λ (x : Pieces). EndsFlushOf now (record c { pieces = x; waits = ws }) pv) (sym same)
    (subst (λ (x : Waits). EndsFlushOf now (record c { waits = x }) pv) (sym is)
    (flushed_from before now c done pv kept completes lawful none op
    (subst (λ (x : Waits). flight_of x.plan (plan.flush_of c.waits.plan done.tag).pv ≡ None) is ended)))

pub follows_flush : (before now : State) (c : Core) (done : Done) (pv : ℕ) (p : Pieces) (ws : Waits) (v : World)
    → Completes before done now
    → IsLawful now
    → owner_at c.pieces.owners done.tag ≡ None
    → p ≡ c.pieces
    → ws ≡ waits.after_ended c.waits done.tag done.well
    → done.op ≡ FlushOp pv
    → SettlesAndGoes (flushed_acts pv done.well) (world now (record c { pieces = p; waits = ws })) v
    → Follows (world before c) done now v
follows_flush before now c done pv p ws v completes lawful none same is op ends = record {
  piece = None;
  whose = sym (ap (option_map (λ (x : Owner). x.piece)) none);
  allowed = (completes, lawful, none);
  ends =
      subst (λ (x : Op). SettlesAndGoes (flushing x done.well) (world now (after_flushed c done.tag done.well)) v) (sym op)
      (subst (λ (x : Waits). SettlesAndGoes (flushed_acts pv done.well) (world now (record c { waits = x })) v) is
      (subst (λ (x : Pieces). SettlesAndGoes (flushed_acts pv done.well) (world now (record c { pieces = x; waits = ws })) v) same ends));
}
