-- Where nothing is in flight between events, each line that was begun is answered, and none waits for all others.
use Rattle.std.proofs.Common.{◌≡◌, ◌≤◌, ◌<◌, ℕ, zero, suc, ◌+◌, ◌*◌, Bool, true, false, cond, not, ◌&&◌, ◌||◌, nat_eq, List, []}
use Rattle.std.proofs.Common.{◌∷◌, ◌++◌, length, get_or, map, All, Option, None, Some, is_none, is_some, count_by, filter, sum_by, find}
use Rattle.std.proofs.Common.{option_map, position, slice_get, inl, inr, refl, sym, ap, subst, ◌∙◌, arith, true≢false}
use Rattle.std.specs.Cmp.{nat_eq_equiv}
use Rattle.std.specs.List.{list_any}
use Rattle.std.specs.Option.{option_and_then, option_map_or}
use Rattle.std.proofs.Math.ListN.{get_or-map}
use Rattle.std.proofs.lemmas.Bool.{eq-eqb, eqb-true}
use Rattle.std.proofs.lemmas.List.{length-map, nil_from_length}
use Rattle.std.proofs.lemmas.List.Elements.{All-from_get_or, All-head}
use Rattle.std.proofs.lemmas.List.Folds.{list_any_none}
use Rattle.std.proofs.lemmas.List.Sums.{length-filter, sum_by-cons, sum_by-le}
use Rattle.std.proofs.lemmas.Map.Entries.{lookup_from_place}
use Rattle.std.proofs.lemmas.Map.Made.{nil_from_lookup}
use Rattle.std.proofs.lemmas.Option.{none-some, same_Some, slice_get-get_or}
use Rattle.list_laws.proofs.Fronts.{same_read}
use Rattle.sector_base.specs.declared.places.Piece.{Piece}
use Rattle.line_table.specs.Steps.{is_open}
use Rattle.disk_model.specs.Record.{Operation}
use Rattle.claim_table.specs.Conflict.{clash}
use Rattle.claim_table.specs.declared.claim.Claim.{Claim}
use Rattle.claim_table.specs.Claims.{Claims, is_free, lies_in, ready_after, ready_at}
use Rattle.claim_table.specs.Steps.{has_number}
use Rattle.flush_plan.specs.declared.records.Flush.{Flush}
use Rattle.flush_plan.specs.Plans.{flight_of}
use Rattle.flush_waits.specs.declared.ticket.Waiting.{Waiting}
use Rattle.flush_waits.specs.Waits.{DiskWaits, disk_waits, is_wanted, none_waits}
use Rattle.piece_table.specs.declared.live.LivePiece.{LivePiece}
use Rattle.piece_table.specs.declared.live.Owner.{Owner}
use Rattle.piece_table.specs.declared.live.Stage.{Stage}
use Rattle.piece_table.specs.declared.live.Stage.TheVariants.{Started, Taken, Waiting as Unsubmitted}
use Rattle.piece_table.specs.Pieces.{AreClaimed, IsLive, flying_of, is_started_stage, is_waiting_stage, live_at, owner_at}
use Rattle.world_acts.specs.declared.state.Core.{Core}
use Rattle.world_acts.specs.Acts.{World}
use Rattle.world_acts.specs.Counts.{awaited_of, is_line, is_piece, is_taken, pieces_of, waiting}
use Rattle.world_acts.specs.OpenLines.{left_of, open_at}
use Rattle.world_acts.specs.Orderly.{AreReleased, IsOrderly, IsTidy}
use Rattle.world_acts.specs.Owners.{flush_at, in_flight_at}
use Rattle.world_acts.proofs.Known.{unknown}
use Rattle.world_acts.proofs.Tables.{at_number, none_counted, some_of}
use Rattle.world_acts.proofs.WaitsKept.{waiting_on}
use Rattle.io_core.specs.Rest.{IsAsked, IsKept, IsSettled, IsUnfinished}

-- ---- what is in flight, and what waits

no_flushes : (fs : List Flush) → ((tag : ℕ) → find (λ (f : Flush). nat_eq f.tag tag) fs ≡ None) → fs ≡ []
no_flushes [] none = refl
no_flushes (f ∷ fs) none =
    absurd (none-some f (sym (none f.tag) ∙ ap (λ (b : Bool). cond b (Some f) (find (λ (g : Flush). nat_eq g.tag f.tag) fs))
    (eq-eqb f.tag f.tag refl)))

-- no operation has an owner, and no flush is in flight
idle : (w : World) → IsOrderly w → w.shelf.in_flight ≡ [] → (w.core.pieces.owners ≡ []) × (w.core.waits.plan.flushes ≡ [])
idle w o none =
    let known : (tag : ℕ) → (owner_at w.core.pieces.owners tag ≡ None) × (flush_at w.core.waits.plan tag ≡ None) =
    λ tag. unknown w.shelf w.core tag o.backed.known o.tidy.owners (ap (λ (ops : List Operation). in_flight_at ops tag) none) in
    (nil_from_lookup nat_eq_equiv w.core.pieces.owners (λ tag. (known tag).0), no_flushes w.core.waits.plan.flushes (λ tag. (known tag).1))

sum_zero : {X : Type 0} (f : X → ℕ) (xs : List X) → All (λ (x : X). f x ≡ 0) xs → sum_by f xs ≡ 0
sum_zero f xs none =
    let most : sum_by f xs ≤ length xs * 0 = sum_by-le f 0 xs (λ k d within. omega (arith, none k d within)) in
    omega (arith, most)

unless : (b : Bool) → (not b && true) ≡ false → b ≡ true
unless true h = refl
unless false h = absurd (true≢false h)

-- what waits for a flush to come, where none is in flight and none is wanted
none_next : (next : List Waiting) (flight : Option Flush) → flight ≡ None → (not (nat_eq (length next) 0) && is_none flight) ≡ false
    → next ≡ []
none_next next flight none unwanted =
    let same : (not (nat_eq (length next) 0) && is_none flight) ≡ (not (nat_eq (length next) 0) && true) =
    ap (λ (o : Option Flush). not (nat_eq (length next) 0) && is_none o) none in
    nil_from_length next (eqb-true (length next) 0 (unless (nat_eq (length next) 0) (sym same ∙ unwanted)))

-- nothing waits on any disk
nothing_waits : (c : Core) → c.waits.plan.flushes ≡ [] → AreReleased c
    → ((pv : ℕ) → pv < length c.waits.disks → is_wanted c.waits pv ≡ false)
    → (test : Waiting → Bool)
    → waiting test c.waits.disks ≡ 0
nothing_waits c none released unwanted test =
    let no_flight : (pv : ℕ) → flight_of c.waits.plan pv ≡ None =
    λ pv. ap (λ (fs : List Flush). option_and_then (slice_get fs) (position (λ (f : Flush). nat_eq f.pv pv) fs)) none in
    sum_zero (waiting_on test) c.waits.disks
    (All-from_get_or (λ (d : DiskWaits). waiting_on test d ≡ 0) c.waits.disks none_waits
    (λ pv within.
    let served : count_by test (disk_waits c.waits pv).served ≡ 0 =
    ap (λ (l : List Waiting). count_by test l) (released pv (no_flight pv)) in
    let next : count_by test (disk_waits c.waits pv).next ≡ 0 =
    ap (λ (l : List Waiting). count_by test l)
    (none_next (disk_waits c.waits pv).next (flight_of c.waits.plan pv) (no_flight pv) (unwanted pv within)) in
    omega (arith, served, next)))

-- ---- pieces

-- nothing of a piece was submitted, where none of its operations is in flight and it waits for no flush
unsubmitted : (stage : Stage) → (is_started_stage stage ≡ true → 0 < flying_of stage) → (is_taken stage ≡ true → 0 < awaited_of stage)
    → flying_of stage ≡ 0
    → awaited_of stage ≡ 0
    → is_waiting_stage stage ≡ true
unsubmitted (Unsubmitted sectors) flies stays none still = refl
unsubmitted (Started flying lost) flies stays none still = let some : 0 < flying = flies refl in absurd (omega (arith, some, none))
unsubmitted (Taken awaited) flies stays none still = let some : 0 < awaited = stays refl in absurd (omega (arith, some, still))

-- so it is deferred
all_deferred : (c : Core) → IsTidy c → c.pieces.owners ≡ [] → ((test : Waiting → Bool) → waiting test c.waits.disks ≡ 0)
    → All (λ (e : ℕ × LivePiece). IsAsked c e) c.pieces.lives
    → All (λ (e : ℕ × LivePiece). list_any (has_number e.0) c.pieces.claims.deferred ≡ true) c.pieces.lives
all_deferred c t none still asked k d within =
    let e : ℕ × LivePiece = get_or c.pieces.lives k d in
    let at : live_at c.pieces.lives e.0 ≡ Some e.1 =
    lookup_from_place nat_eq_equiv c.pieces.lives k e.0 e.1 t.pieces.single (slice_get-get_or c.pieces.lives k d within) in
    let a : IsAsked c e = asked k d within in
    let flying : flying_of e.1.stage ≡ 0 =
    sym (ap (λ (o : Option LivePiece). option_map_or (λ (l : LivePiece). flying_of l.stage) o 0) at) ∙ t.owners.flying e.0
    ∙ ap (λ (os : List (ℕ × Owner)). count_by (λ (x : ℕ × Owner). nat_eq x.1.piece e.0) os) none in
    let awaited : awaited_of e.1.stage ≡ 0 =
    sym (ap (λ (o : Option LivePiece). option_map_or (λ (l : LivePiece). awaited_of l.stage) o 0) at) ∙ t.counts.awaited e.0
    ∙ still (is_piece e.0) in
    a.waits (unsubmitted e.1.stage a.flies a.stays flying awaited)

some_counted : {X : Type 0} (p : X → Bool) (xs : List X) → list_any p xs ≡ true → 1 ≤ count_by p xs
some_counted {X} p xs any = by (count_by p xs) refl
  where
    by : (n : ℕ) → count_by p xs ≡ n → 1 ≤ n
    by zero none = absurd (true≢false (sym any ∙ list_any_none p xs (none_counted p xs none)))
    by (suc n) is = omega arith

live_is : (o : Option LivePiece) (piece : Piece) → option_map (λ (l : LivePiece). l.piece) o ≡ Some piece → is_some o ≡ true
live_is None piece is = absurd (none-some piece is)
live_is (Some l) piece is = refl

-- none is started, since each has one claim
none_started : (c : Core) → AreClaimed c.pieces.claims c.pieces.lives
    → All (λ (e : ℕ × LivePiece). list_any (has_number e.0) c.pieces.claims.deferred ≡ true) c.pieces.lives
    → c.pieces.claims.started ≡ []
none_started c claimed all = by c.pieces.claims.started refl
  where
    by : (xs : List Claim) → c.pieces.claims.started ≡ xs → xs ≡ []
    by [] is = refl
    by (x ∷ xs) is =
        let lives : List (ℕ × LivePiece) = c.pieces.lives in
        let is_live : IsLive lives x =
        All-head (IsLive lives) x xs (subst (λ (l : List Claim). All (IsLive lives) l) is claimed.started) in
        let found : (l : LivePiece) × (live_at lives x.number ≡ Some l) =
        some_of (live_at lives x.number) (live_is (live_at lives x.number) x.piece is_live) in
        let deferred : 1 ≤ count_by (has_number x.number) c.pieces.claims.deferred =
        some_counted (has_number x.number) c.pieces.claims.deferred
        (at_number (λ (e : ℕ × LivePiece). list_any (has_number e.0) c.pieces.claims.deferred ≡ true) lives x.number found.0 all found.1) in
        let any : list_any (has_number x.number) c.pieces.claims.started ≡ true =
        ap (λ (l : List Claim). list_any (has_number x.number) l) is
        ∙ ap (λ (b : Bool). b || list_any (has_number x.number) xs) (eq-eqb x.number x.number refl) in
        let started : 1 ≤ count_by (has_number x.number) c.pieces.claims.started =
        some_counted (has_number x.number) c.pieces.claims.started any in
        let once : count_by (has_number x.number) c.pieces.claims.started + count_by (has_number x.number) c.pieces.claims.deferred ≡ 1 =
        claimed.once x.number ∙ ap (λ (o : Option LivePiece). cond (is_some o) 1 0) found.1 in
        absurd (omega (arith, deferred, started, once))

-- nor deferred, since the first would conflict with nothing
none_deferred : (claims : Claims) → claims.started ≡ [] → claims.closed ≡ None → claims.suspended ≡ []
    → ready_at claims ≡ length claims.deferred
    → claims.deferred ≡ []
none_deferred claims started closed suspended ready = by claims.deferred ready
  where
    by : (xs : List Claim) → ready_after claims [] xs ≡ length xs → xs ≡ []
    by [] r = refl
    by (x ∷ xs) r =
        let free : is_free claims [] x ≡ true =
        λ i. not (list_any (λ (d : Claim). clash d x) (started i)) && not (list_any (λ (d : Claim). clash d x) [])
        && not (option_map_or (λ (region : ℕ). lies_in region x) (closed i) false)
        && not (list_any (λ (v : ℕ). nat_eq v x.piece.volume) (suspended i)) in
        let first : 0 ≡ length (x ∷ xs) = sym (ap (λ (b : Bool). cond b 0 (suc (ready_after claims ([] ++ x ∷ []) xs))) free) ∙ r in
        absurd (omega (arith, first))

-- ---- lines

none_true : (bs : List Bool) → ((k : ℕ) → get_or bs k false ≡ true → ⊥) → All (λ (b : Bool). b ≡ false) bs
none_true bs none k d within = by (get_or bs k d) refl
  where
    by : (b : Bool) → get_or bs k d ≡ b → b ≡ false
    by true is = absurd (none k (sym (same_read bs k d false within) ∙ is))
    by false is = refl

-- where no two different places have true, at most one has
one_true : (bs : List Bool) → ((j k : ℕ) → get_or bs j false ≡ true → get_or bs k false ≡ true → j ≡ k)
    → count_by (λ (b : Bool). b) bs ≤ 1
one_true [] same = omega arith
one_true (true ∷ bs) same =
    let none : count_by (λ (b : Bool). b) bs ≡ 0 =
    sum_zero (λ (b : Bool). cond b 1 0) bs
    (λ k d within. ap (λ (b : Bool). cond b 1 0)
    (none_true bs (λ n t. let e : 0 ≡ suc n = same 0 (suc n) refl t in absurd (omega (arith, e))) k d within)) in
    let first : count_by (λ (b : Bool). b) (true ∷ bs) ≡ 1 + count_by (λ (b : Bool). b) bs =
    sum_by-cons (λ (b : Bool). cond b 1 0) true bs in
    omega (arith, none, first)
one_true (false ∷ bs) same =
    let rest : count_by (λ (b : Bool). b) bs ≤ 1 =
    one_true bs (λ j k s t. let e : suc j ≡ suc k = same (suc j) (suc k) s t in omega (arith, e)) in
    let first : count_by (λ (b : Bool). b) (false ∷ bs) ≡ 0 + count_by (λ (b : Bool). b) bs =
    sum_by-cons (λ (b : Bool). cond b 1 0) false bs in
    omega (arith, rest, first)

counted_tests : {X : Type 0} (test : X → Bool) (xs : List X) → count_by (λ (b : Bool). b) (map test xs) ≡ count_by test xs
counted_tests test [] = refl
counted_tests test (x ∷ xs) =
    let left : count_by (λ (b : Bool). b) (map test (x ∷ xs)) ≡ cond (test x) 1 0 + count_by (λ (b : Bool). b) (map test xs) =
    sum_by-cons (λ (b : Bool). cond b 1 0) (test x) (map test xs) in
    let right : count_by test (x ∷ xs) ≡ cond (test x) 1 0 + count_by test xs = sum_by-cons (λ y. cond (test y) 1 0) x xs in
    left ∙ ap (λ (n : ℕ). cond (test x) 1 0 + n) (counted_tests test xs) ∙ sym right

-- an open line of which nothing is left waits for all others
waits_for_others : (c : Core) (line : ℕ) → IsUnfinished c line → left_of c.opens line ≡ 0 → is_some (open_at c.opens line) ≡ true
    → c.barrier ≡ Some line
waits_for_others c line (inl none) left some = absurd (true≢false (sym some ∙ ap is_some none))
waits_for_others c line (inr (inl more)) left some = absurd (omega (arith, more, left))
waits_for_others c line (inr (inr is)) left some = is

no_pieces_left : (c : Core) → c.pieces.claims.deferred ≡ []
    → All (λ (e : ℕ × LivePiece). list_any (has_number e.0) c.pieces.claims.deferred ≡ true) c.pieces.lives
    → c.pieces.lives ≡ []
no_pieces_left c none all = by c.pieces.lives all
  where
    by : (es : List (ℕ × LivePiece)) → All (λ (e : ℕ × LivePiece). list_any (has_number e.0) c.pieces.claims.deferred ≡ true) es → es ≡ []
    by [] all = refl
    by (e ∷ es) all =
        let is : list_any (has_number e.0) c.pieces.claims.deferred ≡ true =
        All-head (λ (x : ℕ × LivePiece). list_any (has_number x.0) c.pieces.claims.deferred ≡ true) e es all in
        absurd (true≢false (sym is ∙ ap (λ (l : List Claim). list_any (has_number e.0) l) none))

no_barrier : (barrier : Option ℕ) (open_lines : ℕ) → open_lines ≤ 1 → ((line : ℕ) → barrier ≡ Some line → 1 < open_lines)
    → barrier ≡ None
no_barrier None open_lines few others = refl
no_barrier (Some line) open_lines few others = let more : 1 < open_lines = others line refl in absurd (omega (arith, few, more))

pub resting : (w : World) → IsKept w → AreClaimed w.core.pieces.claims w.core.pieces.lives → w.shelf.in_flight ≡ []
    → (list_any is_open w.core.lines.answers ≡ false) × (w.core.barrier ≡ None)
resting w kept claimed none =
    let c : Core = w.core in
    let t : IsTidy c = kept.orderly.tidy in
    let settled : IsSettled c = kept.rest.settled in
    let flight = idle w kept.orderly none in
    let still : (test : Waiting → Bool) → waiting test c.waits.disks ≡ 0 =
    nothing_waits c flight.1 settled.released kept.rest.flushed in
    let deferred : All (λ (e : ℕ × LivePiece). list_any (has_number e.0) c.pieces.claims.deferred ≡ true) c.pieces.lives =
    all_deferred c t flight.0 still (λ k d within. settled.calm.quiet.asked k d within refl) in
    let no_lives : c.pieces.lives ≡ [] =
    no_pieces_left c
    (none_deferred c.pieces.claims (none_started c claimed deferred) kept.plain.closed kept.plain.suspended settled.ready) deferred in
    let over : (line : ℕ) → left_of c.opens line ≡ 0 =
    λ line. let pieces : pieces_of line c.pieces.lives ≡ 0 = ap (λ (l : List (ℕ × LivePiece)). pieces_of line l) no_lives in
    omega (arith, t.counts.left line, pieces, still (is_line line)) in
    let tests : List Bool = map is_open c.lines.answers in
    let there : (k : ℕ) → get_or tests k false ≡ is_some (open_at c.opens k) =
    λ k. ap (λ (bs : List Bool). get_or bs k false) (sym t.lines.opened) ∙ get_or-map is_some c.opens.list k None in
    let waits : (k : ℕ) → get_or tests k false ≡ true → c.barrier ≡ Some k =
    λ k is. waits_for_others c k (settled.calm.quiet.unfinished k refl) (over k) (sym (there k) ∙ is) in
    let few : length (filter is_open c.lines.answers) ≤ 1 =
    let one : count_by (λ (b : Bool). b) tests ≤ 1 = one_true tests (λ j k a b. same_Some j k (sym (waits j a) ∙ waits k b)) in
    omega (arith, one, counted_tests is_open c.lines.answers, length-filter is_open c.lines.answers) in
    let free : c.barrier ≡ None = no_barrier c.barrier (length (filter is_open c.lines.answers)) few settled.calm.others in
    let answered : All (λ (b : Bool). b ≡ false) tests = none_true tests (λ k is. none-some k (sym free ∙ waits k is)) in (
      list_any_none is_open c.lines.answers
          (λ k d within. sym (get_or-map is_open c.lines.answers k d)
          ∙ answered k (is_open d) (subst (λ (n : ℕ). k < n) (sym (length-map c.lines.answers is_open)) within)),
      free,
    )
