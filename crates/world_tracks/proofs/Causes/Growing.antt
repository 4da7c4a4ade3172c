-- What is a cause stays one where a step is told more, or an entry comes.
use Rattle.std.proofs.Common.{◌≡◌, ◌≤◌, ℕ, zero, suc, Bool, true, false, ◌==◌, List, [], ◌∷◌, Contains, Option, None, Some, cond, is_some}
use Rattle.std.proofs.Common.{inl, inr, ⊎_elim, refl, sym, ap, subst, ◌∙◌, arith, true≢false}
use Rattle.std.proofs.lemmas.Bool.{eqb-true}
use Rattle.lvm_script.specs.declared.line.Line.{Line}
use Rattle.sector_base.specs.declared.places.Piece.{Piece}
use Rattle.line_answers.specs.declared.answer.Answer.{Answer}
use Rattle.line_answers.specs.declared.answer.Answer.TheVariants as answer
use Rattle.disk_model.specs.Steps.{Step}
use Rattle.volume_history.specs.Candidates.{is_through_line}
use Rattle.volume_history.specs.Chronicles.{Answered, AreUpto, Begun, Changed, ChronicleEntry, Failed, GivenUp, Opened, Origin, Took}
use Rattle.volume_history.specs.Chronicles.{begun_in, moment_of, origin_on}
use Rattle.volume_history.specs.Cuts.{FlushesVolume}
use Rattle.volume_history.proofs.EarlierMoments.{steps_stay}
use Rattle.world_history.specs.Causes.{AreCaused, FailsToRead, HasCause, IsBadRead, IsEarlier, IsOwnLoss, LosesPiece, LosesWrite}
use Rattle.world_history.specs.Causes.{before_line}
use Rattle.world_tracks.proofs.Causes.Since.{IsLater, fails_lasts, fails_on, loses_lasts, loses_on, now_in, since_more, since_stays}

-- ---- entries among others

pub among_first : (e : ChronicleEntry) (es : List ChronicleEntry) → Contains (e ∷ es) e
among_first e es = (0, omega arith, refl)

pub among_more : (x : ChronicleEntry) (es : List ChronicleEntry) (e : ChronicleEntry) → Contains es e → Contains (x ∷ es) e
among_more x es e (k, lt, at) = (suc k, omega (arith, lt), at)

among_others : (x : ChronicleEntry) (es : List ChronicleEntry) (e : ChronicleEntry) → (x ≡ e → ⊥) → Contains (x ∷ es) e → Contains es e
among_others x es e other (zero, lt, at) = absurd (other at)
among_others x es e other (suc k, lt, at) = (k, omega (arith, lt), at)

-- whether a piece takes place
abbrev pub is_took : ChronicleEntry → Bool
is_took (Took moment n piece) = true
is_took _ = false

-- one that took place is among the entries before any other
pub among_took : (x : ChronicleEntry) (es : List ChronicleEntry) (since writer : ℕ) (piece : Piece) → is_took x ≡ false
    → Contains (x ∷ es) (Took since writer piece)
    → Contains es (Took since writer piece)
among_took x es since writer piece other has =
    among_others x es (Took since writer piece) (λ e. true≢false (sym (ap is_took e) ∙ other)) has

-- each of entries up to a moment is
pub upto_at : (moment : ℕ) (es : List ChronicleEntry) (e : ChronicleEntry) → AreUpto moment es → Contains es e → moment_of e ≤ moment
upto_at moment [] e are (k, lt, at) = absurd (omega (arith, lt))
upto_at moment (x ∷ es) e are (zero, lt, at) = subst (λ (y : ChronicleEntry). moment_of y ≤ moment) at are.0
upto_at moment (x ∷ es) e are (suc k, lt, at) = upto_at moment es e are.1 (k, omega (arith, lt), at)

-- ---- a step more

module _ (step : Step) (o : Origin) (es : List ChronicleEntry) (upto : AreUpto (now_in o) es) where
  read_stays : (n pv : ℕ) → FailsToRead o es n pv → FailsToRead (origin_on step o) es n pv
  read_stays n pv r = record {
    moment = r.moment;
    piece = r.piece;
    place = r.place;
    failed = r.failed;
    stands = r.stands;
    disk = r.disk;
    read =
        subst (IsBadRead r.place r.piece.count)
        (sym (steps_stay step o r.moment (upto_at (now_in o) es (Failed r.moment n r.piece) upto r.failed))) r.read;
  }

  piece_stays : (n pv : ℕ) → LosesPiece o es n pv → LosesPiece (origin_on step o) es n pv
  piece_stays n pv l = record {
    moment = l.moment;
    piece = l.piece;
    place = l.place;
    failed = l.failed;
    stands = l.stands;
    disk = l.disk;
    lost =
        since_stays (fails_on pv) step o o.start l.moment (upto_at (now_in o) es (Failed l.moment n l.piece) upto l.failed) ∙ l.lost;
  }

  write_at : (moment later n pv : ℕ) (l : LosesWrite o es moment n pv)
      → (IsOwnLoss o es moment n pv l.since l.writer l.piece → IsOwnLoss (origin_on step o) es later n pv l.since l.writer l.piece)
      → LosesWrite (origin_on step o) es later n pv
  write_at moment later n pv l own = record {
    since = l.since;
    writer = l.writer;
    piece = l.piece;
    place = l.place;
    wrote = l.wrote;
    stands = l.stands;
    disk = l.disk;
    its = ⊎_elim (λ is. inl (own is)) (λ is. inr is) l.its;
  }

  -- the cause of an answer that was given
  pub cause_stays : (moment n : ℕ) (why : Answer) → moment ≤ now_in o → HasCause o es moment n why
      → HasCause (origin_on step o) es moment n why
  cause_stays moment n (answer.ReadFailed pv) le c = read_stays n pv c
  cause_stays moment n (answer.PvFailed pv) le c = (
    since_stays (fails_on pv) step o o.start moment le ∙ c.0,
    ⊎_elim (λ l. inl (piece_stays n pv l))
        (λ (l : LosesWrite o es moment n pv). inr (write_at moment moment n pv l (λ is. record {
          through = is.through;
          own = is.own;
          took = is.took;
          lost = since_stays (loses_on pv) step o l.since moment le ∙ is.lost;
        }))) c.1,
  )
  cause_stays moment n why le c = tt

  -- and of one to be given
  pub cause_more : (n : ℕ) (why : Answer) → o.start ≤ now_in o → HasCause o es (now_in o) n why
      → HasCause (origin_on step o) es (now_in (origin_on step o)) n why
  cause_more n (answer.ReadFailed pv) from c = read_stays n pv c
  cause_more n (answer.PvFailed pv) from c = (
    since_more (fails_on pv) (fails_lasts pv) step o o.start from c.0,
    ⊎_elim (λ l. inl (piece_stays n pv l))
        (λ (l : LosesWrite o es (now_in o) n pv). inr (write_at (now_in o) (now_in (origin_on step o)) n pv l (λ is. record {
          through = is.through;
          own = is.own;
          took = is.took;
          lost =
              since_more (loses_on pv) (loses_lasts pv) step o l.since (upto_at (now_in o) es (Took l.since n l.piece) upto is.took)
              is.lost;
        }))) c.1,
  )
  cause_more n why from c = tt

-- all that were given
caused_stays : (step : Step) (o : Origin) (es : List ChronicleEntry) → AreUpto (now_in o) es → AreCaused o es
    → AreCaused (origin_on step o) es
caused_stays step o [] upto are = tt
caused_stays step o (Begun m n line key ∷ es) upto are = caused_stays step o es upto.1 are
caused_stays step o (Opened m n version ∷ es) upto are = caused_stays step o es upto.1 are
caused_stays step o (Took m n piece ∷ es) upto are = caused_stays step o es upto.1 are
caused_stays step o (Changed m n version ∷ es) upto are = caused_stays step o es upto.1 are
caused_stays step o (GivenUp m n ∷ es) upto are = caused_stays step o es upto.1 are
caused_stays step o (Failed m n piece ∷ es) upto are = caused_stays step o es upto.1 are
caused_stays step o (Answered m n why ∷ es) upto are =
    (cause_stays step o es upto.1 m n why upto.0 are.0, caused_stays step o es upto.1 are.1)

-- a step more, or none
pub cause_later : {o o' : Origin} (es : List ChronicleEntry) → IsLater o o' → AreUpto (now_in o) es → o.start ≤ now_in o → (n : ℕ)
    (why : Answer) → HasCause o es (now_in o) n why → HasCause o' es (now_in o') n why
cause_later {o} {o'} es (inl same) upto from n why c = subst (λ (x : Origin). HasCause x es (now_in x) n why) (sym same) c
cause_later {o} {o'} es (inr more) upto from n why c =
    subst (λ (x : Origin). HasCause x es (now_in x) n why) (sym more.1) (cause_more more.0 o es upto n why from c)

pub caused_later : {o o' : Origin} (es : List ChronicleEntry) → IsLater o o' → AreUpto (now_in o) es → AreCaused o es → AreCaused o' es
caused_later {o} {o'} es (inl same) upto are = subst (λ (x : Origin). AreCaused x es) (sym same) are
caused_later {o} {o'} es (inr more) upto are =
    subst (λ (x : Origin). AreCaused x es) (sym more.1) (caused_stays more.0 o es upto are)

-- ---- more entries

-- all entries are still there, and the lines that were begun are as they were
pub record Extends (es fs : List ChronicleEntry) : Type 0 where
  pub has : (e : ChronicleEntry) → Contains es e → Contains fs e
  pub begun : (n : ℕ) → is_some (begun_in es n) ≡ true → begun_in fs n ≡ begun_in es n
  pub before : (n : ℕ) → is_some (begun_in es n) ≡ true → before_line fs n ≡ before_line es n

pub extends_none : (es : List ChronicleEntry) → Extends es es
extends_none es = record { has = λ e has. has; begun = λ n some. refl; before = λ n some. refl }

pub extends_took : (moment n : ℕ) (piece : Piece) (es : List ChronicleEntry) → Extends es (Took moment n piece ∷ es)
extends_took moment n piece es =
    record { has = among_more (Took moment n piece) es; begun = λ n some. refl; before = λ n some. refl }

pub extends_failed : (moment n : ℕ) (piece : Piece) (es : List ChronicleEntry) → Extends es (Failed moment n piece ∷ es)
extends_failed moment n piece es =
    record { has = among_more (Failed moment n piece) es; begun = λ n some. refl; before = λ n some. refl }

pub extends_answered : (moment n : ℕ) (why : Answer) (es : List ChronicleEntry) → Extends es (Answered moment n why ∷ es)
extends_answered moment n why es =
    record { has = among_more (Answered moment n why) es; begun = λ n some. refl; before = λ n some. refl }

pub extends_begun : (moment k : ℕ) (line : Line) (key : Option ℕ) (es : List ChronicleEntry) → begun_in es k ≡ None
    → Extends es (Begun moment k line key ∷ es)
extends_begun moment k line key es none = record {
  has = among_more (Begun moment k line key) es;
  begun = λ n some. ap (λ (b : Bool). cond b (Some (line, key)) (begun_in es n)) (other n some);
  before = λ n some. ap (λ (b : Bool). cond b es (before_line es n)) (other n some);
}
  where
    other : (n : ℕ) → is_some (begun_in es n) ≡ true → (k == n) ≡ false
    other n some = by (k == n) refl
      where
        by : (b : Bool) → (k == n) ≡ b → b ≡ false
        by true is =
            absurd (true≢false (sym some ∙ ap (λ (m : ℕ). is_some (begun_in es m)) (sym (eqb-true k n is)) ∙ ap is_some none))
        by false is = refl

pub extends_both : {es fs gs : List ChronicleEntry} → Extends es fs → Extends fs gs → Extends es gs
extends_both a b = record {
  has = λ e has. b.has e (a.has e has);
  begun = λ n some. b.begun n (ap is_some (a.begun n some) ∙ some) ∙ a.begun n some;
  before = λ n some. b.before n (ap is_some (a.begun n some) ∙ some) ∙ a.before n some;
}

-- a line that is through was begun
through_some : (l : Option (Line × Option ℕ)) → is_through_line l ≡ true → is_some l ≡ true
through_some None is = absurd (true≢false (sym is))
through_some (Some l) is = refl

pub flushes_extended : {es fs : List ChronicleEntry} → Extends es fs → (n key : ℕ) → FlushesVolume es n key → FlushesVolume fs n key
flushes_extended more n key f =
    record { line = f.line; begun = more.begun n (ap is_some f.begun) ∙ f.begun; flushes = f.flushes }

module _ {es fs : List ChronicleEntry} (more : Extends es fs) (o : Origin) (moment n : ℕ) where
  own_extended : (pv since writer : ℕ) (piece : Piece) → IsOwnLoss o es moment n pv since writer piece
      → IsOwnLoss o fs moment n pv since writer piece
  own_extended pv since writer piece is = record {
    through = ap is_through_line (more.begun n (through_some (begun_in es n) is.through)) ∙ is.through;
    own = is.own;
    took = more.has (Took since n piece) is.took;
    lost = is.lost;
  }

  earlier_extended : (since writer : ℕ) (piece : Piece) → IsEarlier es n since writer piece → IsEarlier fs n since writer piece
  earlier_extended since writer piece is = record {
    flushes = flushes_extended more n piece.volume is.flushes;
    took =
        subst (λ (l : List ChronicleEntry). Contains l (Took since writer piece)) (sym (more.before n (ap is_some is.flushes.begun)))
        is.took;
  }

  -- the causes are there still
  pub cause_extended : (why : Answer) → HasCause o es moment n why → HasCause o fs moment n why
  cause_extended (answer.ReadFailed pv) c = record {
    moment = c.moment;
    piece = c.piece;
    place = c.place;
    failed = more.has (Failed c.moment n c.piece) c.failed;
    stands = c.stands;
    disk = c.disk;
    read = c.read;
  }
  cause_extended (answer.PvFailed pv) c = (
    c.0,
    ⊎_elim
        (λ (l : LosesPiece o es n pv). inl (record {
          moment = l.moment;
          piece = l.piece;
          place = l.place;
          failed = more.has (Failed l.moment n l.piece) l.failed;
          stands = l.stands;
          disk = l.disk;
          lost = l.lost;
        }))
        (λ (l : LosesWrite o es moment n pv). inr (record {
          since = l.since;
          writer = l.writer;
          piece = l.piece;
          place = l.place;
          wrote = l.wrote;
          stands = l.stands;
          disk = l.disk;
          its =
              ⊎_elim (λ is. inl (own_extended pv l.since l.writer l.piece is))
              (λ is. inr (earlier_extended l.since l.writer l.piece is)) l.its;
        })) c.1,
  )
  cause_extended why c = tt
