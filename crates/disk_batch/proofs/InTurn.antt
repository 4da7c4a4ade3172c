-- Batches that are carried out by one call and then by another.
use Rattle.std.proofs.Common.{◌≡◌, ◌≤◌, ◌<◌, ℕ, suc, ◌+◌, cond, Bool, true, false, List, [], ◌∷◌, ◌++◌, drop, length, take, flat_map}
use Rattle.std.proofs.Common.{Option, inl, ⊎_elim, refl, sym, ap, subst, ◌∙◌, arith, length-append}
use Rattle.std.proofs.Math.Seq.{take-append-add, take-length}
use Rattle.std.proofs.lemmas.List.{take-append-drop, take-append-le, take_all}
use Rattle.std.proofs.lemmas.List.Concat.{flat_map-append}
use Rattle.std.proofs.lemmas.Bool.{cases_lt}
use Rattle.sector_base.specs.declared.spans.Span.{Span}
use Rattle.sector_base.specs.Spans.{covers}
use Rattle.disk_model.specs.Steps.{Image, IsSame, Record, now_after, steps_on, value_at}
use Rattle.disk_model.specs.Moments.{EveryImageSince}
use Rattle.disk_model.specs.Durability.{IsBase}
use Rattle.disk_model.specs.Since.{spans_read, writes_submitted}
use Rattle.disk_model.proofs.EveryMoment.{since_join, since_now, since_weaken}
use Rattle.disk_model.proofs.StepsSince.{between_both, between_same, between_weaker, steps_grow, steps_joined, spans_read-append}
use Rattle.disk_model.proofs.StepsSince.{writes_submitted-append}
use Rattle.disk_batch.specs.InTurn.{HasFirstBatches, IsEither, Put, WritesInTurn, WritesInTurnTold, with_batches, with_writes, written_on}

-- the same writes on images that have the same sectors
written_same : (put : Put) (a b : Image) → IsSame a b → IsSame (written_on put a) (written_on put b)
written_same put a b same pv sector = ap (λ (v : List ℕ). cond (covers put.0 pv sector) (value_at put.0 put.1 sector) v) (same pv sector)

pub writes_same : (puts : List Put) (a b : Image) → IsSame a b → IsSame (with_writes puts a) (with_writes puts b)
writes_same [] a b same = same
writes_same (put ∷ puts) a b same = writes_same puts (written_on put a) (written_on put b) (written_same put a b same)

pub batches_same : (batches : List (List Put)) (a b : Image) → IsSame a b → IsSame (with_batches batches a) (with_batches batches b)
batches_same [] a b same = same
batches_same (batch ∷ batches) a b same = batches_same batches (with_writes batch a) (with_writes batch b) (writes_same batch a b same)

-- some batches and then more of them
pub batches_append : (first more : List (List Put)) (base : Image)
    → with_batches (first ++ more) base ≡ with_batches more (with_batches first base)
batches_append [] more base = refl
batches_append (batch ∷ first) more base = batches_append first more (with_writes batch base)

-- all that is written by these batches
abbrev all_writes : List (List Put) → List Put
all_writes batches = flat_map (λ (batch : List Put). batch) batches

-- images between the same two
either_like : (a b a' b' image : Image) → a ≡ a' → b ≡ b' → IsEither a b image → IsEither a' b' image
either_like a b a' b' image p q h = subst (λ (i : Image). IsEither i b' image) p (subst (λ (i : Image). IsEither a i image) q h)

-- the first so many of some batches are those of a longer list
pub first_of_more : (first more : List (List Put)) (base image : Image) → HasFirstBatches first base image
    → HasFirstBatches (first ++ more) base image
first_of_more first more base image h = record {
  count = h.count;
  among = omega (arith, h.among, length-append first more);
  either = ⊎_elim within at_end (cases_lt h.count (length first));
}
  where
    taken : (n : ℕ) → n ≤ length first → with_batches (take n first) base ≡ with_batches (take n (first ++ more)) base
    taken n le = ap (λ (l : List (List Put)). with_batches l base) (sym (take-append-le n first more le))

    within : h.count < length first → IsEither (with_batches (take h.count (first ++ more)) base)
        (with_batches (take (suc h.count) (first ++ more)) base) image
    within lt = either_like _ _ _ _ image (taken h.count h.among) (taken (suc h.count) (omega (arith, lt))) h.either

    -- all of the first are written, and none of the others
    at_end : length first ≤ h.count → IsEither (with_batches (take h.count (first ++ more)) base)
        (with_batches (take (suc h.count) (first ++ more)) base) image
    at_end le pv sector =
        let all : take (suc h.count) first ≡ take h.count first =
        take_all (suc h.count) first (omega (arith, le)) ∙ sym (take_all h.count first le) in
        let same : image pv sector ≡ with_batches (take h.count first) base pv sector =
        ⊎_elim (λ e. e) (λ e. e ∙ ap (λ (l : List (List Put)). with_batches l base pv sector) all) (h.either pv sector) in
        inl (same ∙ ap (λ (i : Image). i pv sector) (taken h.count h.among))

-- all of some batches and the first so many of more
pub first_after_all : (first more : List (List Put)) (base image : Image) → HasFirstBatches more (with_batches first base) image
    → HasFirstBatches (first ++ more) base image
first_after_all first more base image h = record {
  count = length first + h.count;
  among = omega (arith, h.among, length-append first more);
  either = either_like _ _ _ _ image (taken h.count) (taken (suc h.count) ∙ later) h.either;
}
  where
    taken : (n : ℕ) → with_batches (take n more) (with_batches first base) ≡ with_batches (take (length first + n) (first ++ more)) base
    taken n =
        sym (batches_append first (take n more) base)
        ∙ ap (λ (l : List (List Put)). with_batches l base) (sym (take-append-add first more n))

    later : with_batches (take (length first + suc h.count) (first ++ more)) base
        ≡ with_batches (take (suc (length first + h.count)) (first ++ more)) base
    later =
        let e : length first + suc h.count ≡ suc (length first + h.count) = omega arith in
        ap (λ (n : ℕ). with_batches (take n (first ++ more)) base) e

-- nothing was written
pub first_none : (batches : List (List Put)) (base image : Image) → IsSame image base → HasFirstBatches batches base image
first_none batches base image same = record { count = 0; among = omega arith; either = λ pv sector. inl (same pv sector) }

-- some batches are carried out, and then more
module _ (old mid new : Record) (first more : List (List Put)) (well : Bool) (a : WritesInTurn old first true mid)
    (b : WritesInTurn mid more well new) where
  -- all of the first were submitted, and then so many of the others
  all_first : take a.submitted first ≡ first
  all_first = ap (λ (n : ℕ). take n first) (a.whole refl) ∙ take-length first

  both_taken : take (length first + b.submitted) (first ++ more) ≡ first ++ take b.submitted more
  both_taken = take-append-add first more b.submitted

  abbrev Along : Image → Image → Type 0
  Along base = HasFirstBatches (first ++ take b.submitted more) base

  both_images : (base : Image) → IsBase old base
      → EveryImageSince (length old.steps) new (HasFirstBatches (take (length first + b.submitted) (first ++ more)) base)
  both_images base is =
      let early : EveryImageSince (length old.steps) mid (Along base) =
      since_weaken mid (length old.steps) (length old.steps) (HasFirstBatches (take a.submitted first) base) (Along base) (omega arith)
      (λ image h. first_of_more first (take b.submitted more) base image
      (subst (λ (l : List (List Put)). HasFirstBatches l base image) all_first h)) (a.every_image base is)
      in
      let late : EveryImageSince (length mid.steps) new (Along base) =
      since_weaken new (length mid.steps) (length mid.steps) (HasFirstBatches (take b.submitted more) (with_batches first base))
      (Along base) (omega arith) (first_after_all first (take b.submitted more) base)
      (b.every_image (with_batches first base) (a.lasting refl base is))
      in
      let late' : EveryImageSince (length mid.steps) (steps_on b.since mid) (Along base) =
      subst (λ (t : Record). EveryImageSince (length mid.steps) t (Along base)) b.steps late in
      subst (λ (l : List (List Put)). EveryImageSince (length old.steps) new (HasFirstBatches l base)) (sym both_taken)
      (subst (λ (t : Record). EveryImageSince (length old.steps) t (Along base)) (sym b.steps)
      (since_join mid.opened mid.steps b.since (length old.steps) (Along base) (steps_grow old mid a.since a.steps) early late'))

  both_writes : writes_submitted (b.since ++ a.since) ≡ all_writes (take (length first + b.submitted) (first ++ more))
  both_writes =
      writes_submitted-append b.since a.since
      ∙ ap (λ (l : List Put). l ++ writes_submitted b.since) (a.writes ∙ ap all_writes all_first)
      ∙ ap (λ (l : List Put). all_writes first ++ l) b.writes
      ∙ sym (ap all_writes both_taken ∙ flat_map-append _ first (take b.submitted more))

  both_unread : spans_read (b.since ++ a.since) ≡ []
  both_unread = spans_read-append b.since a.since ∙ ap (λ (l : List Span). l ++ spans_read b.since) a.unread ∙ b.unread

  pub turns_both : WritesInTurn old (first ++ more) well new
  turns_both = record {
    since = b.since ++ a.since;
    steps = steps_joined old mid new a.since b.since a.steps b.steps;
    submitted = length first + b.submitted;
    among = omega (arith, b.among, length-append first more);
    writes = both_writes;
    unread = both_unread;
    whole = λ went. omega (arith, b.whole went, length-append first more);
    every_image = both_images;
    lasting = λ went base is.
        subst (λ (i : Image). IsBase new i) (sym (batches_append first more base))
        (b.lasting went (with_batches first base) (a.lasting refl base is));
    now = λ went pv sector.
        b.now went pv sector
        ∙ batches_same more (now_after mid.opened mid.steps) (with_batches first (now_after old.opened old.steps)) (a.now refl) pv sector
        ∙ ap (λ (i : Image). i pv sector) (sym (batches_append first more (now_after old.opened old.steps)));
  }

-- some batches failed, and no more were begun
pub turns_failed : (old mid : Record) (first more : List (List Put)) → WritesInTurn old first false mid
    → WritesInTurn old (first ++ more) false mid
turns_failed old mid first more a = record {
  since = a.since;
  steps = a.steps;
  submitted = a.submitted;
  among = omega (arith, a.among, length-append first more);
  writes = a.writes ∙ ap all_writes (sym (take-append-le a.submitted first more a.among));
  unread = a.unread;
  whole = λ went. absurd (let h : false ≡ true = went in cc);
  every_image = λ base is.
      subst (λ (l : List (List Put)). EveryImageSince (length old.steps) mid (HasFirstBatches l base))
      (sym (take-append-le a.submitted first more a.among)) (a.every_image base is);
  lasting = λ went. absurd (let h : false ≡ true = went in cc);
  now = λ went. absurd (let h : false ≡ true = went in cc);
}

-- no batch
turns_none : (well : Bool) (told : Record) → WritesInTurn told [] well told
turns_none well told = record {
  since = [];
  steps = refl;
  submitted = 0;
  among = omega arith;
  writes = refl;
  unread = refl;
  whole = λ went. refl;
  every_image = λ base is.
      since_now told (HasFirstBatches [] base)
      (λ image im. first_none [] base image (λ pv sector. (is pv sector).each (im pv sector).0 (image pv sector) (im pv sector).1));
  lasting = λ went base is. is;
  now = λ went pv sector. refl;
}

-- what an image has of the batches that were submitted it has of all
pub of_submitted : (n : ℕ) (batches : List (List Put)) (base image : Image) → HasFirstBatches (take n batches) base image
    → HasFirstBatches batches base image
of_submitted n batches base image h =
    subst (λ (l : List (List Put)). HasFirstBatches l base image) (take-append-drop n batches)
    (first_of_more (take n batches) (drop n batches) base image h)

-- the same where the shelf tells its record
pub turns_told_both : (s0 s1 s2 : Option Record) (first more : List (List Put)) (well : Bool) → WritesInTurnTold s0 first true s1
    → WritesInTurnTold s1 more well s2 → WritesInTurnTold s0 (first ++ more) well s2
turns_told_both s0 s1 s2 first more well a b =
    between_both (λ old new. WritesInTurn old first true new) (λ old new. WritesInTurn old more well new)
    (λ old new. WritesInTurn old (first ++ more) well new) s0 s1 s2
    (λ old mid new p q. turns_both old mid new first more well p q) a b

pub turns_told_failed : (s0 s1 : Option Record) (first more : List (List Put)) → WritesInTurnTold s0 first false s1
    → WritesInTurnTold s0 (first ++ more) false s1
turns_told_failed s0 s1 first more a =
    between_weaker (λ old new. WritesInTurn old first false new) (λ old new. WritesInTurn old (first ++ more) false new) s0 s1
    (λ old new p. turns_failed old new first more p) a

pub turns_told_none : (s0 s1 : Option Record) (well : Bool) → s1 ≡ s0 → WritesInTurnTold s0 [] well s1
turns_told_none s0 s1 well same = between_same (λ old new. WritesInTurn old [] well new) s0 s1 same (turns_none well)
