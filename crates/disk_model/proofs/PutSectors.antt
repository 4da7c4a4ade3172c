-- Sectors that are put by one call and then by another.
use Rattle.std.proofs.Common.{◌≡◌, ℕ, ◌+◌, ◌==◌, ◌&&◌, cond, Bool, true, false, List, [], ◌∷◌, ◌++◌, length, map, take, Option, refl, sym}
use Rattle.std.proofs.Common.{ap, subst, ◌∙◌, arith, length-append}
use Rattle.std.proofs.Math.Seq.{take-append-add, take-length}
use Rattle.std.proofs.lemmas.List.{map-append, take-append-le}
use Rattle.disk_model.specs.Steps.{Image, IsSame, Record, now_after, steps_on}
use Rattle.disk_model.specs.Moments.{EveryImageSince}
use Rattle.disk_model.specs.Durability.{IsBase}
use Rattle.sector_base.specs.declared.spans.Span.{Span}
use Rattle.disk_model.specs.Since.{writes_submitted}
use Rattle.disk_model.proofs.EveryMoment.{since_join, since_now, since_weaken}
use Rattle.disk_model.proofs.StepsSince.{between_both, between_same, between_weaker, steps_grow, steps_joined, writes_submitted-append}
use Rattle.disk_model.specs.Puts.{HasFirst, Put, PutsAll, PutsAllTold, with_puts, put_on, write_of_put}

abbrev Write : Type 0
Write = Span × List (List ℕ)

-- the same puts on images that have the same sectors
put_same : (put : Put) (a b : Image) → IsSame a b → IsSame (put_on put a) (put_on put b)
put_same put a b same pv sector = ap (λ (v : List ℕ). cond ((pv == put.pv) && (sector == put.sector)) put.value v) (same pv sector)

pub patched_same : (puts : List Put) (a b : Image) → IsSame a b → IsSame (with_puts puts a) (with_puts puts b)
patched_same [] a b same = same
patched_same (put ∷ puts) a b same = patched_same puts (put_on put a) (put_on put b) (put_same put a b same)

-- some puts and then more of them
pub patched_append : (first more : List Put) (base : Image) → with_puts (first ++ more) base ≡ with_puts more (with_puts first base)
patched_append [] more base = refl
patched_append (put ∷ first) more base = patched_append first more (put_on put base)

-- the first so many of some puts are those of a longer list
pub first_of_more : (first more : List Put) (base image : Image) → HasFirst first base image → HasFirst (first ++ more) base image
first_of_more first more base image h = record {
  count = h.count;
  among = omega (arith, h.among, length-append first more);
  same = subst (λ (l : List Put). IsSame image (with_puts l base)) (sym (take-append-le h.count first more h.among)) h.same;
}

-- all of some puts and the first so many of more
pub first_after_all : (first more : List Put) (base image : Image) → HasFirst more (with_puts first base) image
    → HasFirst (first ++ more) base image
first_after_all first more base image h =
    let puts : with_puts (take h.count more) (with_puts first base) ≡ with_puts (take (length first + h.count) (first ++ more)) base =
    sym (patched_append first (take h.count more) base)
    ∙ ap (λ (l : List Put). with_puts l base) (sym (take-append-add first more h.count)) in
    record {
      count = length first + h.count;
      among = omega (arith, h.among, length-append first more);
      same = subst (λ (i : Image). IsSame image i) puts h.same;
    }

-- nothing was put
pub first_none : (puts : List Put) (base image : Image) → IsSame image base → HasFirst puts base image
first_none puts base image same = record { count = 0; among = omega arith; same = same }

-- a call that puts some sectors is followed by one that puts more
module _ (old mid new : Record) (first more : List Put) (well : Bool) (a : PutsAll old first true mid) (b : PutsAll mid more well new) where
  later : new ≡ steps_on b.since mid
  later = b.steps

  both_images : (base : Image) → IsBase old base → EveryImageSince (length old.steps) new (HasFirst (first ++ more) base)
  both_images base is =
      let early : EveryImageSince (length old.steps) mid (HasFirst (first ++ more) base) =
      since_weaken mid (length old.steps) (length old.steps) (HasFirst first base) (HasFirst (first ++ more) base) (omega arith)
      (first_of_more first more base) (a.every_image base is) in
      let late : EveryImageSince (length mid.steps) new (HasFirst (first ++ more) base) =
      since_weaken new (length mid.steps) (length mid.steps) (HasFirst more (with_puts first base)) (HasFirst (first ++ more) base)
      (omega arith) (first_after_all first more base)
      (b.every_image (with_puts first base) (a.lasting refl base is)) in
      let late' = subst (λ (t : Record). EveryImageSince (length mid.steps) t (HasFirst (first ++ more) base)) later late in
      subst (λ (t : Record). EveryImageSince (length old.steps) t (HasFirst (first ++ more) base)) (sym later)
      (since_join mid.opened mid.steps b.since (length old.steps) (HasFirst (first ++ more) base) (steps_grow old mid a.since a.steps) early
      late')

  -- all of the first were submitted, and then so many of the others
  both_writes : writes_submitted (b.since ++ a.since) ≡ map write_of_put (take (length first + b.submitted) (first ++ more))
  both_writes =
      let all : take a.submitted first ≡ first = ap (λ (n : ℕ). take n first) (a.whole refl) ∙ take-length first in
      let puts =
      ap (λ (l : List Put). map write_of_put l) (take-append-add first more b.submitted)
      ∙ map-append write_of_put first (take b.submitted more) in
      writes_submitted-append b.since a.since ∙ ap (λ (l : List Write). l ++ writes_submitted b.since)
      (a.writes ∙ ap (λ (l : List Put). map write_of_put l) all)
      ∙ ap (λ (l : List Write). map write_of_put first ++ l) b.writes ∙ sym puts

  pub puts_both : PutsAll old (first ++ more) well new
  puts_both = record {
    since = b.since ++ a.since;
    steps = steps_joined old mid new a.since b.since a.steps b.steps;
    submitted = length first + b.submitted;
    among = omega (arith, b.among, length-append first more);
    writes = both_writes;
    whole = λ went. omega (arith, b.whole went, length-append first more);
    every_image = both_images;
    lasting = λ went base is.
        subst (λ (i : Image). IsBase new i) (sym (patched_append first more base))
        (b.lasting went (with_puts first base) (a.lasting refl base is));
    now = λ went pv sector.
        b.now went pv sector
        ∙ patched_same more (now_after mid.opened mid.steps) (with_puts first (now_after old.opened old.steps)) (a.now refl) pv sector
        ∙ ap (λ (i : Image). i pv sector) (sym (patched_append first more (now_after old.opened old.steps)));
  }

-- a call that puts sectors failed, and no more were put
pub puts_failed : (old mid : Record) (first more : List Put) → PutsAll old first false mid → PutsAll old (first ++ more) false mid
puts_failed old mid first more a = record {
  since = a.since;
  steps = a.steps;
  submitted = a.submitted;
  among = omega (arith, a.among, length-append first more);
  writes = a.writes ∙ ap (λ (l : List Put). map write_of_put l) (sym (take-append-le a.submitted first more a.among));
  whole = λ went. absurd (let h : false ≡ true = went in cc);
  every_image = λ base is.
      since_weaken mid (length old.steps) (length old.steps) (HasFirst first base) (HasFirst (first ++ more) base) (omega arith)
      (first_of_more first more base) (a.every_image base is);
  lasting = λ went. absurd (let h : false ≡ true = went in cc);
  now = λ went. absurd (let h : false ≡ true = went in cc);
}

-- no sector is put
puts_none : (well : Bool) (told : Record) → PutsAll told [] well told
puts_none well told = record {
  since = [];
  steps = refl;
  submitted = 0;
  among = omega arith;
  writes = refl;
  whole = λ went. refl;
  every_image =
      λ base is. since_now told (HasFirst [] base)
      (λ image im. first_none [] base image (λ pv sector. (is pv sector).each (im pv sector).0 (image pv sector) (im pv sector).1));
  lasting = λ went base is. is;
  now = λ went pv sector. refl;
}

-- the two where the shelf tells its record
pub puts_told_both : (s0 s1 s2 : Option Record) (first more : List Put) (well : Bool) → PutsAllTold s0 first true s1
    → PutsAllTold s1 more well s2 → PutsAllTold s0 (first ++ more) well s2
puts_told_both s0 s1 s2 first more well a b =
    between_both (λ old new. PutsAll old first true new) (λ old new. PutsAll old more well new)
    (λ old new. PutsAll old (first ++ more) well new) s0 s1 s2
    (λ old mid new p q. puts_both old mid new first more well p q) a b

pub puts_told_failed : (s0 s1 : Option Record) (first more : List Put) → PutsAllTold s0 first false s1
    → PutsAllTold s0 (first ++ more) false s1
puts_told_failed s0 s1 first more a =
    between_weaker (λ old new. PutsAll old first false new) (λ old new. PutsAll old (first ++ more) false new) s0 s1
    (λ old new p. puts_failed old new first more p) a

-- nothing was put
pub puts_told_none : (s0 s1 : Option Record) (well : Bool) → s1 ≡ s0 → PutsAllTold s0 [] well s1
puts_told_none s0 s1 well same = between_same (λ old new. PutsAll old [] well new) s0 s1 same (puts_none well)
