-- All that the repair and the line write was submitted.
use Rattle.std.proofs.Common.{◌≡◌, ◌≤◌, ℕ, Bool, true, List, ◌++◌, length, take, refl, sym, ap, ◌∙◌, arith}
use Rattle.std.specs.Prelude.{flat_map}
use Rattle.std.proofs.lemmas.List.{take_all}
use Rattle.std.proofs.lemmas.List.Concat.{flat_map-append}
use Rattle.disk_batch.proofs.Carrying.{writes_of_nothing}
use Rattle.disk_batch.specs.InTurn.{Put, WritesInTurn}
use Rattle.disk_model.proofs.StepsSince.{steps_joined, writes_submitted-append}
use Rattle.disk_model.specs.Since.{writes_submitted}
use Rattle.disk_model.specs.Steps.{Step, Record, steps_on}
use Rattle.line_history.proofs.Images.{all_repairs, all_zeros, begun_zeros}
use Rattle.line_history.specs.Histories.{HasSubmittedAll, commits_in, making}
use Rattle.line_history.specs.LineRun.{Given, RunsLine, Stage, batches_in, clears_in, is_repaired, is_zeroed, repairs_in, zeros_in}

-- all that is written by these batches
abbrev pub all_writes : List (List Put) → List Put
all_writes batches = flat_map (λ (batch : List Put). batch) batches

-- where all of them were submitted
pub submitted : (old new : Record) (batches : List (List Put)) (well : Bool) (w : WritesInTurn old batches well new)
    → length batches ≤ w.submitted → writes_submitted w.since ≡ all_writes batches
submitted old new batches well w le = w.writes ∙ ap all_writes (take_all w.submitted batches le)

-- those before them, and the first of these, as far as they were
pub both_begun : (old mid new : Record) (first more : List (List Put)) (well : Bool) (a : WritesInTurn old first true mid)
    (b : WritesInTurn mid more well new) → writes_submitted (b.since ++ a.since) ≡ all_writes (first ++ take b.submitted more)
both_begun old mid new first more well a b =
    writes_submitted-append b.since a.since
    ∙ ap (λ (l : List Put). l ++ writes_submitted b.since) (submitted old mid first true a (let all = a.whole refl in omega (arith, all)))
    ∙ ap (λ (l : List Put). all_writes first ++ l) b.writes
    ∙ sym (flat_map-append _ first (take b.submitted more))

-- all of both
pub both_submitted : (old mid new : Record) (first more : List (List Put)) (well : Bool) (a : WritesInTurn old first true mid)
    (b : WritesInTurn mid more well new) → length more ≤ b.submitted → writes_submitted (b.since ++ a.since) ≡ all_writes (first ++ more)
both_submitted old mid new first more well a b le =
    both_begun old mid new first more well a b ∙ ap (λ (l : List (List Put)). all_writes (first ++ l)) (take_all b.submitted more le)

module _ (g : Given) (stage : Stage) (start ended : Record) (r : RunsLine g stage start ended) (repaired : is_repaired stage ≡ true)
    (zeroed : is_zeroed stage ≡ true) where
  abbrev repairs : WritesInTurn r.opened (repairs_in g) true start
  repairs = all_repairs g stage start ended r repaired

  abbrev zeros : WritesInTurn start (zeros_in g) true r.zeroed
  zeros = all_zeros g stage start ended r repaired zeroed

  -- the steps until the zeros are written
  abbrev before : List Step
  before = zeros.since ++ repairs.since ++ r.since

  before_are : r.zeroed ≡ steps_on before g.handed
  before_are =
      steps_joined g.handed r.opened r.zeroed r.since (zeros.since ++ repairs.since) r.opening
      (steps_joined r.opened start r.zeroed repairs.since zeros.since repairs.steps zeros.steps)

  before_write : writes_submitted before ≡ all_writes (repairs_in g ++ zeros_in g)
  before_write =
      writes_submitted-append (zeros.since ++ repairs.since) r.since
      ∙ ap (λ (l : List Put). l ++ writes_submitted (zeros.since ++ repairs.since)) (writes_of_nothing r.since r.nothing)
      ∙ both_submitted r.opened start r.zeroed (repairs_in g) (zeros_in g) true repairs zeros
      (let all = zeros.whole refl in omega (arith, all))

  -- and then the batches that make the line
  pub all_submitted : (last : Record) (since : List Step) (batches : List (List Put)) (count : ℕ) → last ≡ steps_on since r.zeroed
      → writes_submitted since ≡ all_writes batches → 1 ≤ count → making (commits_in g) count (batches_in g) (clears_in g) ≡ batches
      → HasSubmittedAll g.handed g.base g.sizes g.names g.clock g.line last
  all_submitted last since batches count are writes some make = record {
    found = g.found;
    scan = r.given.scan;
    since = since ++ before;
    steps = steps_joined g.handed r.zeroed last before since before_are are;
    given = g.given;
    backup = g.backup;
    given_back = r.given_back (begun_zeros stage zeroed);
    takes = r.takes (begun_zeros stage zeroed);
    count = count;
    some = some;
    writes = writes_submitted-append since before
        ∙ ap (λ (l : List Put). l ++ writes_submitted since) before_write
        ∙ ap (λ (l : List Put). all_writes (repairs_in g ++ zeros_in g) ++ l) writes
        ∙ sym (flat_map-append _ (repairs_in g ++ zeros_in g) batches)
        ∙ ap (λ (l : List (List Put)). all_writes (repairs_in g ++ zeros_in g ++ l)) (sym make);
  }
