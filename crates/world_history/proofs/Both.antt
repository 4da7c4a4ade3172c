-- Two things that are kept along runs are kept together.
use Rattle.std.proofs.Common.{ℕ, List}
use Rattle.volume_history.specs.Chronicles.{ChronicleEntry}
use Rattle.world_acts.specs.Acts.{World}
use Rattle.world_history.proofs.Acts.{KeepsAlso}

pub keeps_both : {start : ℕ} {P Q : ℕ → World → List ChronicleEntry → Type 0} {A B : World → List ChronicleEntry → Type 0}
    → KeepsAlso start P A
    → KeepsAlso start Q B
    → KeepsAlso start (λ line w es. P line w es × Q line w es) (λ w es. A w es × B w es)
keeps_both x y = record {
  goes =
      λ a is o t may ordered h. (x.goes a is o t may ordered h.0, y.goes a is o t may ordered h.1);
  readies_line =
      λ line a is o t may ordered h. (x.readies_line line a is o t may ordered h.0, y.readies_line line a is o t may ordered h.1);
  begins =
      λ line opened barrier is o t ordered h. (
        x.begins line opened barrier is o t ordered h.0,
        y.begins line opened barrier is o t ordered h.1,
      );
  prepared = λ line o t awaits h. (x.prepared line o t awaits h.0, y.prepared line o t awaits h.1);
  ends =
      λ piece done now whose o t may run ordered h. (
        x.ends piece done now whose o t may run ordered h.0,
        y.ends piece done now whose o t may run ordered h.1,
      );
  grows = λ o more h. (x.grows o more h.0, y.grows o more h.1);
  readies = λ now o may h. (x.readies now o may h.0, y.readies now o may h.1);
}
