-- What the outcome of the parse says.
use Rattle.std.proofs.Common.{◌≡◌, ◌≢◌, true, false, List, [], Result, Ok, Err, IfOk, IfErr, OnOk, sym, subst, inl, inr, ◌⊎◌}
use Rattle.std.proofs.lemmas.Bool.{cases_Bool}
use Rattle.clap.specs.Faults.{fault_of}
use Rattle.clap.specs.Kinds.{FailsBy, HasKind, IsAmong}
use Rattle.clap.specs.Matches.{found_of}
use Rattle.clap.specs.Simple.{matches_of}
use Rattle.clap.specs.Values.{kind_of}
use Rattle.clap.specs.Walk.{rows_of}
use Rattle.clap.specs.declared.error.Error.{Error}
use Rattle.clap.specs.declared.error.kind.ErrorKind.TheVariants as kind
use Rattle.clap.specs.declared.parser.matches.ArgMatches.{ArgMatches}
use Rattle.command_table.specs.declared.table.OptionRow.{OptionRow}
use Rattle.command_table.specs.Options.{Word}
use Rattle.command_table.specs.Words.{is_complete}
use Rattle.lvm_words.specs.Parser.{Lists, app_for, split_of}
use Rattle.lvm_words.proofs.Link.{Parsed}

module _ (options : List OptionRow) (words : List Word) (p : Parsed options words) where
  complete_where_none : fault_of (app_for options) words ≡ [] → is_complete (split_of options words) ≡ true
  complete_where_none none = go (cases_Bool (is_complete (split_of options words)))
    where
      go : (is_complete (split_of options words) ≡ true) ⊎ (is_complete (split_of options words) ≡ false)
          → is_complete (split_of options words) ≡ true
      go (inl e) = e
      go (inr e) = absurd (p.fails e none)

  pub complete_on_ok : {T : Type 0} (r : Result T Error) → FailsBy (fault_of (app_for options) words) r
      → OnOk r (is_complete (split_of options words) ≡ true)
  complete_on_ok (Ok m) none = complete_where_none none
  complete_on_ok (Err e) has = tt

  pub lists_on_ok : (r : Result ArgMatches Error) → FailsBy (fault_of (app_for options) words) r
      → IfOk r (λ m. rows_of (found_of m) ≡ matches_of (app_for options) words)
      → IfOk r (λ m. Lists options (split_of options words) (rows_of (found_of m)))
  lists_on_ok (Ok m) none is = subst (Lists options (split_of options words)) (sym is) (p.lists (complete_where_none none))
  lists_on_ok (Err e) has is = tt

  pub lacks_on_err : {T : Type 0} (r : Result T Error) → FailsBy (fault_of (app_for options) words) r
      → IfErr r (λ e. kind_of e ≢ kind.OutOfMemory → is_complete (split_of options words) ≡ false)
  lacks_on_err (Ok m) none = tt
  lacks_on_err (Err e) has = λ other. go other has (cases_Bool (is_complete (split_of options words)))
    where
      go : kind_of e ≢ kind.OutOfMemory → HasKind (fault_of (app_for options) words) e
          → (is_complete (split_of options words) ≡ true) ⊎ (is_complete (split_of options words) ≡ false)
          → is_complete (split_of options words) ≡ false
      go other kinds (inr no_value) = no_value
      go other (inl memory) (inl yes_all) = absurd (other memory)
      go other (inr among) (inl yes_all) = absurd (subst (IsAmong (kind_of e)) (p.passes yes_all) among)
