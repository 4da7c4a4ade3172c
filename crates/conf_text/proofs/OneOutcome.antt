-- A text has one list of tokens, or one cause, at most.
use Rattle.std.proofs.Common.{◌≡◌, false, List, Result, Ok, Err, refl, subst}
use Rattle.std.specs.Prelude.{◌≢◌, ℕ}
use Rattle.conf_text.specs.declared.refusal.ConfRefusal.{ConfRefusal}
use Rattle.conf_text.specs.declared.refusal.ConfRefusal.TheVariants.{NoMemory}
use Rattle.conf_text.specs.declared.token.Token.{Token}
use Rattle.conf_text.specs.Scan.{Between, scan, IsRefused}
use Rattle.conf_text.specs.Tokens.{IsTokensOf, IsTokenCause, StopsAfterTokens}
use Rattle.conf_text.proofs.TokensShown.{Shows, shown}
use Rattle.conf_text.proofs.TokensTaken.{are_taken, stops_taken}

cause_stops : (text : List ℕ) (e : ConfRefusal) → e ≢ NoMemory → IsTokenCause text e → StopsAfterTokens 0 text e
cause_stops text NoMemory other h = absurd (other refl)
cause_stops text _ other h = h

ok_not_err : {A E : Type 0} (r : Result A E) (x : A) (e : E) → r ≡ Ok x → r ≡ Err e → ⊥
ok_not_err r x e p q = cc

same_ok : {A E : Type 0} (r : Result A E) (x y : A) → r ≡ Ok x → r ≡ Ok y → x ≡ y
same_ok r x y p q = cc

same_err : {A E : Type 0} (r : Result A E) (x y : E) → r ≡ Err x → r ≡ Err y → x ≡ y
same_err r x y p q = cc

pub same_tokens : (text : List ℕ) (a b : List Token) → IsTokensOf text a → IsTokensOf text b → a ≡ b
same_tokens text a b h k =
    same_ok (scan (Between false) 0 text) a b (are_taken 0 text a h) (are_taken 0 text b k)

pub not_both : (text : List ℕ) (tokens : List Token) (e : ConfRefusal) → e ≢ NoMemory → IsTokensOf text tokens → ¬ IsTokenCause text e
not_both text tokens e other h =
    λ cause. ok_not_err (scan (Between false) 0 text) tokens e (are_taken 0 text tokens h)
    (stops_taken 0 text e (cause_stops text e other cause))

pub same_cause : (text : List ℕ) (a b : ConfRefusal) → a ≢ NoMemory → b ≢ NoMemory → IsTokenCause text a → IsTokenCause text b → a ≡ b
same_cause text a b m n h k =
    same_err (scan (Between false) 0 text) a b (stops_taken 0 text a (cause_stops text a m h))
    (stops_taken 0 text b (cause_stops text b n k))

-- what taking gives
pub taken_tokens : (text : List ℕ) (tokens : List Token) → scan (Between false) 0 text ≡ Ok tokens → IsTokensOf text tokens
taken_tokens text tokens e = subst (Shows 0 text) e (shown text)

pub taken_cause : (text : List ℕ) (e : ConfRefusal) → IsRefused (scan (Between false) 0 text) e → IsTokenCause text e
taken_cause text NoMemory h = tt
taken_cause text e h = subst (Shows 0 text) h (shown text)
