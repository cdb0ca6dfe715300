-- Errors are mapped alone. Assumes nothing.
use Rattle.std.proofs.Common.{◌≡◌, Result, Ok, Err, MatchResult, subst}
use Rattle.std.specs.Result.{IsErrAnd}

-- What is there after the errors of a result are mapped was there before.
pub ok_before : {A E D : Type 0} (r : Result A E) (s : Result A D) (P : E → D → Type 0) (x : A)
    → MatchResult r (λ y. s ≡ Ok y) (λ e. IsErrAnd s (P e)) → s ≡ Ok x → r ≡ Ok x
ok_before (Ok y) s P x h e = cc
ok_before (Err b) s P x h e = absurd (subst (λ t. IsErrAnd t (P b)) e h)
