-- Which calls of a library or a sink in memory fail. Their calls are numbered from 1, those that fail included.
use Rattle.std.specs.Prelude.{ℕ, List, [], ◌∷◌, ◌++◌, refl}
use Rattle.std.specs.Coded.{Coded, code_by, coded×, coded_list, coded_ℕ}
use Rattle.std.specs.List.{Contains}
use Rattle.fer_outside.specs.Causes.{one_more}

-- the numbers of the calls that are to fail, how many calls were made, and how many of them failed
pub record Calls : Type 0 where
  pub failing : List ℕ
  pub made : ℕ
  pub failed : ℕ

-- no call was made, and none is to fail
abbrev pub no_calls : Calls
no_calls = record { failing = []; made = 0; failed = 0 }

-- the call that comes next is to fail: its number is in the list
abbrev pub IsToFail : Calls → Type 0
IsToFail calls = Contains calls.failing (one_more calls.made)

-- the call of this number is to fail too
abbrev pub with_failing : Calls → ℕ → Calls
with_failing calls call = record calls { failing = calls.failing ++ call ∷ [] }

-- one more call was made, and didn't fail
abbrev pub after_success : Calls → Calls
after_success calls = record calls { made = one_more calls.made }

-- one more call was made, and failed
abbrev pub after_failure : Calls → Calls
after_failure calls = record calls { made = one_more calls.made; failed = one_more calls.failed }

-- calls are stored as the tuple of their fields
abbrev pub calls_code : Coded Calls
calls_code =
    code_by (List ℕ × (ℕ × ℕ)) (coded× (coded_list coded_ℕ) (coded× coded_ℕ coded_ℕ))
    (λ c. (c.failing, (c.made, c.failed))) (λ t. record { failing = t.0; made = t.1.0; failed = t.1.1 }) (λ _. refl)
